use Rattle.std.proofs.Common.{refl, is_none}
use Rattle.std.proofs.lemmas.Result.{err_from_is_err_and}
use Rattle.base_list.specs.Named.{place_of}
use Rattle.tab_step.specs.Moves.{name_at}
use Rattle.tab_step.proofs.BindLemmas.{first-filter}
use Rattle.tab_step.proofs.binding.find_all.Goals as goal

pub returns-in_err-find_one-clause-err : goal.returns-in_err-find_one-clause-err
returns-in_err-find_one-clause-err g c =
    let p = err_from_is_err_and c.from_residual.result c.from_residual.ensures.1 in
    rw (p.1, p.2, c.in_err-find_one.ensures.name)
    (first-filter (λ name. is_none (place_of name c.args.entries.now)) (name_at c.args.names.now) c.args.numbers.now c.loop-number.number-index 0 c.loop-number-test.true c.loop-number.invariant.none (rw c.in_err-find_one.ensures.none refl))
