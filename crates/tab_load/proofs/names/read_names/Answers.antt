use Rattle.std.proofs.Common.{◌≡◌, ◌<◌, [], drop, None, arith, inl, inr}
use Rattle.std.proofs.lemmas.Result.{err_from_is_err_and}
use Rattle.tab_load.specs.Names.{next_fault}
use Rattle.tab_load.proofs.NameLemmas.{first-fine}
use Rattle.tab_load.proofs.RefusalLemmas.{at_none-weaker}
use Rattle.tab_load.proofs.names.read_names.Goals as goal

pub returns-in_err-put_name-clause-first : goal.returns-in_err-put_name-clause-first
returns-in_err-put_name-clause-first g c =
    let p = err_from_is_err_and c.from_residual.result c.from_residual.ensures.1 in
    rw (p.1, p.2)
    (at_none-weaker _ (0 < c.args.count → next_fault c.args.bound c.args.entries.now [] (drop c.args.begin c.args.octets.now) ≡ None) (λ next some. first-fine c.args.bound c.args.entries.now c.args.octets.now c.args.begin c.loop.counter c.loop.names.end _ _ c.loop.invariant c.requires.inside (inr next)) _ c.in_err-put_name.ensures.next)

pub returns-clause-first : goal.returns-clause-first
returns-clause-first g c some =
    first-fine c.args.bound c.args.entries.now c.args.octets.now c.args.begin c.loop.counter c.loop.names.end _ _ c.loop.invariant c.requires.inside (inl (omega (arith, some, c.loop-test.false)))
