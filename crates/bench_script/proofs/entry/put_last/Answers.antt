use Rattle.std.proofs.Common.{◌≡◌, ◌++◌, ◌-◌, ◌∙◌, List, Some, ap, length, subst, sym}
use Rattle.std.specs.Prelude.{slice_get}
use Rattle.bench_item.specs.declared.entry.Entry.{Entry}
use Rattle.bench_script.specs.Printed.{taken_text}
use Rattle.bench_script.proofs.LogLemmas.{last_is}
use Rattle.bench_script.proofs.entry.put_last.Goals as goal

-- the entry that was kept last
pub returns : goal.returns
returns c before entry is =
    let P : List Entry → Type 0 = λ log. slice_get log (length log - 1) ≡ Some entry in
    let last : P c.log.result.now.entries = subst P (sym (c.log.ensures ∙ is)) (last_is before entry) in
    let kept : Some c.in-Some.entry ≡ slice_get c.log.result.now.entries (length c.log.result.now.entries - 1) = sym c.in-Some.is ∙ c.in_ok-entry.ensures.entry in
    let same : c.in-Some.entry ≡ entry = cc in
    c.in_ok-put_taken.ensures ∙ ap (λ (e : Entry). c.args.out.now.items ++ taken_text c.args.core.now e) same
