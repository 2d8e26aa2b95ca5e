use Rattle.std.proofs.Common.{◌≡◌, ◌∙◌, ◌<◌, List, ap, arith, length, refl, sym}
use Rattle.std.specs.Prelude.{slice_get}
use Rattle.bench_item.specs.declared.entry.Entry.{Entry}
use Rattle.bench_nodes.specs.Printed.{taken_text}
use Rattle.node_logs.proofs.LogLemmas.{is_there, one_more}
use Rattle.node_logs.proofs.text.log_text.Goals as goal
use Rattle.node_logs.proofs.text.log_text.Goals.{in-Some+in_ok-put_taken, in_default}

-- one entry more was put, and there is one
pub places-preserved : goal.places-preserved
places-preserved c =
    let log = c.args.core.now.log in
    let at = c.places.place in
    let found : slice_get log at ≡ c.in_ok-entry.field-0 =
    sym (ap (λ (es : List Entry). slice_get es at) c.log.ensures) ∙ sym c.in_ok-entry.ensures.entry in
    let within : at < length log = omega (arith, c.places-test.true, c.place-place-end.ensures) in
    elim c.match-branch-2.branch [
      | in-Some+in_ok-put_taken w ↦
          rw (w.out-is, w.in_ok-put_taken.ensures, c.places.invariant, one_more (taken_text c.args.core.now) log at w.in-Some.entry (found ∙ w.in-Some.is)) refl
      | in_default w ↦ absurd (is_there log at within (found ∙ w.in_default.is))
    ]
