use Rattle.std.proofs.Common.{◌<◌, length, map, arith, ap, sym, ◌∙◌}
use Rattle.tab_call.proofs.RoleLemmas.{map-same-at}
use Rattle.tab_call.proofs.calls.are_guards_of.Goals as goal

pub returns-then-not-is_same : goal.returns-then-not-is_same
returns-then-not-is_same g c = (
  λ h. cc,
  λ e.
      let within : c.loop-i.i < length c.as_slice-entries.result.now = omega arith in
      c.if-not-is_same.ensures.1 (map-same-at _ _ _ _ c.loop-i.i _ _ c.loop-i-test.true within (e ∙ ap (map (λ entry. entry.value)) (sym c.as_slice-entries.ensures))),
)
