use Rattle.std.proofs.Common.{◌≡◌, ◌∙◌, ap, subst, true}
use Rattle.std.specs.Prelude.{IfOk, option_to_list}
use Rattle.bench_spec.specs.Items.{hand}
use Rattle.bench_spec.specs.Refusal.{is_source}
use Rattle.bench_views.specs.Looks.{hand_of}
use Rattle.bench_core.specs.Inside.{settings_in, stored_in}
use Rattle.bench_core.proofs.LookLemmas.{if_ok}
use Rattle.bench_core.proofs.QueueLemmas.{hand-shown}
use Rattle.bench_core.proofs.keeping.Core.hand.Goals as goal

read : (c : goal.After-hand_item) → IfOk c.hand_item.result (λ item. item ≡ hand_of c.args.source (stored_in c.self.inside))
read c =
    let w = c.self.inside in
    if_ok _ (λ item. item ≡ hand_of c.args.source (stored_in w)) c.hand_item.result c.hand_item.ensures
    (λ item is. rw (c.deref.ensures.value, c.deref-2.ensures.value, c.deref-3.ensures.value) at (is (stored_in w)))

pub returns : goal.returns
returns c =
    let w = c.self.inside in
    subst (λ run. IfOk c.hand_item.result (λ item. is_source run.settings run.log c.args.source ≡ true → option_to_list item ≡ hand run.log c.args.source)) c.self.view_is
    (if_ok (λ item. item ≡ hand_of c.args.source (stored_in w))
    (λ item. is_source (settings_in w) w.log.entries c.args.source ≡ true → option_to_list item ≡ hand w.log.entries c.args.source) c.hand_item.result (read c)
    (λ item is there. ap option_to_list is ∙ hand-shown w c.args.source c.self.invariant there))
