use Rattle.std.proofs.Common.{◌≡◌, ◌∙◌, ap, subst, true}
use Rattle.std.specs.Prelude.{option_copied, option_to_list}
use Rattle.bench_spec.specs.Items.{hand}
use Rattle.bench_spec.specs.Refusal.{is_source}
use Rattle.bench_views.specs.Looks.{hand_of}
use Rattle.bench_core.specs.Inside.{stored_in}
use Rattle.bench_core.proofs.QueueLemmas.{hand-shown}
use Rattle.bench_core.proofs.keeping.Core.hand_kept.Goals as goal

read : (c : goal.After-hand_kept) → option_copied c.hand_kept.result ≡ hand_of c.args.source (stored_in c.self.inside)
read c = rw (c.deref.ensures.value, c.deref-2.ensures.value, c.deref-3.ensures.value) at (c.hand_kept.ensures (stored_in c.self.inside))

pub returns : goal.returns
returns c =
    let w = c.self.inside in
    subst (λ run. is_source run.settings run.log c.args.source ≡ true → option_to_list (option_copied c.hand_kept.result) ≡ hand run.log c.args.source) c.self.view_is
    (λ there. ap option_to_list (read c) ∙ hand-shown w c.args.source c.self.invariant there)
