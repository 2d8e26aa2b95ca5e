use Rattle.std.proofs.Common.{◌≡◌, ◌∙◌, [], false, subst, true}
use Rattle.std.specs.Prelude.{IfOk}
use Rattle.bench_spec.specs.Items.{outbox}
use Rattle.bench_spec.specs.Refusal.{is_source}
use Rattle.bench_core.specs.Inside.{settings_in, stored_in}
use Rattle.bench_core.specs.Waiting.{waiting_of}
use Rattle.bench_core.proofs.LookLemmas.{if_ok}
use Rattle.bench_core.proofs.WaitingLemmas.{waiting_of-log, waiting_of-none}
use Rattle.bench_core.proofs.keeping.Core.outbox.Goals as goal

read : (c : goal.After-waiting_of) → IfOk c.waiting_of.result (λ items. items ≡ waiting_of c.args.source (stored_in c.self.inside))
read c =
    let w = c.self.inside in
    if_ok _ (λ items. items ≡ waiting_of c.args.source (stored_in w)) c.waiting_of.result c.waiting_of.ensures
    (λ items is. rw (c.deref.ensures.value, c.deref-2.ensures.value) at (is (stored_in w)))

pub returns-clause-there : goal.returns-clause-there
returns-clause-there c =
    let w = c.self.inside in
    subst (λ run. IfOk c.waiting_of.result (λ items. is_source run.settings run.log c.args.source ≡ true → items ≡ outbox run.settings run.log c.args.source)) c.self.view_is
    (if_ok (λ items. items ≡ waiting_of c.args.source (stored_in w))
    (λ items. is_source (settings_in w) w.log.entries c.args.source ≡ true → items ≡ outbox (settings_in w) w.log.entries c.args.source) c.waiting_of.result (read c)
    (λ items is there. is ∙ waiting_of-log (settings_in w) w.log.entries (stored_in w) c.args.source c.self.invariant.whole.tied there))

pub returns-clause-none : goal.returns-clause-none
returns-clause-none c =
    let w = c.self.inside in
    subst (λ run. IfOk c.waiting_of.result (λ items. is_source run.settings run.log c.args.source ≡ false → items ≡ [])) c.self.view_is
    (if_ok (λ items. items ≡ waiting_of c.args.source (stored_in w)) (λ items. is_source (settings_in w) w.log.entries c.args.source ≡ false → items ≡ []) c.waiting_of.result (read c)
    (λ items is none. is ∙ waiting_of-none (settings_in w) w.log.entries (stored_in w) c.args.source c.self.invariant.whole.tied none))
