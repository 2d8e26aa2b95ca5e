use Rattle.std.proofs.Common.{◌≡◌, ◌<◌, ◌∙◌, Some, ap, length, refl, subst, sym}
use Rattle.std.specs.Prelude.{nat_lt, not, slice_get}
use Rattle.bench_item.specs.Keys.{node_of}
use Rattle.bench_item.specs.declared.step.Step.TheVariants as steps
use Rattle.bench_item.specs.declared.step.StepFault.TheVariants.{Full, Unknown}
use Rattle.bench_spec.specs.Refusal.{is_log_full, may_tell, refusal}
use Rattle.bench_core.specs.Inside.{settings_in}
use Rattle.bench_core.proofs.LineFaults.{full-log, three}
use Rattle.bench_core.proofs.LookLemmas.{first_of, shards_are}
use Rattle.bench_core.proofs.ToldFaults.{both-unknown}
use Rattle.bench_core.proofs.keeping.Core.told_fault.Goals as goal

-- the node is that of the laws and the peers that are kept
node_is : (c : goal.After-held) → (settings_in c.self.inside).node ≡ node_of c.laws.result.now c.peers_of-peers.result.now
node_is c =
    let first = first_of c.self.inside c.self.invariant in
    let peers = c.peers_of-peers.ensures first.v (subst (λ vs. slice_get vs 0 ≡ Some first.v) (sym c.deref.ensures.value) first.there) ∙ first.peers in
    sym (ap (λ laws. node_of laws c.peers_of-peers.result.now) c.laws.ensures ∙ ap (node_of c.self.inside.roles.laws) peers)

pub peers_of-peers-requires : goal.peers_of-peers-requires
peers_of-peers-requires c = subst (λ vs. 0 < length vs) (sym c.deref.ensures.value) (shards_are c.self.inside c.self.invariant).0

pub returns : goal.returns
returns c =
    let w = c.self.inside in
    subst (λ run. c.held.result ≡ refusal run.settings run.log run.paused (steps.Told c.args.desk c.args.key.now c.args.event.now)) c.self.view_is
    (three (not (nat_lt c.args.desk w.desk_count)) (not c.may_tell-may.result) c.is_full-full.result
    (not (nat_lt c.args.desk w.desk_count)) (not (may_tell (settings_in w) c.args.key.now c.args.event.now.kind)) (is_log_full w.log.entries) Unknown Unknown Full
    c.held.result c.held-strange.result c.held-late.result c.held-late.ensures c.held-strange.ensures c.held.ensures
    refl (ap not (c.may_tell-may.ensures (settings_in w) (node_is c))) (c.is_full-full.ensures ∙ full-log w.log.entries)
    ∙ both-unknown (nat_lt c.args.desk w.desk_count) (may_tell (settings_in w) c.args.key.now c.args.event.now.kind) (is_log_full w.log.entries))
