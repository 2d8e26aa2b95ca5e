use Rattle.std.proofs.Common.{◌≡◌, ◌∙◌, ℕ, true, [], ◌∷◌, ap, sym}
use Rattle.std.specs.Prelude.{not}
use Rattle.bench_shard.specs.View.{ShardView}
use Rattle.bench_item.specs.Keys.{Configured}
use Rattle.bench_spec.specs.Desks.{agrees}
use Rattle.bench_desk.specs.Desks.{first_of, state_in}
use Rattle.bench_desk.specs.Parts.{handled_from, waiting_from}
use Rattle.bench_desk.specs.declared.fault.DeskFault.TheVariants.{Disagree, Unknown}
use Rattle.bench_desk.proofs.DeskLemmas.{look_refused, looked}
use Rattle.bench_desk.proofs.desk.Desk.look_refusal.Goals as goal

pub returns-then-not-agrees-clause-refusal : goal.returns-then-not-agrees-clause-refusal
returns-then-not-agrees-clause-refusal c = λ settings node.
    let l = looked c.args.part.now c.args.self.now c.args.stamp c.args.key.now c.peers.result.now.hosts c.may_look.result c.agrees.result
    c.number.result c.counts-waiting.result c.may_look.ensures
    (ap (λ (p : Configured). p.hosts) (c.peers.ensures ∙ ap (λ (v : ShardView). v.peers) c.shard.ensures)) c.number.ensures
    c.counts-waiting.ensures.counts c.agrees.ensures c.requires in
    sym (ap (λ m. first_of ((not m, Unknown) ∷ (not c.agrees.result, Disagree) ∷ [])) c.if-not-may_look.false
    ∙ ap (λ a. first_of ((not true, Unknown) ∷ (not a, Disagree) ∷ [])) c.if-not-agrees.true)
    ∙ look_refused c.args.part.now c.args.self.now c.args.stamp c.args.key.now c.may_look.result c.agrees.result l settings node

pub returns-clause-refusal : goal.returns-clause-refusal
returns-clause-refusal c = λ settings node.
    let l = looked c.args.part.now c.args.self.now c.args.stamp c.args.key.now c.peers.result.now.hosts c.may_look.result c.agrees.result
    c.number.result c.counts-waiting.result c.may_look.ensures
    (ap (λ (p : Configured). p.hosts) (c.peers.ensures ∙ ap (λ (v : ShardView). v.peers) c.shard.ensures)) c.number.ensures
    c.counts-waiting.ensures.counts c.agrees.ensures c.requires in
    sym (ap (λ m. first_of ((not m, Unknown) ∷ (not c.agrees.result, Disagree) ∷ [])) c.if-not-may_look.false
    ∙ ap (λ a. first_of ((not true, Unknown) ∷ (not a, Disagree) ∷ [])) c.if-not-agrees.false)
    ∙ look_refused c.args.part.now c.args.self.now c.args.stamp c.args.key.now c.may_look.result c.agrees.result l settings node

pub returns-clause-agreed : goal.returns-clause-agreed
returns-clause-agreed c = λ settings same.
    let part = c.args.part.now in
    let desk = c.args.self.now in
    let counts : c.counts-waiting.result ≡ (waiting_from part desk.number, handled_from part desk.number) =
    c.counts-waiting.ensures.counts ∙ ap (λ n. (waiting_from part n, handled_from part n)) c.number.ensures in
    ap (λ (p : ℕ × ℕ). agrees settings desk.number desk.kept (record {
      stamp = c.args.stamp;
      key = c.args.key.now;
      stands = state_in part.shard c.args.key.now;
      waiting = p.0;
      handled = p.1;
    })) (sym counts)
    ∙ sym (c.agrees.ensures settings c.args.stamp (state_in part.shard c.args.key.now) same) ∙ c.if-not-agrees.false
