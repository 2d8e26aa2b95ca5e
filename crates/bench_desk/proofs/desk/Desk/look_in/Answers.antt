use Rattle.std.proofs.Common.{◌≡◌, ◌∙◌, ℕ, true, ap, subst, sym}
use Rattle.std.specs.Prelude.{Err, IfErr, IfNone, IfOk, None, Ok, Option, Result, unwrap_or}
use Rattle.bench_item.specs.declared.key.Key.{Key}
use Rattle.bench_spec.specs.Desks.{agrees}
use Rattle.bench_spec.specs.Merged.{Look as Seen}
use Rattle.bench_spec.specs.Settings.{Settings}
use Rattle.bench_desk.specs.Desks.{look_at, look_refusal, seen_as}
use Rattle.bench_desk.specs.declared.look.Look.{Look}
use Rattle.bench_desk.specs.declared.fault.DeskFault.{DeskFault}
use Rattle.bench_desk.specs.declared.fault.DeskFault.TheVariants.{NoMemory}
use Rattle.bench_desk.proofs.DeskLemmas.{ok_anyway}
use Rattle.bench_desk.proofs.desk.Desk.look_in.Goals as goal

pub returns-in-Some-clause-fault : goal.returns-in-Some-clause-fault
returns-in-Some-clause-fault c = λ settings node.
    ap (λ (o : Option DeskFault). unwrap_or o NoMemory) (sym c.in-Some.is ∙ c.look_refusal.ensures.refusal settings node)

pub returns-clause-could : goal.returns-clause-could
returns-clause-could c = λ settings node.
    ok_anyway c.seen.result (look_refusal settings c.args.part.now c.args.self.now c.args.stamp c.args.key.now ≡ None)
    (sym (c.look_refusal.ensures.refusal settings node) ∙ c.in_default.is)

pub returns-clause-fault : goal.returns-clause-fault
returns-clause-fault c = λ settings node.
    subst (λ (o : Option DeskFault). IfErr c.seen.result (λ f. f ≡ unwrap_or o NoMemory))
    (sym c.in_default.is ∙ c.look_refusal.ensures.refusal settings node) c.seen.ensures.fault

-- what holds of a look holds of what is answered
as-answered : (P : Seen → Type 0) (stamp : ℕ) (key : Key) (at : Seen) (r : Result Look DeskFault) → P at
    → IfOk r (λ look. seen_as stamp key look ≡ at) → IfOk r (λ look. P (seen_as stamp key look))
as-answered P stamp key at (Ok look) holds is = subst P (sym is) holds
as-answered P stamp key at (Err fault) holds is = tt

pub returns-clause-agreed : goal.returns-clause-agreed
returns-clause-agreed c =
    let desk = c.args.self.now in
    let seen = look_at c.args.part.now desk.number c.args.stamp c.args.key.now in
    let Agrees : Seen → Type 0 = λ look. (settings : Settings) → settings.node.shards ≡ desk.shards → agrees settings desk.number desk.kept look ≡ true in
    as-answered Agrees c.args.stamp c.args.key.now seen c.seen.result
    (subst (λ (o : Option DeskFault). IfNone o (Agrees seen)) c.in_default.is c.look_refusal.ensures.agreed) c.seen.ensures.ok
