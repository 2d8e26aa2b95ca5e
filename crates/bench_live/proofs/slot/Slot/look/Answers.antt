use Rattle.std.proofs.Common.{◌≡◌, None, Option, rules, subst, true}
use Rattle.std.specs.Prelude.{IfErr, IfOk, unwrap_or}
use Rattle.bench_desk.specs.declared.fault.DeskFault.{DeskFault}
use Rattle.bench_desk.specs.declared.fault.DeskFault.TheVariants.{NoMemory}
use Rattle.bench_live.proofs.SlotLemmas.{home-is, look-home}
use Rattle.bench_live.proofs.slot.Slot.look.Goals as goal

pub returns-clause-could : goal.returns-clause-could
returns-clause-could g c =
    let part = c.args.self.now.part in
    let desk = c.args.desk.now in
    let met : c.is_home_of.result ≡ true = search rules in
    let home = home-is part desk.shards c.shards.result c.args.key.now c.is_home_of.result c.is_home_of.ensures.is c.shards.ensures.count met in
    λ settings same. subst (λ (r : Option DeskFault). IfOk c.look_in.result (λ look. r ≡ None))
    (look-home settings part desk c.args.stamp c.args.key.now home) (c.look_in.ensures.could settings same)

pub returns-clause-fault : goal.returns-clause-fault
returns-clause-fault g c =
    let part = c.args.self.now.part in
    let desk = c.args.desk.now in
    let met : c.is_home_of.result ≡ true = search rules in
    let home = home-is part desk.shards c.shards.result c.args.key.now c.is_home_of.result c.is_home_of.ensures.is c.shards.ensures.count met in
    λ settings same. subst (λ (r : Option DeskFault). IfErr c.look_in.result (λ f. f ≡ unwrap_or r NoMemory))
    (look-home settings part desk c.args.stamp c.args.key.now home) (c.look_in.ensures.fault settings same)
