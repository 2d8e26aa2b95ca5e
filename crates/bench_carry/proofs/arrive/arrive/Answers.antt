use Rattle.std.proofs.Common.{◌≡◌, ◌∙◌, ap, false, subst, sym}
use Rattle.bench_item.specs.declared.item.Item.TheVariants.{ToMachine}
use Rattle.bench_carry.specs.Dropped.{Arrives, meaning_to, with_arrived}
use Rattle.bench_carry.specs.Hands.{is_home_crowded, lacks_room}
use Rattle.bench_carry.proofs.HandLemmas.{event-is}
use Rattle.bench_carry.proofs.arrive.arrive.Goals as goal

pub put_event-requires-clause-room : goal.put_event-requires-clause-room
put_event-requires-clause-room c =
    let is : c.args.item.now ≡ ToMachine c.in-Some.event.now = event-is c.args.item.now c.in-Some.event.now (sym c.in-Some.ensures) in
    subst (λ i. is_home_crowded c.args.shards.now i.key ≡ false) (sym c.in_ok-copy-in-Some.ensures)
    (subst (λ i. lacks_room c.args.shards.now c.args.lines.now.lines i ≡ false) is c.requires.room)

pub returns-in_ok-arrival-in-Some-clause-came : goal.returns-in_ok-arrival-in-Some-clause-came
returns-in_ok-arrival-in-Some-clause-came c =
    let is : c.args.item.now ≡ ToMachine c.in_ok-copy-in-Some.copy = event-is c.args.item.now c.in-Some.event.now (sym c.in-Some.ensures) ∙ ap ToMachine (sym c.in_ok-copy-in-Some.ensures) in
    λ s. subst
    (λ i. Arrives (meaning_to c.args.lines.now.rules) i
    (with_arrived s c.args.shards.now c.args.lines.now.lines c.args.carried.now.items c.args.wheel.now.armed)
    (with_arrived s c.put_event.new.shards c.args.lines.now.lines c.args.carried.now.items c.args.wheel.now.armed)) (sym is)
    (ap (λ xs. with_arrived s xs c.args.lines.now.lines c.args.carried.now.items c.args.wheel.now.armed) c.in_ok-arrival-in-Some.ensures.came)

pub returns-in_ok-arrival-in-Some-clause-undone : goal.returns-in_ok-arrival-in-Some-clause-undone
returns-in_ok-arrival-in-Some-clause-undone c =
    λ s. c.in_ok-arrival-in-Some.ensures.undone
    (record s { lines = c.args.lines.now.lines; carried = c.args.carried.now.items; timers = c.args.wheel.now.armed })

pub returns-in_ok-arrival-in-Some-clause-placed : goal.returns-in_ok-arrival-in-Some-clause-placed
returns-in_ok-arrival-in-Some-clause-placed c = λ source. c.in_ok-arrival-in-Some.ensures.placed c.args.wheel.now source

pub returns-in_ok-delivered-in-Some-deed-clause-undone : goal.returns-in_ok-delivered-in-Some-deed-clause-undone
returns-in_ok-delivered-in-Some-deed-clause-undone c =
    λ s. c.in_ok-delivered-in-Some-deed.ensures.undone
    (record s { shards = c.args.shards.now; carried = c.args.carried.now.items; timers = c.args.wheel.now.armed })

pub returns-in_ok-delivered-in-Some-deed-clause-placed : goal.returns-in_ok-delivered-in-Some-deed-clause-placed
returns-in_ok-delivered-in-Some-deed-clause-placed c =
    λ source. c.in_ok-delivered-in-Some-deed.ensures.placed c.args.wheel.now source
