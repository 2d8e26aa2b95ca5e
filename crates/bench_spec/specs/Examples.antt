-- What the small log says, computed; and logs that differ in one value and are wrong. A wrong definition doesn't pass
-- these lines.
use Rattle.std.specs.Prelude.{◌≡◌, ◌≢◌, ℕ, ◌==◌, ◌++◌, ◌&&◌, Bool, true, false, List, [], ◌∷◌, Option, Some, None, map}
use Rattle.std.specs.Prelude.{slice_index, take, refl, option_map}
use Rattle.std.proofs.Common.{ap, sym}
use Rattle.std.proofs.Math.Nat.{le-suc}
use Rattle.std.proofs.lemmas.Bool.{false≢true}
use Rattle.base_codes.specs.DeedCodes.{coded}
use Rattle.acct_book.specs.Sums.{debited, left_where, own, unpaid}
use Rattle.acct_totals.specs.declared.op.Outcome.{Outcome}
use Rattle.acct_totals.specs.declared.op.Outcome.TheVariants.{Done, Refused}
use Rattle.charge_session.specs.declared.want.ServiceUnits.TheVariants.{Several}
use Rattle.charge_session.specs.declared.want.Want.{Want}
use Rattle.tab_step.specs.Moves.{row_taken}
use Rattle.tab_step.specs.declared.machine.Event.{Event}
use Rattle.bench_item.specs.declared.entry.Entry.{Entry}
use Rattle.bench_item.specs.declared.entry.Moved.{Moved}
use Rattle.bench_item.specs.declared.entry.Handled.TheVariants.{Move}
use Rattle.bench_item.specs.Keys.{key_of}
use Rattle.bench_item.specs.Posts.{no_facts}
use Rattle.bench_item.specs.declared.item.Item.{Item}
use Rattle.bench_item.specs.declared.item.Item.TheVariants.{Arm, ToMachine}
use Rattle.bench_item.specs.declared.item.MachineItem.{MachineItem}
use Rattle.bench_item.specs.declared.key.Role.TheVariants.{Server}
use Rattle.bench_item.specs.declared.source.Source.TheVariants.{Desk, Shard}
use Rattle.bench_item.specs.declared.step.Step.TheVariants.{Drop, Fired, Lift, Told, Work}
use Rattle.bench_item.specs.declared.step.StepFault.{StepFault}
use Rattle.bench_item.specs.declared.step.StepFault.TheVariants.{Nothing, Paused, Unknown}
use Rattle.bench_spec.specs.ChargeLog as charge
use Rattle.bench_spec.specs.SessionLog as session
use Rattle.bench_spec.specs.Booked.{book_at, event_with_quote, outcomes_for, want_of}
use Rattle.bench_spec.specs.ExampleLog.{after_work, armed_with, before_work, carried, laws, log, move_by, peer_a}
use Rattle.bench_spec.specs.ExampleLog.{peer_table, regs_with, settings, told, worked_by}
use Rattle.bench_spec.specs.Items.{IsCarried, IsFront, armed, dropped, hand, inbox, lifted, outbox, posts}
use Rattle.bench_spec.specs.Legal.{IsMove, MayFollow, is_met}
use Rattle.bench_spec.specs.Machines.{directory, state_of}
use Rattle.bench_spec.specs.Refusal.{refusal}

-- an event without facts
abbrev told_facts : List ℕ
told_facts = no_facts

-- a timer of `p:a` that fires, armed with that generation
abbrev fired_with : ℕ → MachineItem
fired_with generation = record {
  key = peer_a;
  event = record { kind = 1; facts = no_facts };
  condition = Some (record { register = 15; value = generation });
  session = [];
}

-- the log with the lift of an item of generation 2, and with a deed of 31 ticks
abbrev log_with_other : List Entry
log_with_other = after_work ++ carried (Lift (Shard 0)) (Some (armed_with 2)) ∷ []

abbrev log_with_other_post : List Entry
log_with_other_post = before_work ++ worked_by 31 ∷ carried (Lift (Shard 0)) (Some (armed_with 1)) ∷ []

-- tests that tell two values apart
abbrev is_number : ℕ → Option ℕ → Bool
is_number n None = false
is_number n (Some m) = m == n

abbrev arms_so : ℕ → ℕ → Item → Bool
arms_so generation ticks (Arm m g t) = (g == generation) && (t == ticks)
arms_so generation ticks item = false

abbrev begins_with : (Item → Bool) → List Item → Bool
begins_with test [] = false
begins_with test (item ∷ items) = test item

abbrev begins_with_first : List Item → Bool
begins_with_first items = begins_with (arms_so 1 30) items

abbrev arms_for_31 : List Item → Bool
arms_for_31 items = begins_with (arms_so 1 31) items

abbrev is_done : Outcome → Bool
is_done (Done amount unpaid) = true
is_done Refused = false

abbrev first_is_done : List Outcome → Bool
first_is_done [] = false
first_is_done (outcome ∷ outcomes) = is_done outcome

abbrev is_taken : Option StepFault → Bool
is_taken None = true
is_taken (Some fault) = false

-- the views
pub machines : directory settings.node 0 log ≡ peer_a ∷ []
machines = refl

pub stands : state_of settings.node log peer_a ≡ Some (record { state = 1; regs = regs_with 1 })
stands = refl

pub desk_put_out : posts settings log (Desk 0) ≡ told ∷ []
desk_put_out = refl

pub shard_put_out : posts settings log (Shard 0) ≡ armed_with 1 ∷ []
unfolding coded
shard_put_out = refl

pub waits : outbox settings after_work (Shard 0) ≡ armed_with 1 ∷ []
unfolding coded
waits = refl

pub on_its_way : hand (take 2 log) (Desk 0) ≡ told ∷ []
on_its_way = refl

pub nothing_waits : inbox settings.node log 0 ≡ []
nothing_waits = refl

pub is_armed_so : armed log 0 ≡ Some 1
is_armed_so = refl

-- each step could be taken after those before it
pub could_tell : refusal settings [] [] (Told 0 peer_a (record { kind = 0; facts = told_facts })) ≡ None
could_tell = refl

pub could_lift : refusal settings (take 1 log) [] (Lift (Desk 0)) ≡ None
could_lift = refl

pub could_drop : refusal settings (take 2 log) [] (Drop (Desk 0)) ≡ None
could_drop = refl

pub could_work : refusal settings before_work [] (Work 0) ≡ None
could_work = refl

pub could_lift_post : refusal settings after_work [] (Lift (Shard 0)) ≡ None
unfolding coded
could_lift_post = refl

pub could_drop_post : refusal settings (take 5 log) [] (Drop (Shard 0)) ≡ None
could_drop_post = refl

-- and others not: a timer with another generation, a paused shard, a machine that is no peer, a second drop
pub could_fire : refusal settings log [] (Fired 0 1) ≡ None
could_fire = refl

pub other_generation : refusal settings log [] (Fired 0 2) ≡ Some Nothing
other_generation = refl

pub paused_shard : refusal settings before_work (true ∷ []) (Work 0) ≡ Some Paused
paused_shard = refl

pub no_such_shard : refusal settings before_work (true ∷ []) (Work 1) ≡ Some Unknown
no_such_shard = refl

pub dropped_twice : refusal settings log [] (Drop (Shard 0)) ≡ Some Nothing
dropped_twice = refl

-- the row: the first of two that match
pub row_of_start : option_map (λ numbered. numbered.0)
    (row_taken peer_table laws (move_by 0 30).before (move_by 0 30).event) ≡ Some 0
row_of_start = refl

-- the move that names the second one is none
pub second_row : IsMove settings.node.laws peer_table (move_by 1 30) → ⊥
second_row move = false≢true (ap (is_number 0) move.row)

-- a timer that fires with the generation that the machine has is met, one with an older generation is stale
pub fires : is_met settings log (fired_with 1) ≡ true
fires = refl

pub fires_late : is_met settings log (fired_with 0) ≡ false
fires_late = refl

-- order: what was lifted and dropped is in the order in which it was put out
pub shard_in_order : IsCarried (posts settings log (Shard 0)) (lifted log (Shard 0)) (dropped log (Shard 0))
unfolding coded
shard_in_order = record { lifted_front = ([], refl); dropped_front = ([], refl); one_between = le-suc 1 }

-- an item with another generation than the one that was put out is none of these
pub other_item : IsFront (lifted log_with_other (Shard 0)) (posts settings log_with_other (Shard 0)) → ⊥
unfolding coded
other_item front = false≢true (ap begins_with_first front.1)

-- posts: a deed that arms for 31 ticks has the shard put out just that
pub other_ticks : posts settings (before_work ++ worked_by 31 ∷ []) (Shard 0) ≡ Arm 0 1 31 ∷ []
unfolding coded
other_ticks = refl

-- so the item of 30 ticks is not lifted from it
pub other_post : IsFront (lifted log_with_other_post (Shard 0)) (posts settings log_with_other_post (Shard 0)) → ⊥
unfolding coded
other_post front = false≢true (ap arms_for_31 front.1)

-- the book: of 100 units 60 are reserved, and then 60 more are refused
abbrev outcomes_at : List Entry → Moved → MachineItem → List Outcome
outcomes_at past moved item =
    outcomes_for (book_at charge.settings past) (want_of charge.laws item moved.before) moved.deeds

abbrev item_of : charge.Asks → MachineItem
item_of asks = record {
  key = key_of Server asks.name;
  event = record { kind = 2; facts = charge.requested asks };
  condition = None;
  session = asks.name;
}

pub first_reserve : outcomes_at (take 9 charge.log) charge.reserved_x (item_of charge.of_x) ≡ Done 60 0 ∷ []
unfolding coded own left_where debited unpaid
first_reserve = refl

pub second_reserve : outcomes_at charge.before_z (charge.reserving_z Refused) (item_of charge.of_z) ≡ Refused ∷ []
unfolding coded own left_where debited unpaid
second_reserve = refl

-- an entry that reserves them again has another outcome than the book allows
pub reserved_again : outcomes_at charge.before_z (charge.reserving_z (Done 60 0)) (item_of charge.of_z) ≢ Done 60 0 ∷ []
unfolding coded own left_where debited unpaid
reserved_again same = false≢true (ap first_is_done same)

-- the quote among the facts of the event
abbrev quoted_at : List Entry → Moved → MachineItem → Event
quoted_at past moved item =
    event_with_quote (book_at charge.settings past) (want_of charge.laws item moved.before) item.event

pub quoted_event : quoted_at (take 9 charge.log) charge.reserved_x (item_of charge.of_x) ≡ charge.reserved_x.event
unfolding coded own left_where debited unpaid
quoted_event = refl

pub quoted_service : quoted_at (take 19 charge.log) charge.reserved_y (item_of charge.of_y) ≡ charge.reserved_y.event
unfolding coded own left_where debited unpaid
quoted_service = refl

-- so none of these entries may follow: the lift of another item than the one that was put out,
pub no_other_item : MayFollow settings after_work (carried (Lift (Shard 0)) (Some (armed_with 2))) → ⊥
no_other_item follows = other_item (follows.order.sources (Shard 0)).lifted_front

-- or of that one, where the deed armed for 31 ticks,
pub no_other_post : MayFollow settings (before_work ++ worked_by 31 ∷ [])
    (carried (Lift (Shard 0)) (Some (armed_with 1))) → ⊥
no_other_post follows = other_post (follows.order.sources (Shard 0)).lifted_front

-- a move by the second of two rows that match,
pub no_second_row : MayFollow settings before_work
    (record { step = Work 0; item = Some told; handled = Some (Move (move_by 1 30)) }) → ⊥
no_second_row follows = second_row follows.parts.2.move

-- a timer that fires with a generation with which it isn't armed,
pub no_other_generation : MayFollow settings log (carried (Fired 0 2) (Some (ToMachine (fired_with 2)))) → ⊥
no_other_generation follows = false≢true (ap is_taken follows.could)

-- a move of the session's machine for a timer that fires late, where another firing of its timer would move it so,
pub no_late_move : MayFollow session.settings (take 13 session.log)
    (session.works (session.fired_with 1) (Move session.ending)) → ⊥
no_late_move follows = false≢true follows.parts.1

-- or a Reserve of 60 units that is done where 40 are left
pub no_second_reserve : MayFollow charge.settings charge.before_z
    (charge.works 1 (charge.initial charge.of_z) (charge.reserving_z (Done 60 0))) → ⊥
no_second_reserve follows = reserved_again (sym follows.parts.2.outcomes)

-- several services of an account that is not there: each slot is answered 5030, and so is the request
abbrev unknown_want : Want
unknown_want = record {
  account = 7;
  session = 1;
  asked =
      Several
      (Some (record { group = 2; used = 0; want = 60 }) ∷ Some (record { group = 3; used = 5; want = 0 })
      ∷ None ∷ None ∷ []);
}

abbrev unknown_facts : List ℕ
unknown_facts =
    (event_with_quote (book_at settings []) (Some unknown_want) (record { kind = 0; facts = no_facts })).facts

pub unknown_request : slice_index unknown_facts 12 ≡ 5030
unknown_request = refl

pub unknown_slots : map (slice_index unknown_facts) (21 ∷ 29 ∷ 37 ∷ 45 ∷ []) ≡ 5030 ∷ 5030 ∷ 0 ∷ 0 ∷ []
unknown_slots = refl
