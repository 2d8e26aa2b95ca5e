-- The timers' part: timers, what fired and waits, and the stamped entries of what was done to them.
use Rattle.std.specs.Prelude.{◌≡◌, ◌==◌, ℕ, nat_eq, Bool, false, List, [], ◌∷◌, ◌++◌, flat_map, length, map, max}
use Rattle.std.specs.Prelude.{option_to_list, unwrap_or, Option, Some, None, if◌then◌else◌}
use Rattle.std.specs.FinMap as fin
use Rattle.std.specs.Map.{lookup}
use Rattle.std.specs.Option.{option_map_or}
use Rattle.indexmap.specs.IndexMap.{insert_entry}
use Rattle.tab_law.specs.Books.{Laws}
use Rattle.tick_wheel.specs.Places.{Place, armed_of}
use Rattle.tick_wheel.specs.Timers.{AreFired, ByOwner, Timers, moment_after}
use Rattle.tick_wheel.specs.declared.timer.Armed.{Armed}
use Rattle.tick_wheel.specs.declared.timer.Firing.{Firing}
use Rattle.bench_item.specs.Keys.{Configured, node_of}
use Rattle.bench_item.specs.declared.entry.Entry.{Entry}
use Rattle.bench_item.specs.declared.item.Item.{Item}
use Rattle.bench_item.specs.declared.key.Key.{Key}
use Rattle.bench_item.specs.declared.item.Item.TheVariants.{Arm, Disarm}
use Rattle.bench_item.specs.declared.source.Source.{Source}
use Rattle.bench_item.specs.declared.source.Source.TheVariants.{Clock}
use Rattle.bench_item.specs.declared.step.Step.TheVariants.{Drop, Lift}
use Rattle.bench_queue.specs.Outbox.{OutboxView, dropped_one, items_out, lifted_one, put_out}
use Rattle.bench_spec.specs.Items.{firing, is_firing, lifted}
use Rattle.bench_spec.specs.Merged.{Stamped}
use Rattle.bench_spec.specs.Refusal.{is_empty, is_log_full}
use Rattle.bench_views.specs.Timers.{IsArmedSo}
use Rattle.bench_desk.specs.declared.fault.CarryFault.{CarryFault}
use Rattle.bench_desk.specs.declared.fault.CarryFault.TheVariants.{Nothing, Full}
use Rattle.live_parts.specs.Entries.{carried_entry, fired_entry}

-- the machines that had a timer, each with its key if that is known
abbrev pub Known : Type 0
Known = List (ℕ × Option Key)

-- the machines that had a timer, each with the one that is armed, in the order in which they had it first
abbrev pub places_of : ByOwner → Known → List Place
places_of armed keys = map (λ p. (p.0, fin.get armed p.0)) keys

-- the laws, the last moment, the machines that had a timer, each with its key and with the timer that is armed,
-- what fired, and the entries of the part, each with its stamp
pub record ClockView : Type 0 where
  pub laws : Laws
  pub moment : ℕ
  pub keys : Known
  pub places : List Place
  pub outbox : OutboxView
  pub entries : List Stamped

abbrev pub clock_view : Laws → Timers → Known → OutboxView → List Stamped → ClockView
clock_view laws wheel keys outbox entries = record {
  laws = laws;
  moment = wheel.moment;
  keys = keys;
  places = places_of wheel.armed keys;
  outbox = outbox;
  entries = entries;
}

-- the entries alone
abbrev pub entries_of : ClockView → List Entry
entries_of v = map (λ s. s.entry) v.entries

-- what the entries had fired
abbrev pub fired_by : List Entry → List Item
fired_by log = flat_map (λ e. if is_firing e.step then option_to_list e.item else []) log

-- no timer is armed of a machine that never had one
abbrev pub AreKnown : ByOwner → Known → Type 0
AreKnown armed keys = (machine : ℕ) → lookup (nat_eq machine) keys ≡ None → fin.get armed machine ≡ None

-- the timers that are armed, what fired and how much of it was lifted is what the entries say; what is lifted is out of
-- the hand
pub record AreSo (wheel : Timers) (keys : Known) (outbox : OutboxView) (log : List Entry) : Type 0 where
  pub armed : IsArmedSo wheel.armed log
  pub posts : outbox.posts ≡ fired_by log
  pub lifted_are : outbox.lifted ≡ length (lifted log Clock)
  pub out : outbox.dropped ≡ outbox.lifted
  pub known : AreKnown wheel.armed keys

-- the machine of a number, if it had a timer and was known
abbrev pub key_of : ClockView → ℕ → Option Key
key_of v machine = unwrap_or (lookup (nat_eq machine) v.keys) None

-- the timer of a machine, if one is armed
abbrev pub timer_of : ClockView → ℕ → Option Armed
timer_of v machine = unwrap_or (lookup (nat_eq machine) v.places) None

-- the firings of the timers that are due at a moment, or at the last one if that is later:
-- each once, by due moment and then machine
abbrev pub AreDue : ClockView → ℕ → List Firing → Type 0
AreDue v moment due = AreFired (armed_of v.places) (max moment v.moment) due

-- with this timer of a machine that has a place, or none
abbrev pub with_timer_at : List Place → ℕ → Option Armed → List Place
with_timer_at places machine timer = map (λ p. (p.0, if p.0 == machine then timer else p.1)) places

-- with this timer of a machine, which gets a place where it had none
abbrev pub with_new_timer : List Place → ℕ → Armed → List Place
with_new_timer places machine timer = with_timer_at (insert_entry nat_eq places machine None) machine (Some timer)

-- whether a machine's timer is armed with that generation
abbrev pub is_armed : ClockView → ℕ → ℕ → Bool
is_armed v machine generation = option_map_or (λ t. t.generation == generation) (timer_of v machine) false

-- why a timer does not fire: it is not armed with that generation, or the part has as many entries as it may
abbrev pub or_full : ClockView → Option CarryFault
or_full v = if is_log_full (entries_of v) then Some Full else None

abbrev pub fire_refusal : ClockView → ℕ → ℕ → Option CarryFault
fire_refusal v machine generation = if is_armed v machine generation then or_full v else Some Nothing

-- what it fires: its event, as long as its machine has that generation
abbrev pub fired_item : ClockView → Configured → ℕ → ℕ → List Item
fired_item v peers machine generation =
    flat_map (firing (node_of v.laws peers) generation) (option_to_list (key_of v machine))

-- a timer fired: it is armed no longer, what it fires is put out, and just that entry was added
pub record IsFired (v w : ClockView) (machine generation stamp : ℕ) : Type 0 where
  pub item : Option Item
  pub item_is : (peers : Configured) → option_to_list item ≡ fired_item v peers machine generation
  pub part_is : w ≡ record v {
    places = with_timer_at v.places machine None;
    outbox = put_out v.outbox (option_to_list item);
    entries = v.entries ++ record { stamp = stamp; entry = fired_entry machine generation item } ∷ [];
  }

-- the clock came to a moment
abbrev pub passed : ClockView → ℕ → ClockView
passed v moment = record v { moment = max moment v.moment }

-- why nothing is lifted: nothing waits, or the part is full; and why nothing is dropped here
abbrev pub lift_refusal : ClockView → Option CarryFault
lift_refusal v = if is_empty (items_out v.outbox) then Some Nothing else or_full v

abbrev pub drop_refusal : ClockView → Option CarryFault
drop_refusal v = or_full v

-- the oldest item was lifted and is out of the hand
abbrev pub with_lift : ClockView → ℕ → Item → ClockView
with_lift v stamp item = record v {
  outbox = dropped_one (lifted_one v.outbox);
  entries = v.entries ++ record { stamp = stamp; entry = carried_entry (Lift Clock) item } ∷ [];
}

-- a timer was armed, or disarmed
abbrev pub with_arm : ClockView → Source → ℕ → ℕ → ℕ → Option Key → ℕ → ClockView
with_arm v source machine generation ticks key stamp = record v {
  keys = insert_entry nat_eq v.keys machine key;
  places =
      with_new_timer v.places machine (record { generation = generation; due = moment_after v.moment ticks });
  entries = v.entries ++ record {
    stamp = stamp;
    entry = carried_entry (Drop source) (Arm machine generation ticks);
  } ∷ [];
}

abbrev pub with_disarm : ClockView → Source → ℕ → ℕ → ClockView
with_disarm v source machine stamp = record v {
  places = with_timer_at v.places machine None;
  entries = v.entries ++ record { stamp = stamp; entry = carried_entry (Drop source) (Disarm machine) } ∷ [];
}
