-- What a call that posts answers.
use Rattle.std.specs.Prelude.{◌≡◌, ◌≤◌, ℕ, List, length, All, Option, option_map, option_to_list, Result, IfOk, IsOk}
use Rattle.std.specs.declared.alloc.AllocError.{AllocError}
use Rattle.tab_step.specs.declared.machine.Event.{Event}
use Rattle.tab_kept.specs.Trimmed.{octets_for}
use Rattle.bench_item.specs.declared.key.Key.{Key}
use Rattle.bench_item.specs.declared.item.Condition.{Condition}
use Rattle.bench_item.specs.declared.item.Item.{Item}
use Rattle.bench_item.specs.declared.item.Item.TheVariants.{ToMachine, ToLine}

-- the names that an item holds, and its numbers, have at most 32 octets each, which take no memory
abbrev pub IsShort : Item → Type 0
IsShort (ToMachine item) =
    (length item.key.name ≤ 32) × (length item.session ≤ 32) × (octets_for item.event.facts ≤ 32)
IsShort (ToLine item) = (length item.session ≤ 32) × (octets_for item.deed.a ≤ 32)
IsShort item = Unit

-- the answer is these posts, at most one, or memory ran out, which it does not where what they hold is short
pub record Makes (answer : Result (Option Item) AllocError) (posts : List Item) : Type 0 where
  pub value : IfOk answer (λ post. option_to_list post ≡ posts)
  pub sure : All IsShort posts → IsOk answer

-- the item that carries an event, if there is one, to a machine
abbrev pub carried : Key → Option Event → Option Condition → List ℕ → List Item
carried key event condition session =
    option_to_list (option_map
    (λ event. ToMachine (record { key = key; event = event; condition = condition; session = session }))
    event)
