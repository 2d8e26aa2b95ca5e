-- What came to a shard, and how many of these it handled.
use Rattle.std.specs.Prelude.{ℕ, ◌+◌, ◌-◌, nat_lt, List, [], ◌++◌, length, take, drop, max}
use Rattle.std.specs.Prelude.{Option, slice_get, if◌then◌else◌}
use Rattle.bench_item.specs.declared.item.MachineItem.{MachineItem}

-- all that came, and how many of these were handled
pub record InboxView : Type 0 where
  pub items : List MachineItem
  pub worked : ℕ

-- an inbox: what it is to a contract, and how many more items it takes without memory
pub record InboxState : Type 0 where
  pub view : InboxView
  pub room : ℕ

-- nothing came
abbrev pub nothing_in : InboxView
nothing_in = record { items = []; worked = 0 }

-- how many items wait
abbrev pub waiting_in : InboxView → ℕ
waiting_in v = length v.items - v.worked

-- the oldest item that waits, if one does
abbrev pub next_in : InboxView → Option MachineItem
next_in v = slice_get v.items v.worked

-- the items that wait, oldest first
abbrev pub items_in : InboxView → List MachineItem
items_in v = drop v.worked v.items

-- these items came, behind the others
abbrev pub put_in : InboxView → List MachineItem → InboxView
put_in v items = record { items = v.items ++ items; worked = v.worked }

-- the oldest item is handled; the one that was handled last waits again
abbrev pub worked_one : InboxView → InboxView
worked_one v = if nat_lt v.worked (length v.items) then record { items = v.items; worked = v.worked + 1 } else v

abbrev pub unworked_one : InboxView → InboxView
unworked_one v = record { items = v.items; worked = v.worked - 1 }

-- so many items that came last and were not handled never came
abbrev pub without_in : InboxView → ℕ → InboxView
without_in v n = record { items = take (max v.worked (length v.items - n)) v.items; worked = v.worked }
