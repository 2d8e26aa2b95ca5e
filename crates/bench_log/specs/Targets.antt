-- What an item is for.
use Rattle.std.specs.Prelude.{Bool, true, false, Option, Some, None}
use Rattle.bench_item.specs.declared.item.Item.{Item}
use Rattle.bench_item.specs.declared.item.Item.TheVariants.{Dial, ToLine, ToMachine}
use Rattle.bench_item.specs.declared.item.LineItem.{LineItem}
use Rattle.bench_item.specs.declared.item.MachineItem.{MachineItem}
use Rattle.bench_item.specs.declared.key.Key.{Key}

-- the event that is on its way, if it is for a machine
abbrev pub event_in : Item → Option MachineItem
event_in (ToMachine item) = Some item
event_in item = None

-- the deed that is on its way, if it is for a connection
abbrev pub deed_in : Item → Option LineItem
deed_in (ToLine item) = Some item
deed_in item = None

-- the machine that it is for, if it is for one
abbrev pub key_for : Item → Option Key
key_for (ToMachine item) = Some item.key
key_for item = None

-- the item, if it is for no machine and no connection: a dial, one given up, or what arms or disarms a timer
abbrev pub order_in : Item → Option Item
order_in (ToMachine item) = None
order_in (ToLine item) = None
order_in item = Some item

-- whether it opens a connection
abbrev pub is_dial : Item → Bool
is_dial (Dial peer generation) = true
is_dial item = false
