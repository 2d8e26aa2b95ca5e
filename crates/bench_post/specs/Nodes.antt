-- Whose deeds they are.
use Rattle.std.specs.Prelude.{ℕ}
use Rattle.bench_item.specs.declared.item.MachineItem.{MachineItem}
use Rattle.bench_item.specs.Posts.{Doer}

-- the machine of that number, which handled that item
abbrev pub doer_of : ℕ → MachineItem → Doer
doer_of machine item = record { key = item.key; machine = machine; kind = item.event.kind; session = item.session }
