-- What a shard is to do next.
use Rattle.std.specs.Prelude.{◌≡◌, ℕ, ◌%◌, Option, Some, None, option_map, if◌then◌else◌}
use Rattle.charge_session.specs.declared.want.Want.{Want}
use Rattle.tab_law.specs.Books.{Laws}
use Rattle.bench_item.specs.declared.item.MachineItem.{MachineItem}
use Rattle.bench_queue.specs.Inbox.{next_in}
use Rattle.bench_spec.specs.Booked.{want_of}
use Rattle.bench_spec.specs.Machines.{holds}
use Rattle.bench_shard.specs.View.{ShardView, lacks_room, number_for, state_for}
use Rattle.bench_shard.specs.declared.task.Fate.{Fate}
use Rattle.bench_shard.specs.declared.task.Fate.TheVariants.{Busy, Stale, Moves}
use Rattle.bench_shard.specs.declared.task.Task.{Task}

-- what becomes of an item: busy where there is no room for its machine,
-- else stale where its condition fails, else a move
abbrev pub fate_of : ShardView → MachineItem → Fate
fate_of v item =
    if lacks_room v item.key then Busy else (if holds item.condition (state_for v item.key) then Moves else Stale)

-- what it asks of the account book: only one that moves its machine asks something
abbrev pub want_by : Fate → Laws → ShardView → MachineItem → Option Want
want_by Moves laws v item = want_of laws item (state_for v item.key)
want_by fate laws v item = None

abbrev pub wanted : Laws → ShardView → MachineItem → Option Want
wanted laws v item = want_by (fate_of v item) laws v item

-- the page of the account book that it needs, of so many
abbrev pub page_of : ℕ → Option Want → Option ℕ
page_of pages want = option_map (λ want. want.account % pages) want

-- the oldest item, its machine as it stands, what is to become of it, and what it asks of the account book
pub record IsTask (laws : Laws) (v : ShardView) (task : Task) : Type 0 where
  pub item : next_in v.inbox ≡ Some task.item
  pub number : task.number ≡ number_for v task.item.key
  pub before : task.before ≡ state_for v task.item.key
  pub fate : task.fate ≡ fate_of v task.item
  pub want : task.want ≡ want_by task.fate laws v task.item
