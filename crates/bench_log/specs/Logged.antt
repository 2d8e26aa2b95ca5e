-- What a log is, and when it refuses entries.
use Rattle.std.specs.Prelude.{ℕ, ◌+◌, ◌-◌, Bool, List, [], ◌∷◌, ◌++◌, length, take, nat_lt, if◌then◌else◌}
use Rattle.bench_item.specs.declared.limit.TheConstants.{MAX_ENTRIES}
use Rattle.bench_item.specs.declared.entry.Entry.{Entry}
use Rattle.bench_log.specs.declared.log.LogError.{LogError}
use Rattle.bench_log.specs.declared.log.LogError.TheVariants.{Full, NoMemory}

-- a log: its entries, and how many more it takes without memory and without being full
pub record Logged : Type 0 where
  pub entries : List Entry
  pub room : ℕ

-- whether so many more entries are past the limit
abbrev pub is_past : List Entry → ℕ → Bool
is_past entries n = nat_lt MAX_ENTRIES (length entries + n)

-- why room for so many more entries is refused: they are past the limit, or else memory was refused
abbrev pub fault_of : List Entry → ℕ → LogError
fault_of entries n = if is_past entries n then Full else NoMemory

-- the log with one more entry, which takes of the room where there is some
abbrev pub added : Logged → Entry → Logged
added log e = record { entries = log.entries ++ e ∷ []; room = log.room - 1 }

-- the log with other room
abbrev pub with_room : Logged → ℕ → Logged
with_room log room = record { entries = log.entries; room = room }

-- the log with the first entries alone
abbrev pub cut : Logged → ℕ → Logged
cut log len = record { entries = take len log.entries; room = log.room }
