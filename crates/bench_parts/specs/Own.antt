-- Which part stands at which place, and whether entries stand in their own parts.
use Rattle.std.specs.Prelude.{ℕ, ◌+◌, ◌-◌, ◌==◌, nat_lt, Bool, if◌then◌else◌}
use Rattle.bench_item.specs.declared.entry.Entry.{Entry}
use Rattle.bench_spec.specs.Merged.{OfClock, OfDesk, OfLines, OfShard, Part, is_same_part, part_of}
use Rattle.bench_parts.specs.declared.own.Part.{Part as Named}
use Rattle.bench_parts.specs.declared.own.Part.TheVariants as named

-- a part as the code names it
abbrev pub part_named : Named → Part
part_named (named.Shard shard) = OfShard shard
part_named named.Lines = OfLines
part_named named.Clock = OfClock
part_named (named.Desk desk) = OfDesk desk

-- the part at a place: the shards stand first, then the lines, the clock and the desks
abbrev pub part_at : ℕ → ℕ → Part
part_at shards place =
    if nat_lt place shards then OfShard place
    else if place == shards then OfLines else if place == shards + 1 then OfClock else OfDesk (place - shards - 2)

-- whether an entry that stands in the part at that place is of that part
abbrev pub is_of : ℕ → ℕ → Entry → Bool
is_of shards place e = is_same_part (part_at shards place) (part_of shards e)
