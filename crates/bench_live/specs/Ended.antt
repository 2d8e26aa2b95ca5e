-- Which desk is missing where a bench is to end, and what its parts kept.
use Rattle.std.specs.Prelude.{◌≡◌, ℕ, ◌==◌, Bool, not, List, [], ◌∷◌, ◌++◌, find, length, map, Option, Some, None}
use Rattle.std.specs.Prelude.{option_map, unwrap_or}
use Rattle.std.specs.List.{list_any, range_with_len}
use Rattle.bench_desk.specs.Desks.{DeskView}
use Rattle.bench_desk.specs.Parts.{PartView}
use Rattle.bench_spec.specs.Merged.{Did, Kept}
use Rattle.live_parts.specs.Clocks.{ClockView}
use Rattle.live_parts.specs.LineParts.{LinesPartView}
use Rattle.bench_live.specs.declared.fault.EndFault.{EndFault}
use Rattle.bench_live.specs.declared.fault.EndFault.TheVariants as faults

-- whether a desk of that number is among these, of each of which this is a desk
abbrev pub is_among : {D : Type 0} → (D → DeskView) → List D → ℕ → Bool
is_among view desks number = list_any (λ d. (view d).number == number) desks

-- the least number, of so many, of which no desk is among these
abbrev pub missing : {D : Type 0} → (D → DeskView) → ℕ → List D → Option ℕ
missing view count desks = find (λ number. not (is_among view desks number)) (range_with_len 0 count)

-- why a bench is not ended: that desk is missing; or none is, and memory was refused
abbrev pub IsEndFault : Option ℕ → EndFault → Type 0
IsEndFault missing (faults.Missing number) = missing ≡ Some number
IsEndFault missing faults.NoMemory = missing ≡ None

-- what a shard's part has, and what the desk of a number kept
abbrev pub kept_of_shard : PartView → List Kept
kept_of_shard part = map Did part.entries

abbrev pub kept_by : List DeskView → ℕ → List Kept
kept_by desks number = unwrap_or (option_map (λ d. d.kept) (find (λ d. d.number == number) desks)) []

-- what each part has: the shards, the connections, the timers, and the desks by their numbers
abbrev pub parts_kept : List PartView → LinesPartView → ClockView → List DeskView → List (List Kept)
parts_kept shards lines clock desks =
    (map kept_of_shard shards ++ map Did lines.entries ∷ map Did clock.entries ∷ [])
    ++ map (kept_by desks) (range_with_len 0 (length desks))
