-- Parts of a bench by their names, and when the looks that desks kept are right.
use Rattle.std.specs.Prelude.{◌+◌, ℕ, nat_lt, List, [], drop, flat_map, slice_index_or, All, if◌then◌else◌}
use Rattle.acct_totals.specs.declared.op.Booked.{Booked}
use Rattle.bench_item.specs.Keys.{home}
use Rattle.bench_item.specs.declared.step.Step.{Step}
use Rattle.bench_spec.specs.Merged.{IsRight, IsRightAt, Kept, Look, Parts, Stamped, entries_before, entries_kept}
use Rattle.bench_spec.specs.Merged.{looks_kept, looks_of}
use Rattle.bench_spec.specs.Settings.{Settings}

-- what the part at a place kept, its entries and its looks
abbrev pub kept_at : List (List Kept) → ℕ → List Kept
kept_at kept place = slice_index_or kept place []

abbrev pub stamped_in : List (List Kept) → ℕ → List Stamped
stamped_in kept place = flat_map entries_kept (kept_at kept place)

abbrev pub looks_in : List (List Kept) → ℕ → List Look
looks_in kept place = flat_map looks_kept (kept_at kept place)

-- parts by their names, with what was fed and the journal of each page: the shards stand first, then the lines, the
-- clock and the desks
abbrev pub parts_by : ℕ → List (List Kept) → List Step → (ℕ → List Booked) → Parts
parts_by shards kept fed journal = record {
  shards = λ shard. if nat_lt shard shards then stamped_in kept shard else [];
  lines = stamped_in kept shards;
  clock = stamped_in kept (shards + 1);
  desks = drop (shards + 2) kept;
  fed = fed;
  journal = journal;
}

-- each look of each desk is right at its stamp: what was fed and booked has no part in it
abbrev pub AreRight : Settings → List (List Kept) → Type 0
AreRight settings kept =
    (desk : ℕ)
    → All (IsRightAt settings (parts_by settings.node.shards kept [] (λ page. [])) desk)
    (looks_of (parts_by settings.node.shards kept [] (λ page. [])) desk)

-- the same of one look, by the places of the parts
abbrev pub IsRightIn : Settings → List (List Kept) → ℕ → Look → Type 0
IsRightIn settings kept desk look =
    IsRight settings desk (home settings.node.shards look.key.name)
    (entries_before look.stamp (stamped_in kept (home settings.node.shards look.key.name)))
    (entries_before look.stamp (stamped_in kept (settings.node.shards + 2 + desk))) look

-- and of all looks of the desk of that number
abbrev pub DeskIsRight : Settings → List (List Kept) → ℕ → Type 0
DeskIsRight settings kept desk =
    All (IsRightIn settings kept desk) (looks_in kept (settings.node.shards + 2 + desk))
