-- Each event of a loaded program ends.
use Rattle.std.specs.Prelude.{◌≡◌, ℕ, ◌<◌, ◌≤◌, Bool, true, List, [], Some, None, length}
use Rattle.std.specs.List.{list_all, slice_index_or}
use Rattle.tab_asm.specs.Formats.{Instruction}
use Rattle.tab_asm.specs.Paths.{IsPath, Outcome, end_of}
use Rattle.tab_load.specs.Faults.{format_of}
use Rattle.tab_load.specs.Code.{is_in_range}
use Rattle.tab_load.specs.Loading.{Loaded, counts_of}
use Rattle.tab_load.specs.declared.counts.Counts.{Counts}
use Rattle.tab_load.specs.declared.counts.Format.{Format}

-- a path from an offset to the end of an event, by what the guards say: its instructions stand in the code one behind
-- the other or where a jump leads, name what the image has, and are no more than the code has octets
pub record Ends (format : Format) (counts : Counts) (code : List ℕ) (says : ℕ → Bool) (offset : ℕ) : Type 0 where
  pub path : List Instruction
  pub is_path : IsPath (format_of format) code says offset path
  pub few : length path ≤ length code
  pub known : list_all (is_in_range counts) path ≡ true
  pub outcome : Outcome
  pub end : end_of None [] path ≡ Some outcome

-- whatever the guards say, each event ends
abbrev pub EachEnds : Loaded → Type 0
EachEnds program =
    (says : ℕ → Bool) (number offset : ℕ) → number < length program.image.entries →
    slice_index_or program.image.entries number None ≡ Some offset →
    Ends program.format (counts_of program.image) program.image.code says offset
