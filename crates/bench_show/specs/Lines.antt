-- Where connections stand, and how much each has sent.
use Rattle.std.specs.Prelude.{ℕ, List, ◌++◌, codes, decimal, flat_map, length}
use Rattle.std.specs.List.{range_with_len}
use Rattle.bench_script.specs.Ends.{stands_text}
use Rattle.bench_spec.specs.Lines.{openings}
use Rattle.bench_spec.specs.Taken.{Run, shown}

-- `line N STATE sent OCTETS`
abbrev pub line_text : Run → ℕ → List ℕ
line_text run line =
    codes "line " ++ decimal line ++ stands_text run ((shown run).line_of line)
    ++ codes " sent " ++ decimal (length ((shown run).sent_of line))
    ++ codes "\n"

-- of the first so many lines, by number
unfoldable pub lines_to : Run → ℕ → List ℕ
lines_to run count = flat_map (line_text run) (range_with_len 1 count)

-- of those that were opened
abbrev pub lines_text : Run → List ℕ
lines_text run = lines_to run (length (openings run.log))
