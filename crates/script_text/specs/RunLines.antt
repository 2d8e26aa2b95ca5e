-- What the lines of a script that is run ask for: as those of any script, and `settle` besides.
use Rattle.std.specs.Prelude.{ℕ, Bool, false, List, [], ◌∷◌, Option, Some, is_none, option_map, codes, if◌then◌else◌}
use Rattle.std.specs.List.{filter_map, find}
use Rattle.std.specs.Str.{bytes_eq}
use Rattle.tab_law.specs.Books.{Laws}
use Rattle.text_parts.specs.Lines.{Line, lines}
use Rattle.text_parts.specs.Words.{Word, words}
use Rattle.script_text.specs.Scripts.{asked_of, asking}
use Rattle.script_text.specs.declared.run_line.RunLine.{RunLine}
use Rattle.script_text.specs.declared.run_line.RunLine.TheVariants as runs

-- whether words are `settle` alone
abbrev pub is_settle : List Word → Bool
is_settle [] = false
is_settle (verb ∷ []) = bytes_eq verb.octets (codes "settle")
is_settle (verb ∷ other ∷ others) = false

-- what a line asks for
unfoldable pub run_line_of : Laws → List ℕ → Option RunLine
run_line_of laws line =
    if is_settle (words line) then Some runs.Settle else option_map (λ asked. runs.Asked asked) (asked_of laws line)

abbrev pub run_lines_in : Laws → List Line → List RunLine
run_lines_in laws all = filter_map (λ line. run_line_of laws line.octets) (asking all)

abbrev pub bad_run_in : Laws → List Line → Option ℕ
bad_run_in laws all =
    option_map (λ line. line.number) (find (λ line. is_none (run_line_of laws line.octets)) (asking all))

-- what a script that is run asks for, in order
abbrev pub run_script_of : Laws → List ℕ → List RunLine
run_script_of laws text = run_lines_in laws (lines text)

-- the first of its lines that has another form
abbrev pub first_bad_run : Laws → List ℕ → Option ℕ
first_bad_run laws text = bad_run_in laws (lines text)
