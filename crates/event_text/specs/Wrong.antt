-- Which word of a line that is no event is wrong.
use Rattle.std.specs.Prelude.{ℕ, Bool, true, false, List, [], ◌∷◌, Option, Some, None}
use Rattle.std.specs.Prelude.{is_none, option_map, if◌then◌else◌}
use Rattle.std.specs.List.{find}
use Rattle.base_list.specs.Named.{place_of}
use Rattle.tab_law.specs.Books.{Laws}
use Rattle.text_parts.specs.Words.{Word, words}
use Rattle.event_text.specs.Events.{fact_of}

-- the first word that is no fact
abbrev pub no_fact : List Word → Option (List ℕ)
no_fact all = option_map (λ word. word.octets) (find (λ word. is_none (fact_of word.octets)) all)

-- the first word, where it is no kind of the book, or else the first word behind it that is no fact, and whether it is
-- the kind; none where all are facts, of which two have one number
abbrev pub wrong_from : Laws → List Word → Option (Bool × List ℕ)
wrong_from laws [] = None
wrong_from laws (name ∷ others) =
    if is_none (place_of name.octets laws.kinds) then Some (true, name.octets) else
    option_map (λ octets. (false, octets)) (no_fact others)

-- of a line
unfoldable pub wrong_of : Laws → List ℕ → Option (Bool × List ℕ)
wrong_of laws line = wrong_from laws (words line)
