-- The glossary that the text of a dictionary makes, or its first wrong line.
use Rattle.std.specs.Prelude.{◌≡◌, ℕ, List, [], ◌∷◌, ◌++◌, Option, Some, None, is_some, Result, Ok, Err, if◌then◌else◌}
use Rattle.base_list.specs.declared.error.AddFault.{AddFault}
use Rattle.base_list.specs.declared.error.AddFault.TheVariants.{Taken, Full}
use Rattle.dia_dict.specs.Dictionary.{defined, definition_of, known, refusal}
use Rattle.dia_show.specs.Glossary.{Meanings, Naming, base_meanings}
use Rattle.text_parts.specs.Lines.{Line, lines}
use Rattle.text_parts.specs.Words.{words}
use Rattle.dict_text.specs.declared.wrong.Want.{Want}
use Rattle.dict_text.specs.declared.wrong.Want.TheVariants as wants
use Rattle.dict_text.specs.declared.read.DictError.{DictError}
use Rattle.dict_text.specs.declared.read.DictError.TheVariants as errors
use Rattle.dict_text.specs.Entries.{Entry, Head, entry_of}
use Rattle.dict_text.specs.Words.{said}
use Rattle.dict_text.specs.Wrong.{Wrong, WrongAt, seen_line}

-- a glossary with one AVP more
abbrev pub with_definition : Meanings → Head → Meanings
with_definition g h = record g { definitions = g.definitions ++ defined h.code h.vendor h.name h.kind ∷ [] }

-- names of an AVP's numbers
abbrev pub naming : Head → List (ℕ × List ℕ) → Naming
naming h names = record { code = h.code; vendor = h.vendor; names = names }

-- a glossary with the names of an AVP's numbers, where it has some
abbrev pub with_namings : Meanings → Head → List (ℕ × List ℕ) → Meanings
with_namings g h [] = g
with_namings g h (named ∷ names) = record g { namings = g.namings ++ naming h (named ∷ names) ∷ [] }

-- what was wanted where an AVP may not be added to a glossary
abbrev pub refused_want : Meanings → Head → AddFault → Want
refused_want g h Taken =
    if is_some (definition_of (known g.definitions) h.code h.vendor) then wants.NewCode else wants.NewName
refused_want g h Full = wants.Room

-- a glossary with one AVP more and the names of its numbers, unless it may not be added
abbrev pub added : Meanings → Entry → Option AddFault → Result Meanings Wrong
added g e None = Ok (with_namings (with_definition g e.head) e.head e.names)
added g e (Some fault) = Err (record { want = refused_want g e.head fault; word = [] })

-- why an AVP may not be added, memory aside
abbrev pub refusal_of : Meanings → Entry → Option AddFault
refusal_of g e = refusal (known g.definitions) e.head.code e.head.vendor e.head.name

abbrev pub entry_added : Meanings → Result Entry Wrong → Result Meanings Wrong
entry_added g (Err wrong) = Err wrong
entry_added g (Ok e) = added g e (refusal_of g e)

abbrev pub words_added : Meanings → List (List ℕ) → Result Meanings Wrong
words_added g [] = Ok g
words_added g (word ∷ rest) = entry_added g (entry_of word rest)

-- the glossary that a line makes of the one before it; a line without words adds nothing
abbrev pub line_added : Meanings → List ℕ → Result Meanings Wrong
line_added g line = words_added g (said (words line))

-- a wrong line with its number
abbrev pub wrong_at : ℕ → Wrong → WrongAt
wrong_at number w = record { number = number; want = w.want; word = w.word }

-- what comes behind a line of this number: nothing where it is wrong
abbrev pub go_on : ℕ → Result Meanings Wrong → (Meanings → Result Meanings WrongAt) → Result Meanings WrongAt
go_on number (Err wrong) next = Err (wrong_at number wrong)
go_on number (Ok g) next = next g

-- the glossary that lines make of the one before them, or the first wrong line
abbrev pub lines_added : Meanings → List Line → Result Meanings WrongAt
lines_added g [] = Ok g
lines_added g (line ∷ rest) = go_on line.number (line_added g line.octets) (λ next. lines_added next rest)

-- the glossary of a text, or its first wrong line
abbrev pub glossary_of : List ℕ → Result Meanings WrongAt
glossary_of text = lines_added base_meanings (lines text)

-- memory ran out, or this is the first wrong line
abbrev pub IsRefused : Result Meanings WrongAt → DictError → Type 0
IsRefused read errors.NoMemory = Unit {0}
IsRefused read (errors.Wrong line) = read ≡ Err (seen_line line)
