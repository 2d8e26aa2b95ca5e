-- What a line of a dictionary says: `CODE[/VENDOR] NAME KIND [VALUE=NAME ..]`, a `#` and all behind it left out.
use Rattle.std.specs.Prelude.{ℕ, ◌&&◌, not, Bool, false, List, [], ◌∷◌, ◌++◌, Option, Some, None, Result}
use Rattle.std.specs.Prelude.{Ok, Err, if◌then◌else◌}
use Rattle.std.specs.Str.{is_utf8}
use Rattle.text_parts.specs.Lines.{is_plain}
use Rattle.dia_dict.specs.declared.definition.AvpKind.{AvpKind}
use Rattle.dict_text.specs.declared.wrong.Want.TheVariants as wants
use Rattle.dict_text.specs.Words.{code_of, has_names, is_named, kind_named, name_in}
use Rattle.dict_text.specs.Wrong.{Wrong}

-- an AVP, but for the names of its numbers
pub record Head : Type 0 where
  pub code : ℕ
  pub vendor : Option ℕ
  pub name : List ℕ
  pub kind : AvpKind

-- an AVP, and the names of its numbers
pub record Entry : Type 0 where
  pub head : Head
  pub names : List (ℕ × List ℕ)

-- a name is text of printable characters
abbrev pub is_name : List ℕ → Bool
is_name word = is_plain word && is_utf8 word

-- of a code and vendor and a name: the type, and then the names
abbrev pub with_kind : ℕ × Option ℕ → List ℕ
    → Option AvpKind → List ℕ → List (List ℕ) → Result (Head × List (List ℕ)) Wrong
with_kind code name None word rest = Err (record { want = wants.Kind; word = word })
with_kind code name (Some kind) word rest =
    Ok (record { code = code.0; vendor = code.1; name = name; kind = kind }, rest)

abbrev pub kind_next : ℕ × Option ℕ → List ℕ → List (List ℕ) → Result (Head × List (List ℕ)) Wrong
kind_next code name [] = Err (record { want = wants.Kind; word = [] })
kind_next code name (word ∷ rest) = with_kind code name (kind_named word) word rest

-- of a code and vendor: the name
abbrev pub name_next : ℕ × Option ℕ → List (List ℕ) → Result (Head × List (List ℕ)) Wrong
name_next code [] = Err (record { want = wants.Name; word = [] })
name_next code (word ∷ rest) =
    if is_name word then kind_next code word rest else Err (record { want = wants.Name; word = word })

abbrev pub code_first : Option (ℕ × Option ℕ) → List ℕ → List (List ℕ) → Result (Head × List (List ℕ)) Wrong
code_first None word rest = Err (record { want = wants.Code; word = word })
code_first (Some code) word rest = name_next code rest

-- the AVP of a line's words, the first of which is this one, with the words behind it, or the first word that is wrong
unfoldable pub head_of : List ℕ → List (List ℕ) → Result (Head × List (List ℕ)) Wrong
head_of word rest = code_first (code_of word) word rest

-- whether a word is a name of a number that has none
abbrev pub is_new : List (ℕ × List ℕ) → Option (ℕ × List ℕ) → Bool
is_new before None = false
is_new before (Some named) = not (is_named named.0 before)

abbrev pub one_more : List (ℕ × List ℕ) → Option (ℕ × List ℕ) → List (ℕ × List ℕ)
one_more before None = before
one_more before (Some named) = before ++ named ∷ []

-- the names of words behind those before them, each of another number, or the first word that is none
abbrev pub names_behind : List (ℕ × List ℕ) → List (List ℕ) → Result (List (ℕ × List ℕ)) Wrong
names_behind before [] = Ok before
names_behind before (word ∷ words) =
    if is_new before (name_in word) then names_behind (one_more before (name_in word)) words
    else Err (record { want = wants.Value; word = word })

-- the names of a type's numbers: of a type without names no word is one
abbrev pub no_names : List (List ℕ) → Result (List (ℕ × List ℕ)) Wrong
no_names [] = Ok []
no_names (word ∷ words) = Err (record { want = wants.Value; word = word })

abbrev pub names_of : AvpKind → List (List ℕ) → Result (List (ℕ × List ℕ)) Wrong
names_of kind words = if has_names kind then names_behind [] words else no_names words

abbrev pub with_names : Head → Result (List (ℕ × List ℕ)) Wrong → Result Entry Wrong
with_names head (Err wrong) = Err wrong
with_names head (Ok names) = Ok (record { head = head; names = names })

abbrev pub with_head : Result (Head × List (List ℕ)) Wrong → Result Entry Wrong
with_head (Err wrong) = Err wrong
with_head (Ok read) = with_names read.0 (names_of read.0.kind read.1)

-- what a line says whose first word is this one
abbrev pub entry_of : List ℕ → List (List ℕ) → Result Entry Wrong
entry_of word rest = with_head (head_of word rest)
