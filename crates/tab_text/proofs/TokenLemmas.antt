use Rattle.std.proofs.Common.{◌≡◌, ℕ, ◌<◌, ◌≤◌, suc, Bool, true, false, not, ltb, ◌==◌, List, [], ◌∷◌, ◌++◌, length, take, drop, filter, zero, unwrap_or, position, get_or, arith, refl, inl, inr, sym, ap, ◌∙◌, if◌then◌else◌}
use Rattle.std.specs.List.{slice_split, onto_first, flat_map, position_or_len}
use Rattle.std.proofs.lemmas.List.{append-nil}
use Rattle.std.proofs.lemmas.List.Concat.{flat_map-append}
use Rattle.std.proofs.lemmas.List.Elements.{filter-append}
use Rattle.std.proofs.lemmas.List.Splits.{length-slice_split}
use Rattle.std.proofs.lemmas.List.Sums.{prefix_len-le-length}
use Rattle.std.proofs.lemmas.Bool.{cases_lt}
use Rattle.std.proofs.lemmas.Bool.Decides.{nat_tests}
use Rattle.text_parts.specs.Lines.{Line}
use Rattle.text_parts.specs.Words.{apart, tokens, is_word, is_token_end, trimmed_front}
use Rattle.tab_text.specs.Cells.{with_blank, with_blanks, row_cells, parts, event_span, action_span}
use Rattle.tab_text.specs.declared.header.Columns.{Columns}

abbrev is_blank : ℕ → Bool
is_blank b = b == 32

abbrev pub cut : List ℕ → List (List ℕ)
cut octets = slice_split is_blank octets

onto-append : (b : ℕ) (front behind : List (List ℕ)) → 0 < length front → onto_first b (front ++ behind) ≡ onto_first b front ++ behind
onto-append b [] behind some = absurd (omega arith)
onto-append b (part ∷ front) behind some = refl

cut-cons : (b : ℕ) (front behind : List ℕ) (test : Bool) → is_blank b ≡ test → cut (front ++ 32 ∷ behind) ≡ cut front ++ cut behind → cut (b ∷ front ++ 32 ∷ behind) ≡ cut (b ∷ front) ++ cut behind
cut-cons b front behind true is rest = rw (is, rest) refl
cut-cons b front behind false is rest = rw (is, rest) (onto-append b (cut front) (cut behind) (omega (arith, length-slice_split is_blank front)))

-- what is cut at a blank between two texts is what both are cut into
cut-blank : (front behind : List ℕ) → cut (front ++ 32 ∷ behind) ≡ cut front ++ cut behind
cut-blank [] behind = refl
cut-blank (b ∷ front) behind = cut-cons b front behind (is_blank b) refl (cut-blank front behind)

-- the words of two cells with a blank between are the words of both
pub tokens-blank : (front behind : List ℕ) → tokens (front ++ 32 ∷ behind) ≡ tokens front ++ tokens behind
unfolding tokens
tokens-blank front behind =
    rw (flat_map-append (λ (b : ℕ). if b == 44 then 32 ∷ 44 ∷ 32 ∷ [] else b ∷ []) front (32 ∷ behind), cut-blank (apart front) (apart behind), filter-append is_word (cut (apart front)) (cut (apart behind))) refl

-- the words of two cells with a comma between are the words of both, and the comma
pub tokens-between : (front behind : List ℕ) → tokens (front ++ 44 ∷ behind) ≡ tokens front ++ (44 ∷ []) ∷ tokens behind
unfolding tokens
tokens-between front behind =
    rw (flat_map-append (λ (b : ℕ). if b == 44 then 32 ∷ 44 ∷ 32 ∷ [] else b ∷ []) front (44 ∷ behind), cut-blank (apart front) (44 ∷ 32 ∷ apart behind), filter-append is_word (cut (apart front)) (cut (44 ∷ 32 ∷ apart behind))) refl

pub tokens-none : tokens [] ≡ []
unfolding tokens
tokens-none = refl

tokens-with_blank : (front behind : List ℕ) → tokens (with_blank front behind) ≡ tokens front ++ tokens behind
tokens-with_blank [] behind = rw tokens-none refl
tokens-with_blank (b ∷ bs) [] = rw tokens-none (sym (append-nil (tokens (b ∷ bs))))
tokens-with_blank (b ∷ bs) (c ∷ cs) = tokens-blank (b ∷ bs) (c ∷ cs)

-- the words of a cell are those of its parts
pub tokens-with_blanks : (all : List (List ℕ)) → tokens (with_blanks all) ≡ flat_map tokens all
tokens-with_blanks [] = tokens-none
tokens-with_blanks (part ∷ all) = tokens-with_blank part (with_blanks all) ∙ ap (λ (rest : List (List ℕ)). tokens part ++ rest) (tokens-with_blanks all)

pub event-words : (columns : Columns) (line : Line) (more : List Line) → tokens (row_cells columns line more).event ≡ flat_map tokens (parts (event_span columns) (line ∷ more))
unfolding row_cells
event-words columns line more = tokens-with_blanks (parts (event_span columns) (line ∷ more))

pub action-words : (columns : Columns) (line : Line) (more : List Line) → tokens (row_cells columns line more).action ≡ flat_map tokens (parts (action_span columns) (line ∷ more))
unfolding row_cells
action-words columns line more = tokens-with_blanks (parts (action_span columns) (line ∷ more))

tokens-skip : (octets : List ℕ) → tokens (32 ∷ octets) ≡ tokens octets
unfolding tokens
tokens-skip octets = refl

tokens-comma : (octets : List ℕ) → tokens (44 ∷ octets) ≡ (44 ∷ []) ∷ tokens octets
unfolding tokens
tokens-comma octets = refl

trimmed-cons : (b : ℕ) (octets : List ℕ) (test : Bool) → is_blank b ≡ test → tokens (trimmed_front octets) ≡ tokens octets → tokens (trimmed_front (b ∷ octets)) ≡ tokens (b ∷ octets)
trimmed-cons b octets true is rest =
    let same : b ≡ 32 = grind (arith, nat_tests) in
    rw is (rest ∙ sym (ap (λ (first : ℕ). tokens (first ∷ octets)) same ∙ tokens-skip octets))
trimmed-cons b octets false is rest = rw is refl

-- blanks in front make no word
pub tokens-trimmed : (octets : List ℕ) → tokens (trimmed_front octets) ≡ tokens octets
tokens-trimmed [] = refl
tokens-trimmed (b ∷ octets) = trimmed-cons b octets (is_blank b) refl (tokens-trimmed octets)

-- where the word in front ends
abbrev pub token_len : List ℕ → ℕ
token_len octets = position_or_len is_token_end octets

-- the word in front is cut from what is behind it
record Cuts (octets : List ℕ) (rest : List (List ℕ)) : Type 0 where
  front : cut (apart octets) ≡ take (token_len octets) octets ∷ rest
  behind : cut (apart (drop (token_len octets) octets)) ≡ [] ∷ rest

cuts-end : (b : ℕ) (octets : List ℕ) (blank comma : Bool) → (b == 32) ≡ blank → (b == 44) ≡ comma → ((rest : List (List ℕ)) × Cuts octets rest) → (rest : List (List ℕ)) × Cuts (b ∷ octets) rest
cuts-end b octets true comma is other rest =
    let same : b ≡ 32 = grind (arith, nat_tests) in
    rw same (cut (apart octets), record { front = refl; behind = refl })
cuts-end b octets false true isnt is rest =
    let same : b ≡ 44 = grind (arith, nat_tests) in
    rw same (cut (44 ∷ 32 ∷ apart octets), record { front = refl; behind = refl })
cuts-end b octets false false isnt other rest =
    let longer : token_len (b ∷ octets) ≡ suc (token_len octets) = rw (isnt, other) (omega arith) in
    let front : cut (apart (b ∷ octets)) ≡ take (token_len (b ∷ octets)) (b ∷ octets) ∷ rest.0 = rw (longer, other, isnt, rest.1.front) refl in
    let behind : cut (apart (drop (token_len (b ∷ octets)) (b ∷ octets))) ≡ [] ∷ rest.0 = rw longer rest.1.behind in
    (rest.0, record { front = front; behind = behind })

cuts : (octets : List ℕ) → (rest : List (List ℕ)) × Cuts octets rest
cuts [] = ([], record { front = refl; behind = refl })
cuts (b ∷ octets) = cuts-end b octets (b == 32) (b == 44) refl refl (cuts octets)

front-word : (octets : List ℕ) (rest : List (List ℕ)) (len : ℕ) → 0 < len → 0 < length octets → filter is_word (take len octets ∷ rest) ≡ take len octets ∷ filter is_word rest
front-word [] rest len some full = absurd (omega arith)
front-word (b ∷ octets) rest zero some full = absurd (omega arith)
front-word (b ∷ octets) rest (suc len) some full = refl

-- the first word of a cell that begins with one
tokens-front : (octets : List ℕ) → 0 < token_len octets → 0 < length octets → tokens octets ≡ take (token_len octets) octets ∷ tokens (drop (token_len octets) octets)
unfolding tokens
tokens-front octets some full =
    let c = cuts octets in
    rw (c.1.front, c.1.behind) (front-word octets c.0 (token_len octets) some full)

position-len : (octets : List ℕ) → unwrap_or (position is_token_end octets) (length octets) ≡ token_len octets
position-len octets =
    let within : token_len octets ≤ length octets = prefix_len-le-length (λ b. not (is_token_end b)) octets in
    elim (cases_lt (token_len octets) (length octets)) [
      | inl below ↦ (let yes : ltb (token_len octets) (length octets) ≡ true = grind (arith, nat_tests) in rw yes refl)
      | inr above ↦ (let isnt : ltb (token_len octets) (length octets) ≡ false = grind (arith, nat_tests) in rw isnt (omega arith))
    ]

begins-by : (first : ℕ) (octets : List ℕ) (b : ℕ) (rest : List ℕ) (test : Bool) → is_blank first ≡ test → (trimmed_front octets ≡ b ∷ rest → is_blank b ≡ false) → trimmed_front (first ∷ octets) ≡ b ∷ rest → is_blank b ≡ false
begins-by first octets b rest true is later found =
    let same : trimmed_front (first ∷ octets) ≡ trimmed_front octets = rw is refl in
    later (sym same ∙ found)
begins-by first octets b rest false is later found =
    let same : trimmed_front (first ∷ octets) ≡ first ∷ octets = rw is refl in
    let cons : first ∷ octets ≡ b ∷ rest = sym same ∙ found in
    let head : first ≡ b = cc in
    rw (← head) is

-- what stands first behind the blanks in front is no blank
begins-apart : (octets : List ℕ) (b : ℕ) (rest : List ℕ) → trimmed_front octets ≡ b ∷ rest → is_blank b ≡ false
begins-apart [] b rest found = cc
begins-apart (first ∷ octets) b rest found = begins-by first octets b rest (is_blank first) refl (begins-apart octets b rest) found

-- a comma in front is a word
pub first-comma : (octets rest : List ℕ) (d : ℕ) → rest ≡ trimmed_front octets → 0 < length rest → get_or rest 0 d ≡ 44 → tokens octets ≡ take 1 rest ∷ tokens (drop 1 rest)
first-comma octets [] d trims some comma = absurd (omega arith)
first-comma octets (b ∷ more) d trims some comma =
    let whole : tokens octets ≡ tokens (b ∷ more) = rw trims (sym (tokens-trimmed octets)) in
    whole ∙ rw comma (tokens-comma more)

-- another word in front goes on up to a blank or a comma
pub first-other : (octets rest : List ℕ) (d len : ℕ) → rest ≡ trimmed_front octets → 0 < length rest → (get_or rest 0 d == 44) ≡ false → len ≡ unwrap_or (position is_token_end rest) (length rest) → tokens octets ≡ take len rest ∷ tokens (drop len rest)
first-other octets [] d len trims some other ends = absurd (omega arith)
first-other octets (b ∷ more) d len trims some other ends =
    let whole : tokens octets ≡ tokens (b ∷ more) = rw trims (sym (tokens-trimmed octets)) in
    let apart : is_blank b ≡ false = begins-apart octets b more (sym trims) in
    let at : len ≡ token_len (b ∷ more) = ends ∙ position-len (b ∷ more) in
    let front : 0 < token_len (b ∷ more) = rw (apart, other) (omega arith) in
    whole ∙ rw at (tokens-front (b ∷ more) front (omega arith))

pub no-word : (octets rest : List ℕ) → rest ≡ trimmed_front octets → length rest ≡ 0 → tokens octets ≡ []
no-word octets [] trims none = sym (tokens-trimmed octets) ∙ rw (← trims) tokens-none
no-word octets (b ∷ rest) trims none = absurd (omega arith)
