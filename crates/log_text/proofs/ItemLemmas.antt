-- The line of an item is read.
use Rattle.std.proofs.Common.{◌≡◌, ◌<◌, ◌^◌, ℕ, true, false, cond, List, [], ◌∷◌, ◌++◌, get_or, refl, ap, ◌∙◌, sym, subst, Option, Some, None, arith, append_assoc}
use Rattle.std.specs.Prelude.{IsSomeAnd, codes, decimal, slice_get, nat_lt}
use Rattle.std.specs.List.{position}
use Rattle.std.specs.Str.{bytes_eq}
use Rattle.std.proofs.lemmas.Bool.Decides.{nat_tests}
use Rattle.std.proofs.lemmas.List.{append-nil}
use Rattle.std.proofs.lemmas.Grind.{flat_map-append}
use Rattle.std.proofs.lemmas.Slice.Eq.{bytes_eq-Decides}
use Rattle.std.proofs.lemmas.Option.{get_or_from_slice_get, slice_get-get_or, slice_get_within}
use Rattle.std.proofs.lemmas.List.Quantifiers.{position-Some}
use Rattle.base_list.proofs.NamedLemmas.{position-None}
use Rattle.base_list.specs.declared.named.Named as Named
use Rattle.hex.specs.Hex.{IsBytes}
use Rattle.std.specs.Option.{option_map_or}
use Rattle.base_text.specs.Numbers.{number_of}
use Rattle.text_parts.specs.Pieces.{pieces_in}
use Rattle.event_text.specs.Deeds.{name_or}
use Rattle.bench_item.specs.declared.key.Role.{Role}
use Rattle.step_text.specs.Guess.{rest_of}
use Rattle.step_text.specs.Lines.{behind}
use Rattle.step_text.specs.Names.{key_name, kind_word, shown}
use Rattle.step_text.proofs.DecimalLemmas.{decimal-without, number_of-decimal}
use Rattle.step_text.proofs.GuessLemmas.{key_reads, kind_reads}
use Rattle.step_text.proofs.ShownLemmas.{key_name-bytes}
use Rattle.step_text.proofs.SolidLemmas.{are_solid, is_solid, shown-solid, split-behind}
use Rattle.log_text.specs.Books.{Named}
use Rattle.log_text.specs.EntryLines.{row_text}
use Rattle.log_text.specs.ItemLines.{AreWords, IsItem, IsItemLine, IsRow, behind_two, below, guess_item, item_line, items_in, row_of, state_called}
use Rattle.log_text.specs.declared.item.Who.{Who}
use Rattle.log_text.specs.declared.item.ItemLine.{ItemLine}
use Rattle.log_text.specs.declared.item.ItemLine.TheVariants.{TooBusy, Stale, Moved}

-- the word of a state
abbrev state_word : Named → Role → ℕ → List ℕ
state_word names role state = name_or (slice_get (names.states role) state) state

below_limit : (limit n : ℕ) → n < limit → below limit (Some n) ≡ Some n
below_limit limit n fits = let within : nat_lt n limit ≡ true = grind (arith, nat_tests) in rw within refl

itself : (word : List ℕ) → bytes_eq word word ≡ true
itself word = (bytes_eq-Decides word word).1 refl

-- a state that prints the same word
record Called (names : Named) (role : Role) (word : List ℕ) : Type 0 where
  called : ℕ
  is : state_called names role word ≡ Some called
  same : state_word names role called ≡ word

-- a name's first place
placed : (names : Named) (role : Role) (word : List ℕ) (place : ℕ) → position (λ name. bytes_eq name word) (names.states role) ≡ Some place → place < 256 → Called names role word
placed names role word place found fits =
    let first = position-Some (λ name. bytes_eq name word) (names.states role) place [] found in
    let there = slice_get-get_or (names.states role) place [] first.0 in
    record {
      called = place;
      is = rw found (below_limit 256 place fits);
      same = ap (λ name. name_or name place) there ∙ (bytes_eq-Decides (get_or (names.states role) place []) word).0 first.1;
    }

-- a state with a name
named_calls : (names : Named) (role : Role) (state : ℕ) (name : List ℕ) → state < 256 → slice_get (names.states role) state ≡ Some name → Called names role name
named_calls names role state name fits here = by (position (λ other. bytes_eq other name) (names.states role)) refl
  where
    at_state : get_or (names.states role) state [] ≡ name
    at_state = get_or_from_slice_get (names.states role) state name [] here

    by : (found : Option ℕ) → position (λ other. bytes_eq other name) (names.states role) ≡ found → Called names role name
    by None absent =
        let fails = position-None (λ other. bytes_eq other name) (names.states role) absent state [] (slice_get_within (names.states role) state name here) in
        absurd (cc (fails, ap (λ other. bytes_eq other name) at_state, itself name))
    by (Some place) found =
        let first = position-Some (λ other. bytes_eq other name) (names.states role) place [] found in
        let not_behind : state < place → ⊥ = λ less. cc (first.2 state less, ap (λ other. bytes_eq other name) at_state, itself name) in
        placed names role name place found (grind arith)

-- a state without a name
number_calls : (names : Named) (role : Role) (state : ℕ) → state < 256 → slice_get (names.states role) state ≡ None → Called names role (decimal state)
number_calls names role state fits none = by (position (λ other. bytes_eq other (decimal state)) (names.states role)) refl
  where
    by : (found : Option ℕ) → position (λ other. bytes_eq other (decimal state)) (names.states role) ≡ found → Called names role (decimal state)
    by None absent = record {
      called = state;
      is = rw (absent, number_of-decimal state (omega arith)) (below_limit 256 state fits);
      same = rw none refl;
    }
    by (Some place) found =
        let first = position-Some (λ other. bytes_eq other (decimal state)) (names.states role) place [] found in
        let not_behind : state < place → ⊥ = λ less. cc (none, slice_get-get_or (names.states role) state [] (omega (arith, first.0, less))) in
        placed names role (decimal state) place found (grind arith)

state_calls : (names : Named) (role : Role) (state : ℕ) → state < 256 → Called names role (state_word names role state)
state_calls names role state fits = by (slice_get (names.states role) state) refl
  where
    by : (found : Option (List ℕ)) → slice_get (names.states role) state ≡ found → Called names role (name_or found state)
    by None none = number_calls names role state fits none
    by (Some name) here = named_calls names role state name fits here

-- the words of a line have no blanks
number_solid : (n : ℕ) → n < 2 ^ 64 → is_solid (decimal n) ≡ true
number_solid n fits = decimal-without 32 n refl fits

state_solid : (names : Named) (role : Role) (state : ℕ) → AreWords names → state < 256 → is_solid (state_word names role state) ≡ true
state_solid names role state words fits = by (slice_get (names.states role) state) refl
  where
    by : (found : Option (List ℕ)) → slice_get (names.states role) state ≡ found → is_solid (name_or found state) ≡ true
    by None none = number_solid state (omega arith)
    by (Some name) here =
        subst (λ (word : List ℕ). is_solid word ≡ true) (get_or_from_slice_get (names.states role) state name [] here)
        (words role state [] (slice_get_within (names.states role) state name here))

kind_solid : (names : Named) (kind : ℕ) → IsSomeAnd (slice_get names.names.kinds kind) (λ entry. IsBytes entry.name) → is_solid (kind_word names.names kind) ≡ true
kind_solid names kind is = by (slice_get names.names.kinds kind) is
  where
    by : (found : Option (Named.Named (Unit {0}))) → IsSomeAnd found (λ entry. IsBytes entry.name) → is_solid (option_map_or (λ entry. shown entry.name) found (codes "-")) ≡ true
    by None bytes = absurd bytes
    by (Some entry) bytes = shown-solid entry.name bytes

-- the row of a word
abbrev row_word : Option ℕ → List ℕ
row_word None = codes "-"
row_word (Some row) = decimal row

row_solid : (row : Option ℕ) → IsRow row → is_solid (row_word row) ≡ true
row_solid None is = refl
row_solid (Some row) is = number_solid row (omega arith)

row_reads : (row : Option ℕ) → IsRow row → row_of (row_word row ∷ []) ≡ Some row
unfolding number_of
row_reads None is = refl
row_reads (Some row) is =
    let fits : row < 2 ^ 64 = omega arith in
    rw (no_number (decimal row) row (number_of-decimal row fits), number_of-decimal row fits, below_limit (2 ^ 16) row is) refl
  where
    no_number : (word : List ℕ) (n : ℕ) → number_of word ≡ Some n → bytes_eq word (codes "-") ≡ false
    no_number word n is = elim (bytes_eq word (codes "-")) as (λ b. bytes_eq word (codes "-") ≡ b → b ≡ false) [
      | true ↦ λ e.
          let none : number_of (codes "-") ≡ None = refl in
          absurd (cc (none, subst (λ word. number_of word ≡ Some n) ((bytes_eq-Decides word (codes "-")).0 e) is))
      | false ↦ λ e. refl
    ] refl

-- the words of a line behind its first blank
abbrev words_of : Named → ItemLine → List (List ℕ)
words_of names TooBusy = [] ∷ codes "busy" ∷ []
words_of names (Stale who state) =
    [] ∷ shown (key_name who.key) ∷ kind_word names.names who.kind ∷ state_word names who.key.role state ∷ state_word names who.key.role state ∷ codes "stale" ∷ []
words_of names (Moved who before after row) =
    [] ∷ shown (key_name who.key) ∷ kind_word names.names who.kind ∷ state_word names who.key.role before ∷ state_word names who.key.role after ∷ codes "row" ∷ row_word row ∷ []

-- one word more
behind-more : (words : List (List ℕ)) (word : List ℕ) → behind words ++ (codes " " ++ word) ≡ behind (words ++ word ∷ [])
behind-more words word = ap (λ t. behind words ++ t) (sym (append-nil (codes " " ++ word))) ∙ sym (flat_map-append (λ word. codes " " ++ word) words (word ∷ []))

row_text-words : (words : List (List ℕ)) (row : Option ℕ) → behind words ++ row_text row ≡ behind ((words ++ codes "row" ∷ []) ++ row_word row ∷ [])
row_text-words words row =
    ap (λ t. behind words ++ t) (by row) ∙ sym (append_assoc (behind words) (codes " row") (codes " " ++ row_word row)) ∙ ap (λ t. t ++ (codes " " ++ row_word row)) (behind-more words (codes "row"))
    ∙ behind-more (words ++ codes "row" ∷ []) (row_word row)
  where
    by : (row : Option ℕ) → row_text row ≡ codes " row" ++ (codes " " ++ row_word row)
    by None = refl
    by (Some row) = refl

-- a line is its words, each behind a blank
line-words : (names : Named) (item : ItemLine) → item_line names item ≡ behind (words_of names item)
line-words names TooBusy = refl
line-words names (Stale who state) =
    let first = [] ∷ shown (key_name who.key) ∷ kind_word names.names who.kind ∷ [] in
    let word = state_word names who.key.role state in
    ap (λ t. t ++ (codes " " ++ word) ++ codes " stale") (behind-more first word) ∙ ap (λ t. t ++ codes " stale") (behind-more (first ++ word ∷ []) word)
    ∙ behind-more ((first ++ word ∷ []) ++ word ∷ []) (codes "stale")
line-words names (Moved who before after row) =
    let first = [] ∷ shown (key_name who.key) ∷ kind_word names.names who.kind ∷ [] in
    let one = state_word names who.key.role before in
    let two = state_word names who.key.role after in
    ap (λ t. t ++ (codes " " ++ two) ++ row_text row) (behind-more first one) ∙ ap (λ t. t ++ row_text row) (behind-more (first ++ one ∷ []) two)
    ∙ row_text-words ((first ++ one ∷ []) ++ two ∷ []) row

words-solid : (names : Named) (item : ItemLine) → AreWords names → IsItem names item → are_solid (words_of names item) ≡ true
words-solid names TooBusy words is = refl
words-solid names (Stale who state) words is =
    rw (shown-solid (key_name who.key) (key_name-bytes who.key is.0.name), kind_solid names who.kind is.0.kind, state_solid names who.key.role state words is.1) refl
words-solid names (Moved who before after row) words is =
    rw (
      shown-solid (key_name who.key) (key_name-bytes who.key is.0.name),
      kind_solid names who.kind is.0.kind,
      state_solid names who.key.role before words is.1,
      state_solid names who.key.role after words is.2,
      row_solid row is.3,
    ) refl

-- a guess that prints the same line
pub record Tells (names : Named) (line : List ℕ) (guess : Option ItemLine) : Type 0 where
  pub guessed : ItemLine
  pub is : guess ≡ Some guessed
  pub same : item_line names guessed ≡ line

-- what words are is read
stale_read : (names : Named) (who : Who) (state : ℕ) → IsItem names (Stale who state)
    → Tells names (item_line names (Stale who state)) (items_in names (rest_of (words_of names (Stale who state))))
stale_read names who state is =
    let word = state_word names who.key.role state in
    let kind = kind_reads names.names who.kind (word ∷ word ∷ codes "stale" ∷ []) is.0.kind in
    let called = state_calls names who.key.role state is.1 in
    record {
      guessed = Stale (record { key = who.key; kind = kind.0 }) called.called;
      is = rw (key_reads who.key (kind_word names.names who.kind ∷ word ∷ word ∷ codes "stale" ∷ []) is.0.name, kind.1, called.is) refl;
      same = rw (kind.2, called.same) refl;
    }

moved_read : (names : Named) (who : Who) (before after : ℕ) (row : Option ℕ) → IsItem names (Moved who before after row)
    → Tells names (item_line names (Moved who before after row)) (items_in names (rest_of (words_of names (Moved who before after row))))
moved_read names who before after row is =
    let one = state_word names who.key.role before in
    let two = state_word names who.key.role after in
    let tail = codes "row" ∷ row_word row ∷ [] in
    let kind = kind_reads names.names who.kind (one ∷ two ∷ tail) is.0.kind in
    let first = state_calls names who.key.role before is.1 in
    let second = state_calls names who.key.role after is.2 in
    record {
      guessed = Moved (record { key = who.key; kind = kind.0 }) first.called second.called row;
      is = rw (key_reads who.key (kind_word names.names who.kind ∷ one ∷ two ∷ tail) is.0.name, kind.1, first.is, second.is, row_reads row is.3) refl;
      same = rw (kind.2, first.same, second.same) refl;
    }

-- the guess of a line that is cut so
cut_so : (names : Named) (line : List ℕ) (words : List (List ℕ)) → pieces_in 32 line ≡ [] ∷ [] ∷ words → Tells names line (items_in names words) → Tells names line (guess_item names line)
cut_so names line words cut read =
    elim (bytes_eq line (codes "  busy")) as (λ b. bytes_eq line (codes "  busy") ≡ b → Tells names line (cond b (Some TooBusy) (behind_two names (pieces_in 32 line)))) [
      | true ↦ λ e. record { guessed = TooBusy; is = refl; same = sym ((bytes_eq-Decides line (codes "  busy")).0 e) }
      | false ↦ λ e. record { guessed = read.guessed; is = ap (behind_two names) cut ∙ read.is; same = read.same }
    ] refl

-- the line of an item is read as one that has it
pub line_reads : (names : Named) (item : ItemLine) → AreWords names → IsItem names item → Tells names (item_line names item) (guess_item names (item_line names item))
line_reads names item words is = by item is (cut item is)
  where
    cut : (item : ItemLine) → IsItem names item → pieces_in 32 (item_line names item) ≡ [] ∷ words_of names item
    cut item is = ap (pieces_in 32) (line-words names item) ∙ split-behind [] (words_of names item) refl (words-solid names item words is)

    by : (item : ItemLine) → IsItem names item → pieces_in 32 (item_line names item) ≡ [] ∷ words_of names item → Tells names (item_line names item) (guess_item names (item_line names item))
    by TooBusy is cut = record { guessed = TooBusy; is = refl; same = refl }
    by (Stale who state) is cut = cut_so names (item_line names (Stale who state)) (rest_of (words_of names (Stale who state))) cut (stale_read names who state is)
    by (Moved who before after row) is cut =
        cut_so names (item_line names (Moved who before after row)) (rest_of (words_of names (Moved who before after row))) cut (moved_read names who before after row is)

-- no item has a line that can tell none
pub no_guess : (names : Named) (line : List ℕ) → guess_item names line ≡ None → AreWords names → IsItemLine names line → ⊥
no_guess names line none words is =
    let read = line_reads names is.item words is.is in
    cc (sym none ∙ ap (guess_item names) (sym is.has) ∙ read.is)

-- nor one that can only tell an item of another line
pub other_guess : (names : Named) (line : List ℕ) (guess : ItemLine) → guess_item names line ≡ Some guess → bytes_eq (item_line names guess) line ≡ false
    → AreWords names → IsItemLine names line → ⊥
other_guess names line guess some other words is =
    let read = line_reads names is.item words is.is in
    let one : guess ≡ read.guessed = some_is guess read.guessed (sym some ∙ ap (guess_item names) (sym is.has) ∙ read.is) in
    let has : item_line names guess ≡ line = ap (item_line names) one ∙ read.same ∙ is.has in
    cc (sym other ∙ (bytes_eq-Decides (item_line names guess) line).1 has)
  where
    some_is : (a b : ItemLine) → Some a ≡ Some b → a ≡ b
    some_is a b e = cc
