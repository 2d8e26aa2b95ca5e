-- The step that a printed line can be is one that prints so.
use Rattle.std.proofs.Common.{◌≡◌, ◌≢◌, ◌<◌, ℕ, ◌==◌, Bool, true, false, cond, List, [], ◌∷◌, length, get_or, refl, ap, ◌∙◌, sym, subst, Option, Some, None, arith}
use Rattle.std.specs.Prelude.{IsSomeAnd, codes, decimal, find, slice_get, option_map, option_and_then}
use Rattle.std.specs.Str.{bytes_eq}
use Rattle.std.specs.Option.{option_map_or}
use Rattle.std.proofs.lemmas.Bool.{eqb-true}
use Rattle.std.proofs.lemmas.Slice.Eq.{bytes_eq-Decides}
use Rattle.std.proofs.lemmas.Option.{get_or_from_slice_get, slice_get-get_or, slice_get_within}
use Rattle.std.proofs.lemmas.List.Folds.{find_at}
use Rattle.std.proofs.lemmas.List.Quantifiers.{position-Some}
use Rattle.base_list.proofs.NamedLemmas.{entry_of-place, position-None}
use Rattle.hex.specs.Hex.{IsBytes}
use Rattle.hex.proofs.HexLemmas.{decode_of-encode_lower}
use Rattle.base_list.specs.Named.{entry_of, place_of, HasOwnNames}
use Rattle.base_list.specs.declared.named.Named.{Named}
use Rattle.text_parts.specs.Pieces.{pieces_in}
use Rattle.tab_step.specs.declared.machine.Event.{Event}
use Rattle.bench_item.specs.declared.key.Key.{Key}
use Rattle.bench_item.specs.declared.source.Source.{Source}
use Rattle.bench_item.specs.declared.source.Source.TheVariants.{Line, Shard, Desk, Clock}
use Rattle.bench_item.specs.declared.step.Step.{Step}
use Rattle.bench_item.specs.declared.step.Step.TheVariants as step
use Rattle.step_text.specs.Commands.{name_of, which}
use Rattle.step_text.specs.Guess.{decoded, first_key, guess_of, key_of, kind_of, machine_of, piece_of, source_of}
use Rattle.step_text.specs.Lines.{fact_words, line_of, others_of, piece_words, source_words}
use Rattle.step_text.specs.Names.{Names, key_name, kind_word, machine_word, shown}
use Rattle.step_text.specs.Steps.{IsSource, IsStep, IsTold, guess_line, guess_words}
use Rattle.step_text.proofs.DecimalLemmas.{number_of-decimal, small-decimal}
use Rattle.step_text.proofs.FactLemmas.{facts_in-words}
use Rattle.step_text.proofs.ShownLemmas.{key_name-bytes, key_of-name, unshown-shown}
use Rattle.step_text.proofs.SolidLemmas.{split-behind}
use Rattle.step_text.proofs.WordsLemmas.{command_of-name, name-solid, others-solid}

-- a guess that prints the same words
pub record Prints (names : Names) (step : Step) (guess : Option Step) : Type 0 where
  pub guessed : Step
  pub is : guess ≡ Some guessed
  pub same : line_of names guessed ≡ line_of names step

itself : (names : Names) (step : Step) (guess : Option Step) → guess ≡ Some step → Prints names step guess
itself names step guess is = record { guessed = step; is = is; same = refl }

piece_reads : (piece : List ℕ) → IsBytes piece → piece_of (piece_words piece) ≡ Some piece
piece_reads [] bytes = refl
piece_reads (c ∷ piece) bytes = ap decoded (decode_of-encode_lower (c ∷ piece) bytes)

source_reads : (source : Source) → IsSource source → source_of (source_words source) ≡ Some source
source_reads (Line line) fits = ap (option_map Line) (small-decimal line [] fits)
source_reads (Shard shard) fits = ap (option_map Shard) (small-decimal shard [] fits)
source_reads (Desk desk) fits = ap (option_map Desk) (small-decimal desk [] fits)
source_reads Clock fits = refl

pub key_reads : (key : Key) (words : List (List ℕ)) → IsBytes key.name → first_key (shown (key_name key) ∷ words) ≡ Some key
key_reads key words bytes = ap key_of (unshown-shown (key_name key) (key_name-bytes key bytes)) ∙ key_of-name key

-- where an entry's name stands first, an entry of that name stands
pub record Stands {T : Type 0} (name : List ℕ) (entries : List (Named T)) : Type 0 where
  pub place : ℕ
  pub entry : Named T
  pub is : place_of name entries ≡ Some place
  pub there : slice_get entries place ≡ Some entry
  pub named : entry.name ≡ name

stands : {T : Type 0} (entries : List (Named T)) (k : ℕ) (e : Named T) → slice_get entries k ≡ Some e → Stands e.name entries
stands {T} entries k e here = by (place_of e.name entries) refl
  where
    by : (found : Option ℕ) → place_of e.name entries ≡ found → Stands e.name entries
    by None absent =
        let fails = position-None (λ entry. bytes_eq entry.name e.name) entries absent k e (slice_get_within entries k e here) in
        let is : get_or entries k e ≡ e = get_or_from_slice_get entries k e e here in
        let passes : bytes_eq e.name e.name ≡ true = (bytes_eq-Decides e.name e.name).1 refl in
        absurd (cc (ap (λ (entry : Named T). bytes_eq entry.name e.name) is))
    by (Some place) here_it_is =
        let first = position-Some (λ entry. bytes_eq entry.name e.name) entries place e here_it_is in
        record {
          place = place;
          entry = get_or entries place e;
          is = here_it_is;
          there = slice_get-get_or entries place e first.0;
          named = (bytes_eq-Decides (get_or entries place e).name e.name).0 first.1;
        }

-- where names differ, an entry stands under its name
own_entry : (entries : List (Named ℕ)) (k : ℕ) (e : Named ℕ) → HasOwnNames entries → slice_get entries k ≡ Some e → entry_of e.name entries ≡ Some e
own_entry entries k e own here =
    let found = stands entries k e here in
    let within : k < length entries = slice_get_within entries k e here in
    let found_within : found.place < length entries = slice_get_within entries found.place found.entry found.there in
    let at_k : get_or entries k e ≡ e = get_or_from_slice_get entries k e e here in
    let at_found : get_or entries found.place e ≡ found.entry = get_or_from_slice_get entries found.place found.entry e found.there in
    let names : (get_or entries found.place e).name ≡ (get_or entries k e).name =
    ap (λ (entry : Named ℕ). entry.name) at_found ∙ found.named ∙ ap (λ (entry : Named ℕ). entry.name) (sym at_k) in
    let not_before : found.place < k → ⊥ = λ less. own found.place k e less within names in
    let not_behind : k < found.place → ⊥ = λ less. own k found.place e less found_within (sym names) in
    let same : found.place ≡ k = grind arith in
    entry_of-place e.name entries found.place found.is ∙ ap (slice_get entries) same ∙ here

-- what a search finds passes
pub passes : {T : Type 0} (p : T → Bool) (xs : List T) (x : T) → find p xs ≡ Some x → p x ≡ true
passes p [] x found = absurd (cc)
passes p (y ∷ xs) x found = elim (p y) as (λ b. p y ≡ b → cond b (Some y) (find p xs) ≡ Some x → p x ≡ true) [
  | true ↦ λ e h. subst (λ z. p z ≡ true) (some-is y x h) e
  | false ↦ λ e h. passes p xs x h
] refl found
  where
    some-is : {X : Type 0} (a b : X) → Some a ≡ Some b → a ≡ b
    some-is a b e = cc

-- a machine that has a number is read
machine_reads : (names : Names) (machine : ℕ) (words : List (List ℕ)) → HasOwnNames names.machines
    → IsSomeAnd (find (λ entry. entry.value == machine) names.machines) (λ entry. IsBytes entry.name)
    → machine_of names.machines (machine_word names machine ∷ words) ≡ Some machine
machine_reads names machine words own known = by (find (λ entry. entry.value == machine) names.machines) refl known
  where
    by : (found : Option (Named ℕ)) → find (λ entry. entry.value == machine) names.machines ≡ found → IsSomeAnd found (λ entry. IsBytes entry.name)
        → machine_of names.machines (option_map_or (λ entry. shown entry.name) found (codes "-") ∷ words) ≡ Some machine
    by None is bytes = absurd bytes
    by (Some entry) is bytes =
        let at = sym (find_at (λ (entry : Named ℕ). entry.value == machine) names.machines) ∙ is in
        let stands_so : entry_of entry.name names.machines ≡ Some entry = own_entry names.machines _ entry own at in
        let value : entry.value ≡ machine = eqb-true entry.value machine (passes (λ entry. entry.value == machine) names.machines entry is) in
        ap (λ name. option_map (λ (entry : Named ℕ). entry.value) (entry_of name names.machines)) (unshown-shown entry.name bytes)
        ∙ ap (option_map (λ (entry : Named ℕ). entry.value)) stands_so ∙ ap Some value

-- a kind that has a place is read as one of its name
pub kind_reads : (names : Names) (kind : ℕ) (words : List (List ℕ)) → IsSomeAnd (slice_get names.kinds kind) (λ entry. IsBytes entry.name)
    → (place : ℕ) × (kind_of names.kinds (kind_word names kind ∷ words) ≡ Some place) × (kind_word names place ≡ kind_word names kind)
kind_reads names kind words known = by (slice_get names.kinds kind) refl known
  where
    by : (found : Option (Named (Unit {0}))) → slice_get names.kinds kind ≡ found → IsSomeAnd found (λ entry. IsBytes entry.name)
        → (place : ℕ) × (kind_of names.kinds (option_map_or (λ entry. shown entry.name) found (codes "-") ∷ words) ≡ Some place) × (kind_word names place ≡ option_map_or (λ entry. shown entry.name) found (codes "-"))
    by None is bytes = absurd bytes
    by (Some entry) is bytes =
        let found = stands names.kinds kind entry is in (
          found.place,
          ap (λ name. place_of name names.kinds) (unshown-shown entry.name bytes) ∙ found.is,
          ap (λ (o : Option (Named (Unit {0}))). option_map_or (λ entry. shown entry.name) o (codes "-")) found.there ∙ ap shown found.named,
        )

told_reads : (names : Names) (desk : ℕ) (key : Key) (event : Event) → IsTold names desk key event
    → Prints names (step.Told desk key event) (guess_of names (which (step.Told desk key event)) (others_of names (step.Told desk key event)))
told_reads names desk key event is =
    let kind = kind_reads names event.kind (fact_words 0 event.facts) is.kind in
    let facts = facts_in-words event.facts is.places is.values in
    record {
      guessed = step.Told desk key (record { kind = kind.0; facts = event.facts });
      is = rw (
        small-decimal desk (shown (key_name key) ∷ kind_word names event.kind ∷ fact_words 0 event.facts) is.desk_fits,
        key_reads key (kind_word names event.kind ∷ fact_words 0 event.facts) is.name,
        kind.1,
        facts,
      ) refl;
      same = rw kind.2 refl;
    }

-- what a step's words are is read
reads : (names : Names) (step : Step) → HasOwnNames names.machines → IsStep names step → Prints names step (guess_of names (which step) (others_of names step))
reads names step.Joined own is = itself names step.Joined _ refl
reads names (step.Dialled line) own is = itself names (step.Dialled line) _ (ap (option_map step.Dialled) (small-decimal line [] is))
reads names (step.Came line piece) own is =
    itself names (step.Came line piece) _ (rw (small-decimal line (piece_words piece) is.0, piece_reads piece is.1) refl)
reads names (step.Lost line) own is = itself names (step.Lost line) _ (ap (option_map step.Lost) (small-decimal line [] is))
reads names (step.Told desk key event) own is = told_reads names desk key event is
reads names (step.Fired machine generation) own is =
    itself names (step.Fired machine generation) _
    (rw (machine_reads names machine (decimal generation ∷ []) own is.known, number_of-decimal generation is.generation_fits) refl)
reads names (step.Lift source) own is = itself names (step.Lift source) _ (ap (option_map step.Lift) (source_reads source is))
reads names (step.Drop source) own is = itself names (step.Drop source) _ (ap (option_map step.Drop) (source_reads source is))
reads names (step.Work shard) own is = itself names (step.Work shard) _ (ap (option_map step.Work) (small-decimal shard [] is))

-- a line that a step has is read as one that has it
pub line_reads : (names : Names) (step : Step) → HasOwnNames names.machines → IsStep names step → Prints names step (guess_line names (line_of names step))
line_reads names step own is =
    let cut : pieces_in 32 (line_of names step) ≡ name_of (which step) ∷ others_of names step =
    split-behind (name_of (which step)) (others_of names step) (name-solid (which step)) (others-solid names step is) in
    let guess : guess_line names (line_of names step) ≡ guess_of names (which step) (others_of names step) =
    ap (guess_words names) cut ∙ ap (option_and_then (λ command. guess_of names command (others_of names step))) (command_of-name (which step)) in
    let read = reads names step own is in
    record { guessed = read.guessed; is = guess ∙ read.is; same = read.same }

-- no step has a line that can be none
pub no_guess : (names : Names) (line : List ℕ) → HasOwnNames names.machines → guess_line names line ≡ None
    → (step : Step) → IsStep names step → line_of names step ≢ line
no_guess names line own none step is same =
    let read = line_reads names step own is in
    cc (sym none ∙ ap (guess_line names) (sym same) ∙ read.is)

-- nor one that can only be a step of another line
pub other_guess : (names : Names) (line : List ℕ) (guess : Step) → HasOwnNames names.machines → guess_line names line ≡ Some guess
    → bytes_eq (line_of names guess) line ≡ false → (step : Step) → IsStep names step → line_of names step ≢ line
other_guess names line guess own some other step is same =
    let read = line_reads names step own is in
    let one : guess ≡ read.guessed = some_is guess read.guessed (sym some ∙ ap (guess_line names) (sym same) ∙ read.is) in
    let has : line_of names guess ≡ line = ap (line_of names) one ∙ read.same ∙ same in
    let passes : bytes_eq (line_of names guess) line ≡ true = (bytes_eq-Decides (line_of names guess) line).1 has in
    cc (sym other ∙ passes)
  where
    some_is : (a b : Step) → Some a ≡ Some b → a ≡ b
    some_is a b e = cc
