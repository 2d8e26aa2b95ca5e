use Rattle.std.proofs.Common.{◌≡◌, ℕ, ◌<◌, ◌≤◌, ◌&&◌, Bool, true, false, List, [], Option, Some, None, length, get_or, arith, refl, sym, subst, ap, ◌∙◌, ◌⊎◌, inl, inr}
use Rattle.std.specs.Prelude.{◌==◌}
use Rattle.std.specs.List.{slice_get, list_all}
use Rattle.std.specs.Option.{option_map_or}
use Rattle.std.specs.Str.{bytes_eq}
use Rattle.std.proofs.lemmas.Bool.{ne_eqb, cases_lt}
use Rattle.std.proofs.lemmas.List.Elements.{All-get_or}
use Rattle.std.proofs.lemmas.List.FromFn.{length-map-range_with_len}
use Rattle.std.proofs.lemmas.Nat.{mul-add-lt}
use Rattle.std.proofs.lemmas.Option.{slice_get-get_or}
use Rattle.std.proofs.lemmas.Slice.Eq.{bytes_eq-Decides}
use Rattle.base_list.specs.declared.named.Named.{Named}
use Rattle.base_list.proofs.NamedLemmas.{position-None}
use Rattle.tab_law.specs.Books.{Laws, named_answer}
use Rattle.tab_law.specs.declared.scene.Scene.{Scene}
use Rattle.tab_law.specs.declared.scene.Deed.{Deed}
use Rattle.tab_text.specs.Contents.{Contents, IsRowOf, IsTable}
use Rattle.tab_text.specs.declared.row.Row.{Row}
use Rattle.tab_step.specs.Moves.{name_at, matches, pick, is_kind_of, scene_of, row_taken, IsStep}
use Rattle.tab_step.specs.declared.machine.MachineState.{MachineState}
use Rattle.tab_step.specs.declared.machine.Event.{Event}
use Rattle.tab_step.specs.declared.machine.Stepped.{Stepped}
use Rattle.tab_step.proofs.MoveLemmas.{first-none, no_row}
use Rattle.tab_asm.specs.Formats.{format_2}
use Rattle.tab_asm.specs.Images.{Image}
use Rattle.tab_asm.specs.Paths.{Reaches}
use Rattle.tab_asm.specs.Assembled.{entry_number, entry_offset, entry_count, image_of, outcome_of, Means}
use Rattle.tab_load.specs.Loading.{Loaded}
use Rattle.tab_load.specs.declared.counts.Format.TheVariants.{Two}
use Rattle.tab_image.specs.RunBy.{number_of, entry_of, says, Leads, Leaves, IsRunBy}
use Rattle.tab_image.proofs.EntryLemmas.{entry-past, entry-none, entry-some, number-in}

-- a kind of a book is one of the name that is its own
one-name : (laws : Laws) (table : Contents) (state kind : ℕ) (name : List ℕ) (answers : List ℕ → Bool) → is_kind_of laws kind name ≡ true → pick table state (bytes_eq name) answers ≡ pick table state (is_kind_of laws kind) answers
one-name laws table state kind name answers is = by_entry (slice_get laws.kinds kind) refl
  where
    by_entry : (entry : Option (Named (Unit {0}))) → slice_get laws.kinds kind ≡ entry → pick table state (bytes_eq name) answers ≡ pick table state (is_kind_of laws kind) answers
    by_entry None got = let no = rw got at is in cc
    by_entry (Some entry) got =
        let own : bytes_eq entry.name name ≡ true = rw got at is in
        let same : name ≡ entry.name = sym ((bytes_eq-Decides entry.name name).0 own) in
        ap (λ (n : List ℕ). pick table state (bytes_eq n) answers) same
        ∙ ap (λ (o : Option (Named (Unit {0}))). pick table state (λ n. option_map_or (λ e. bytes_eq e.name n) o false) answers) (sym got)

-- no row is picked of a state that the table lacks
no-state : (table : Contents) (state : ℕ) (is_kind answers : List ℕ → Bool) → IsTable table → length table.states ≤ state → pick table state is_kind answers ≡ None
no-state table state is_kind answers is past =
    first-none (matches table state is_kind answers) table.rows 0 no_row
    (λ k below.
    let row = get_or table.rows k no_row in
    let within = (All-get_or (IsRowOf table) table.rows k no_row below is.each_row).state in
    let other : (row.state == state) ≡ false = ne_eqb row.state state (λ same. omega arith) in
    rw other refl)

-- nor of a kind that it lacks
no-kind : (table : Contents) (state : ℕ) (is_kind answers : List ℕ → Bool) → IsTable table → ((number : ℕ) → number < length table.kinds → is_kind (name_at table.kinds number) ≡ false) → pick table state is_kind answers ≡ None
no-kind table state is_kind answers is none =
    first-none (matches table state is_kind answers) table.rows 0 no_row
    (λ k below.
    let row = get_or table.rows k no_row in
    let within = (All-get_or (IsRowOf table) table.rows k no_row below is.each_row).kind in
    let other : is_kind (name_at table.kinds row.kind) ≡ false = none row.kind within in
    rw other (both-no (row.state == state) (list_all (λ guard. answers (name_at table.guards guard)) row.guards)))
  where
    both-no : (a b : Bool) → (a && false && b) ≡ false
    both-no true b = refl
    both-no false b = refl

-- the entry of a state and a kind leads to the row of the text: where the table has both
there-leads : (laws : Laws) (table : Contents) (state kind number : ℕ) (scene : Scene) → Means (image_of table) table → state < length table.states → number_of laws (image_of table) kind ≡ Some number → Reaches format_2 (image_of table).code (says laws (image_of table) scene) (entry_of laws (image_of table) state kind) (outcome_of (pick table state (is_kind_of laws kind) (named_answer laws scene)))
there-leads laws table state kind number scene means within some =
    let image = image_of table in
    let found = number-in laws image kind number some in
    let entry = entry_number table state number in
    let long = length-map-range_with_len (entry_offset table) 0 (entry_count table) in
    let below : entry < length image.entries = omega (arith, long, mul-add-lt state (length table.kinds) number (length table.states) within found.0) in
    let got = slice_get-get_or image.entries entry None below in
    let reached = means state number (named_answer laws scene) within found.0 (get_or image.entries entry None) got in
    rw (entry-some laws image state kind number within some, ← one-name laws table state kind (name_at table.kinds number) (named_answer laws scene) found.1) reached

-- where it lacks the state or the kind, no row is picked
nowhere-leads : (laws : Laws) (table : Contents) (state kind : ℕ) (scene : Scene) → entry_of laws (image_of table) state kind ≡ None → pick table state (is_kind_of laws kind) (named_answer laws scene) ≡ None → Reaches format_2 (image_of table).code (says laws (image_of table) scene) (entry_of laws (image_of table) state kind) (outcome_of (pick table state (is_kind_of laws kind) (named_answer laws scene)))
nowhere-leads laws table state kind scene no_entry no_pick = rw (no_entry, no_pick) refl

text-leads : (laws : Laws) (table : Contents) (state kind : ℕ) (scene : Scene) → IsTable table → Means (image_of table) table → Reaches format_2 (image_of table).code (says laws (image_of table) scene) (entry_of laws (image_of table) state kind) (outcome_of (pick table state (is_kind_of laws kind) (named_answer laws scene)))
text-leads laws table state kind scene is means = by_state (cases_lt state (length table.states))
  where
    by_number : state < length table.states → (number : Option ℕ) → number_of laws (image_of table) kind ≡ number → Reaches format_2 (image_of table).code (says laws (image_of table) scene) (entry_of laws (image_of table) state kind) (outcome_of (pick table state (is_kind_of laws kind) (named_answer laws scene)))
    by_number within (Some number) some = there-leads laws table state kind number scene means within some
    by_number within None none =
        nowhere-leads laws table state kind scene (entry-none laws (image_of table) state kind within none) (no-kind table state (is_kind_of laws kind) (named_answer laws scene) is (λ number below. position-None (is_kind_of laws kind) table.kinds none number [] below))

    by_state : (state < length table.states) ⊎ (length table.states ≤ state) → Reaches format_2 (image_of table).code (says laws (image_of table) scene) (entry_of laws (image_of table) state kind) (outcome_of (pick table state (is_kind_of laws kind) (named_answer laws scene)))
    by_state (inl within) = by_number within (number_of laws (image_of table) kind) refl
    by_state (inr past) =
        nowhere-leads laws table state kind scene (entry-past laws (image_of table) state kind past) (no-state table state (is_kind_of laws kind) (named_answer laws scene) is past)

-- what an event leaves by the outcome of a row is a step by it
text-step : (Answers : List ℕ → Scene → List ℕ → List Deed → Type 0) (laws : Laws) (table : Contents) (image : Image) (s : MachineState) (e : Event) (stepped : Stepped) (taken : Option (ℕ × Row)) → image.actions ≡ table.actions → row_taken table laws s e ≡ taken → Leaves Answers image s e (outcome_of taken) stepped → IsStep Answers table laws s e stepped
text-step Answers laws table image s e stepped None actions is left = record { row = rw is left.no_row; moves = rw is left.stays }
text-step Answers laws table image s e stepped (Some numbered) actions is left = record {
  row = rw is left.row_is;
  moves = rw is (record { state = left.state; runs = rw (← actions) left.runs; regs = left.regs });
}

-- a step by the image of a table is a step by its text
pub text-is : (Answers : List ℕ → Scene → List ℕ → List Deed → Type 0) (laws : Laws) (program : Loaded) (table : Contents) (s : MachineState) (e : Event) (stepped : Stepped) → IsRunBy Answers program laws s e stepped → IsTable table → program.format ≡ Two → program.image ≡ image_of table → Means program.image table → IsStep Answers table laws s e stepped
text-is Answers laws program table s e stepped run is two same means =
    let turned = subst (λ (image : Image). Means image table) same means in
    let scene = scene_of s.regs e.facts in
    let taken = row_taken table laws s e in
    let leads : Leads program laws s e (outcome_of taken) = rw (two, same) (text-leads laws table s.state e.kind scene is turned) in
    let outcome = run.only (outcome_of taken) leads in
    text-step Answers laws table program.image s e stepped taken (ap (λ (image : Image). image.actions) same) refl (rw outcome run.leaves)
