-- How many lines a log opens, and its last entry.
use Rattle.std.proofs.Common.{◌≡◌, ◌≤◌, ◌+◌, ◌-◌, ◌++◌, ◌∷◌, ℕ, List, [], Option, Some, None, ◌∙◌, ap, append-nil, arith, length, refl, sym}
use Rattle.std.specs.List.{range_with_len}
use Rattle.std.specs.Prelude.{flat_map, slice_get}
use Rattle.std.proofs.lemmas.Grind.{flat_map-append}
use Rattle.std.proofs.lemmas.List.FromFn.{map-range_with_len_more}
use Rattle.std.proofs.Math.Seq.{get_or-append_seam}
use Rattle.std.proofs.lemmas.List.{length-append, map-id}
use Rattle.std.proofs.lemmas.Option.{slice_get-get_or}
use Rattle.bench_item.specs.declared.entry.Entry.{Entry}
use Rattle.bench_item.specs.declared.entry.Handled.{Handled}
use Rattle.bench_item.specs.declared.item.Item.{Item}
use Rattle.bench_item.specs.declared.item.Item.TheVariants.{ToMachine, ToLine, Dial, Undial, Arm, Disarm}
use Rattle.bench_item.specs.declared.step.Step.{Step}
use Rattle.bench_item.specs.declared.step.Step.TheVariants.{Joined, Dialled, Came, Lost, Told, Fired, Lift, Drop, Work}
use Rattle.bench_spec.specs.Lines.{opened_in, openings}
use Rattle.bench_spec.specs.Taken.{Run, Takes}
use Rattle.bench_spec.proofs.BookLemmas.{entry_of}
use Rattle.bench_script.specs.Ends.{line_text, lines_to}

-- an entry opens one line at most
opened_few : (item : Option Item) (step : Step) (handled : Option Handled) → length (opened_in (entry_of step item handled)) ≤ 1
opened_few item Joined handled = omega arith
opened_few None (Drop s) handled = omega arith
opened_few (Some (ToMachine i)) (Drop s) handled = omega arith
opened_few (Some (ToLine i)) (Drop s) handled = omega arith
opened_few (Some (Dial p g)) (Drop s) handled = omega arith
opened_few (Some (Undial p g)) (Drop s) handled = omega arith
opened_few (Some (Arm m g t)) (Drop s) handled = omega arith
opened_few (Some (Disarm m)) (Drop s) handled = omega arith
opened_few item (Dialled l) handled = omega arith
opened_few item (Came l p) handled = omega arith
opened_few item (Lost l) handled = omega arith
opened_few item (Told d k e) handled = omega arith
opened_few item (Fired m g) handled = omega arith
opened_few item (Lift s) handled = omega arith
opened_few item (Work s) handled = omega arith

-- and a log as many as it has entries
pub openings_few : (log : List Entry) → length (openings log) ≤ length log
openings_few [] = omega arith
openings_few (e ∷ log) =
    omega (arith, opened_few e.item e.step e.handled, openings_few log, length-append (opened_in e) (openings log))

-- the last of entries
pub last_is : (before : List Entry) (entry : Entry) → slice_get (before ++ entry ∷ []) (length (before ++ entry ∷ []) - 1) ≡ Some entry
last_is before entry =
    let count : length (before ++ entry ∷ []) ≡ length before + 1 = length-append before (entry ∷ []) in
    let last : length (before ++ entry ∷ []) - 1 ≡ length before = omega arith in
    rw last (slice_get-get_or (before ++ entry ∷ []) (length before) entry (omega arith) ∙ ap Some (get_or-append_seam before entry [] entry))

-- a step that was taken adds an entry
pub grown_by_one : (old new : Run) (step : Step) → Takes old new step → length new.log ≡ length old.log + 1
grown_by_one old new step taken = ap (λ (run : Run). length run.log) taken.grown ∙ length-append old.log (taken.entry ∷ [])

-- the text of one more line
range_more : (a n : ℕ) → range_with_len a (n + 1) ≡ range_with_len a n ++ (a + n) ∷ []
range_more a n = sym (map-id (range_with_len a (n + 1))) ∙ map-range_with_len_more (λ k. k) a n (a + n) refl ∙ ap (λ (ks : List ℕ). ks ++ (a + n) ∷ []) (map-id (range_with_len a n))

pub no_lines : (run : Run) → lines_to run 0 ≡ []
unfolding lines_to
no_lines run = refl

pub lines_more : (run : Run) (n : ℕ) → lines_to run (n + 1) ≡ lines_to run n ++ line_text run (n + 1)
unfolding lines_to
lines_more run n =
    ap (flat_map (line_text run)) (range_more 1 n) ∙ flat_map-append (line_text run) (range_with_len 1 n) ((1 + n) ∷ [])
    ∙ ap (λ (text : List ℕ). flat_map (line_text run) (range_with_len 1 n) ++ text)
    (append-nil (line_text run (1 + n)) ∙ ap (line_text run) (let e : 1 + n ≡ n + 1 = omega arith in e))
