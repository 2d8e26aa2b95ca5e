-- What one more entry is to a line that is there.
use Rattle.std.proofs.Common.{◌≡◌, ◌<◌, ◌≤◌, ℕ, ◌+◌, ◌-◌, List, [], ◌∷◌, ◌++◌, length, Bool, true, false, Option, Some}
use Rattle.std.proofs.Common.{None, refl, ◌∙◌, ap, arith}
use Rattle.std.specs.Prelude.{◌==◌, flat_map}
use Rattle.std.proofs.lemmas.Bool.Decides.{nat_tests}
use Rattle.std.proofs.lemmas.List.{length-append}
use Rattle.bench_item.specs.declared.entry.Entry.{Entry}
use Rattle.bench_item.specs.declared.entry.Handled.{Handled}
use Rattle.bench_item.specs.declared.item.Item.{Item}
use Rattle.bench_item.specs.declared.item.Item.TheVariants.{ToMachine, ToLine, Dial, Undial, Arm, Disarm}
use Rattle.bench_item.specs.declared.step.Step.{Step}
use Rattle.bench_item.specs.declared.step.Step.TheVariants.{Joined, Dialled, Came, Lost, Told, Fired, Lift, Drop, Work}
use Rattle.bench_spec.specs.Lines.{line_step, line_steps, opened_in, openings, since_opening}
use Rattle.bench_spec.proofs.AfterLemmas.{flat_map-snoc}
use Rattle.bench_spec.proofs.BookLemmas.{entry_of}

-- an entry opens one line at most
dropped_few : (item : Option Item) (source : Step) (handled : Option Handled)
    → length (opened_in (entry_of source item handled)) ≤ 1
dropped_few item Joined handled = omega arith
dropped_few None (Drop s) handled = omega arith
dropped_few (Some (ToMachine i)) (Drop s) handled = omega arith
dropped_few (Some (ToLine i)) (Drop s) handled = omega arith
dropped_few (Some (Dial p g)) (Drop s) handled = omega arith
dropped_few (Some (Undial p g)) (Drop s) handled = omega arith
dropped_few (Some (Arm m g t)) (Drop s) handled = omega arith
dropped_few (Some (Disarm m)) (Drop s) handled = omega arith
dropped_few item (Dialled l) handled = omega arith
dropped_few item (Came l p) handled = omega arith
dropped_few item (Lost l) handled = omega arith
dropped_few item (Told d k e) handled = omega arith
dropped_few item (Fired m g) handled = omega arith
dropped_few item (Lift s) handled = omega arith
dropped_few item (Work s) handled = omega arith

-- the entries behind the one that opened a line
since-snoc : (log : List Entry) (e : Entry) (line : ℕ) → 0 < line → line ≤ length (openings log)
    → since_opening line (log ++ e ∷ []) ≡ since_opening line log ++ e ∷ []
since-snoc [] e line some within = absurd (omega (arith, some, within))
since-snoc (x ∷ log) e line some within =
    by (since-snoc log e (line - length (opened_in x))) (line == length (opened_in x)) refl
  where
    one : length (opened_in x) ≤ 1
    one = dropped_few x.item x.step x.handled

    joined : line ≤ length (opened_in x) + length (openings log)
    joined = omega (arith, within, length-append (opened_in x) (openings log))

    by : (0 < line - length (opened_in x) → line - length (opened_in x) ≤ length (openings log)
        → since_opening (line - length (opened_in x)) (log ++ e ∷ []) ≡ since_opening (line - length (opened_in x)) log
        ++ e ∷ []) → (b : Bool) → (line == length (opened_in x)) ≡ b
        → since_opening line ((x ∷ log) ++ e ∷ []) ≡ since_opening line (x ∷ log) ++ e ∷ []
    by later true is = rw is refl
    by later false is =
        let beyond : length (opened_in x) < line = grind (arith, nat_tests, is, some, one) in
        rw is (later (omega (arith, beyond)) (omega (arith, joined)))

-- what happened to a line that is there, with one more entry
pub line_steps-snoc : (log : List Entry) (e : Entry) (line : ℕ) → 0 < line → line ≤ length (openings log)
    → line_steps (log ++ e ∷ []) line ≡ line_steps log line ++ line_step line e
line_steps-snoc log e line some within =
    ap (flat_map (line_step line)) (since-snoc log e line some within)
    ∙ flat_map-snoc (line_step line) (since_opening line log) e
