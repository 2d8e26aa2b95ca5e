-- How many items of each line were lifted, with one more entry, and which is next.
use Rattle.std.proofs.Common.{◌≡◌, ◌+◌, ◌-◌, ◌<◌, ℕ, zero, suc, List, [], ◌∷◌, ◌++◌, length, length-append, Bool, true, false, Option, Some, None, refl, sym, ◌∙◌, ap, lt-ltb, arith}
use Rattle.std.specs.Prelude.{◌==◌, map, nat_lt, option_map, slice_get, unwrap_or, if◌then◌else◌}
use Rattle.std.specs.Option.{option_and_then, option_map_or}
use Rattle.std.proofs.lemmas.Bool.Decides.{nat_tests}
use Rattle.std.proofs.lemmas.List.{append-nil}
use Rattle.std.proofs.lemmas.Option.{slice_get-map, slice_get_within}
use Rattle.bench_item.specs.declared.entry.Entry.{Entry}
use Rattle.bench_item.specs.declared.entry.Handled.{Handled}
use Rattle.bench_item.specs.declared.item.Item.{Item}
use Rattle.bench_item.specs.declared.source.Source.TheVariants.{Line}
use Rattle.bench_item.specs.declared.step.Step.TheVariants.{Lift}
use Rattle.bench_line.specs.Line.{LineView}
use Rattle.bench_line.specs.Lines.{AreLinesAfter, lifted_on, lifted_one, line_at, next_on, with_line, with_line_at}
use Rattle.bench_line.specs.Talk.{Meaning}
use Rattle.bench_spec.specs.Items.{lifted}
use Rattle.bench_spec.proofs.BookLemmas.{entry_of}
use Rattle.bench_views.specs.Carried.{lifts}
use Rattle.bench_views.specs.LineLifts.{IsLiftedSo}
use Rattle.bench_views.specs.LinePasts.{line_posts_by, pasts_of}
use Rattle.bench_views.proofs.LineStands.{outbox_on-stands}
use Rattle.bench_views.proofs.Order.{lifted-snoc}

-- the count of a number among these, 0 where there is none
abbrev count_on : List ℕ → ℕ → ℕ
count_on counts line = unwrap_or (if line == 0 then None else slice_get counts (line - 1)) 0

lifted_on-count : (ls : List LineView) (line : ℕ) → lifted_on ls line ≡ count_on (map (λ l. l.lifted) ls) line
lifted_on-count ls line = by (line == 0)
  where
    mapped : (o : Option LineView) → option_map_or (λ l. l.lifted) o 0 ≡ unwrap_or (option_map (λ l. l.lifted) o) 0
    mapped None = refl
    mapped (Some l) = refl

    by : (b : Bool) → option_map_or (λ l. l.lifted) (if b then None else slice_get ls (line - 1)) 0
        ≡ unwrap_or (if b then None else slice_get (map (λ l. l.lifted) ls) (line - 1)) 0
    by true = refl
    by false =
        mapped (slice_get ls (line - 1))
        ∙ ap (λ o. unwrap_or o 0) (sym (slice_get-map (λ (l : LineView). l.lifted) ls (line - 1)))

count_on-push : (counts : List ℕ) (line : ℕ) → count_on (counts ++ 0 ∷ []) line ≡ count_on counts line
count_on-push counts line = by (line == 0)
  where
    behind : (cs : List ℕ) (place : ℕ) → unwrap_or (slice_get (cs ++ 0 ∷ []) place) 0 ≡ unwrap_or (slice_get cs place) 0
    behind [] zero = refl
    behind [] (suc place) = refl
    behind (c ∷ cs) zero = refl
    behind (c ∷ cs) (suc place) = behind cs place

    by : (b : Bool) → unwrap_or (if b then None else slice_get (counts ++ 0 ∷ []) (line - 1)) 0
        ≡ unwrap_or (if b then None else slice_get counts (line - 1)) 0
    by true = refl
    by false = behind counts (line - 1)

-- As many are lifted where the counts stay,
pub lifted_on-same : (old new : List LineView) → map (λ l. l.lifted) new ≡ map (λ l. l.lifted) old
    → (line : ℕ) → lifted_on new line ≡ lifted_on old line
lifted_on-same old new same line =
    lifted_on-count new line ∙ ap (λ counts. count_on counts line) same ∙ sym (lifted_on-count old line)

-- and where a line comes behind of which none is.
pub lifted_on-opened : (old new : List LineView) → map (λ l. l.lifted) new ≡ map (λ l. l.lifted) old ++ 0 ∷ []
    → (line : ℕ) → lifted_on new line ≡ lifted_on old line
lifted_on-opened old new more line =
    lifted_on-count new line ∙ ap (λ counts. count_on counts line) more ∙ count_on-push (map (λ l. l.lifted) old) line
    ∙ sym (lifted_on-count old line)

-- No line, and the empty log.
pub is_lifted_so-start : IsLiftedSo [] []
is_lifted_so-start line = by (line == 0)
  where
    by : (b : Bool) → option_map_or (λ (l : LineView). l.lifted) (if b then None else slice_get [] (line - 1)) 0 ≡ 0
    by true = refl
    by false = refl

-- One more entry that lifts nothing of a line, and lines of which as many are lifted:
pub is_lifted_so-kept : (old new : List LineView) (log : List Entry) (e : Entry)
    → ((line : ℕ) → lifted_on new line ≡ lifted_on old line) → ((line : ℕ) → lifts (Line line) e ≡ [])
    → IsLiftedSo old log → IsLiftedSo new (log ++ e ∷ [])
is_lifted_so-kept old new log e same none so line =
    same line ∙ so line
    ∙ ap length (sym (lifted-snoc log e (Line line) ∙ ap (λ items. lifted log (Line line) ++ items) (none line)
    ∙ append-nil (lifted log (Line line))))

-- the line at a place, once it is changed, and the others
at-own : (place : ℕ) (f : LineView → LineView) (ls : List LineView)
    → slice_get (with_line_at place f ls) place ≡ option_map f (slice_get ls place)
at-own zero f [] = refl
at-own (suc place) f [] = refl
at-own zero f (l ∷ ls) = refl
at-own (suc place) f (l ∷ ls) = at-own place f ls

at-other : (place k : ℕ) (f : LineView → LineView) (ls : List LineView) → (k ≡ place → ⊥)
    → slice_get (with_line_at place f ls) k ≡ slice_get ls k
at-other zero k f [] apart = refl
at-other (suc place) k f [] apart = refl
at-other zero zero f (l ∷ ls) apart = absurd (apart refl)
at-other zero (suc k) f (l ∷ ls) apart = refl
at-other (suc place) zero f (l ∷ ls) apart = refl
at-other (suc place) (suc k) f (l ∷ ls) apart = at-other place k f ls (λ same. apart (ap suc same))

-- the item that is next on a line, which is so there
record IsNext (ls : List LineView) (line : ℕ) : Type 0 where
  l : LineView
  some : (line == 0) ≡ false
  there : slice_get ls (line - 1) ≡ Some l
  waits : nat_lt l.lifted (length l.outbox) ≡ true

next_is : (ls : List LineView) (line : ℕ) (item : Item) → next_on ls line ≡ Some item → IsNext ls line
next_is ls line item next = by (line == 0) refl next
  where
    at : (o : Option LineView) → (line == 0) ≡ false → slice_get ls (line - 1) ≡ o
        → option_and_then (λ l. slice_get l.outbox l.lifted) o ≡ Some item → IsNext ls line
    at None some is found = absurd cc
    at (Some l) some is found = record {
      l = l;
      some = some;
      there = is;
      waits = lt-ltb l.lifted (length l.outbox) (slice_get_within l.outbox l.lifted item found);
    }

    by : (b : Bool) → (line == 0) ≡ b
        → option_and_then (λ l. slice_get l.outbox l.lifted) (if b then None else slice_get ls (line - 1)) ≡ Some item
        → IsNext ls line
    by true is found = absurd cc
    by false is found = at (slice_get ls (line - 1)) is refl found

-- one more of that line is lifted, and of the others as many as before
lifted_on-own : (ls : List LineView) (line : ℕ) → IsNext ls line
    → lifted_on (with_line line lifted_one ls) line ≡ lifted_on ls line + 1
lifted_on-own ls line next =
    rw next.some
    (ap (λ o. option_map_or (λ l. l.lifted) o 0)
    (at-own (line - 1) lifted_one ls ∙ ap (option_map lifted_one) next.there)
    ∙ one_more
    ∙ sym (ap (λ o. option_map_or (λ l. l.lifted) o 0 + 1) next.there))
  where
    one_more : (lifted_one next.l).lifted ≡ next.l.lifted + 1
    one_more = ap (λ (b : Bool). (if b then record next.l { lifted = next.l.lifted + 1 } else next.l).lifted) next.waits

lifted_on-other : (ls : List LineView) (line n : ℕ) → IsNext ls line → (n ≡ line → ⊥)
    → lifted_on (with_line line lifted_one ls) n ≡ lifted_on ls n
lifted_on-other ls line n next apart = rw next.some (by (n == 0) refl)
  where
    by : (b : Bool) → (n == 0) ≡ b
        → option_map_or (λ l. l.lifted)
        (if b then None else slice_get (with_line_at (line - 1) lifted_one ls) (n - 1)) 0
        ≡ option_map_or (λ l. l.lifted) (if b then None else slice_get ls (n - 1)) 0
    by true is = refl
    by false is =
        let n_some : 0 < n = grind (arith, nat_tests, is) in
        let some : 0 < line = grind (arith, nat_tests, next.some) in
        ap (λ o. option_map_or (λ l. l.lifted) o 0)
        (at-other (line - 1) (n - 1) lifted_one ls (λ same. apart (omega (arith, same, n_some, some))))

-- One more entry that lifts the next item of a line:
pub is_lifted_so-lifted : (ls : List LineView) (log : List Entry) (line : ℕ) (item : Item) (handled : Option Handled)
    → next_on ls line ≡ Some item
    → IsLiftedSo ls log
    → IsLiftedSo (with_line line lifted_one ls) (log ++ entry_of (Lift (Line line)) (Some item) handled ∷ [])
is_lifted_so-lifted ls log line item handled next so n =
    by (n == line) refl ∙ ap length (sym (lifted-snoc log e (Line n)))
  where
    e : Entry
    e = entry_of (Lift (Line line)) (Some item) handled

    by : (b : Bool) → (n == line) ≡ b
        → lifted_on (with_line line lifted_one ls) n ≡ length (lifted log (Line n) ++ (if b then item ∷ [] else []))
    by true is =
        let same : n ≡ line = grind (arith, nat_tests, is) in
        ap (lifted_on (with_line line lifted_one ls)) same ∙ lifted_on-own ls line (next_is ls line item next)
        ∙ ap (λ k. lifted_on ls k + 1) (sym same) ∙ ap (λ count. count + 1) (so n)
        ∙ sym (length-append (lifted log (Line n)) (item ∷ []))
    by false is =
        let apart : (n ≡ line → ⊥) = λ same. absurd (grind (arith, nat_tests, is, same)) in
        lifted_on-other ls line n (next_is ls line item next) apart ∙ so n
        ∙ ap length (sym (append-nil (lifted log (Line n))))

-- the item that is next on a line is the next of what it put out that is not lifted
next_by : (l : Option LineView)
    → option_and_then (λ v. slice_get v.outbox v.lifted) l
    ≡ slice_get (option_map_or (λ v. v.outbox) l []) (option_map_or (λ v. v.lifted) l 0)
next_by None = refl
next_by (Some l) = refl

pub next_on-lifted : (m : Meaning) (ls : List LineView) (log : List Entry) (line : ℕ) → AreLinesAfter m ls (pasts_of log)
    → IsLiftedSo ls log
    → next_on ls line ≡ slice_get (line_posts_by m log line) (length (lifted log (Line line)))
next_on-lifted m ls log line s so =
    next_by (line_at ls line) ∙ ap (λ items. slice_get items (lifted_on ls line)) (outbox_on-stands m ls log line s)
    ∙ ap (slice_get (line_posts_by m log line)) (so line)
