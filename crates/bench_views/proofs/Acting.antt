-- Lists that are changed item by item, by their places.
use Rattle.std.proofs.Common.{◌≡◌, ◌+◌, ◌-◌, ◌<◌, ℕ, zero, suc, List, [], ◌∷◌, ◌++◌, length, Bool, true, false, Option, Some, None, refl, sym, ◌∙◌, ap, subst, arith}
use Rattle.std.specs.Prelude.{◌==◌, map, option_map, slice_get, slice_set, if◌then◌else◌}
use Rattle.std.proofs.lemmas.Bool.Decides.{nat_tests}
use Rattle.std.proofs.lemmas.Option.{same_Some, slice_get-map}
use Rattle.bench_line.specs.Line.{LineView}
use Rattle.bench_line.specs.Lines.{with_line, with_line_at}
use Rattle.bench_views.specs.Behind.{changed_at}
use Rattle.bench_views.specs.Stored.{EachAt}

-- the items of ys are those of xs, each changed by its place
pub record Acts {X : Type 0} (h : ℕ → X → X) (xs ys : List X) : Type 0 where
  pub count : length ys ≡ length xs
  pub each : (k : ℕ) → slice_get ys k ≡ option_map (h k) (slice_get xs k)

-- what holds of each item after that
pub each-acts : {X : Type 0} (P Q : ℕ → X → Type 0) (h : ℕ → X → X) (xs ys : List X) → Acts h xs ys
    → ((k : ℕ) (x : X) → P k x → Q k (h k x)) → EachAt P xs → EachAt Q ys
each-acts {X} P Q h xs ys acts go each k y is = by (slice_get xs k) refl (sym (acts.each k) ∙ is)
  where
    by : (o : Option X) → slice_get xs k ≡ o → option_map (h k) o ≡ Some y → Q k y
    by None none there = absurd cc
    by (Some x) some there = subst (Q k) (same_Some (h k x) y there) (go k x (each k x some))

-- a change that is the same of each item
pub acts-like : {X : Type 0} (h j : ℕ → X → X) (xs ys : List X) → ((k : ℕ) (x : X) → h k x ≡ j k x) → Acts h xs ys → Acts j xs ys
acts-like {X} h j xs ys same acts = record { count = acts.count; each = λ k. acts.each k ∙ by k (slice_get xs k) }
  where
    by : (k : ℕ) (o : Option X) → option_map (h k) o ≡ option_map (j k) o
    by k None = refl
    by k (Some x) = ap Some (same k x)

-- nothing changes
pub acts-none : {X : Type 0} (xs : List X) → Acts (λ k x. x) xs xs
acts-none {X} xs = record { count = refl; each = λ k. by (slice_get xs k) }
  where
    by : (o : Option X) → o ≡ option_map (λ x. x) o
    by None = refl
    by (Some x) = refl

-- the item at a place, once it is changed, and the others
changed-own : {X : Type 0} (place : ℕ) (f : X → X) (xs : List X) → slice_get (changed_at place f xs) place ≡ option_map f (slice_get xs place)
changed-own zero f [] = refl
changed-own (suc place) f [] = refl
changed-own zero f (x ∷ xs) = refl
changed-own (suc place) f (x ∷ xs) = changed-own place f xs

changed-other : {X : Type 0} (place k : ℕ) (f : X → X) (xs : List X) → (k ≡ place → ⊥) → slice_get (changed_at place f xs) k ≡ slice_get xs k
changed-other zero k f [] apart = refl
changed-other (suc place) k f [] apart = refl
changed-other zero zero f (x ∷ xs) apart = absurd (apart refl)
changed-other zero (suc k) f (x ∷ xs) apart = refl
changed-other (suc place) zero f (x ∷ xs) apart = refl
changed-other (suc place) (suc k) f (x ∷ xs) apart = changed-other place k f xs (λ same. apart (ap suc same))

length-changed : {X : Type 0} (place : ℕ) (f : X → X) (xs : List X) → length (changed_at place f xs) ≡ length xs
length-changed zero f [] = refl
length-changed (suc place) f [] = refl
length-changed zero f (x ∷ xs) = refl
length-changed (suc place) f (x ∷ xs) = ap suc (length-changed place f xs)

same_number : (a b : ℕ) → (a == b) ≡ true → a ≡ b
same_number a b h = grind (arith, nat_tests)

apart : (a b : ℕ) → (a == b) ≡ false → a ≡ b → ⊥
apart a b h same = absurd (grind (arith, nat_tests, h, same))

-- one more change, of the item at a place
pub acts-changed : {X : Type 0} (h : ℕ → X → X) (xs ys : List X) (place : ℕ) (f : X → X) → Acts h xs ys
    → Acts (λ k x. if k == place then f (h k x) else h k x) xs (changed_at place f ys)
acts-changed {X} h xs ys place f acts = record {
  count = length-changed place f ys ∙ acts.count;
  each = λ k. by k (k == place) refl;
}
  where
    twice : (k : ℕ) (o : Option X) → option_map f (option_map (h k) o) ≡ option_map (λ x. f (h k x)) o
    twice k None = refl
    twice k (Some x) = refl

    by : (k : ℕ) (b : Bool) → (k == place) ≡ b
        → slice_get (changed_at place f ys) k ≡ option_map (λ x. if b then f (h k x) else h k x) (slice_get xs k)
    by k true is =
        let same : k ≡ place = same_number k place is in
        subst (λ n. slice_get (changed_at place f ys) n ≡ option_map f (slice_get ys n)) (sym same) (changed-own place f ys)
        ∙ ap (option_map f) (acts.each k) ∙ twice k (slice_get xs k)
    by k false is = changed-other place k f ys (apart k place is) ∙ acts.each k

-- the change of one item sets it
pub changed_at-set : {X : Type 0} (place : ℕ) (f : X → X) (xs : List X) (x : X) → slice_get xs place ≡ Some x
    → changed_at place f xs ≡ slice_set xs place (f x)
changed_at-set place f [] x there = absurd cc
changed_at-set zero f (y ∷ xs) x there = ap (λ z. f z ∷ xs) (same_Some y x there)
changed_at-set (suc place) f (y ∷ xs) x there = ap (λ zs. y ∷ zs) (changed_at-set place f xs x there)

-- the line of a number is changed, if it is there
changed-lines : (place : ℕ) (f : LineView → LineView) (ls : List LineView) → with_line_at place f ls ≡ changed_at place f ls
changed-lines zero f [] = refl
changed-lines (suc place) f [] = refl
changed-lines zero f (l ∷ ls) = refl
changed-lines (suc place) f (l ∷ ls) = ap (λ rest. l ∷ rest) (changed-lines place f ls)

pub acts-with_line : (line : ℕ) (f : LineView → LineView) (ls : List LineView)
    → Acts (λ k l. if suc k == line then f l else l) ls (with_line line f ls)
acts-with_line line f ls = by (line == 0) refl
  where
    tests : 0 < line → (k : ℕ) → (k == line - 1) ≡ (suc k == line)
    tests some k = grind (arith, nat_tests, some)

    none : line ≡ 0 → (k : ℕ) → (suc k == line) ≡ false
    none is k = grind (arith, nat_tests, is)

    goes : (h : ℕ → Bool) (j : ℕ → Bool) → ((k : ℕ) → h k ≡ j k) → (ms : List LineView)
        → Acts (λ k l. if h k then f l else l) ls ms → Acts (λ k l. if j k then f l else l) ls ms
    goes h j same ms acts = record {
      count = acts.count;
      each = λ k. acts.each k ∙ ap (λ b. option_map (λ l. if b then f l else l) (slice_get ls k)) (same k);
    }

    by : (b : Bool) → (line == 0) ≡ b
        → Acts (λ k l. if suc k == line then f l else l) ls (if b then ls else with_line_at (line - 1) f ls)
    by true is = goes (λ k. false) (λ k. suc k == line) (λ k. sym (none (same_number line 0 is) k)) ls (acts-none ls)
    by false is =
        let some : 0 < line = grind (arith, nat_tests, is) in
        goes (λ k. k == line - 1) (λ k. suc k == line) (tests some) (with_line_at (line - 1) f ls)
        (subst (λ ms. Acts (λ k l. if k == line - 1 then f l else l) ls ms) (sym (changed-lines (line - 1) f ls))
        (acts-changed (λ k l. l) ls ls (line - 1) f (acts-none ls)))

-- one item more behind
pub each-push : {X : Type 0} (P : ℕ → X → Type 0) (xs : List X) (x : X) → EachAt P xs → P (length xs) x → EachAt P (xs ++ x ∷ [])
each-push P [] x each own zero y is = subst (P 0) (same_Some x y is) own
each-push P [] x each own (suc k) y is = absurd cc
each-push P (z ∷ xs) x each own zero y is = each 0 y is
each-push P (z ∷ xs) x each own (suc k) y is =
    each-push (λ j w. P (suc j) w) xs x (λ j w at. each (suc j) w at) own k y is

-- a fact of what each item has, and of all that they have
pub each-had : {X Y : Type 0} (P : ℕ → Y → Type 0) (f : X → Y) (xs : List X) → EachAt (λ k x. P k (f x)) xs → EachAt P (map f xs)
each-had {X} {Y} P f xs each k y is = by (slice_get xs k) refl (sym (slice_get-map f xs k) ∙ is)
  where
    by : (o : Option X) → slice_get xs k ≡ o → option_map f o ≡ Some y → P k y
    by None none there = absurd cc
    by (Some x) some there = subst (P k) (same_Some (f x) y there) (each k x some)

pub each-has : {X Y : Type 0} (P : ℕ → Y → Type 0) (f : X → Y) (xs : List X) → EachAt P (map f xs) → EachAt (λ k x. P k (f x)) xs
each-has P f xs each k x is = each k (f x) (slice_get-map f xs k ∙ ap (option_map f) is)
