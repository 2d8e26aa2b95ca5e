-- The first step that may be taken, of several.
use Rattle.std.proofs.Common.{◌≡◌, ◌<◌, ◌≤◌, ◌+◌, ◌-◌, ◌++◌, ◌∷◌, ◌∙◌, ℕ, Bool, true, false, List, [], Option, Some, None, arith, ap, refl, suc, sym, zero}
use Rattle.std.specs.Prelude.{cond, find, is_some, map}
use Rattle.std.specs.List.{range_with_len}
use Rattle.std.specs.Option.{option_or}
use Rattle.std.proofs.lemmas.List.{map-append}
use Rattle.std.proofs.lemmas.List.Folds.{find-append}
use Rattle.bench_item.specs.declared.limit.TheConstants.{MAX_DESKS, MAX_SHARDS}
use Rattle.bench_item.specs.declared.source.Source.{Source}
use Rattle.bench_item.specs.declared.source.Source.TheVariants.{Clock}
use Rattle.bench_item.specs.declared.step.Step.{Step}
use Rattle.bench_item.specs.declared.step.Step.TheVariants.{Work}
use Rattle.bench_script.specs.Settled.{carried, numbered, numbers, settling_steps, source_of, sources, works}
use Rattle.bench_script.specs.declared.next.Carry.{Carry}
use Rattle.bench_script.specs.declared.next.Carry.TheVariants.{Drop, Lift}
use Rattle.bench_script.specs.declared.next.Sort.{Sort}
use Rattle.bench_script.specs.declared.next.Sort.TheVariants.{Line, Shard, Desk}

-- numbers one after the other
pub no_numbers : (a : ℕ) → numbers a 0 ≡ []
unfolding numbers
no_numbers a = refl

pub numbers_cons : (a n : ℕ) → 0 < n → numbers a n ≡ a ∷ numbers (a + 1) (n - 1)
unfolding numbers
numbers_cons a zero some = absurd (omega arith)
numbers_cons a (suc n) some =
    let e : n ≡ suc n - 1 = omega arith in
    ap (λ k. a ∷ range_with_len (a + 1) k) e

-- where one can't be taken, the first is among those behind it; where it can, it is the first
past_by : {T : Type 0} (b : Bool) (x : T) (rest : Option T) → is_some (cond b (Some x) None) ≡ false → cond b (Some x) rest ≡ rest
past_by true x rest e = absurd cc
past_by false x rest e = refl

here_by : {T : Type 0} (b : Bool) (x : T) (rest : Option T) → is_some (cond b (Some x) None) ≡ true → cond b (Some x) rest ≡ cond b (Some x) None
here_by true x rest e = refl
here_by false x rest e = absurd cc

pub find_past : {T : Type 0} (p : T → Bool) (x : T) (xs : List T) → is_some (find p (x ∷ [])) ≡ false → find p (x ∷ xs) ≡ find p xs
find_past p x xs none = past_by (p x) x (find p xs) none

pub find_here : {T : Type 0} (p : T → Bool) (x : T) (xs : List T) → is_some (find p (x ∷ [])) ≡ true → find p (x ∷ xs) ≡ find p (x ∷ [])
find_here p x xs some = here_by (p x) x (find p xs) some

-- one or another
pub or_here : {T : Type 0} (o other : Option T) → is_some o ≡ true → option_or o other ≡ o
or_here None other e = absurd cc
or_here (Some x) other e = refl

pub or_past : {T : Type 0} (o other : Option T) → is_some o ≡ false → option_or o other ≡ other
or_past None other e = refl
or_past (Some x) other e = absurd cc

-- of the sources: the first of the lines, of the shards, of the desks, or the clock's
pub find_carried : (p : Step → Bool) (carry : Carry) (lines : ℕ)
    → find p (map (carried carry) (sources lines))
    ≡ option_or (option_or (option_or (find p (map (carried carry) (numbered Line 1 lines)))
    (find p (map (carried carry) (numbered Shard 0 MAX_SHARDS))))
    (find p (map (carried carry) (numbered Desk 0 MAX_DESKS))))
    (find p (carried carry Clock ∷ []))
unfolding sources
find_carried p carry lines =
    split (numbered Line 1 lines ++ numbered Shard 0 MAX_SHARDS ++ numbered Desk 0 MAX_DESKS) (Clock ∷ [])
    ∙ ap (λ o. option_or o (find p (carried carry Clock ∷ [])))
    (split (numbered Line 1 lines ++ numbered Shard 0 MAX_SHARDS) (numbered Desk 0 MAX_DESKS)
    ∙ ap (λ o. option_or o (find p (map (carried carry) (numbered Desk 0 MAX_DESKS))))
    (split (numbered Line 1 lines) (numbered Shard 0 MAX_SHARDS)))
  where
    split : (xs ys : List Source) → find p (map (carried carry) (xs ++ ys)) ≡ option_or (find p (map (carried carry) xs)) (find p (map (carried carry) ys))
    split xs ys = ap (find p) (map-append (carried carry) xs ys) ∙ find-append p (map (carried carry) xs) (map (carried carry) ys)

-- and of all steps: the first drop, the first lift, or the first work
pub find_settling : (p : Step → Bool) (lines : ℕ)
    → find p (settling_steps lines)
    ≡ option_or (option_or (find p (map (carried Drop) (sources lines))) (find p (map (carried Lift) (sources lines))))
    (find p (works 0 MAX_SHARDS))
unfolding settling_steps
find_settling p lines =
    find-append p (map (carried Drop) (sources lines) ++ map (carried Lift) (sources lines)) (works 0 MAX_SHARDS)
    ∙ ap (λ o. option_or o (find p (works 0 MAX_SHARDS)))
    (find-append p (map (carried Drop) (sources lines)) (map (carried Lift) (sources lines)))

-- the first of so many sources of a sort
abbrev pub firsts : (Step → Bool) → Carry → Sort → ℕ → ℕ → Option Step
firsts p carry sort from count = find p (map (carried carry) (numbered sort from count))

abbrev pub first_works : (Step → Bool) → ℕ → ℕ → Option Step
first_works p from count = find p (works from count)

-- it is what the first of them is, or it is behind it
pub firsts_here : (p : Step → Bool) (carry : Carry) (sort : Sort) (a n : ℕ) (o : Option Step) → 0 < n
    → o ≡ find p (carried carry (source_of sort a) ∷ []) → is_some o ≡ true → o ≡ firsts p carry sort a n
firsts_here p carry sort a n o some is there =
    is ∙ sym (find_here p (carried carry (source_of sort a)) (map (carried carry) (numbered sort (a + 1) (n - 1))) (sym (ap is_some is) ∙ there))
    ∙ ap (λ (ns : List ℕ). find p (map (carried carry) (map (source_of sort) ns))) (sym (numbers_cons a n some))

pub firsts_past : (p : Step → Bool) (carry : Carry) (sort : Sort) (a n : ℕ) (o : Option Step) → 0 < n
    → o ≡ find p (carried carry (source_of sort a) ∷ []) → is_some o ≡ false → firsts p carry sort a n ≡ firsts p carry sort (a + 1) (n - 1)
firsts_past p carry sort a n o some is none =
    ap (λ (ns : List ℕ). find p (map (carried carry) (map (source_of sort) ns))) (numbers_cons a n some)
    ∙ find_past p (carried carry (source_of sort a)) (map (carried carry) (numbered sort (a + 1) (n - 1))) (sym (ap is_some is) ∙ none)

pub firsts_none : (p : Step → Bool) (carry : Carry) (sort : Sort) (a n : ℕ) → n ≤ 0 → firsts p carry sort a n ≡ None
firsts_none p carry sort a n few =
    let e : n ≡ 0 = omega arith in
    ap (λ (k : ℕ). firsts p carry sort a k) e ∙ ap (λ (ns : List ℕ). find p (map (carried carry) (map (source_of sort) ns))) (no_numbers a)

pub works_here : (p : Step → Bool) (a n : ℕ) (o : Option Step) → 0 < n → o ≡ find p (Work a ∷ []) → is_some o ≡ true → o ≡ first_works p a n
works_here p a n o some is there =
    is ∙ sym (find_here p (Work a) (works (a + 1) (n - 1)) (sym (ap is_some is) ∙ there))
    ∙ ap (λ (ns : List ℕ). find p (map (λ shard. Work shard) ns)) (sym (numbers_cons a n some))

pub works_past : (p : Step → Bool) (a n : ℕ) (o : Option Step) → 0 < n → o ≡ find p (Work a ∷ []) → is_some o ≡ false → first_works p a n ≡ first_works p (a + 1) (n - 1)
works_past p a n o some is none =
    ap (λ (ns : List ℕ). find p (map (λ shard. Work shard) ns)) (numbers_cons a n some)
    ∙ find_past p (Work a) (works (a + 1) (n - 1)) (sym (ap is_some is) ∙ none)

pub works_none : (p : Step → Bool) (a n : ℕ) → n ≤ 0 → first_works p a n ≡ None
works_none p a n few =
    let e : n ≡ 0 = omega arith in
    ap (λ (k : ℕ). first_works p a k) e ∙ ap (λ (ns : List ℕ). find p (map (λ shard. Work shard) ns)) (no_numbers a)

-- which of four, or of three, it is
four_1 : (a b c d : Option Step) → is_some a ≡ true → a ≡ option_or (option_or (option_or a b) c) d
four_1 None b c d e = absurd cc
four_1 (Some x) b c d e = refl

four_2 : (a b c d : Option Step) → is_some a ≡ false → is_some b ≡ true → b ≡ option_or (option_or (option_or a b) c) d
four_2 None None c d none some = absurd cc
four_2 None (Some x) c d none some = refl
four_2 (Some x) b c d none some = absurd cc

four_3 : (a b c d : Option Step) → is_some a ≡ false → is_some b ≡ false → is_some c ≡ true → c ≡ option_or (option_or (option_or a b) c) d
four_3 None None None d gone none some = absurd cc
four_3 None None (Some x) d gone none some = refl
four_3 None (Some x) c d gone none some = absurd cc
four_3 (Some x) b c d gone none some = absurd cc

four_4 : (a b c d : Option Step) → is_some a ≡ false → is_some b ≡ false → is_some c ≡ false → d ≡ option_or (option_or (option_or a b) c) d
four_4 None None None d gone none nothing = refl
four_4 None None (Some x) d gone none nothing = absurd cc
four_4 None (Some x) c d gone none nothing = absurd cc
four_4 (Some x) b c d gone none nothing = absurd cc

-- what was found of each, and which of them it is of all
pub carried_1 : (p : Step → Bool) (carry : Carry) (lines : ℕ) (a : Option Step) → a ≡ firsts p carry Line 1 lines → is_some a ≡ true
    → a ≡ find p (map (carried carry) (sources lines))
carried_1 p carry lines a is there =
    four_1 a (firsts p carry Shard 0 MAX_SHARDS) (firsts p carry Desk 0 MAX_DESKS) (find p (carried carry Clock ∷ [])) there
    ∙ ap (λ (o : Option Step). option_or (option_or (option_or o (firsts p carry Shard 0 MAX_SHARDS)) (firsts p carry Desk 0 MAX_DESKS)) (find p (carried carry Clock ∷ []))) is
    ∙ sym (find_carried p carry lines)

pub carried_2 : (p : Step → Bool) (carry : Carry) (lines : ℕ) (a b : Option Step) → a ≡ firsts p carry Line 1 lines → is_some a ≡ false
    → b ≡ firsts p carry Shard 0 MAX_SHARDS → is_some b ≡ true → b ≡ find p (map (carried carry) (sources lines))
carried_2 p carry lines a b is none as_b there =
    four_2 a b (firsts p carry Desk 0 MAX_DESKS) (find p (carried carry Clock ∷ [])) none there
    ∙ ap (λ (o : Option Step). option_or (option_or (option_or o b) (firsts p carry Desk 0 MAX_DESKS)) (find p (carried carry Clock ∷ []))) is
    ∙ ap (λ (o : Option Step). option_or (option_or (option_or (firsts p carry Line 1 lines) o) (firsts p carry Desk 0 MAX_DESKS)) (find p (carried carry Clock ∷ []))) as_b
    ∙ sym (find_carried p carry lines)

pub carried_3 : (p : Step → Bool) (carry : Carry) (lines : ℕ) (a b c : Option Step) → a ≡ firsts p carry Line 1 lines → is_some a ≡ false
    → b ≡ firsts p carry Shard 0 MAX_SHARDS → is_some b ≡ false → c ≡ firsts p carry Desk 0 MAX_DESKS → is_some c ≡ true
    → c ≡ find p (map (carried carry) (sources lines))
carried_3 p carry lines a b c is none as_b no_b as_c there =
    four_3 a b c (find p (carried carry Clock ∷ [])) none no_b there
    ∙ ap (λ (o : Option Step). option_or (option_or (option_or o b) c) (find p (carried carry Clock ∷ []))) is
    ∙ ap (λ (o : Option Step). option_or (option_or (option_or (firsts p carry Line 1 lines) o) c) (find p (carried carry Clock ∷ []))) as_b
    ∙ ap (λ (o : Option Step). option_or (option_or (option_or (firsts p carry Line 1 lines) (firsts p carry Shard 0 MAX_SHARDS)) o) (find p (carried carry Clock ∷ []))) as_c
    ∙ sym (find_carried p carry lines)

pub carried_4 : (p : Step → Bool) (carry : Carry) (lines : ℕ) (a b c d : Option Step) → a ≡ firsts p carry Line 1 lines → is_some a ≡ false
    → b ≡ firsts p carry Shard 0 MAX_SHARDS → is_some b ≡ false → c ≡ firsts p carry Desk 0 MAX_DESKS → is_some c ≡ false
    → d ≡ find p (carried carry Clock ∷ []) → d ≡ find p (map (carried carry) (sources lines))
carried_4 p carry lines a b c d is none as_b no_b as_c no_c as_d =
    four_4 a b c d none no_b no_c
    ∙ ap (λ (o : Option Step). option_or (option_or (option_or o b) c) d) is
    ∙ ap (λ (o : Option Step). option_or (option_or (option_or (firsts p carry Line 1 lines) o) c) d) as_b
    ∙ ap (λ (o : Option Step). option_or (option_or (option_or (firsts p carry Line 1 lines) (firsts p carry Shard 0 MAX_SHARDS)) o) d) as_c
    ∙ ap (λ (o : Option Step). option_or (option_or (option_or (firsts p carry Line 1 lines) (firsts p carry Shard 0 MAX_SHARDS)) (firsts p carry Desk 0 MAX_DESKS)) o) as_d
    ∙ sym (find_carried p carry lines)

-- likewise of drops, lifts and works
pub settling_1 : (p : Step → Bool) (lines : ℕ) (a : Option Step) → a ≡ find p (map (carried Drop) (sources lines)) → is_some a ≡ true
    → a ≡ find p (settling_steps lines)
settling_1 p lines a is there =
    three_1 a (find p (map (carried Lift) (sources lines))) (first_works p 0 MAX_SHARDS) there
    ∙ ap (λ (o : Option Step). option_or (option_or o (find p (map (carried Lift) (sources lines)))) (first_works p 0 MAX_SHARDS)) is
    ∙ sym (find_settling p lines)
  where
    three_1 : (a b c : Option Step) → is_some a ≡ true → a ≡ option_or (option_or a b) c
    three_1 None b c e = absurd cc
    three_1 (Some x) b c e = refl

pub settling_2 : (p : Step → Bool) (lines : ℕ) (a b : Option Step) → a ≡ find p (map (carried Drop) (sources lines)) → is_some a ≡ false
    → b ≡ find p (map (carried Lift) (sources lines)) → is_some b ≡ true → b ≡ find p (settling_steps lines)
settling_2 p lines a b is none as_b there =
    three_2 a b (first_works p 0 MAX_SHARDS) none there
    ∙ ap (λ (o : Option Step). option_or (option_or o b) (first_works p 0 MAX_SHARDS)) is
    ∙ ap (λ (o : Option Step). option_or (option_or (find p (map (carried Drop) (sources lines))) o) (first_works p 0 MAX_SHARDS)) as_b
    ∙ sym (find_settling p lines)
  where
    three_2 : (a b c : Option Step) → is_some a ≡ false → is_some b ≡ true → b ≡ option_or (option_or a b) c
    three_2 None None c none some = absurd cc
    three_2 None (Some x) c none some = refl
    three_2 (Some x) b c none some = absurd cc

pub settling_3 : (p : Step → Bool) (lines : ℕ) (a b c : Option Step) → a ≡ find p (map (carried Drop) (sources lines)) → is_some a ≡ false
    → b ≡ find p (map (carried Lift) (sources lines)) → is_some b ≡ false → c ≡ first_works p 0 MAX_SHARDS → c ≡ find p (settling_steps lines)
settling_3 p lines a b c is none as_b no_b as_c =
    three_3 a b c none no_b
    ∙ ap (λ (o : Option Step). option_or (option_or o b) c) is
    ∙ ap (λ (o : Option Step). option_or (option_or (find p (map (carried Drop) (sources lines))) o) c) as_b
    ∙ ap (λ (o : Option Step). option_or (option_or (find p (map (carried Drop) (sources lines))) (find p (map (carried Lift) (sources lines)))) o) as_c
    ∙ sym (find_settling p lines)
  where
    three_3 : (a b c : Option Step) → is_some a ≡ false → is_some b ≡ false → c ≡ option_or (option_or a b) c
    three_3 None None c gone none = refl
    three_3 None (Some x) c gone none = absurd cc
    three_3 (Some x) b c gone none = absurd cc
