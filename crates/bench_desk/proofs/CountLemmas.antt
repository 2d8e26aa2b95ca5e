-- How many of the items that came were of a desk, and how many of these were handled.
use Rattle.std.proofs.Common.{◌≡◌, ◌∙◌, ◌+◌, ◌-◌, ℕ, List, [], ◌∷◌, Bool, true, false, length, map, take, drop, refl, ap, sym, arith, inl, inr}
use Rattle.std.specs.Prelude.{count_by, filter, zip, cond}
use Rattle.std.proofs.lemmas.Bool.{cases_lt}
use Rattle.std.proofs.lemmas.List.{length-drop, length-map, take-append-drop, take_all}
use Rattle.std.proofs.lemmas.List.Sums.{sum_by-append}
use Rattle.bench_item.specs.Keys.{node_of}
use Rattle.bench_item.specs.Steps.{is_same_source}
use Rattle.bench_item.specs.declared.entry.Entry.{Entry}
use Rattle.bench_item.specs.declared.item.MachineItem.{MachineItem}
use Rattle.bench_item.specs.declared.source.Source.{Source}
use Rattle.bench_item.specs.declared.source.Source.TheVariants.{Desk}
use Rattle.bench_move.specs.Tables.{Tables}
use Rattle.bench_queue.specs.Inbox.{items_in}
use Rattle.bench_shard.specs.View.{ShardView}
use Rattle.bench_spec.specs.Items.{arrived, worked}
use Rattle.bench_spec.specs.Merged.{arrivals, handled_of}
use Rattle.bench_desk.specs.Parts.{IsKept}
use Rattle.bench_desk.proofs.PartLemmas.{arrivals-items}

-- one more is counted where it passes
one_more : {X : Type 0} (p : X → Bool) (x : X) (xs : List X) → count_by p (x ∷ xs) ≡ (0 + cond (p x) 1 0) + count_by p xs
one_more p x xs = sum_by-append (λ y. cond (p y) 1 0) (x ∷ []) xs

kept_more : {X : Type 0} (b : Bool) (x : X) (xs : List X) (n : ℕ) → length xs ≡ n
    → length (cond b (x ∷ xs) xs) ≡ (0 + cond b 1 0) + n
kept_more true x xs n e = omega (arith, e)
kept_more false x xs n e = omega (arith, e)

-- of what came, counted by who put it there
counted : {S I : Type 0} (p : S → Bool) (xs : List (S × I))
    → length (filter (λ (x : S × I). p x.0) xs) ≡ count_by p (map (λ (x : S × I). x.0) xs)
counted p [] = refl
counted {S = S} {I = I} p (x ∷ xs) =
    kept_more (p x.0) x (filter (λ (y : S × I). p y.0) xs) (count_by p (map (λ (y : S × I). y.0) xs)) (counted p xs)
    ∙ sym (one_more p x.0 (map (λ (y : S × I). y.0) xs))

-- of what was worked, those that a source had put there: the first that came are worked first
handled_in_order : {S I : Type 0} (p : S → Bool) (ws : List I) (xs : List (S × I))
    → length (filter (λ (y : I × (S × I)). p y.1.0) (zip ws xs)) ≡ count_by p (take (length ws) (map (λ (x : S × I). x.0) xs))
handled_in_order p [] xs = refl
handled_in_order p (w ∷ ws) [] = refl
handled_in_order {S = S} {I = I} p (w ∷ ws) (x ∷ xs) =
    kept_more (p x.0) (w, x) (filter (λ (y : I × (S × I)). p y.1.0) (zip ws xs))
    (count_by p (take (length ws) (map (λ (y : S × I). y.0) xs))) (handled_in_order p ws xs)
    ∙ sym (one_more p x.0 (take (length ws) (map (λ (y : S × I). y.0) xs)))

handled_count : {S I : Type 0} (p : S → Bool) (ws : List I) (xs : List (S × I))
    → length (map (λ (y : I × (S × I)). y.0) (filter (λ (y : I × (S × I)). p y.1.0) (zip ws xs)))
    ≡ count_by p (take (length ws) (map (λ (x : S × I). x.0) xs))
handled_count {S = S} {I = I} p ws xs =
    length-map (filter (λ (y : I × (S × I)). p y.1.0) (zip ws xs)) (λ (y : I × (S × I)). y.0) ∙ handled_in_order p ws xs

-- so many of the first as do not wait
take_worked : {X : Type 0} (xs : List X) (n : ℕ) → take (length xs - (length xs - n)) xs ≡ take n xs
take_worked xs n =
    elim (cases_lt n (length xs)) [
      | inl l ↦ let e : length xs - (length xs - n) ≡ n = omega (arith, l) in ap (λ k. take k xs) e
      | inr l ↦
          let e : length xs - (length xs - n) ≡ length xs = omega (arith, l) in
          ap (λ k. take k xs) e ∙ take_all (length xs) xs (omega arith) ∙ sym (take_all n xs l)
    ]

-- the counts of the first and of the others make up the count of all
pub both_counts : {X : Type 0} (p : X → Bool) (xs : List X) (n : ℕ) → count_by p (take n xs) + count_by p (drop n xs) ≡ count_by p xs
both_counts p xs n =
    sym (sum_by-append (λ x. cond (p x) 1 0) (take n xs) (drop n xs)) ∙ ap (count_by p) (take-append-drop n xs)

-- how many do not wait
pub record Counted (tables : Tables) (v : ShardView) (sources : List Source) (log : List Entry) (desk : ℕ) : Type 0 where
  pub first : length (handled_of (node_of tables.laws v.peers) log v.number desk)
      ≡ count_by (is_same_source (Desk desk)) (take (length sources - length (items_in v.inbox)) sources)
  pub all : length (filter (λ p. is_same_source (Desk desk) p.0) (arrivals (node_of tables.laws v.peers) log v.number))
      ≡ count_by (is_same_source (Desk desk)) sources

pub counted_by : (tables : Tables) (v : ShardView) (sources : List Source) (log : List Entry) (desk : ℕ) → IsKept tables v sources log
    → Counted tables v sources log desk
counted_by tables v sources log desk k =
    let node = node_of tables.laws v.peers in
    let p = is_same_source (Desk desk) in
    let came = arrivals node log v.number in
    let count : length sources ≡ length (arrived node log v.number) =
    ap length k.sources_are ∙ length-map came (λ (x : Source × MachineItem). x.0)
    ∙ sym (length-map came (λ (x : Source × MachineItem). x.1)) ∙ ap length (arrivals-items node log v.number) in
    let waits : length (items_in v.inbox) ≡ length sources - length (worked log v.number) =
    ap (λ b. length (items_in b)) k.inbox ∙ length-drop (length (worked log v.number)) (arrived node log v.number)
    ∙ ap (λ n. n - length (worked log v.number)) (sym count) in
    record {
      first =
          handled_count p (worked log v.number) came
          ∙ ap (λ xs. count_by p (take (length (worked log v.number)) xs)) (sym k.sources_are)
          ∙ ap (count_by p) (sym (take_worked sources (length (worked log v.number))))
          ∙ ap (λ n. count_by p (take (length sources - n) sources)) (sym waits);
      all = counted p came ∙ ap (count_by p) (sym k.sources_are);
    }

-- how many of the items of a desk wait
pub still_waiting : (tables : Tables) (v : ShardView) (sources : List Source) (log : List Entry) (desk worked : ℕ) → IsKept tables v sources log
    → worked ≡ length sources - length (items_in v.inbox)
    → count_by (is_same_source (Desk desk)) (drop worked sources)
    ≡ length (filter (λ p. is_same_source (Desk desk) p.0) (arrivals (node_of tables.laws v.peers) log v.number))
    - length (handled_of (node_of tables.laws v.peers) log v.number desk)
still_waiting tables v sources log desk worked kept worked_is =
    let p = is_same_source (Desk desk) in
    let k = counted_by tables v sources log desk kept in
    let first = k.first ∙ ap (λ n. count_by p (take n sources)) (sym worked_is) in
    let all = k.all in
    let both = both_counts p sources worked in
    omega (arith, first, all, both)
