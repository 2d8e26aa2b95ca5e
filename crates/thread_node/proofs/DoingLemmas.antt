-- Whether something was done.
use Rattle.std.proofs.Common.{◌≡◌, ◌≤◌, ◌<◌, ◌+◌, ◌∙◌, ◌∷◌, ◌||◌, ℕ, zero, suc, Bool, false, true, List, [], Result, Ok, Err, OnErr, OnOk, ap, arith, length, lt-ltb, le-ltb, inl, inr, nat_lt, refl, subst, sym}
use Rattle.std.specs.Prelude.{is_ok}
use Rattle.std.proofs.lemmas.Bool.{cases_lt}
use Rattle.std.proofs.lemmas.List.{length-append}
use Rattle.std.proofs.lemmas.List.Sums.{sum_by-cons}
use Rattle.bench_item.specs.declared.step.Step.{Step}
use Rattle.thread_node.specs.Nodes.{AllGrow, Does, Feeds, Goes, NodeView, done_in, drawn_in, is_carry}
use Rattle.thread_node.proofs.GoingLemmas.{goes_drawn, goes_on, goes_one, goes_refl, goes_told}

-- what was drawn only grows
drawn_le : (old new : List (List ℕ)) → AllGrow old new → drawn_in old ≤ drawn_in new
drawn_le [] new grow = omega arith
drawn_le (text ∷ texts) [] grow = absurd grow
drawn_le (text ∷ texts) (text' ∷ texts') grow =
    let longer = ap length grow.0.1 ∙ length-append text grow.0.0 in
    omega (arith, sum_by-cons length text texts, sum_by-cons length text' texts', drawn_le texts texts' grow.1, longer)

-- and so does all that was done
done_le : (old new : NodeView) → Goes old new → done_in old ≤ done_in new
done_le old new goes =
    let fed = ap length goes.fed ∙ length-append old.fed goes.steps in
    omega (arith, goes.told, fed, drawn_le old.sent new.sent goes.sent)

-- a number that grows twice has grown if it did once
lt_or : (x y z : ℕ) → x ≤ y → y ≤ z → (nat_lt x y || nat_lt y z) ≡ nat_lt x z
lt_or x y z first next = elim (cases_lt x z) [
  | inl less ↦ elim (cases_lt x y) [
    | inl less' ↦ rw (lt-ltb x y less', lt-ltb x z less) refl
    | inr same ↦ rw (le-ltb x y same, lt-ltb y z (omega (arith, less, same)), lt-ltb x z less) refl
  ]
  | inr same ↦
      rw (le-ltb x y (omega (arith, same, next)), le-ltb y z (omega (arith, same, first)), le-ltb x z same) refl
]

-- what has not grown has not
lt_same : (x y : ℕ) → y ≡ x → false ≡ nat_lt x y
lt_same x y same = let from : y ≤ x = omega (arith, same) in sym (le-ltb x y from)

-- so many more
lt_count : (x y count : ℕ) → y ≡ x + count → nat_lt 0 count ≡ nat_lt x y
lt_count x y zero more = lt_same x y (omega (arith, more))
lt_count x y (suc count) more =
    let some : 0 < suc count = omega arith in lt-ltb 0 (suc count) some ∙ sym (lt-ltb x y (omega (arith, more)))

-- nothing
pub does_none : (node : NodeView) → Does node node false
does_none node = record { goes = goes_refl node; more = lt_same (done_in node) (done_in node) refl }

-- nothing, where a node is as it was
pub does_same : (old new : NodeView) → new ≡ old → Does old new false
does_same old new same = rw same (does_none old)

-- an item is carried, or not
pub does_by : {T E : Type 0} (r : Result T E) (old new : NodeView) (step : Step) → is_carry step ≡ true
    → OnOk r (Feeds old step new) → OnErr r (new ≡ old) → Does old new (is_ok r)
does_by (Ok done) old new step is ok err = record {
  goes = goes_one old new step is ok;
  more =
      let fed = ap (λ (node : NodeView). length node.fed) ok.1 ∙ length-append old.fed (step ∷ []) in
      let told = ap (λ (node : NodeView). node.told) ok.1 in
      let sent = ap (λ (node : NodeView). drawn_in node.sent) ok.1 in
      sym (lt-ltb (done_in old) (done_in new) (omega (arith, fed, told, sent)));
}
does_by (Err fault) old new step is ok err = does_same old new err

-- a desk passes a text
pub does_told : (old new : NodeView) → new ≡ record old { told = new.told } → new.told ≡ old.told + 1 → Does old new true
does_told old new same count = record {
  goes = goes_told old new same (omega (arith, count));
  more =
      let fed = ap (λ (node : NodeView). length node.fed) same in
      let sent = ap (λ (node : NodeView). drawn_in node.sent) same in
      sym (lt-ltb (done_in old) (done_in new) (omega (arith, fed, sent, count)));
}

-- octets are drawn
pub does_drawn : (old new : NodeView) (count : ℕ) → new ≡ record old { sent = new.sent } → AllGrow old.sent new.sent
    → drawn_in new.sent ≡ drawn_in old.sent + count → Does old new (nat_lt 0 count)
does_drawn old new count same grow more = record {
  goes = goes_drawn old new same grow;
  more =
      let told = ap (λ (node : NodeView). node.told) same in
      let fed = ap (λ (node : NodeView). length node.fed) same in
      lt_count (done_in old) (done_in new) count (omega (arith, told, fed, more));
}

-- some, and then more
pub does_on : (old mid new : NodeView) (a b : Bool) → Does old mid a → Does mid new b → Does old new (a || b)
does_on old mid new a b first next = record {
  goes = goes_on old mid new first.goes next.goes;
  more =
      ap (λ (c : Bool). c || b) first.more ∙ ap (λ (c : Bool). nat_lt (done_in old) (done_in mid) || c) next.more
      ∙ lt_or (done_in old) (done_in mid) (done_in new) (done_le old mid first.goes) (done_le mid new next.goes);
}

-- nothing, and then more
pub does_then : (old mid new : NodeView) (b : Bool) → Does old mid false → Does mid new b → Does old new b
does_then old mid new b first next = does_on old mid new false b first next

-- something, and then more
pub does_first : (old mid new : NodeView) (a b : Bool) → a ≡ true → Does old mid a → Does mid new b → Does old new true
does_first old mid new a b is first next = subst (λ (c : Bool). Does old new (c || b)) is (does_on old mid new a b first next)

-- some, and then nothing
pub does_last : (old mid new : NodeView) (a : Bool) → Does old mid a → Does mid new false → Does old new a
does_last old mid new true first next = does_on old mid new true false first next
does_last old mid new false first next = does_on old mid new false false first next

-- some, and then something
pub does_after : (old mid new : NodeView) (a : Bool) → Does old mid a → Does mid new true → Does old new true
does_after old mid new true first next = does_on old mid new true true first next
does_after old mid new false first next = does_on old mid new false true first next

pub ruleset doing = (does_none, does_by, does_drawn, does_told, does_on, does_then, does_last, does_after)
