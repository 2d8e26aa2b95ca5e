use Rattle.std.proofs.Common.{◌≡◌, ℕ, Bool, true, false, List, refl}
use Rattle.std.specs.Bool.{Decides}
use Rattle.std.specs.Cmp.Lexicographic.{pointwise}
use Rattle.std.specs.Prelude.{◌&&◌, ◌==◌}
use Rattle.std.proofs.lemmas.Bool.Decides.{Decides-eqb}
use Rattle.std.proofs.lemmas.Slice.Eq.{slice_eq-Decides}
use Rattle.acct_totals.specs.declared.op.Outcome.{Outcome}
use Rattle.acct_totals.specs.declared.op.Outcome.TheVariants.{Done, Refused}
use Rattle.bench_move.proofs.judging.has_outcomes.Goals as goal

both : (p q : Bool) → (p && q) ≡ true → (p ≡ true) × (q ≡ true)
both true q t = (refl, t)
both false q t = cc

-- a test of two outcomes that says whether they are of one kind with the same units
record IsEq (E : Outcome → Outcome → Bool) : Type 0 where
  done : (a u b v : ℕ) → E (Done a u) (Done b v) ≡ ((a == b) && (u == v))
  done_refused : (a u : ℕ) → E (Done a u) Refused ≡ false
  refused_done : (b v : ℕ) → E Refused (Done b v) ≡ false
  refused : E Refused Refused ≡ true

one : (E : Outcome → Outcome → Bool) → IsEq E → (a b : Outcome) → Decides (E a b) (a ≡ b)
one E is (Done a u) (Done b v) = (
  λ t. let p = both (a == b) (u == v) (rw (is.done a u b v) at t) in let s = (Decides-eqb a b).0 p.0 in let r = (Decides-eqb u v).0 p.1 in cc,
  λ e. let s : a ≡ b = cc in let r : u ≡ v = cc in rw (is.done a u b v, (Decides-eqb a b).1 s, (Decides-eqb u v).1 r) refl,
)
one E is (Done a u) Refused = (λ t. let no = is.done_refused a u in cc, λ e. cc)
one E is Refused (Done b v) = (λ t. let no = is.refused_done b v in cc, λ e. cc)
one E is Refused Refused = (λ t. refl, λ e. is.refused)

decides : (E : Outcome → Outcome → Bool) (xs ys : List Outcome) (r : Bool) → r ≡ pointwise E xs ys → IsEq E → Decides r (xs ≡ ys)
decides E xs ys r e is = slice_eq-Decides (one E is) xs ys r e

pub returns-clause-exact : goal.returns-clause-exact
returns-clause-exact c =
    let allowed = rw c.as_slice-deeds.ensures at c.in_ok-outcomes.ensures.outcomes in
    rw (← allowed, ← c.as_slice-3.ensures.value, ← c.as_slice-2.ensures)
    (decides _ c.as_slice-2.result.now c.as_slice-3.result.now c.eq.result c.eq.ensures (record {
      done = λ a u b v. refl;
      done_refused = λ a u. refl;
      refused_done = λ b v. refl;
      refused = refl;
    }))
