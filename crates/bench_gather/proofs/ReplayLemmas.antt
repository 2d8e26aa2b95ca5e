-- A log is replayed entry by entry.
use Rattle.std.proofs.Common.{◌≡◌, ◌∙◌, ◌+◌, ◌<◌, ◌≤◌, ℕ, zero, suc, List, [], ◌∷◌, ◌++◌, Bool, true, false, length}
use Rattle.std.proofs.Common.{take, drop, refl, ap, sym, subst, arith}
use Rattle.std.specs.Prelude.{slice_get, Some, IsTrue, IsFalse, Err}
use Rattle.std.proofs.lemmas.List.{length_push, take-append-drop}
use Rattle.bench_item.specs.declared.entry.Entry.{Entry}
use Rattle.bench_spec.specs.Desks.{IsLongest}
use Rattle.bench_spec.specs.Legal.{IsLegal, MayFollow}
use Rattle.bench_spec.specs.Settings.{Settings}
use Rattle.bench_spec.specs.Taken.{GoesBackTo, Replays, Run, with_log}
use Rattle.bench_spec.proofs.LegalLemmas.{IsLegal-front, MayFollow-last}
use Rattle.bench_gather.specs.Replayed.{IsReplayed, ReplaysAt}
use Rattle.bench_gather.specs.declared.fault.GatherFault.{GatherFault}
use Rattle.bench_gather.specs.declared.fault.GatherFault.TheVariants.{Disagree, Full, NoMemory}

-- one entry more of a log
pub take-next : (xs : List Entry) (k : ℕ) (e : Entry) → slice_get xs k ≡ Some e → take (suc k) xs ≡ take k xs ++ e ∷ []
take-next [] k e is = absurd cc
take-next (x ∷ xs) zero e is = let same : x ≡ e = cc in ap (λ y. y ∷ []) same
take-next (x ∷ xs) (suc k) e is = ap (λ ys. x ∷ ys) (take-next xs k e is)

pub is-there : (xs : List Entry) (k : ℕ) → k < length xs → (e : Entry) × (slice_get xs k ≡ Some e)
is-there [] k l = absurd (omega (arith, l))
is-there (x ∷ xs) zero l = (x, refl)
is-there (x ∷ xs) (suc k) l = is-there xs k (omega (arith, l))

-- the world of so many entries, with one more
pub replays-next : (old mid new : Run) (log : List Entry) (k : ℕ) (e : Entry) → mid ≡ with_log old (take k log)
    → slice_get log k ≡ Some e → Replays mid new e → new ≡ with_log old (take (k + 1) log)
replays-next old mid new log k e is at r =
    let next : k + 1 ≡ suc k = omega arith in
    r.grown ∙ ap (λ (m : Run). with_log m (m.log ++ e ∷ [])) is
    ∙ ap (with_log old) (sym (ap (λ n. take n log) next ∙ take-next log k e at))

-- the next may not follow: that is as far as the log is legal
pub is-longest : (settings : Settings) (log : List Entry) (k : ℕ) → k < length log → IsLegal settings (take k log)
    → ((e : Entry) → slice_get log k ≡ Some e → MayFollow settings (take k log) e → ⊥)
    → (IsLegal settings log → ⊥) × IsLongest settings log k
is-longest settings log k within legal none =
    let there = is-there log k within in
    let next : k + 1 ≡ suc k = omega arith in
    let grown : take (k + 1) log ≡ take k log ++ there.0 ∷ [] =
    ap (λ n. take n log) next ∙ take-next log k there.0 there.1 in
    let stops : IsLegal settings (take (k + 1) log) → ⊥ =
    λ longer. none there.0 there.1
    (MayFollow-last settings (take k log) there.0 (subst (IsLegal settings) grown longer)) in (
      λ whole.
          stops (IsLegal-front settings (take (k + 1) log) (drop (k + 1) log)
          (subst (IsLegal settings) (sym (take-append-drop (k + 1) log)) whole)),
      record { within = omega (arith, within); legal = legal; longest = λ more. stops },
    )

-- one step is taken back
pub record Unwound (old mid : Run) (count : ℕ) : Type 0 where
  pub same : with_log mid [] ≡ with_log old []
  pub left : length mid.log + count ≡ length old.log

pub unwound-more : (old mid new : Run) (count : ℕ) (b : Bool) → Unwound old mid count → count < length old.log
    → (IsTrue b → GoesBackTo mid new) → (IsFalse b → (mid.log ≡ []) × (new ≡ mid)) → Unwound old new (count + 1)
unwound-more old mid new count true u within back none =
    let g = back refl in
    let long = ap (λ (r : Run). length r.log) g.grown in
    let push = length_push new.log g.entry in
    record {
      same = sym (ap (λ (r : Run). with_log r []) g.grown) ∙ u.same;
      left = let left = u.left in omega (arith, left, long, push);
    }
unwound-more old mid new count false u within back none =
    absurd (let empty = ap length (none refl).0 in let left = u.left in omega (arith, empty, left, within))

no-log : (xs : List Entry) → length xs ≡ 0 → xs ≡ []
no-log [] e = refl
no-log (x ∷ xs) e = absurd (omega (arith, e))

-- all are
pub unwound-all : (old new : Run) (count : ℕ) → Unwound old new count → length old.log ≤ count → new ≡ with_log old []
unwound-all old new count u all =
    let empty : length new.log ≡ 0 = let left = u.left in omega (arith, left, all) in
    ap (with_log new) (no-log new.log empty) ∙ u.same

-- an entry was not added, and all steps are taken back: the world is as it was, and the longest front is told
stays : (old mid last new : Run) (log : List Entry) (k : ℕ) → old.log ≡ [] → mid ≡ with_log old (take k log)
    → last ≡ mid
    → new ≡ with_log last [] → new ≡ old
stays old mid last new log k empty is same back =
    back ∙ ap (λ (r : Run). with_log r []) (same ∙ is) ∙ ap (with_log old) (sym empty)

pub replay-stops : (old mid last new : Run) (log : List Entry) (k : ℕ) (fault : GatherFault) → old.log ≡ []
    → mid ≡ with_log old (take k log) → k < length log → ReplaysAt mid last log k (Err fault) → new ≡ with_log last []
    → IsReplayed old new log (Err fault)
replay-stops old mid last new log k Full empty is within r back = absurd r
replay-stops old mid last new log k (Disagree at) empty is within r back =
    let legal = subst (λ (m : Run). IsLegal m.settings m.log) is r.1 in
    let none =
    subst (λ (m : Run). (e : Entry) → slice_get log k ≡ Some e → MayFollow m.settings m.log e → ⊥) is r.2
    in
    let longest = is-longest old.settings log k within legal none in (
      longest.0,
      subst (λ n. IsLongest old.settings log n) (sym r.0) longest.1,
      stays old mid last new log k empty is r.3 back,
    )
replay-stops old mid last new log k NoMemory empty is within r back = stays old mid last new log k empty is r back
