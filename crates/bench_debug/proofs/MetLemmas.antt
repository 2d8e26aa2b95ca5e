-- The last entry that meets a breakpoint.
use Rattle.std.proofs.Common.{◌≡◌, ◌<◌, ◌≤◌, ◌+◌, ◌-◌, ◌∷◌, ℕ, List, [], Option, Some, None, sym, ◌∙◌, ap, subst, length, take, drop, filter, get_or, arith}
use Rattle.std.specs.Prelude.{is_some, slice_get}
use Rattle.std.proofs.lemmas.List.{drop_all}
use Rattle.std.proofs.lemmas.Option.{slice_get-get_or}
use Rattle.bench_item.specs.declared.entry.Entry.{Entry}
use Rattle.bench_debug.specs.Meets.{LastMet, MeetsNone, first_met, stops}
use Rattle.bench_debug.specs.declared.debugger.SetBreakpoint.{SetBreakpoint}
use Rattle.bench_debug.proofs.PlaceLemmas.{drop_at, filter_none, length_front, split_at}

-- none behind the last
pub none_past : (set : List SetBreakpoint) (log : List Entry) (place : ℕ) → place ≡ length log → MeetsNone set (drop place log)
none_past set log place is = ap (λ (entries : List Entry). filter (stops set) entries) (drop_all place log (omega (arith, is)))

back_one : (place : ℕ) → 0 < place → place - 1 + 1 ≡ place
back_one place some = omega arith

-- none behind a place, nor there
pub none_before : (set : List SetBreakpoint) (log : List Entry) (place : ℕ) (e : Entry) → 0 < place → slice_get log (place - 1) ≡ Some e
    → first_met set e ≡ None → MeetsNone set (drop place log) → MeetsNone set (drop (place - 1) log)
none_before set log place e some at missed none =
    let rest : drop (place - 1) log ≡ e ∷ drop place log =
    drop_at log (place - 1) e at ∙ ap (λ (n : ℕ). e ∷ drop n log) (back_one place some) in
    ap (λ (entries : List Entry). filter (stops set) entries) rest
    ∙ filter_none (stops set) e (drop place log) (ap (λ (o : Option ℕ). is_some o) missed) none

-- one there
pub met_before : (set : List SetBreakpoint) (log : List Entry) (place : ℕ) (e : Entry) (number : ℕ) → 0 < place → slice_get log (place - 1) ≡ Some e
    → first_met set e ≡ Some number → MeetsNone set (drop place log) → LastMet set log (place - 1) number
met_before set log place e number some at met none = record {
  before = take (place - 1) log;
  last = e;
  behind = drop (place - 1 + 1) log;
  split = split_at log (place - 1) e at;
  at = length_front log (place - 1) e at;
  met = met;
  none_behind = subst (λ (n : ℕ). MeetsNone set (drop n log)) (sym (back_one place some)) none;
}

-- there is an entry at each place before the last
pub entry_there : (log : List Entry) (place : ℕ) → 0 < place → place ≤ length log → None ≡ slice_get log (place - 1) → ⊥
entry_there [] place some within none = absurd (omega (arith, some, within))
entry_there (e ∷ log) place some within none =
    let there : slice_get (e ∷ log) (place - 1) ≡ Some (get_or (e ∷ log) (place - 1) e) = slice_get-get_or (e ∷ log) (place - 1) e (omega arith) in
    absurd cc
