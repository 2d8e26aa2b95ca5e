-- The entries that moved a machine, one after the other; and the last of them.
use Rattle.std.proofs.Common.{◌≡◌, ◌<◌, ◌+◌, ◌-◌, ◌++◌, ℕ, true, List, [], Some, refl, sym, ◌∙◌, ap, subst, length, take, drop, arith}
use Rattle.std.specs.Prelude.{is_some, slice_get}
use Rattle.std.specs.List.{enumerate_from}
use Rattle.std.proofs.lemmas.List.{take_all}
use Rattle.std.proofs.lemmas.List.FromFn.{length-enumerate_from}
use Rattle.bench_item.specs.declared.entry.Entry.{Entry}
use Rattle.bench_item.specs.declared.key.Key.{Key}
use Rattle.bench_spec.specs.Taken.{Run}
use Rattle.bench_show.specs.History.{LastMove, MovesNone, history_text, history_to, move_in, told_of}
use Rattle.bench_show.proofs.PlaceLemmas.{back_one, length_front, numbered_more, split_at}

-- the first so many entries of a log, with their numbers
pub told_to : Run → Key → ℕ → List ℕ
told_to run key place = history_to run key (take place (enumerate_from 1 run.log))

pub told_none : (run : Run) (key : Key) → told_to run key 0 ≡ []
unfolding told_to history_to
told_none run key = refl

pub told_more : (run : Run) (key : Key) (place : ℕ) (e : Entry) → slice_get run.log place ≡ Some e
    → told_to run key (place + 1) ≡ told_to run key place ++ told_of run key (place + 1, e)
unfolding told_to history_to
told_more run key place e at =
    let next : 1 + place ≡ place + 1 = omega arith in
    numbered_more (told_of run key) 1 run.log place e at
    ∙ ap (λ (n : ℕ). told_to run key place ++ told_of run key (n, e)) next

pub told_all : (run : Run) (key : Key) (place : ℕ) → place ≡ length run.log → told_to run key place ≡ history_text run key
unfolding told_to
told_all run key place is =
    ap (history_to run key) (take_all place (enumerate_from 1 run.log) (omega (arith, is, length-enumerate_from 1 run.log)))

-- one that moves it, with none behind
pub last_at : (key : Key) (log : List Entry) (place : ℕ) (e : Entry) → 0 < place → slice_get log (place - 1) ≡ Some e
    → is_some (move_in key e) ≡ true → MovesNone key (drop place log) → LastMove key log place e
last_at key log place e some at moved none = record {
  before = take (place - 1) log;
  behind = drop (place - 1 + 1) log;
  split = split_at log (place - 1) e at;
  at = ap (λ (n : ℕ). n + 1) (length_front log (place - 1) e at) ∙ back_one place some;
  moved = moved;
  none_behind = subst (λ (n : ℕ). MovesNone key (drop n log)) (sym (back_one place some)) none;
}
