-- What an entry carries that may follow a log: its step says it, but of work.
use Rattle.std.proofs.Common.{◌≡◌, ◌+◌, arith, ℕ, zero, suc, List, [], ◌∷◌, ◌++◌, length, Bool, true, false, Option, Some, None, refl, sym, ◌∙◌, ap, subst}
use Rattle.std.specs.Prelude.{◌==◌, ◌-◌, option_to_list, slice_get, if◌then◌else◌}
use Rattle.std.specs.Option.{option_and_then}
use Rattle.std.proofs.lemmas.Bool.Decides.{nat_tests}
use Rattle.std.proofs.lemmas.List.{append-nil, length-append}
use Rattle.bench_item.specs.declared.entry.Entry.{Entry}
use Rattle.bench_item.specs.declared.entry.Handled.{Handled}
use Rattle.bench_item.specs.declared.item.Item.{Item}
use Rattle.bench_item.specs.declared.source.Source.{Source}
use Rattle.bench_item.specs.declared.source.Source.TheVariants.{Clock, Desk, Line, Shard}
use Rattle.bench_item.specs.declared.step.Step.{Step}
use Rattle.bench_item.specs.declared.step.Step.TheVariants.{Joined, Dialled, Came, Lost, Told, Fired, Drop, Lift, Work}
use Rattle.bench_item.specs.Steps.{is_same_source}
use Rattle.bench_spec.specs.Items.{InOrder, IsFront, dropped, lifted, posts}
use Rattle.bench_spec.specs.Legal.{HasParts, MayFollow}
use Rattle.bench_spec.specs.Settings.{Settings}
use Rattle.bench_spec.specs.Taken.{Run, Takes}
use Rattle.bench_spec.proofs.BookLemmas.{entry_of}
use Rattle.bench_core.specs.Replaying.{IsCarried, IsSingle, last_item}
use Rattle.bench_views.specs.Looks.{hand_of, next_of}
use Rattle.bench_views.specs.Stored.{IsTied, Stored}
use Rattle.bench_views.proofs.Each.{some-same}
use Rattle.bench_views.proofs.LineViews.{posts-go_on}
use Rattle.bench_views.proofs.Looks.{MayLift, hand_of-log, may_drop, may_lift, next_of-log}
use Rattle.bench_views.proofs.Order.{dropped-snoc, lifted-snoc, posts_go}

-- an item at a place of a list stands there in a longer one
get-more : {X : Type 0} (xs more : List X) (k : ℕ) (x : X) → slice_get xs k ≡ Some x → slice_get (xs ++ more) k ≡ Some x
get-more [] more k x there = absurd cc
get-more (y ∷ xs) more zero x there = there
get-more (y ∷ xs) more (suc k) x there = get-more xs more k x there

get-end : {X : Type 0} (xs : List X) (x : X) → slice_get (xs ++ x ∷ []) (length xs) ≡ Some x
get-end [] x = refl
get-end (y ∷ xs) x = get-end xs x

front-at : {X : Type 0} (xs ys : List X) (k : ℕ) (x : X) → IsFront xs ys → slice_get xs k ≡ Some x → slice_get ys k ≡ Some x
front-at xs ys k x front there = subst (λ zs. slice_get zs k ≡ Some x) front.1 (get-more xs front.0 k x there)

pub front-last : {X : Type 0} (xs ys : List X) (x : X) → IsFront (xs ++ x ∷ []) ys → slice_get ys (length xs) ≡ Some x
front-last xs ys x front = front-at (xs ++ x ∷ []) ys (length xs) x front (get-end xs x)

pub number-itself : (n : ℕ) → (n == n) ≡ true
number-itself n = grind (arith, nat_tests)

source-itself : (source : Source) → is_same_source source source ≡ true
source-itself (Line line) = number-itself line
source-itself (Shard shard) = number-itself shard
source-itself (Desk desk) = number-itself desk
source-itself Clock = refl

-- an item that may be lifted is the next one
pub lifts-next : (settings : Settings) (log : List Entry) (s : Stored) (source : Source) (item : Item) (handled : Option Handled) → IsTied settings log s
    → InOrder settings log → MayFollow settings log (entry_of (Lift source) (Some item) handled) → next_of source s ≡ Some item
lifts-next settings log s source item handled tied order follows =
    next_of-log settings log s source tied may.there ∙ may.next ∙ ap Some (some-same may.item item (sym there ∙ last))
  where
    e : Entry
    e = entry_of (Lift source) (Some item) handled

    may : MayLift settings log source
    may = may_lift settings log [] source order follows.could

    there : slice_get (posts settings (log ++ e ∷ []) source) (length (lifted log source)) ≡ Some may.item
    there =
        front-at (posts settings log source) (posts settings (log ++ e ∷ []) source) (length (lifted log source)) may.item
        (posts_go settings log e (posts-go_on settings s.lines log [] e tied.lines follows.could) source) may.next

    more : lifted (log ++ e ∷ []) source ≡ lifted log source ++ item ∷ []
    more = lifted-snoc log e source ∙ ap (λ b. lifted log source ++ (if b then item ∷ [] else [])) (source-itself source)

    last : slice_get (posts settings (log ++ e ∷ []) source) (length (lifted log source)) ≡ Some item
    last =
        front-last (lifted log source) (posts settings (log ++ e ∷ []) source) item
        (subst (λ xs. IsFront xs (posts settings (log ++ e ∷ []) source)) more (follows.order.sources source).lifted_front)

-- an item that may be dropped is the one in the hand
pub drops-hand : (settings : Settings) (log : List Entry) (s : Stored) (source : Source) (item : Item) (handled : Option Handled) → IsTied settings log s
    → InOrder settings log → MayFollow settings log (entry_of (Drop source) (Some item) handled) → hand_of source s ≡ Some item
drops-hand settings log s source item handled tied order follows =
    hand_of-log settings log s source tied order (may_drop settings log [] source follows.could).there ∙ last
  where
    e : Entry
    e = entry_of (Drop source) (Some item) handled

    more : dropped (log ++ e ∷ []) source ≡ dropped log source ++ item ∷ []
    more = dropped-snoc log e source ∙ ap (λ b. dropped log source ++ (if b then item ∷ [] else [])) (source-itself source)

    same : lifted (log ++ e ∷ []) source ≡ lifted log source
    same = lifted-snoc log e source ∙ append-nil (lifted log source)

    last : slice_get (lifted log source) (length (dropped log source)) ≡ Some item
    last =
        front-last (dropped log source) (lifted log source) item
        (subst (IsFront (dropped log source ++ item ∷ [])) same
        (subst (λ xs. IsFront xs (lifted (log ++ e ∷ []) source)) more (follows.order.sources source).dropped_front))

-- of a step that works no shard nothing is handled
pub handles-none : (settings : Settings) (log : List Entry) (step : Step) (i : Option Item) (h : Option Handled) → IsCarried step
    → HasParts settings log (entry_of step i h) → h ≡ None
handles-none settings log Joined i h carried parts = parts.1
handles-none settings log (Dialled line) i h carried parts = parts.1
handles-none settings log (Came line piece) i h carried parts = parts.1
handles-none settings log (Lost line) i h carried parts = parts.1
handles-none settings log (Told desk key event) i h carried parts = parts.1
handles-none settings log (Fired machine generation) i h carried parts = parts.1
handles-none settings log (Lift source) i h carried parts = parts.1
handles-none settings log (Drop source) i h carried parts = parts.1
handles-none settings log (Work shard) i h carried parts = absurd carried

-- one item at most in a list is one item
one-listed : {X : Type 0} (i j : Option X) → option_to_list i ≡ option_to_list j → i ≡ j
one-listed None None same = refl
one-listed None (Some y) same = absurd cc
one-listed (Some x) None same = absurd cc
one-listed (Some x) (Some y) same = cc

-- no is not yes
abbrev IsNo : Bool → Type 0
IsNo false = Unit {0}
IsNo true = ⊥

never : false ≡ true → ⊥
never same = subst IsNo same tt

-- and it carries one item
lifts-one : (settings : Settings) (log : List Entry) (s : Stored) (source : Source) (i : Option Item) (h : Option Handled) → IsTied settings log s
    → InOrder settings log → MayFollow settings log (entry_of (Lift source) i h) → next_of source s ≡ i
lifts-one settings log s source None h tied order follows = absurd (never follows.parts.0)
lifts-one settings log s source (Some item) h tied order follows = lifts-next settings log s source item h tied order follows

drops-one : (settings : Settings) (log : List Entry) (s : Stored) (source : Source) (i : Option Item) (h : Option Handled) → IsTied settings log s
    → InOrder settings log → MayFollow settings log (entry_of (Drop source) i h) → hand_of source s ≡ i
drops-one settings log s source None h tied order follows = absurd (never follows.parts.0)
drops-one settings log s source (Some item) h tied order follows = drops-hand settings log s source item h tied order follows

carries-one : (settings : Settings) (log : List Entry) (s : Stored) (step : Step) (i j : Option Item) (h k : Option Handled) → IsTied settings log s
    → InOrder settings log → IsCarried step → MayFollow settings log (entry_of step i h) → MayFollow settings log (entry_of step j k) → i ≡ j
carries-one settings log s Joined i j h k tied order carried one other = one.parts.0 ∙ sym other.parts.0
carries-one settings log s (Dialled line) i j h k tied order carried one other = one.parts.0 ∙ sym other.parts.0
carries-one settings log s (Came line piece) i j h k tied order carried one other = one.parts.0 ∙ sym other.parts.0
carries-one settings log s (Lost line) i j h k tied order carried one other = one.parts.0 ∙ sym other.parts.0
carries-one settings log s (Told desk key event) i j h k tied order carried one other = one.parts.0 ∙ sym other.parts.0
carries-one settings log s (Fired machine generation) i j h k tied order carried one other = one-listed i j (one.parts.0 ∙ sym other.parts.0)
carries-one settings log s (Lift source) i j h k tied order carried one other =
    sym (lifts-one settings log s source i h tied order one) ∙ lifts-one settings log s source j k tied order other
carries-one settings log s (Drop source) i j h k tied order carried one other =
    sym (drops-one settings log s source i h tied order one) ∙ drops-one settings log s source j k tied order other
carries-one settings log s (Work shard) i j h k tied order carried one other = absurd carried

-- an entry is its step, what it carries and what was handled
entry-is : (settings : Settings) (log : List Entry) (step : Step) (e : Entry) → e.step ≡ step → IsCarried step → MayFollow settings log e
    → e ≡ entry_of step e.item None
entry-is settings log step e is carried follows =
    ap (λ st. entry_of st e.item e.handled) is ∙ ap (entry_of step e.item)
    (handles-none settings log step e.item e.handled carried (subst (λ st. MayFollow settings log (entry_of st e.item e.handled)) is follows).parts)

-- so one entry at most may follow
pub single-entry : (settings : Settings) (log : List Entry) (s : Stored) (step : Step) → IsTied settings log s → InOrder settings log → IsCarried step
    → IsSingle settings log step
single-entry settings log s step tied order carried e f e_is f_is one other =
    entry-is settings log step e e_is carried one
    ∙ ap (λ i. entry_of step i None) (carries-one settings log s step e.item f.item e.handled f.handled tied order carried
    (subst (λ st. MayFollow settings log (entry_of st e.item e.handled)) e_is one)
    (subst (λ st. MayFollow settings log (entry_of st f.item f.handled)) f_is other))
    ∙ sym (entry-is settings log step f f_is carried other)

-- the last entry of a log that has one more
last-more : (log : List Entry) (e : Entry) → slice_get (log ++ e ∷ []) (length (log ++ e ∷ []) - 1) ≡ Some e
last-more log e = ap (slice_get (log ++ e ∷ [])) (ap (λ n. n - 1) (length-append log (e ∷ [])) ∙ count (length log)) ∙ get-end log e
  where
    count : (n : ℕ) → (n + 1) - 1 ≡ n
    count n = omega arith

last_item-more : (log : List Entry) (e : Entry) → last_item (log ++ e ∷ []) ≡ e.item
last_item-more log e = ap (option_and_then (λ e. e.item)) (last-more log e)

-- a step that was taken and carried another item leaves no entry with this one that may follow
pub takes-other : (old new : Run) (step : Step) (item : Option Item) → IsSingle old.settings old.log step → Takes old new step
    → MayFollow old.settings old.log (entry_of step item None) → item ≡ last_item new.log
takes-other old new step item single taken follows =
    let logged : new.log ≡ old.log ++ taken.entry ∷ [] = ap (λ (r : Run). r.log) taken.grown in
    ap (λ (e : Entry). e.item) (single (entry_of step item None) taken.entry refl taken.of_step follows taken.follows)
    ∙ sym (ap last_item logged ∙ last_item-more old.log taken.entry)
