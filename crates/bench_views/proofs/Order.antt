-- Items are carried and handled in their order with one more entry that carries or handles the one that is next.
use Rattle.std.proofs.Common.{◌≡◌, ◌+◌, ℕ, List, [], ◌∷◌, ◌++◌, Bool, true, false, Option, Some, None, refl, sym, ◌∙◌, ap, subst, append_assoc, arith, length, suc}
use Rattle.std.specs.Prelude.{◌==◌, if◌then◌else◌, option_to_list}
use Rattle.std.specs.List.{slice_get}
use Rattle.std.proofs.lemmas.Bool.{false≢true}
use Rattle.std.proofs.lemmas.Bool.Decides.{nat_tests}
use Rattle.std.proofs.lemmas.List.{append-nil, length-append}
use Rattle.bench_item.specs.declared.entry.Entry.{Entry}
use Rattle.bench_item.specs.declared.entry.Handled.{Handled}
use Rattle.bench_item.specs.declared.item.Item.{Item}
use Rattle.bench_item.specs.declared.item.Item.TheVariants.{ToMachine}
use Rattle.bench_item.specs.declared.item.MachineItem.{MachineItem}
use Rattle.bench_item.specs.declared.source.Source.{Source}
use Rattle.bench_item.specs.declared.source.Source.TheVariants.{Line, Shard, Desk, Clock}
use Rattle.bench_item.specs.declared.step.Step.TheVariants.{Lift, Drop, Work}
use Rattle.bench_item.specs.Keys.{Node}
use Rattle.bench_item.specs.Steps.{is_same_source}
use Rattle.bench_spec.specs.Items.{InOrder, IsCarried, IsFront, arrived, dropped, is_firing, lifted, posts, work_posts, worked, desk_posts}
use Rattle.bench_spec.specs.Machines.{is_work}
use Rattle.bench_spec.specs.Settings.{Settings}
use Rattle.bench_spec.proofs.AfterLemmas.{flat_map-snoc}
use Rattle.bench_spec.proofs.BookLemmas.{entry_of}
use Rattle.bench_views.specs.Carried.{arrives, drops, lifts, works}

-- fronts of longer lists
pub front-itself : {X : Type 0} (xs : List X) → IsFront xs xs
front-itself xs = ([], append-nil xs)

pub front-more : {X : Type 0} (xs ys more : List X) → IsFront xs ys → IsFront xs (ys ++ more)
front-more xs ys more front = (front.0 ++ more, sym (append_assoc xs front.0 more) ∙ ap (λ zs. zs ++ more) front.1)

pub front-trans : {X : Type 0} (xs ys zs : List X) → IsFront xs ys → IsFront ys zs → IsFront xs zs
front-trans xs ys zs first second =
    (first.0 ++ second.0, sym (append_assoc xs first.0 second.0) ∙ ap (λ ws. ws ++ second.0) first.1 ∙ second.1)

-- what stands behind a front begins with the next item
next-rest : {X : Type 0} (xs rest : List X) (y : X) → slice_get (xs ++ rest) (length xs) ≡ Some y → slice_get rest 0 ≡ Some y
next-rest [] rest y next = next
next-rest {X} (x ∷ xs) rest y next = next-rest xs rest y (sym (ap (slice_get ((x ∷ xs) ++ rest)) more) ∙ next)
  where
    more : length (x ∷ xs) ≡ suc (length xs)
    more = omega arith

begins-so : {X : Type 0} (rest : List X) (y : X) → slice_get rest 0 ≡ Some y → (tail : List X) × (y ∷ tail ≡ rest)
begins-so [] y next = absurd (grind (arith, next))
begins-so (x ∷ rest) y next = (rest, ap (λ z. z ∷ rest) (grind (arith, next)))

pub front-next : {X : Type 0} (xs ys : List X) (y : X) → IsFront xs ys → slice_get ys (length xs) ≡ Some y → IsFront (xs ++ y ∷ []) ys
front-next {X} xs ys y front next = (begins.0, append_assoc xs (y ∷ []) begins.0 ∙ ap (λ zs. xs ++ zs) begins.1 ∙ front.1)
  where
    begins : (tail : List X) × (y ∷ tail ≡ front.0)
    begins = begins-so front.0 y (next-rest xs front.0 y (ap (λ zs. slice_get zs (length xs)) front.1 ∙ next))

-- one source: nothing is carried, the next post is lifted, or what is in the hand is dropped
pub carried-none : (ps ps' ls ds : List Item) → IsCarried ps ls ds → IsFront ps ps' → IsCarried ps' (ls ++ []) (ds ++ [])
carried-none ps ps' ls ds h more = rw (append-nil ls, append-nil ds) (record {
  lifted_front = front-trans ls ps ps' h.lifted_front more;
  dropped_front = h.dropped_front;
  one_between = h.one_between;
})

pub carried-lift : (ps ps' ls ds : List Item) (item : Item) → IsCarried ps ls ds → IsFront ps ps' → slice_get ps (length ls) ≡ Some item → length ls ≡ length ds → IsCarried ps' (ls ++ item ∷ []) (ds ++ [])
carried-lift ps ps' ls ds item h more next free = rw (append-nil ds) (record {
  lifted_front = front-trans (ls ++ item ∷ []) ps ps' (front-next ls ps item h.lifted_front next) more;
  dropped_front = front-more ds ls (item ∷ []) h.dropped_front;
  one_between = omega (arith, free, length-append ls (item ∷ []));
})

pub carried-drop : (ps ps' ls ds : List Item) (item : Item) → IsCarried ps ls ds → IsFront ps ps' → slice_get ls (length ds) ≡ Some item → IsCarried ps' (ls ++ []) (ds ++ item ∷ [])
carried-drop ps ps' ls ds item h more held = rw (append-nil ls) (record {
  lifted_front = front-trans ls ps ps' h.lifted_front more;
  dropped_front = front-next ds ls item h.dropped_front held;
  one_between = omega (arith, h.one_between, length-append ds (item ∷ []));
})

-- what each source and each shard has behind one more entry
pub lifted-snoc : (log : List Entry) (e : Entry) (source : Source) → lifted (log ++ e ∷ []) source ≡ lifted log source ++ lifts source e
lifted-snoc log e source = flat_map-snoc (lifts source) log e

pub dropped-snoc : (log : List Entry) (e : Entry) (source : Source) → dropped (log ++ e ∷ []) source ≡ dropped log source ++ drops source e
dropped-snoc log e source = flat_map-snoc (drops source) log e

pub arrived-snoc : (node : Node) (log : List Entry) (e : Entry) (shard : ℕ) → arrived node (log ++ e ∷ []) shard ≡ arrived node log shard ++ arrives node shard e
arrived-snoc node log e shard = flat_map-snoc (arrives node shard) log e

pub worked-snoc : (log : List Entry) (e : Entry) (shard : ℕ) → worked (log ++ e ∷ []) shard ≡ worked log shard ++ works shard e
worked-snoc log e shard = flat_map-snoc (works shard) log e

-- what each source but lines puts out goes on; of lines their crate says so
pub posts_go : (settings : Settings) (log : List Entry) (e : Entry) → ((line : ℕ) → IsFront (posts settings log (Line line)) (posts settings (log ++ e ∷ []) (Line line))) → (source : Source) → IsFront (posts settings log source) (posts settings (log ++ e ∷ []) source)
posts_go settings log e lines (Line line) = lines line
posts_go settings log e lines (Shard shard) = (if is_work shard e.step then work_posts settings.node e else [], sym (flat_map-snoc (λ x. if is_work shard x.step then work_posts settings.node x else []) log e))
posts_go settings log e lines (Desk desk) = (desk_posts desk e.step, sym (flat_map-snoc (λ x. desk_posts desk x.step) log e))
posts_go settings log e lines Clock = (if is_firing e.step then option_to_list e.item else [], sym (flat_map-snoc (λ x. if is_firing x.step then option_to_list x.item else []) log e))

-- one of: nothing is carried, the next post is lifted into an empty hand, or what the hand holds is dropped
pub data Carries (ps ls ds : List Item) (l d : List Item) : Type 0 where
  Rests : l ≡ [] → d ≡ [] → Carries ps ls ds l d
  Lifts : (item : Item) → l ≡ item ∷ [] → d ≡ [] → slice_get ps (length ls) ≡ Some item → length ls ≡ length ds → Carries ps ls ds l d
  Drops : (item : Item) → l ≡ [] → d ≡ item ∷ [] → slice_get ls (length ds) ≡ Some item → Carries ps ls ds l d

carried-by : (ps ps' ls ds l d : List Item) → IsCarried ps ls ds → IsFront ps ps' → Carries ps ls ds l d → IsCarried ps' (ls ++ l) (ds ++ d)
carried-by ps ps' ls ds l d h more (Rests a b) = rw (a, b) (carried-none ps ps' ls ds h more)
carried-by ps ps' ls ds l d h more (Lifts item a b next free) = rw (a, b) (carried-lift ps ps' ls ds item h more next free)
carried-by ps ps' ls ds l d h more (Drops item a b held) = rw (a, b) (carried-drop ps ps' ls ds item h more held)

-- one shard: nothing is handled, or the item that waited longest
pub data Handles (come ws w : List MachineItem) : Type 0 where
  Idles : w ≡ [] → Handles come ws w
  Handles-next : (item : MachineItem) → w ≡ item ∷ [] → slice_get come (length ws) ≡ Some item → Handles come ws w

handled-by : (come more ws w : List MachineItem) → IsFront ws come → Handles come ws w → IsFront (ws ++ w) (come ++ more)
handled-by come more ws w h (Idles a) = rw (a, append-nil ws) (front-more ws come more h)
handled-by come more ws w h (Handles-next item a next) = rw a (front-more (ws ++ item ∷ []) come more (front-next ws come item h next))

-- one more entry that carries and handles what is next
pub order-after : (settings : Settings) (log : List Entry) (e : Entry) → InOrder settings log
    → ((line : ℕ) → IsFront (posts settings log (Line line)) (posts settings (log ++ e ∷ []) (Line line)))
    → ((source : Source) → Carries (posts settings log source) (lifted log source) (dropped log source) (lifts source e) (drops source e))
    → ((shard : ℕ) → Handles (arrived settings.node log shard) (worked log shard) (works shard e))
    → InOrder settings (log ++ e ∷ [])
order-after settings log e order lines carries handles = record {
  sources = λ source. rw (lifted-snoc log e source, dropped-snoc log e source)
      (carried-by (posts settings log source) (posts settings (log ++ e ∷ []) source) (lifted log source) (dropped log source) (lifts source e) (drops source e)
      (order.sources source) (posts_go settings log e lines source) (carries source));
  shards = λ shard. rw (worked-snoc log e shard, arrived-snoc settings.node log e shard)
      (handled-by (arrived settings.node log shard) (arrives settings.node shard e) (worked log shard) (works shard e) (order.shards shard) (handles shard));
}

-- sources that are the same are one
number-same : (a b : ℕ) → (a == b) ≡ true → a ≡ b
number-same a b h = grind (arith, nat_tests)

pub source-sound : (a b : Source) → is_same_source a b ≡ true → a ≡ b
source-sound (Line a) (Line b) h = ap Line (number-same a b h)
source-sound (Line a) (Shard b) h = absurd (false≢true h)
source-sound (Line a) (Desk b) h = absurd (false≢true h)
source-sound (Line a) Clock h = absurd (false≢true h)
source-sound (Shard a) (Line b) h = absurd (false≢true h)
source-sound (Shard a) (Shard b) h = ap Shard (number-same a b h)
source-sound (Shard a) (Desk b) h = absurd (false≢true h)
source-sound (Shard a) Clock h = absurd (false≢true h)
source-sound (Desk a) (Line b) h = absurd (false≢true h)
source-sound (Desk a) (Shard b) h = absurd (false≢true h)
source-sound (Desk a) (Desk b) h = ap Desk (number-same a b h)
source-sound (Desk a) Clock h = absurd (false≢true h)
source-sound Clock (Line b) h = absurd (false≢true h)
source-sound Clock (Shard b) h = absurd (false≢true h)
source-sound Clock (Desk b) h = absurd (false≢true h)
source-sound Clock Clock h = refl

-- an entry that lifts the next post of a source
pub lift-carries : (settings : Settings) (log : List Entry) (source : Source) (item : Item) → slice_get (posts settings log source) (length (lifted log source)) ≡ Some item → length (lifted log source) ≡ length (dropped log source)
    → (s : Source) → Carries (posts settings log s) (lifted log s) (dropped log s) (lifts s (entry_of (Lift source) (Some item) None)) (drops s (entry_of (Lift source) (Some item) None))
lift-carries settings log source item next free s = by (is_same_source s source) refl
  where
    by : (b : Bool) → is_same_source s source ≡ b → Carries (posts settings log s) (lifted log s) (dropped log s) (if b then item ∷ [] else []) []
    by true is = subst (λ o. Carries (posts settings log o) (lifted log o) (dropped log o) (item ∷ []) []) (sym (source-sound s source is)) (Lifts item refl refl next free)
    by false is = Rests refl refl

-- an entry that drops what is in the hand of a source
pub drop-carries : (settings : Settings) (log : List Entry) (source : Source) (item : Item) → slice_get (lifted log source) (length (dropped log source)) ≡ Some item
    → (s : Source) → Carries (posts settings log s) (lifted log s) (dropped log s) (lifts s (entry_of (Drop source) (Some item) None)) (drops s (entry_of (Drop source) (Some item) None))
drop-carries settings log source item held s = by (is_same_source s source) refl
  where
    by : (b : Bool) → is_same_source s source ≡ b → Carries (posts settings log s) (lifted log s) (dropped log s) [] (if b then item ∷ [] else [])
    by true is = subst (λ o. Carries (posts settings log o) (lifted log o) (dropped log o) [] (item ∷ [])) (sym (source-sound s source is)) (Drops item refl refl held)
    by false is = Rests refl refl

-- an entry that handles the item that waited longest in a shard
pub work-handles : (node : Node) (log : List Entry) (shard : ℕ) (item : MachineItem) (handled : Option Handled) → slice_get (arrived node log shard) (length (worked log shard)) ≡ Some item
    → (k : ℕ) → Handles (arrived node log k) (worked log k) (works k (entry_of (Work shard) (Some (ToMachine item)) handled))
work-handles node log shard item handled next k = by (shard == k) refl
  where
    by : (b : Bool) → (shard == k) ≡ b → Handles (arrived node log k) (worked log k) (if b then item ∷ [] else [])
    by true is = subst (λ n. Handles (arrived node log n) (worked log n) (item ∷ [])) (number-same shard k is) (Handles-next item refl next)
    by false is = Idles refl
