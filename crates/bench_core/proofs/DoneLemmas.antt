-- A shard's work on the parts of a world: what was done is what the log allows, and where nothing was written the world is as before.
use Rattle.std.proofs.Common.{◌≡◌, ◌<◌, ℕ, List, [], ◌∷◌, ◌++◌, Bool, true, false, Option, Some, None, refl, sym, ◌∙◌, ap, subst, arith, length, suc, zero, fold, drop, get_or, map}
use Rattle.std.specs.List.{slice_get}
use Rattle.std.specs.Prelude.{◌||◌, find, nat_lt, not, option_map, slice_set, unwrap_or, OnOk, OnErr, Result, Ok, Err}
use Rattle.std.proofs.lemmas.Bool.Decides.{nat_tests}
use Rattle.std.proofs.lemmas.List.{map-set, length-map}
use Rattle.std.proofs.lemmas.Option.{slice_get-map, slice_get_read}
use Rattle.std.specs.declared.alloc.AllocError.{AllocError}
use Rattle.acct_book.specs.Book.{Book, Paged, after}
use Rattle.acct_totals.specs.declared.op.Op.{Op}
use Rattle.charge_session.specs.declared.want.Want.{Want}
use Rattle.tab_law.specs.Books.{Laws}
use Rattle.bench_item.specs.declared.entry.Entry.{Entry}
use Rattle.bench_item.specs.declared.entry.Handled.{Handled}
use Rattle.bench_item.specs.declared.entry.Handled.TheVariants.{Move, Stale, TooBusy}
use Rattle.bench_item.specs.declared.item.Item.{Item}
use Rattle.bench_item.specs.declared.item.MachineItem.{MachineItem}
use Rattle.bench_item.specs.declared.step.Step.TheVariants.{Work}
use Rattle.bench_item.specs.declared.step.StepFault.{StepFault}
use Rattle.bench_item.specs.declared.step.StepFault.TheVariants.{Full, Nothing, Paused, Unknown}
use Rattle.bench_move.specs.Tables.{Tables}
use Rattle.bench_queue.specs.Inbox.{next_in}
use Rattle.bench_shard.proofs.LegalLemmas.{becomes-logged, posts-logged}
use Rattle.bench_shard.specs.Stands.{SaysTheSame, Stands, tables_of}
use Rattle.bench_shard.specs.Tasks.{IsTask, page_of, want_by, wanted}
use Rattle.bench_shard.specs.View.{ShardView}
use Rattle.bench_carry.specs.Placed.{ArePlaced, IsPlaced}
use Rattle.tick_wheel.specs.Timers.{Timers}
use Rattle.bench_views.proofs.Distinct.{Each-append}
use Rattle.bench_shard.specs.Works.{BecomesIn, after_work, ops_in, taken_back}
use Rattle.bench_shard.specs.declared.task.Task.{Task}
use Rattle.bench_spec.specs.Booked.{book_at}
use Rattle.bench_spec.specs.Items.{arrived, handled_posts, inbox, worked}
use Rattle.bench_spec.specs.Legal.{BecomesOf, MayFollow}
use Rattle.bench_spec.specs.Refusal.{is_empty, is_log_full, is_paused, lacks_work_room, refusal}
use Rattle.bench_spec.specs.Settings.{Settings}
use Rattle.bench_spec.specs.Taken.{Run, Takes}
use Rattle.bench_undo.specs.declared.undo.Undo.{Undo}
use Rattle.bench_undo.specs.declared.undo.Undo.TheVariants as undo
use Rattle.bench_views.specs.Pages.{IsAsked, page_at}
use Rattle.bench_views.specs.Stored.{EachAt, IsTied, Stored}
use Rattle.bench_views.specs.Worked.{IsAskedBy, booked_on}
use Rattle.bench_views.proofs.Handled.{work_entry}
use Rattle.bench_views.proofs.Pages.{event_with_quote-page, outcomes_for-page}
use Rattle.bench_core.specs.Inside.{IsPageAt}
use Rattle.bench_core.specs.Whole.{IsWhole}
use Rattle.bench_core.specs.Working.{IsDone, IsUnwritten}
use Rattle.bench_core.proofs.LegalLemmas.{legal_order}
use Rattle.bench_core.proofs.WholeLemmas.{not_some}
use Rattle.bench_core.proofs.WorkLemmas.{work-follows, work-whole}

-- the reasons not to work
abbrev first_of : Bool → Bool → Bool → Bool → Option StepFault
first_of there paused empty full =
    option_map (λ (r : Bool × StepFault). r.1) (find (λ (r : Bool × StepFault). r.0) ((not there, Unknown) ∷ (paused, Paused) ∷ (empty, Nothing) ∷ (full, Full) ∷ []))

none-holds : (there paused empty full : Bool) → first_of there paused empty full ≡ None → (there ≡ true) × (empty ≡ false)
none-holds false paused empty full h = absurd (not_some Unknown h)
none-holds true true empty full h = absurd (not_some Paused h)
none-holds true false true full h = absurd (not_some Nothing h)
none-holds true false false full h = (refl, refl)

can-work : (settings : Settings) (log : List Entry) (paused : List Bool) (k : ℕ) → refusal settings log paused (Work k) ≡ None → (nat_lt k settings.node.shards ≡ true) × (is_empty (inbox settings.node log k) ≡ false)
can-work settings log paused k could =
    none-holds (nat_lt k settings.node.shards) (is_paused paused k) (is_empty (inbox settings.node log k)) (is_log_full log || lacks_work_room settings log k) could

below : (a b : ℕ) → nat_lt a b ≡ true → a < b
below a b is = grind (arith, nat_tests, is)

-- the shard that works
pub work-shard : (settings : Settings) (log : List Entry) (paused : List Bool) (s : Stored) (k : ℕ) (v : ShardView) → IsTied settings log s → refusal settings log paused (Work k) ≡ None → v ≡ get_or s.shards k v → slice_get s.shards k ≡ Some v
work-shard settings log paused s k v tied could read =
    let less = below k settings.node.shards (can-work settings log paused k could).0 in
    let count = tied.shard_count in
    slice_get_read s.shards (length s.shards) k v refl (omega arith) read

-- has an item to handle
none-left : {X : Type 0} (xs : List X) (n : ℕ) → slice_get xs n ≡ None → is_empty (drop n xs) ≡ true
none-left [] zero h = refl
none-left [] (suc n) h = refl
none-left (x ∷ xs) zero h = absurd (not_some x h)
none-left (x ∷ xs) (suc n) h = none-left xs n h

pub work-next : (settings : Settings) (log : List Entry) (paused : List Bool) (s : Stored) (k : ℕ) (v : ShardView) → IsTied settings log s → refusal settings log paused (Work k) ≡ None → slice_get s.shards k ≡ Some v → next_in v.inbox ≡ None → ⊥
work-next settings log paused s k v tied could at none =
    let here = subst (λ n. slice_get (arrived settings.node log n) (length (worked log n)) ≡ None) (tied.shards k v at).0 (sym (ap next_in (tied.shards k v at).1.inbox) ∙ none) in
    let empty = none-left (arrived settings.node log k) (length (worked log k)) here in
    let full = (can-work settings log paused k could).1 in
    cc

-- and a page of the book
page-asked : (pages : ℕ) (want : Option Want) → IsAsked pages (unwrap_or (page_of pages want) 0) want
page-asked pages None = tt
page-asked pages (Some want) = refl

page-below : (pages : ℕ) (want : Option Want) → 0 < pages → unwrap_or (page_of pages want) 0 < pages
page-below pages None some = some
page-below pages (Some want) some = omega arith

pub task-asked : (laws : Laws) (pages : ℕ) (v : ShardView) (task : Task) (item : MachineItem) → IsTask laws v task → next_in v.inbox ≡ Some item → IsAsked pages (unwrap_or (page_of pages task.want) 0) (wanted laws v item)
task-asked laws pages v task item is next =
    let one : Some task.item ≡ Some item = sym is.item ∙ next in
    let same : task.item ≡ item = cc in
    let want : task.want ≡ wanted laws v item = is.want ∙ ap (λ f. want_by f laws v task.item) is.fate ∙ ap (wanted laws v) same in
    subst (IsAsked pages (unwrap_or (page_of pages task.want) 0)) want (page-asked pages task.want)

pub task-page : (settings : Settings) (log : List Entry) (s : Stored) (pages : List Paged) (want : Option Want) (page : Paged) → IsTied settings log s → s.books ≡ map (λ p. p.book) pages → 0 < settings.pages → page ≡ get_or pages (unwrap_or (page_of settings.pages want) 0) page → slice_get pages (unwrap_or (page_of settings.pages want) 0) ≡ Some page
task-page settings log s pages want page tied kept some read =
    let less = page-below settings.pages want some in
    let count = sym (length-map pages (λ p. p.book)) ∙ ap length (sym kept) ∙ tied.book_count in
    slice_get_read pages (length pages) (unwrap_or (page_of settings.pages want) 0) page refl (omega (arith, less, count)) read

-- what a move asked is what the task asked
moved-asked : (tables : Tables) (book : Book) (v : ShardView) (item : MachineItem) (handled : Handled) (settings : Settings) (p : ℕ) → tables.laws ≡ settings.node.laws → BecomesIn tables book v item handled → IsAsked settings.pages p (wanted settings.node.laws v item) → IsAskedBy settings p item handled
moved-asked tables book v item TooBusy settings p laws becomes asked = tt
moved-asked tables book v item (Stale state) settings p laws becomes asked = tt
moved-asked tables book v item (Move moved) settings p laws becomes asked =
    rw becomes.2.before_is (rw (becomes.0, becomes.1) at asked)

-- the page that is asked says the same as the whole book
pub page-says : (settings : Settings) (log : List Entry) (s : Stored) (pages : List Paged) (p : ℕ) (page : Paged) (want : Option Want) → IsTied settings log s
    → s.books ≡ map (λ p. p.book) pages → slice_get pages p ≡ Some page → IsAsked settings.pages p want → SaysTheSame page.book (book_at settings log) want
page-says settings log s pages p page want tied kept there asked = subst (λ b. SaysTheSame b (book_at settings log) want) (sym book) (record {
  event = λ e. event_with_quote-page settings p log want e asked;
  outcomes = λ ds. outcomes_for-page settings p log want ds asked;
})
  where
    book : page.book ≡ page_at settings p log
    book = tied.books p page.book (ap (λ bs. slice_get bs p) kept ∙ slice_get-map (λ p. p.book) pages p ∙ ap (option_map (λ p. p.book)) there)

-- what was done
pub record Done (settings : Settings) (log : List Entry) (k p : ℕ) (v : ShardView) (page : Paged) (item : MachineItem) (handled : Handled) (own : List Item) : Type 0 where
  pub next : next_in v.inbox ≡ Some item
  pub becomes : BecomesOf settings log item handled
  pub asked : IsAskedBy settings p item handled
  pub posts_are : own ≡ handled_posts settings.node handled item

done-facts : (settings : Settings) (log logged : List Entry) (s : Stored) (pages : List Paged) (k p : ℕ) (v w : ShardView) (page paged : Paged) (undos undone : List Undo) → IsTied settings log s → s.books ≡ map (λ p. p.book) pages → slice_get s.shards k ≡ Some v → slice_get pages p ≡ Some page → ((item : MachineItem) → next_in v.inbox ≡ Some item → IsAsked settings.pages p (wanted settings.node.laws v item)) → (done : IsDone (tables_of settings) k p v w page paged log logged undos undone) → Done settings log k p v page done.work.item done.work.handled done.work.effects.posts.items
done-facts settings log logged s pages k p v w page paged undos undone tied kept at there asked done = record {
  next = next;
  becomes = (becomes-logged settings log v page.book done.work.item done.work.handled stands next same).0 done.decided.becomes;
  asked = moved-asked (tables_of settings) page.book v done.work.item done.work.handled settings p refl done.decided.becomes (asked done.work.item next);
  posts_are = done.decided.effects.posts ∙ ap (λ n. handled_posts n done.work.handled done.work.item) (posts-logged settings log v stands);
}
  where
    stands : Stands settings log v
    stands = (tied.shards k v at).1

    next : next_in v.inbox ≡ Some done.work.item
    next = done.decided.fits.item_is

    same : SaysTheSame page.book (book_at settings log) (wanted settings.node.laws v done.work.item)
    same = page-says settings log s pages p page (wanted settings.node.laws v done.work.item) tied kept there (asked done.work.item next)

-- the entry may follow
pub done-follows : (settings : Settings) (log logged : List Entry) (paused : List Bool) (s : Stored) (pages : List Paged) (k p : ℕ) (v w : ShardView) (page paged : Paged) (undos undone : List Undo) → IsWhole settings log s undos → s.books ≡ map (λ p. p.book) pages → refusal settings log paused (Work k) ≡ None → slice_get s.shards k ≡ Some v → slice_get pages p ≡ Some page → ((item : MachineItem) → next_in v.inbox ≡ Some item → IsAsked settings.pages p (wanted settings.node.laws v item)) → (done : IsDone (tables_of settings) k p v w page paged log logged undos undone) → MayFollow settings log (work_entry k done.work.item done.work.handled)
done-follows settings log logged paused s pages k p v w page paged undos undone whole kept could at there asked done =
    let d = done-facts settings log logged s pages k p v w page paged undos undone whole.tied kept at there asked done in
    work-follows settings log paused s k v done.work.item done.work.handled (legal_order settings log whole.legal) whole.tied could at d.next d.becomes

-- and the world is whole behind it
pub done-whole : (settings : Settings) (log logged : List Entry) (paused : List Bool) (s : Stored) (pages : List Paged) (k p : ℕ) (v w : ShardView) (page paged : Paged) (undos undone : List Undo) → IsWhole settings log s undos → s.books ≡ map (λ p. p.book) pages → refusal settings log paused (Work k) ≡ None → slice_get s.shards k ≡ Some v → slice_get pages p ≡ Some page → ((item : MachineItem) → next_in v.inbox ≡ Some item → IsAsked settings.pages p (wanted settings.node.laws v item)) → IsDone (tables_of settings) k p v w page paged log logged undos undone → IsWhole settings logged (record s { shards = slice_set s.shards k w; books = map (λ p. p.book) (slice_set pages p paged) }) undone
done-whole settings log logged paused s pages k p v w page paged undos undone whole kept could at there asked done =
    rw (done.written.log_is, shards, books, undos_are)
    (work-whole settings log paused s undos k p v page.book done.work.item done.work.handled done.work.effects.posts.items done.written.change whole could at booked d.next d.becomes d.asked d.posts_are back)
  where
    d : Done settings log k p v page done.work.item done.work.handled done.work.effects.posts.items
    d = done-facts settings log logged s pages k p v w page paged undos undone whole.tied kept at there asked done

    booked : slice_get s.books p ≡ Some page.book
    booked = ap (λ bs. slice_get bs p) kept ∙ slice_get-map (λ p. p.book) pages p ∙ ap (option_map (λ p. p.book)) there

    back : taken_back done.written.change (after_work v done.work.item done.work.handled done.work.effects.posts.items) ≡ v
    back = subst (λ u. taken_back done.written.change u ≡ v) done.written.shard_is done.written.back

    shards : slice_set s.shards k w ≡ slice_set s.shards k (after_work v done.work.item done.work.handled done.work.effects.posts.items)
    shards = ap (slice_set s.shards k) done.written.shard_is

    books : map (λ p. p.book) (slice_set pages p paged) ≡ slice_set s.books p (booked_on settings done.work.item done.work.handled page.book)
    books =
        map-set (λ p. p.book) pages p paged ∙ ap (λ bs. slice_set bs p paged.book) (sym kept)
        ∙ ap (slice_set s.books p) (done.written.page_is.2 ∙ ap (fold after page.book) done.decided.effects.ops)

    undos_are : undone ≡ undos ++ undo.Worked k done.written.change p (length (ops_in settings.node.laws done.work.item done.work.handled)) ∷ []
    undos_are = done.written.undo_is ∙ ap (λ (ops : List Op). undos ++ undo.Worked k done.written.change p (length ops) ∷ []) done.decided.effects.ops

-- where nothing was written
set-same : {X : Type 0} (xs : List X) (i : ℕ) (x : X) → slice_get xs i ≡ Some x → slice_set xs i x ≡ xs
set-same [] i x at = refl
set-same (y ∷ xs) zero x at = let same : y ≡ x = cc in ap (λ z. z ∷ xs) (sym same)
set-same (y ∷ xs) (suc i) x at = ap (λ zs. y ∷ zs) (set-same xs i x at)

pub undone-whole : (settings : Settings) (log logged : List Entry) (s : Stored) (pages : List Paged) (k p : ℕ) (v w : ShardView) (page paged : Paged) (undos undone : List Undo) → IsWhole settings log s undos → s.books ≡ map (λ p. p.book) pages → slice_get s.shards k ≡ Some v → slice_get pages p ≡ Some page → IsUnwritten v w page paged log logged undos undone → IsWhole settings logged (record s { shards = slice_set s.shards k w; books = map (λ p. p.book) (slice_set pages p paged) }) undone
undone-whole settings log logged s pages k p v w page paged undos undone whole kept at there un =
    rw (un.log_is, shards, books, un.undo_is) whole
  where
    shards : slice_set s.shards k w ≡ s.shards
    shards = ap (slice_set s.shards k) un.shard_is ∙ set-same s.shards k v at

    booked : slice_get s.books p ≡ Some page.book
    booked = ap (λ bs. slice_get bs p) kept ∙ slice_get-map (λ p. p.book) pages p ∙ ap (option_map (λ p. p.book)) there

    books : map (λ p. p.book) (slice_set pages p paged) ≡ s.books
    books =
        map-set (λ p. p.book) pages p paged ∙ ap (λ bs. slice_set bs p paged.book) (sym kept)
        ∙ ap (slice_set s.books p) un.page_is.2 ∙ set-same s.books p page.book booked

-- a fact of each item, with one item changed to which it applies
pub each-kept : {X : Type 0} (P : ℕ → X → Type 0) (xs : List X) (i : ℕ) (new : X) → EachAt P xs → P i new → EachAt P (slice_set xs i new)
each-kept P [] i new h q k x is = h k x is
each-kept P (y ∷ ys) zero new h q zero x is = let same : new ≡ x = cc in subst (P zero) same q
each-kept P (y ∷ ys) zero new h q (suc k) x is = h (suc k) x is
each-kept P (y ∷ ys) (suc i) new h q zero x is = h zero x is
each-kept P (y ∷ ys) (suc i) new h q (suc k) x is = each-kept (λ k. P (suc k)) ys i new (λ k x is. h (suc k) x is) q k x is

-- which shards are paused stays
pub paused-kept : (shards : List ShardView) (k : ℕ) (v w : ShardView) → slice_get shards k ≡ Some v → w.paused ≡ v.paused → map (λ v. v.paused) (slice_set shards k w) ≡ map (λ v. v.paused) shards
paused-kept [] k v w at same = refl
paused-kept (y ∷ ys) zero v w at same = let one : y ≡ v = cc in ap (λ b. b ∷ map (λ v. v.paused) ys) (same ∙ ap (λ u. u.paused) (sym one))
paused-kept (y ∷ ys) (suc k) v w at same = ap (λ bs. y.paused ∷ bs) (paused-kept ys k v w at same)

-- All that is known of a shard that works: it and its page are read at their places, and the task is what it is to do next.
pub record Works (settings : Settings) (log : List Entry) (paused : List Bool) (s : Stored) (pages : List Paged) (undos : List Undo) (k p : ℕ) (v : ShardView) (page : Paged) (task : Task) : Type 0 where
  pub whole : IsWhole settings log s undos
  pub kept : s.books ≡ map (λ p. p.book) pages
  pub could : refusal settings log paused (Work k) ≡ None
  pub some : 0 < settings.pages
  pub read : v ≡ get_or s.shards k v
  pub task_is : IsTask settings.node.laws v task
  pub place : p ≡ unwrap_or (page_of settings.pages task.want) 0
  pub page_read : page ≡ get_or pages p page

pub works-at : (settings : Settings) (log : List Entry) (paused : List Bool) (s : Stored) (pages : List Paged) (undos : List Undo) (k p : ℕ) (v : ShardView) (page : Paged) (task : Task) → Works settings log paused s pages undos k p v page task → slice_get s.shards k ≡ Some v
works-at settings log paused s pages undos k p v page task h = work-shard settings log paused s k v h.whole.tied h.could h.read

pub works-page : (settings : Settings) (log : List Entry) (paused : List Bool) (s : Stored) (pages : List Paged) (undos : List Undo) (k p : ℕ) (v : ShardView) (page : Paged) (task : Task) → Works settings log paused s pages undos k p v page task → slice_get pages p ≡ Some page
works-page settings log paused s pages undos k p v page task h =
    subst (λ n. slice_get pages n ≡ Some page) (sym h.place) (task-page settings log s pages task.want page h.whole.tied h.kept h.some (subst (λ n. page ≡ get_or pages n page) h.place h.page_read))

pub works-asked : (settings : Settings) (log : List Entry) (paused : List Bool) (s : Stored) (pages : List Paged) (undos : List Undo) (k p : ℕ) (v : ShardView) (page : Paged) (task : Task) → Works settings log paused s pages undos k p v page task → (item : MachineItem) → next_in v.inbox ≡ Some item → IsAsked settings.pages p (wanted settings.node.laws v item)
works-asked settings log paused s pages undos k p v page task h item next =
    subst (λ n. IsAsked settings.pages n (wanted settings.node.laws v item)) (sym h.place) (task-asked settings.node.laws settings.pages v task item h.task_is next)

-- the world is whole behind it, whether memory was refused or not
pub works-whole : {E : Type 0} (settings : Settings) (log logged : List Entry) (paused : List Bool) (s : Stored) (pages : List Paged) (undos undone : List Undo) (k p : ℕ) (v w : ShardView) (page paged : Paged) (task : Task) (r : Result (Unit {0}) E) → Works settings log paused s pages undos k p v page task → OnOk r (IsDone (tables_of settings) k p v w page paged log logged undos undone) → OnErr r (IsUnwritten v w page paged log logged undos undone) → IsWhole settings logged (record s { shards = slice_set s.shards k w; books = map (λ p. p.book) (slice_set pages p paged) }) undone
works-whole settings log logged paused s pages undos undone k p v w page paged task (Ok x) h done un =
    done-whole settings log logged paused s pages k p v w page paged undos undone h.whole h.kept h.could (works-at settings log paused s pages undos k p v page task h) (works-page settings log paused s pages undos k p v page task h) (works-asked settings log paused s pages undos k p v page task h) done
works-whole settings log logged paused s pages undos undone k p v w page paged task (Err e) h done un =
    undone-whole settings log logged s pages k p v w page paged undos undone h.whole h.kept (works-at settings log paused s pages undos k p v page task h) (works-page settings log paused s pages undos k p v page task h) un

-- its page has its number
pub works-paged : {E : Type 0} (count : ℕ) (log logged : List Entry) (pages : List Paged) (tables : Tables) (k p : ℕ) (v w : ShardView) (page paged : Paged) (undos undone : List Undo) (r : Result (Unit {0}) E) → slice_get pages p ≡ Some page → EachAt (IsPageAt count) pages → OnOk r (IsDone tables k p v w page paged log logged undos undone) → OnErr r (IsUnwritten v w page paged log logged undos undone) → EachAt (IsPageAt count) (slice_set pages p paged)
works-paged count log logged pages tables k p v w page paged undos undone (Ok x) there each done un =
    each-kept (IsPageAt count) pages p paged each (done.written.page_is.0 ∙ (each p page there).0, done.written.page_is.1 ∙ (each p page there).1)
works-paged count log logged pages tables k p v w page paged undos undone (Err e) there each done un =
    each-kept (IsPageAt count) pages p paged each (un.page_is.0 ∙ (each p page there).0, un.page_is.1 ∙ (each p page there).1)

-- its record sets no timer again
pub works-placed : {E : Type 0} (wheel : Timers) (log logged : List Entry) (tables : Tables) (k p : ℕ) (v w : ShardView) (page paged : Paged) (undos undone : List Undo) (r : Result (Unit {0}) E) → ArePlaced wheel undos → OnOk r (IsDone tables k p v w page paged log logged undos undone) → OnErr r (IsUnwritten v w page paged log logged undos undone) → ArePlaced wheel undone
works-placed wheel log logged tables k p v w page paged undos undone (Ok x) placed done un =
    subst (ArePlaced wheel) (sym done.written.undo_is)
    (Each-append (IsPlaced wheel) undos (undo.Worked k done.written.change p (length done.work.effects.ops) ∷ []) placed (tt, tt))
works-placed wheel log logged tables k p v w page paged undos undone (Err e) placed done un = subst (ArePlaced wheel) (sym un.undo_is) placed

-- a run by what it is of
abbrev pub run_of : Settings → List Entry → List ShardView → Run
run_of settings log shards = record { settings = settings; log = log; paused = map (λ v. v.paused) shards }

-- the step was taken,
pub works-taken : (settings : Settings) (log logged : List Entry) (s : Stored) (pages : List Paged) (undos undone : List Undo) (k p : ℕ) (v w : ShardView) (page paged : Paged) (task : Task) (r : Result (Unit {0}) AllocError) → Works settings log (map (λ v. v.paused) s.shards) s pages undos k p v page task → OnOk r (IsDone (tables_of settings) k p v w page paged log logged undos undone) → OnOk r (Takes (run_of settings log s.shards) (run_of settings logged (slice_set s.shards k w)) (Work k))
works-taken settings log logged s pages undos undone k p v w page paged task (Ok x) h done = record {
  entry = work_entry k done.work.item done.work.handled;
  of_step = refl;
  could = h.could;
  follows = done-follows settings log logged (map (λ v. v.paused) s.shards) s pages k p v w page paged undos undone h.whole h.kept h.could (works-at settings log (map (λ v. v.paused) s.shards) s pages undos k p v page task h) (works-page settings log (map (λ v. v.paused) s.shards) s pages undos k p v page task h) (works-asked settings log (map (λ v. v.paused) s.shards) s pages undos k p v page task h) done;
  grown = rw (done.written.log_is, paused-kept s.shards k v w (works-at settings log (map (λ v. v.paused) s.shards) s pages undos k p v page task h) (ap (λ u. u.paused) done.written.shard_is)) refl;
}
works-taken settings log logged s pages undos undone k p v w page paged task (Err e) h done = tt

-- or all is as before
pub works-refused : {E : Type 0} (settings : Settings) (log logged : List Entry) (paused : List Bool) (s : Stored) (pages : List Paged) (undos undone : List Undo) (k p : ℕ) (v w : ShardView) (page paged : Paged) (task : Task) (r : Result (Unit {0}) E) → Works settings log paused s pages undos k p v page task → OnErr r (IsUnwritten v w page paged log logged undos undone) → OnErr r (run_of settings logged (slice_set s.shards k w) ≡ run_of settings log s.shards)
works-refused settings log logged paused s pages undos undone k p v w page paged task (Ok x) h un = tt
works-refused settings log logged paused s pages undos undone k p v w page paged task (Err e) h un =
    rw (un.log_is, paused-kept s.shards k v w (works-at settings log paused s pages undos k p v page task h) (ap (λ u. u.paused) un.shard_is)) refl
