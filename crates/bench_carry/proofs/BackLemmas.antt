-- Steps are taken back: lists that are changed at a place where there is something, and what all that leaves as it is.
use Rattle.std.proofs.Common.{◌≡◌, ◌-◌, ◌<◌, ◌≤◌, ℕ, zero, suc, List, [], ◌∷◌, length, Some, refl, ◌∙◌, ap, arith}
use Rattle.std.specs.Prelude.{get_or, map, option_map, slice_get, slice_set}
use Rattle.std.proofs.lemmas.List.{length-map, length-take-le}
use Rattle.std.proofs.lemmas.Option.{slice_get-get_or, slice_get-map}
use Rattle.std.proofs.Math.Seq.{map-set_same}
use Rattle.acct_book.specs.Book.{Book, Paged, with_book}
use Rattle.bench_item.specs.declared.source.Source.{Source}
use Rattle.bench_item.specs.declared.source.Source.TheVariants.{Clock, Desk, Line, Shard}
use Rattle.bench_queue.specs.Inbox.{without_in}
use Rattle.bench_queue.specs.Outbox.{OutboxState, OutboxView, undropped_one, unlifted_one}
use Rattle.bench_shard.specs.View.{with_inbox, with_outbox}
use Rattle.bench_shard.specs.Works.{taken_back as shard_taken_back}
use Rattle.bench_undo.specs.declared.undo.Arrival.{Arrival}
use Rattle.bench_undo.specs.declared.undo.Arrival.TheVariants as arrivals
use Rattle.bench_undo.specs.declared.undo.Undo.{Undo}
use Rattle.bench_undo.specs.declared.undo.Undo.TheVariants.{Dropped, Fired, Lifted, Lines, Opened, Told, Worked}
use Rattle.bench_views.specs.Behind.{changed_at}
use Rattle.bench_views.specs.Pages.{taken_back_by}
use Rattle.bench_views.specs.Stored.{Stored}
use Rattle.tick_wheel.specs.Timers.{Timers}
use Rattle.bench_carry.specs.Parts.{IsTimerPlaced, books_of, numbers_of}
use Rattle.bench_carry.specs.Placed.{IsPlaced}
use Rattle.bench_carry.specs.Seen.{views_of}
use Rattle.bench_carry.specs.Undone.{unarrived, undone, undropped, unlifted}
use Rattle.bench_carry.proofs.LiftLemmas.{set-changed}
use Rattle.bench_carry.proofs.PartLemmas.{views-set}

-- an item that is written where one is, is changed; where none is, nothing changes
pub set-within : {X : Type 0} (xs : List X) (place : ℕ) (new d : X) (f : X → X) → place < length xs → new ≡ f (get_or xs place d)
    → slice_set xs place new ≡ changed_at place f xs
set-within xs place new d f within is = set-changed xs place (get_or xs place d) new f (slice_get-get_or xs place d within) is

pub changed-past : {X : Type 0} (place : ℕ) (f : X → X) (xs : List X) → length xs ≤ place → changed_at place f xs ≡ xs
changed-past place f [] past = refl
changed-past zero f (x ∷ xs) past = absurd (omega arith)
changed-past (suc place) f (x ∷ xs) past = ap (λ ys. x ∷ ys) (changed-past place f xs (omega arith))

-- the same of outboxes by their views
pub views-within : (outs : List OutboxState) (place : ℕ) (new d : OutboxState) (f : OutboxView → OutboxView) → place < length outs
    → new.view ≡ f (get_or outs place d).view → views_of (slice_set outs place new) ≡ changed_at place f (views_of outs)
views-within outs place new d f within is = views-set outs place (get_or outs place d) new f (slice_get-get_or outs place d within) is

pub views-past : (outs : List OutboxState) (place : ℕ) (f : OutboxView → OutboxView) → length outs ≤ place
    → changed_at place f (views_of outs) ≡ views_of outs
views-past outs place f past = changed-past place f (views_of outs) (omega (arith, length-map outs (λ (o : OutboxState). o.view)))

-- what is read of the items, as they are changed
pub map-changed : {X Y : Type 0} (g : X → Y) (place : ℕ) (f : X → X) (h : Y → Y) (xs : List X) → ((x : X) → g (f x) ≡ h (g x))
    → map g (changed_at place f xs) ≡ changed_at place h (map g xs)
map-changed g place f h [] same = refl
map-changed g zero f h (x ∷ xs) same = ap (λ y. y ∷ map g xs) (same x)
map-changed g (suc place) f h (x ∷ xs) same = ap (λ ys. g x ∷ ys) (map-changed g place f h xs same)

-- and where the change leaves that alone
pub map-left : {X Y : Type 0} (g : X → Y) (place : ℕ) (f : X → X) (xs : List X) → ((x : X) → g (f x) ≡ g x)
    → map g (changed_at place f xs) ≡ map g xs
map-left g place f [] same = refl
map-left g zero f (x ∷ xs) same = ap (λ y. y ∷ map g xs) (same x)
map-left g (suc place) f (x ∷ xs) same = ap (λ ys. g x ∷ ys) (map-left g place f xs same)

-- a page of which as much is booked as is taken back, and what that makes of the pages
pub booked-there : (pages : List Paged) (place count : ℕ) (d : Paged) → place < length pages
    → ((book : Book) → slice_get (books_of pages) place ≡ Some book → count ≤ length book.journal)
    → count ≤ length (get_or pages place d).book.journal
booked-there pages place count d within may =
    may (get_or pages place d).book
    (slice_get-map (λ (p : Paged). p.book) pages place ∙ ap (option_map (λ (p : Paged). p.book)) (slice_get-get_or pages place d within))

pub books-within : (pages : List Paged) (place count : ℕ) (new d : Paged) → place < length pages
    → new ≡ with_book (get_or pages place d) (taken_back_by count (get_or pages place d).book) (get_or pages place d).room
    → books_of (slice_set pages place new) ≡ changed_at place (taken_back_by count) (books_of pages)
books-within pages place count new d within is =
    ap books_of (set-within pages place new d (λ p. with_book p (taken_back_by count p.book) p.room) within is)
    ∙ map-changed (λ (p : Paged). p.book) place (λ p. with_book p (taken_back_by count p.book) p.room) (taken_back_by count) pages (λ p. refl)

pub books-past : (pages : List Paged) (place count : ℕ) → length pages ≤ place
    → changed_at place (taken_back_by count) (books_of pages) ≡ books_of pages
books-past pages place count past =
    changed-past place (taken_back_by count) (books_of pages) (omega (arith, length-map pages (λ (p : Paged). p.book)))

pub numbers-within : (pages : List Paged) (place : ℕ) (new d : Paged) (book : Book) (room : ℕ)
    → new ≡ with_book (get_or pages place d) book room → numbers_of (slice_set pages place new) ≡ numbers_of pages
numbers-within pages place new d book room is =
    map-set_same (λ (p : Paged). (p.number, p.pages)) pages place new d (ap (λ (p : Paged). (p.number, p.pages)) is)

-- a journal without its last operations
pub length-taken_back : (n : ℕ) (book : Book) → length (taken_back_by n book).journal ≡ length book.journal - n
length-taken_back zero book = omega arith
length-taken_back (suc n) book =
    let journal = (taken_back_by n book).journal in
    let before = length-taken_back n book in
    let one = length-take-le (length journal - 1) journal (omega arith) in
    omega arith

-- which shards are paused stays as it is where a step is taken back
pub unlifted-paused : (source : Source) (s : Stored) → map (λ v. v.paused) (unlifted source s).shards ≡ map (λ v. v.paused) s.shards
unlifted-paused (Line line) s = refl
unlifted-paused (Shard shard) s = map-left (λ v. v.paused) shard (λ v. with_outbox v (unlifted_one v.outbox)) s.shards (λ v. refl)
unlifted-paused (Desk desk) s = refl
unlifted-paused Clock s = refl

pub undropped-paused : (source : Source) (s : Stored) → map (λ v. v.paused) (undropped source s).shards ≡ map (λ v. v.paused) s.shards
undropped-paused (Line line) s = refl
undropped-paused (Shard shard) s = map-left (λ v. v.paused) shard (λ v. with_outbox v (undropped_one v.outbox)) s.shards (λ v. refl)
undropped-paused (Desk desk) s = refl
undropped-paused Clock s = refl

pub unarrived-paused : (arrival : Arrival) (s : Stored) → map (λ v. v.paused) (unarrived arrival s).shards ≡ map (λ v. v.paused) s.shards
unarrived-paused (arrivals.Shard shard) s =
    map-left (λ v. v.paused) shard (λ v. with_inbox v (without_in v.inbox 1)) s.shards (λ v. refl)
unarrived-paused (arrivals.Lines change) s = refl
unarrived-paused arrivals.Opened s = refl
unarrived-paused (arrivals.Timer machine old) s = refl

pub undone-paused : (undo : Undo) (s : Stored) → map (λ v. v.paused) (undone undo s).shards ≡ map (λ v. v.paused) s.shards
undone-paused Opened s = refl
undone-paused (Lines change) s = refl
undone-paused (Told desk) s = refl
undone-paused (Fired machine old posted) s = refl
undone-paused (Lifted source) s = unlifted-paused source s
undone-paused (Dropped source arrival) s = unarrived-paused arrival (undropped source s) ∙ undropped-paused source s
undone-paused (Worked shard change page booked) s = map-left (λ v. v.paused) shard (shard_taken_back change) s.shards (λ v. refl)

-- the timer of an arrival has its place
pub placed-arrival : (wheel : Timers) (source : Source) (arrival : Arrival) → IsPlaced wheel (Dropped source arrival)
    → IsTimerPlaced wheel arrival
placed-arrival wheel source (arrivals.Shard shard) placed = tt
placed-arrival wheel source (arrivals.Lines change) placed = tt
placed-arrival wheel source arrivals.Opened placed = tt
placed-arrival wheel source (arrivals.Timer machine old) placed = placed
