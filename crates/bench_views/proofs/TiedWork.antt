-- The parts of a bench are what the log says with one more entry of work.
use Rattle.std.proofs.Common.{◌≡◌, ℕ, List, [], ◌∷◌, ◌++◌, Option, Some, None, sym, ◌∙◌, ap, subst, arith, length, suc, zero}
use Rattle.std.specs.Prelude.{slice_set, ◌≢◌, if◌then◌else◌, option_to_list}
use Rattle.std.specs.List.{slice_get}
use Rattle.std.proofs.lemmas.List.{append-nil, length-set}
use Rattle.acct_book.specs.Book.{Book}
use Rattle.charge_session.specs.declared.want.Want.{Want}
use Rattle.bench_item.specs.declared.entry.Entry.{Entry}
use Rattle.bench_item.specs.declared.entry.Handled.{Handled}
use Rattle.bench_item.specs.declared.entry.Handled.TheVariants.{Move, Stale, TooBusy}
use Rattle.bench_item.specs.declared.item.Item.{Item}
use Rattle.bench_item.specs.declared.item.Item.TheVariants.{ToMachine}
use Rattle.bench_item.specs.declared.item.MachineItem.{MachineItem}
use Rattle.bench_item.specs.declared.source.Source.TheVariants.{Clock, Desk, Line}
use Rattle.bench_item.specs.declared.step.Step.TheVariants.{Work}
use Rattle.bench_item.specs.Keys.{home}
use Rattle.bench_queue.specs.Inbox.{next_in}
use Rattle.bench_shard.proofs.ViewLemmas.{own-item, state-for}
use Rattle.bench_shard.specs.Stands.{Stands}
use Rattle.bench_shard.specs.View.{ShardView}
use Rattle.bench_shard.specs.Works.{after_work}
use Rattle.bench_spec.specs.Booked.{want_of}
use Rattle.bench_spec.specs.Items.{desk_posts, dropped, handled_posts, is_firing, lifted, posts}
use Rattle.bench_spec.specs.Legal.{BecomesOf}
use Rattle.bench_spec.specs.Settings.{Settings}
use Rattle.bench_spec.proofs.AfterLemmas.{flat_map-snoc}
use Rattle.bench_views.proofs.Handled.{work_entry}
use Rattle.bench_views.proofs.LinePasts.{pasts_of-worked}
use Rattle.bench_views.proofs.PageSteps.{page_at-busy, page_at-moved, page_at-other, page_at-stale}
use Rattle.bench_views.proofs.Timers.{is_armed_so-kept, keeps-worked}
use Rattle.bench_views.proofs.WorkStands.{dropped-after, lifted-after, out-fields, stands-elsewhere, stands-worked}
use Rattle.bench_views.specs.Pages.{IsAsked, IsNotAsked, page_at}
use Rattle.bench_views.specs.Shards.{outbox_at}
use Rattle.bench_views.specs.Stored.{EachAt, IsShardAt, IsTied, Stored, meaning_of, source_at}
use Rattle.bench_views.specs.Worked.{IsAskedBy, booked_on, worked_by}
use Rattle.bench_line.specs.Lines.{AreLinesAfter}

none-same : {X : Type 0} (x : X) → None ≡ Some x → ⊥
none-same x e = cc

some-same : {X : Type 0} (a b : X) → Some a ≡ Some b → a ≡ b
some-same a b e = cc

suc-differs : (k i : ℕ) → k ≢ i → suc k ≢ suc i
suc-differs k i h e = h (omega (arith, e))

zero-differs : (k : ℕ) → zero ≢ suc k
zero-differs k e = absurd (omega (arith, e))

suc-zero : (k : ℕ) → suc k ≢ zero
suc-zero k e = absurd (omega (arith, e))

-- a fact of each item, where one item is changed
each-set : {X : Type 0} (P Q : ℕ → X → Type 0) (xs : List X) (i : ℕ) (new : X) → EachAt P xs → ((k : ℕ) (x : X) → k ≢ i → P k x → Q k x) → Q i new → EachAt Q (slice_set xs i new)
each-set P Q [] i new h f q k x is = absurd (none-same x is)
each-set P Q (y ∷ ys) zero new h f q zero x is = subst (Q zero) (some-same new x is) q
each-set P Q (y ∷ ys) zero new h f q (suc k) x is = f (suc k) x (suc-zero k) (h (suc k) x is)
each-set P Q (y ∷ ys) (suc i) new h f q zero x is = f zero x (zero-differs i) (h zero x is)
each-set P Q (y ∷ ys) (suc i) new h f q (suc k) x is =
    each-set (λ k. P (suc k)) (λ k. Q (suc k)) ys i new (λ k x is. h (suc k) x is) (λ k x apart p. f (suc k) x (suc-differs k i apart) p) q k x is

-- the shards
work-shards : (settings : Settings) (log : List Entry) (shards : List ShardView) (k : ℕ) (v : ShardView) (item : MachineItem) (handled : Handled) (own : List Item) → EachAt (IsShardAt settings log) shards → slice_get shards k ≡ Some v → next_in v.inbox ≡ Some item → own ≡ handled_posts settings.node handled item → EachAt (IsShardAt settings (log ++ work_entry k item handled ∷ [])) (slice_set shards k (after_work v item handled own))
work-shards settings log shards k v item handled own each at next posts_are =
    each-set (IsShardAt settings log) (IsShardAt settings (log ++ work_entry k item handled ∷ [])) shards k (after_work v item handled own) each
    (λ j w apart there. (there.0, stands-elsewhere settings log k w item handled (here ∙ number) (λ same. apart (sym (same ∙ there.0))) there.1))
    (number, subst (λ n. Stands settings (log ++ work_entry n item handled ∷ []) (after_work v item handled own)) number (stands-worked settings log v item handled own here next (sym (state-for settings log v item.key stands here)) posts_are stands))
  where
    number : v.number ≡ k
    number = (each k v at).0

    stands : Stands settings log v
    stands = (each k v at).1

    here : home settings.node.shards item.key.name ≡ v.number
    here = own-item settings log v item stands next

-- the outboxes of the clock and of desks
work-outbox : (settings : Settings) (log : List Entry) (k : ℕ) (item : MachineItem) (handled : Handled) (place : ℕ) → outbox_at settings log (source_at place) ≡ outbox_at settings (log ++ work_entry k item handled ∷ []) (source_at place)
work-outbox settings log k item handled zero =
    out-fields (posts settings log Clock) (posts settings (log ++ work_entry k item handled ∷ []) Clock) (length (lifted log Clock)) (length (lifted (log ++ work_entry k item handled ∷ []) Clock)) (length (dropped log Clock)) (length (dropped (log ++ work_entry k item handled ∷ []) Clock))
    (sym (flat_map-snoc (λ e. if is_firing e.step then option_to_list e.item else []) log (work_entry k item handled) ∙ append-nil (posts settings log Clock)))
    (ap length (sym (lifted-after log Clock k item handled))) (ap length (sym (dropped-after log Clock k item handled)))
work-outbox settings log k item handled (suc desk) =
    out-fields (posts settings log (Desk desk)) (posts settings (log ++ work_entry k item handled ∷ []) (Desk desk)) (length (lifted log (Desk desk))) (length (lifted (log ++ work_entry k item handled ∷ []) (Desk desk))) (length (dropped log (Desk desk))) (length (dropped (log ++ work_entry k item handled ∷ []) (Desk desk)))
    (sym (flat_map-snoc (λ e. desk_posts desk e.step) log (work_entry k item handled) ∙ append-nil (posts settings log (Desk desk))))
    (ap length (sym (lifted-after log (Desk desk) k item handled))) (ap length (sym (dropped-after log (Desk desk) k item handled)))

-- the pages
not-asked : (pages p q : ℕ) (want : Option Want) → q ≢ p → IsAsked pages p want → IsNotAsked pages q want
not-asked pages p q None apart asked = tt
not-asked pages p q (Some want) apart asked = λ there. apart (sym there ∙ asked)

work-page : (settings : Settings) (log : List Entry) (k p : ℕ) (item : MachineItem) (handled : Handled) → BecomesOf settings log item handled → IsAskedBy settings p item handled → booked_on settings item handled (page_at settings p log) ≡ page_at settings p (log ++ work_entry k item handled ∷ [])
work-page settings log k p item TooBusy becomes asked = sym (page_at-busy settings p log (Work k) (Some (ToMachine item)))
work-page settings log k p item (Stale state) becomes asked = sym (page_at-stale settings p log (Work k) (Some (ToMachine item)) state)
work-page settings log k p item (Move moved) becomes asked = sym (page_at-moved settings p log (Work k) item moved becomes.2.outcomes asked)

work-other : (settings : Settings) (log : List Entry) (k p q : ℕ) (item : MachineItem) (handled : Handled) → q ≢ p → BecomesOf settings log item handled → IsAskedBy settings p item handled → page_at settings q log ≡ page_at settings q (log ++ work_entry k item handled ∷ [])
work-other settings log k p q item TooBusy apart becomes asked = sym (page_at-busy settings q log (Work k) (Some (ToMachine item)))
work-other settings log k p q item (Stale state) apart becomes asked = sym (page_at-stale settings q log (Work k) (Some (ToMachine item)) state)
work-other settings log k p q item (Move moved) apart becomes asked =
    sym (page_at-other settings q log (Work k) item moved becomes.2.outcomes (not-asked settings.pages p q (want_of settings.node.laws item moved.before) apart asked))

-- all parts
pub tied-worked : (settings : Settings) (log : List Entry) (s : Stored) (k p : ℕ) (v : ShardView) (book : Book) (item : MachineItem) (handled : Handled) (own : List Item) → slice_get s.shards k ≡ Some v → slice_get s.books p ≡ Some book → next_in v.inbox ≡ Some item → BecomesOf settings log item handled → IsAskedBy settings p item handled → own ≡ handled_posts settings.node handled item → IsTied settings log s → IsTied settings (log ++ work_entry k item handled ∷ []) (worked_by settings k v p book item handled own s)
tied-worked settings log s k p v book item handled own at booked next becomes asked posts_are tied = record {
  shard_count = length-set s.shards k (after_work v item handled own) ∙ tied.shard_count;
  shards = work-shards settings log s.shards k v item handled own tied.shards at next posts_are;
  outbox_count = tied.outbox_count;
  outboxes = λ place o is. tied.outboxes place o is ∙ work-outbox settings log k item handled place;
  lines = subst (AreLinesAfter (meaning_of settings) s.lines) (sym (pasts_of-worked log k (Some (ToMachine item)) (Some handled))) tied.lines;
  lifted_of = λ n l is. tied.lifted_of n l is ∙ ap length (sym (lifted-after log (Line (suc n)) k item handled));
  carried_count = tied.carried_count;
  carried_of = λ n c is. tied.carried_of n c is ∙ ap length (sym (dropped-after log (Line (suc n)) k item handled));
  book_count = length-set s.books p (booked_on settings item handled book) ∙ tied.book_count;
  books =
      each-set (λ q b. b ≡ page_at settings q log) (λ q b. b ≡ page_at settings q (log ++ work_entry k item handled ∷ [])) s.books p (booked_on settings item handled book) tied.books
      (λ q b apart is. is ∙ work-other settings log k p q item handled apart becomes asked)
      (ap (booked_on settings item handled) (tied.books p book booked) ∙ work-page settings log k p item handled becomes asked);
  timers = is_armed_so-kept s.timers log (work_entry k item handled) (keeps-worked k (Some (ToMachine item)) (Some handled)) tied.timers;
}
