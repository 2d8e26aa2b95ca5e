-- What a bench keeps is what the log says behind one more entry that handles nothing: the general lemma, and what such an entry makes
-- of outboxes, shards and lines.
use Rattle.std.proofs.Common.{◌≡◌, ◌+◌, ℕ, zero, suc, List, [], ◌∷◌, ◌++◌, length, true, false, Option, None, refl, sym, ◌∙◌, ap, subst, arith}
use Rattle.std.specs.Prelude.{map, if◌then◌else◌}
use Rattle.std.proofs.lemmas.List.{append-nil}
use Rattle.bench_item.specs.declared.entry.Entry.{Entry}
use Rattle.bench_item.specs.declared.item.Item.{Item}
use Rattle.bench_item.specs.declared.item.MachineItem.{MachineItem}
use Rattle.bench_item.specs.declared.source.Source.{Source}
use Rattle.bench_item.specs.declared.source.Source.TheVariants.{Line, Shard}
use Rattle.bench_item.specs.declared.step.Step.{Step}
use Rattle.bench_item.specs.Keys.{Node}
use Rattle.bench_line.specs.Line.{LineView}
use Rattle.bench_line.specs.Lines.{AreLinesAfter}
use Rattle.bench_queue.specs.Inbox.{InboxView, put_in}
use Rattle.bench_queue.specs.Outbox.{OutboxView, can_lift, dropped_one, has_hand, lifted_one, put_out}
use Rattle.bench_shard.specs.View.{ShardView, with_inbox, with_outbox}
use Rattle.bench_spec.specs.Items.{dropped, lifted, posts}
use Rattle.bench_spec.specs.Machines.{is_work}
use Rattle.bench_spec.specs.Settings.{Settings}
use Rattle.bench_spec.proofs.BookLemmas.{entry_of}
use Rattle.bench_views.specs.Carried.{arrives, carried_in, carried_out, carried_shard, drops, gives, lifts}
use Rattle.bench_views.specs.LinePasts.{pasts_of}
use Rattle.bench_views.specs.Pages.{page_at}
use Rattle.bench_views.specs.Shards.{outbox_at}
use Rattle.bench_views.specs.Stored.{EachAt, IsShardAt, IsTied, Stored, meaning_of, source_at}
use Rattle.bench_views.specs.Timers.{IsArmedSo}
use Rattle.bench_views.proofs.Acting.{Acts, each-acts, each-had, each-has}
use Rattle.bench_views.proofs.Carrying.{clock-after, desk-after, stands-carried}
use Rattle.bench_views.proofs.Order.{dropped-snoc, lifted-snoc}
use Rattle.bench_views.proofs.PageSteps.{page_at-unhandled}

plus_none : (n : ℕ) → n + 0 ≡ n
plus_none n = omega arith

abbrev out_of : List Item → ℕ → ℕ → OutboxView
out_of items l d = record { posts = items; lifted = l; dropped = d }

abbrev in_of : List MachineItem → ℕ → InboxView
in_of items worked = record { items = items; worked = worked }

fields : (ps qs : List Item) (l m d n : ℕ) → ps ≡ qs → l ≡ m → d ≡ n → out_of ps l d ≡ out_of qs m n
fields ps qs l m d n a b c = rw (a, b, c) refl

-- An outbox behind an entry that does nothing there,
pub carried_out-none : (source : Source) (e : Entry) (v : OutboxView) → gives source e ≡ [] → lifts source e ≡ [] → drops source e ≡ []
    → carried_out source e v ≡ v
carried_out-none source e v g l d =
    fields (v.posts ++ gives source e) v.posts (v.lifted + length (lifts source e)) v.lifted (v.dropped + length (drops source e)) v.dropped
    (ap (λ items. v.posts ++ items) g ∙ append-nil v.posts) (ap (λ items. v.lifted + length items) l ∙ plus_none v.lifted)
    (ap (λ items. v.dropped + length items) d ∙ plus_none v.dropped)

-- that puts out there,
pub carried_out-put : (source : Source) (e : Entry) (v : OutboxView) (items : List Item) → gives source e ≡ items → lifts source e ≡ []
    → drops source e ≡ [] → carried_out source e v ≡ put_out v items
carried_out-put source e v items g l d =
    fields (v.posts ++ gives source e) (v.posts ++ items) (v.lifted + length (lifts source e)) v.lifted (v.dropped + length (drops source e)) v.dropped
    (ap (λ more. v.posts ++ more) g) (ap (λ more. v.lifted + length more) l ∙ plus_none v.lifted)
    (ap (λ more. v.dropped + length more) d ∙ plus_none v.dropped)

-- that lifts there,
pub carried_out-lift : (source : Source) (e : Entry) (v : OutboxView) (item : Item) → gives source e ≡ [] → lifts source e ≡ item ∷ []
    → drops source e ≡ [] → can_lift v ≡ true → carried_out source e v ≡ lifted_one v
carried_out-lift source e v item g l d can =
    fields (v.posts ++ gives source e) v.posts (v.lifted + length (lifts source e)) (v.lifted + 1) (v.dropped + length (drops source e)) v.dropped
    (ap (λ items. v.posts ++ items) g ∙ append-nil v.posts) (ap (λ items. v.lifted + length items) l)
    (ap (λ items. v.dropped + length items) d ∙ plus_none v.dropped)
    ∙ sym (ap (λ b. if b then out_of v.posts (v.lifted + 1) v.dropped else v) can)

-- and that drops from there.
pub carried_out-drop : (source : Source) (e : Entry) (v : OutboxView) (item : Item) → gives source e ≡ [] → lifts source e ≡ []
    → drops source e ≡ item ∷ [] → has_hand v ≡ true → carried_out source e v ≡ dropped_one v
carried_out-drop source e v item g l d has =
    fields (v.posts ++ gives source e) v.posts (v.lifted + length (lifts source e)) v.lifted (v.dropped + length (drops source e)) (v.dropped + 1)
    (ap (λ items. v.posts ++ items) g ∙ append-nil v.posts) (ap (λ items. v.lifted + length items) l ∙ plus_none v.lifted)
    (ap (λ items. v.dropped + length items) d)
    ∙ sym (ap (λ b. if b then out_of v.posts v.lifted (v.dropped + 1) else v) has)

-- an inbox to which nothing came, or one event
pub carried_in-none : (node : Node) (shard : ℕ) (e : Entry) (v : InboxView) → arrives node shard e ≡ [] → carried_in node shard e v ≡ v
carried_in-none node shard e v none = ap (λ items. in_of items v.worked) (ap (λ items. v.items ++ items) none ∙ append-nil v.items)

pub carried_in-put : (node : Node) (shard : ℕ) (e : Entry) (v : InboxView) (item : MachineItem) → arrives node shard e ≡ item ∷ []
    → carried_in node shard e v ≡ put_in v (item ∷ [])
carried_in-put node shard e v item one = ap (λ items. in_of (v.items ++ items) v.worked) one

-- a shard by its inbox and its outbox
pub carried_shard-by : (node : Node) (e : Entry) (v : ShardView) (inbox : InboxView) (outbox : OutboxView)
    → carried_in node v.number e v.inbox ≡ inbox → carried_out (Shard v.number) e v.outbox ≡ outbox
    → carried_shard node e v ≡ with_outbox (with_inbox v inbox) outbox
carried_shard-by node e v inbox outbox i o =
    ap (λ x. with_outbox (with_inbox v x) (carried_out (Shard v.number) e v.outbox)) i
    ∙ ap (λ x. with_outbox (with_inbox v inbox) x) o

-- The lines are what the log says, and so is how far what they put out was carried.
pub record AreLinesTied (settings : Settings) (log : List Entry) (lines : List LineView) (carried : List ℕ) : Type 0 where
  pub stand : AreLinesAfter (meaning_of settings) lines (pasts_of log)
  pub lifted_of : EachAt (λ n l. l.lifted ≡ length (lifted log (Line (suc n)))) lines
  pub carried_count : length carried ≡ length lines
  pub carried_of : EachAt (λ n c. c ≡ length (dropped log (Line (suc n)))) carried

pub lines_tied : (settings : Settings) (log : List Entry) (s : Stored) → IsTied settings log s → AreLinesTied settings log s.lines s.carried
lines_tied settings log s tied = record {
  stand = tied.lines;
  lifted_of = tied.lifted_of;
  carried_count = tied.carried_count;
  carried_of = tied.carried_of;
}

-- The parts go on with an entry: each shard and each outbox as it carries, the lines and the timers as the log says, the book not.
pub record GoOn (settings : Settings) (log : List Entry) (e : Entry) (old new : Stored) : Type 0 where
  pub shard_by : ℕ → ShardView → ShardView
  pub shards : Acts shard_by old.shards new.shards
  pub each_shard : (k : ℕ) (v : ShardView) → IsShardAt settings log k v → shard_by k v ≡ carried_shard settings.node e v
  pub outbox_by : ℕ → OutboxView → OutboxView
  pub outboxes : Acts outbox_by old.outboxes new.outboxes
  pub each_outbox : (p : ℕ) (v : OutboxView) → v ≡ outbox_at settings log (source_at p) → outbox_by p v ≡ carried_out (source_at p) e v
  pub lines : AreLinesTied settings (log ++ e ∷ []) new.lines new.carried
  pub books : new.books ≡ old.books
  pub timers : IsArmedSo new.timers (log ++ e ∷ [])

-- the outbox of the clock, and of a desk
out-after : (settings : Settings) (log : List Entry) (e : Entry) (p : ℕ)
    → outbox_at settings (log ++ e ∷ []) (source_at p) ≡ carried_out (source_at p) e (outbox_at settings log (source_at p))
out-after settings log e zero = clock-after settings log e
out-after settings log e (suc desk) = desk-after settings log e desk

-- Then they are what the longer log says.
pub tied-behind : (settings : Settings) (log : List Entry) (step : Step) (item : Option Item) (old new : Stored)
    → ((shard : ℕ) → is_work shard step ≡ false) → IsTied settings log old
    → GoOn settings log (entry_of step item None) old new → IsTied settings (log ++ entry_of step item None ∷ []) new
tied-behind settings log step item old new idle tied go = record {
  shard_count = go.shards.count ∙ tied.shard_count;
  shards =
      each-acts (IsShardAt settings log) (IsShardAt settings after) go.shard_by old.shards new.shards go.shards
      (λ k v is. subst (IsShardAt settings after k) (sym (go.each_shard k v is)) (is.0, stands-carried settings log step item v idle is.1)) tied.shards;
  outbox_count = go.outboxes.count ∙ tied.outbox_count;
  outboxes =
      each-acts (λ p v. v ≡ outbox_at settings log (source_at p)) (λ p v. v ≡ outbox_at settings after (source_at p)) go.outbox_by old.outboxes new.outboxes go.outboxes
      (λ p v is. go.each_outbox p v is ∙ ap (carried_out (source_at p) (entry_of step item None)) is ∙ sym (out-after settings log (entry_of step item None) p)) tied.outboxes;
  lines = go.lines.stand;
  lifted_of = go.lines.lifted_of;
  carried_count = go.lines.carried_count;
  carried_of = go.lines.carried_of;
  book_count = ap length go.books ∙ tied.book_count;
  books =
      subst (EachAt (λ k book. book ≡ page_at settings k after)) (sym go.books)
      (λ k book is. tied.books k book is ∙ sym (page_at-unhandled settings k log step item));
  timers = go.timers;
}
  where
    after : List Entry
    after = log ++ entry_of step item None ∷ []

-- how many were lifted and dropped, where an entry does neither
pub lifted-same : (log : List Entry) (e : Entry) (source : Source) → lifts source e ≡ []
    → length (lifted (log ++ e ∷ []) source) ≡ length (lifted log source)
lifted-same log e source none =
    ap length (lifted-snoc log e source ∙ ap (λ items. lifted log source ++ items) none ∙ append-nil (lifted log source))

pub dropped-same : (log : List Entry) (e : Entry) (source : Source) → drops source e ≡ []
    → length (dropped (log ++ e ∷ []) source) ≡ length (dropped log source)
dropped-same log e source none =
    ap length (dropped-snoc log e source ∙ ap (λ items. dropped log source ++ items) none ∙ append-nil (dropped log source))

-- an entry that lifts nothing of lines, of which as many are lifted as before, or one more came behind of which none is
pub lifted_of-same : (log : List Entry) (e : Entry) (old new : List LineView) → ((line : ℕ) → lifts (Line line) e ≡ [])
    → map (λ l. l.lifted) new ≡ map (λ l. l.lifted) old
    → EachAt (λ n l. l.lifted ≡ length (lifted log (Line (suc n)))) old
    → EachAt (λ n l. l.lifted ≡ length (lifted (log ++ e ∷ []) (Line (suc n)))) new
lifted_of-same log e old new none same each =
    each-has (λ n c. c ≡ length (lifted (log ++ e ∷ []) (Line (suc n)))) (λ l. l.lifted) new
    (subst (EachAt (λ n c. c ≡ length (lifted (log ++ e ∷ []) (Line (suc n))))) (sym same)
    (each-had (λ n c. c ≡ length (lifted (log ++ e ∷ []) (Line (suc n)))) (λ l. l.lifted) old
    (λ n l is. each n l is ∙ sym (lifted-same log e (Line (suc n)) (none (suc n))))))

pub carried_of-same : (log : List Entry) (e : Entry) (carried : List ℕ) → ((line : ℕ) → drops (Line line) e ≡ [])
    → EachAt (λ n c. c ≡ length (dropped log (Line (suc n)))) carried
    → EachAt (λ n c. c ≡ length (dropped (log ++ e ∷ []) (Line (suc n)))) carried
carried_of-same log e carried none each n c is = each n c is ∙ sym (dropped-same log e (Line (suc n)) (none (suc n)))

-- Lines that an entry leaves as they are.
pub lines-kept : (settings : Settings) (log : List Entry) (e : Entry) (s : Stored) → pasts_of (log ++ e ∷ []) ≡ pasts_of log
    → ((line : ℕ) → lifts (Line line) e ≡ []) → ((line : ℕ) → drops (Line line) e ≡ []) → IsTied settings log s
    → AreLinesTied settings (log ++ e ∷ []) s.lines s.carried
lines-kept settings log e s pasts no_lift no_drop tied = record {
  stand = subst (AreLinesAfter (meaning_of settings) s.lines) (sym pasts) tied.lines;
  lifted_of = lifted_of-same log e s.lines s.lines no_lift refl tied.lifted_of;
  carried_count = tied.carried_count;
  carried_of = carried_of-same log e s.carried no_drop tied.carried_of;
}
