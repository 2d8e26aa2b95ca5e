-- What a bench keeps is what the log says once the oldest item of a source is lifted.
use Rattle.std.proofs.Common.{◌≡◌, ◌+◌, ◌-◌, ℕ, zero, suc, List, [], ◌∷◌, ◌++◌, length, length-append, Bool, true, false, Some, None, refl, sym, ◌∙◌, ap, subst, arith}
use Rattle.std.specs.Prelude.{◌==◌, ◌&&◌, nat_lt, slice_get, if◌then◌else◌}
use Rattle.std.specs.Option.{option_map_or}
use Rattle.std.proofs.lemmas.Bool.{false≢true}
use Rattle.std.proofs.lemmas.Bool.Decides.{nat_tests}
use Rattle.std.proofs.lemmas.List.{append-nil}
use Rattle.bench_item.specs.declared.entry.Entry.{Entry}
use Rattle.bench_item.specs.declared.item.Item.{Item}
use Rattle.bench_item.specs.declared.source.Source.{Source}
use Rattle.bench_item.specs.declared.source.Source.TheVariants.{Clock, Desk, Line, Shard}
use Rattle.bench_item.specs.declared.step.Step.TheVariants.{Lift}
use Rattle.bench_item.specs.Steps.{is_same_source}
use Rattle.bench_line.specs.Line.{LineView}
use Rattle.bench_line.specs.Lines.{AreLinesAfter, line_at, lifted_one as line_lifted_one}
use Rattle.bench_line.proofs.LiftLemmas.{stands-lift}
use Rattle.bench_queue.specs.Outbox.{OutboxView, can_lift, lifted_one}
use Rattle.bench_shard.specs.View.{ShardView, with_outbox}
use Rattle.bench_spec.specs.Items.{dropped, lifted, posts}
use Rattle.bench_spec.specs.Settings.{Settings}
use Rattle.bench_spec.proofs.BookLemmas.{entry_of}
use Rattle.bench_views.specs.Behind.{changed_at, lifted_from}
use Rattle.bench_views.specs.Carried.{carried_out, carried_shard, gives}
use Rattle.bench_views.specs.LinePasts.{pasts_of}
use Rattle.bench_views.specs.Shards.{outbox_at}
use Rattle.bench_views.specs.Stored.{EachAt, IsShardAt, IsTied, Stored, meaning_of, source_at}
use Rattle.bench_views.specs.Timers.{IsArmedSo}
use Rattle.bench_views.proofs.Acting.{Acts, acts-changed, acts-like, acts-none, acts-with_line, each-acts}
use Rattle.bench_views.proofs.Behind.{carried_in-none, carried_out-lift, carried_out-none, carried_shard-by, carried_of-same, tied-behind}
use Rattle.bench_views.proofs.LinePasts.{pasts_of-lifted}
use Rattle.bench_views.proofs.LineViews.{outbox_on-log}
use Rattle.bench_views.proofs.Order.{lifted-snoc, source-sound}
use Rattle.bench_views.proofs.Timers.{is_armed_so-kept, keeps-lifted}

-- which of the sources with an outbox of their own is meant
pub same_place : (p q : ℕ) → is_same_source (source_at p) (source_at q) ≡ (p == q)
same_place zero zero = refl
same_place zero (suc q) = grind (arith, nat_tests)
same_place (suc p) zero = grind (arith, nat_tests)
same_place (suc p) (suc q) = grind (arith, nat_tests)

pub no_place-line : (p line : ℕ) → is_same_source (source_at p) (Line line) ≡ false
no_place-line zero line = refl
no_place-line (suc p) line = refl

pub no_place-shard : (p shard : ℕ) → is_same_source (source_at p) (Shard shard) ≡ false
no_place-shard zero shard = refl
no_place-shard (suc p) shard = refl

-- each shard, outbox and line, once an item is lifted from a source
shard_by : Source → ℕ → ShardView → ShardView
shard_by source k v = if is_same_source (Shard k) source then with_outbox v (lifted_one v.outbox) else v

outbox_by : Source → ℕ → OutboxView → OutboxView
outbox_by source p v = if is_same_source (source_at p) source then lifted_one v else v

line_by : Source → ℕ → LineView → LineView
line_by source n l = if is_same_source (Line (suc n)) source then line_lifted_one l else l

shards-lifted : (source : Source) (s : Stored) → Acts (shard_by source) s.shards (lifted_from source s).shards
unfolding shard_by
shards-lifted (Line line) s = acts-none s.shards
shards-lifted (Shard shard) s = acts-changed (λ k v. v) s.shards s.shards shard (λ v. with_outbox v (lifted_one v.outbox)) (acts-none s.shards)
shards-lifted (Desk desk) s = acts-none s.shards
shards-lifted Clock s = acts-none s.shards

outboxes-at : (q : ℕ) (vs : List OutboxView) → Acts (outbox_by (source_at q)) vs (changed_at q lifted_one vs)
unfolding outbox_by
outboxes-at q vs =
    acts-like (λ p v. if p == q then lifted_one v else v) (outbox_by (source_at q)) vs (changed_at q lifted_one vs)
    (λ p v. ap (λ b. if b then lifted_one v else v) (sym (same_place p q)))
    (acts-changed (λ p v. v) vs vs q lifted_one (acts-none vs))

outboxes-lifted : (source : Source) (s : Stored) → Acts (outbox_by source) s.outboxes (lifted_from source s).outboxes
unfolding outbox_by
outboxes-lifted (Line line) s =
    acts-like (λ p v. v) (outbox_by (Line line)) s.outboxes s.outboxes
    (λ p v. ap (λ b. if b then lifted_one v else v) (sym (no_place-line p line))) (acts-none s.outboxes)
outboxes-lifted (Shard shard) s =
    acts-like (λ p v. v) (outbox_by (Shard shard)) s.outboxes s.outboxes
    (λ p v. ap (λ b. if b then lifted_one v else v) (sym (no_place-shard p shard))) (acts-none s.outboxes)
outboxes-lifted (Desk desk) s = outboxes-at (suc desk) s.outboxes
outboxes-lifted Clock s = outboxes-at 0 s.outboxes

lines-lifted : (source : Source) (s : Stored) → Acts (line_by source) s.lines (lifted_from source s).lines
unfolding line_by
lines-lifted (Line line) s = acts-with_line line line_lifted_one s.lines
lines-lifted (Shard shard) s = acts-none s.lines
lines-lifted (Desk desk) s = acts-none s.lines
lines-lifted Clock s = acts-none s.lines

-- the rest stays
carried-kept : (source : Source) (s : Stored) → (lifted_from source s).carried ≡ s.carried
carried-kept (Line line) s = refl
carried-kept (Shard shard) s = refl
carried-kept (Desk desk) s = refl
carried-kept Clock s = refl

books-kept : (source : Source) (s : Stored) → (lifted_from source s).books ≡ s.books
books-kept (Line line) s = refl
books-kept (Shard shard) s = refl
books-kept (Desk desk) s = refl
books-kept Clock s = refl

timers-kept : (source : Source) (s : Stored) → (lifted_from source s).timers ≡ s.timers
timers-kept (Line line) s = refl
timers-kept (Shard shard) s = refl
timers-kept (Desk desk) s = refl
timers-kept Clock s = refl

-- what each line put out
pub line_at-suc : (ls : List LineView) (n : ℕ) → line_at ls (suc n) ≡ slice_get ls n
line_at-suc ls n = rw some (ap (slice_get ls) less)
  where
    some : (suc n == 0) ≡ false
    some = grind (arith, nat_tests)

    less : suc n - 1 ≡ n
    less = omega arith

pub each_outbox_of : (settings : Settings) (log : List Entry) (ls : List LineView) → AreLinesAfter (meaning_of settings) ls (pasts_of log)
    → EachAt (λ n l. l.outbox ≡ posts settings log (Line (suc n))) ls
each_outbox_of settings log ls s n l is =
    sym (ap (λ o. option_map_or (λ v. v.outbox) o []) (line_at-suc ls n ∙ is)) ∙ outbox_on-log settings ls log (suc n) s

first_true : (a b : Bool) → (a && b) ≡ true → a ≡ true
first_true true b h = refl
first_true false b h = absurd (false≢true h)

-- Once the oldest item of a source is lifted, all is what the log says with that entry.
pub tied-lift : (settings : Settings) (log : List Entry) (source : Source) (item : Item) (s : Stored) → IsTied settings log s
    → can_lift (outbox_at settings log source) ≡ true
    → IsTied settings (log ++ entry_of (Lift source) (Some item) None ∷ []) (lifted_from source s)
unfolding shard_by outbox_by line_by
tied-lift settings log source item s tied can =
    tied-behind settings log (Lift source) (Some item) s (lifted_from source s) (λ shard. refl) tied (record {
      shard_by = shard_by source;
      shards = shards-lifted source s;
      each_shard = λ k v is. shard_at k v is (is_same_source (Shard k) source) refl;
      outbox_by = outbox_by source;
      outboxes = outboxes-lifted source s;
      each_outbox = λ p v is. outbox_behind p v is (is_same_source (source_at p) source) refl;
      lines = record {
        stand = stands source;
        lifted_of =
            each-acts (λ n l. (l.lifted ≡ length (lifted log (Line (suc n)))) × (l.outbox ≡ posts settings log (Line (suc n))))
            (λ n l. l.lifted ≡ length (lifted (log ++ e ∷ []) (Line (suc n)))) (line_by source) s.lines (lifted_from source s).lines
            (lines-lifted source s) (λ n l is. line_behind n l is (is_same_source (Line (suc n)) source) refl)
            (λ n l is. (tied.lifted_of n l is, each_outbox_of settings log s.lines tied.lines n l is));
        carried_count = ap length (carried-kept source s) ∙ tied.carried_count ∙ sym (lines-lifted source s).count;
        carried_of = subst (EachAt (λ n c. c ≡ length (dropped (log ++ e ∷ []) (Line (suc n))))) (sym (carried-kept source s)) (carried_of-same log e s.carried (λ line. refl) tied.carried_of);
      };
      books = books-kept source s;
      timers = subst (λ ts. IsArmedSo ts (log ++ e ∷ [])) (sym (timers-kept source s)) (is_armed_so-kept s.timers log e (keeps-lifted source (Some item) None) tied.timers);
    })
  where
    e : Entry
    e = entry_of (Lift source) (Some item) None

    no_gift : (p : ℕ) → gives (source_at p) e ≡ []
    no_gift zero = refl
    no_gift (suc desk) = refl

    shard_at : (k : ℕ) (v : ShardView) → IsShardAt settings log k v → (b : Bool) → is_same_source (Shard k) source ≡ b
        → (if b then with_outbox v (lifted_one v.outbox) else v) ≡ carried_shard settings.node e v
    shard_at k v is true same =
        let here : is_same_source (Shard v.number) source ≡ true = ap (λ n. is_same_source (Shard n) source) is.0 ∙ same in
        let able : can_lift v.outbox ≡ true =
        ap can_lift is.1.outbox ∙ ap (λ x. can_lift (outbox_at settings log x)) (source-sound (Shard v.number) source here) ∙ can in
        sym (carried_shard-by settings.node e v v.inbox (lifted_one v.outbox) (carried_in-none settings.node v.number e v.inbox refl)
        (carried_out-lift (Shard v.number) e v.outbox item refl (ap (λ b. if b then item ∷ [] else []) here) refl able))
    shard_at k v is false differs =
        let here : is_same_source (Shard v.number) source ≡ false = ap (λ n. is_same_source (Shard n) source) is.0 ∙ differs in
        sym (carried_shard-by settings.node e v v.inbox v.outbox (carried_in-none settings.node v.number e v.inbox refl)
        (carried_out-none (Shard v.number) e v.outbox refl (ap (λ b. if b then item ∷ [] else []) here) refl))

    outbox_behind : (p : ℕ) (v : OutboxView) → v ≡ outbox_at settings log (source_at p) → (b : Bool) → is_same_source (source_at p) source ≡ b
        → (if b then lifted_one v else v) ≡ carried_out (source_at p) e v
    outbox_behind p v is true same =
        let able : can_lift v ≡ true =
        ap can_lift is ∙ ap (λ x. can_lift (outbox_at settings log x)) (source-sound (source_at p) source same) ∙ can in
        sym (carried_out-lift (source_at p) e v item (no_gift p) (ap (λ b. if b then item ∷ [] else []) same) refl able)
    outbox_behind p v is false differs =
        sym (carried_out-none (source_at p) e v (no_gift p) (ap (λ b. if b then item ∷ [] else []) differs) refl)

    line_behind : (n : ℕ) (l : LineView) → (l.lifted ≡ length (lifted log (Line (suc n)))) × (l.outbox ≡ posts settings log (Line (suc n)))
        → (b : Bool) → is_same_source (Line (suc n)) source ≡ b
        → (if b then line_lifted_one l else l).lifted ≡ length (lifted (log ++ e ∷ []) (Line (suc n)))
    line_behind n l is true same =
        let able : can_lift (outbox_at settings log (Line (suc n))) ≡ true =
        ap (λ x. can_lift (outbox_at settings log x)) (source-sound (Line (suc n)) source same) ∙ can in
        let waits : nat_lt l.lifted (length l.outbox) ≡ true =
        ap (λ c. nat_lt c (length l.outbox)) is.0 ∙ ap (λ items. nat_lt (length (lifted log (Line (suc n)))) (length items)) is.1
        ∙ first_true (nat_lt (length (lifted log (Line (suc n)))) (length (posts settings log (Line (suc n))))) ((outbox_at settings log (Line (suc n))).dropped == (outbox_at settings log (Line (suc n))).lifted) able in
        ap (λ (b : Bool). (if b then record l { lifted = l.lifted + 1 } else l).lifted) waits
        ∙ ap (λ c. c + 1) is.0
        ∙ sym (ap length (lifted-snoc log e (Line (suc n)) ∙ ap (λ b. lifted log (Line (suc n)) ++ (if b then item ∷ [] else [])) same)
        ∙ length-append (lifted log (Line (suc n))) (item ∷ []))
    line_behind n l is false differs =
        is.0
        ∙ sym (ap length (lifted-snoc log e (Line (suc n)) ∙ ap (λ b. lifted log (Line (suc n)) ++ (if b then item ∷ [] else [])) differs
        ∙ append-nil (lifted log (Line (suc n)))))

    same_pasts : pasts_of (log ++ e ∷ []) ≡ pasts_of log
    same_pasts = pasts_of-lifted log source (Some item) None

    kept : AreLinesAfter (meaning_of settings) s.lines (pasts_of (log ++ e ∷ []))
    kept = subst (AreLinesAfter (meaning_of settings) s.lines) (sym same_pasts) tied.lines

    stands : (x : Source) → AreLinesAfter (meaning_of settings) (lifted_from x s).lines (pasts_of (log ++ e ∷ []))
    stands (Line line) = stands-lift (meaning_of settings) s.lines line (pasts_of (log ++ e ∷ [])) kept
    stands (Shard shard) = kept
    stands (Desk desk) = kept
    stands Clock = kept
