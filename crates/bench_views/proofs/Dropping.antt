-- What a bench keeps is what the log says once the item in the hand of a source is dropped, by what the item is.
use Rattle.std.proofs.Common.{◌≡◌, ◌+◌, ◌-◌, ◌<◌, ℕ, zero, suc, List, [], ◌∷◌, ◌++◌, length, length-append, Bool, true, false, Some, None, refl, sym, ◌∙◌, ap, subst, arith}
use Rattle.std.specs.Prelude.{◌==◌, ◌&&◌, map, nat_lt, if◌then◌else◌}
use Rattle.std.proofs.lemmas.Bool.{false≢true}
use Rattle.std.proofs.lemmas.Bool.Decides.{nat_tests}
use Rattle.std.proofs.lemmas.List.{append-nil}
use Rattle.tick_wheel.specs.Timers.{ByOwner}
use Rattle.bench_item.specs.declared.entry.Entry.{Entry}
use Rattle.bench_item.specs.declared.item.Item.{Item}
use Rattle.bench_item.specs.declared.item.Item.TheVariants.{ToMachine}
use Rattle.bench_item.specs.declared.item.MachineItem.{MachineItem}
use Rattle.bench_item.specs.declared.opening.Opening.TheVariants as openings
use Rattle.bench_item.specs.declared.source.Source.{Source}
use Rattle.bench_item.specs.declared.source.Source.TheVariants.{Clock, Desk, Line, Shard}
use Rattle.bench_item.specs.declared.step.Step.TheVariants.{Drop}
use Rattle.bench_item.specs.Keys.{home}
use Rattle.bench_item.specs.Steps.{is_same_source}
use Rattle.bench_line.specs.Line.{LineView}
use Rattle.bench_line.specs.Lines.{AreLinesAfter}
use Rattle.bench_queue.specs.Inbox.{put_in}
use Rattle.bench_queue.specs.Outbox.{OutboxView, dropped_one, has_hand}
use Rattle.bench_shard.specs.View.{ShardView, with_inbox, with_outbox}
use Rattle.bench_spec.specs.Items.{dropped, lifted, timer_change}
use Rattle.bench_spec.specs.Refusal.{is_source}
use Rattle.bench_spec.specs.Settings.{Settings}
use Rattle.bench_spec.proofs.BookLemmas.{entry_of}
use Rattle.bench_views.specs.Behind.{changed_at, came_to, dropped_from}
use Rattle.bench_views.specs.Carried.{arrives, carried_out, carried_shard, gives}
use Rattle.bench_views.specs.LinePasts.{pasts_of}
use Rattle.bench_views.specs.Shards.{outbox_at}
use Rattle.bench_views.specs.Stored.{EachAt, IsShardAt, IsTied, Stored, meaning_of, source_at}
use Rattle.bench_views.specs.Timers.{IsArmedSo}
use Rattle.bench_views.proofs.Acting.{Acts, acts-changed, acts-like, acts-none, each-acts}
use Rattle.bench_views.proofs.Behind.{AreLinesTied, carried_in-none, carried_in-put, carried_out-drop, carried_out-none, carried_shard-by, lifted_of-same, tied-behind}
use Rattle.bench_views.proofs.LinePasts.{pasts_of-dropped_event}
use Rattle.bench_views.proofs.Lifting.{no_place-line, no_place-shard, same_place}
use Rattle.bench_views.proofs.Order.{dropped-snoc, source-sound}
use Rattle.bench_views.proofs.Timers.{is_armed_so-kept, keeps-dropped_event}

-- a line has a number from 1 on
abbrev pub HasNumber : Source → Type 0
HasNumber (Line line) = 0 < line
HasNumber source = Unit {0}

pub both_true : (a b : Bool) → (a && b) ≡ true → (a ≡ true) × (b ≡ true)
both_true true b h = (refl, h)
both_true false b h = absurd (false≢true h)

pub has_number : (settings : Settings) (log : List Entry) (source : Source) → is_source settings log source ≡ true → HasNumber source
has_number settings log (Line line) is = let some = (both_true (nat_lt 0 line) _ is).0 in grind (arith, nat_tests, some)
has_number settings log (Shard shard) is = tt
has_number settings log (Desk desk) is = tt
has_number settings log Clock is = tt

-- each shard, outbox and count, once an item is dropped from a source
shard_by : Source → ℕ → ShardView → ShardView
shard_by source k v = if is_same_source (Shard k) source then with_outbox v (dropped_one v.outbox) else v

outbox_by : Source → ℕ → OutboxView → OutboxView
outbox_by source p v = if is_same_source (source_at p) source then dropped_one v else v

count_by : Source → ℕ → ℕ → ℕ
count_by source n c = if is_same_source (Line (suc n)) source then c + 1 else c

shards-dropped : (source : Source) (s : Stored) → Acts (shard_by source) s.shards (dropped_from source s).shards
unfolding shard_by
shards-dropped (Line line) s = acts-none s.shards
shards-dropped (Shard shard) s = acts-changed (λ k v. v) s.shards s.shards shard (λ v. with_outbox v (dropped_one v.outbox)) (acts-none s.shards)
shards-dropped (Desk desk) s = acts-none s.shards
shards-dropped Clock s = acts-none s.shards

outboxes-at : (q : ℕ) (vs : List OutboxView) → Acts (outbox_by (source_at q)) vs (changed_at q dropped_one vs)
unfolding outbox_by
outboxes-at q vs =
    acts-like (λ p v. if p == q then dropped_one v else v) (outbox_by (source_at q)) vs (changed_at q dropped_one vs)
    (λ p v. ap (λ b. if b then dropped_one v else v) (sym (same_place p q)))
    (acts-changed (λ p v. v) vs vs q dropped_one (acts-none vs))

outboxes-dropped : (source : Source) (s : Stored) → Acts (outbox_by source) s.outboxes (dropped_from source s).outboxes
unfolding outbox_by
outboxes-dropped (Line line) s =
    acts-like (λ p v. v) (outbox_by (Line line)) s.outboxes s.outboxes
    (λ p v. ap (λ b. if b then dropped_one v else v) (sym (no_place-line p line))) (acts-none s.outboxes)
outboxes-dropped (Shard shard) s =
    acts-like (λ p v. v) (outbox_by (Shard shard)) s.outboxes s.outboxes
    (λ p v. ap (λ b. if b then dropped_one v else v) (sym (no_place-shard p shard))) (acts-none s.outboxes)
outboxes-dropped (Desk desk) s = outboxes-at (suc desk) s.outboxes
outboxes-dropped Clock s = outboxes-at 0 s.outboxes

counts-dropped : (source : Source) (s : Stored) → HasNumber source → Acts (count_by source) s.carried (dropped_from source s).carried
unfolding count_by
counts-dropped (Line line) s some =
    acts-like (λ n c. if n == line - 1 then c + 1 else c) (count_by (Line line)) s.carried (changed_at (line - 1) (λ c. c + 1) s.carried)
    (λ n c. ap (λ b. if b then c + 1 else c) (test n))
    (acts-changed (λ n c. c) s.carried s.carried (line - 1) (λ c. c + 1) (acts-none s.carried))
  where
    test : (n : ℕ) → (n == line - 1) ≡ (suc n == line)
    test n = grind (arith, nat_tests, some)
counts-dropped (Shard shard) s some = acts-none s.carried
counts-dropped (Desk desk) s some = acts-none s.carried
counts-dropped Clock s some = acts-none s.carried

-- the rest stays
lines-kept : (source : Source) (s : Stored) → (dropped_from source s).lines ≡ s.lines
lines-kept (Line line) s = refl
lines-kept (Shard shard) s = refl
lines-kept (Desk desk) s = refl
lines-kept Clock s = refl

books-kept : (source : Source) (s : Stored) → (dropped_from source s).books ≡ s.books
books-kept (Line line) s = refl
books-kept (Shard shard) s = refl
books-kept (Desk desk) s = refl
books-kept Clock s = refl

timers-kept : (source : Source) (s : Stored) → (dropped_from source s).timers ≡ s.timers
timers-kept (Line line) s = refl
timers-kept (Shard shard) s = refl
timers-kept (Desk desk) s = refl
timers-kept Clock s = refl

-- a drop of an item from a source, of which the hand holds one
module _ (settings : Settings) (log : List Entry) (source : Source) (item : Item) (s : Stored) (tied : IsTied settings log s) (has : has_hand (outbox_at settings log source) ≡ true) (some : HasNumber source) where
  abbrev e : Entry
  e = entry_of (Drop source) (Some item) None

  no_gift : (p : ℕ) → gives (source_at p) e ≡ []
  no_gift zero = refl
  no_gift (suc desk) = refl

  -- the outbox of a shard
  out_at : (v : ShardView) (k : ℕ) → IsShardAt settings log k v → (b : Bool) → is_same_source (Shard k) source ≡ b
      → carried_out (Shard v.number) e v.outbox ≡ (if b then dropped_one v.outbox else v.outbox)
  out_at v k is true same =
      let here : is_same_source (Shard v.number) source ≡ true = ap (λ n. is_same_source (Shard n) source) is.0 ∙ same in
      let able : has_hand v.outbox ≡ true =
      ap has_hand is.1.outbox ∙ ap (λ x. has_hand (outbox_at settings log x)) (source-sound (Shard v.number) source here) ∙ has in
      carried_out-drop (Shard v.number) e v.outbox item refl refl (ap (λ b. if b then item ∷ [] else []) here) able
  out_at v k is false differs =
      let here : is_same_source (Shard v.number) source ≡ false = ap (λ n. is_same_source (Shard n) source) is.0 ∙ differs in
      carried_out-none (Shard v.number) e v.outbox refl refl (ap (λ b. if b then item ∷ [] else []) here)

  -- a shard to which nothing comes, and one to which an event does
  shard_quiet : (v : ShardView) (k : ℕ) → IsShardAt settings log k v → arrives settings.node k e ≡ [] → shard_by source k v ≡ carried_shard settings.node e v
  unfolding shard_by
  shard_quiet v k is none = by (is_same_source (Shard k) source) refl
    where
      in' : arrives settings.node v.number e ≡ []
      in' = ap (λ n. arrives settings.node n e) is.0 ∙ none

      by : (b : Bool) → is_same_source (Shard k) source ≡ b → (if b then with_outbox v (dropped_one v.outbox) else v) ≡ carried_shard settings.node e v
      by true same =
          sym (carried_shard-by settings.node e v v.inbox (dropped_one v.outbox) (carried_in-none settings.node v.number e v.inbox in') (out_at v k is true same))
      by false differs =
          sym (carried_shard-by settings.node e v v.inbox v.outbox (carried_in-none settings.node v.number e v.inbox in') (out_at v k is false differs))

  shard_event : (v : ShardView) (k : ℕ) (i : MachineItem) → IsShardAt settings log k v → arrives settings.node k e ≡ i ∷ []
      → with_inbox (shard_by source k v) (put_in (shard_by source k v).inbox (i ∷ [])) ≡ carried_shard settings.node e v
  unfolding shard_by
  shard_event v k i is one = by (is_same_source (Shard k) source) refl
    where
      in' : arrives settings.node v.number e ≡ i ∷ []
      in' = ap (λ n. arrives settings.node n e) is.0 ∙ one

      put : ShardView → ShardView
      put x = with_inbox x (put_in x.inbox (i ∷ []))

      by : (b : Bool) → is_same_source (Shard k) source ≡ b → put (if b then with_outbox v (dropped_one v.outbox) else v) ≡ carried_shard settings.node e v
      by true same =
          sym (carried_shard-by settings.node e v (put_in v.inbox (i ∷ [])) (dropped_one v.outbox) (carried_in-put settings.node v.number e v.inbox i in') (out_at v k is true same))
      by false differs =
          sym (carried_shard-by settings.node e v (put_in v.inbox (i ∷ [])) v.outbox (carried_in-put settings.node v.number e v.inbox i in') (out_at v k is false differs))

  -- an outbox
  outbox_behind : (p : ℕ) (v : OutboxView) → v ≡ outbox_at settings log (source_at p) → outbox_by source p v ≡ carried_out (source_at p) e v
  unfolding outbox_by
  outbox_behind p v is = by (is_same_source (source_at p) source) refl
    where
      by : (b : Bool) → is_same_source (source_at p) source ≡ b → (if b then dropped_one v else v) ≡ carried_out (source_at p) e v
      by true same =
          let able : has_hand v ≡ true =
          ap has_hand is ∙ ap (λ x. has_hand (outbox_at settings log x)) (source-sound (source_at p) source same) ∙ has in
          sym (carried_out-drop (source_at p) e v item (no_gift p) refl (ap (λ b. if b then item ∷ [] else []) same) able)
      by false differs =
          sym (carried_out-none (source_at p) e v (no_gift p) refl (ap (λ b. if b then item ∷ [] else []) differs))

  -- the counts of lines
  pub counts_of : EachAt (λ n c. c ≡ length (dropped (log ++ e ∷ []) (Line (suc n)))) (dropped_from source s).carried
  unfolding count_by
  counts_of =
      each-acts (λ n c. c ≡ length (dropped log (Line (suc n)))) (λ n c. c ≡ length (dropped (log ++ e ∷ []) (Line (suc n)))) (count_by source)
      s.carried (dropped_from source s).carried (counts-dropped source s some)
      (λ n c is. by n c is (is_same_source (Line (suc n)) source) refl) tied.carried_of
    where
      by : (n c : ℕ) → c ≡ length (dropped log (Line (suc n))) → (b : Bool) → is_same_source (Line (suc n)) source ≡ b
          → (if b then c + 1 else c) ≡ length (dropped (log ++ e ∷ []) (Line (suc n)))
      by n c is true same =
          ap (λ k. k + 1) is
          ∙ sym (ap length (dropped-snoc log e (Line (suc n)) ∙ ap (λ b. dropped log (Line (suc n)) ++ (if b then item ∷ [] else [])) same)
          ∙ length-append (dropped log (Line (suc n))) (item ∷ []))
      by n c is false differs =
          is
          ∙ sym (ap length (dropped-snoc log e (Line (suc n)) ∙ ap (λ b. dropped log (Line (suc n)) ++ (if b then item ∷ [] else [])) differs
          ∙ append-nil (dropped log (Line (suc n)))))

  pub count_count : length (dropped_from source s).carried ≡ length s.lines
  count_count = (counts-dropped source s some).count ∙ tied.carried_count

  -- lines of which as many are lifted as before
  pub lines_by : (ls : List LineView) → AreLinesAfter (meaning_of settings) ls (pasts_of (log ++ e ∷ [])) → map (λ l. l.lifted) ls ≡ map (λ l. l.lifted) s.lines
      → length ls ≡ length s.lines → AreLinesTied settings (log ++ e ∷ []) ls (dropped_from source s).carried
  lines_by ls stand same count = record {
    stand = stand;
    lifted_of = lifted_of-same log e s.lines ls (λ line. refl) same tied.lifted_of;
    carried_count = count_count ∙ sym count;
    carried_of = counts_of;
  }

  -- an item that comes to no shard
  pub tied-dropped : (ls : List LineView) (cs : List ℕ) (timers : ByOwner) → ((shard : ℕ) → arrives settings.node shard e ≡ [])
      → AreLinesTied settings (log ++ e ∷ []) ls cs → IsArmedSo timers (log ++ e ∷ [])
      → IsTied settings (log ++ e ∷ []) (record (dropped_from source s) { lines = ls; carried = cs; timers = timers })
  tied-dropped ls cs timers quiet lines so =
      tied-behind settings log (Drop source) (Some item) s (record (dropped_from source s) { lines = ls; carried = cs; timers = timers }) (λ shard. refl) tied (record {
        shard_by = shard_by source;
        shards = shards-dropped source s;
        each_shard = λ k v is. shard_quiet v k is (quiet k);
        outbox_by = outbox_by source;
        outboxes = outboxes-dropped source s;
        each_outbox = outbox_behind;
        lines = lines;
        books = books-kept source s;
        timers = so;
      })

  -- the lines where the item is none of theirs
  pub lines_kept : pasts_of (log ++ e ∷ []) ≡ pasts_of log → AreLinesTied settings (log ++ e ∷ []) (dropped_from source s).lines (dropped_from source s).carried
  lines_kept same =
      lines_by (dropped_from source s).lines
      (subst (AreLinesAfter (meaning_of settings) (dropped_from source s).lines) (sym same) (subst (λ ls. AreLinesAfter (meaning_of settings) ls (pasts_of log)) (sym (lines-kept source s)) tied.lines))
      (ap (map (λ l. l.lifted)) (lines-kept source s)) (ap length (lines-kept source s))

  pub timers_kept : ((machine : ℕ) → timer_change machine e ≡ []) → IsArmedSo (dropped_from source s).timers (log ++ e ∷ [])
  timers_kept none = subst (λ ts. IsArmedSo ts (log ++ e ∷ [])) (sym (timers-kept source s)) (is_armed_so-kept s.timers log e none tied.timers)

same_test : (a b : ℕ) → (a == b) ≡ (b == a)
same_test a b = grind (arith, nat_tests)

-- An event for a machine comes to its shard.
pub tied-drop_event : (settings : Settings) (log : List Entry) (source : Source) (i : MachineItem) (s : Stored) → IsTied settings log s
    → has_hand (outbox_at settings log source) ≡ true → HasNumber source
    → IsTied settings (log ++ entry_of (Drop source) (Some (ToMachine i)) None ∷ []) (came_to (home settings.node.shards i.key.name) i (dropped_from source s))
tied-drop_event settings log source i s tied has some =
    tied-behind settings log (Drop source) (Some (ToMachine i)) s (came_to shard i (dropped_from source s)) (λ n. refl) tied (record {
      shard_by = λ k v. if k == shard then put (shard_by source k v) else shard_by source k v;
      shards = acts-changed (shard_by source) s.shards (dropped_from source s).shards shard put (shards-dropped source s);
      each_shard = λ k v is. each k v is (k == shard) refl;
      outbox_by = outbox_by source;
      outboxes = outboxes-dropped source s;
      each_outbox = outbox_behind settings log source (ToMachine i) s tied has some;
      lines = lines_kept settings log source (ToMachine i) s tied has some (pasts_of-dropped_event log source i None);
      books = books-kept source s;
      timers = timers_kept settings log source (ToMachine i) s tied has some (keeps-dropped_event source i None);
    })
  where
    shard : ℕ
    shard = home settings.node.shards i.key.name

    put : ShardView → ShardView
    put v = with_inbox v (put_in v.inbox (i ∷ []))

    e' : Entry
    e' = entry_of (Drop source) (Some (ToMachine i)) None

    each : (k : ℕ) (v : ShardView) → IsShardAt settings log k v → (b : Bool) → (k == shard) ≡ b
        → (if b then put (shard_by source k v) else shard_by source k v) ≡ carried_shard settings.node e' v
    each k v is true here =
        shard_event settings log source (ToMachine i) s tied has some v k i is (ap (λ b. if b then i ∷ [] else []) (same_test shard k ∙ here))
    each k v is false elsewhere =
        shard_quiet settings log source (ToMachine i) s tied has some v k is (ap (λ b. if b then i ∷ [] else []) (same_test shard k ∙ elsewhere))
