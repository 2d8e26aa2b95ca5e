-- What a bench keeps is what the log says once a line is opened, acknowledged, heard or lost, a desk tells an event, or a timer fires.
use Rattle.std.proofs.Common.{◌≡◌, ◌+◌, ℕ, zero, suc, List, [], ◌∷◌, ◌++◌, length, length-append, Bool, true, false, Option, None, refl, sym, ◌∙◌, ap, subst, arith}
use Rattle.std.specs.Prelude.{◌==◌, map, option_to_list, if◌then◌else◌}
use Rattle.std.proofs.lemmas.Bool.Decides.{nat_tests}
use Rattle.tick_wheel.specs.Timers.{with_timer}
use Rattle.tab_step.specs.declared.machine.Event.{Event}
use Rattle.bench_item.specs.declared.entry.Entry.{Entry}
use Rattle.bench_item.specs.declared.item.Item.{Item}
use Rattle.bench_item.specs.declared.key.Key.{Key}
use Rattle.bench_item.specs.declared.opening.Opening.TheVariants as openings
use Rattle.bench_item.specs.declared.source.Source.TheVariants.{Line, Shard}
use Rattle.bench_item.specs.declared.step.Step.{Step}
use Rattle.bench_item.specs.declared.step.Step.TheVariants.{Joined, Dialled, Came, Lost, Told, Fired}
use Rattle.bench_item.specs.Lines.{LineStep, Acknowledged, Gone, Received}
use Rattle.bench_line.specs.Line.{LineView}
use Rattle.bench_line.specs.Lines.{Past, AreLinesAfter, opened, with_step}
use Rattle.bench_queue.specs.Outbox.{OutboxView, put_out}
use Rattle.bench_shard.specs.View.{ShardView}
use Rattle.bench_spec.specs.Items.{InOrder, dropped, told_item}
use Rattle.bench_spec.specs.Lines.{opening_of, openings as openings_of}
use Rattle.bench_spec.specs.Machines.{is_work}
use Rattle.bench_spec.specs.Settings.{Settings}
use Rattle.bench_spec.proofs.BookLemmas.{entry_of}
use Rattle.bench_views.specs.Behind.{put_out_at}
use Rattle.bench_views.specs.Carried.{arrives, carried_out, carried_shard, drops, gives, lifts}
use Rattle.bench_views.specs.LinePasts.{pasts_of}
use Rattle.bench_views.specs.Stored.{IsTied, Stored, meaning_of, source_at}
use Rattle.bench_views.proofs.Acting.{acts-changed, acts-none, each-push}
use Rattle.bench_views.proofs.Behind.{AreLinesTied, carried_in-none, carried_of-same, carried_out-none, carried_out-put, carried_shard-by, dropped-same, lifted_of-same, lines-kept, tied-behind}
use Rattle.bench_views.proofs.Drops.{same_count}
use Rattle.bench_views.proofs.LinePasts.{pasts_of-came, pasts_of-dialled, pasts_of-fired, pasts_of-joined, pasts_of-lost, pasts_of-told}
use Rattle.bench_views.proofs.LineStands.{length_lines}
use Rattle.bench_views.proofs.Opened.{IsNewLine, length-opened, lifted_of-opened, new_line, unopened}
use Rattle.bench_views.proofs.Timers.{KeepsTimers, changes-fired, is_armed_so-changed, is_armed_so-kept, keeps-came, keeps-dialled, keeps-joined, keeps-lost, keeps-told}

-- a step that carries nothing: nothing is lifted or dropped, and nothing comes to a shard
record IsBare (settings : Settings) (e : Entry) : Type 0 where
  idle : (shard : ℕ) → is_work shard e.step ≡ false
  shard_lift : (shard : ℕ) → lifts (Shard shard) e ≡ []
  shard_drop : (shard : ℕ) → drops (Shard shard) e ≡ []
  place_lift : (p : ℕ) → lifts (source_at p) e ≡ []
  place_drop : (p : ℕ) → drops (source_at p) e ≡ []
  line_lift : (line : ℕ) → lifts (Line line) e ≡ []
  line_drop : (line : ℕ) → drops (Line line) e ≡ []
  none_came : (shard : ℕ) → arrives settings.node shard e ≡ []

shard-bare : (settings : Settings) (e : Entry) (v : ShardView) → IsBare settings e → v ≡ carried_shard settings.node e v
shard-bare settings e v bare =
    sym (carried_shard-by settings.node e v v.inbox v.outbox (carried_in-none settings.node v.number e v.inbox (bare.none_came v.number))
    (carried_out-none (Shard v.number) e v.outbox refl (bare.shard_lift v.number) (bare.shard_drop v.number)))

-- the lines go on, and nothing else
tied-lines : (settings : Settings) (log : List Entry) (step : Step) (s : Stored) (ls : List LineView) (cs : List ℕ) → IsTied settings log s
    → IsBare settings (entry_of step None None) → ((p : ℕ) → gives (source_at p) (entry_of step None None) ≡ []) → KeepsTimers (entry_of step None None)
    → AreLinesTied settings (log ++ entry_of step None None ∷ []) ls cs
    → IsTied settings (log ++ entry_of step None None ∷ []) (record s { lines = ls; carried = cs })
tied-lines settings log step s ls cs tied bare none keeps lines =
    tied-behind settings log step None s (record s { lines = ls; carried = cs }) bare.idle tied (record {
      shard_by = λ k v. v;
      shards = acts-none s.shards;
      each_shard = λ k v is. shard-bare settings (entry_of step None None) v bare;
      outbox_by = λ p v. v;
      outboxes = acts-none s.outboxes;
      each_outbox = λ p v is. sym (carried_out-none (source_at p) (entry_of step None None) v (none p) (bare.place_lift p) (bare.place_drop p));
      lines = lines;
      books = refl;
      timers = is_armed_so-kept s.timers log (entry_of step None None) keeps tied.timers;
    })

-- one step of a line, of which as many are lifted as before
one_step : (settings : Settings) (log : List Entry) (e : Entry) (line : ℕ) (step : LineStep) (s : Stored) (ls : List LineView) → IsTied settings log s
    → IsBare settings e → pasts_of (log ++ e ∷ []) ≡ with_step line step (pasts_of log)
    → ((pasts : List Past) → AreLinesAfter (meaning_of settings) s.lines pasts → AreLinesAfter (meaning_of settings) ls (with_step line step pasts))
    → map (λ l. l.lifted) ls ≡ map (λ l. l.lifted) s.lines → AreLinesTied settings (log ++ e ∷ []) ls s.carried
one_step settings log e line step s ls tied bare pasts stands same = record {
  stand = subst (AreLinesAfter (meaning_of settings) ls) (sym pasts) (stands (pasts_of log) tied.lines);
  lifted_of = lifted_of-same log e s.lines ls bare.line_lift same tied.lifted_of;
  carried_count = tied.carried_count ∙ sym (same_count ls s.lines same);
  carried_of = carried_of-same log e s.carried bare.line_drop tied.carried_of;
}

no_gift-joined : (p : ℕ) → gives (source_at p) (entry_of Joined None None) ≡ []
no_gift-joined zero = refl
no_gift-joined (suc desk) = refl

no_gift-dialled : (line p : ℕ) → gives (source_at p) (entry_of (Dialled line) None None) ≡ []
no_gift-dialled line zero = refl
no_gift-dialled line (suc desk) = refl

no_gift-came : (line : ℕ) (piece : List ℕ) (p : ℕ) → gives (source_at p) (entry_of (Came line piece) None None) ≡ []
no_gift-came line piece zero = refl
no_gift-came line piece (suc desk) = refl

no_gift-lost : (line p : ℕ) → gives (source_at p) (entry_of (Lost line) None None) ≡ []
no_gift-lost line zero = refl
no_gift-lost line (suc desk) = refl

bare-joined : (settings : Settings) → IsBare settings (entry_of Joined None None)
bare-joined settings = record {
  idle = λ k. refl;
  shard_lift = λ k. refl;
  shard_drop = λ k. refl;
  place_lift = λ k. refl;
  place_drop = λ k. refl;
  line_lift = λ k. refl;
  line_drop = λ k. refl;
  none_came = λ k. refl;
}

bare-dialled : (settings : Settings) (line : ℕ) → IsBare settings (entry_of (Dialled line) None None)
bare-dialled settings line = record {
  idle = λ k. refl;
  shard_lift = λ k. refl;
  shard_drop = λ k. refl;
  place_lift = λ k. refl;
  place_drop = λ k. refl;
  line_lift = λ k. refl;
  line_drop = λ k. refl;
  none_came = λ k. refl;
}

bare-came : (settings : Settings) (line : ℕ) (piece : List ℕ) → IsBare settings (entry_of (Came line piece) None None)
bare-came settings line piece = record {
  idle = λ k. refl;
  shard_lift = λ k. refl;
  shard_drop = λ k. refl;
  place_lift = λ k. refl;
  place_drop = λ k. refl;
  line_lift = λ k. refl;
  line_drop = λ k. refl;
  none_came = λ k. refl;
}

bare-lost : (settings : Settings) (line : ℕ) → IsBare settings (entry_of (Lost line) None None)
bare-lost settings line = record {
  idle = λ k. refl;
  shard_lift = λ k. refl;
  shard_drop = λ k. refl;
  place_lift = λ k. refl;
  place_drop = λ k. refl;
  line_lift = λ k. refl;
  line_drop = λ k. refl;
  none_came = λ k. refl;
}

bare-told : (settings : Settings) (desk : ℕ) (key : Key) (told : Event) → IsBare settings (entry_of (Told desk key told) None None)
bare-told settings desk key told = record {
  idle = λ k. refl;
  shard_lift = λ k. refl;
  shard_drop = λ k. refl;
  place_lift = λ k. refl;
  place_drop = λ k. refl;
  line_lift = λ k. refl;
  line_drop = λ k. refl;
  none_came = λ k. refl;
}

bare-fired : (settings : Settings) (machine generation : ℕ) (item : Option Item) → IsBare settings (entry_of (Fired machine generation) item None)
bare-fired settings machine generation item = record {
  idle = λ k. refl;
  shard_lift = λ k. refl;
  shard_drop = λ k. refl;
  place_lift = λ k. refl;
  place_drop = λ k. refl;
  line_lift = λ k. refl;
  line_drop = λ k. refl;
  none_came = λ k. refl;
}

-- A dial is acknowledged,
pub tied-dialled : (settings : Settings) (log : List Entry) (line : ℕ) (s : Stored) (ls : List LineView) → IsTied settings log s
    → ((pasts : List Past) → AreLinesAfter (meaning_of settings) s.lines pasts → AreLinesAfter (meaning_of settings) ls (with_step line Acknowledged pasts))
    → map (λ l. l.lifted) ls ≡ map (λ l. l.lifted) s.lines
    → IsTied settings (log ++ entry_of (Dialled line) None None ∷ []) (record s { lines = ls })
tied-dialled settings log line s ls tied stands same =
    tied-lines settings log (Dialled line) s ls s.carried tied (bare-dialled settings line) (no_gift-dialled line) (keeps-dialled line None None)
    (one_step settings log (entry_of (Dialled line) None None) line Acknowledged s ls tied (bare-dialled settings line) (pasts_of-dialled log line None None) stands same)

-- octets come,
pub tied-came : (settings : Settings) (log : List Entry) (line : ℕ) (piece : List ℕ) (s : Stored) (ls : List LineView) → IsTied settings log s
    → ((pasts : List Past) → AreLinesAfter (meaning_of settings) s.lines pasts → AreLinesAfter (meaning_of settings) ls (with_step line (Received piece) pasts))
    → map (λ l. l.lifted) ls ≡ map (λ l. l.lifted) s.lines
    → IsTied settings (log ++ entry_of (Came line piece) None None ∷ []) (record s { lines = ls })
tied-came settings log line piece s ls tied stands same =
    tied-lines settings log (Came line piece) s ls s.carried tied (bare-came settings line piece) (no_gift-came line piece) (keeps-came line piece None None)
    (one_step settings log (entry_of (Came line piece) None None) line (Received piece) s ls tied (bare-came settings line piece) (pasts_of-came log line piece None None) stands same)

-- a line is lost,
pub tied-lost : (settings : Settings) (log : List Entry) (line : ℕ) (s : Stored) (ls : List LineView) → IsTied settings log s
    → ((pasts : List Past) → AreLinesAfter (meaning_of settings) s.lines pasts → AreLinesAfter (meaning_of settings) ls (with_step line Gone pasts))
    → map (λ l. l.lifted) ls ≡ map (λ l. l.lifted) s.lines
    → IsTied settings (log ++ entry_of (Lost line) None None ∷ []) (record s { lines = ls })
tied-lost settings log line s ls tied stands same =
    tied-lines settings log (Lost line) s ls s.carried tied (bare-lost settings line) (no_gift-lost line) (keeps-lost line None None)
    (one_step settings log (entry_of (Lost line) None None) line Gone s ls tied (bare-lost settings line) (pasts_of-lost log line None None) stands same)

-- and a peer connects: of the new line nothing is lifted or dropped.
pub tied-joined : (settings : Settings) (log : List Entry) (s : Stored) (ls : List LineView) → IsTied settings log s → InOrder settings log
    → ((pasts : List Past) → AreLinesAfter (meaning_of settings) s.lines pasts → AreLinesAfter (meaning_of settings) ls (opened openings.Accepted pasts))
    → map (λ l. l.lifted) ls ≡ map (λ l. l.lifted) s.lines ++ 0 ∷ []
    → IsTied settings (log ++ entry_of Joined None None ∷ []) (record s { lines = ls; carried = s.carried ++ 0 ∷ [] })
tied-joined settings log s ls tied order stands more =
    tied-lines settings log Joined s ls (s.carried ++ 0 ∷ []) tied (bare-joined settings) no_gift-joined (keeps-joined None None) (record {
      stand = subst (AreLinesAfter (meaning_of settings) ls) (sym (pasts_of-joined log None None)) (stands (pasts_of log) tied.lines);
      lifted_of = lifted_of-opened log e s.lines ls (λ line. refl) more first tied.lifted_of;
      carried_count = omega (arith, length-append s.carried (0 ∷ []), tied.carried_count, length-opened s.lines ls more);
      carried_of =
          each-push (λ n c. c ≡ length (dropped (log ++ e ∷ []) (Line (suc n)))) s.carried 0
          (carried_of-same log e s.carried (λ line. refl) tied.carried_of) none;
    })
  where
    e : Entry
    e = entry_of Joined None None

    number : suc (length s.lines) ≡ suc (length (openings_of log))
    number = ap suc (length_lines (meaning_of settings) s.lines log tied.lines)

    first : IsNewLine log (suc (length s.lines))
    first = new_line settings log (suc (length s.lines)) order (ap (opening_of log) number ∙ unopened log)

    none : 0 ≡ length (dropped (log ++ e ∷ []) (Line (suc (length s.carried))))
    none =
        ap length (sym first.no_drop) ∙ sym (dropped-same log e (Line (suc (length s.lines))) refl)
        ∙ ap (λ n. length (dropped (log ++ e ∷ []) (Line (suc n)))) (sym tied.carried_count)

-- A desk tells a machine an event.
pub tied-told : (settings : Settings) (log : List Entry) (desk : ℕ) (key : Key) (told : Event) (s : Stored) → IsTied settings log s
    → IsTied settings (log ++ entry_of (Told desk key told) None None ∷ []) (put_out_at (suc desk) (told_item key told ∷ []) s)
tied-told settings log desk key told s tied =
    tied-behind settings log (Told desk key told) None s (put_out_at (suc desk) items s) bare.idle tied (record {
      shard_by = λ k v. v;
      shards = acts-none s.shards;
      each_shard = λ k v is. shard-bare settings e v bare;
      outbox_by = λ p v. if p == suc desk then put_out v items else v;
      outboxes = acts-changed (λ p v. v) s.outboxes s.outboxes (suc desk) (λ v. put_out v items) (acts-none s.outboxes);
      each_outbox = λ p v is. by v (p == suc desk) p refl;
      lines = lines-kept settings log e s (pasts_of-told log desk key told None None) (λ line. refl) (λ line. refl) tied;
      books = refl;
      timers = is_armed_so-kept s.timers log e (keeps-told desk key told None None) tied.timers;
    })
  where
    e : Entry
    e = entry_of (Told desk key told) None None

    items : List Item
    items = told_item key told ∷ []

    bare : IsBare settings (entry_of (Told desk key told) None None)
    bare = bare-told settings desk key told

    test : (d : ℕ) → (desk == d) ≡ (suc d == suc desk)
    test d = grind (arith, nat_tests)

    no_clock : (0 == suc desk) ≡ true → ⊥
    no_clock h = absurd (grind (arith, nat_tests, h))

    by : (v : OutboxView) (b : Bool) (p : ℕ) → (p == suc desk) ≡ b → (if b then put_out v items else v) ≡ carried_out (source_at p) e v
    by v true zero is = absurd (no_clock is)
    by v false zero is = sym (carried_out-none (source_at zero) e v refl refl refl)
    by v true (suc d) is = sym (carried_out-put (source_at (suc d)) e v items (ap (λ b. if b then items else []) (test d ∙ is)) refl refl)
    by v false (suc d) is = sym (carried_out-none (source_at (suc d)) e v (ap (λ b. if b then items else []) (test d ∙ is)) refl refl)

-- A timer fires, and is not armed any more.
pub tied-fired : (settings : Settings) (log : List Entry) (machine generation : ℕ) (item : Option Item) (s : Stored) → IsTied settings log s
    → IsTied settings (log ++ entry_of (Fired machine generation) item None ∷ [])
    (record (put_out_at 0 (option_to_list item) s) { timers = with_timer s.timers machine None })
tied-fired settings log machine generation item s tied =
    tied-behind settings log (Fired machine generation) item s (record (put_out_at 0 items s) { timers = with_timer s.timers machine None }) bare.idle tied (record {
      shard_by = λ k v. v;
      shards = acts-none s.shards;
      each_shard = λ k v is. shard-bare settings e v bare;
      outbox_by = λ p v. if p == 0 then put_out v items else v;
      outboxes = acts-changed (λ p v. v) s.outboxes s.outboxes 0 (λ v. put_out v items) (acts-none s.outboxes);
      each_outbox = λ p v is. by v (p == 0) p refl;
      lines = lines-kept settings log e s (pasts_of-fired log machine generation item None) (λ line. refl) (λ line. refl) tied;
      books = refl;
      timers = is_armed_so-changed s.timers log e machine None (changes-fired machine generation item None) tied.timers;
    })
  where
    e : Entry
    e = entry_of (Fired machine generation) item None

    items : List Item
    items = option_to_list item

    bare : IsBare settings (entry_of (Fired machine generation) item None)
    bare = bare-fired settings machine generation item

    no_desk : (d : ℕ) → (suc d == 0) ≡ true → ⊥
    no_desk d h = absurd (grind (arith, nat_tests, h))

    clock : (0 == 0) ≡ false → ⊥
    clock h = absurd (grind (arith, nat_tests, h))

    by : (v : OutboxView) (b : Bool) (p : ℕ) → (p == 0) ≡ b → (if b then put_out v items else v) ≡ carried_out (source_at p) e v
    by v true zero is = sym (carried_out-put (source_at zero) e v items refl refl refl)
    by v false zero is = absurd (clock is)
    by v true (suc d) is = absurd (no_desk d is)
    by v false (suc d) is = sym (carried_out-none (source_at (suc d)) e v refl refl refl)
