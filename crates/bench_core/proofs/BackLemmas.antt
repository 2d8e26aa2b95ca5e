-- The last step is taken back: the world is whole before it.
use Rattle.std.proofs.Common.{◌≡◌, ◌-◌, ◌<◌, ℕ, List, [], ◌∷◌, ◌++◌, Bool, refl, sym, ◌∙◌, ap, arith, length, length-append, subst, take}
use Rattle.std.specs.Prelude.{IsTrue}
use Rattle.std.specs.FinSet as set
use Rattle.std.proofs.lemmas.List.{same_from_push}
use Rattle.std.proofs.Math.Seq.{take-append_seam}
use Rattle.acct_book.specs.Book.{Paged}
use Rattle.bench_item.specs.declared.entry.Entry.{Entry}
use Rattle.bench_item.specs.declared.source.Source.{Source}
use Rattle.bench_line.specs.Line.{LineView}
use Rattle.bench_queue.specs.Outbox.{OutboxState}
use Rattle.bench_shard.specs.View.{ShardView}
use Rattle.bench_spec.specs.Rules.{listening}
use Rattle.bench_spec.specs.Settings.{Settings}
use Rattle.bench_spec.specs.Taken.{GoesBackTo, Run}
use Rattle.bench_spec.proofs.LegalLemmas.{IsLegal-front}
use Rattle.bench_undo.specs.declared.undo.Arrival.{Arrival}
use Rattle.bench_undo.specs.declared.undo.Arrival.TheVariants as arrivals
use Rattle.bench_undo.specs.declared.undo.Undo.{Undo}
use Rattle.bench_undo.specs.declared.undo.Undo.TheVariants.{Dropped, Fired, Lifted, Lines, Opened, Told, Worked}
use Rattle.bench_views.specs.Stored.{EachAt, IsTied, Stored}
use Rattle.bench_views.proofs.Acting.{each-had, each-has}
use Rattle.bench_carry.specs.Parts.{numbers_of, parts_of}
use Rattle.bench_carry.specs.Placed.{ArePlaced, IsPlaced}
use Rattle.bench_carry.specs.Undone.{undone}
use Rattle.tick_wheel.specs.Timers.{Timers}
use Rattle.bench_core.specs.Inside.{IsPageAt, IsShardCount, IsSound, paused_in, run_in, settings_in, stored_in}
use Rattle.bench_core.specs.declared.keeping.Core.TheInside.{Inside}
use Rattle.bench_core.specs.Whole.{CanGoBack, IsWhole, MayUndo}

-- more is not nothing
not_more : {X : Type 0} (xs : List X) (x : X) → [] ≡ xs ++ x ∷ [] → ⊥
not_more xs x same = let count = ap length same ∙ length-append xs (x ∷ []) in absurd (omega arith)

-- The log has a last entry, and the last record takes the parts to those before it.
record GoesBack (settings : Settings) (log : List Entry) (s : Stored) (undos : List Undo) (undo : Undo) : Type 0 where
  shorter : List Entry
  entry : Entry
  log_is : log ≡ shorter ++ entry ∷ []
  may : MayUndo undo s
  tied : IsTied settings shorter (undone undo s)
  back : CanGoBack settings undos shorter (undone undo s)

tied-back : (settings : Settings) (undos : List Undo) (log : List Entry) (s : Stored) → CanGoBack settings undos log s
    → IsTied settings log s
tied-back settings undos log s (CanGoBack.AtStart start tied) = tied
tied-back settings undos log s (CanGoBack.Behind others shorter old new undo e all whole back tied may is all_is whole_is) = tied

goes-back : (settings : Settings) (undos : List Undo) (undo : Undo) (all : List Undo) (log : List Entry) (s : Stored)
    → CanGoBack settings all log s → all ≡ undos ++ undo ∷ [] → GoesBack settings log s undos undo
goes-back settings undos undo all log s (CanGoBack.AtStart start tied) last = absurd (not_more undos undo last)
goes-back settings undos undo all log s (CanGoBack.Behind others shorter old new other e more whole back tied may is is_more is_whole) last = record {
  shorter = shorter;
  entry = e;
  log_is = is_whole;
  may = subst (λ u. MayUndo u new) one.1 may;
  tied = tied-back settings undos shorter (undone undo new) behind;
  back = behind;
}
  where
    one : (others ≡ undos) × (other ≡ undo)
    one = same_from_push others undos other undo (sym is_more ∙ last)

    behind : CanGoBack settings undos shorter (undone undo new)
    behind = rw (← one.0, ← one.1, is) back

-- where no record is, no step was taken
pub none-taken : (settings : Settings) (undos : List Undo) (log : List Entry) (s : Stored) → CanGoBack settings undos log s
    → undos ≡ [] → log ≡ []
none-taken settings undos log s (CanGoBack.AtStart start tied) none = refl
none-taken settings undos log s (CanGoBack.Behind others shorter old new undo e all whole back tied may is all_is whole_is) none =
    absurd (not_more others undo (sym none ∙ all_is))

-- the last record may be applied
pub last-may : (settings : Settings) (undos all : List Undo) (undo : Undo) (log : List Entry) (s : Stored)
    → IsWhole settings log s all → all ≡ undos ++ undo ∷ [] → MayUndo undo s
last-may settings undos all undo log s whole last = (goes-back settings undos undo all log s whole.back last).may

-- the log without its last entry
shorter_by-one : (log shorter : List Entry) (e : Entry) → log ≡ shorter ++ e ∷ [] → take (length log - 1) log ≡ shorter
shorter_by-one log shorter e is =
    let count : length log - 1 ≡ length shorter = let all = ap length is ∙ length-append shorter (e ∷ []) in omega arith in
    ap (λ n. take n log) count ∙ ap (take (length shorter)) is ∙ take-append_seam shorter (e ∷ [])

-- the world before the last step is whole
pub whole-back : (settings : Settings) (undos all : List Undo) (undo : Undo) (log : List Entry) (s : Stored)
    → IsWhole settings log s all → all ≡ undos ++ undo ∷ [] → IsWhole settings (take (length log - 1) log) (undone undo s) undos
whole-back settings undos all undo log s whole last =
    let goes = goes-back settings undos undo all log s whole.back last in
    subst (λ l. IsWhole settings l (undone undo s) undos) (sym (shorter_by-one log goes.shorter goes.entry goes.log_is)) (record {
      legal = IsLegal-front settings goes.shorter (goes.entry ∷ []) (rw goes.log_is at whole.legal);
      tied = goes.tied;
      back = goes.back;
    })

-- and is the one before it to a contract
abbrev run_of : Settings → List Entry → List Bool → Run
run_of settings log paused = record { settings = settings; log = log; paused = paused }

same_run : (s t : Settings) (xs ys : List Entry) (p q : List Bool) → s ≡ t → xs ≡ ys → p ≡ q → run_of s xs p ≡ run_of t ys q
same_run s t xs ys p q e f g = rw (e, f, g) refl

pub run-back : (settings other : Settings) (undos all : List Undo) (undo : Undo) (log front : List Entry)
    (paused halted : List Bool) (s : Stored)
    → IsWhole settings log s all → all ≡ undos ++ undo ∷ [] → other ≡ settings → front ≡ take (length log - 1) log
    → halted ≡ paused → GoesBackTo (run_of settings log paused) (run_of other front halted)
run-back settings other undos all undo log front paused halted s whole last is_other is_front is_halted =
    let goes = goes-back settings undos undo all log s whole.back last in
    record {
      entry = goes.entry;
      grown =
          same_run settings other log (front ++ goes.entry ∷ []) paused halted (sym is_other)
          (goes.log_is ∙ ap (λ l. l ++ goes.entry ∷ []) (sym (is_front ∙ shorter_by-one log goes.shorter goes.entry goes.log_is)))
          (sym is_halted);
    }

-- pages that keep their numbers
pub pages-back : (count : ℕ) (old new : List Paged) → numbers_of new ≡ numbers_of old → EachAt (IsPageAt count) old
    → EachAt (IsPageAt count) new
pages-back count old new same each =
    each-has (λ k (n : ℕ × ℕ). (n.0 ≡ k) × (n.1 ≡ count)) (λ p. (p.number, p.pages)) new
    (subst (EachAt (λ k (n : ℕ × ℕ). (n.0 ≡ k) × (n.1 ≡ count))) (sym same)
    (each-had (λ k (n : ℕ × ℕ). (n.0 ≡ k) × (n.1 ≡ count)) (λ p. (p.number, p.pages)) old each))

-- timers have places by the places alone
arrival-placed : (old new : Timers) (source : Source) (arrival : Arrival) → new.places ≡ old.places
    → IsPlaced old (Dropped source arrival) → IsPlaced new (Dropped source arrival)
arrival-placed old new source (arrivals.Shard shard) same placed = tt
arrival-placed old new source (arrivals.Lines change) same placed = tt
arrival-placed old new source arrivals.Opened same placed = tt
arrival-placed old new source (arrivals.Timer machine timer) same placed =
    subst (λ places. IsTrue (set.contains places machine)) (sym same) placed

undo-placed : (old new : Timers) (undo : Undo) → new.places ≡ old.places → IsPlaced old undo → IsPlaced new undo
undo-placed old new Opened same placed = tt
undo-placed old new (Lines change) same placed = tt
undo-placed old new (Told desk) same placed = tt
undo-placed old new (Fired machine timer posted) same placed = subst (λ places. IsTrue (set.contains places machine)) (sym same) placed
undo-placed old new (Lifted source) same placed = tt
undo-placed old new (Dropped source arrival) same placed = arrival-placed old new source arrival same placed
undo-placed old new (Worked shard change page booked) same placed = tt

-- that of the last record, and those of the others
last-of : (wheel : Timers) (undos : List Undo) (undo : Undo) → ArePlaced wheel (undos ++ undo ∷ []) → IsPlaced wheel undo
last-of wheel [] undo placed = placed.0
last-of wheel (u ∷ undos) undo placed = last-of wheel undos undo placed.1

pub last-placed : (wheel : Timers) (undos all : List Undo) (undo : Undo) → all ≡ undos ++ undo ∷ [] → ArePlaced wheel all
    → IsPlaced wheel undo
last-placed wheel undos all undo last placed = last-of wheel undos undo (subst (ArePlaced wheel) last placed)

others-of : (old new : Timers) (undos : List Undo) (undo : Undo) → new.places ≡ old.places → ArePlaced old (undos ++ undo ∷ [])
    → ArePlaced new undos
others-of old new [] undo same placed = tt
others-of old new (u ∷ undos) undo same placed = (undo-placed old new u same placed.0, others-of old new undos undo same placed.1)

pub others-placed : (old new : Timers) (undos all : List Undo) (undo : Undo) → all ≡ undos ++ undo ∷ [] → new.places ≡ old.places
    → ArePlaced old all → ArePlaced new undos
others-placed old new undos all undo last same placed = others-of old new undos undo same (subst (ArePlaced old) last placed)

-- what it was opened with is as before
pub settings-back : (old new : Inside) → new.roles ≡ old.roles → new.accounts ≡ old.accounts → new.page_count ≡ old.page_count
    → new.desk_count ≡ old.desk_count → new.lines.rules ≡ old.lines.rules → settings_in new ≡ settings_in old
settings-back old new roles accounts pages desks rules = rw (roles, accounts, pages, desks, rules) refl

-- what a step that is taken back leaves as it is, and what it makes of the rest
pub record IsBack (old new : Inside) (undo : Undo) : Type 0 where
  pub settings : settings_in new ≡ settings_in old
  pub records : old.undo.records ≡ new.undo.records ++ undo ∷ []
  pub log : new.log.entries ≡ take (length old.log.entries - 1) old.log.entries
  pub parts : stored_in new ≡ undone undo (stored_in old)
  pub rules : new.lines.rules ≡ old.lines.rules
  pub page_count : new.page_count ≡ old.page_count
  pub numbers : numbers_of new.pages.items ≡ numbers_of old.pages.items
  pub places : new.wheel.places ≡ old.wheel.places
  pub paused : paused_in new ≡ paused_in old

-- so the world is sound
pub sound-back : (old new : Inside) (undo : Undo) → IsSound old → IsBack old new undo → IsSound new
sound-back old new undo sound is = record {
  whole =
      subst (λ settings. IsWhole settings new.log.entries (stored_in new) new.undo.records) (sym is.settings)
      (subst (λ log. IsWhole (settings_in old) log (stored_in new) new.undo.records) (sym is.log)
      (subst (λ s. IsWhole (settings_in old) (take (length old.log.entries - 1) old.log.entries) s new.undo.records) (sym is.parts)
      (whole-back (settings_in old) new.undo.records old.undo.records undo old.log.entries (stored_in old) sound.whole is.records)));
  listens = is.rules ∙ sound.listens ∙ ap listening (sym is.settings);
  pages =
      subst (λ count. EachAt (IsPageAt count) new.pages.items) (sym is.page_count)
      (pages-back old.page_count old.pages.items new.pages.items is.numbers sound.pages);
  paged = subst (λ count. 0 < count) (sym is.page_count) sound.paged;
  shards = subst (λ who. IsShardCount who.peers.shards) (sym is.rules) sound.shards;
  placed = others-placed old.wheel new.wheel new.undo.records old.undo.records undo is.records is.places sound.placed;
}

-- and one step back
pub goes-to : (old new : Inside) (undo : Undo) → IsSound old → IsBack old new undo → GoesBackTo (run_in old) (run_in new)
goes-to old new undo sound is =
    run-back (settings_in old) (settings_in new) new.undo.records old.undo.records undo old.log.entries new.log.entries (paused_in old)
    (paused_in new) (stored_in old) sound.whole is.records is.settings is.log is.paused

-- parts that are read
pub parts-read : (vs ws : List ShardView) (os ps : List OutboxState) (ls : List LineView) (ns : List ℕ) (gs hs : List Paged) (wheel : Timers)
    → vs ≡ ws → os ≡ ps → gs ≡ hs → parts_of vs os ls ns gs wheel ≡ parts_of ws ps ls ns hs wheel
parts-read vs ws os ps ls ns gs hs wheel shards outboxes pages = rw (shards, outboxes, pages) refl
