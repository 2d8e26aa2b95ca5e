-- The entries that lines tell: their lines, and which line may stand behind them.
use Rattle.std.proofs.Common.{◌≡◌, ◌++◌, ◌∷◌, ◌∙◌, ◌&&◌, inl, inr, length-append, Bool, List, [], ℕ, true, false, cond, refl, ap, sym, append_assoc, map, filter, subst}
use Rattle.std.specs.Prelude.{codes}
use Rattle.std.specs.List.{flat_map}
use Rattle.bench_item.specs.declared.entry.Entry.{Entry}
use Rattle.bench_item.specs.declared.step.Step.{Step}
use Rattle.bench_item.specs.declared.step.Step.TheVariants as step
use Rattle.step_text.specs.Lines.{line_of}
use Rattle.step_text.specs.Names as step_names
use Rattle.log_text.specs.Books.{Named}
use Rattle.log_text.specs.EntryLines.{deed_lines, deed_text, first_text, is_booking, others, outcome_text}
use Rattle.acct_totals.specs.declared.op.Outcome.{Outcome}
use Rattle.std.proofs.lemmas.List.{append-nil}
use Rattle.std.proofs.lemmas.Grind.{flat_map-append}
use Rattle.std.specs.Prelude.{Option, Some, None}
use Rattle.step_text.specs.Shown.{step_shown}
use Rattle.log_text.specs.EntryLines.{entry_lines, is_work, log_lines, moved_line}
use Rattle.log_text.specs.ItemLines.{item_line}
use Rattle.log_text.specs.Shown.{item_shown}
use Rattle.log_text.specs.declared.end.Last.{Last}
use Rattle.log_text.specs.declared.end.Last.TheVariants as last
use Rattle.log_text.specs.declared.end.LogLine.{LogLine}
use Rattle.log_text.specs.declared.end.LogLine.TheVariants as told
use Rattle.log_text.specs.declared.item.Who.{Who}
use Rattle.log_text.specs.declared.item.ItemLine.{ItemLine}
use Rattle.log_text.specs.declared.item.ItemLine.TheVariants.{TooBusy, Stale, Moved}
use Rattle.log_text.specs.DeedLines.{deed_line}
use Rattle.log_text.specs.Following.{Begun, IsTold, MayFollow, MayStandAt, SoFar, begins_blank, end_after, end_of, ended, ends, entries_of, entry_of, entry_with, is_move, is_waiting, last_in, last_item, last_of, last_with, outcomes_of, told_to}
use Rattle.log_text.specs.declared.deed_line.DeedLine.{DeedLine}

-- the last entry is the last
pub ends-last : (test : Entry → Bool) (log : List Entry) (entry : Entry) → ends test (log ++ entry ∷ []) ≡ test entry
ends-last test [] entry = refl
ends-last test (one ∷ []) entry = refl
ends-last test (one ∷ two ∷ log) entry = ends-last test (two ∷ log) entry

-- a step's line begins with a letter
pub step_begins : (names : step_names.Names) (step : Step) → begins_blank (line_of names step) ≡ false
step_begins names step.Joined = refl
step_begins names (step.Dialled line) = refl
step_begins names (step.Came line piece) = refl
step_begins names (step.Lost line) = refl
step_begins names (step.Told desk key event) = refl
step_begins names (step.Fired machine generation) = refl
step_begins names (step.Lift source) = refl
step_begins names (step.Drop source) = refl
step_begins names (step.Work shard) = refl

-- that of an item and that of a deed with a blank
pub item_begins : (names : Named) (item : ItemLine) → begins_blank (item_line names item) ≡ true
item_begins names TooBusy = refl
item_begins names (Stale who state) = refl
item_begins names (Moved who before after row) = refl

pub deed_begins : (deed : DeedLine) → begins_blank (deed_line deed) ≡ true
deed_begins deed = refl

-- the lines of deeds are each deed's
pub deed_lines-each : (lines : List DeedLine) → deed_lines (map (λ line. line.deed) lines) (outcomes_of lines) ≡ flat_map (λ line. ended (deed_line line)) lines
deed_lines-each [] = refl
deed_lines-each (line ∷ lines) =
    let rest = deed_lines-each lines in
    elim (is_booking line.deed.code) as (λ b. by b (map (λ line. line.outcome) (cond b (line ∷ booked lines) (booked lines))) ≡ ended (deed_text line.deed ++ cond b (outcome_text line.outcome) []) ++ flat_map (λ line. ended (deed_line line)) lines) [
      | true ↦ ap (λ t. ended (deed_text line.deed ++ outcome_text line.outcome) ++ t) rest
      | false ↦ ap (λ t. ended (deed_text line.deed) ++ t) rest ∙ ap (λ t. ended t ++ flat_map (λ line. ended (deed_line line)) lines) (sym (append-nil (deed_text line.deed)))
    ]
  where
    booked : List DeedLine → List DeedLine
    booked lines = filter (λ line. is_booking line.deed.code) lines

    by : Bool → List Outcome → List ℕ
    by b outcomes =
        cond b
        (deed_text line.deed ++ first_text outcomes ++ codes "\n" ++ deed_lines (map (λ line. line.deed) lines) (others outcomes))
        (deed_text line.deed ++ codes "\n" ++ deed_lines (map (λ line. line.deed) lines) outcomes)

-- one deed's line more
pub deed_lines-more : (lines : List DeedLine) (line : DeedLine)
    → deed_lines (map (λ line. line.deed) (lines ++ line ∷ [])) (outcomes_of (lines ++ line ∷ []))
    ≡ deed_lines (map (λ line. line.deed) lines) (outcomes_of lines) ++ ended (deed_line line)
deed_lines-more lines line =
    deed_lines-each (lines ++ line ∷ []) ∙ flat_map-append (λ line. ended (deed_line line)) lines (line ∷ [])
    ∙ ap (λ t. flat_map (λ line. ended (deed_line line)) lines ++ t) (append-nil (ended (deed_line line)))
    ∙ ap (λ t. t ++ ended (deed_line line)) (sym (deed_lines-each lines))

-- an entry with one deed's line more
pub one_deed : (names : Named) (step : Step) (who : Who) (before after : ℕ) (row : Option ℕ) (lines : List DeedLine) (line : DeedLine) → is_work step ≡ true
    → entry_lines names (entry_with step (Some (Moved who before after row)) (lines ++ line ∷ []))
    ≡ entry_lines names (entry_with step (Some (Moved who before after row)) lines) ++ ended (deed_line line)
one_deed names step who before after row lines line works =
    let first = ended (line_of names.names step) in
    let second = ended (moved_line names who.key who.kind before after row) in
    let deeds = deed_lines (map (λ line. line.deed) lines) (outcomes_of lines) in
    rw works (
    ap (λ t. first ++ (second ++ t)) (deed_lines-more lines line)
    ∙ ap (λ t. first ++ t) (sym (append_assoc second deeds (ended (deed_line line))))
    ∙ sym (append_assoc first (second ++ deeds) (ended (deed_line line)))
    )

-- the entry begun last, with a line more
last_lines : (names : Named) (log : List Entry) (old new : Entry) (line : List ℕ) → entry_lines names new ≡ entry_lines names old ++ ended line
    → log_lines names (log ++ new ∷ []) ≡ log_lines names (log ++ old ∷ []) ++ ended line
last_lines names log old new line more =
    flat_map-append (entry_lines names) log (new ∷ []) ∙ ap (λ t. log_lines names log ++ t) (append-nil (entry_lines names new) ∙ more)
    ∙ sym (append_assoc (log_lines names log) (entry_lines names old) (ended line))
    ∙ ap (λ t. (log_lines names log ++ t) ++ ended line) (sym (append-nil (entry_lines names old)))
    ∙ ap (λ t. t ++ ended line) (sym (flat_map-append (entry_lines names) log (old ∷ [])))

-- an entry of a step alone
step_lines : (names : Named) (step : Step) (line : List ℕ) → line_of names.names step ≡ line → entry_lines names (entry_with step None []) ≡ ended line
step_lines names step line has = elim (is_work step) as (λ b. (line_of names.names step ++ codes "\n") ++ cond b [] [] ≡ ended line) [
  | true ↦ append-nil (ended (line_of names.names step)) ∙ ap ended has
  | false ↦ append-nil (ended (line_of names.names step)) ∙ ap ended has
]

-- an entry with the line of its item
item_lines : (names : Named) (step : Step) (item : ItemLine) (line : List ℕ) → is_work step ≡ true → item_line names item ≡ line
    → entry_lines names (entry_with step (Some item) []) ≡ entry_lines names (entry_with step None []) ++ ended line
item_lines names step item line works has = by item has
  where
    first : List ℕ
    first = ended (line_of names.names step)

    by : (item : ItemLine) → item_line names item ≡ line → entry_lines names (entry_with step (Some item) []) ≡ entry_lines names (entry_with step None []) ++ ended line
    by TooBusy has = rw works (ap (λ t. ended (line_of names.names step) ++ ended t) has ∙ ap (λ t. t ++ ended line) (sym (append-nil (ended (line_of names.names step)))))
    by (Stale who state) has = rw works (ap (λ t. ended (line_of names.names step) ++ ended t) has ∙ ap (λ t. t ++ ended line) (sym (append-nil (ended (line_of names.names step)))))
    by (Moved who before after row) has =
        rw works (
        ap (λ t. ended (line_of names.names step) ++ t) (append-nil (ended (moved_line names who.key who.kind before after row)) ∙ ap ended has)
        ∙ ap (λ t. t ++ ended line) (sym (append-nil (ended (line_of names.names step))))
        )

-- an entry being read: below a step no deed stands, and an item stands below a `work` alone
pub record IsBegun (begun : Begun) : Type 0 where
  pub waits : begun.item ≡ None → begun.deeds ≡ []
  pub works : (item : ItemLine) → begun.item ≡ Some item → is_work begun.step ≡ true

-- so is the last one; there is none only before any line
pub record IsSound (far : SoFar) : Type 0 where
  pub reading : far.begun ≡ None → far.log ≡ []
  pub begun : (begun : Begun) → far.begun ≡ Some begun → IsBegun begun

some_is : {X : Type 0} (a b : X) → Some a ≡ Some b → a ≡ b
some_is a b e = cc

-- how an entry being read ends a log
waits : Last → Bool
waits last.Waiting = true
waits last.Moved = false
waits last.Other = false

moves : Last → Bool
moves last.Waiting = false
moves last.Moved = true
moves last.Other = false

waiting-with : (step : Step) (item : Option ItemLine) (deeds : List DeedLine) → is_waiting (entry_with step item deeds) ≡ waits (last_with step item)
unfolding waits
waiting-with step None deeds = elim (is_work step) as (λ b. (b && true) ≡ waits (cond b last.Waiting last.Other)) [ true ↦ refl | false ↦ refl ]
waiting-with step (Some TooBusy) deeds = elim (is_work step) as (λ b. (b && false) ≡ false) [ true ↦ refl | false ↦ refl ]
waiting-with step (Some (Stale who state)) deeds = elim (is_work step) as (λ b. (b && false) ≡ false) [ true ↦ refl | false ↦ refl ]
waiting-with step (Some (Moved who before after row)) deeds = elim (is_work step) as (λ b. (b && false) ≡ false) [ true ↦ refl | false ↦ refl ]

moved-with : (step : Step) (item : Option ItemLine) (deeds : List DeedLine) → ((one : ItemLine) → item ≡ Some one → is_work step ≡ true)
    → is_move (entry_with step item deeds) ≡ moves (last_with step item)
unfolding moves
moved-with step None deeds works = elim (is_work step) as (λ b. (b && false) ≡ moves (cond b last.Waiting last.Other)) [ true ↦ refl | false ↦ refl ]
moved-with step (Some TooBusy) deeds works = elim (is_work step) as (λ b. (b && false) ≡ false) [ true ↦ refl | false ↦ refl ]
moved-with step (Some (Stale who state)) deeds works = elim (is_work step) as (λ b. (b && false) ≡ false) [ true ↦ refl | false ↦ refl ]
moved-with step (Some (Moved who before after row)) deeds works = rw (works (Moved who before after row) refl) refl

-- where nothing is begun the log is empty
ends-none : (test : Entry → Bool) (log : List Entry) → log ≡ [] → ends test (log ++ []) ≡ false
ends-none test log empty = rw empty refl

ends-waiting : (far : SoFar) → IsSound far → ends is_waiting (entries_of far) ≡ waits (last_in far.begun)
unfolding waits
ends-waiting far sound = by far.begun refl
  where
    by : (begun : Option Begun) → far.begun ≡ begun → ends is_waiting (far.log ++ last_of begun) ≡ waits (last_in begun)
    by None is = ends-none is_waiting far.log (sound.reading is)
    by (Some begun) is = ends-last is_waiting far.log (entry_of begun) ∙ waiting-with begun.step begun.item begun.deeds

ends-moved : (far : SoFar) → IsSound far → ends is_move (entries_of far) ≡ moves (last_in far.begun)
unfolding moves
ends-moved far sound = by far.begun refl
  where
    by : (begun : Option Begun) → far.begun ≡ begun → ends is_move (far.log ++ last_of begun) ≡ moves (last_in begun)
    by None is = ends-none is_move far.log (sound.reading is)
    by (Some begun) is = ends-last is_move far.log (entry_of begun) ∙ moved-with begun.step begun.item begun.deeds (sound.begun begun is).works

waits-is : (end : Last) → waits end ≡ true → end ≡ last.Waiting
unfolding waits
waits-is last.Waiting is = refl
waits-is last.Moved is = absurd (cc)
waits-is last.Other is = absurd (cc)

moves-is : (end : Last) → moves end ≡ true → end ≡ last.Moved
unfolding moves
moves-is last.Waiting is = absurd (cc)
moves-is last.Moved is = refl
moves-is last.Other is = absurd (cc)

-- which line may follow what lines tell depends on how that ends
pub stands-at : (names : Named) (far : SoFar) (line : List ℕ) → IsSound far → MayFollow names (entries_of far) line → MayStandAt names (end_of far) line
stands-at names far line sound (inl begins) = inl (begins.step, begins.room)
stands-at names far line sound (inr (inl item)) = inr (inl (waits-is (last_in far.begun) (sym (ends-waiting far sound) ∙ item.0), item.1))
stands-at names far line sound (inr (inr deed)) = inr (inr (moves-is (last_in far.begun) (sym (ends-moved far sound) ∙ deed.0), deed.1))

-- what a line tells may follow
pub told_follows : (names : Named) (far : SoFar) (line : List ℕ) (told : LogLine) → IsSound far → IsTold names (end_of far) line told → MayFollow names (entries_of far) line
unfolding waits moves
told_follows names far line (told.Step step) sound is =
    inl (record { step = record { step = step_shown step; is = is.0.is; has = is.0.has }; room = is.1 })
told_follows names far line (told.Item item) sound is =
    inr (inl (ends-waiting far sound ∙ ap waits is.1, record { item = item_shown item; is = is.0.is; has = is.0.has }))
told_follows names far line (told.Deed deed) sound is =
    inr (inr (ends-moved far sound ∙ ap moves is.1, record { deed = deed; is = is.0.is; has = is.0.has }))

-- what is begun, where a log ends with a `work` or a move
record Waits (far : SoFar) : Type 0 where
  step : Step
  deeds : List DeedLine
  is : far.begun ≡ Some (record { step = step; item = None; deeds = deeds })
  works : is_work step ≡ true

record Moves (far : SoFar) : Type 0 where
  step : Step
  who : Who
  before : ℕ
  after : ℕ
  row : Option ℕ
  deeds : List DeedLine
  is : far.begun ≡ Some (record { step = step; item = Some (Moved who before after row); deeds = deeds })

begun_waits : (far : SoFar) → last_in far.begun ≡ last.Waiting → Waits far
begun_waits far ends = by far.begun refl ends
  where
    work : (step : Step) → cond (is_work step) last.Waiting last.Other ≡ last.Waiting → is_work step ≡ true
    work step ends = elim (is_work step) as (λ b. cond b last.Waiting last.Other ≡ last.Waiting → b ≡ true) [ true ↦ λ e. refl | false ↦ λ e. absurd (cc) ] ends

    parts : (step : Step) (item : Option ItemLine) (deeds : List DeedLine) → far.begun ≡ Some (record { step = step; item = item; deeds = deeds }) → last_with step item ≡ last.Waiting → Waits far
    parts step None deeds is ends = record { step = step; deeds = deeds; is = is; works = work step ends }
    parts step (Some TooBusy) deeds is ends = absurd (cc)
    parts step (Some (Stale who state)) deeds is ends = absurd (cc)
    parts step (Some (Moved who before after row)) deeds is ends = absurd (cc)

    by : (begun : Option Begun) → far.begun ≡ begun → last_in begun ≡ last.Waiting → Waits far
    by None is ends = absurd (cc)
    by (Some begun) is ends = parts begun.step begun.item begun.deeds is ends

begun_moves : (far : SoFar) → last_in far.begun ≡ last.Moved → Moves far
begun_moves far ends = by far.begun refl ends
  where
    no_move : (b : Bool) → cond b last.Waiting last.Other ≡ last.Moved → ⊥
    no_move true e = cc
    no_move false e = cc

    parts : (step : Step) (item : Option ItemLine) (deeds : List DeedLine) → far.begun ≡ Some (record { step = step; item = item; deeds = deeds }) → last_with step item ≡ last.Moved → Moves far
    parts step None deeds is ends = absurd (no_move (is_work step) ends)
    parts step (Some TooBusy) deeds is ends = absurd (cc)
    parts step (Some (Stale who state)) deeds is ends = absurd (cc)
    parts step (Some (Moved who before after row)) deeds is ends = record { step = step; who = who; before = before; after = after; row = row; deeds = deeds; is = is }

    by : (begun : Option Begun) → far.begun ≡ begun → last_in begun ≡ last.Moved → Moves far
    by None is ends = absurd (cc)
    by (Some begun) is ends = parts begun.step begun.item begun.deeds is ends

-- the lines of what is told, with one line more
pub told_lines : (names : Named) (far : SoFar) (line : List ℕ) (told : LogLine) → IsSound far → IsTold names (end_of far) line told
    → log_lines names (entries_of (told_to far told)) ≡ log_lines names (entries_of far) ++ ended line
told_lines names far line (told.Step step) sound is =
    flat_map-append (entry_lines names) (entries_of far) (entry_with (step_shown step) None [] ∷ [])
    ∙ ap (λ t. log_lines names (entries_of far) ++ t) (append-nil _ ∙ step_lines names (step_shown step) line is.0.has)
told_lines names far line (told.Item item) sound is =
    let at = begun_waits far is.1 in
    let none : at.deeds ≡ [] = (sound.begun (record { step = at.step; item = None; deeds = at.deeds }) at.is).waits refl in
    rw (at.is, none) (last_lines names far.log (entry_with at.step None []) (entry_with at.step (Some (item_shown item)) []) line
    (item_lines names at.step (item_shown item) line at.works is.0.has))
told_lines names far line (told.Deed deed) sound is =
    let at = begun_moves far is.1 in
    let item = Moved at.who at.before at.after at.row in
    let works : is_work at.step ≡ true = (sound.begun (record { step = at.step; item = Some item; deeds = at.deeds }) at.is).works item refl in
    rw at.is (last_lines names far.log (entry_with at.step (Some item) at.deeds) (entry_with at.step (Some item) (at.deeds ++ deed ∷ [])) line
    (rw (sym is.0.has) (one_deed names at.step at.who at.before at.after at.row at.deeds deed works)))

-- how that ends
pub told_ends : (names : Named) (far : SoFar) (line : List ℕ) (told : LogLine) → IsTold names (end_of far) line told → end_of (told_to far told) ≡ end_after (end_of far) told
told_ends names far line (told.Step step) is =
    ap (λ (n : ℕ). record { entries = n; last = last_with (step_shown step) None }) (length-append (entries_of far) (entry_with (step_shown step) None [] ∷ []))
told_ends names far line (told.Item item) is =
    let at = begun_waits far is.1 in
    rw at.is (ap (λ (n : ℕ). record { entries = n; last = last_item (item_shown item) })
    (length-append far.log (entry_with at.step (Some (item_shown item)) at.deeds ∷ []) ∙ sym (length-append far.log (entry_with at.step None at.deeds ∷ []))))
told_ends names far line (told.Deed deed) is =
    let at = begun_moves far is.1 in
    let item = Moved at.who at.before at.after at.row in
    rw at.is (ap (λ (n : ℕ). record { entries = n; last = last.Moved })
    (length-append far.log (entry_with at.step (Some item) (at.deeds ++ deed ∷ []) ∷ []) ∙ sym (length-append far.log (entry_with at.step (Some item) at.deeds ∷ []))))

-- and it is sound
pub told_sound : (names : Named) (far : SoFar) (line : List ℕ) (told : LogLine) → IsSound far → IsTold names (end_of far) line told → IsSound (told_to far told)
told_sound names far line (told.Step step) sound is = record {
  reading = λ none. absurd (cc);
  begun = λ begun is. subst IsBegun (some_is _ begun is) (record { waits = λ none. refl; works = λ item some. absurd (cc) });
}
told_sound names far line (told.Item item) sound is =
    let at = begun_waits far is.1 in
    rw at.is (record {
      reading = λ none. absurd (cc);
      begun = λ begun is. subst IsBegun (some_is _ begun is) (record { waits = λ none. absurd (cc); works = λ item some. at.works });
    })
told_sound names far line (told.Deed deed) sound is =
    let at = begun_moves far is.1 in
    let item = Moved at.who at.before at.after at.row in
    let works : is_work at.step ≡ true = (sound.begun (record { step = at.step; item = Some item; deeds = at.deeds }) at.is).works item refl in
    rw at.is (record {
      reading = λ none. absurd (cc);
      begun = λ begun is. subst IsBegun (some_is _ begun is) (record { waits = λ none. absurd (cc); works = λ item some. works });
    })
