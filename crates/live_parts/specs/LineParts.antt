-- The connections' part: connections, and the stamped entries of what happened to them.
use Rattle.std.specs.Prelude.{◌≡◌, ◌&&◌, ◌||◌, ℕ, nat_le, Bool, true, false, List, [], ◌∷◌, ◌++◌, length, map, Option}
use Rattle.std.specs.Prelude.{Some, None, is_none, if◌then◌else◌}
use Rattle.bench_item.specs.declared.entry.Entry.{Entry}
use Rattle.bench_item.specs.declared.item.Item.{Item}
use Rattle.bench_item.specs.declared.item.Item.TheVariants.{ToLine, Dial, Undial}
use Rattle.bench_item.specs.declared.limit.TheConstants.{MAX_LINES}
use Rattle.bench_line.specs.Line.{LineView}
use Rattle.bench_log.specs.Targets.{is_dial}
use Rattle.bench_item.specs.Lines.{Delivered, Undialled}
use Rattle.bench_item.specs.declared.opening.Opening.TheVariants as openings
use Rattle.bench_item.specs.declared.step.StepFault.{StepFault}
use Rattle.bench_item.specs.declared.step.StepFault.TheVariants as faults
use Rattle.bench_line.specs.Lines.{Past, AreLinesAfter, next_on, one_more, opened, state_on, with_step}
use Rattle.bench_line.specs.Talk.{Meaning, meaning}
use Rattle.bench_spec.specs.Merged.{Stamped}
use Rattle.bench_spec.specs.Refusal.{is_log_full}
use Rattle.bench_views.specs.LineLifts.{IsLiftedSo}
use Rattle.bench_views.specs.LinePasts.{pasts_of}
use Rattle.bench_desk.specs.declared.fault.CarryFault.{CarryFault}
use Rattle.bench_desk.specs.declared.fault.CarryFault.TheVariants as carrying
use Rattle.line_message.specs.Heard.{heard}
use Rattle.line_message.specs.Hearing.{Hearing}
use Rattle.line_message.specs.Sent.{message_octets}
use Rattle.line_message.specs.Turned.{turned}

-- who listens, the connections, and the entries of their part, each with its stamp
pub record LinesPartView : Type 0 where
  pub rules : Hearing
  pub lines : List LineView
  pub entries : List Stamped

-- the entries alone
abbrev pub entries_of : LinesPartView → List Entry
entries_of v = map (λ s. s.entry) v.entries

-- what messages mean to who listens
abbrev pub meaning_by : Hearing → Meaning
meaning_by rules = meaning heard turned (λ who item. message_octets who.identity item) rules

-- the connections are what the entries say: each is what its opening and its steps make of it, and as many of its items
-- were lifted
pub record AreSo (rules : Hearing) (lines : List LineView) (log : List Entry) : Type 0 where
  pub stand : AreLinesAfter (meaning_by rules) lines (pasts_of log)
  pub lifted : IsLiftedSo lines log

-- just that entry was added, with its stamp, and who listens is as before; all else is what the entries say
pub record IsAdded (v w : LinesPartView) (stamp : ℕ) (e : Entry) : Type 0 where
  pub rules : w.rules ≡ v.rules
  pub entries : w.entries ≡ v.entries ++ record { stamp = stamp; entry = e } ∷ []

-- what the connections say against a step, and then that the part has as many entries as it may
abbrev pub fault_or_full : LinesPartView → Option StepFault → Option StepFault
fault_or_full v (Some fault) = Some fault
fault_or_full v None = if is_log_full (entries_of v) then Some faults.Full else None

-- why no connection is accepted
abbrev pub joined_refusal : LinesPartView → Option StepFault
joined_refusal v = if is_log_full (entries_of v) || nat_le MAX_LINES (length v.lines) then Some faults.Full else None

-- why nothing is lifted from a connection: there is none of that number, no item waits, or the part is full
abbrev pub lift_refusal : LinesPartView → ℕ → Option StepFault
lift_refusal v line =
    if is_none (state_on v.lines line) then Some faults.Unknown
    else (if is_none (next_on v.lines line) then Some faults.Nothing else fault_or_full v None)

-- whether an item is for the connections
abbrev pub is_for_lines : Item → Bool
is_for_lines (ToLine item) = true
is_for_lines (Dial peer generation) = true
is_for_lines (Undial peer generation) = true
is_for_lines item = false

-- why an item is not dropped here: the part is full, or it opens a connection and there are as many as may be
abbrev pub drop_refusal : LinesPartView → Item → Option CarryFault
drop_refusal v item =
    if is_log_full (entries_of v) || (is_dial item && nat_le MAX_LINES (length v.lines)) then Some carrying.Full
    else None

-- what an item that comes makes of what happened to the connections, and of how many items of each were lifted
abbrev pub pasts_with : Item → List Past → List Past
pasts_with (ToLine item) pasts = with_step item.line (Delivered item) pasts
pasts_with (Dial peer generation) pasts = opened (openings.Dialled peer generation) pasts
pasts_with (Undial peer generation) pasts = map (one_more (Undialled peer generation)) pasts
pasts_with item pasts = pasts

abbrev pub lifted_with : Item → List ℕ → List ℕ
lifted_with (Dial peer generation) counts = counts ++ 0 ∷ []
lifted_with item counts = counts

-- the item came: the connections stand for what happened to them and for the item
pub record HasCome (rules : Hearing) (old new : List LineView) (item : Item) : Type 0 where
  pub stands : (pasts : List Past) → AreLinesAfter (meaning_by rules) old pasts
      → AreLinesAfter (meaning_by rules) new (pasts_with item pasts)
  pub lifted : map (λ l. l.lifted) new ≡ lifted_with item (map (λ l. l.lifted) old)
