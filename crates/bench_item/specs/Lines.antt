-- What happens to a line, and where it stands and what it has sent by that.
use Rattle.std.specs.Prelude.{ℕ, ◌==◌, ◌&&◌, Bool, true, false, List, [], if◌then◌else◌}
use Rattle.std.specs.List.{list_any}
use Rattle.base_codes.specs.DeedCodes.{number_of}
use Rattle.base_codes.specs.declared.deed_code.DeedCode.TheVariants.{Close}
use Rattle.bench_item.specs.Past.{any_after, flat_map_after}
use Rattle.bench_item.specs.declared.item.Item.{Item}
use Rattle.bench_item.specs.declared.item.LineItem.{LineItem}
use Rattle.bench_item.specs.declared.line_state.LineState.{LineState}
use Rattle.bench_item.specs.declared.line_state.LineState.TheVariants as at
use Rattle.bench_item.specs.declared.opening.Opening.{Opening}
use Rattle.bench_item.specs.declared.opening.Opening.TheVariants.{Accepted, Dialled}

-- what happens to a line once it is opened: its dial is acknowledged, octets come, it is lost, a deed for it is
-- dropped, or a deed that closes the line of a dial, by peer and generation
pub data LineStep : Type 0 where
  Acknowledged : LineStep
  Received : List ℕ → LineStep
  Gone : LineStep
  Delivered : LineItem → LineStep
  Undialled : ℕ → ℕ → LineStep

-- what octets mean to a line: all that it puts out, by its opening and what happened to it; and, of a piece that comes
-- after what happened so far, whether it ends the line, and the octets that the line itself answers
pub record LineRules : Type 0 where
  pub posts : Opening → List LineStep → List Item
  pub ends : Opening → List LineStep → List ℕ → Bool
  pub answers : Opening → List LineStep → List ℕ → List ℕ

-- whether a dial of that peer and generation opened the line
abbrev pub is_dial : ℕ → ℕ → Opening → Bool
is_dial peer generation Accepted = false
is_dial peer generation (Dialled p g) = (p == peer) && (g == generation)

-- whether a step closes the line, after those before it
abbrev pub closes : LineRules → Opening → List LineStep → LineStep → Bool
closes rules opening past Acknowledged = false
closes rules opening past (Received piece) = rules.ends opening past piece
closes rules opening past Gone = true
closes rules opening past (Delivered item) = item.deed.code == number_of Close
closes rules opening past (Undialled peer generation) = is_dial peer generation opening

abbrev pub is_closed : LineRules → Opening → List LineStep → Bool
is_closed rules opening happened = any_after (closes rules opening) [] happened

abbrev pub is_acknowledgement : LineStep → Bool
is_acknowledgement Acknowledged = true
is_acknowledgement step = false

-- where a line stands that is not closed: one that was dialled waits for its acknowledgement
abbrev pub standing : Opening → List LineStep → LineState
standing Accepted happened = at.Open
standing (Dialled peer generation) happened = if list_any is_acknowledgement happened then at.Open else at.Dialling peer

-- where a line stands
abbrev pub state_of : LineRules → Opening → List LineStep → LineState
state_of rules opening happened = if is_closed rules opening happened then at.Closed else standing opening happened

-- what a line sends at a step that finds it open: its own answers to octets that come, and the message of a deed that
-- is dropped
abbrev pub sent_open : LineRules → (LineItem → List ℕ) → Opening → List LineStep → LineStep → List ℕ
sent_open rules octets opening past (Received piece) = rules.answers opening past piece
sent_open rules octets opening past (Delivered item) = octets item
sent_open rules octets opening past step = []

-- a closed line sends nothing
abbrev pub sent_at : LineRules → (LineItem → List ℕ) → Opening → List LineStep → LineStep → List ℕ
sent_at rules octets opening past step =
    if is_closed rules opening past then [] else sent_open rules octets opening past step

-- all that a line has sent
abbrev pub sent_of : LineRules → (LineItem → List ℕ) → Opening → List LineStep → List ℕ
sent_of rules octets opening happened = flat_map_after (sent_at rules octets opening) [] happened
