-- What is printed at the end of a run: where lines stand and what they sent, and what stands on accounts.
use Rattle.std.specs.Prelude.{ℕ, List, [], ◌++◌, codes, decimal, flat_map, length, Option, Some, None}
use Rattle.std.specs.List.{range_with_len}
use Rattle.acct_totals.specs.declared.answer.Totals.{Totals}
use Rattle.base_text.specs.Contents.{content_text}
use Rattle.bench_item.specs.declared.key.Key.{Key}
use Rattle.bench_item.specs.declared.line_state.LineState.{LineState}
use Rattle.bench_item.specs.declared.line_state.LineState.TheVariants.{Dialling, Open, Closed}
use Rattle.bench_spec.specs.Lines.{openings}
use Rattle.bench_spec.specs.Taken as taken
use Rattle.step_text.specs.Names.{shown}
use Rattle.bench_script.specs.Printed.{machine_at}

-- the host of a peer's machine, `-` where there is none
abbrev pub host_text : Option Key → List ℕ
host_text None = codes "-"
host_text (Some key) = shown key.name

-- where a line stands: being dialled to a host, open or closed
abbrev pub state_text : taken.Run → LineState → List ℕ
state_text run (Dialling peer) = codes " dialling " ++ host_text (machine_at run peer)
state_text run Open = codes " open"
state_text run Closed = codes " closed"

abbrev pub stands_text : taken.Run → Option LineState → List ℕ
stands_text run None = []
stands_text run (Some state) = state_text run state

-- `line N STATE HEX`: where a line stands and what it sent
abbrev pub line_text : taken.Run → ℕ → List ℕ
line_text run line =
    codes "line " ++ decimal line ++ stands_text run ((taken.shown run).line_of line)
    ++ content_text ((taken.shown run).sent_of line)
    ++ codes "\n"

-- the first lines, by number
unfoldable pub lines_to : taken.Run → ℕ → List ℕ
lines_to run count = flat_map (line_text run) (range_with_len 1 count)

-- the lines that were opened
abbrev pub lines_text : taken.Run → List ℕ
lines_text run = lines_to run (length (openings run.log))

-- ` given G reserved R debited D unpaid U`
abbrev pub sums_text : Totals → List ℕ
sums_text totals =
    codes " given " ++ decimal totals.given ++ codes " reserved " ++ decimal totals.reserved
    ++ codes " debited " ++ decimal totals.debited
    ++ codes " unpaid " ++ decimal totals.unpaid

-- `account ID` and its sums, where it is there
abbrev pub account_text : ℕ → Option Totals → List ℕ
account_text id None = []
account_text id (Some totals) = codes "account " ++ decimal id ++ sums_text totals ++ codes "\n"

-- these accounts, in this order
abbrev pub totals_text : taken.Run → List ℕ → List ℕ
totals_text run ids = flat_map (λ id. account_text id ((taken.shown run).totals_at id)) ids
