-- What is printed of a reply.
use Rattle.std.specs.Prelude.{ℕ, ◌+◌, ◌==◌, List, [], ◌∷◌, ◌++◌, codes, decimal, slice_get, if◌then◌else◌}
use Rattle.acct_totals.specs.declared.answer.Totals.{Totals}
use Rattle.event_text.specs.Deeds.{name_or}
use Rattle.bench_item.specs.declared.key.Key.{Key}
use Rattle.step_text.specs.Names.{key_name, shown}
use Rattle.tab_step.specs.declared.machine.MachineState.{MachineState}
use Rattle.debug_text.specs.Tables.{Tables, table_of}
use Rattle.debug_text.specs.declared.reply.Reply.{Reply}
use Rattle.debug_text.specs.declared.reply.Reply.TheVariants.{Text, End, At, StoppedAt, EndAt, WasSet, WasCleared}
use Rattle.debug_text.specs.declared.reply.Reply.TheVariants.{Stands, AreTotals, IsAt, Help}
use Rattle.debug_text.specs.declared.write.TheConstants.{HELP}

-- the registers that aren't 0, the first of them with that number: ` rR=V` each
abbrev pub registers_text : ℕ → List ℕ → List ℕ
registers_text register [] = []
registers_text register (value ∷ values) =
    if value == 0 then registers_text (register + 1) values
    else codes " r" ++ decimal register ++ codes "=" ++ decimal value ++ registers_text (register + 1) values

-- `KEY STATE rR=V ..`: where a machine stands; a state without a name by its number
abbrev pub stands_text : Tables → Key → MachineState → List ℕ
stands_text tables key state =
    shown (key_name key) ++ codes " " ++ name_or (slice_get (table_of tables key.role).states state.state) state.state
    ++ registers_text 0 state.regs
    ++ codes "\n"

-- `given G reserved R debited D unpaid U`
abbrev pub totals_text : Totals → List ℕ
totals_text totals =
    codes "given " ++ decimal totals.given ++ codes " reserved " ++ decimal totals.reserved
    ++ codes " debited " ++ decimal totals.debited
    ++ codes " unpaid " ++ decimal totals.unpaid
    ++ codes "\n"

-- a line for each command
unfoldable pub help_text : List ℕ
help_text = HELP.now

abbrev pub reply_text : Tables → Reply → List ℕ
reply_text tables (Text text) = text
reply_text tables End = codes "end\n"
reply_text tables (At place) = codes "at " ++ decimal place ++ codes "\n"
reply_text tables (StoppedAt place number) =
    codes "stopped at " ++ decimal place ++ codes " by " ++ decimal number ++ codes "\n"
reply_text tables (EndAt place) = codes "end at " ++ decimal place ++ codes "\n"
reply_text tables (WasSet number) = codes "break " ++ decimal number ++ codes "\n"
reply_text tables (WasCleared number) = codes "cleared " ++ decimal number ++ codes "\n"
reply_text tables (Stands key state) = stands_text tables key state
reply_text tables (AreTotals totals) = totals_text totals
reply_text tables (IsAt place next last) =
    codes "at " ++ decimal place ++ codes " script " ++ decimal next ++ codes " of " ++ decimal last ++ codes "\n"
reply_text tables Help = help_text
