-- Lines as commands of a debugger, and what is printed of each.
use Rattle.std.specs.Prelude.{◌≡◌, ℕ, List, [], ◌∷◌, ◌++◌, Result, Ok, Err}
use Rattle.bench_debug.specs.Debug.{Debugging, Does}
use Rattle.bench_debug.specs.Tables.{tables_in}
use Rattle.debug_text.specs.Faults.{fault_text}
use Rattle.debug_text.specs.Replies.{reply_text}
use Rattle.debug_text.specs.Tables.{Tables}
use Rattle.debug_text.specs.declared.command.CommandFault.{CommandFault}
use Rattle.debug_text.specs.declared.reply.Reply.{Reply}

-- what is printed of a command: its reply, or its fault
abbrev pub answer_text : Tables → Result Reply CommandFault → List ℕ
answer_text tables (Ok reply) = reply_text tables reply
answer_text tables (Err fault) = fault_text fault

-- the command of a line was done, and what is printed of it stands behind a text
pub record IsReplied (old new : Debugging) (line before after : List ℕ) : Type 0 where
  pub result : Result Reply CommandFault
  pub done : Does old new line result
  pub printed : after ≡ before ++ answer_text (tables_in new.world.settings) result

-- the commands of lines were done, in order, and this is printed of them
abbrev pub IsSession : Debugging → Debugging → List (List ℕ) → List ℕ → Type 0
IsSession old new [] text = (new ≡ old) × (text ≡ [])
IsSession old new (line ∷ lines) text =
    (between : Debugging) × (first : List ℕ) × (rest : List ℕ)
    × IsReplied old between line [] first × IsSession between new lines rest × (text ≡ first ++ rest)
