use Rattle.std.proofs.Common.{ℕ, ◌<◌, List, length, arith}
use Rattle.tab_asm.specs.Formats.{Instruction, BeginRow, TestGuard, RunAction, GoTo, NoRow}
use Rattle.tab_asm.specs.Paths.{IsWhole}
use Rattle.tab_load.specs.Faults.{code_limit}
use Rattle.tab_load.specs.Code.{Fits}
use Rattle.tab_load.specs.declared.counts.Format.{Format}

-- operands that are whole fit
pub whole-fits : (format : Format) (code : List ℕ) (one : Instruction) → length code < code_limit format → IsWhole code one → Fits format one
whole-fits format code (BeginRow row) short whole = whole
whole-fits format code (TestGuard guard otherwise) short whole = omega (arith, short, whole)
whole-fits format code (RunAction action) short whole = tt
whole-fits format code (GoTo state) short whole = tt
whole-fits format code NoRow short whole = tt
