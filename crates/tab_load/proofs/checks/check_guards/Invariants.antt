use Rattle.std.proofs.Common.{◌≡◌, true, take, length}
use Rattle.std.specs.List.{list_all}
use Rattle.tab_asm.specs.Formats.{code_of}
use Rattle.tab_load.specs.Faults.{format_of}
use Rattle.tab_load.specs.Code.{instructions_of, landings, leads}
use Rattle.tab_load.proofs.checks.check_guards.Given as goal

abbrev pub invariant-loop-step : goal.invariant-loop-step
invariant-loop-step l = record {
  at : l.at ≡ length (code_of (format_of l.format) (instructions_of (take l.step-index l.scan.steps.items)));
  earlier : list_all (leads (landings l.format (instructions_of l.scan.steps.items))) (instructions_of (take l.step-index l.scan.steps.items)) ≡ true;
}
