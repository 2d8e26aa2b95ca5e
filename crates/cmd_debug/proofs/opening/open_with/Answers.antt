use Rattle.cmd_debug.proofs.OpenedLemmas.{begun_opened, refused_of}
use Rattle.cmd_debug.proofs.opening.open_with.Goals as goal

-- a debugger begins on the bench that was opened
pub returns-in-Ok : goal.returns-in-Ok
returns-in-Ok g c =
    begun_opened c.args.config _ c.args.script.now c.in-Ok.core c.begin.result c.in-Ok.ensures.ok.0 c.in-Ok.ensures.ok.1 c.begin.ensures

-- or the opening is refused
pub returns-in_ok-opening_text-in-Err : goal.returns-in_ok-opening_text-in-Err
returns-in_ok-opening_text-in-Err g c =
    refused_of _ c.args.script.now c.in-Err.error _ c.in-Err.ensures.fault c.in_ok-opening_text-in-Err.ensures
