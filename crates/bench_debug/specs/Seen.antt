-- What contracts see of a debugger.
use Rattle.bench_debug.specs.Debug.{Debugging, debugging}
use Rattle.bench_debug.specs.declared.debugger.Debugger.{Debugger}

abbrev pub seen : Debugger → Debugging
seen d = debugging d.core d.progress
