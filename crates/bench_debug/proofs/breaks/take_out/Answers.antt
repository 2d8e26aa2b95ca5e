use Rattle.std.proofs.Common.{◌==◌, rules}
use Rattle.std.specs.Prelude.{not}
use Rattle.std.proofs.lemmas.Fn.{filter_same}
use Rattle.bench_debug.specs.declared.debugger.SetBreakpoint.{SetBreakpoint}
use Rattle.bench_debug.proofs.breaks.take_out.Goals as goal

pub returns : goal.returns
returns c = filter_same _ (λ (b : SetBreakpoint). not (b.number == c.args.number)) _ (λ x b f' t. search rules) _ _ c.retain.ensures.filtered
