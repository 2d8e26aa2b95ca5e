use Rattle.live_turns.proofs.LawLemmas.{laws_there}
use Rattle.cmd_live.proofs.RefusalLemmas.{not_opened, opened_by}
use Rattle.cmd_live.proofs.opening.BenchWithCalls.run.Goals as goal

-- the callbacks that are handed in have the laws of all roles
pub open_bench-requires : goal.open_bench-requires
open_bench-requires g c = laws_there _ c.args.registries.items c.deref-2.result.now _ c.deref-2.ensures.value c.requires

-- it is opened
pub returns-in-Ok : goal.returns-in-Ok
returns-in-Ok g c =
    opened_by _ c.args.registries.items c.deref-2.result.now c.args.self.config c.in-Ok.core c.deref-2.ensures.value c.in-Ok.ensures.laws c.in-Ok.ensures.ok.1

-- why it is not opened
pub returns : goal.returns
returns g c =
    not_opened _ c.args.registries.items c.deref.result.now c.deref-2.result.now c.deref-in-Err.result.now c.args.self.config c.unbound_at-row.result c.in-Err.error
    c.in_ok-opening_text_at-in-Err.field-0.items c.deref.ensures.value c.deref-2.ensures.value c.deref-in-Err.ensures.value c.unbound_at-row.ensures c.in-Err.ensures.fault
    c.in_ok-opening_text_at-in-Err.ensures
