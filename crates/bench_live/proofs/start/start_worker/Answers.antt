use denote.Param.{param}
use denote.Builtin.{u32}
use denote.Exit.{no}
use denote.Param.Callables.{held_fn}
use denote.Param.Object.{Vt, ghosts_of}
use denote.Param.Send.{IsSend, arg_send, param_send, sendable}
use denote.Param.Sent.{code_send}
use Rattle.std.proofs.Crossing.{Arc-send}
use Rattle.bench_live.proofs.SendLemmas.{moved-four, shared-send, shared-sync}
use Rattle.bench_live.specs.contracts.start.start_worker.dyn-1 as one
use Rattle.bench_live.specs.contracts.start.start_worker.dyn-2 as two
use Rattle.bench_live.proofs.start.start_worker.Goals as goal

pub spawn-requires-send-F : goal.spawn-requires-send-F
spawn-requires-send-F g c κs within =
    let T = Vt (one.slots g.row.R g.row.G) g.dyn-1.0 in
    let U = Vt (two.slots g.row.R g.row.G) g.dyn-2.0 in
    let h = ghosts_of (one.slots g.row.R g.row.G) g.dyn-1.0 g.dyn-1.1 in
    let i = ghosts_of (two.slots g.row.R g.row.G) g.dyn-2.0 g.dyn-2.1 in
    let m = held_fn g.dyn-1.0 in
    let n = held_fn g.dyn-2.0 in
    let t : IsSend T = search (code_send, sendable) in
    let u : IsSend U = search (code_send, sendable) in
    let a = Arc-send _ (shared-send T U h i m n t u g.dyn-1.2 g.dyn-2.2) (shared-sync T U h i m n t u g.dyn-1.2 g.dyn-2.2) in
    let number : IsSend u32 = search sendable in
    let b = Arc-send (param 1 g.row.G) c.type_bounds.send-G c.type_bounds.sync-G in
    param_send 1 _ (arg_send _ no _ (moved-four _ _ _ _ _ c.type_bounds.send-R a b number))
