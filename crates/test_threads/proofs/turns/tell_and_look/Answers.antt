use denote.Exit.{no}
use denote.Param.Callables.{held_fn}
use denote.Param.Object.{Vt, ghosts_of}
use denote.Param.Send.{IsSend, arg_send, mut_slice_send, param_send, sendable, shr_send}
use denote.Param.Sent.{code_send}
use Rattle.bench_item.proofs.key.Key.TheSendSync as key
use Rattle.bench_live.proofs.SendLemmas.{moved-four}
use Rattle.test_threads.proofs.SendLemmas.{desk-send}
use Rattle.thread_cases.proofs.gate.Hold.TheSendSync as hold
use Rattle.test_threads.specs.contracts.turns.tell_and_look.dyn-1 as one
use Rattle.test_threads.specs.contracts.turns.tell_and_look.dyn-2 as two
use Rattle.test_threads.proofs.turns.tell_and_look.Goals as goal

pub join-looked-requires-send-F : goal.join-looked-requires-send-F
join-looked-requires-send-F g c κs within =
    let T = Vt (one.slots g.row.R) g.dyn-1.0 in
    let U = Vt (two.slots g.row.R) g.dyn-2.0 in
    let h = ghosts_of (one.slots g.row.R) g.dyn-1.0 g.dyn-1.1 in
    let i = ghosts_of (two.slots g.row.R) g.dyn-2.0 g.dyn-2.1 in
    let m = held_fn g.dyn-1.0 in
    let n = held_fn g.dyn-2.0 in
    let t : IsSend T = search (code_send, sendable) in
    let u : IsSend U = search (code_send, sendable) in
    let d = desk-send T U h i m n t u g.dyn-1.2 g.dyn-2.2 in
    let a = shr_send _ _ _ c.type_bounds.sync-R in
    let l = shr_send _ _ _ (hold.the_sync _ c.type_bounds.sync-R) in
    let b = mut_slice_send _ _ _ d in
    let k = shr_send _ _ _ key.the_sync in
    param_send 1 _ (arg_send _ no _ (moved-four _ _ _ _ _ a l b k))
