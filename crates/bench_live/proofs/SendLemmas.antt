-- What threads share may go to another thread, and several threads may look at it: the callbacks of a shard may.
use denote.RattleType.{RattleType}
use denote.Ref.{Bor, MutBor}
use denote.Struct.Declared.{shape}
use denote.Struct.Tuple.{TupleAt, field_at, type_at}
use mathlib.Core.List.{[], ◌∷◌}
use mir.Syntax.{Sym}
use denote.Struct.Field.{bool-field, unit-field}
use denote.Param.Members.{Mut}
use denote.Param.Object.{Ghosts, table_of}
use denote.Param.Send.{IsSend, IsSync, recorded_send, recorded_sync, sendable, struct_send, struct_sync}
use denote.Param.Sent.{Sends}
use Rattle.std.proofs.Crossing.{Box-send, Vec-send, Vec-sync, crosses, dyn_box_send}
use Rattle.std.proofs.alloc.Global.TheSendSync as heap
use Rattle.acct_pages.proofs.pages.Pages.TheSendSync as pages
use Rattle.bench_desk.proofs.part.ShardPart.TheSendSync as part
use Rattle.live_parts.proofs.lines.LinesPart.TheSendSync as lines
use Rattle.live_slot.proofs.clock.ClockSlot.TheSendSync as clock
use Rattle.tab_call.specs.contracts.registry.Registry as Registry
use Rattle.tab_call.specs.contracts.stored.StoredAct as Act
use Rattle.tab_call.specs.contracts.stored.StoredGuard as Guard
use Rattle.tab_law.proofs.book.LawBook.TheSendSync as book
use Rattle.tab_law.proofs.law.ActLaw.TheSendSync as act_law
use Rattle.tab_law.proofs.law.GuardLaw.TheSendSync as guard_law
use Rattle.tab_law.specs.declared.act.Acted.{Acted}
use Rattle.tab_law.specs.declared.scene.Scene.{Scene}
use Rattle.tab_step.proofs.machine.Stepped.TheSendSync as stepped
use Rattle.bench_live.specs.contracts.shared.ShardLock as Lock
use Rattle.bench_live.specs.contracts.shared.Shared as Shared
use Rattle.bench_live.specs.contracts.slot.Slot as Slot

-- guards and actions, of which each may
module _ (T U : RattleType) (g : Ghosts T.Denot) (h : Ghosts U.Denot)
    (m : Mut ((i : T.Denot) × (g.1.0 i).0.Denot) (Bor Scene × Unit {0}) bool-field.Value)
    (n : Mut ((i : U.Denot) × (h.1.0 i).0.Denot) (Bor Scene × (MutBor Acted × Unit {0})) (unit-field.Value × (MutBor Acted × Unit {0})))
    (t : IsSend T) (u : IsSend U) (s : Sends (table_of T.Denot g)) (r : Sends (table_of U.Denot h)) where
  guard : IsSend (Guard.the_row T g m)
  guard =
      recorded_send (Guard.the_field T g m).row _ _ (Guard.the_type T g m).to_one
      (struct_send (shape (Guard.the_type T g m)) (guard_law.the_send, (dyn_box_send T g s t, tt)))

  act : IsSend (Act.the_row U h n)
  act =
      recorded_send (Act.the_field U h n).row _ _ (Act.the_type U h n).to_one
      (struct_send (shape (Act.the_type U h n)) (act_law.the_send, (dyn_box_send U h r u, tt)))

  registry : IsSend (Registry.the_field T U g h m n).row
  registry = struct_send (shape (Registry.the_type T U g h m n))
      (heap.the_field_send, (book.the_send, (Vec-send _ guard, (Vec-send _ act, tt))))

  slot : IsSend (Slot.the_row T U g h m n)
  slot =
      recorded_send (Slot.the_field T U g h m n).row _ _ (Slot.the_type T U g h m n).to_one
      (struct_send (shape (Slot.the_type T U g h m n))
      (heap.the_field_send, (part.the_send, (registry, (Box-send _ stepped.the_send, (search sendable, (search sendable, (search sendable, tt))))))))

  lock-send : IsSend (Lock.the_row T U g h m n)
  lock-send = let s = slot in
      recorded_send (Lock.the_field T U g h m n).row _ _ (Lock.the_type T U g h m n).to_one
      (struct_send (shape (Lock.the_type T U g h m n)) (search crosses, (search (sendable, crosses) depth 20, tt)))

  lock-sync : IsSync (Lock.the_row T U g h m n)
  lock-sync = let s = slot in
      recorded_sync (Lock.the_field T U g h m n).row _ _ (Lock.the_type T U g h m n).to_one
      (struct_sync (shape (Lock.the_type T U g h m n)) (search crosses, (search (sendable, crosses) depth 20, tt)))

  pub shared-send : IsSend (Shared.the_row T U g h m n)
  shared-send = let l = lines.the_send in let c = clock.the_send in
      recorded_send (Shared.the_field T U g h m n).row _ _ (Shared.the_type T U g h m n).to_one
      (struct_send (shape (Shared.the_type T U g h m n)) (
        heap.the_field_send,
        (
          Vec-send _ lock-send,
          (pages.the_send, (search crosses, (search crosses, (search (sendable, crosses) depth 20, (search (sendable, crosses) depth 20, tt))))),
        ),
      ))

  pub shared-sync : IsSync (Shared.the_row T U g h m n)
  shared-sync = let l = lines.the_send in let c = clock.the_send in
      recorded_sync (Shared.the_field T U g h m n).row _ _ (Shared.the_type T U g h m n).to_one
      (struct_sync (shape (Shared.the_type T U g h m n)) (
        heap.the_field_sync,
        (
          Vec-sync _ lock-sync,
          (pages.the_sync, (search crosses, (search crosses, (search (sendable, crosses) depth 20, (search (sendable, crosses) depth 20, tt))))),
        ),
      ))

-- what a thread takes over may go there if each of it may
pub moved-two : (ν : Sym) (A B : RattleType) → IsSend A → IsSend B → IsSend (TupleAt ν (A ∷ B ∷ []))
moved-two ν A B a b =
    recorded_send (field_at ν (A ∷ B ∷ [])).row _ _ (type_at ν (A ∷ B ∷ [])).to_one
    (struct_send (shape (type_at ν (A ∷ B ∷ []))) (a, (b, tt)))

pub moved-four : (ν : Sym) (A B C D : RattleType) → IsSend A → IsSend B → IsSend C → IsSend D
    → IsSend (TupleAt ν (A ∷ B ∷ C ∷ D ∷ []))
moved-four ν A B C D a b c d =
    recorded_send (field_at ν (A ∷ B ∷ C ∷ D ∷ [])).row _ _ (type_at ν (A ∷ B ∷ C ∷ D ∷ [])).to_one
    (struct_send (shape (type_at ν (A ∷ B ∷ C ∷ D ∷ []))) (a, (b, (c, (d, tt)))))
