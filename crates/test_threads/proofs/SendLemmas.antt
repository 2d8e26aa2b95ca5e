-- A desk may go to another thread, and so may a closure that has some of its own, and looks at what it tells.
use denote.RattleType.{RattleType}
use denote.Ref.{Bor, MutBor}
use denote.Struct.Declared.{shape}
use denote.Struct.Tuple.{TupleAt, field_at, type_at}
use mathlib.Core.List.{[], ◌∷◌}
use mir.Syntax.{Sym}
use denote.Struct.Field.{bool-field, unit-field}
use denote.Param.Members.{Mut}
use denote.Param.Object.{Ghosts, table_of}
use denote.Param.Send.{IsSend, recorded_send, struct_send}
use denote.Param.Sent.{Sends}
use Rattle.std.proofs.Crossing.{Arc-send}
use Rattle.bench_desk.proofs.desk.Desk.TheSendSync as desk
use Rattle.bench_live.proofs.SendLemmas.{shared-send, shared-sync}
use Rattle.bench_live.specs.contracts.desk.LiveDesk as LiveDesk
use Rattle.tab_law.specs.declared.act.Acted.{Acted}
use Rattle.tab_law.specs.declared.scene.Scene.{Scene}

module _ (T U : RattleType) (g : Ghosts T.Denot) (h : Ghosts U.Denot)
    (m : Mut ((i : T.Denot) × (g.1.0 i).0.Denot) (Bor Scene × Unit {0}) bool-field.Value)
    (n : Mut ((i : U.Denot) × (h.1.0 i).0.Denot) (Bor Scene × (MutBor Acted × Unit {0})) (unit-field.Value × (MutBor Acted × Unit {0})))
    (t : IsSend T) (u : IsSend U) (s : Sends (table_of T.Denot g)) (r : Sends (table_of U.Denot h)) where
  pub desk-send : IsSend (LiveDesk.the_row T U g h m n)
  desk-send =
      recorded_send (LiveDesk.the_field T U g h m n).row _ _ (LiveDesk.the_type T U g h m n).to_one
      (struct_send (shape (LiveDesk.the_type T U g h m n))
      (desk.the_send, (Arc-send _ (shared-send T U g h m n t u s r) (shared-sync T U g h m n t u s r), tt)))

-- what a thread takes over may go there if each of it may
pub moved-five : (ν : Sym) (A B C D E : RattleType) → IsSend A → IsSend B → IsSend C → IsSend D → IsSend E
    → IsSend (TupleAt ν (A ∷ B ∷ C ∷ D ∷ E ∷ []))
moved-five ν A B C D E a b c d e =
    recorded_send (field_at ν (A ∷ B ∷ C ∷ D ∷ E ∷ [])).row _ _ (type_at ν (A ∷ B ∷ C ∷ D ∷ E ∷ [])).to_one
    (struct_send (shape (type_at ν (A ∷ B ∷ C ∷ D ∷ E ∷ []))) (a, (b, (c, (d, (e, tt))))))
