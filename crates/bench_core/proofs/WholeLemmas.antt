-- A whole world with one more entry.
use Rattle.std.proofs.Common.{◌≡◌, List, [], ◌∷◌, ◌++◌, Option, Some, None, refl, subst}
use Rattle.bench_item.specs.declared.entry.Entry.{Entry}
use Rattle.bench_spec.specs.Legal.{MayFollow}
use Rattle.bench_spec.specs.Settings.{Settings}
use Rattle.bench_spec.proofs.LegalLemmas.{IsLegal-snoc}
use Rattle.bench_undo.specs.declared.undo.Undo.{Undo}
use Rattle.bench_views.specs.Stored.{IsTied, Stored}
use Rattle.bench_carry.specs.Undone.{undone}
use Rattle.bench_core.specs.Whole.{CanGoBack, IsWhole, MayUndo}

-- one more entry that may follow, with parts that are what the log then says and a record that takes them back
pub whole-after : (settings : Settings) (log : List Entry) (s new : Stored) (undos : List Undo) (e : Entry) (undo : Undo) → IsWhole settings log s undos → MayFollow settings log e → IsTied settings (log ++ e ∷ []) new → MayUndo undo new → undone undo new ≡ s → IsWhole settings (log ++ e ∷ []) new (undos ++ undo ∷ [])
whole-after settings log s new undos e undo whole follows tied may back = record {
  legal = IsLegal-snoc settings log e whole.legal follows;
  tied = tied;
  back = CanGoBack.Behind undos log s new undo e (undos ++ undo ∷ []) (log ++ e ∷ []) whole.back tied may back refl refl;
}

-- something is not nothing
abbrev IsThere : {X : Type 0} → Option X → Type 0
IsThere None = ⊥
IsThere (Some x) = Unit {0}

pub not_some : {X : Type 0} (x : X) → Some x ≡ None → ⊥
not_some x same = subst IsThere same tt
