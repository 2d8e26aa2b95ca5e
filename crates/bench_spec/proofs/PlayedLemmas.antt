-- A move in which every action picks the greatest number that its law allows is a move.
use Rattle.std.proofs.Common.{◌≡◌, ◌<◌, ℕ, List, [], ◌∷◌, Option, Some, None, refl, sym, ap, subst, arith}
use Rattle.std.specs.Prelude.{IsSomeAnd, map, option_map, slice_index}
use Rattle.std.proofs.lemmas.List.FromFn.{get_or-map-range_with_len}
use Rattle.std.proofs.lemmas.Option.{same_Some}
use Rattle.base_list.specs.declared.named.Named.{Named}
use Rattle.base_list.specs.Named.{entry_of}
use Rattle.tab_law.specs.Acts.{Allows, Permits, emitted, highest, last_of}
use Rattle.tab_law.specs.Books.{Laws, NamedPermits}
use Rattle.tab_law.specs.declared.law.Change.{Change}
use Rattle.tab_law.specs.declared.law.Change.TheVariants.{Set, Pick, Emit, EmitIf}
use Rattle.tab_law.specs.declared.limits.TheConstants.{PLACES}
use Rattle.tab_law.specs.declared.scene.Deed.{Deed}
use Rattle.tab_law.specs.declared.scene.Scene.{Scene}
use Rattle.tab_step.specs.declared.machine.Event.{Event}
use Rattle.tab_step.specs.declared.machine.MachineState.{MachineState}
use Rattle.tab_step.specs.Moves.{MovesBy, Runs, name_at, row_taken, scene_of}
use Rattle.tab_text.specs.Contents.{Contents}
use Rattle.tab_text.specs.declared.row.Row.{Row}
use Rattle.bench_item.specs.declared.entry.Entry.{Entry}
use Rattle.bench_item.specs.declared.entry.Moved.{Moved}
use Rattle.bench_item.specs.declared.item.MachineItem.{MachineItem}
use Rattle.bench_spec.specs.Legal.{IsMove}
use Rattle.bench_spec.specs.Played.{chain_of, deeds_of, highest_regs, laws_of_row, move_with, played_by}
use Rattle.bench_spec.specs.Settings.{Settings}

highest_allowed : (scene : Scene) (change : Option Change) (old : ℕ)
    → Allows scene change old (highest scene change old)
highest_allowed scene None old = refl
highest_allowed scene (Some (Set number term)) old = refl
highest_allowed scene (Some (Pick number low high)) old = (omega arith, omega arith)
highest_allowed scene (Some (Emit code terms)) old = refl
highest_allowed scene (Some (EmitIf test code terms)) old = refl

highest_permitted : (law : List Change) (scene : Scene)
    → Permits law scene (highest_regs law scene) (emitted law scene (highest_regs law scene))
highest_permitted law scene = record { registers = allowed; emits = refl }
  where
    at : ℕ → ℕ
    at n = highest scene (last_of n law) (slice_index scene.regs n)

    allowed : (register : ℕ) → register < PLACES
        → Allows scene (last_of register law) (slice_index scene.regs register)
        (slice_index (highest_regs law scene) register)
    allowed register within =
        subst (Allows scene (last_of register law) (slice_index scene.regs register))
        (sym (get_or-map-range_with_len at 0 PLACES register register 0 within (omega arith)))
        (highest_allowed scene (last_of register law) (slice_index scene.regs register))

-- each name has that law
abbrev pub EachFound : Laws → List (List ℕ) → List (List Change) → Type 0
EachFound laws [] [] = Unit {0}
EachFound laws (name ∷ names) (law ∷ rest) =
    (option_map (λ entry. entry.value) (entry_of name laws.acts) ≡ Some law) × EachFound laws names rest
EachFound laws names rest = ⊥

by_name : (found : Option (Named (List Change))) (law : List Change) (scene : Scene) (new : List ℕ) (deeds : List Deed)
    → option_map (λ entry. entry.value) found ≡ Some law → Permits law scene new deeds
    → IsSomeAnd found (λ entry. Permits entry.value scene new deeds)
by_name None law scene new deeds is permits = absurd (none_is is)
  where
    IsThere : Option (List Change) → Type 0
    IsThere None = ⊥
    IsThere (Some l) = Unit {0}

    none_is : None ≡ Some law → ⊥
    none_is same = subst IsThere (sym same) tt
by_name (Some entry) law scene new deeds is permits =
    subst (λ l. Permits l scene new deeds) (sym (same_Some entry.value law is)) permits

runs_highest : (laws : Laws) (facts : List ℕ) (names : List (List ℕ)) (rest : List (List Change)) (regs : List ℕ)
    → EachFound laws names rest
    → Runs (NamedPermits laws) facts names regs (chain_of facts regs rest) (deeds_of facts regs rest)
runs_highest laws facts [] [] regs found = refl
runs_highest laws facts (name ∷ names) (law ∷ rest) regs found = (
  emitted law (scene_of regs facts) (highest_regs law (scene_of regs facts)),
  deeds_of facts (highest_regs law (scene_of regs facts)) rest,
  by_name (entry_of name laws.acts) law (scene_of regs facts) (highest_regs law (scene_of regs facts))
      (emitted law (scene_of regs facts) (highest_regs law (scene_of regs facts))) found.0
      (highest_permitted law (scene_of regs facts)),
  refl,
  runs_highest laws facts names rest (highest_regs law (scene_of regs facts)) found.1,
)
runs_highest laws facts [] (law ∷ rest) regs found = absurd found
runs_highest laws facts (name ∷ names) [] regs found = absurd found

pub played_is_move : (settings : Settings) (table : Contents) (past : List Entry) (item : MachineItem)
    (state : MachineState) (event : Event) (numbered : ℕ × Row)
    → row_taken table settings.node.laws state event ≡ Some numbered
    → EachFound settings.node.laws (map (name_at table.actions) numbered.1.actions)
    (laws_of_row settings.node.laws table numbered.1)
    → IsMove settings.node.laws table
    (move_with settings past item state event (played_by settings.node.laws table state event (Some numbered)))
played_is_move settings table past item state event numbered taken found = record {
  row = sym (ap (option_map (λ (n : ℕ × Row). n.0)) taken);
  moves = subst
      (λ row. MovesBy (NamedPermits settings.node.laws) table state event row moved.after moved.chain moved.deeds)
      (sym taken)
      (record {
        state = refl;
        runs =
            runs_highest settings.node.laws event.facts (map (name_at table.actions) numbered.1.actions)
            (laws_of_row settings.node.laws table numbered.1) state.regs found;
        regs = refl;
      });
}
  where
    moved : Moved
    moved = move_with settings past item state event (played_by settings.node.laws table state event (Some numbered))
