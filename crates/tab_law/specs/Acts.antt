-- What an action may leave by its law: registers and deeds.
use Rattle.std.specs.Prelude.{◌≡◌, ℕ, ◌<◌, ◌≤◌, ◌%◌, ◌==◌, ◌++◌, ◌-◌, Bool, true, false, List, Option, Some, None}
use Rattle.std.specs.Prelude.{slice_index, length, map, filter, replicate, take, reverse, min, if◌then◌else◌}
use Rattle.std.specs.List.{find, filter_map}
use mathlib.Core.List.{is_set}
use Rattle.std.specs.Coded.{×_prop, le_prop, Coded-set, coded_ℕ, coded_list}
use Rattle.tab_law.specs.Values.{atom_value, term_value}
use Rattle.tab_law.specs.declared.scene.Scene.{Scene}
use Rattle.tab_law.specs.declared.scene.Deed.{Deed}
use Rattle.tab_law.specs.declared.law.Term.{Term}
use Rattle.tab_law.specs.declared.law.Change.{Change}
use Rattle.tab_law.specs.declared.law.Change.TheVariants.{Set, Pick, Emit, EmitIf}
use Rattle.tab_law.specs.declared.limits.TheConstants.{PLACES, MAX_EMITS}

-- whether a change sets or picks that register
abbrev pub is_change_of : ℕ → Change → Bool
is_change_of register (Set number term) = number % PLACES == register
is_change_of register (Pick number low high) = number % PLACES == register
is_change_of register (Emit code terms) = false
is_change_of register (EmitIf test code terms) = false

-- the change of a register that counts: its last one
abbrev pub last_of : ℕ → List Change → Option Change
last_of register law = find (is_change_of register) (reverse law)

-- what a register that held `old` may hold where that change counts
abbrev pub Allows : Scene → Option Change → ℕ → ℕ → Type 0
Allows scene None old new = new ≡ old
Allows scene (Some (Set number term)) old new = new ≡ term_value scene scene.regs term
Allows scene (Some (Pick number low high)) old new =
    (min (term_value scene scene.regs low) (term_value scene scene.regs high) ≤ new)
    × (new ≤ term_value scene scene.regs high)
-- an Emit is no change of a register
Allows scene (Some (Emit code terms)) old new = new ≡ old
Allows scene (Some (EmitIf test code terms)) old new = new ≡ old

-- the greatest value that it may hold
abbrev pub highest : Scene → Option Change → ℕ → ℕ
highest scene None old = old
highest scene (Some (Set number term)) old = term_value scene scene.regs term
highest scene (Some (Pick number low high)) old = term_value scene scene.regs high
highest scene (Some (Emit code terms)) old = old
highest scene (Some (EmitIf test code terms)) old = old

-- the arguments of a deed: the values of its terms, and 0 behind them
abbrev pub arguments_of : Scene → List ℕ → List Term → List ℕ
arguments_of scene new terms = map (term_value scene new) terms ++ replicate (PLACES - length terms) 0

-- the deed that a change emits, where the action leaves the registers as `new`: an EmitIf has none where its atom is 0
abbrev pub deed_of : Scene → List ℕ → Change → Option Deed
deed_of scene new (Emit code terms) = Some (record { code = code; a = arguments_of scene new terms })
deed_of scene new (EmitIf test code terms) =
    if atom_value scene new test == 0 then None else Some (record { code = code; a = arguments_of scene new terms })
deed_of scene new change = None

-- whether a change is an Emit, with a condition or without
abbrev pub is_emit : Change → Bool
is_emit (Emit code terms) = true
is_emit (EmitIf test code terms) = true
is_emit change = false

-- the deeds that a law emits: those of its first four Emits, in order
abbrev pub emitted : List Change → Scene → List ℕ → List Deed
emitted law scene new = filter_map (deed_of scene new) (take MAX_EMITS (filter is_emit law))

-- a law permits an action to leave these registers and these deeds
pub record Permits (law : List Change) (scene : Scene) (new : List ℕ) (deeds : List Deed) : Type 0 where
  pub registers : (register : ℕ) → register < PLACES
      → Allows scene (last_of register law) (slice_index scene.regs register) (slice_index new register)
  pub emits : deeds ≡ emitted law scene new

-- each register is as great as its law permits
pub record IsAtHighest (law : List Change) (scene : Scene) (new : List ℕ) : Type 0 where
  pub places : length new ≡ PLACES
  pub registers : (register : ℕ) → register < PLACES
      → slice_index new register ≡ highest scene (last_of register law) (slice_index scene.regs register)

-- the one permitted answer with each Pick at its high
pub record IsHigh (law : List Change) (scene : Scene) (new : List ℕ) (deeds : List Deed) : Type 0 where
  pub highest : IsAtHighest law scene new
  pub emits : deeds ≡ emitted law scene new

-- that a register may hold a value is known in one way at most
pub Allows-prop : (scene : Scene) (change : Option Change) (old new : ℕ) → IsProp (Allows scene change old new)
Allows-prop scene None old new = Coded-set coded_ℕ _ _
Allows-prop scene (Some (Set number term)) old new = Coded-set coded_ℕ _ _
Allows-prop scene (Some (Pick number low high)) old new = ×_prop le_prop le_prop
Allows-prop scene (Some (Emit code terms)) old new = Coded-set coded_ℕ _ _
Allows-prop scene (Some (EmitIf test code terms)) old new = Coded-set coded_ℕ _ _

-- numbers, and lists of them, are equal in one way at most
numbers_set : IsSet (List ℕ)
numbers_set = Coded-set (coded_list coded_ℕ)

number_set : IsSet ℕ
number_set = Coded-set coded_ℕ

deed_set : IsSet Deed
deed_set = hlevel (numbers_set, number_set)

-- that a law permits an answer is known in one way at most
pub Permits-prop :
    (law : List Change) (scene : Scene) (new : List ℕ) (deeds : List Deed) → IsProp (Permits law scene new deeds)
Permits-prop law scene new deeds = hlevel (Allows-prop, is_set deed_set, numbers_set)
