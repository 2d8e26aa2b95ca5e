use Rattle.std.proofs.Common.{◌≡◌, ℕ, List, Option, Some, None, arith}
use Rattle.tab_law.specs.Acts.{Allows, highest, Permits, IsHigh, last_of}
use Rattle.tab_law.specs.declared.scene.Scene.{Scene}
use Rattle.tab_law.specs.declared.scene.Deed.{Deed}
use Rattle.tab_law.specs.declared.law.Change.{Change}
use Rattle.tab_law.specs.declared.law.Change.TheVariants.{Set, Pick, Emit, EmitIf}

-- the greatest value is one that is allowed
Allows-highest : (scene : Scene) (change : Option Change) (old new : ℕ) → new ≡ highest scene change old → Allows scene change old new
Allows-highest scene None old new e = e
Allows-highest scene (Some (Set number term)) old new e = e
Allows-highest scene (Some (Pick number low high)) old new e = (omega arith, omega arith)
Allows-highest scene (Some (Emit code terms)) old new e = e
Allows-highest scene (Some (EmitIf test code terms)) old new e = e

-- the high answer is permitted
pub IsHigh-permits : (law : List Change) (scene : Scene) (new : List ℕ) (deeds : List Deed) → IsHigh law scene new deeds → Permits law scene new deeds
IsHigh-permits law scene new deeds h = record {
  registers = λ register below. Allows-highest scene (last_of register law) _ _ (h.highest.registers register below);
  emits = h.emits;
}
