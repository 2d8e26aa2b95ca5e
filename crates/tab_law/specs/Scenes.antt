-- Scenes and deeds as memory holds them.
use Rattle.std.specs.Prelude.{◌≡◌, length}
use Rattle.tab_law.specs.declared.scene.Scene.{Scene}
use Rattle.tab_law.specs.declared.scene.Deed.{Deed}
use Rattle.tab_law.specs.declared.limits.TheConstants.{PLACES}

-- a scene has all its places, as one in memory does
pub record IsScene (scene : Scene) : Type 0 where
  pub regs_len : length scene.regs ≡ PLACES
  pub facts_len : length scene.facts ≡ PLACES

-- a deed has all its places, as one in memory does
abbrev pub IsDeed : Deed → Type 0
IsDeed deed = length deed.a ≡ PLACES
