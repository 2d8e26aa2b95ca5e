-- What a guard answers by its law.
use Rattle.std.specs.Prelude.{ℕ, ◌==◌, Bool, not, List, nat_lt, nat_le}
use Rattle.std.specs.List.{list_any, list_all}
use Rattle.tab_law.specs.Values.{place_at, atom_value}
use Rattle.tab_law.specs.declared.scene.Scene.{Scene}
use Rattle.tab_law.specs.declared.law.Field.{Field}
use Rattle.tab_law.specs.declared.law.Field.TheVariants.{Register, Fact}
use Rattle.tab_law.specs.declared.law.Test.{Test}
use Rattle.tab_law.specs.declared.law.Test.TheVariants.{Equal, Differing, Below, AtLeast, Among}

-- the number that a field holds
abbrev pub field_value : Scene → Field → ℕ
field_value scene (Register number) = place_at scene.regs number
field_value scene (Fact number) = place_at scene.facts number

-- whether a test is met on a scene
abbrev pub is_met : Scene → Test → Bool
is_met scene (Equal field atom) = field_value scene field == atom_value scene scene.regs atom
is_met scene (Differing field atom) = not (field_value scene field == atom_value scene scene.regs atom)
is_met scene (Below field atom) = nat_lt (field_value scene field) (atom_value scene scene.regs atom)
is_met scene (AtLeast field atom) = nat_le (atom_value scene scene.regs atom) (field_value scene field)
is_met scene (Among field numbers) = list_any (λ number. number == field_value scene field) numbers

-- a guard says yes on a scene where all its tests are met
abbrev pub says_yes : List Test → Scene → Bool
says_yes law scene = list_all (is_met scene) law
