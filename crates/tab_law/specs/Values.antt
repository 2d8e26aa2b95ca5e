-- The values of atoms and terms on a scene.
use Rattle.std.specs.Prelude.{ℕ, ◌+◌, ◌-◌, ◌%◌, ◌^◌, List, slice_index, min}
use Rattle.tab_law.specs.declared.scene.Scene.{Scene}
use Rattle.tab_law.specs.declared.law.Atom.{Atom}
use Rattle.tab_law.specs.declared.law.Atom.TheVariants.{Constant, Register, Fact, NewRegister}
use Rattle.tab_law.specs.declared.law.Term.{Term}
use Rattle.tab_law.specs.declared.law.Term.TheVariants.{Just, Sum, Difference, Least}
use Rattle.tab_law.specs.declared.limits.TheConstants.{PLACES}

-- the value at a place whose number counts round
abbrev pub place_at : List ℕ → ℕ → ℕ
place_at places number = slice_index places (number % PLACES)

-- what an atom stands for on a scene, where an action leaves the registers as `new`
abbrev pub atom_value : Scene → List ℕ → Atom → ℕ
atom_value scene new (Constant value) = value
atom_value scene new (Register number) = place_at scene.regs number
atom_value scene new (Fact number) = place_at scene.facts number
atom_value scene new (NewRegister number) = place_at new number

-- what a term stands for there: sums stop at 2^64 - 1, differences at 0
abbrev pub term_value : Scene → List ℕ → Term → ℕ
term_value scene new (Just atom) = atom_value scene new atom
term_value scene new (Sum a b) = min (atom_value scene new a + atom_value scene new b) (2 ^ 64 - 1)
term_value scene new (Difference a b) = atom_value scene new a - atom_value scene new b
term_value scene new (Least a b) = min (atom_value scene new a) (atom_value scene new b)
