-- What a call that makes a role's laws and registers them answers.
use Rattle.std.specs.Prelude.{List, Result, Err}
use Rattle.tab_law.specs.Books.{Laws}
use Rattle.tab_law.specs.declared.law.Test.{Test}
use Rattle.tab_law.specs.declared.law.Change.{Change}
use Rattle.tab_role.specs.declared.error.RegisterError.{RegisterError}
use Rattle.tab_role.specs.declared.error.RegisterError.TheVariants.{NoMemory}
use Rattle.tab_role.specs.Roles.{IsAnswer}

-- want of memory, which may come first, or what registering the laws answers
abbrev pub IsToldOf : Laws → Laws → List (List Test) → List (List Change) → Result (Unit {0}) RegisterError → Type 0
IsToldOf role there asked done (Err NoMemory) = Unit {0}
IsToldOf role there asked done result = IsAnswer role there asked done result
