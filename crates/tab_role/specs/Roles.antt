-- How the laws of a role come into a registry.
use Rattle.std.specs.Prelude.{◌≡◌, ℕ, ◌+◌, ◌++◌, ◌||◌, Bool, true, false, List, map}
use Rattle.std.specs.Prelude.{take, length, nat_lt, is_some, Result, Ok, Err}
use Rattle.std.specs.List.{list_any}
use Rattle.base_list.specs.declared.named.Named.{Named}
use Rattle.base_list.specs.Named.{place_of}
use Rattle.tab_law.specs.Books.{Laws}
use Rattle.tab_law.specs.declared.law.Test.{Test}
use Rattle.tab_law.specs.declared.law.Change.{Change}
use Rattle.tab_law.specs.declared.limits.TheConstants.{MAX_KINDS, MAX_GUARDS, MAX_ACTIONS}
use Rattle.tab_role.specs.declared.error.RegisterError.{RegisterError}
use Rattle.tab_role.specs.declared.error.RegisterError.TheVariants as errors

-- callbacks that keep these laws, in order, are those of a role
pub record AreCallsOf (role : Laws) (asked : List (List Test)) (done : List (List Change)) : Type 0 where
  pub guards : asked ≡ map (λ entry. entry.value) role.guards
  pub acts : done ≡ map (λ entry. entry.value) role.acts

-- whether a name of a list is there already
abbrev pub is_any_taken : {T : Type 0} → List (Named T) → List (Named T) → Bool
is_any_taken more there = list_any (λ entry. is_some (place_of entry.name there)) more

-- whether a name of a role is in a registry already, in its list
abbrev pub is_taken : Laws → Laws → Bool
is_taken role there =
    is_any_taken role.kinds there.kinds || is_any_taken role.guards there.guards || is_any_taken role.acts there.acts

-- whether a list with more at its end would pass a limit
abbrev pub is_over : {T : Type 0} → ℕ → List (Named T) → List (Named T) → Bool
is_over limit more there = nat_lt limit (length there + length more)

-- whether a list of a registry would pass its limit
abbrev pub is_full : Laws → Laws → Bool
is_full role there =
    is_over MAX_KINDS role.kinds there.kinds || is_over MAX_GUARDS role.guards there.guards
    || is_over MAX_ACTIONS role.acts there.acts

-- a registry with a role behind what was there
abbrev pub joined : Laws → Laws → Laws
joined role there = record {
  kinds = there.kinds ++ role.kinds;
  guards = there.guards ++ role.guards;
  acts = there.acts ++ role.acts;
}

-- the callbacks are those of the role, and each of its names is free, and there is room
pub record IsFree (role there : Laws) (guards : List (List Test)) (acts : List (List Change)) : Type 0 where
  pub calls : AreCallsOf role guards acts
  pub free : is_taken role there ≡ false
  pub room : is_full role there ≡ false

-- what a call answers: the first error that holds, and want of memory only where none does
abbrev pub IsAnswer : Laws → Laws → List (List Test) → List (List Change) → Result (Unit {0}) RegisterError → Type 0
IsAnswer role there guards acts (Ok done) = IsFree role there guards acts
IsAnswer role there guards acts (Err errors.NoMemory) = IsFree role there guards acts
IsAnswer role there guards acts (Err errors.Laws) = ¬ AreCallsOf role guards acts
IsAnswer role there guards acts (Err errors.Taken) = AreCallsOf role guards acts × (is_taken role there ≡ true)
IsAnswer role there guards acts (Err errors.Full) =
    AreCallsOf role guards acts × (is_taken role there ≡ false) × (is_full role there ≡ true)

-- a registry whose lists begin with what was there
pub record IsOnto (old new : Laws) : Type 0 where
  pub kinds : take (length old.kinds) new.kinds ≡ old.kinds
  pub guards : take (length old.guards) new.guards ≡ old.guards
  pub acts : take (length old.acts) new.acts ≡ old.acts
