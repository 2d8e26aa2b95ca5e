-- Books of laws: kinds of events, guards and actions under their names.
use Rattle.std.specs.Prelude.{◌≤◌, ℕ, Bool, false, List, length, IsSomeAnd}
use Rattle.std.specs.List.{slice_get}
use Rattle.std.specs.Option.{option_map_or}
use Rattle.tab_law.specs.Guards.{says_yes}
use Rattle.base_list.specs.Named.{entry_of, HasOwnNames}
use Rattle.tab_law.specs.Acts.{Permits}
use Rattle.tab_law.specs.declared.limits.TheConstants.{MAX_KINDS, MAX_GUARDS, MAX_ACTIONS}
use Rattle.tab_law.specs.declared.scene.Scene.{Scene}
use Rattle.tab_law.specs.declared.scene.Deed.{Deed}
use Rattle.tab_law.specs.declared.law.Test.{Test}
use Rattle.tab_law.specs.declared.law.Change.{Change}
use Rattle.base_list.specs.declared.named.Named.{Named}

-- the laws of a book: kinds of events, guards and actions, each under its name, in order of adding
pub record Laws : Type 0 where
  pub kinds : List (Named (Unit {0}))
  pub guards : List (Named (List Test))
  pub acts : List (Named (List Change))

-- a book's names differ, and it is within the limits
pub record IsBook (laws : Laws) : Type 0 where
  pub kinds_named : HasOwnNames laws.kinds
  pub guards_named : HasOwnNames laws.guards
  pub acts_named : HasOwnNames laws.acts
  pub few_kinds : length laws.kinds ≤ MAX_KINDS
  pub few_guards : length laws.guards ≤ MAX_GUARDS
  pub few_acts : length laws.acts ≤ MAX_ACTIONS

-- what the guard at a place answers by its law
abbrev pub guard_answer : Laws → Scene → ℕ → Bool
guard_answer laws scene place = option_map_or (λ entry. says_yes entry.value scene) (slice_get laws.guards place) false

-- the action at a place may leave these registers and these deeds
abbrev pub ActPermits : Laws → ℕ → Scene → List ℕ → List Deed → Type 0
ActPermits laws place scene new deeds =
    IsSomeAnd (slice_get laws.acts place) (λ entry. Permits entry.value scene new deeds)

-- what the guard of a name answers by its law
abbrev pub named_answer : Laws → Scene → List ℕ → Bool
named_answer laws scene name = option_map_or (λ entry. says_yes entry.value scene) (entry_of name laws.guards) false

-- the action of a name may leave these registers and these deeds
abbrev pub NamedPermits : Laws → List ℕ → Scene → List ℕ → List Deed → Type 0
NamedPermits laws name scene new deeds =
    IsSomeAnd (entry_of name laws.acts) (λ entry. Permits entry.value scene new deeds)
