-- Values under names, as lists.
use Rattle.std.specs.Prelude.{◌≢◌, ℕ, List, Option, Some, None, AllPairs, length, nat_le}
use Rattle.std.specs.Prelude.{position, is_some, if◌then◌else◌}
use Rattle.std.specs.List.{find}
use Rattle.std.specs.Str.{bytes_eq}
use Rattle.base_list.specs.declared.named.Named.{Named}
use Rattle.base_list.specs.declared.error.AddFault.{AddFault}
use Rattle.base_list.specs.declared.error.AddFault.TheVariants.{Taken, Full}

-- the place of a name in a list
abbrev pub place_of : {T : Type 0} → List ℕ → List (Named T) → Option ℕ
place_of name entries = position (λ entry. bytes_eq entry.name name) entries

-- what stands under a name in a list
abbrev pub entry_of : {T : Type 0} → List ℕ → List (Named T) → Option (Named T)
entry_of name entries = find (λ entry. bytes_eq entry.name name) entries

-- why a name may not be added, memory aside: it is taken, or else the list is full
abbrev pub refusal : {T : Type 0} → ℕ → List ℕ → List (Named T) → Option AddFault
refusal limit name entries =
    if is_some (place_of name entries) then Some Taken else if nat_le limit (length entries) then Some Full else None

-- no two of a list have one name
abbrev pub HasOwnNames : {T : Type 0} → List (Named T) → Type 0
HasOwnNames entries = AllPairs (λ one other. one.name ≢ other.name) entries
