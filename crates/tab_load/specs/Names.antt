-- The names of an image.
use Rattle.std.specs.Prelude.{◌≡◌, ℕ, ◌+◌, ◌<◌, ◌≤◌, ◌||◌, not, nat_lt, Bool, true, false, List, [], ◌++◌, Option}
use Rattle.std.specs.Prelude.{Some, None, is_none, map, length, take, drop, slice_index_or, if◌then◌else◌}
use Rattle.std.specs.List.{flat_map, list_any}
use Rattle.std.specs.Str.{bytes_eq}
use Rattle.base_list.specs.Named.{place_of}
use Rattle.base_list.specs.declared.named.Named.{Named}
use Rattle.tab_text.specs.Names.{is_name}
use Rattle.tab_asm.specs.Images.{name_octets}
use Rattle.tab_load.specs.Code.{EachAfter}
use Rattle.tab_load.specs.Faults.{at_of}
use Rattle.tab_load.specs.declared.fault.ImageFault.{ImageFault}
use Rattle.tab_load.specs.declared.fault.ImageFault.TheVariants.{Cut, Name, Unbound}

-- the place of a name among those of a book; names that aren't bound, those of states, are in no book
abbrev pub place_in : {T : Type 0} → Bool → List (Named T) → List ℕ → Option ℕ
place_in true entries name = place_of name entries
place_in false entries name = Some 0

-- what is wrong with a name behind others: it isn't spelled as names are, or is there already, or the book lacks it
abbrev pub name_fault : {T : Type 0} → Bool → List (Named T) → List (List ℕ) → List ℕ → Option ImageFault
name_fault bound entries before name =
    if not (is_name name) || list_any (λ other. bytes_eq other name) before then Some Name
    else if is_none (place_in bound entries name) then Some Unbound else None

-- what is wrong with octets that are to begin with a name: they are cut off, or what is wrong with the name
abbrev pub next_fault : {T : Type 0} → Bool → List (Named T) → List (List ℕ) → List ℕ → Option ImageFault
next_fault bound entries before octets =
    if nat_lt (length octets) (1 + slice_index_or octets 0 0) then Some Cut
    else name_fault bound entries before (take (slice_index_or octets 0 0) (drop 1 octets))

-- nothing is wrong with each of these names
abbrev pub AreNames : {T : Type 0} → Bool → List (Named T) → List (List ℕ) → Type 0
AreNames bound entries names = EachAfter (λ before name. name_fault bound entries before name ≡ None) [] names

-- the first name that is wrong of a list of that many, which begins there in the image
pub record NamesWrong
    {T : Type 0} (bound : Bool) (entries : List (Named T)) (octets : List ℕ) (begin count at : ℕ) (fault : ImageFault)
    : Type 0 where
  pub before : List (List ℕ)
  pub few : length before < count
  pub fine : AreNames bound entries before
  pub part : ℕ
  pub front : take part octets ≡ take begin octets ++ flat_map name_octets before
  pub inside : part ≤ length octets
  pub wrong : next_fault bound entries before (drop part octets) ≡ Some fault
  pub place : at ≡ at_of fault part (length octets)

-- the names of a list of that many, which begins there in the image and ends there, and their places in a book
pub record NamesOf
    {T : Type 0} (bound : Bool) (entries : List (Named T)) (octets : List ℕ) (begin count end : ℕ)
    (names : List (List ℕ)) (places : List ℕ) : Type 0 where
  pub fine : AreNames bound entries names
  pub many : length names ≡ count
  pub front : take end octets ≡ take begin octets ++ flat_map name_octets names
  pub inside : end ≤ length octets
  pub placed : map (place_in bound entries) names ≡ map Some places
