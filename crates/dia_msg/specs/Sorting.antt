-- What sorting says of the AVPs where they were read.
use Rattle.std.specs.Prelude.{◌≡◌, ◌≤◌, ◌<◌, ℕ, true, List, length, map, slice_get, get_or, Option, None, Some, is_some}
use Rattle.std.specs.List.{flat_map}
use Rattle.std.specs.Option.{option_to_list}
use Rattle.dia_avp.specs.declared.avp.Avp.{Avp}
use Rattle.dia_avp.specs.declared.avp.AvpView.{AvpView}
use Rattle.dia_avp.specs.View.{seen}
use Rattle.dia_command.specs.declared.format.AvpFormat.{AvpFormat}
use Rattle.dia_msg.specs.declared.sorting.Sorted.{Sorted}
use Rattle.dia_msg.specs.Taken.{is_for, first_of, untaken}

-- AVPs as values
abbrev pub seen_all : List AvpView → List Avp
seen_all views = map seen views

-- the entry at a place is for an AVP
abbrev pub IsEntry : List AvpFormat → Avp → ℕ → Type 0
IsEntry formats a k = (k < length formats) × ((d : AvpFormat) → is_for (get_or formats k d) a ≡ true)

-- the AVP at a place, and those at several
abbrev pub placed : List Avp → Option ℕ → Option Avp
placed list None = None
placed list (Some place) = slice_get list place

abbrev pub all_placed : List Avp → List ℕ → List Avp
all_placed list places = flat_map (λ p. option_to_list (slice_get list p)) places

-- the AVPs in front are sorted: at the place of each entry its first AVP, and in order those that no entry takes
pub record Sorts (formats : List AvpFormat) (list : List Avp) (front : List Avp) (s : Sorted) : Type 0 where
  pub firsts : (k : ℕ) (f : AvpFormat)
      → slice_get formats k ≡ Some f → placed list (get_or s.firsts k None) ≡ first_of f.code front
  pub there : (k : ℕ) (f : AvpFormat)
      → slice_get formats k ≡ Some f → is_some (get_or s.firsts k None) ≡ is_some (first_of f.code front)
  pub rest : all_placed list s.rest.items ≡ untaken formats front
  pub few : length s.rest.items ≤ length front

-- all AVPs are
abbrev pub IsSorted : List AvpFormat → List Avp → Sorted → Type 0
IsSorted formats list s = Sorts formats list list s
