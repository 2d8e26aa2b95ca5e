-- What binds a table to a book is known in one way at most.
use Rattle.std.specs.Prelude.{ℕ, List, [], ◌∷◌, Option}
use Rattle.std.specs.List.{AllZip}
use Rattle.std.specs.Coded.{×_prop, Coded-set, coded_ℕ, coded_list, coded_option}
use Rattle.tab_law.specs.Books.{Laws}
use Rattle.tab_text.specs.Contents.{Contents}
use Rattle.tab_text.specs.declared.row.Row.{Row}
use Rattle.tab_step.specs.declared.bound.RowPlaces.{RowPlaces}
use Rattle.tab_step.specs.Bind.{BoundTable, IsPlacesOf, IsBoundTo}

place_set : IsSet (Option ℕ)
place_set = Coded-set (coded_option coded_ℕ)

places_set : IsSet (List (Option ℕ))
places_set = Coded-set (coded_list (coded_option coded_ℕ))

-- that names stand at places is known in one way at most
IsPlacesOf-prop : (laws : Laws) (table : Contents) (row : Row) (places : RowPlaces)
    → IsProp (IsPlacesOf laws table row places)
IsPlacesOf-prop laws table row places = hlevel (place_set, places_set)

AllZip-prop : {A B : Type 0} (R : A → B → Type 0)
    → ((x : A) (y : B) → IsProp (R x y)) → (xs : List A) (ys : List B) → IsProp (AllZip R xs ys)
AllZip-prop R each [] [] = hlevel
AllZip-prop R each [] (y ∷ ys) = hlevel
AllZip-prop R each (x ∷ xs) [] = hlevel
AllZip-prop R each (x ∷ xs) (y ∷ ys) = ×_prop (each x y) (AllZip-prop R each xs ys)

-- that a table is bound to laws is known in one way at most
pub IsBoundTo-prop : (bound : BoundTable) (laws : Laws) → IsProp (IsBoundTo bound laws)
IsBoundTo-prop bound laws =
    AllZip-prop (IsPlacesOf laws bound.table) (IsPlacesOf-prop laws bound.table) bound.table.rows bound.places
