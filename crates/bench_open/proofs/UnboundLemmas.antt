-- The first name that laws lack.
use Rattle.std.proofs.Common.{◌≡◌, ◌+◌, ◌<◌, ℕ, List, [], ◌∷◌, ◌++◌, Some, None, ap, get_or, length, map, sym, take, ◌∙◌}
use Rattle.std.specs.Prelude.{slice_get}
use Rattle.std.specs.List.{flat_map}
use Rattle.std.proofs.lemmas.List.{take_more}
use Rattle.tab_law.specs.Books.{Laws}
use Rattle.tab_step.specs.Bind.{lacking, lacking_in}
use Rattle.tab_step.specs.Moves.{name_at}
use Rattle.tab_step.proofs.BindLemmas.{first-append, flat_map-more}
use Rattle.tab_text.specs.Contents.{Contents}
use Rattle.tab_text.specs.declared.row.Row.{Row}
use Rattle.bench_open.proofs.ListLemmas.{first-of_right, none-first}

-- in the second of three lists, and in the third
second : {X : Type 0} (a b c : List X) (x : X) → slice_get a 0 ≡ None → slice_get b 0 ≡ Some x → slice_get (a ++ b ++ c) 0 ≡ Some x
second a b c x none is = first-append (a ++ b) c x (first-of_right a b none ∙ is)

third : {X : Type 0} (a b c : List X) → slice_get a 0 ≡ None → slice_get b 0 ≡ None → slice_get (a ++ b ++ c) 0 ≡ slice_get c 0
third a b c none also = first-of_right (a ++ b) c (first-of_right a b none ∙ also)

-- the first name of a row
pub row-guards : (laws : Laws) (table : Contents) (row : Row) (name : List ℕ) → slice_get (lacking laws.kinds (map (name_at table.kinds) (row.kind ∷ []))) 0 ≡ None
    → slice_get (lacking laws.guards (map (name_at table.guards) row.guards)) 0 ≡ Some name → Some name ≡ slice_get (lacking_in laws table row) 0
row-guards laws table row name none is =
    sym (second (lacking laws.kinds (map (name_at table.kinds) (row.kind ∷ []))) (lacking laws.guards (map (name_at table.guards) row.guards)) (lacking laws.acts (map (name_at table.actions) row.actions)) name none is)

pub row-actions : (laws : Laws) (table : Contents) (row : Row) → slice_get (lacking laws.kinds (map (name_at table.kinds) (row.kind ∷ []))) 0 ≡ None
    → slice_get (lacking laws.guards (map (name_at table.guards) row.guards)) 0 ≡ None
    → slice_get (lacking laws.acts (map (name_at table.actions) row.actions)) 0 ≡ slice_get (lacking_in laws table row) 0
row-actions laws table row none also =
    sym (third (lacking laws.kinds (map (name_at table.kinds) (row.kind ∷ []))) (lacking laws.guards (map (name_at table.guards) row.guards)) (lacking laws.acts (map (name_at table.actions) row.actions)) none also)

-- one more row that gives none
pub rows-more : (laws : Laws) (table : Contents) (rows : List Row) (i : ℕ) (d : Row) → i < length rows → flat_map (lacking_in laws table) (take i rows) ≡ []
    → slice_get (lacking_in laws table (get_or rows i d)) 0 ≡ None → flat_map (lacking_in laws table) (take (i + 1) rows) ≡ []
rows-more laws table rows i d within so_far none =
    ap (flat_map (lacking_in laws table)) (take_more rows i d within)
    ∙ flat_map-more (lacking_in laws table) (take i rows) (get_or rows i d) so_far (none-first (lacking_in laws table (get_or rows i d)) none)
