use Rattle.std.proofs.Common.{◌≡◌, Bool, true, false, List, [], ◌∷◌, ◌++◌, refl, ap}
use Rattle.text_parts.specs.Lines.{Line, is_more, more_lines}
use Rattle.tab_text.specs.Cells.{row_cells, groups}
use Rattle.tab_text.specs.Faults.{is_empty}
use Rattle.tab_text.specs.declared.header.Columns.{Columns}

pub cells-line : (columns : Columns) (line : Line) (more : List Line) → (row_cells columns line more).line ≡ line.number
unfolding row_cells
cells-line columns line more = refl

pub more-row : (line : Line) (rest : List Line) → is_more line.octets ≡ false → more_lines (line ∷ rest) ≡ []
more-row line rest m = rw m refl

pub more-goes_on : (line : Line) (rest : List Line) → is_more line.octets ≡ true → more_lines (line ∷ rest) ≡ line ∷ more_lines rest
more-goes_on line rest m = rw m refl

-- lines that continue a row begin none
none-by : (columns : Columns) (line : Line) (rest : List Line) (more : Bool) → is_more line.octets ≡ more → groups columns (more_lines rest) ≡ [] → groups columns (more_lines (line ∷ rest)) ≡ []
none-by columns line rest true m none = rw (m, m) none
none-by columns line rest false m none = rw m refl

pub groups-none : (columns : Columns) (all : List Line) → groups columns (more_lines all) ≡ []
groups-none columns [] = refl
groups-none columns (line ∷ rest) = none-by columns line rest (is_more line.octets) refl (groups-none columns rest)

twice-by : (line : Line) (rest : List Line) (more : Bool) → is_more line.octets ≡ more → more_lines (more_lines rest) ≡ more_lines rest → more_lines (more_lines (line ∷ rest)) ≡ more_lines (line ∷ rest)
twice-by line rest true m same = rw (m, m, same) refl
twice-by line rest false m same = rw m refl

more-twice : (all : List Line) → more_lines (more_lines all) ≡ more_lines all
more-twice [] = refl
more-twice (line ∷ rest) = twice-by line rest (is_more line.octets) refl (more-twice rest)

-- a line that begins a row ends what continues the row before it
append-by : (first : Line) (front : List Line) (line : Line) (rest : List Line) (more : Bool) → is_more first.octets ≡ more → more_lines (front ++ line ∷ rest) ≡ more_lines front → more_lines (first ∷ front ++ line ∷ rest) ≡ more_lines (first ∷ front)
append-by first front line rest true m same = rw (m, same) refl
append-by first front line rest false m same = rw m refl

more-append : (front : List Line) (line : Line) (rest : List Line) → is_more line.octets ≡ false → more_lines (front ++ line ∷ rest) ≡ more_lines front
more-append [] line rest m = more-row line rest m
more-append (first ∷ front) line rest m = append-by first front line rest (is_more first.octets) refl (more-append front line rest m)

row-by : (columns : Columns) (first : Line) (body : List Line) (line : Line) (rest : List Line) (more : Bool) → is_more first.octets ≡ more → is_more line.octets ≡ false → groups columns (body ++ line ∷ more_lines rest) ≡ groups columns body ++ row_cells columns line (more_lines rest) ∷ [] → groups columns (first ∷ body ++ line ∷ more_lines rest) ≡ groups columns (first ∷ body) ++ row_cells columns line (more_lines rest) ∷ []
row-by columns first body line rest true m l same = rw m same
row-by columns first body line rest false m l same = rw (m, more-append body line (more_lines rest) l, same) refl

-- a line that begins a row, with those that continue it, is one more row
pub groups-row : (columns : Columns) (body : List Line) (line : Line) (rest : List Line) → is_more line.octets ≡ false → groups columns (body ++ line ∷ more_lines rest) ≡ groups columns body ++ row_cells columns line (more_lines rest) ∷ []
groups-row columns [] line rest m = rw (m, more-twice rest, groups-none columns rest) refl
groups-row columns (first ∷ body) line rest m = row-by columns first body line rest (is_more first.octets) refl m (groups-row columns body line rest m)

more-by : (columns : Columns) (first : Line) (body rest : List Line) (more : Bool) → is_more first.octets ≡ more → is_empty (groups columns (body ++ more_lines rest)) ≡ is_empty (groups columns body) → is_empty (groups columns (first ∷ body ++ more_lines rest)) ≡ is_empty (groups columns (first ∷ body))
more-by columns first body rest true m same = rw m same
more-by columns first body rest false m same = rw m refl

-- lines that continue a row make no row
pub groups-more : (columns : Columns) (body rest : List Line) → is_empty (groups columns (body ++ more_lines rest)) ≡ is_empty (groups columns body)
groups-more columns [] rest = ap is_empty (groups-none columns rest)
groups-more columns (first ∷ body) rest = more-by columns first body rest (is_more first.octets) refl (groups-more columns body rest)
