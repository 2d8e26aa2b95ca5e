-- The graph of a table, in the language of Graphviz.
use Rattle.std.specs.Prelude.{ℕ, ◌==◌, ◌&&◌, Bool, List, [], ◌++◌, codes, if◌then◌else◌}
use Rattle.std.specs.List.{enumerate_from, flat_map, list_any}
use Rattle.tab_text.specs.Contents.{Contents}
use Rattle.tab_text.specs.declared.row.Row.{Row}
use Rattle.tab_draw.specs.Labels.{label}

-- what stands before the states: how states and edges are drawn
abbrev pub head : List ℕ
head =
    codes "digraph table {\n  graph [ranksep=0.8, nodesep=0.4];\n"
    ++ codes "  node [shape=box, style=rounded, fontname=\"Helvetica\", fontsize=12];\n"
    ++ codes "  edge [fontname=\"Helvetica\", fontsize=10];\n"

-- a row that goes from a state to a state
abbrev pub goes : ℕ → ℕ → Row → Bool
goes from to row = (row.state == from) && (row.next == to)

-- the line of a row that goes from a state to a state: a blank, its label, and `\l` behind it
unfoldable pub row_line : Contents → ℕ → ℕ → ℕ × Row → List ℕ
row_line table from to numbered =
    if goes from to numbered.1 then codes " " ++ label table numbered ++ codes "\\l" else []

-- a state: its name, and a line for each row that stays in it, in order
unfoldable pub box_text : Contents → ℕ × List ℕ → List ℕ
box_text table (state, name) =
    codes "  \"" ++ name ++ codes "\" [label=\"" ++ name ++ codes "\\n"
    ++ flat_map (row_line table state state) (enumerate_from 0 table.rows)
    ++ codes "\"];\n"

-- a line for each row of an arrow, in order; those of an arrow from a state to itself stand in the box
unfoldable pub arrow_label : Contents → ℕ → ℕ → List ℕ
arrow_label table from to =
    if from == to then []
    else codes " [label=\"" ++ flat_map (row_line table from to) (enumerate_from 0 table.rows) ++ codes "\"]"

-- the arrow from a state to a state, one for all rows that go so
unfoldable pub arrow : Contents → ℕ × List ℕ → ℕ × List ℕ → List ℕ
arrow table (from, from_name) (to, to_name) =
    if list_any (goes from to) table.rows
    then codes "  \"" ++ from_name ++ codes "\" -> \"" ++ to_name ++ codes "\"" ++ arrow_label table from to
    ++ codes ";\n"
    else []

-- the arrows that begin at a state, by where they end
unfoldable pub arrows_from : Contents → ℕ × List ℕ → List ℕ
arrows_from table from = flat_map (arrow table from) (enumerate_from 0 table.states)

-- the graph of a table: its states in order, and then the arrows that begin at each
unfoldable pub drawing : Contents → List ℕ
drawing table =
    head ++ flat_map (box_text table) (enumerate_from 0 table.states)
    ++ flat_map (arrows_from table) (enumerate_from 0 table.states) ++ codes "}\n"
