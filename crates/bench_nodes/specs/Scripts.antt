-- The lines of a script of several nodes: what they ask for, and what is done.
use Rattle.std.specs.Prelude.{◌≡◌, ℕ, List, [], ◌∷◌, ◌++◌, drop, is_none, option_map, position, Option, Some, None}
use Rattle.std.specs.Prelude.{codes, slice_get, if◌then◌else◌}
use Rattle.std.specs.List.{filter_map, find}
use Rattle.std.specs.Option.{option_and_then}
use Rattle.std.specs.Str.{bytes_eq}
use Rattle.bench_script.specs.Ran.{Does}
use Rattle.script_text.specs.RunLines.{first_bad_run, run_script_of}
use Rattle.script_text.specs.Scripts.{asking}
use Rattle.script_text.specs.declared.run_line.RunLine.{RunLine}
use Rattle.step_text.specs.Names.{shown}
use Rattle.tab_law.specs.Books.{Laws}
use Rattle.text_parts.specs.Lines.{Line, lines}
use Rattle.text_parts.specs.Words.{Word, words}
use Rattle.bench_nodes.specs.Acts.{ActsAt}
use Rattle.bench_nodes.specs.Settled.{AllSettle, Net}
use Rattle.bench_nodes.specs.declared.node.Node.{Node}
use Rattle.bench_nodes.specs.declared.script.NodeLine.{NodeLine}
use Rattle.bench_nodes.specs.declared.script.NodeLine.TheVariants as of

-- the first node whose host is this word
abbrev pub node_named : List Node → List ℕ → Option ℕ
node_named nodes word = position (λ node. bytes_eq (shown node.host) word) nodes

-- what a text asks for as a script of one line
abbrev pub if_good : Option ℕ → List RunLine → Option RunLine
if_good None asked = slice_get asked 0
if_good (Some line) asked = None

unfoldable pub own_line : Laws → List ℕ → Option RunLine
own_line laws text = if_good (first_bad_run laws text) (run_script_of laws text)

-- what is asked of the node of a place
abbrev pub asked_at : List Node → ℕ → List ℕ → Option NodeLine
asked_at nodes at text =
    option_map (of.At at)
    (option_and_then (λ (node : Node). own_line node.core.settings.node.laws text) (slice_get nodes at))

-- what words ask for: `settle` alone of all nodes, and what stands behind a host of the node of that host
abbrev pub asked_by : List Node → (line : List ℕ) → List Word → Option NodeLine
asked_by nodes line [] = None
asked_by nodes line (word ∷ []) = if bytes_eq word.octets (codes "settle") then Some of.Settle else None
asked_by nodes line (host ∷ verb ∷ others) =
    option_and_then (λ at. asked_at nodes at (drop verb.at line)) (node_named nodes host.octets)

unfoldable pub node_line_of : List Node → List ℕ → Option NodeLine
node_line_of nodes line = asked_by nodes line (words line)

abbrev pub node_lines_in : List Node → List Line → List NodeLine
node_lines_in nodes all = filter_map (λ line. node_line_of nodes line.octets) (asking all)

abbrev pub bad_node_line_in : List Node → List Line → Option ℕ
bad_node_line_in nodes all =
    option_map (λ line. line.number) (find (λ line. is_none (node_line_of nodes line.octets)) (asking all))

-- what a script asks for, in order
abbrev pub nodes_script_of : List Node → List ℕ → List NodeLine
nodes_script_of nodes text = node_lines_in nodes (lines text)

-- the first of its lines that has another form
abbrev pub first_bad_node_line : List Node → List ℕ → Option ℕ
first_bad_node_line nodes text = bad_node_line_in nodes (lines text)

-- a line was done at a node, if it is there
abbrev pub DoesThere : Option Node → Net → (at : ℕ) → RunLine → Net → Type 0
DoesThere None old at line new = new ≡ old
DoesThere (Some node) old at line new =
    ActsAt (λ run run' text. Does run line run' text) at old.nodes old.out new.nodes new.out × (new.links ≡ old.links)

-- what a line asks for was done
abbrev pub DoesLine : (cut : ℕ) → Net → NodeLine → Net → Type 0
DoesLine cut old (of.At at line) new = DoesThere (slice_get old.nodes at) old at line new
DoesLine cut old of.Settle new = AllSettle cut old new

-- lines were done, one after the other
pub data DoesLines (cut : ℕ) (old : Net) : List NodeLine → Net → Type 0 where
  nothing : DoesLines cut old [] old
  one_more : (mid new : Net) (lines : List NodeLine) (line : NodeLine)
      → DoesLines cut old lines mid → DoesLine cut mid line new → DoesLines cut old (lines ++ line ∷ []) new

-- they were, from where no nodes are connected; which connections there are behind them
pub record RunsLines
    (cut : ℕ) (nodes : List Node) (out : List ℕ) (lines : List NodeLine)
    (nodes' : List Node) (out' : List ℕ) : Type 0 where
  pub behind : Net
  pub does : DoesLines cut (record { nodes = nodes; links = []; out = out }) lines behind
  pub nodes_are : behind.nodes ≡ nodes'
  pub out_is : behind.out ≡ out'
