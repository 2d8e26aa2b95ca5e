-- What is told of nodes that are opened and of a script that is run on them.
use Rattle.std.specs.Prelude.{◌≡◌, ◌⊎◌, ℕ, Bool, true, false, List, [], ◌∷◌, ◌++◌, codes, is_some, map, replicate, take}
use Rattle.std.specs.Prelude.{Option, Some, None, option_map}
use Rattle.base_device.specs.Devices.{Tells}
use Rattle.base_device.specs.Inputs.{IsInput}
use Rattle.base_device.specs.Tellings.{told_status}
use Rattle.base_device.specs.declared.status.Status.{Status}
use Rattle.base_device.specs.declared.status.Status.TheVariants as statuses
use Rattle.bench_item.specs.declared.limit.TheConstants.{MAX_SHARDS}
use Rattle.bench_nodes.specs.Crossings.{first_in}
use Rattle.bench_nodes.specs.Scripts.{RunsLines, first_bad_node_line, nodes_script_of}
use Rattle.bench_nodes.specs.Told.{lines_told, totals_told}
use Rattle.bench_nodes.specs.declared.node.Node.{Node}
use Rattle.bench_nodes.specs.declared.script.NodeLine.{NodeLine}
use Rattle.bench_open.specs.Given.{config_of}
use Rattle.bench_open.specs.declared.config.Config as handed
use Rattle.bench_setup.specs.Setups.{AreSetupsFrom}
use Rattle.bench_setup.specs.declared.setups.Setup.{Setup}
use Rattle.bench_spec.specs.Opening.{Config, opening_refusal, settings_of}
use Rattle.bench_spec.specs.Taken.{opened}
use Rattle.role_tables.specs.Roles.{all_laws}
use Rattle.tab_law.specs.Books.{Laws}
use Rattle.cmd_bench.specs.Met.{TellsRefused}
use Rattle.cmd_bench.specs.declared.nodes.AllOpened.{AllOpened}
use Rattle.cmd_bench.specs.declared.nodes.AllOpened.TheVariants as all
use Rattle.cmd_bench.specs.declared.nodes.Ended.{Ended}
use Rattle.cmd_bench.specs.declared.nodes.Opened.{Opened}
use Rattle.cmd_bench.specs.declared.nodes.Opened.TheVariants as tried
use Rattle.bench_setup.specs.Opening.{opening_told}
use Rattle.cmd_bench.specs.Told.{bad_text, if_shown}
use Rattle.cmd_bench.specs.declared.shown.Shown.{Shown}

-- what a node's bench is opened with, of registries with these laws: the first of them, one for each shard
abbrev pub opened_by : List Laws → handed.Config → Config
opened_by books config = config_of config (take config.shards books)

-- a node of a CONFIG was opened: its host, whether it listens, its accounts, its bench
pub record IsOpenNode (books : List Laws) (setup : Setup) (node : Node) : Type 0 where
  pub could : opening_refusal (opened_by books setup.bench) ≡ None
  pub host : node.host ≡ setup.node.identity.host
  pub listens : node.listens ≡ is_some setup.node.listen
  pub accounts : node.accounts.items ≡ map (λ account. account.id) setup.bench.accounts.items
  pub core : node.core ≡ opened (settings_of (opened_by books setup.bench))

-- all nodes were, in their order
abbrev pub AreOpenNodes : List Laws → List Setup → List Node → Type 0
AreOpenNodes books [] [] = Unit {0}
AreOpenNodes books (setup ∷ setups) (node ∷ nodes) = IsOpenNode books setup node × AreOpenNodes books setups nodes
AreOpenNodes books [] (node ∷ nodes) = ⊥
AreOpenNodes books (setup ∷ setups) [] = ⊥

-- why a node is not opened, and what is wanted
abbrev pub node_refusal : List Laws → Setup → Option (List ℕ)
node_refusal books setup = opening_told (opened_by books setup.bench)

-- what is printed at the end: where lines stand and what they sent, and the accounts, node by node
abbrev pub node_ends : Shown → List Node → List ℕ
node_ends shown nodes = if_shown shown.lines (lines_told nodes) ++ if_shown shown.totals (totals_told nodes)

-- what is printed where lines are run on nodes: what they print, and the end
pub record NodesText (cut : ℕ) (old : List Node) (lines : List NodeLine) (shown : Shown) (new : List Node)
    (text : List ℕ) : Type 0 where
  pub steps : List ℕ
  pub ran : RunsLines cut old [] lines new steps
  pub printed : text ≡ if_shown shown.steps steps ++ node_ends shown new

-- what is printed of a script's run on nodes that are open, and whether it is a refusal
abbrev pub IsRunOnOpen : (cut : ℕ) → List Node → (script : List ℕ) → Shown → (new : List Node) → (text : List ℕ)
    → Bool → Type 0
IsRunOnOpen cut nodes script shown new text true = option_map bad_text (first_bad_node_line nodes script) ≡ Some text
IsRunOnOpen cut nodes script shown new text false =
    (first_bad_node_line nodes script ≡ None) × NodesText cut nodes (nodes_script_of nodes script) shown new text

-- all nodes were opened, and a script was run on them
pub record RunsOpened
    (books : List Laws) (cut : ℕ) (setups : List Setup) (script : List ℕ) (shown : Shown) (new : List Node)
    (text : List ℕ) (refused : Bool) : Type 0 where
  pub nodes : List Node
  pub are : AreOpenNodes books setups nodes
  pub run : IsRunOnOpen cut nodes script shown new text refused

-- what is printed of a script's run on the nodes of a CONFIG, and whether it is a refusal: of the first node that is
-- not opened, or of a line of the script
abbrev pub IsNodesRun : (books : List Laws) → (cut : ℕ) → (setups : List Setup) → (script : List ℕ) → Shown
    → (new : List Node) → (text : List ℕ) → Bool → Type 0
IsNodesRun books cut setups script shown new text true =
    (first_in (node_refusal books) setups ≡ Some text) ⊎ RunsOpened books cut setups script shown new text true
IsNodesRun books cut setups script shown new text false = RunsOpened books cut setups script shown new text false

-- that, and the nodes behind it
abbrev pub IsEnded : (books : List Laws) → (cut : ℕ) → (setups : List Setup) → (script : List ℕ) → Shown → Ended
    → Type 0
IsEnded books cut setups script shown ended =
    IsNodesRun books cut setups script shown ended.nodes.items ended.run.text.items ended.run.refused

-- The text of a run was taken whole, and its status is the answer, or a write fault came.
pub record NodesTold
    {O : Type 0} (contents : O → Option (List ℕ)) (failures idle : O → ℕ) (books : List Laws) (cut : ℕ)
    (setups : List Setup) (script : List ℕ) (shown : Shown) (old new : O) (answer : Status) : Type 0 where
  pub nodes : List Node
  pub text : List ℕ
  pub refused : Bool
  pub run : IsNodesRun books cut setups script shown nodes text refused
  pub told : Tells contents failures idle old new text (told_status refused) answer

-- or memory ran out
abbrev pub IsNodesRunOn : {O : Type 0} → (contents : O → Option (List ℕ)) → (failures idle : O → ℕ)
    → (books : List Laws) → (cut : ℕ) → (setups : List Setup) → (script : List ℕ) → Shown → (old new : O) → Status
    → Type 0
IsNodesRunOn contents failures idle books cut setups script shown old new answer =
    NodesTold contents failures idle books cut setups script shown old new answer
    ⊎ Tells contents failures idle old new (codes "no memory\n") statuses.NoMemory answer

-- a node was opened, or is refused
abbrev pub IsOpened : List Laws → Setup → Opened → Type 0
IsOpened books setup (tried.Node node) = IsOpenNode books setup node
IsOpened books setup (tried.Refused text) = node_refusal books setup ≡ Some text.items

-- all nodes were opened, or the first that isn't is refused
abbrev pub AreOpened : List Laws → List Setup → AllOpened → Type 0
AreOpened books setups (all.Nodes nodes) = AreOpenNodes books setups nodes.items
AreOpened books setups (all.Refused text) = first_in (node_refusal books) setups ≡ Some text.items

-- what nodes are opened with was read, and then a script
pub record AreNodeInputs
    {I : Type 0} (remaining : I → Option (List ℕ)) (reads failures : I → ℕ) (old new : I) (setups : List Setup)
    (script : List ℕ) : Type 0 where
  pub after_setups : I
  pub setups_read : AreSetupsFrom remaining reads failures old after_setups setups
  pub script_read : IsInput remaining reads failures after_setups new script

-- what nodes are opened with was read, and then a script, and what is told is the script's run on all of them,
-- by the laws of all roles
pub record RunsOnNodes
    {I O : Type 0} (remaining : I → Option (List ℕ)) (reads failures : I → ℕ) (contents : O → Option (List ℕ))
    (write_failures idle : O → ℕ) (cut : ℕ) (shown : Shown) (source source' : I) (sink sink' : O)
    (answer : Status) : Type 0 where
  pub setups : List Setup
  pub script : List ℕ
  pub inputs : AreNodeInputs remaining reads failures source source' setups script
  pub run : IsNodesRunOn contents write_failures idle (replicate MAX_SHARDS all_laws) cut setups script shown
      sink sink' answer

-- a script is run, or a text that was read before is refused, or memory ran out
abbrev pub IsNodesMet : {I O : Type 0} → (remaining : I → Option (List ℕ)) → (reads failures : I → ℕ)
    → (contents : O → Option (List ℕ)) → (write_failures idle : O → ℕ) → (cut : ℕ) → Shown → (source source' : I)
    → (sink sink' : O) → Status → Type 0
IsNodesMet remaining reads failures contents write_failures idle cut shown source source' sink sink' answer =
    RunsOnNodes remaining reads failures contents write_failures idle cut shown source source' sink sink' answer
    ⊎ TellsRefused remaining reads failures contents write_failures idle source' sink sink' answer
    ⊎ Tells contents write_failures idle sink sink' (codes "no memory\n") statuses.NoMemory answer
