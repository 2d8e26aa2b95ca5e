-- What a run does of what the words ask for.
use Rattle.std.specs.Prelude.{◌≡◌, ◌⊎◌, ℕ, Bool, not, List, codes, Option, Some, None}
use Rattle.base_device.specs.Devices.{Tells}
use Rattle.base_device.specs.Inputs.{IsInput}
use Rattle.base_device.specs.declared.status.Status.{Status}
use Rattle.base_device.specs.declared.status.Status.TheVariants as statuses
use Rattle.cmd_bench.specs.Met.{IsRunMet}
use Rattle.cmd_debug.specs.Met.{IsDebugMet}
use Rattle.cmd_bench.specs.Nodes.{IsNodesMet}
use Rattle.cmd_read.specs.Reads.{ReadsWith, TellsNoMemory}
use Rattle.config_text.specs.declared.sample.TheConstants.{SAMPLE}
use Rattle.image_text.specs.Listed.{IsListedOn}
use Rattle.image_text.specs.Assembled.{IsAssembledOn}
use Rattle.law_text.specs.Sentences.{book_text}
use Rattle.role_tables.specs.Roles.{all_laws, table_named}
use Rattle.tab_draw.specs.Runs.{graph_status, graph_text}
use Rattle.tab_text.specs.Faults.{first_fault}
use Rattle.tab_walk.specs.Starts.{from_of}
use Rattle.tab_walk.specs.Walks.{IsWalkedOn}
use Rattle.tab_walk.specs.declared.start.WalkOptions.{WalkOptions}
use Rattle.cmd_words.specs.Words.{Wanted, Read, Walk, Names, Table, Draw, Assemble, ListImage, Run, Debug, Sample, Live}
use Rattle.cmd_words.specs.Words.{Nothing, Nodes, Logged}

-- A table, or its image, and then events were read whole, and what is told is the walk of the table over the events,
-- over all laws, with the options that were asked for.
pub record WalksTable {I O : Type 0} (remaining : I → Option (List ℕ)) (reads failures : I → ℕ)
    (contents : O → Option (List ℕ)) (write_failures idle : O → ℕ) (why : Bool) (from : Option (List ℕ))
    (source source' : I) (sink sink' : O) (answer : Status) : Type 0 where
  pub table : List ℕ
  pub events : List ℕ
  pub between : I
  pub table_read : IsInput remaining reads failures source between table
  pub events_read : IsInput remaining reads failures between source' events
  pub options : WalkOptions
  pub says_why : options.why ≡ why
  pub begins : from_of options ≡ from
  pub walked : IsWalkedOn contents write_failures idle all_laws options table events sink sink' answer

-- A table was read whole, and what is told is its graph, or its first fault.
pub record DrawsTable {I O : Type 0} (remaining : I → Option (List ℕ)) (reads failures : I → ℕ)
    (contents : O → Option (List ℕ)) (write_failures idle : O → ℕ) (source source' : I) (sink sink' : O)
    (answer : Status) : Type 0 where
  pub table : List ℕ
  pub read : IsInput remaining reads failures source source' table
  pub told : Tells contents write_failures idle sink sink' (graph_text table) (graph_status (first_fault table)) answer

-- A table was read whole, and what is told is its image, over all laws, or why it has none.
pub record AssemblesTable {I O : Type 0} (remaining : I → Option (List ℕ)) (reads failures : I → ℕ)
    (contents : O → Option (List ℕ)) (write_failures idle : O → ℕ) (source source' : I) (sink sink' : O)
    (answer : Status) : Type 0 where
  pub table : List ℕ
  pub read : IsInput remaining reads failures source source' table
  pub told : IsAssembledOn contents write_failures idle all_laws table sink sink' answer

-- An image's text was read whole, and what is told is its listing, over all laws, or why it has none.
pub record ListsImage {I O : Type 0} (remaining : I → Option (List ℕ)) (reads failures : I → ℕ)
    (contents : O → Option (List ℕ)) (write_failures idle : O → ℕ) (source source' : I) (sink sink' : O)
    (answer : Status) : Type 0 where
  pub image : List ℕ
  pub read : IsInput remaining reads failures source source' image
  pub told : IsListedOn contents write_failures idle all_laws image sink sink' answer

-- a table that is there is told; one that isn't is refused with some text
abbrev pub TellsTable : {O : Type 0} → (contents : O → Option (List ℕ))
    → (failures idle : O → ℕ) → Option (List ℕ) → (old new : O) → Status → Type 0
TellsTable contents failures idle (Some table) old new answer =
    Tells contents failures idle old new table statuses.Done answer
TellsTable contents failures idle None old new answer =
    (text : List ℕ) × Tells contents failures idle old new text statuses.Usage answer

-- what is done, by what was asked for
abbrev pub IsMet : {I O : Type 0} → (remaining : I → Option (List ℕ))
    → (reads failures : I → ℕ) → (contents : O → Option (List ℕ))
    → (write_failures idle : O → ℕ) → Wanted → (source source' : I) → (sink sink' : O) → Status → Type 0
IsMet remaining reads failures contents write_failures idle (Read style by_line dictionary file) source source' sink
    sink' answer =
    ReadsWith remaining reads failures contents write_failures idle style by_line dictionary file source source'
    sink sink' answer ⊎ TellsNoMemory contents write_failures idle sink sink' answer
IsMet remaining reads failures contents write_failures idle (Walk why from table events) source source' sink sink'
    answer =
    WalksTable remaining reads failures contents write_failures idle why from source source' sink sink' answer
    ⊎ TellsNoMemory contents write_failures idle sink sink' answer
IsMet remaining reads failures contents write_failures idle Names source source' sink sink' answer =
    (source' ≡ source)
    × (Tells contents write_failures idle sink sink' (book_text all_laws) statuses.Done answer
    ⊎ TellsNoMemory contents write_failures idle sink sink' answer)
IsMet remaining reads failures contents write_failures idle (Table role) source source' sink sink' answer =
    (source' ≡ source) × TellsTable contents write_failures idle (table_named role) sink sink' answer
IsMet remaining reads failures contents write_failures idle (Draw table) source source' sink sink' answer =
    DrawsTable remaining reads failures contents write_failures idle source source' sink sink' answer
    ⊎ TellsNoMemory contents write_failures idle sink sink' answer
IsMet remaining reads failures contents write_failures idle (Assemble table) source source' sink sink' answer =
    AssemblesTable remaining reads failures contents write_failures idle source source' sink sink' answer
    ⊎ TellsNoMemory contents write_failures idle sink sink' answer
IsMet remaining reads failures contents write_failures idle (ListImage image) source source' sink sink' answer =
    ListsImage remaining reads failures contents write_failures idle source source' sink sink' answer
    ⊎ TellsNoMemory contents write_failures idle sink sink' answer
IsMet remaining reads failures contents write_failures idle (Run quiet sent totals config script) source source'
    sink sink' answer =
    IsRunMet remaining reads failures contents write_failures idle
    (record { steps = not quiet; lines = sent; totals = totals }) source source' sink sink' answer
IsMet remaining reads failures contents write_failures idle (Debug config script commands) source source' sink sink'
    answer =
    IsDebugMet remaining reads failures contents write_failures idle script source source' sink sink' answer
IsMet remaining reads failures contents write_failures idle (Nodes quiet sent totals cut config script) source source'
    sink sink' answer =
    IsNodesMet remaining reads failures contents write_failures idle cut
    (record { steps = not quiet; lines = sent; totals = totals }) source source' sink sink' answer
IsMet remaining reads failures contents write_failures idle Sample source source' sink sink' answer =
    (source' ≡ source) × Tells contents write_failures idle sink sink' SAMPLE.now statuses.Done answer
IsMet remaining reads failures contents write_failures idle (Logged folder quiet sent totals cut config script) source
    source' sink sink' answer =
    (source' ≡ source) × Tells contents write_failures idle sink sink' (codes "--log wants files that can be written\n")
    statuses.Usage answer
IsMet remaining reads failures contents write_failures idle (Live config host seconds log stats) source source' sink
    sink' answer =
    (source' ≡ source) × (text : List ℕ) × Tells contents write_failures idle sink sink' text statuses.Usage answer
IsMet remaining reads failures contents write_failures idle Nothing source source' sink sink' answer =
    (source' ≡ source) × (text : List ℕ) × Tells contents write_failures idle sink sink' text statuses.Usage answer
