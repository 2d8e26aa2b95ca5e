-- The files of a node that lived.
use Rattle.std.specs.Prelude.{◌≡◌, ◌⊎◌, ◌++◌, ◌∷◌, ℕ, Bool, false, true, List, [], Option, None, Some, codes, flat_map}
use Rattle.bench_spec.specs.Taken.{Run}
use Rattle.config_json.specs.Json.{config_json}
use Rattle.config_text.specs.declared.node.Files.{Files}
use Rattle.config_text.specs.declared.node.NodeConfig.{NodeConfig}
use Rattle.config_text.specs.declared.node.Tables.{Tables}
use Rattle.node_logs.specs.Files.{File, with_files}
use Rattle.node_logs.specs.Logs.{file_name, file_octet, log_file}
use Rattle.node_logs.specs.declared.logs.LogError.{LogError}
use Rattle.node_logs.specs.declared.logs.LogError.TheVariants.{Failed, NoMemory}

-- the file of a host with that ending
abbrev pub name_of : (host ending : List ℕ) → List ℕ
name_of host ending = flat_map file_octet host ++ ending

-- the file with that ending, where one is named
abbrev pub named : (host ending : List ℕ) → Option (List ℕ) → Option (List ℕ)
named host ending None = None
named host ending (Some name) = Some (name_of host ending)

abbrev pub own_tables : (host : List ℕ) → Tables → Tables
own_tables host tables = record {
  peer = named host (codes ".peer.tbl") tables.peer;
  client = named host (codes ".client.tbl") tables.client;
  server = named host (codes ".server.tbl") tables.server;
}

-- the files that the CONFIG of a node names which lived: those that the node names, each by its ending
abbrev pub own_files : (host : List ℕ) → Files → Files
own_files host files = record {
  tables = own_tables host files.tables;
  dictionary = named host (codes ".dict") files.dictionary;
}

-- the file of the CONFIG that opens the bench of a node
abbrev pub config_file : (host : List ℕ) → NodeConfig → File
config_file host node = record {
  name = name_of host (codes ".json");
  octets = config_json node (own_files host node.files);
}

-- the files of a node that lived: its log, and a CONFIG that opens its bench
abbrev pub files_of : (host : List ℕ) → NodeConfig → Run → List File
files_of host node run = log_file host run ∷ config_file host node ∷ []

-- where a file failed, it is one of the two
abbrev pub IsOneOf : (host : List ℕ) → LogError → Type 0
IsOneOf host (Failed name) = (name.items ≡ file_name host) ⊎ (name.items ≡ name_of host (codes ".json"))
IsOneOf host NoMemory = Unit {0}

-- one of the two failed last
abbrev pub HasFailed : (host : List ℕ) → (failed : Option (List ℕ)) → Type 0
HasFailed host failed = (failed ≡ Some (file_name host)) ⊎ (failed ≡ Some (name_of host (codes ".json")))

-- they are written behind the files before, and none failed; or one of the two did
abbrev pub AreWritten : (host : List ℕ) → NodeConfig → Run → (written written' : Option (List File))
    → (failed failed' : Option (List ℕ)) → (unwritten : Bool) → Type 0
AreWritten host node run written written' failed failed' false =
    (written' ≡ with_files written (files_of host node run)) × (failed' ≡ failed)
AreWritten host node run written written' failed failed' true = HasFailed host failed'
