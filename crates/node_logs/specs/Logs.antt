-- The log of a node as text, and the file in which it stands.
use Rattle.std.specs.Prelude.{◌≡◌, ◌==◌, ◌&&◌, not, ℕ, List, [], ◌∷◌, ◌++◌, Option, Some, codes, map, reverse}
use Rattle.std.specs.Prelude.{if◌then◌else◌}
use Rattle.std.specs.List.{flat_map}
use Rattle.bench_nodes.specs.declared.node.Node.{Node}
use Rattle.bench_nodes.specs.Printed.{taken_text}
use Rattle.bench_spec.specs.Taken.{Run}
use Rattle.hex.specs.Hex.{encode_lower}
use Rattle.step_text.specs.Names.{is_plain}
use Rattle.node_logs.specs.Files.{File}
use Rattle.node_logs.specs.declared.logs.LogError.{LogError}
use Rattle.node_logs.specs.declared.logs.LogError.TheVariants.{Failed, NoMemory}

-- the text of a log: all entries, with the names that the bench has at its end
abbrev pub log_text : Run → List ℕ
log_text run = flat_map (taken_text run) run.log

-- an octet in the name of a file: itself, or `%` and two hexadecimal digits, as a slash too
abbrev pub file_octet : ℕ → List ℕ
file_octet c = if is_plain c && not (c == 47) then c ∷ [] else 37 ∷ encode_lower (c ∷ [])

-- the name of the file of a host's log
abbrev pub file_name : (host : List ℕ) → List ℕ
file_name host = flat_map file_octet host ++ codes ".log"

-- the file of a log, by its host
abbrev pub log_file : (host : List ℕ) → Run → File
log_file host run = record { name = file_name host; octets = log_text run }

-- the file of a node's log
abbrev pub log_of : Node → File
log_of node = log_file node.host node.core

-- the files of the logs of nodes, from the last to the first: of nodes with one host the first keeps the file
abbrev pub logs_of : List Node → List File
logs_of nodes = map log_of (reverse nodes)

-- why logs are not written, by the name of the file that failed last, before and behind: that of this one, or memory
-- ran out
abbrev pub IsLogFault : (failed failed' : Option (List ℕ)) → LogError → Type 0
IsLogFault failed failed' (Failed name) = failed' ≡ Some name.items
IsLogFault failed failed' NoMemory = failed' ≡ failed

-- where a file failed, it is the one of this name
abbrev pub IsNamed : (own : List ℕ) → LogError → Type 0
IsNamed own (Failed name) = name.items ≡ own
IsNamed own NoMemory = Unit {0}

-- which file can't be written, as it is told
abbrev pub unwritten_text : (name : List ℕ) → List ℕ
unwritten_text name = codes "write fault: " ++ name ++ codes " can't be written\n"
