-- Why a text gives no nodes.
use Rattle.std.specs.Prelude.{◌≡◌, ℕ, List, Option, Some, None, Result, Err, option_map}
use Rattle.std.specs.Str.{IsUtf8}
use Rattle.serde_json.specs.Errors.{IsMemory}
use Rattle.serde_json.specs.Read.{read}
use Rattle.serde_json.specs.declared.error.Error.{Error}
use Rattle.config_text.specs.declared.fault.ConfigError.{ConfigError}
use Rattle.config_text.specs.declared.fault.ConfigError.TheVariants as errors
use Rattle.config_text.specs.declared.fault.Fault.{Fault}
use Rattle.config_text.specs.declared.node.NodeConfig.{NodeConfig}
use Rattle.config_text.specs.Answers.{after}
use Rattle.config_text.specs.Nodes.{nodes_of}
use Rattle.config_text.specs.Twice.{twice_of, unless_twice}

-- what an error of the reader of JSON is told as
abbrev pub IsRefusalOf : Error → ConfigError → Type 0
IsRefusalOf error errors.NoMemory = IsMemory error
IsRefusalOf error (errors.NotJson line column) = ¬ IsMemory error
IsRefusalOf error (errors.Fault fault) = ⊥

-- the nodes of a text, or its first fault: a name that stands twice in one object, and then the first of its value;
-- none where it is no JSON
unfoldable pub nodes_in : List ℕ → Option (Result (List NodeConfig) Fault)
nodes_in text = option_map (λ d. after (unless_twice (twice_of text)) (nodes_of d)) (read text)

-- Memory may be wanting for any text, since reading JSON takes some. A text is no JSON where it is no UTF-8, or is the
-- text of no value. A fault is the first of the value that the text is.
abbrev pub IsRefused : List ℕ → ConfigError → Type 0
IsRefused text errors.NoMemory = Unit {0}
IsRefused text (errors.NotJson line column) = IsUtf8 text → read text ≡ None
IsRefused text (errors.Fault fault) = nodes_in text ≡ Some (Err fault)
