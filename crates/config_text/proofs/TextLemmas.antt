-- What is told of a text by what its value is read as.
use Rattle.std.proofs.Common.{◌≡◌, ℕ, List, Result, Ok, Some, Err, ap}
use Rattle.std.specs.Prelude.{⊤}
use Rattle.serde_json.specs.Data.{Data}
use Rattle.serde_json.specs.Read.{read}
use Rattle.config_text.specs.declared.fault.ConfigError.{ConfigError}
use Rattle.config_text.specs.declared.fault.ConfigError.TheVariants as errors
use Rattle.config_text.specs.declared.fault.Fault.{Fault}
use Rattle.config_text.specs.declared.node.NodeConfig.{NodeConfig}
use Rattle.config_text.specs.Answers.{Answers}
use Rattle.config_text.specs.Nodes.{nodes_of}
use Rattle.config_text.specs.Texts.{IsRefused, nodes_in}
use Rattle.config_text.specs.Twice.{IsTwice, twice_of, unless_twice}

-- the nodes of a value in whose text no name stands twice
pub nodes_in_once : (text : List ℕ) (d : Data) (u : ⊤) (r : Result (List NodeConfig) Fault) → read text ≡ Some d → unless_twice (twice_of text) ≡ Ok u → nodes_of d ≡ r → nodes_in text ≡ Some r
unfolding nodes_in
nodes_in_once text d u r is once answered = rw is (rw once (ap Some answered))

-- a name that stands twice
pub refused_twice : (text : List ℕ) (d : Data) (e : ConfigError) → read text ≡ Some d → IsTwice (unless_twice (twice_of text)) e → IsRefused text e
unfolding nodes_in
refused_twice text d errors.NoMemory is twice = tt
refused_twice text d (errors.NotJson line column) is twice = absurd twice
refused_twice text d (errors.Fault fault) is twice = rw is (rw twice)

-- the error of a value's reading is told of its text
pub refused_with : (text : List ℕ) (d : Data) (u : ⊤) (e : ConfigError) → read text ≡ Some d → unless_twice (twice_of text) ≡ Ok u → Answers {T = List NodeConfig} (Err e) (nodes_of d) → IsRefused text e
refused_with text d u errors.NoMemory is once answered = tt
refused_with text d u (errors.NotJson line column) is once answered = absurd answered
refused_with text d u (errors.Fault fault) is once answered = nodes_in_once text d u (Err fault) is once answered

pub ruleset texts = (nodes_in_once, refused_twice, refused_with)
