-- Copies of the files that a CONFIG's nodes name.
use Rattle.std.specs.Prelude.{◌≡◌, ◌≤◌, ◌++◌, ◌∷◌, ℕ, List, [], Option, None, Some, codes}
use Rattle.base_device.specs.Inputs.{IsInput}
use Rattle.bench_setup.specs.Halts.{IsHalt}
use Rattle.bench_setup.specs.declared.halt.Halt.{Halt}
use Rattle.bench_setup.specs.declared.halt.Halt.TheVariants.{NoMemory}
use Rattle.config_text.specs.declared.node.Files.{Files}
use Rattle.config_text.specs.declared.node.NodeConfig.{NodeConfig}
use Rattle.node_logs.specs.Files.{File, with_files}
use Rattle.live_report.specs.Files.{name_of}
use Rattle.live_report.specs.declared.copies.CopyError.{CopyError}
use Rattle.live_report.specs.declared.copies.CopyError.TheVariants.{Unread, Unwritten}

-- a file that a node names was read whole, and stands behind those before under the node's own name with that ending;
-- where none is named, nothing is done
abbrev pub IsCopied : {I : Type 0} → (remaining : I → Option (List ℕ)) → (reads failures : I → ℕ)
    → (name : Option (List ℕ)) → (host ending : List ℕ) → (old new : I) → (written written' : Option (List File))
    → Type 0
IsCopied remaining reads failures None host ending old new written written' = (new ≡ old) × (written' ≡ written)
IsCopied remaining reads failures (Some name) host ending old new written written' =
    (text : List ℕ) × IsInput remaining reads failures old new text
    × (written' ≡ with_files written (record { name = name_of host ending; octets = text } ∷ []))

-- of a node the table of each role, in their order, and then the dictionary
pub record AreCopied {I : Type 0} (remaining : I → Option (List ℕ)) (reads failures : I → ℕ) (host : List ℕ)
    (files : Files) (old new : I) (written written' : Option (List File)) : Type 0 where
  pub after_peer : I
  pub with_peer : Option (List File)
  pub after_client : I
  pub with_client : Option (List File)
  pub after_server : I
  pub with_server : Option (List File)
  pub peer : IsCopied remaining reads failures files.tables.peer host (codes ".peer.tbl") old after_peer
      written with_peer
  pub client : IsCopied remaining reads failures files.tables.client host (codes ".client.tbl") after_peer after_client
      with_peer with_client
  pub server : IsCopied remaining reads failures files.tables.server host (codes ".server.tbl")
      after_client after_server with_client with_server
  pub dictionary : IsCopied remaining reads failures files.dictionary host (codes ".dict") after_server new
      with_server written'

-- of nodes, of one behind the other
pub data AllCopied {I : Type 0} (remaining : I → Option (List ℕ)) (reads failures : I → ℕ) (old : I)
    (written : Option (List File)) : List NodeConfig → (new : I) → (written' : Option (List File)) → Type 0 where
  nothing : AllCopied remaining reads failures old written [] old written
  one_more : (nodes : List NodeConfig) (node : NodeConfig) (mid new : I) (before after : Option (List File))
      → AllCopied remaining reads failures old written nodes mid before
      → AreCopied remaining reads failures node.identity.host node.files mid new before after
      → AllCopied remaining reads failures old written (nodes ++ node ∷ []) new after

-- behind what was read without a failure something stands in the way
pub record IsHaltBehind {I : Type 0} (remaining : I → Option (List ℕ)) (reads failures : I → ℕ) (old new : I)
    (halt : Halt) : Type 0 where
  pub before : I
  pub made : reads old ≤ reads before
  pub sound : failures before ≡ failures old
  pub cause : IsHalt remaining reads failures before new halt

-- why a file is not copied: it is not read, or memory ran out; or the file that failed last is its copy
abbrev pub IsCopyError : {I : Type 0} → (remaining : I → Option (List ℕ)) → (reads failures : I → ℕ) → (old new : I)
    → (failed' : Option (List ℕ)) → CopyError → Type 0
IsCopyError remaining reads failures old new failed' (Unread halt) =
    IsHaltBehind remaining reads failures old new halt
IsCopyError remaining reads failures old new failed' (Unwritten name) =
    (failures new ≡ failures old) × (failed' ≡ Some name.items)

-- why a copy is not written: memory ran out; or it is the file that failed last
abbrev pub IsPutError : (failed' : Option (List ℕ)) → CopyError → Type 0
IsPutError failed' (Unread halt) = halt ≡ NoMemory
IsPutError failed' (Unwritten name) = failed' ≡ Some name.items
