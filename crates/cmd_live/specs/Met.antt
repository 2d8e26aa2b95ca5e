-- What `live` does: nodes live and are told of, or something stands in the way before.
use Rattle.std.specs.Prelude.{◌≡◌, ◌<◌, ◌⊎◌, ℕ, Bool, false, true, List, Option, None}
use Rattle.std.specs.Prelude.{Some, Vec, codes, is_some, length}
use Rattle.std.specs.Global.{Global}
use Rattle.base_device.specs.Devices.{Tells}
use Rattle.base_device.specs.declared.status.Status.{Status}
use Rattle.base_device.specs.declared.status.Status.TheVariants as statuses
use Rattle.bench_setup.specs.Halts.{IsHalt, IsToldHalt}
use Rattle.bench_setup.specs.Setups.{AreSetupsFrom}
use Rattle.bench_setup.specs.declared.halt.Halt.{Halt}
use Rattle.bench_setup.specs.declared.setups.Setup.{Setup}
use Rattle.cmd_live.specs.Lives.{AreLivings}
use Rattle.cmd_live.specs.Nodes.{AreApartWhere, nodes_of}
use Rattle.cmd_live.specs.Stops.{IsStop, IsToldStop}
use Rattle.cmd_live.specs.Told.{AreTold, seconds_of}
use Rattle.cmd_live.specs.declared.stop.Stop.{Stop}
use Rattle.config_text.specs.declared.node.NodeConfig.{NodeConfig}
use Rattle.live_report.specs.Copies.{AllCopied}
use Rattle.live_turns.specs.Together.{AreTogether}
use Rattle.live_turns.specs.declared.turns.Lived.{Lived}
use Rattle.live_turns.specs.declared.turns.Living.{Living}
use Rattle.node_logs.specs.Files.{File}

-- the seconds are no number, and nothing is read or written
pub record WantsSeconds
    {I O F : Type 0} (contents : O → Option (List ℕ)) (write_failures idle : O → ℕ) (seconds : Option (List ℕ))
    (source source' : I) (sink sink' : O) (files files' : F) (answer : Status) : Type 0 where
  pub wrong : seconds_of seconds ≡ None
  pub unread : source' ≡ source
  pub unwritten : files' ≡ files
  pub told : Tells contents write_failures idle sink sink' (codes "wanted: a number of seconds behind --seconds\n")
      statuses.Usage answer

-- CONFIG or a file that it names is not read, or refused, and nothing is written
pub record IsHalted
    {I O F : Type 0} (remaining : I → Option (List ℕ)) (reads failures : I → ℕ) (contents : O → Option (List ℕ))
    (write_failures idle : O → ℕ) (source source' : I) (sink sink' : O) (files files' : F) (answer : Status)
    : Type 0 where
  pub halt : Halt
  pub cause : IsHalt remaining reads failures source source' halt
  pub unwritten : files' ≡ files
  pub told : IsToldHalt contents write_failures idle sink sink' halt answer

-- all was read, and something stands in the way of nodes
pub record IsStopped
    {I O : Type 0} (remaining : I → Option (List ℕ)) (reads failures : I → ℕ) (contents : O → Option (List ℕ))
    (write_failures idle : O → ℕ) (host log : Option (List ℕ)) (source source' : I) (sink sink' : O)
    (failed' : Option (List ℕ)) (answer : Status) : Type 0 where
  pub setups : List Setup
  pub mid : I
  pub read : AreSetupsFrom remaining reads failures source mid setups
  pub stop : Stop
  pub cause : IsStop remaining reads failures host log setups mid source' failed' stop
  pub told : IsToldStop contents write_failures idle sink sink' stop answer

-- the files that nodes name are copied, where logs are wanted
abbrev pub AreCopiedWhere : {I : Type 0} → (remaining : I → Option (List ℕ)) → (reads failures : I → ℕ)
    → (is_logged : Bool) → List NodeConfig → (old new : I) → (written written' : Option (List File)) → Type 0
AreCopiedWhere remaining reads failures true nodes old new written written' =
    AllCopied remaining reads failures old written nodes new written'
AreCopiedWhere remaining reads failures false nodes old new written written' =
    (new ≡ old) × (written' ≡ written)

-- who has nodes live side by side answered that of them: of each a world of its bench, and it is told of as it came out
pub record HaveEnded
    (lives : Vec Living Global → Vec (Option Lived) Global → Type 0) (is_logged : Bool) (nodes : List NodeConfig)
    (livings : Vec Living Global) (written : Option (List File)) (failed : Option (List ℕ))
    (text : List ℕ) (status : Status) (written' : Option (List File)) (failed' : Option (List ℕ)) : Type 0 where
  pub lived : Vec (Option Lived) Global
  pub together : lives livings lived
  pub worlds : AreTogether livings.items lived.items
  pub told : AreTold is_logged written failed nodes lived.items text status written' failed'

-- nodes lived, of which there is one at least, each as it was read; where logs are wanted, each has a host of its own,
-- copies of the files that they name were written before, and behind those the files of each
pub record HaveLived
    {I F : Type 0} (remaining : I → Option (List ℕ)) (reads failures : I → ℕ) (written : F → Option (List File))
    (failed : F → Option (List ℕ)) (lives : Vec Living Global → Vec (Option Lived) Global → Type 0)
    (host : Option (List ℕ)) (seconds : ℕ) (is_logged is_watched : Bool) (setups : List Setup) (old new : I)
    (files files' : F) (text : List ℕ) (status : Status) : Type 0 where
  pub some : 0 < length (nodes_of host setups)
  pub apart : AreApartWhere is_logged (nodes_of host setups)
  pub livings : Vec Living Global
  pub as_read : AreLivings host seconds is_watched setups livings.items
  pub with_copies : Option (List File)
  pub copied : AreCopiedWhere remaining reads failures is_logged (nodes_of host setups) old new (written files)
      with_copies
  pub ended : HaveEnded lives is_logged (nodes_of host setups) livings with_copies (failed files) text status
      (written files') (failed files')

-- all was read, and the nodes that are to live did, so many seconds at most
pub record HasLived
    {I O F : Type 0} (remaining : I → Option (List ℕ)) (reads failures : I → ℕ) (contents : O → Option (List ℕ))
    (write_failures idle : O → ℕ) (written : F → Option (List File)) (failed : F → Option (List ℕ))
    (lives : Vec Living Global → Vec (Option Lived) Global → Type 0) (host seconds : Option (List ℕ))
    (is_logged is_watched : Bool) (source source' : I) (sink sink' : O) (files files' : F) (answer : Status)
    : Type 0 where
  pub count : ℕ
  pub counted : seconds_of seconds ≡ Some count
  pub setups : List Setup
  pub mid : I
  pub read : AreSetupsFrom remaining reads failures source mid setups
  pub text : List ℕ
  pub status : Status
  pub lived : HaveLived remaining reads failures written failed lives host count is_logged is_watched setups mid source'
      files files' text status
  pub told : Tells contents write_failures idle sink sink' text status answer

abbrev pub IsLiveMet : {I O F : Type 0} → (remaining : I → Option (List ℕ)) → (reads failures : I → ℕ)
    → (contents : O → Option (List ℕ)) → (write_failures idle : O → ℕ) → (written : F → Option (List File))
    → (failed : F → Option (List ℕ)) → (lives : Vec Living Global → Vec (Option Lived) Global → Type 0)
    → (host seconds log : Option (List ℕ)) → (is_watched : Bool)
    → (source source' : I) → (sink sink' : O) → (files files' : F) → Status → Type 0
IsLiveMet remaining reads failures contents write_failures idle written failed lives host seconds log is_watched
    source source' sink sink' files files' answer =
    WantsSeconds contents write_failures idle seconds source source' sink sink' files files' answer
    ⊎ IsHalted remaining reads failures contents write_failures idle source source' sink sink' files files' answer
    ⊎ IsStopped remaining reads failures contents write_failures idle host log source source' sink sink' (failed files')
    answer
    ⊎ HasLived remaining reads failures contents write_failures idle written failed lives host seconds (is_some log)
    is_watched source source' sink sink' files files' answer
