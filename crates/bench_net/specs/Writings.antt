-- What the writing half of a call comes to.
use Rattle.std.specs.Prelude.{◌≡◌, ℕ, ◌+◌, List, Option, length}
use Rattle.std.specs.Io.KnownBytes.{Appends}
use Rattle.bench_net.specs.Texts.{EndsAt, StandsAt}
use Rattle.bench_net.specs.declared.pipe.Pipe.{Pipe}
use Rattle.bench_net.specs.declared.said.Said.{Said}
use Rattle.bench_net.specs.declared.said.Said.TheVariants as saids

-- So many octets went out: those of the sent text that come next.
pub record Sends
    {P O : Type 0} (sent : P → Option (List ℕ)) (contents : O → Option (List ℕ)) (port : P) (from to : ℕ)
    (sink sink' : O) (count : ℕ) : Type 0 where
  pub octets : List ℕ
  pub appended : Appends (contents sink) (contents sink') octets
  pub counted : length octets ≡ count
  pub place : to ≡ from + count
  pub part : StandsAt (sent port) from octets

-- Why the writing half ended.
abbrev pub SaysBy : {P O : Type 0} → (P → Option (List ℕ)) → (failures blocked : O → ℕ) → P → Pipe → (sink sink' : O)
    → (turns turns' : ℕ) → Said → Type 0
SaysBy sent failures blocked port pipe' sink sink' turns turns' saids.Out =
    EndsAt (sent port) pipe'.out × (failures sink' ≡ failures sink)
SaysBy sent failures blocked port pipe' sink sink' turns turns' saids.Blocked =
    (blocked sink' ≡ blocked sink + 1) × (failures sink' ≡ failures sink)
SaysBy sent failures blocked port pipe' sink sink' turns turns' saids.Failed = failures sink' ≡ failures sink + 1
SaysBy sent failures blocked port pipe' sink sink' turns turns' saids.Over =
    (turns' ≡ 65536) × (failures sink' ≡ failures sink)
