-- What a pipe keeps for the port, and what handing it on means.
use Rattle.std.specs.Prelude.{◌≡◌, ◌==◌, ℕ, Bool, false, List, Option, [], ◌∷◌, ◌++◌, take, if◌then◌else◌}
use Rattle.bench_net.specs.Events.{Event, Came, Lost, AllSettled}
use Rattle.bench_net.specs.Texts.{Grows}
use Rattle.bench_net.specs.declared.pipe.Pipe.{Pipe}
use Rattle.bench_net.specs.declared.refusal.Refusal.{Refusal}
use Rattle.bench_net.specs.declared.refusal.Refusal.TheVariants as refusals
use Rattle.bench_net.specs.declared.settle.Stop.{Stop}
use Rattle.bench_net.specs.declared.settle.Stop.TheVariants as stops

-- a piece that waits, where it has octets
abbrev pub piece_waiting : ℕ → List ℕ → List Event
piece_waiting kept room = if kept == 0 then [] else Came (take kept room) ∷ []

-- the loss, where it waits
abbrev pub loss_waiting : Bool → List Event
loss_waiting losing = if losing then Lost ∷ [] else []

-- what waits in a pipe for its port: the piece, and then the loss
abbrev pub waiting : Pipe → List Event
waiting pipe = piece_waiting pipe.kept pipe.room ++ loss_waiting pipe.losing

-- nothing waits in a pipe
abbrev pub IsEmpty : Pipe → Type 0
IsEmpty pipe = (pipe.kept ≡ 0) × (pipe.losing ≡ false)

-- What waited before, and then what happened, was settled at the port in that order, but for what waits after.
pub record HandsOn
    {P : Type 0} (takes : P → Event → P → Type 0) (refuses : P → Event → Refusal → Type 0)
    (sent : P → Option (List ℕ)) (port port' : P) (before after happened : List Event) : Type 0 where
  pub settled : List Event
  pub order : before ++ happened ≡ settled ++ after
  pub each : AllSettled takes refuses port settled port'
  pub grown : Grows (sent port) (sent port')

-- the refusal that stops a pipe
abbrev pub refusal_of : Stop → Refusal
refusal_of stops.Full = refusals.Full
refusal_of stops.NoMemory = refusals.NoMemory

-- the port refuses what waits first
abbrev pub IsHeld : {P : Type 0} → (P → Event → Refusal → Type 0) → P → Pipe → Refusal → Type 0
IsHeld refuses port pipe why =
    (event : Event) × (rest : List Event) × (waiting pipe ≡ event ∷ rest) × refuses port event why
