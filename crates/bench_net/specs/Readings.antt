-- What the reading half of a call comes to.
use Rattle.std.specs.Prelude.{◌≡◌, ◌<◌, ◌≤◌, ◌⊎◌, ℕ, ◌+◌, Bool, true, false, List, ◌++◌, Option, None, Some, Result}
use Rattle.std.specs.Prelude.{Ok, Err, length, map, All}
use Rattle.std.specs.Io.KnownBytes.{Consumes, IsAtEnd}
use Rattle.std.specs.List.{concat}
use Rattle.bench_net.specs.Events.{Event, Came, HasDeclined}
use Rattle.bench_net.specs.Pipes.{HandsOn, IsEmpty, IsHeld, loss_waiting, refusal_of}
use Rattle.bench_net.specs.declared.pipe.Pipe.{Pipe}
use Rattle.bench_net.specs.declared.refusal.Refusal.{Refusal}
use Rattle.bench_net.specs.declared.settle.Answer.{Answer}
use Rattle.bench_net.specs.declared.settle.Answer.TheVariants as answers
use Rattle.bench_net.specs.declared.settle.Stop.{Stop}
use Rattle.bench_net.specs.declared.end.End.{End}
use Rattle.bench_net.specs.declared.end.End.TheVariants.{Blocked, Ended, Declined, Failed, Over, Held}

-- why the reading half ends behind a piece, if it does, and behind the end of the input, by what the port answered
abbrev pub end_behind_piece : Result Answer Stop → Option End
end_behind_piece (Ok answers.Taken) = None
end_behind_piece (Ok answers.Declined) = Some Declined
end_behind_piece (Err stop) = Some (Held stop)

abbrev pub end_behind_input : Result Answer Stop → Option End
end_behind_input (Ok answer) = Some Ended
end_behind_input (Err stop) = Some (Held stop)

-- a piece has at least one octet and at most 4,096
abbrev pub IsPiece : List ℕ → Type 0
IsPiece piece = (0 < length piece) × (length piece ≤ 4096)

-- what happened to a connection: these pieces came, and then, maybe, it was lost
abbrev pub happened : List (List ℕ) → Bool → List Event
happened pieces lost = map Came pieces ++ loss_waiting lost

-- These pieces, joined, were read, and they and then the loss, if there was one, were handed on.
pub record Hears
    {P I : Type 0} (takes : P → Event → P → Type 0) (refuses : P → Event → Refusal → Type 0)
    (sent : P → Option (List ℕ)) (remaining : I → Option (List ℕ)) (port port' : P) (before after : List Event)
    (source source' : I) (pieces : List (List ℕ)) (lost : Bool) : Type 0 where
  pub read : Consumes (remaining source) (remaining source') (concat pieces)
  pub short : All IsPiece pieces
  pub handed : HandsOn takes refuses sent port port' before after (happened pieces lost)

-- Why the reading half ended. The loss happened exactly where the input ended,
-- or may have where the port holds things up.
abbrev pub EndsBy : {P I : Type 0} → (P → Event → Refusal → Type 0) → (I → Option (List ℕ))
    → (reads failures blocked : I → ℕ) → P → (pipe pipe' : Pipe) → (source source' : I) → Bool → End → Type 0
EndsBy refuses remaining reads failures blocked port' pipe pipe' source source' lost Blocked =
    (lost ≡ false) × IsEmpty pipe' × (failures source' ≡ failures source) × (blocked source' ≡ blocked source + 1)
EndsBy refuses remaining reads failures blocked port' pipe pipe' source source' lost Ended =
    (lost ≡ true) × IsEmpty pipe' × (failures source' ≡ failures source) × IsAtEnd (remaining source')
EndsBy refuses remaining reads failures blocked port' pipe pipe' source source' lost Declined =
    (lost ≡ false) × IsEmpty pipe' × (failures source' ≡ failures source) × HasDeclined refuses port'
EndsBy refuses remaining reads failures blocked port' pipe pipe' source source' lost Failed =
    (lost ≡ false) × IsEmpty pipe' × (failures source' ≡ failures source + 1)
EndsBy refuses remaining reads failures blocked port' pipe pipe' source source' lost Over =
    (lost ≡ false) × IsEmpty pipe' × (failures source' ≡ failures source) × (reads source' ≡ reads source + 65536)
EndsBy refuses remaining reads failures blocked port' pipe pipe' source source' lost (Held stop) =
    IsHeld refuses port' pipe' (refusal_of stop) × (failures source' ≡ failures source)
    × (lost ≡ true → (pipe'.losing ≡ true) × IsAtEnd (remaining source'))
    × (pipe'.losing ≡ true → (lost ≡ true) ⊎ (pipe.losing ≡ true))

-- Why one turn of it ended it, or that it goes on.
abbrev pub TurnsBy : {P I : Type 0} → (P → Event → Refusal → Type 0) → (I → Option (List ℕ))
    → (reads failures blocked : I → ℕ) → P → (pipe pipe' : Pipe) → (source source' : I) → Bool → Option End → Type 0
TurnsBy refuses remaining reads failures blocked port' pipe pipe' source source' lost None =
    (lost ≡ false) × IsEmpty pipe' × (failures source' ≡ failures source) × (blocked source' ≡ blocked source)
TurnsBy refuses remaining reads failures blocked port' pipe pipe' source source' lost (Some end) =
    EndsBy refuses remaining reads failures blocked port' pipe pipe' source source' lost end
