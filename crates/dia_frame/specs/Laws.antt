-- What holds of the frames of every stream.
use Rattle.std.specs.Prelude.{◌≡◌, ℕ, List, ◌∷◌, ◌++◌}
use Rattle.dia_frame.specs.Frames.{IsMessage, Frames}

-- a stream has some messages and some rest
pub record SomeFrames (stream : List ℕ) (limit : ℕ) : Type 0 where
  pub messages : List (List ℕ)
  pub rest : List ℕ
  pub frames : Frames stream limit messages rest

-- The message is the first of the messages, and the others are the frames of what comes behind it.
pub record BeginsWith (limit : ℕ) (message after : List ℕ) (messages : List (List ℕ)) (rest : List ℕ) : Type 0 where
  pub others : List (List ℕ)
  pub first : messages ≡ message ∷ others
  pub behind : Frames after limit others rest

-- Every stream has messages and a rest.
abbrev pub SomeReading : Type 0
SomeReading = (stream : List ℕ) (limit : ℕ) → SomeFrames stream limit

-- A stream has no two lists of messages, and no two rests.
abbrev pub OneReading : Type 0
OneReading =
    (stream : List ℕ) (limit : ℕ) (messages others : List (List ℕ)) (rest after : List ℕ)
    → Frames stream limit messages rest → Frames stream limit others after → (messages ≡ others) × (rest ≡ after)

-- However a stream is split that begins with a message, that message is its first frame.
abbrev pub FirstFrame : Type 0
FirstFrame =
    (limit : ℕ) (message after : List ℕ) (messages : List (List ℕ)) (rest : List ℕ)
    → IsMessage limit message → Frames (message ++ after) limit messages rest
    → BeginsWith limit message after messages rest

-- A message in front of a stream is one more frame.
abbrev pub OneMoreFrame : Type 0
OneMoreFrame =
    (limit : ℕ) (message after : List ℕ) (others : List (List ℕ)) (rest : List ℕ)
    → IsMessage limit message → Frames after limit others rest
    → Frames (message ++ after) limit (message ∷ others) rest
