-- What a Framer holds, and what a feed does to it.
use Rattle.std.specs.Prelude.{◌≡◌, ◌<◌, ◌⊎◌, ◌&&◌, not, ℕ, Bool, true, false, List, [], ◌++◌, length, Option, Some}
use Rattle.std.specs.Prelude.{None, is_some, Result, Ok, Err}
use Rattle.dia_frame.specs.declared.fault.FrameFault.{FrameFault}
use Rattle.dia_frame.specs.declared.fault.FrameFault.TheVariants.{Version, Length, Broken}
use Rattle.dia_frame.specs.declared.fault.FeedError.{FeedError}
use Rattle.dia_frame.specs.declared.fault.FeedError.TheVariants.{NoMemory, Fault}
use Rattle.dia_frame.specs.Frames.{Frames, fault_of}
use Rattle.dia_frame.specs.Whole.{is_part, room_of}

-- the longest message's length, the frames that wait, oldest first, the octets behind them,
-- and whether a fault was found
pub record FramerState : Type 0 where
  pub limit : ℕ
  pub waiting : List (List ℕ)
  pub rest : List ℕ
  pub broken : Bool

-- what is kept of the octets behind the whole messages: all of them, and none where they show a fault
abbrev pub kept : Option FrameFault → List ℕ → List ℕ
kept None left = left
kept (Some fault) left = []

-- A piece was taken: the frames that it completes wait behind the others,
-- and the fault is what is left behind them shows.
pub record Takes (old : FramerState) (piece : List ℕ) (new : FramerState) (fault : Option FrameFault) : Type 0 where
  pub came : List (List ℕ)
  pub left : List ℕ
  pub limit : new.limit ≡ old.limit
  pub waiting : new.waiting ≡ old.waiting ++ came
  pub frames : Frames (old.rest ++ piece) old.limit came left
  pub shown : fault_of old.limit left ≡ fault
  pub rest : new.rest ≡ kept fault left
  pub broken : new.broken ≡ is_some fault

-- what a feed does, by its answer: after a fault nothing is taken, and nothing is where memory ran out
abbrev pub Feeds : FramerState → List ℕ → Result ℕ FeedError → FramerState → Type 0
Feeds old piece (Ok count) new = (old.broken ≡ false) × (count ≡ length new.waiting) × Takes old piece new None
Feeds old piece (Err (Fault Version)) new = (old.broken ≡ false) × Takes old piece new (Some Version)
Feeds old piece (Err (Fault Length)) new = (old.broken ≡ false) × Takes old piece new (Some Length)
Feeds old piece (Err (Fault Broken)) new = (old.broken ≡ true) × (new ≡ old)
Feeds old piece (Err NoMemory) new = (old.broken ≡ false) × (new ≡ old)

-- a feed may need memory only where the piece completes a message, or brings the rest to where it is given more room
abbrev pub MayNeedMemory : FramerState → List ℕ → Type 0
MayNeedMemory old piece =
    (came : List (List ℕ)) (left : List ℕ) → Frames (old.rest ++ piece) old.limit came left
    → (came ≡ [] → ⊥) ⊎ (room_of old.limit old.rest < room_of old.limit left)

-- whether a piece may be held: behind the octets that are held it is a part of a message
abbrev pub can_hold : FramerState → List ℕ → Bool
can_hold state piece = not state.broken && is_part state.limit (state.rest ++ piece)

-- What was handed out and what waits are the stream's messages, and the octets behind them show this fault or none.
pub record Shows (state : FramerState) (limit : ℕ) (handed : List (List ℕ)) (stream : List ℕ)
    (fault : Option FrameFault) : Type 0 where
  pub left : List ℕ
  pub same_limit : state.limit ≡ limit
  pub frames : Frames stream limit (handed ++ state.waiting) left
  pub shown : fault_of limit left ≡ fault
  pub rest : state.rest ≡ kept fault left
  pub broken : state.broken ≡ is_some fault

-- it holds the frames of a stream, of which this was handed out
abbrev pub Holds : FramerState → ℕ → List (List ℕ) → List ℕ → Type 0
Holds state limit handed stream = (fault : Option FrameFault) × Shows state limit handed stream fault

-- The same of the longer stream once a piece was taken: the answer is the fault of the stream, if it has one.
abbrev pub HoldsNext : FramerState → ℕ → List (List ℕ) → List ℕ → Result ℕ FeedError → Type 0
HoldsNext new limit handed stream (Ok count) = Shows new limit handed stream None
HoldsNext new limit handed stream (Err (Fault Version)) = Shows new limit handed stream (Some Version)
HoldsNext new limit handed stream (Err (Fault Length)) = Shows new limit handed stream (Some Length)
HoldsNext new limit handed stream (Err (Fault Broken)) = Unit {0}
HoldsNext new limit handed stream (Err NoMemory) = Unit {0}
