-- The messages of a stream as a list (RFC 6733 section 3), and the octets behind them.
use Rattle.std.specs.Prelude.{ℕ, zero, suc, List, [], ◌∷◌, length, take, drop, Option}
use Rattle.std.specs.Option.{option_map_or}
use Rattle.dia_frame.specs.declared.fault.FrameFault.{FrameFault}
use Rattle.dia_frame.specs.Frames.{joined, fault_of}
use Rattle.dia_frame.specs.Whole.{whole_len}
use Rattle.bench_line.specs.declared.limit.TheConstants.{MAX_MESSAGE}

-- so many messages at most, each cut off at its length
unfoldable pub cut_by : ℕ → List ℕ → List (List ℕ)
cut_by zero stream = []
cut_by (suc n) stream =
    option_map_or (λ len. take len stream ∷ cut_by n (drop len stream)) (whole_len MAX_MESSAGE stream) []

-- the messages of a stream: there are no more than octets
unfoldable pub messages : List ℕ → List (List ℕ)
messages stream = cut_by (length stream) stream

-- the octets behind the messages
unfoldable pub rest_of : List ℕ → List ℕ
rest_of stream = drop (length (joined (messages stream))) stream

-- the fault that they show, if they show one
abbrev pub fault_in : List ℕ → Option FrameFault
fault_in stream = fault_of MAX_MESSAGE (rest_of stream)
