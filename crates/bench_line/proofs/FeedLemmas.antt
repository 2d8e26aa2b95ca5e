-- What a feed shows, by its answer.
use Rattle.std.proofs.Common.{◌≡◌, ℕ, List, ◌++◌, Some, None, Err, subst}
use Rattle.dia_frame.specs.declared.fault.FrameFault.{FrameFault}
use Rattle.dia_frame.specs.declared.fault.FrameFault.TheVariants.{Version, Length, Broken}
use Rattle.dia_frame.specs.declared.fault.FeedError.{FeedError}
use Rattle.dia_frame.specs.declared.fault.FeedError.TheVariants.{Fault}
use Rattle.dia_frame.specs.Framer.{FramerState, Feeds, Shows, Holds, HoldsNext}

-- Where the stream has no fault yet, a faulty feed shows that fault.
pub shown_fault : (old new : FramerState) (limit : ℕ) (handed : List (List ℕ)) (stream piece : List ℕ) (fault : FrameFault)
    → Feeds old piece (Err (Fault fault)) new → Shows old limit handed stream None → HoldsNext new limit handed (stream ++ piece) (Err (Fault fault))
    → Shows new limit handed (stream ++ piece) (Some fault)
shown_fault old new limit handed stream piece Version f s h = h
shown_fault old new limit handed stream piece Length f s h = h
shown_fault old new limit handed stream piece Broken f s h = let a = f.0 in let b = s.broken in absurd cc

pub fault_shown : (old new : FramerState) (piece : List ℕ) (error : FeedError) (fault : FrameFault) → error ≡ Fault fault → Feeds old piece (Err error) new
    → ((limit : ℕ) (handed : List (List ℕ)) (stream : List ℕ) → Holds old limit handed stream → HoldsNext new limit handed (stream ++ piece) (Err error))
    → (limit : ℕ) (handed : List (List ℕ)) (stream : List ℕ) → Shows old limit handed stream None → Shows new limit handed (stream ++ piece) (Some fault)
fault_shown old new piece error fault e f h limit handed stream s =
    shown_fault old new limit handed stream piece fault (subst (λ (x : FeedError). Feeds old piece (Err x) new) e f) s (subst (λ (x : FeedError). HoldsNext new limit handed (stream ++ piece) (Err x)) e (h limit handed stream (None, s)))
