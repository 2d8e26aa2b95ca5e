-- A feed goes on from a stream to the longer one.
use Rattle.std.proofs.Common.{◌≡◌, ◌⊎◌, ℕ, ◌<◌, ◌≤◌, true, false, inl, inr, List, [], ◌∷◌, ◌++◌, length, Option, Some, None, Result, Ok, Err, refl, sym, ap, subst, ◌∙◌, append_assoc, arith}
use Rattle.std.proofs.lemmas.List.Elements.{All-nil}
use Rattle.std.proofs.lemmas.List.{append-nil}
use Rattle.dia_frame.specs.Frames.{IsMessage, Frames, fault_of}
use Rattle.dia_frame.specs.declared.fault.FrameFault.{FrameFault}
use Rattle.dia_frame.specs.declared.fault.FrameFault.TheVariants.{Version, Length, Broken}
use Rattle.dia_frame.specs.declared.fault.FeedError.{FeedError}
use Rattle.dia_frame.specs.declared.fault.FeedError.TheVariants.{NoMemory, Fault}
use Rattle.dia_frame.specs.Framer.{FramerState, Takes, Feeds, Shows, Holds, HoldsNext, MayNeedMemory}
use Rattle.dia_frame.specs.Whole.{whole_len, room_of}
use Rattle.dia_frame.proofs.FrameLemmas.{frames-append, whole_len-rest}
use Rattle.dia_frame.proofs.WholeLemmas.{none_whole, no_len, room_fits, shows_version_or_length}

took : (old new : FramerState) (piece : List ℕ) (fault : Option FrameFault) (limit : ℕ) (handed : List (List ℕ)) (stream : List ℕ) → old.broken ≡ false → Takes old piece new fault → Holds old limit handed stream
    → Shows new limit handed (stream ++ piece) fault
took old new piece fault limit handed stream whole t (None, h) =
    let g : Frames (old.rest ++ piece) limit t.came t.left = subst (λ (n : ℕ). Frames (old.rest ++ piece) n t.came t.left) h.same_limit t.frames in
    let g' : Frames (h.left ++ piece) limit t.came t.left = rw h.rest at g in
    let f = frames-append limit stream piece h.left t.left (handed ++ old.waiting) t.came h.frames g' in
    let e : handed ++ new.waiting ≡ (handed ++ old.waiting) ++ t.came = ap (λ (x : List (List ℕ)). handed ++ x) t.waiting ∙ sym (append_assoc handed old.waiting t.came) in
    record {
      left = t.left;
      same_limit = t.limit ∙ h.same_limit;
      frames = rw e f;
      shown = subst (λ (n : ℕ). fault_of n t.left ≡ fault) h.same_limit t.shown;
      rest = t.rest;
      broken = t.broken;
    }
took old new piece fault limit handed stream whole t (Some f, h) = let b = h.broken in absurd cc

-- memory may be needed where the octets hold a message, or lack room that the old rest had
pub may_need : (old : FramerState) (piece : List ℕ) → (whole_len old.limit (old.rest ++ piece) ≡ None → ⊥) ⊎ (room_of old.limit old.rest < room_of old.limit (old.rest ++ piece)) → MayNeedMemory old piece
may_need old piece (inl some) [] left f = absurd (some (subst (λ (x : List ℕ). whole_len old.limit x ≡ None) (sym f.parts) (whole_len-rest old.limit (old.rest ++ piece) left [] f)))
may_need old piece (inr lacks) [] left f = inr (subst (λ (x : List ℕ). room_of old.limit old.rest < room_of old.limit x) f.parts lacks)
may_need old piece need (m ∷ came) left f = inl (λ e. absurd cc)

le_lt : (a b c d : ℕ) → a ≤ b → b ≤ c → c < d → a < d
le_lt a b c d p q r = omega arith

-- where the octets have no room to wait in
pub may_need-extend : (old : FramerState) (piece : List ℕ) (cap : ℕ) → fault_of old.limit (old.rest ++ piece) ≡ None → room_of old.limit old.rest ≤ cap → cap < length (old.rest ++ piece) → MayNeedMemory old piece
may_need-extend old piece cap none had lacks [] left f =
    let whole = whole_len-rest old.limit (old.rest ++ piece) left [] f in
    let shown = subst (λ (x : List ℕ). fault_of old.limit x ≡ None) f.parts none in
    let least : cap < length left = subst (λ (x : List ℕ). cap < length x) f.parts lacks in
    inr (omega (arith, room_fits old.limit left shown whole))
may_need-extend old piece cap none had lacks (m ∷ came) left f = inl (λ e. absurd cc)

-- where cutting them up is refused
pub may_need-cut : (old : FramerState) (piece octets : List ℕ) (cap grown : ℕ) → octets ≡ old.rest ++ piece → room_of old.limit old.rest ≤ cap → cap ≤ grown
    → (whole_len old.limit octets ≡ None → ⊥) ⊎ (grown < room_of old.limit octets) → MayNeedMemory old piece
may_need-cut old piece octets cap grown same had grows (inl some) = may_need old piece (inl (subst (λ (x : List ℕ). whole_len old.limit x ≡ None → ⊥) same some))
may_need-cut old piece octets cap grown same had grows (inr lacks) =
    let more : room_of old.limit old.rest < room_of old.limit octets = le_lt (room_of old.limit old.rest) cap grown (room_of old.limit octets) had grows lacks in
    may_need old piece (inr (subst (λ (x : List ℕ). room_of old.limit old.rest < room_of old.limit x) same more))

-- where the octets that are there show a fault, no message stands before it
pub breaks : (limit : ℕ) (octets : List ℕ) (fault : FrameFault) → fault_of limit octets ≡ Some fault → Frames octets limit [] octets
breaks limit octets fault e = record {
  parts = refl;
  each = All-nil (IsMessage limit);
  no_more = none_whole limit octets (no_len limit octets fault e);
}

taken_none : (old new : FramerState) (piece : List ℕ) (fault : FrameFault) → fault_of old.limit (old.rest ++ piece) ≡ Some fault → new ≡ record old { rest = []; broken = true } → Takes old piece new (Some fault)
taken_none old new piece fault e n = rw n (record {
  came = [];
  left = old.rest ++ piece;
  limit = refl;
  waiting = sym (append-nil old.waiting);
  frames = breaks old.limit (old.rest ++ piece) fault e;
  shown = e;
  rest = refl;
  broken = refl;
})

-- a fault that the octets at the front show ends the stream
pub broken_off : (old new : FramerState) (piece : List ℕ) (fault : FrameFault) → old.broken ≡ false → fault_of old.limit (old.rest ++ piece) ≡ Some fault → new ≡ record old { rest = []; broken = true }
    → Feeds old piece (Err (Fault fault)) new
broken_off old new piece Version whole e n = (whole, taken_none old new piece Version e n)
broken_off old new piece Length whole e n = (whole, taken_none old new piece Length e n)
broken_off old new piece Broken whole e n = absurd (shows_version_or_length old.limit (old.rest ++ piece) e)

pub holds_next : (old new : FramerState) (piece : List ℕ) (r : Result ℕ FeedError) → Feeds old piece r new → (limit : ℕ) (handed : List (List ℕ)) (stream : List ℕ) → Holds old limit handed stream
    → HoldsNext new limit handed (stream ++ piece) r
holds_next old new piece (Ok count) f limit handed stream h = took old new piece None limit handed stream f.0 f.2 h
holds_next old new piece (Err (Fault Version)) f limit handed stream h = took old new piece (Some Version) limit handed stream f.0 f.1 h
holds_next old new piece (Err (Fault Length)) f limit handed stream h = took old new piece (Some Length) limit handed stream f.0 f.1 h
holds_next old new piece (Err (Fault Broken)) f limit handed stream h = tt
holds_next old new piece (Err NoMemory) f limit handed stream h = tt
