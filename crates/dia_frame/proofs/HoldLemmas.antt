-- A piece that is held is taken as it is, and changes nothing else.
use Rattle.std.proofs.Common.{◌≡◌, ℕ, Bool, true, false, List, [], ◌∷◌, ◌++◌, Option, Some, None, Result, Ok, Err, refl, sym, ap, ◌∙◌, append_assoc}
use Rattle.std.specs.Prelude.{◌&&◌, is_none, is_some, not, IsErrOf}
use Rattle.std.proofs.lemmas.List.{append-nil}
use Rattle.std.proofs.lemmas.List.Elements.{All-head}
use Rattle.dia_frame.specs.Frames.{IsMessage, Frames, fault_of, joined}
use Rattle.dia_frame.specs.Framer.{FramerState, Feeds, MayNeedMemory, Takes, can_hold, kept}
use Rattle.dia_frame.specs.Whole.{is_part, whole_len}
use Rattle.dia_frame.specs.declared.fault.FrameFault.{FrameFault}
use Rattle.dia_frame.specs.declared.fault.FrameFault.TheVariants.{Version, Length, Broken}
use Rattle.dia_frame.specs.declared.fault.FeedError.{FeedError}
use Rattle.dia_frame.specs.declared.fault.FeedError.TheVariants.{NoMemory, Fault}
use Rattle.dia_frame.proofs.WholeLemmas.{none_whole}

none_both : {X Y : Type 0} (a : Option X) (b : Option Y) → (is_none a && is_none b) ≡ true → (a ≡ None) × (b ≡ None)
none_both None None e = (refl, refl)
none_both None (Some y) e = absurd cc
none_both (Some x) b e = absurd cc

-- the frames of a part of a message: none
part-frames : (limit : ℕ) (octets left : List ℕ) (came : List (List ℕ)) → is_part limit octets ≡ true → Frames octets limit came left → (came ≡ []) × (left ≡ octets)
part-frames limit octets left [] part f = (refl, sym f.parts)
part-frames limit octets left (m ∷ came) part f =
    let none = none_both (fault_of limit octets) (whole_len limit octets) part in
    absurd (none_whole limit octets none.1 m (joined came ++ left) (All-head (IsMessage limit) m came f.each) (f.parts ∙ append_assoc m (joined came) left))

same_state : (a b : FramerState) → a.limit ≡ b.limit → a.waiting ≡ b.waiting → a.rest ≡ b.rest → a.broken ≡ b.broken → a ≡ b
same_state a b l w r k =
    let L : ℕ → FramerState = λ x. record { limit = x; waiting = a.waiting; rest = a.rest; broken = a.broken } in
    let W : List (List ℕ) → FramerState = λ x. record { limit = b.limit; waiting = x; rest = a.rest; broken = a.broken } in
    let R : List ℕ → FramerState = λ x. record { limit = b.limit; waiting = b.waiting; rest = x; broken = a.broken } in
    let K : Bool → FramerState = λ x. record { limit = b.limit; waiting = b.waiting; rest = b.rest; broken = x } in
    ap L l ∙ ap W w ∙ ap R r ∙ ap K k

-- What is taken of a piece that can be held, and its fault.
record Held (old : FramerState) (piece : List ℕ) (new : FramerState) (fault : Option FrameFault) : Type 0 where
  pub none : fault ≡ None
  pub is : new ≡ record old { rest = old.rest ++ piece }

both_true : (a b : Bool) → (not a && b) ≡ true → (a ≡ false) × (b ≡ true)
both_true true b e = absurd cc
both_true false b e = (refl, e)

held : (old new : FramerState) (piece : List ℕ) (fault : Option FrameFault) → can_hold old piece ≡ true → Takes old piece new fault → Held old piece new fault
held old new piece fault can t =
    let part = both_true old.broken (is_part old.limit (old.rest ++ piece)) can in
    let p = part-frames old.limit (old.rest ++ piece) t.left t.came part.1 t.frames in
    let whole = none_both (fault_of old.limit (old.rest ++ piece)) (whole_len old.limit (old.rest ++ piece)) part.1 in
    let none : fault ≡ None = sym t.shown ∙ ap (fault_of old.limit) p.1 ∙ whole.0 in
    record {
      none = none;
      is = same_state new (record old { rest = old.rest ++ piece }) t.limit (t.waiting ∙ ap (λ (x : List (List ℕ)). old.waiting ++ x) p.0 ∙ append-nil old.waiting)
          (t.rest ∙ ap (λ (x : Option FrameFault). kept x t.left) none ∙ p.1) (t.broken ∙ ap is_some none ∙ sym part.0);
    }

pub held-ok : (old new : FramerState) (piece : List ℕ) (count : ℕ) → can_hold old piece ≡ true → Feeds old piece (Ok count) new → new ≡ record old { rest = old.rest ++ piece }
held-ok old new piece count can f = (held old new piece None can f.2).is

-- it shows no fault, so that only memory can be wanting
pub held-err : (old new : FramerState) (piece : List ℕ) (error : FeedError) → can_hold old piece ≡ true → Feeds old piece (Err error) new → new ≡ old
held-err old new piece NoMemory can f = f.1
held-err old new piece (Fault Version) can f = let none = (held old new piece (Some Version) can f.1).none in absurd cc
held-err old new piece (Fault Length) can f = let none = (held old new piece (Some Length) can f.1).none in absurd cc
held-err old new piece (Fault Broken) can f = f.1

pub held-memory : (old new : FramerState) (piece : List ℕ) (result : Result ℕ FeedError) (error : FeedError) → can_hold old piece ≡ true → result ≡ Err error → Feeds old piece (Err error) new
    → (IsErrOf result NoMemory → MayNeedMemory old piece) → (can_hold old piece ≡ true) × MayNeedMemory old piece
held-memory old new piece result NoMemory can is f need = (can, need (rw is refl))
held-memory old new piece result (Fault Version) can is f need = let none = (held old new piece (Some Version) can f.1).none in absurd cc
held-memory old new piece result (Fault Length) can is f need = let none = (held old new piece (Some Length) can f.1).none in absurd cc
held-memory old new piece result (Fault Broken) can is f need = let part = (both_true old.broken (is_part old.limit (old.rest ++ piece)) can).0 in let broken = f.0 in absurd cc
