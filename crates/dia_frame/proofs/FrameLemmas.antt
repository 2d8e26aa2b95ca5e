-- The frames of octets, cut off one by one, and those of a stream that goes on.
use Rattle.std.proofs.Common.{◌≡◌, ◌⊎◌, ℕ, ◌+◌, ◌<◌, ◌≤◌, inl, inr, List, [], ◌∷◌, ◌++◌, length, take, drop, Option, Some, None, All, refl, sym, ap, subst, ◌∙◌, append_assoc, arith}
use Rattle.std.specs.List.{AllByRecursion as ByRecursion}
use Rattle.std.proofs.lemmas.List.{take-append-drop, append-nil, drop-drop, length-drop}
use Rattle.std.proofs.lemmas.List.Elements.{All-nil, All-append, All-push, recursion_from_All}
use Rattle.std.proofs.lemmas.List.Concat.{flat_map-append}
use Rattle.dia_frame.specs.Frames.{IsMessage, Frames, joined}
use Rattle.dia_frame.specs.Whole.{whole_len, room_of}
use Rattle.dia_frame.proofs.WholeLemmas.{found, none_whole}

pub joined-push : (messages : List (List ℕ)) (m : List ℕ) → joined (messages ++ m ∷ []) ≡ joined messages ++ m
joined-push messages m = flat_map-append (λ x. x) messages (m ∷ []) ∙ ap (λ (x : List ℕ). joined messages ++ x) (append-nil m)

-- Messages up to `end` are cut off, and wait behind the old ones.
pub record SoFar (limit : ℕ) (octets : List ℕ) (old now : List (List ℕ)) (end : ℕ) : Type 0 where
  pub came : List (List ℕ)
  pub waiting : now ≡ old ++ came
  pub there : end ≤ length octets
  pub parts : octets ≡ joined came ++ drop end octets
  pub each : All (IsMessage limit) came

pub begins : (limit : ℕ) (octets : List ℕ) (old : List (List ℕ)) → SoFar limit octets old old 0
begins limit octets old = record { came = []; waiting = sym (append-nil old); there = omega arith; parts = refl; each = All-nil (IsMessage limit) }

pub goes_on : (limit : ℕ) (octets : List ℕ) (old now : List (List ℕ)) (end len : ℕ) → SoFar limit octets old now end → whole_len limit (drop end octets) ≡ Some len
    → SoFar limit octets old (now ++ take len (drop end octets) ∷ []) (end + len)
goes_on limit octets old now end len s e =
    let left = drop end octets in
    let f = found limit left len e in
    let m = take len left in
    record {
      came = s.came ++ m ∷ [];
      waiting = ap (λ (x : List (List ℕ)). x ++ m ∷ []) s.waiting ∙ append_assoc old s.came (m ∷ []);
      there = omega (arith, f.there, length-drop end octets, s.there);
      parts = s.parts ∙ ap (λ (x : List ℕ). joined s.came ++ x) (sym (take-append-drop len left) ∙ ap (λ (x : List ℕ). m ++ x) (drop-drop len end octets)) ∙ sym (append_assoc (joined s.came) m (drop (end + len) octets)) ∙ ap (λ (x : List ℕ). x ++ drop (end + len) octets) (sym (joined-push s.came m));
      each = All-push (IsMessage limit) s.came m s.each f.message;
    }

one_by : (limit : ℕ) (octets : List ℕ) (came : List (List ℕ)) (left : List ℕ) (len : ℕ) → octets ≡ joined came ++ left → ByRecursion (IsMessage limit) came → whole_len limit left ≡ Some len → whole_len limit octets ≡ None → ⊥
one_by limit octets [] left len parts each e none = let n : whole_len limit left ≡ None = subst (λ (x : List ℕ). whole_len limit x ≡ None) parts none in absurd cc
one_by limit octets (m ∷ ms) left len parts each e none = none_whole limit octets none m (joined ms ++ left) each.0 (parts ∙ append_assoc m (joined ms) left)

-- Where one more is found, the octets hold a message.
pub holds_one : (limit : ℕ) (octets : List ℕ) (old now : List (List ℕ)) (end len : ℕ) (s : SoFar limit octets old now end) → whole_len limit (drop end octets) ≡ Some len → whole_len limit octets ≡ None → ⊥
holds_one limit octets old now end len s e none = one_by limit octets s.came (drop end octets) len s.parts (recursion_from_All (IsMessage limit) s.came s.each) e none

-- The frames of a longer stream are those of the stream, and then those of its rest and the piece.
pub frames-append : (limit : ℕ) (stream piece rest rest' : List ℕ) (before came : List (List ℕ)) → Frames stream limit before rest → Frames (rest ++ piece) limit came rest'
    → Frames (stream ++ piece) limit (before ++ came) rest'
frames-append limit stream piece rest rest' before came f g =
    record {
      parts = ap (λ (x : List ℕ). x ++ piece) f.parts ∙ append_assoc (joined before) rest piece ∙ ap (λ (x : List ℕ). joined before ++ x) g.parts ∙ sym (append_assoc (joined before) (joined came) rest') ∙ ap (λ (x : List ℕ). x ++ rest') (sym (flat_map-append (λ m. m) before came));
      each = All-append (IsMessage limit) before came f.each g.each;
      no_more = g.no_more;
    }

none_by : (limit : ℕ) (rest : List ℕ) → ((m after : List ℕ) → IsMessage limit m → rest ≡ m ++ after → ⊥) → (o : Option ℕ) → whole_len limit rest ≡ o → whole_len limit rest ≡ None
none_by limit rest h None e = e
none_by limit rest h (Some len) e = absurd (h (take len rest) (drop len rest) (found limit rest len e).message (sym (take-append-drop len rest)))

-- no whole message is found at the front of a rest
pub whole_len-rest : (limit : ℕ) (octets rest : List ℕ) (messages : List (List ℕ)) → Frames octets limit messages rest → whole_len limit rest ≡ None
whole_len-rest limit octets rest messages f = none_by limit rest f.no_more (whole_len limit rest) refl

-- where the rest lacks room, the octets hold a message or lack it too
pub room_lacks : (cap limit : ℕ) (octets rest : List ℕ) (messages : List (List ℕ)) → Frames octets limit messages rest → cap < room_of limit rest
    → (whole_len limit octets ≡ None → ⊥) ⊎ (cap < room_of limit octets)
room_lacks cap limit octets rest [] f h = inr (subst (λ (x : List ℕ). cap < room_of limit x) (sym f.parts) h)
room_lacks cap limit octets rest (m ∷ ms) f h = inl (λ e. none_whole limit octets e m (joined ms ++ rest) (recursion_from_All (IsMessage limit) (m ∷ ms) f.each).0 (f.parts ∙ append_assoc m (joined ms) rest))
