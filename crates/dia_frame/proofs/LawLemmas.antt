-- The laws of the frames of every stream.
use Rattle.std.proofs.Common.{◌≡◌, ℕ, zero, suc, ◌≤◌, List, [], ◌∷◌, ◌++◌, length, take, drop, Option, Some, None, refl, sym, ap, subst, ◌∙◌, append_assoc, arith}
use Rattle.std.specs.List.{AllByRecursion as ByRecursion}
use Rattle.std.proofs.lemmas.List.{take-append-drop, length-drop}
use Rattle.std.proofs.lemmas.List.Elements.{All-nil, All-cons, All-tail, recursion_from_All}
use Rattle.dia_frame.specs.Frames.{IsMessage, Frames, joined}
use Rattle.dia_frame.specs.Laws.{SomeFrames, BeginsWith}
use Rattle.dia_frame.specs.Whole.{whole_len}
use Rattle.dia_frame.proofs.WholeLemmas.{found, none_whole, same_message}

same : (limit : ℕ) (stream : List ℕ) (xs ys : List (List ℕ)) (rest after : List ℕ) → stream ≡ joined xs ++ rest → stream ≡ joined ys ++ after
    → ByRecursion (IsMessage limit) xs → ByRecursion (IsMessage limit) ys
    → ((m more : List ℕ) → IsMessage limit m → rest ≡ m ++ more → ⊥) → ((m more : List ℕ) → IsMessage limit m → after ≡ m ++ more → ⊥) → (xs ≡ ys) × (rest ≡ after)
same limit stream [] [] rest after p q h k f g = (refl, sym p ∙ q)
same limit stream [] (y ∷ ys) rest after p q h k f g = absurd (f y (joined ys ++ after) k.0 (sym p ∙ q ∙ append_assoc y (joined ys) after))
same limit stream (x ∷ xs) [] rest after p q h k f g = absurd (g x (joined xs ++ rest) h.0 (sym q ∙ p ∙ append_assoc x (joined xs) rest))
same limit stream (x ∷ xs) (y ∷ ys) rest after p q h k f g =
    let e : x ++ (joined xs ++ rest) ≡ y ++ (joined ys ++ after) = sym (append_assoc x (joined xs) rest) ∙ sym p ∙ q ∙ append_assoc y (joined ys) after in
    let s = same_message limit x y (joined xs ++ rest) (joined ys ++ after) h.0 k.0 e in
    let t = same limit (joined xs ++ rest) xs ys rest after refl s.1 h.1 k.1 f g in
    let a = s.0 in
    let b = t.0 in
    (cc, t.1)

pub one_reading : (stream : List ℕ) (limit : ℕ) (xs ys : List (List ℕ)) (rest after : List ℕ) → Frames stream limit xs rest → Frames stream limit ys after → (xs ≡ ys) × (rest ≡ after)
one_reading stream limit xs ys rest after p q =
    same limit stream xs ys rest after p.parts q.parts (recursion_from_All (IsMessage limit) xs p.each) (recursion_from_All (IsMessage limit) ys q.each) p.no_more q.no_more

pub one_more_frame : (limit : ℕ) (m after : List ℕ) (others : List (List ℕ)) (rest : List ℕ) → IsMessage limit m → Frames after limit others rest → Frames (m ++ after) limit (m ∷ others) rest
one_more_frame limit m after others rest h f =
    record { parts = ap (λ (x : List ℕ). m ++ x) f.parts ∙ sym (append_assoc m (joined others) rest); each = All-cons (IsMessage limit) m others h f.each; no_more = f.no_more }

pub first_frame : (limit : ℕ) (m after : List ℕ) (messages : List (List ℕ)) (rest : List ℕ) → IsMessage limit m → Frames (m ++ after) limit messages rest → BeginsWith limit m after messages rest
first_frame limit m after [] rest h f = absurd (f.no_more m after h (sym f.parts))
first_frame limit m after (x ∷ xs) rest h f =
    let each = recursion_from_All (IsMessage limit) (x ∷ xs) f.each in
    let s = same_message limit x m (joined xs ++ rest) after each.0 h (sym (append_assoc x (joined xs) rest) ∙ sym f.parts) in
    record { others = xs; first = ap (λ (y : List ℕ). y ∷ xs) s.0; behind = record { parts = sym s.1; each = All-tail (IsMessage limit) x xs f.each; no_more = f.no_more } }

-- with as many steps as there are octets
some_by : (n limit : ℕ) (stream : List ℕ) → length stream ≤ n → (o : Option ℕ) → whole_len limit stream ≡ o → SomeFrames stream limit
some_by n limit stream h None e = record { messages = []; rest = stream; frames = record { parts = refl; each = All-nil (IsMessage limit); no_more = none_whole limit stream e } }
some_by zero limit stream h (Some len) e = let f = found limit stream len e in absurd (omega (arith, f.there, f.least))
some_by (suc n) limit stream h (Some len) e =
    let f = found limit stream len e in
    let left = drop len stream in
    let s = some_by n limit left (omega (arith, length-drop len stream, f.there, f.least)) (whole_len limit left) refl in
    record { messages = take len stream ∷ s.messages; rest = s.rest; frames = subst (λ (x : List ℕ). Frames x limit (take len stream ∷ s.messages) s.rest) (take-append-drop len stream) (one_more_frame limit (take len stream) left s.messages s.rest f.message s.frames) }

pub some_frames : (stream : List ℕ) (limit : ℕ) → SomeFrames stream limit
some_frames stream limit = some_by (length stream) limit stream (omega arith) (whole_len limit stream) refl
