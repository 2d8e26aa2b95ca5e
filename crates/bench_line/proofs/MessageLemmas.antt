-- The messages of a stream are its frames.
use Rattle.std.proofs.Common.{◌≡◌, ℕ, zero, suc, ◌≤◌, List, [], ◌∷◌, length, take, drop, Option, Some, None, refl, sym, ap, subst, ◌∙◌, arith}
use Rattle.std.specs.Option.{option_map_or}
use Rattle.std.proofs.lemmas.List.{take-append-drop, length-drop, drop_at}
use Rattle.std.proofs.lemmas.List.Elements.{All-nil}
use Rattle.dia_frame.specs.Frames.{IsMessage, Frames, joined}
use Rattle.dia_frame.specs.Whole.{whole_len}
use Rattle.dia_frame.proofs.LawLemmas.{one_more_frame, one_reading}
use Rattle.dia_frame.proofs.WholeLemmas.{found, none_whole}
use Rattle.bench_line.specs.declared.limit.TheConstants.{MAX_MESSAGE}
use Rattle.bench_line.specs.Messages.{cut_by, messages, rest_of}

-- Some rest stands behind these messages.
record Behind (stream : List ℕ) (cut : List (List ℕ)) : Type 0 where
  pub rest : List ℕ
  pub frames : Frames stream MAX_MESSAGE cut rest

-- with as many steps as there are octets nothing is left to cut
by_steps : (n : ℕ) (stream : List ℕ) → length stream ≤ n → Behind stream (cut_by n stream)
unfolding cut_by
by_steps zero stream h = by (whole_len MAX_MESSAGE stream) refl
  where
    by : (o : Option ℕ) → whole_len MAX_MESSAGE stream ≡ o → Behind stream []
    by None e = record { rest = stream; frames = record { parts = refl; each = All-nil (IsMessage MAX_MESSAGE); no_more = none_whole MAX_MESSAGE stream e } }
    by (Some len) e = let f = found MAX_MESSAGE stream len e in absurd (omega (arith, f.there, f.least))
by_steps (suc n) stream h = by (by_steps n) (whole_len MAX_MESSAGE stream) refl
  where
    by : ((left : List ℕ) → length left ≤ n → Behind left (cut_by n left)) → (o : Option ℕ) → whole_len MAX_MESSAGE stream ≡ o → Behind stream (option_map_or (λ len. take len stream ∷ cut_by n (drop len stream)) o [])
    by later None e = record { rest = stream; frames = record { parts = refl; each = All-nil (IsMessage MAX_MESSAGE); no_more = none_whole MAX_MESSAGE stream e } }
    by later (Some len) e =
        let f = found MAX_MESSAGE stream len e in
        let left = drop len stream in
        let s = later left (omega (arith, length-drop len stream, f.there, f.least)) in
        record { rest = s.rest; frames = subst (λ (x : List ℕ). Frames x MAX_MESSAGE (take len stream ∷ cut_by n left) s.rest) (take-append-drop len stream) (one_more_frame MAX_MESSAGE (take len stream) left (cut_by n left) s.rest f.message s.frames) }

-- `messages` and `rest_of` are the frames of a stream.
pub frames_are : (stream : List ℕ) → Frames stream MAX_MESSAGE (messages stream) (rest_of stream)
unfolding messages rest_of
frames_are stream =
    let s = by_steps (length stream) stream (omega arith) in
    let cut = cut_by (length stream) stream in
    let e : drop (length (joined cut)) stream ≡ s.rest = ap (drop (length (joined cut))) s.frames.parts ∙ drop_at (joined cut) s.rest (length (joined cut)) refl in
    subst (λ (x : List ℕ). Frames stream MAX_MESSAGE cut x) (sym e) s.frames

-- No others are.
pub messages-of_frames : (stream : List ℕ) (cut : List (List ℕ)) (rest : List ℕ) → Frames stream MAX_MESSAGE cut rest → (messages stream ≡ cut) × (rest_of stream ≡ rest)
messages-of_frames stream cut rest f = one_reading stream MAX_MESSAGE (messages stream) cut (rest_of stream) rest (frames_are stream) f

-- what is no message yet
pub messages-nil : messages [] ≡ []
unfolding messages cut_by
messages-nil = refl

pub rest_of-nil : rest_of [] ≡ []
unfolding rest_of messages cut_by
rest_of-nil = refl
