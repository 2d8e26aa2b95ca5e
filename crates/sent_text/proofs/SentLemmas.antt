-- Messages that are told one behind the other.
use Rattle.std.proofs.Common.{◌≡◌, ◌+◌, ◌<◌, ◌≤◌, ◌^◌, ◌++◌, ◌∷◌, ◌∙◌, ℕ, Bool, true, false, List, [], Option, All, ap, append-nil, append_assoc, arith, drop, length, length-append, refl, subst, sym}
use Rattle.std.specs.Prelude.{◌||◌, None, Ok, Err}
use Rattle.std.proofs.lemmas.List.{drop_at}
use Rattle.std.proofs.lemmas.List.Elements.{All-head, All-rest}
use Rattle.dia_dict.specs.Dictionary.{known}
use Rattle.dia_frame.specs.Framer.{Feeds, FramerState, Takes}
use Rattle.dia_frame.specs.Frames.{Frames, IsMessage, joined}
use Rattle.dia_frame.specs.declared.fault.FeedError.TheVariants.{Fault}
use Rattle.dia_frame.specs.declared.fault.FrameFault.{FrameFault}
use Rattle.dia_frame.specs.declared.fault.FrameFault.TheVariants.{Version, Length, Broken}
use Rattle.dia_frame.proofs.FrameLemmas.{joined-push}
use Rattle.dia_show.specs.Glossary.{Meanings, base_meanings}
use Rattle.msg_explain.specs.Explained.{Explains}
use Rattle.msg_input.specs.Printed.{PrintsAll}
use Rattle.msg_input.proofs.ReadLemmas.{PrintsAll-append, PrintsAll-one}
use Rattle.sent_text.specs.Sent.{Tells, TellsWaiting, rest_text, says}
use Rattle.sent_text.specs.declared.messages.TheConstants.{LONGEST}

-- a Framer that has taken nothing
abbrev pub fresh : FramerState
fresh = record { limit = LONGEST; waiting = []; rest = []; broken = false }

-- what waits are the messages of the octets
abbrev pub Framed : List ℕ → FramerState → Type 0
Framed octets new = (rest : List ℕ) × Frames octets LONGEST new.waiting rest

taken_framed : (octets : List ℕ) (new : FramerState) (fault : Option FrameFault) → Takes fresh octets new fault → Framed octets new
taken_framed octets new fault t = (t.left, subst (λ (ms : List (List ℕ)). Frames octets LONGEST ms t.left) (sym t.waiting) t.frames)

pub fed_framed : (octets : List ℕ) (new : FramerState) (count : ℕ) → Feeds fresh octets (Ok count) new → Framed octets new
fed_framed octets new count h = taken_framed octets new _ h.2

pub fault_framed : (octets : List ℕ) (new : FramerState) (fault : FrameFault) → Feeds fresh octets (Err (Fault fault)) new → Framed octets new
fault_framed octets new Version h = taken_framed octets new _ h.1
fault_framed octets new Length h = taken_framed octets new _ h.1
fault_framed octets new Broken h = let no : false ≡ true = h.0 in absurd cc

-- Some of the messages that waited were told.
pub record ToldSome (waited waiting : List (List ℕ)) (number place : ℕ) (old new : List ℕ) : Type 0 where
  pub came : List (List ℕ)
  pub lines : List ℕ
  pub refused : Bool
  pub split : waited ≡ came ++ waiting
  pub printed : PrintsAll says 0 0 came lines refused
  pub counted : number ≡ length came
  pub placed : place ≡ length (joined came)
  pub put : new ≡ old ++ lines
  pub each : All (IsMessage LONGEST) waiting

pub told_none : (waiting : List (List ℕ)) (old : List ℕ) → All (IsMessage LONGEST) waiting → ToldSome waiting waiting 0 0 old old
told_none waiting old each = record {
  came = [];
  lines = [];
  refused = false;
  split = refl;
  printed = (refl, refl);
  counted = refl;
  placed = refl;
  put = sym (append-nil old);
  each = each;
}

pub told_more : (waited waiting waiting' : List (List ℕ)) (number place : ℕ) (old mid new message text : List ℕ) (refused : Bool)
    → ToldSome waited waiting number place old mid → waiting ≡ message ∷ waiting' → says (number + 1) place message text refused
    → new ≡ mid ++ text → ToldSome waited waiting' (number + 1) (place + length message) old new
told_more waited waiting waiting' number place old mid new message text refused s next said put =
    let count : number ≡ 0 + length s.came = omega (arith, s.counted) in
    let at : place ≡ 0 + length (joined s.came) = omega (arith, s.placed) in
    let longer : length (s.came ++ message ∷ []) ≡ length s.came + 1 = length-append s.came (message ∷ []) in
    let further : length (joined (s.came ++ message ∷ [])) ≡ length (joined s.came) + length message =
    ap (λ (octets : List ℕ). length octets) (joined-push s.came message) ∙ length-append (joined s.came) message in record {
      came = s.came ++ message ∷ [];
      lines = s.lines ++ text;
      refused = s.refused || refused;
      split = s.split ∙ ap (λ (ws : List (List ℕ)). s.came ++ ws) next ∙ sym (append_assoc s.came (message ∷ []) waiting');
      printed = PrintsAll-append says 0 0 number place s.came (message ∷ []) s.lines text s.refused refused count at s.printed (PrintsAll-one says number place message text refused said);
      counted = omega (arith, s.counted, longer);
      placed = omega (arith, s.placed, further);
      put = put ∙ ap (λ (front : List ℕ). front ++ text) s.put ∙ append_assoc old s.lines text;
      each = All-rest (IsMessage LONGEST) message waiting' waiting next s.each;
    }

-- one more was told, by names to which nothing was added
pub told_next : (waited waiting waiting' : List (List ℕ)) (number place number' place' : ℕ) (old mid new message octets : List ℕ) (g : Meanings)
    (refused : Bool) → ToldSome waited waiting number place old mid → waiting ≡ message ∷ waiting' → octets ≡ message → g ≡ base_meanings
    → number' ≡ number + 1 → place' ≡ place + length message
    → (text : List ℕ) × Explains g.namings (known g.definitions) None number' place octets text refused × (new ≡ mid ++ text)
    → ToldSome waited waiting' number' place' old new
told_next waited waiting waiting' number place number' place' old mid new message octets g refused s next is base count at told =
    let by_base : Explains [] (known []) None number' place octets told.0 refused =
    subst (λ (m : Meanings). Explains m.namings (known m.definitions) None number' place octets told.0 refused) base told.1 in
    let of_message : Explains [] (known []) None number' place message told.0 refused =
    subst (λ (o : List ℕ). Explains [] (known []) None number' place o told.0 refused) is by_base in
    let numbered : Explains [] (known []) None (number + 1) place message told.0 refused =
    subst (λ (n : ℕ). Explains [] (known []) None n place message told.0 refused) count of_message in
    let more : ToldSome waited waiting' (number + 1) (place + length message) old new =
    told_more waited waiting waiting' number place old mid new message told.0 refused s next numbered told.2 in
    let placed : ToldSome waited waiting' (number + 1) place' old new =
    subst (λ (p : ℕ). ToldSome waited waiting' (number + 1) p old new) (sym at) more in
    subst (λ (n : ℕ). ToldSome waited waiting' n place' old new) (sym count) placed

-- the next message is no longer than a message may be
pub next_fits : (waited waiting waiting' : List (List ℕ)) (number place : ℕ) (old mid message : List ℕ)
    → ToldSome waited waiting number place old mid → waiting ≡ message ∷ waiting' → length message < 2 ^ 32
next_fits waited waiting waiting' number place old mid message s next =
    let each : All (IsMessage LONGEST) (message ∷ waiting') = subst (All (IsMessage LONGEST)) next s.each in
    let is_one : IsMessage LONGEST message = All-head (IsMessage LONGEST) message waiting' each in
    omega (arith, is_one.most)

-- all were told
pub told_all : (waited waiting : List (List ℕ)) (number place : ℕ) (old new : List ℕ) → ToldSome waited waiting number place old new → waiting ≡ []
    → TellsWaiting waited place old new
told_all waited waiting number place old new s none =
    let all : waited ≡ s.came = s.split ∙ ap (λ (ws : List (List ℕ)). s.came ++ ws) none ∙ append-nil s.came in record {
      lines = s.lines;
      refused = s.refused;
      printed = subst (λ (ms : List (List ℕ)). PrintsAll says 0 0 ms s.lines s.refused) (sym all) s.printed;
      placed = s.placed ∙ ap (λ (ms : List (List ℕ)). length (joined ms)) (sym all);
      put = s.put;
    }

-- the rest begins behind the messages
pub place_within : (octets rest : List ℕ) (messages : List (List ℕ)) (place : ℕ) → Frames octets LONGEST messages rest → place ≡ length (joined messages)
    → place ≤ length octets
place_within octets rest messages place f at =
    let all : length octets ≡ length (joined messages) + length rest = ap (λ (xs : List ℕ). length xs) f.parts ∙ length-append (joined messages) rest in
    omega (arith, all, at)

pub rest_at : (octets rest : List ℕ) (messages : List (List ℕ)) (place : ℕ) → Frames octets LONGEST messages rest → place ≡ length (joined messages)
    → drop place octets ≡ rest
rest_at octets rest messages place f at =
    ap (λ (xs : List ℕ). drop place xs) f.parts ∙ drop_at (joined messages) rest place (sym at)

-- and so is all of it
pub tells : (octets : List ℕ) (messages : List (List ℕ)) (place : ℕ) (old mid new : List ℕ) → (f : (rest : List ℕ) × Frames octets LONGEST messages rest)
    → TellsWaiting messages place old mid → new ≡ mid ++ rest_text (drop place octets)
    → (text : List ℕ) × Tells octets text × (new ≡ old ++ text)
tells octets messages place old mid new f t put =
    let left : drop place octets ≡ f.0 = rest_at octets f.0 messages place f.1 t.placed in (
      t.lines ++ rest_text f.0,
      record {
        messages = messages;
        rest = f.0;
        lines = t.lines;
        refused = t.refused;
        frames = f.1;
        printed = t.printed;
        said = refl;
      },
      put ∙ ap (λ (rest : List ℕ). mid ++ rest_text rest) left ∙ ap (λ (front : List ℕ). front ++ rest_text f.0) t.put ∙ append_assoc old t.lines (rest_text f.0),
    )
