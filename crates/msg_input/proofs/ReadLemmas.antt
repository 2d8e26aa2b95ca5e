-- What is printed of an input, message by message and text by text.
use Rattle.std.proofs.Common.{◌≡◌, ◌==◌, ℕ, Bool, true, false, List, [], ◌∷◌, ◌++◌, length, take, zero, suc, Option, Some, None, Result, Ok, Err, inl, inr, ◌≤◌, refl, sym, ap, subst, ◌∙◌, append_assoc, ◌+◌, arith}
use Rattle.std.specs.Prelude.{◌||◌, ◌⊎◌, is_some}
use Rattle.std.proofs.lemmas.List.{append-nil, length-append}
use Rattle.std.proofs.lemmas.Bool.{eqb-true}
use Rattle.std.specs.Io.KnownBytes.{IsAtEnd}
use Rattle.std.proofs.KnownBytes.{Appends-trans, Consumes-nil}
use Rattle.std.proofs.lemmas.List.Elements.{All-nil}
use Rattle.dia_frame.specs.Frames.{Frames, IsMessage, joined}
use Rattle.dia_frame.specs.Framer.{Feeds, FramerState, HoldsNext, Shows}
use Rattle.dia_frame.specs.declared.fault.FrameFault.{FrameFault}
use Rattle.dia_frame.specs.declared.fault.FrameFault.TheVariants.{Version, Length, Broken}
use Rattle.dia_frame.specs.declared.fault.FeedError.{FeedError}
use Rattle.dia_frame.specs.declared.fault.FeedError.TheVariants.{Fault, NoMemory}
use Rattle.base_text.specs.Digits.{Means}
use Rattle.msg_input.specs.Ends.{end_status, refusal_of}
use Rattle.msg_input.specs.Inputs.{FrontText, HaltedText, IsPrintedOf, IsReport, Printing, ShortText, WholeText, left_over}
use Rattle.msg_input.specs.Printed.{PrintsAll, Saying}
use Rattle.msg_input.specs.Readings.{Finishes, Halts, IsPoured, PrintsFront, PrintsWaiting, SoFar, Stands, TakesPiece, TakesText, place_of}
use Rattle.msg_input.specs.Reports.{Gains, Stays}
use Rattle.msg_input.specs.declared.reading.Reading.{Reading}
use Rattle.msg_input.specs.declared.report.Report.{Report}
use Rattle.msg_input.specs.declared.ends.Refusal.{Refusal}
use Rattle.msg_input.specs.declared.ends.Refusal.TheVariants as refusals
use Rattle.msg_input.specs.declared.ends.End.{End}
use Rattle.msg_input.specs.declared.ends.Place.{Place}
use Rattle.msg_input.specs.declared.ends.End.TheVariants.{Whole, Refused, ReadFailed, TooManyReads}
use Rattle.base_device.specs.declared.status.Status.{Status}
use Rattle.base_device.specs.declared.status.Status.TheVariants as statuses
use Rattle.base_device.specs.Devices.{HasWriteCause, Tells}
use Rattle.dia_frame.proofs.FrameLemmas.{frames-append}
use Rattle.dia_frame.proofs.LawLemmas.{some_frames}
use Rattle.base_text.proofs.Meaning.{Means-append, Means-nothing}
use Rattle.msg_input.proofs.RunLemmas.{later_cause}

pub or_assoc : (a b c : Bool) → ((a || b) || c) ≡ (a || (b || c))
or_assoc true b c = refl
or_assoc false b c = refl

pub or_false : (a : Bool) → (a || false) ≡ a
or_false true = refl
or_false false = refl

-- messages behind messages
pub PrintsAll-append : (says : Saying) (n o k q : ℕ) (ms ns : List (List ℕ)) (t u : List ℕ) (r s : Bool)
    → k ≡ n + length ms → q ≡ o + length (joined ms)
    → PrintsAll says n o ms t r → PrintsAll says k q ns u s → PrintsAll says n o (ms ++ ns) (t ++ u) (r || s)
PrintsAll-append says n o k q [] ns t u r s count place first second =
    let same : k ≡ n = omega arith in
    let here : q ≡ o = omega arith in
    rw (first.0, first.1, ← same, ← here) second
PrintsAll-append says n o k q (m ∷ ms) ns t u r s count place first second =
    let counted : k ≡ (n + 1) + length ms = omega arith in
    let placed : q ≡ (o + length m) + length (joined ms) = let both = length-append m (joined ms) in omega arith in (
      first.0,
      first.1,
      first.2 ++ u,
      first.3 || s,
      first.4,
      PrintsAll-append says (n + 1) (o + length m) k q ms ns first.2 u first.3 s counted placed first.5 second,
      rw (first.6, append_assoc) refl,
      rw (first.7, or_assoc) refl,
    )

-- one message
pub PrintsAll-one : (says : Saying) (n o : ℕ) (m t : List ℕ) (r : Bool) → says (n + 1) o m t r → PrintsAll says n o (m ∷ []) t r
PrintsAll-one says n o m t r p = (t, r, [], false, p, (refl, refl), sym (append-nil t), sym (or_false r))

-- the lengths of messages behind messages
joined-append : (ms ns : List (List ℕ)) → length (joined (ms ++ ns)) ≡ length (joined ms) + length (joined ns)
joined-append [] ns = omega arith
joined-append (m ∷ ms) ns =
    let later = joined-append ms ns in
    let one = length-append m (joined ms) in
    let all = length-append m (joined (ms ++ ns)) in
    omega arith

-- Some of the messages that waited were printed.
pub record PrintsSome (says : Saying) {M : Type 0} (framer framer' : FramerState) (report report' : Report M) : Type 0 where
  pub came : List (List ℕ)
  pub text : List ℕ
  pub refused : Bool
  pub printed : PrintsAll says report.messages report.octets came text refused
  pub gained : Gains report report' came text refused
  pub waited : framer ≡ record framer' { waiting = came ++ framer'.waiting }

pub PrintsSome-none : (says : Saying) {M : Type 0} (f : FramerState) (r : Report M) → PrintsSome says f f r r
PrintsSome-none says f r = record {
  came = [];
  text = [];
  refused = false;
  printed = (refl, refl);
  gained = record {
    out = sym (append-nil r.out.items);
    marked = sym (or_false r.refused);
    messages = omega arith;
    octets = omega arith;
  };
  waited = refl;
}

-- what two texts of messages gave
Gains-both : {M : Type 0} (p q r : Report M) (came more : List (List ℕ)) (text lines : List ℕ) (refused fault : Bool)
    → Gains p q came text refused → Gains q r more lines fault → Gains p r (came ++ more) (text ++ lines) (refused || fault)
Gains-both p q r came more text lines refused fault first second = record {
  out = second.out ∙ ap (λ xs. xs ++ lines) first.out ∙ append_assoc p.out.items text lines;
  marked = second.marked ∙ ap (λ b. b || fault) first.marked ∙ or_assoc p.refused refused fault;
  messages = let a = first.messages in let b = second.messages in let c = length-append came more in omega arith;
  octets = let a = first.octets in let b = second.octets in let c = joined-append came more in omega arith;
}

-- one message more
pub PrintsSome-more : (says : Saying) {M : Type 0} (f g h : FramerState) (p q r : Report M) (m text : List ℕ) (refused : Bool)
    → PrintsSome says f g p q → g ≡ record h { waiting = m ∷ h.waiting } → says (q.messages + 1) q.octets m text refused
    → Gains q r (m ∷ []) text refused → PrintsSome says f h p r
PrintsSome-more says f g h p q r m text refused s next printed gained = record {
  came = s.came ++ m ∷ [];
  text = s.text ++ text;
  refused = s.refused || refused;
  printed =
      PrintsAll-append says p.messages p.octets q.messages q.octets s.came (m ∷ []) s.text text s.refused refused s.gained.messages s.gained.octets
      s.printed (PrintsAll-one says q.messages q.octets m text refused printed);
  gained = Gains-both p q r s.came (m ∷ []) s.text text s.refused refused s.gained gained;
  waited =
      s.waited ∙ ap (λ (k : FramerState). record k { waiting = s.came ++ k.waiting }) next
      ∙ ap (λ (w : List (List ℕ)). record h { waiting = w }) (sym (append_assoc s.came (m ∷ []) h.waiting));
}

same_waiting : (f h : FramerState) (came : List (List ℕ)) → f ≡ record h { waiting = came ++ h.waiting } → h.waiting ≡ []
    → (h ≡ record f { waiting = [] }) × (came ≡ f.waiting)
same_waiting f h came waited none = (
  rw waited (ap (λ (w : List (List ℕ)). record h { waiting = w }) none),
  sym (ap (λ (k : FramerState). k.waiting) waited ∙ ap (λ (w : List (List ℕ)). came ++ w) none ∙ append-nil came),
)

-- none waits any more
pub PrintsWaiting-all : (says : Saying) {M : Type 0} (f h : FramerState) (p r : Report M) → PrintsSome says f h p r → h.waiting ≡ []
    → PrintsWaiting says f h p r
PrintsWaiting-all says f h p r s none =
    let same = same_waiting f h s.came s.waited none in
    record {
      text = s.text;
      refused = s.refused;
      printed = subst (λ (ms : List (List ℕ)). PrintsAll says p.messages p.octets ms s.text s.refused) same.1 s.printed;
      gained = subst (λ (ms : List (List ℕ)). Gains p r ms s.text s.refused) same.1 s.gained;
      emptied = same.0;
    }

-- the texts of messages behind those that stand
Stands-all : (says : Saying) (first : ℕ) {M : Type 0} (f : FramerState) (p r : Report M) (octets written : List ℕ) (s : Stands says first f p octets written None)
    → (came : List (List ℕ)) (text : List ℕ) (refused : Bool) → PrintsAll says p.messages p.octets came text refused → Gains p r came text refused
    → PrintsAll says first 0 (s.messages ++ came) (written ++ r.out.items) r.refused
Stands-all says first f p r octets written s came text refused printed gained =
    let counted : p.messages ≡ first + length s.messages = let same = s.counted in omega arith in
    let placed : p.octets ≡ 0 + length (joined s.messages) = let same = s.placed in omega arith in
    let all = PrintsAll-append says first 0 p.messages p.octets s.messages came _ text _ refused counted placed s.printed printed in
    rw (gained.out, gained.marked, ← append_assoc) all

-- a piece was fed, and the messages that it completed were printed
pub Stands-more : (says : Saying) (first : ℕ) {M : Type 0} (f g h : FramerState) (p r : Report M) (octets more written : List ℕ) (fault : Option FrameFault)
    → (s : Stands says first f p octets written None) → Shows g 4096 s.messages (octets ++ more) fault
    → PrintsWaiting says g h p r → Stands says first h r (octets ++ more) written fault
Stands-more says first f g h p r octets more written fault s shows w =
    let emptied : Shows (record g { waiting = [] }) 4096 (s.messages ++ g.waiting) (octets ++ more) fault =
    record {
      left = shows.left;
      same_limit = shows.same_limit;
      frames = rw append-nil shows.frames;
      shown = shows.shown;
      rest = shows.rest;
      broken = shows.broken;
    } in
    record {
      messages = s.messages ++ g.waiting;
      frames = subst (λ (k : FramerState). Shows k 4096 (s.messages ++ g.waiting) (octets ++ more) fault) (sym w.emptied) emptied;
      none_waits = ap (λ (k : FramerState). k.waiting) w.emptied;
      printed = Stands-all says first f p r octets written s g.waiting w.text w.refused w.printed w.gained;
      counted = let a = s.counted in let b = w.gained.messages in let c = length-append s.messages g.waiting in omega arith;
      placed = let a = s.placed in let b = w.gained.octets in let c = joined-append s.messages g.waiting in omega arith;
    }

-- some messages more were printed, before memory ran out
Halts-more : (says : Saying) (first : ℕ) {M : Type 0} (f : FramerState) (p r : Report M) (octets more written : List ℕ) (s : Stands says first f p octets written None)
    → (front others : List (List ℕ)) (rest text : List ℕ) (refused : Bool) → Frames (octets ++ more) 4096 (s.messages ++ (front ++ others)) rest
    → PrintsAll says p.messages p.octets front text refused → Gains p r front text refused → Halts says first s.messages r (octets ++ more) written
Halts-more says first f p r octets more written s front others rest text refused frames printed gained =
    record {
      more = front;
      others = others;
      rest = rest;
      frames = rw append_assoc frames;
      printed = Stands-all says first f p r octets written s front text refused printed gained;
    }

-- likewise, where the piece was not taken
Halts-idle : (says : Saying) (first : ℕ) {M : Type 0} (f : FramerState) (p r : Report M) (octets more written : List ℕ) (s : Stands says first f p octets written None)
    → (text : List ℕ) (refused : Bool) → PrintsAll says p.messages p.octets [] text refused → Gains p r [] text refused → Halts says first s.messages r (octets ++ more) written
Halts-idle says first f p r octets more written s text refused printed gained =
    let before : Frames octets 4096 s.messages s.frames.left = rw (s.none_waits, append-nil) at s.frames.frames in
    let next = some_frames (s.frames.left ++ more) 4096 in
    Halts-more says first f p r octets more written s [] next.messages next.rest text refused
    (frames-append 4096 octets more s.frames.left next.rest s.messages next.messages before next.frames) printed gained

-- no message waits of those that were printed
no_front : (front back : List (List ℕ)) → [] ≡ front ++ back → front ≡ []
no_front [] back none = refl
no_front (m ∷ front) back none = absurd cc

-- a Framer that shows no fault is sound
Stands-sound : (says : Saying) (first : ℕ) {M : Type 0} (f : FramerState) (p : Report M) (octets written : List ℕ) → Stands says first f p octets written None → f.broken ≡ false
Stands-sound says first f p octets written s = s.frames.broken

-- a piece was refused: its fault is what the octets show now, or memory ran out
pub TakesPiece-refused : (says : Saying) (first : ℕ) {M : Type 0} (f g h : FramerState) (p r : Report M) (octets more written : List ℕ) (error : FeedError)
    → (s : Stands says first f p octets written None) → Feeds f more (Err error) g → HoldsNext g 4096 s.messages (octets ++ more) (Err error)
    → PrintsWaiting says g h p r → TakesPiece (Err (refusal_of error)) (Stands says first h r (octets ++ more) written) (Halts says first s.messages r (octets ++ more) written)
TakesPiece-refused says first f g h p r octets more written (Fault Version) s feeds next w = Stands-more says first f g h p r octets more written (Some Version) s next w
TakesPiece-refused says first f g h p r octets more written (Fault Length) s feeds next w = Stands-more says first f g h p r octets more written (Some Length) s next w
TakesPiece-refused says first f g h p r octets more written (Fault Broken) s feeds next w =
    let sound = Stands-sound says first f p octets written s in
    let broken = feeds.0 in
    absurd (cc)
TakesPiece-refused says first f g h p r octets more written NoMemory s feeds next w =
    let none : g.waiting ≡ [] = ap (λ (k : FramerState). k.waiting) feeds.1 ∙ s.none_waits in
    Halts-idle says first f p r octets more written s w.text w.refused (rw none at w.printed) (rw none at w.gained)

Halts-shown : (says : Saying) (first : ℕ) {M : Type 0} (f g : FramerState) (p r : Report M) (octets more written : List ℕ) (fault : Option FrameFault) (s : Stands says first f p octets written None)
    → Shows g 4096 s.messages (octets ++ more) fault → PrintsFront says g p r → Halts says first s.messages r (octets ++ more) written
Halts-shown says first f g p r octets more written fault s shows w =
    Halts-more says first f p r octets more written s w.front w.back shows.left w.text w.refused (rw w.waiting at shows.frames) w.printed w.gained

-- memory ran out for the lines of a message of the piece
pub Halts-printing : (says : Saying) (first : ℕ) {M : Type 0} (f g : FramerState) (p r : Report M) (octets more written : List ℕ) (fed : Result ℕ FeedError)
    → (s : Stands says first f p octets written None) → Feeds f more fed g → HoldsNext g 4096 s.messages (octets ++ more) fed
    → PrintsFront says g p r → Halts says first s.messages r (octets ++ more) written
Halts-printing says first f g p r octets more written (Ok count) s feeds next w = Halts-shown says first f g p r octets more written None s next w
Halts-printing says first f g p r octets more written (Err (Fault Version)) s feeds next w = Halts-shown says first f g p r octets more written (Some Version) s next w
Halts-printing says first f g p r octets more written (Err (Fault Length)) s feeds next w = Halts-shown says first f g p r octets more written (Some Length) s next w
Halts-printing says first f g p r octets more written (Err (Fault Broken)) s feeds next w =
    let sound = Stands-sound says first f p octets written s in
    let broken = feeds.0 in
    absurd (cc)
Halts-printing says first f g p r octets more written (Err NoMemory) s feeds next w =
    let none : [] ≡ w.front ++ w.back = sym s.none_waits ∙ sym (ap (λ (k : FramerState). k.waiting) feeds.1) ∙ w.waiting in
    let empty = no_front w.front w.back none in
    Halts-idle says first f p r octets more written s w.text w.refused (rw empty at w.printed) (rw empty at w.gained)

-- memory ran out for the next message that waited
pub PrintsFront-stays : (says : Saying) {M : Type 0} (f g h : FramerState) (p q r : Report M) (m : List ℕ)
    → PrintsSome says f g p q → g ≡ record h { waiting = m ∷ h.waiting } → Stays q r → PrintsFront says f p r
PrintsFront-stays says f g h p q r m s next stays = record {
  front = s.came;
  back = m ∷ h.waiting;
  text = s.text;
  refused = s.refused;
  waiting =
      ap (λ (k : FramerState). k.waiting) s.waited
      ∙ ap (λ (k : FramerState). s.came ++ k.waiting) next;
  printed = s.printed;
  gained = record {
    out = stays.out ∙ s.gained.out;
    marked = stays.marked ∙ s.gained.marked;
    messages = stays.messages ∙ s.gained.messages;
    octets = stays.octets ∙ s.gained.octets;
  };
}

-- no message of the octets that were taken waits
Stands-frames : (says : Saying) (first : ℕ) {M : Type 0} (f : FramerState) (r : Report M) (octets written : List ℕ) (fault : Option FrameFault) (s : Stands says first f r octets written fault)
    → Frames octets 4096 s.messages s.frames.left
Stands-frames says first f r octets written fault s = rw (s.none_waits, append-nil) at s.frames.frames

-- more text was decoded, and its octets were taken
pub SoFar-more : (says : Saying) (first : ℕ) {M : Type 0} (old new : Reading M) (before used more made written : List ℕ) (half : Option ℕ) (fault : Option FrameFault)
    → (s : SoFar says first old (before ++ used) written None) → Means old.half more made half → new.half ≡ half → new.characters ≡ old.characters + length more
    → Stands says first new.framer new.report (s.octets ++ made) written fault → SoFar says first new (before ++ (used ++ more)) written fault
SoFar-more says first old new before used more made written half fault s meaning same count stands = record {
  octets = s.octets ++ made;
  meaning = rw (same, ← append_assoc before used more) (Means-append None old.half half (before ++ used) more s.octets made s.meaning meaning);
  stands = stands;
  passed =
      let a = s.passed in
      let b = length-append before used in
      let c = length-append before (used ++ more) in
      let d = length-append used more in
      omega arith;
}

-- all of a text is used
pub SoFar-whole : (says : Saying) (first : ℕ) {M : Type 0} (reading : Reading M) (before used rest text written : List ℕ) → (length rest == 0) ≡ true → text ≡ used ++ rest
    → SoFar says first reading (before ++ used) written None → SoFar says first reading (before ++ text) written None
SoFar-whole says first reading before used [] text written none joined so_far = rw (joined, append-nil) so_far
SoFar-whole says first reading before used (x ∷ xs) text written none joined so_far = let some = eqb-true _ _ none in absurd (omega arith)

-- a piece was refused: its text was taken up to a frame fault, or memory ran out
pub TakesText-refused : (says : Saying) (first : ℕ) {M : Type 0} (old new : Reading M) (before used more back made written text : List ℕ) (half : Option ℕ) (answer : Result (Unit {0}) Refusal) (error same_error : Refusal)
    → answer ≡ Err same_error → same_error ≡ error → text ≡ (used ++ more) ++ back
    → (s : SoFar says first old (before ++ used) written None) → Means old.half more made half → new.half ≡ half → new.characters ≡ old.characters + length more
    → TakesPiece (Err error) (Stands says first new.framer new.report (s.octets ++ made) written) (Halts says first s.stands.messages new.report (s.octets ++ made) written)
    → length made ≤ 4096 → TakesText says first answer new before text written
TakesText-refused says first old new before used more back made written text half answer refusals.BadHex y is same same_text s meaning kept count taken few = absurd taken
TakesText-refused says first old new before used more back made written text half answer (refusals.Frame fault) y is same same_text s meaning kept count taken few =
    rw (is, same) (used ++ more, back, same_text, SoFar-more says first old new before used more made written half (Some fault) s meaning kept count taken)
TakesText-refused says first old new before used more back made written text half answer refusals.NoMemory y is same same_text s meaning kept count taken few =
    rw (is, same) (
      used ++ more,
      back,
      same_text,
      record {
        half = half;
        early = s.octets;
        late = made;
        due = s.stands.messages;
        more = taken.more;
        others = taken.others;
        waits = s.stands.frames.left;
        rest = taken.rest;
        meaning = rw (← append_assoc before used more) (Means-append None old.half half (before ++ used) more s.octets made s.meaning meaning);
        few = few;
        before = Stands-frames says first old.framer old.report s.octets written None s.stands;
        frames = taken.frames;
        printed = taken.printed;
      },
    )

-- the end of a text is its last part, or a bad character or an odd digit, as `finish` says
pub IsPrintedOf-refused : (says : Saying) (first : ℕ) {M : Type 0} (new : Reading M) (text written : List ℕ) (why : Refusal) → Finishes says first (Err why) new text written
    → IsPrintedOf says first (Unit {0}) text (written ++ new.report.out.items) (Refused why) new.report.refused (place_of new)
IsPrintedOf-refused says first new text written refusals.BadHex finished = inl (tt, finished)
IsPrintedOf-refused says first new text written (refusals.Frame fault) finished = absurd finished
IsPrintedOf-refused says first new text written refusals.NoMemory finished = record { front = text; back = []; joined = sym (append-nil text); near = omega arith; before = finished }

left_over-some : (xs : List ℕ) → (length xs == 0) ≡ false → left_over xs ≡ xs ∷ []
left_over-some [] some = absurd (cc)
left_over-some (x ∷ xs) some = refl

none_of : (o : Option ℕ) → is_some o ≡ false → o ≡ None
none_of None none = refl
none_of (Some x) none = absurd (cc)

-- the rest is printed as one message more
pub WholeText-left : (says : Saying) (first : ℕ) {M : Type 0} (old : Reading M) (report : Report M) (place : Place) (text written lines : List ℕ) (fault : Bool)
    → SoFar says first old text written None → is_some old.half ≡ false → (length old.framer.rest == 0) ≡ false
    → says (old.report.messages + 1) old.report.octets old.framer.rest lines fault → Gains old.report report (old.framer.rest ∷ []) lines fault
    → place.messages ≡ report.messages → WholeText says first text (written ++ report.out.items) report.refused place
WholeText-left says first old report place text written lines fault so_far even some printed gained here =
    let s = so_far.stands in
    let last = PrintsAll-one says old.report.messages old.report.octets old.framer.rest lines fault printed in
    let all = Stands-all says first old.framer old.report report so_far.octets written s (old.framer.rest ∷ []) lines fault last gained in
    record {
      octets = so_far.octets;
      messages = s.messages;
      rest = old.framer.rest;
      meaning = rw (none_of old.half even) at so_far.meaning;
      frames = rw (s.none_waits, append-nil, ← s.frames.rest) at s.frames.frames;
      no_fault = rw (← s.frames.rest) at s.frames.shown;
      printed = rw (left_over-some old.framer.rest some) all;
      counted =
          let a = s.counted in let b = gained.messages in let c = length-append s.messages (old.framer.rest ∷ []) in
          rw (left_over-some old.framer.rest some) (omega arith);
    }

-- what is known of a text so far is what is printed of its front
pub FrontText-so_far : (says : Saying) (first : ℕ) {M : Type 0} (reading : Reading M) (text written : List ℕ) (fault : Option FrameFault) → SoFar says first reading text written fault
    → FrontText says first text reading.half fault (written ++ reading.report.out.items) (place_of reading)
FrontText-so_far says first reading text written fault so_far =
    let s = so_far.stands in
    record {
      octets = so_far.octets;
      messages = s.messages;
      rest = s.frames.left;
      refused = reading.report.refused;
      meaning = so_far.meaning;
      frames = Stands-frames says first reading.framer reading.report so_far.octets written fault s;
      shown = s.frames.shown;
      printed = s.printed;
      messages_before = s.counted;
      octets_before = s.placed;
      characters_before = so_far.passed;
    }

-- memory ran out for the last message of a text
pub ShortText-stays : (says : Saying) (first : ℕ) {M : Type 0} (reading : Reading M) (report : Report M) (text written : List ℕ) → SoFar says first reading text written None → Stays reading.report report
    → ShortText says first text (written ++ report.out.items) report.refused
ShortText-stays says first reading report text written so_far stays =
    let s = so_far.stands in
    record {
      half = reading.half;
      early = so_far.octets;
      late = [];
      due = s.messages;
      more = [];
      others = [];
      waits = s.frames.left;
      rest = s.frames.left;
      meaning = rw append-nil so_far.meaning;
      few = omega arith;
      before = Stands-frames says first reading.framer reading.report so_far.octets written None s;
      frames = simp append-nil (Stands-frames says first reading.framer reading.report so_far.octets written None s);
      printed = rw (append-nil, stays.out, stays.marked) s.printed;
    }

-- by an answer that is want of memory
pub Finishes-halted : (says : Saying) (first : ℕ) {M : Type 0} (new : Reading M) (text written : List ℕ) (answer : Result (Unit {0}) Refusal) (error : Refusal) → answer ≡ Err error → error ≡ refusals.NoMemory
    → ShortText says first text (written ++ new.report.out.items) new.report.refused → Finishes says first answer new text written
Finishes-halted says first new text written answer error is same short = rw (is, same) short

pub TakesPiece-halted : (Stood : Option FrameFault → Type 0) (Halted : Type 0) (answer : Result (Unit {0}) Refusal) (error : Refusal) → answer ≡ Err error → error ≡ refusals.NoMemory
    → Halted → TakesPiece answer Stood Halted
TakesPiece-halted Stood Halted answer error is same halted = rw (is, same) halted

-- a front of a text is no longer than the text
pub front_is_no_longer : (n : ℕ) (xs : List ℕ) → length (take n xs) ≤ length xs
front_is_no_longer zero xs = omega arith
front_is_no_longer (suc n) [] = omega arith
front_is_no_longer (suc n) (x ∷ xs) = let shorter = front_is_no_longer n xs in omega arith

-- a text that was refused is printed up to its bad character, its frame fault, or where memory ran out
pub IsPrintedOf-taken : (says : Saying) (first : ℕ) {M : Type 0} (P : Type 0) (new : Reading M) (before text written : List ℕ) (why : Refusal) → length text ≤ 65536 → TakesText says first (Err why) new before text written
    → IsPrintedOf says first P (before ++ text) (written ++ new.report.out.items) (Refused why) new.report.refused (place_of new)
IsPrintedOf-taken says first P new before text written refusals.BadHex few taken = inr (record {
  front = before ++ taken.0;
  bad = taken.1;
  back = taken.2;
  half = new.half;
  joined = rw (taken.3, append_assoc) refl;
  is_bad = taken.4;
  before = FrontText-so_far says first new (before ++ taken.0) written None taken.5;
})
IsPrintedOf-taken says first P new before text written (refusals.Frame fault) few taken = record {
  front = before ++ taken.0;
  back = taken.1;
  half = new.half;
  joined = rw (taken.2, append_assoc) refl;
  before = FrontText-so_far says first new (before ++ taken.0) written (Some fault) taken.3;
}
IsPrintedOf-taken says first P new before text written refusals.NoMemory few taken = record {
  front = before ++ taken.0;
  back = taken.1;
  joined = rw (taken.2, append_assoc) refl;
  near = omega (arith, few, ap length taken.2, length-append taken.0 taken.1);
  before = taken.3;
}

-- an end that was found where nothing is left to read
pub IsPrintedOf-at_end : (says : Saying) (first : ℕ) (P : Type 0) (text lines : List ℕ) (end : End) (refused : Bool) (place : Place) → P → IsPrintedOf says first (Unit {0}) text lines end refused place
    → IsPrintedOf says first P text lines end refused place
IsPrintedOf-at_end says first P text lines Whole refused place at_end printed = (at_end, printed.1)
IsPrintedOf-at_end says first P text lines (Refused refusals.BadHex) refused place at_end (inl odd) = inl (at_end, odd.1)
IsPrintedOf-at_end says first P text lines (Refused refusals.BadHex) refused place at_end (inr bad) = inr bad
IsPrintedOf-at_end says first P text lines (Refused (refusals.Frame fault)) refused place at_end printed = printed
IsPrintedOf-at_end says first P text lines (Refused refusals.NoMemory) refused place at_end printed = printed
IsPrintedOf-at_end says first P text lines ReadFailed refused place at_end printed = printed
IsPrintedOf-at_end says first P text lines TooManyReads refused place at_end printed = printed

starts_none : (m after : List ℕ) → 20 ≤ length m → [] ≡ m ++ after → ⊥
starts_none [] after least e = omega arith
starts_none (x ∷ m) after least e = absurd cc

-- no octets hold no message
frames_of_none : Frames [] 4096 [] []
frames_of_none = record { parts = refl; each = All-nil (IsMessage 4096); no_more = λ m after h e. starts_none m after h.least e }

-- nothing is printed of no text
pub HaltedText-none : (says : Saying) (first : ℕ) → HaltedText says first [] [] false
HaltedText-none says first =
    record {
      front = [];
      back = [];
      joined = refl;
      near = omega arith;
      before = record {
        half = None;
        early = [];
        late = [];
        due = [];
        more = [];
        others = [];
        waits = [];
        rest = [];
        meaning = Means-nothing None (λ x e. absurd cc);
        few = omega arith;
        before = frames_of_none;
        frames = frames_of_none;
        printed = (refl, refl);
      };
    }

-- nothing was read, and only want of memory was told
pub IsReport-none : (prints : Printing) (end_text : End → Place → List ℕ) {I O : Type 0} (remaining : I → Option (List ℕ)) (contents : O → Option (List ℕ)) (failures idle : O → ℕ) (source : I) (sink sink' : O) (place : Place) (status : Status)
    → prints (IsAtEnd (remaining source)) [] [] (Refused refusals.NoMemory) false place
    → Tells contents failures idle sink sink' ([] ++ end_text (Refused refusals.NoMemory) place) statuses.NoMemory status
    → IsReport prints end_text remaining contents source source sink sink' status ⊎ (HasWriteCause failures idle sink sink' × (status ≡ statuses.Fault))
IsReport-none prints end_text remaining contents failures idle source sink sink' place status nothing (inl taken) = inl (record {
  text = [];
  lines = [];
  end = Refused refusals.NoMemory;
  refused = false;
  place = place;
  read = Consumes-nil (remaining source);
  printed = nothing;
  written = taken.0.appended;
  is_status = taken.1;
})
IsReport-none prints end_text remaining contents failures idle source sink sink' place status nothing (inr fault) = inr fault

-- reading ended so, and the last lines and the end were written out or not
pub IsReport-closed : (prints : Printing) (end_text : End → Place → List ℕ) {I O : Type 0} (remaining : I → Option (List ℕ)) (contents : O → Option (List ℕ)) (failures idle : O → ℕ) (source source' : I) (sink between sink' : O) (kept : List ℕ) (refused : Bool) (place : Place) (end : End) (status : Status)
    → IsPoured prints remaining contents source source' sink between kept refused place end → failures between ≡ failures sink
    → Tells contents failures idle between sink' (kept ++ end_text end place) (end_status end refused) status
    → IsReport prints end_text remaining contents source source' sink sink' status ⊎ (HasWriteCause failures idle sink sink' × (status ≡ statuses.Fault))
IsReport-closed prints end_text remaining contents failures idle source source' sink between sink' kept refused place end status poured same (inl taken) = inl (record {
  text = poured.text;
  lines = poured.written ++ kept;
  end = end;
  refused = refused;
  place = place;
  read = poured.read;
  printed = poured.printed;
  written = rw append_assoc (Appends-trans (contents sink) (contents between) (contents sink') poured.written (kept ++ end_text end place) poured.taken taken.0.appended);
  is_status = taken.1;
})
IsReport-closed prints end_text remaining contents failures idle source source' sink between sink' kept refused place end status poured same (inr fault) =
    inr (later_cause failures idle sink between sink' same fault.0, fault.1)
