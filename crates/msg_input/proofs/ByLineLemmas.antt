-- What is printed of the lines of an input, line by line.
use Rattle.std.proofs.Common.{◌≡◌, ◌≢◌, ◌≤◌, ◌+◌, ℕ, Bool, false, List, [], ◌∷◌, ◌++◌, length, take, drop, get_or, ◌<◌, Option, Some, None, Result, Ok, Err, inr, refl, sym, ap, ◌∙◌, append_assoc, arith}
use Rattle.std.specs.Prelude.{◌||◌, IfOk, OnOk, OnErr, is_some}
use Rattle.std.proofs.lemmas.List.{append-nil, length-append}
use Rattle.std.proofs.lemmas.List.Elements.{All-append, All-cons, All-nil}
use Rattle.std.proofs.lemmas.Grind.{flat_map-append}
use Rattle.msg_input.specs.ByLine.{AllLines, AreLinesOf, FrontLines, HaltedLines, IsJudged, IsLine, LineSaying, PrintsLine, PrintsLines, ended}
use Rattle.msg_input.specs.ByLineSoFar.{AreFinished, Ended, IsAlong, IsStopped, KeepsTexts, LinesSoFar, MayStop, TakesLines, end_of}
use Rattle.msg_input.specs.Ends.{IsLast}
use Rattle.msg_input.specs.Inputs.{IsPrintedOf}
use Rattle.msg_input.specs.Printed.{Saying}
use Rattle.msg_input.specs.Readings.{SoFar, TakesText, place_of}
use Rattle.msg_input.specs.declared.ends.Refusal.{Refusal}
use Rattle.msg_input.specs.declared.ends.Refusal.TheVariants as refusals
use Rattle.msg_input.specs.declared.ends.End.{End}
use Rattle.msg_input.specs.declared.ends.End.TheVariants.{Refused}
use Rattle.msg_input.specs.declared.ends.Place.{Place}
use Rattle.msg_input.specs.declared.reading.Reading.{Reading}
use Rattle.msg_input.specs.declared.by_line.ByLine.{ByLine}
use Rattle.base_text.proofs.Meaning.{cut_at, front_more}
use Rattle.msg_input.proofs.ReadLemmas.{FrontText-so_far, or_assoc, or_false}

-- one line behind others
pub PrintsLines-more : (says : LineSaying) (e : ℕ → End → Place → List ℕ) (n first k : ℕ) (lines : List (List ℕ)) (line t u : List ℕ) (r s : Bool) (between last : ℕ)
    → k ≡ n + length lines → PrintsLines says e n first lines t r between → PrintsLine says e k between line u s last
    → PrintsLines says e n first (lines ++ line ∷ []) (t ++ u) (r || s) last
PrintsLines-more says e n first k [] line t u r s between last count p one =
    let same : k ≡ n = omega arith in
    let here : between ≡ first = p.2 in
    rw (p.0, p.1) (u, s, [], false, last, (rw (same, here) at one), (refl, refl, refl), sym (append-nil u), sym (or_false s))
PrintsLines-more says e n first k (l ∷ lines) line t u r s between last count p one =
    let counted : k ≡ (n + 1) + length lines = omega arith in (
      p.0,
      p.1,
      p.2 ++ u,
      p.3 || s,
      p.4,
      p.5,
      PrintsLines-more says e (n + 1) p.4 k lines line p.2 u p.3 s between last counted p.6 one,
      rw (p.7, append_assoc) refl,
      rw (p.8, or_assoc) refl,
    )

-- one line behind others, with its newline
ended-more : (lines : List (List ℕ)) (line : List ℕ) → ended lines ++ (line ++ 10 ∷ []) ≡ ended (lines ++ line ∷ [])
ended-more lines line =
    let last : ended (line ∷ []) ≡ line ++ 10 ∷ [] = append-nil (line ++ 10 ∷ []) in
    sym (flat_map-append (λ (l : List ℕ). l ++ 10 ∷ []) lines (line ∷ []) ∙ ap (λ (xs : List ℕ). ended lines ++ xs) last)

-- what comes behind a fault changes nothing
pub IsStopped-more : (says : Saying) (first : ℕ) {M : Type 0} (reading : Reading M) (line more : List ℕ) (why : Refusal)
    → IsStopped says first reading line why → IsStopped says first reading (line ++ more) why
IsStopped-more says first reading line more refusals.BadHex s = record {
  front = s.front;
  bad = s.bad;
  back = s.back ++ more;
  half = s.half;
  joined = rw (s.joined, append_assoc) refl;
  is_bad = s.is_bad;
  before = s.before;
}
IsStopped-more says first reading line more (refusals.Frame fault) s = record {
  front = s.front;
  back = s.back ++ more;
  half = s.half;
  joined = rw (s.joined, append_assoc) refl;
  before = s.before;
}
IsStopped-more says first reading line more refusals.NoMemory s = absurd s

-- the line goes no further behind what was refused
pub IsStopped-taken : (says : Saying) (first : ℕ) {M : Type 0} (new : Reading M) (line part : List ℕ) (why : Refusal) → MayStop why
    → TakesText says first (Err why) new line part [] → IsStopped says first new (line ++ part) why
IsStopped-taken says first new line part refusals.BadHex other taken = record {
  front = line ++ taken.0;
  bad = taken.1;
  back = taken.2;
  half = new.half;
  joined = rw (taken.3, append_assoc) refl;
  is_bad = taken.4;
  before = FrontText-so_far says first new (line ++ taken.0) [] None taken.5;
}
IsStopped-taken says first new line part (refusals.Frame fault) other taken = record {
  front = line ++ taken.0;
  back = taken.1;
  half = new.half;
  joined = rw (taken.2, append_assoc) refl;
  before = FrontText-so_far says first new (line ++ taken.0) [] (Some fault) taken.3;
}
IsStopped-taken says first new line part refusals.NoMemory other taken = absurd other

-- a line that was stopped ends so
pub IsPrintedOf-stopped : (says : Saying) (first : ℕ) {M : Type 0} (reading : Reading M) (line : List ℕ) (why : Refusal) → IsStopped says first reading line why
    → IsPrintedOf says first (Unit {0}) line reading.report.out.items (Refused why) reading.report.refused (place_of reading)
IsPrintedOf-stopped says first reading line refusals.BadHex s = inr s
IsPrintedOf-stopped says first reading line (refusals.Frame fault) s = s
IsPrintedOf-stopped says first reading line refusals.NoMemory s = absurd s

-- more of the last line
pub LinesSoFar-part : (says : LineSaying) (e : ℕ → End → Place → List ℕ) {M : Type 0} (old new : ByLine M) (text part written : List ℕ)
    → LinesSoFar says e old text written → KeepsTexts old new → IsLine part
    → ((first : ℕ) (line : List ℕ) → IsAlong (says (old.before + 1)) first old.reading line old.stopped → IsAlong (says (old.before + 1)) first new.reading (line ++ part) new.stopped)
    → LinesSoFar says e new (text ++ part) written
LinesSoFar-part says e old new text part written s kept is_line along = record {
  lines = s.lines;
  last = s.last ++ part;
  joined = rw (s.joined, append_assoc) refl;
  each = s.each;
  no_newline = All-append (λ c. c ≢ 10) s.last part s.no_newline is_line;
  texts = rw (kept.out, kept.marked, kept.messages) s.texts;
  count = kept.before ∙ s.count;
  along = rw (kept.before, kept.messages) (along old.messages s.last s.along);
}

-- the text with its last line's
ended_texts : (says : LineSaying) (e : ℕ → End → Place → List ℕ) {M : Type 0} (old new : ByLine M) (text written : List ℕ)
    → (s : LinesSoFar says e old text written) → Ended says e old new s.last
    → PrintsLines says e 0 0 (s.lines ++ s.last ∷ []) (written ++ new.out.items) new.refused new.messages
ended_texts says e old new text written s end =
    let count : old.before ≡ 0 + length s.lines = let same = s.count in omega arith in
    let all = PrintsLines-more says e 0 0 old.before s.lines s.last _ end.text _ end.refused old.messages new.messages count s.texts end.printed in
    rw (end.out, end.marked, ← append_assoc) all

-- the newline that ends a line
pub LinesSoFar-ended : (says : LineSaying) (e : ℕ → End → Place → List ℕ) {M : Type 0} (old new : ByLine M) (text written : List ℕ)
    → (s : LinesSoFar says e old text written) → Ended says e old new s.last → LinesSoFar says e new (text ++ 10 ∷ []) written
LinesSoFar-ended says e old new text written s end = record {
  lines = s.lines ++ s.last ∷ [];
  last = [];
  joined = rw append-nil (rw (s.joined, append_assoc) (ended-more s.lines s.last));
  each = All-append IsLine s.lines (s.last ∷ []) s.each (All-cons IsLine s.last [] s.no_newline (All-nil IsLine));
  no_newline = All-nil (λ c. c ≢ 10);
  texts = ended_texts says e old new text written s end;
  count = let a = s.count in let b = end.count in let c = length-append s.lines (s.last ∷ []) in omega arith;
  along = end.next;
}

-- memory ran out behind the lines before the last
pub FrontLines-kept : (says : LineSaying) (e : ℕ → End → Place → List ℕ) {M : Type 0} (old new : ByLine M) (text written : List ℕ)
    → LinesSoFar says e old text written → KeepsTexts old new → FrontLines says e text (written ++ new.out.items) new.refused
FrontLines-kept says e old new text written s kept = record {
  lines = s.lines;
  last = s.last;
  joined = s.joined;
  each = s.each;
  no_newline = s.no_newline;
  count = old.messages;
  texts = rw (kept.out, kept.marked) s.texts;
}

-- the last line ended
pub AllLines-ended : (says : LineSaying) (e : ℕ → End → Place → List ℕ) {M : Type 0} (old new : ByLine M) (text written : List ℕ)
    → (s : LinesSoFar says e old text written) → Ended says e old new s.last → AllLines says e text (written ++ new.out.items) new.refused
AllLines-ended says e old new text written s end = record {
  lines = s.lines;
  last = s.last;
  joined = s.joined;
  each = s.each;
  no_newline = s.no_newline;
  count = new.messages;
  texts = ended_texts says e old new text written s end;
}

-- how an input of lines ends is an end with the end of the input
pub IsLast-end_of : {E : Type 0} (answer : Result (Unit {0}) E) (end : End) → end ≡ end_of answer → IsLast end
IsLast-end_of (Ok done) end is = rw is tt
IsLast-end_of (Err error) end is = rw is tt

-- the end of the input was found, and with it the last line ended or memory ran out
pub AreLinesOf-at_end : (says : LineSaying) (e : ℕ → End → Place → List ℕ) {M E : Type 0} (P : Type 0) (new : ByLine M) (text written : List ℕ) (answer : Result (Unit {0}) E) (end : End) (place : Place)
    → P → end ≡ end_of answer → AreFinished says e answer new text written → AreLinesOf says e P text (written ++ new.out.items) end new.refused place
AreLinesOf-at_end says e P new text written (Ok done) end place at_end is finished = rw is (at_end, finished)
AreLinesOf-at_end says e P new text written (Err error) end place at_end is finished =
    let halted : HaltedLines says e text (written ++ new.out.items) new.refused =
    record { front = text; back = []; joined = sym (append-nil text); near = omega arith; before = finished } in
    rw is halted

-- memory ran out while a text was taken
pub AreLinesOf-taken : (says : LineSaying) (e : ℕ → End → Place → List ℕ) {M : Type 0} (P : Type 0) (new : ByLine M) (before text written : List ℕ) (place : Place) → length text ≤ 65536
    → ((front : List ℕ) × (back : List ℕ) × (text ≡ front ++ back) × FrontLines says e (before ++ front) (written ++ new.out.items) new.refused)
    → AreLinesOf says e P (before ++ text) (written ++ new.out.items) (Refused refusals.NoMemory) new.refused place
AreLinesOf-taken says e P new before text written place few taken = record {
  front = before ++ taken.0;
  back = taken.1;
  joined = rw (taken.2, append_assoc) refl;
  near = omega (arith, few, ap length taken.2, length-append taken.0 taken.1);
  before = taken.3;
}

-- nothing is printed of no line
pub HaltedLines-none : (says : LineSaying) (e : ℕ → End → Place → List ℕ) → HaltedLines says e [] [] false
HaltedLines-none says e = record {
  front = [];
  back = [];
  joined = refl;
  near = omega arith;
  before = record { lines = []; last = []; joined = refl; each = All-nil IsLine; no_newline = All-nil (λ c. c ≢ 10); count = 0; texts = (refl, refl, refl) };
}

-- the text of a line was made
pub PrintsLine-made : (says : LineSaying) (e : ℕ → End → Place → List ℕ) {E : Type 0} (A : ℕ → List ℕ → Type 0) (n : ℕ) (lines text : List ℕ) (end : End) (faulty : Bool) (place : Place) (last : ℕ) (r : Result Bool E)
    → ((first : ℕ) (line : List ℕ) → A first line → IsPrintedOf (says (n + 1)) first (Unit {0}) line lines end faulty place)
    → text ≡ lines ++ e (n + 1) end place → last ≡ place.messages → IfOk r (λ refused. IsJudged end faulty refused)
    → IfOk r (λ refused. (first : ℕ) (line : List ℕ) → A first line → PrintsLine says e n first line text refused last)
PrintsLine-made says e A n lines text end faulty place last (Ok refused) printed is counted judged = λ first line along.
    record { lines = lines; end = end; faulty = faulty; place = place; by_itself = printed first line along; judged = judged; is_text = is; counted = counted }
PrintsLine-made says e A n lines text end faulty place last (Err error) printed is counted judged = tt

-- the last line ended, or memory ran out
pub AreFinished-ended : (says : LineSaying) (e : ℕ → End → Place → List ℕ) {M E : Type 0} (old new : ByLine M) (text written : List ℕ) (answer : Result (Unit {0}) E)
    → LinesSoFar says e old text written
    → OnOk answer ((line : List ℕ) → IsAlong (says (old.before + 1)) old.messages old.reading line old.stopped → Ended says e old new line)
    → OnErr answer (KeepsTexts old new) → AreFinished says e answer new text written
AreFinished-ended says e old new text written (Ok done) s ended kept = AllLines-ended says e old new text written s (ended s.last s.along)
AreFinished-ended says e old new text written (Err error) s ended kept = FrontLines-kept says e old new text written s kept

-- nothing changed but the line that is read
pub KeepsTexts-both : {M : Type 0} (a b c : ByLine M) → KeepsTexts a b → KeepsTexts b c → KeepsTexts a c
KeepsTexts-both a b c first second =
    record { before = second.before ∙ first.before; messages = second.messages ∙ first.messages; out = second.out ∙ first.out; marked = second.marked ∙ first.marked }

-- a line was refused, and is read no further
pub IsAlong-stopped : (says : Saying) {M E : Type 0} (old taken new : Reading M) (before stopped : Option Refusal) (part : List ℕ) (why : Refusal) (r : Result (Unit {0}) E)
    → is_some before ≡ false → new ≡ taken
    → ((first : ℕ) (line written : List ℕ) → SoFar says first old line written None → TakesText says first (Err why) taken line part written)
    → OnOk r (MayStop why × (stopped ≡ Some why))
    → OnOk r ((first : ℕ) (line : List ℕ) → IsAlong says first old line before → IsAlong says first new (line ++ part) stopped)
IsAlong-stopped says old taken new None stopped part why (Ok done) none same takes s = λ first line along.
    rw (same, s.1) (IsStopped-taken says first taken line part why s.0 (takes first line [] along))
IsAlong-stopped says old taken new (Some x) stopped part why (Ok done) none same takes s = absurd cc
IsAlong-stopped says old taken new before stopped part why (Err error) none same takes s = tt

-- memory ran out behind what is used of a text
pub TakesLines-halted : (says : LineSaying) (e : ℕ → End → Place → List ℕ) {M E : Type 0} (old new : ByLine M) (before used rest text written : List ℕ) (answer : Result (Unit {0}) E) (error : E)
    → answer ≡ Err error → text ≡ used ++ rest → LinesSoFar says e old (before ++ used) written → KeepsTexts old new → TakesLines says e answer new before text written
TakesLines-halted says e old new before used rest text written answer error is joined s kept =
    rw is (used, rest, joined, FrontLines-kept says e old new (before ++ used) written s kept)

-- the rest of a text is part of a line
pub LinesSoFar-rest : (says : LineSaying) (e : ℕ → End → Place → List ℕ) {M : Type 0} (old new : ByLine M) (before used part text written : List ℕ)
    → text ≡ used ++ part → LinesSoFar says e old (before ++ used) written → KeepsTexts old new → IsLine part
    → ((first : ℕ) (line : List ℕ) → IsAlong (says (old.before + 1)) first old.reading line old.stopped → IsAlong (says (old.before + 1)) first new.reading (line ++ part) new.stopped)
    → LinesSoFar says e new (before ++ text) written
LinesSoFar-rest says e old new before used part text written joined s kept is_line along =
    rw (joined, ← append_assoc) (LinesSoFar-part says e old new (before ++ used) part written s kept is_line along)

-- a line and its newline more
pub LinesSoFar-line : (says : LineSaying) (e : ℕ → End → Place → List ℕ) {M : Type 0} (old between new : ByLine M) (before used part written : List ℕ)
    → LinesSoFar says e old (before ++ used) written → KeepsTexts old between → IsLine part
    → ((first : ℕ) (line : List ℕ) → IsAlong (says (old.before + 1)) first old.reading line old.stopped → IsAlong (says (old.before + 1)) first between.reading (line ++ part) between.stopped)
    → ((line : List ℕ) → IsAlong (says (between.before + 1)) between.messages between.reading line between.stopped → Ended says e between new line)
    → LinesSoFar says e new (before ++ (used ++ (part ++ 10 ∷ []))) written
LinesSoFar-line says e old between new before used part written s kept is_line along ended =
    let taken = LinesSoFar-part says e old between (before ++ used) part written s kept is_line along in
    rw (← append_assoc, ← append_assoc) (LinesSoFar-ended says e between new ((before ++ used) ++ part) written taken (ended taken.last taken.along))

-- the newline behind a line
pub newline_at : (n : ℕ) (xs : List ℕ) → n < length xs → get_or xs n 0 ≡ 10 → xs ≡ (take n xs ++ 10 ∷ []) ++ drop (n + 1) xs
newline_at n xs within is =
    let cut : drop n xs ≡ 10 ∷ drop (n + 1) xs = cut_at xs n within ∙ ap (λ (c : ℕ). c ∷ drop (n + 1) xs) is in
    front_more [] xs n ∙ ap (λ (ys : List ℕ). take n xs ++ ys) cut ∙ sym (append_assoc (take n xs) (10 ∷ []) (drop (n + 1) xs))
