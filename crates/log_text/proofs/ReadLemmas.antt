-- Line after line of a text.
use Rattle.std.proofs.Common.{arith, ◌≢◌, ◌==◌, ◌≡◌, ◌<◌, ◌≤◌, ◌++◌, ◌∷◌, ◌∙◌, ◌+◌, Bool, true, false, None, List, [], ℕ, length, take, get_or, refl, ap, sym, subst, append_assoc, length-append}
use Rattle.std.specs.Prelude.{codes, nat_lt}
use Rattle.std.proofs.Math.ListN.{get_or-append}
use Rattle.std.proofs.Math.Seq.{get_or-append_seam, take-append_seam}
use Rattle.std.proofs.lemmas.Bool.{ltb-true}
use Rattle.std.proofs.lemmas.Bool.Decides.{nat_tests}
use Rattle.std.specs.List.{count_by, flat_map, join_with_byte}
use Rattle.std.proofs.lemmas.List.{append-nil, take-append-le}
use Rattle.std.proofs.lemmas.Grind.{flat_map-append}
use Rattle.std.proofs.lemmas.List.Splits.{join_with_byte-slice_split, length-slice_split}
use Rattle.text_parts.specs.Pieces.{pieces_in}
use Rattle.log_text.specs.ItemLines.{AreWords}
use Rattle.log_text.specs.Books.{Named}
use Rattle.log_text.specs.EntryLines.{log_lines}
use Rattle.log_text.specs.Following.{IsTold, MayStandAt, SoFar, end_after, end_of, ended, entries_of, so_far, told_to}
use Rattle.log_text.specs.Reading.{AreGood, Follows, IsFirstBad, front_of, lines_in, whole}
use Rattle.log_text.specs.declared.end.End.{End}
use Rattle.log_text.specs.declared.end.Last.TheVariants.{Other}
use Rattle.log_text.specs.declared.end.LogLine.{LogLine}
use Rattle.log_text.specs.declared.pending.Reader.{Reader}
use Rattle.log_text.proofs.ReaderLemmas.{IsSound, stands-at, told_ends, told_follows, told_lines, told_sound}

-- each line may follow, and so may one more
good-more : (names : Named) (lines : List (List ℕ)) (line : List ℕ) → AreGood names lines → Follows names lines line → AreGood names (lines ++ line ∷ [])
good-more names lines line good one place within =
    elim (nat_lt place (length lines)) as (λ b. nat_lt place (length lines) ≡ b → Follows names (take place (lines ++ line ∷ [])) (get_or (lines ++ line ∷ []) place [])) [
      | true ↦ λ e.
          let less : place < length lines = ltb-true place (length lines) e in
          let most : place ≤ length lines = omega arith in
          rw (take-append-le place lines (line ∷ []) most, get_or-append lines (line ∷ []) [] place less) (good place less)
      | false ↦ λ e.
          let count = length-append lines (line ∷ []) in
          let last : place ≡ length lines = grind (arith, nat_tests) in
          rw (last, take-append_seam lines (line ∷ []), get_or-append_seam lines line [] []) one
    ] refl

-- so many lines are read, and tell this; where memory did not run out the reader has it
pub record Read (names : Named) (reader : Reader) (end : End) (short : Bool) (text : List ℕ) (left : List (List ℕ)) (place : ℕ) : Type 0 where
  pub before : List (List ℕ)
  pub cut : lines_in text ≡ before ++ left
  pub counted : place ≡ length before
  pub far : SoFar
  pub sound : IsSound far
  pub told : log_lines names (entries_of far) ≡ flat_map ended before
  pub ends : end ≡ end_of far
  pub good : AreGood names before
  pub has : short ≡ false → so_far reader ≡ far

-- a line is read
pub one_line : (names : Named) (reader next : Reader) (end after : End) (short more : Bool) (told : LogLine) (text : List ℕ) (line : List ℕ) (old left : List (List ℕ)) (place : ℕ)
    → Read names reader end short text old place → old ≡ line ∷ left → IsTold names end line told → after ≡ end_after end told → (more ≡ false → short ≡ false)
    → (more ≡ false → so_far next ≡ told_to (so_far reader) told)
    → Read names next after more text left (place + 1)
one_line names reader next end after short more told text line old left place read one tells ends before taken =
    let is : IsTold names (end_of read.far) line told = subst (λ (end : End). IsTold names end line told) read.ends tells in
    record {
      before = read.before ++ line ∷ [];
      cut = read.cut ∙ ap (λ ls. read.before ++ ls) one ∙ sym (append_assoc read.before (line ∷ []) left);
      counted = ap (λ n. n + 1) read.counted ∙ sym (length-append read.before (line ∷ []));
      far = told_to read.far told;
      sound = told_sound names read.far line told read.sound is;
      told = told_lines names read.far line told read.sound is ∙ ap (λ t. t ++ ended line) read.told ∙ ap (λ t. flat_map ended read.before ++ t) (sym (append-nil (ended line)))
          ∙ sym (flat_map-append ended read.before (line ∷ []));
      ends = ends ∙ ap (λ (end : End). end_after end told) read.ends ∙ sym (told_ends names read.far line told is);
      good = good-more names read.before line read.good (record { log = entries_of read.far; front = read.told; may = told_follows names read.far line told read.sound is });
      has = λ long. taken long ∙ ap (λ (far : SoFar). told_to far told) (read.has (before long));
    }

-- a line that may not follow is the first bad one
pub first_bad : (names : Named) (reader : Reader) (end : End) (short : Bool) (text : List ℕ) (line : List ℕ) (old left : List (List ℕ)) (place : ℕ)
    → Read names reader end short text old place → old ≡ line ∷ left → (AreWords names → MayStandAt names end line → ⊥)
    → IsFirstBad names text (place + 1)
first_bad names reader end short text line old left place read one bad = record {
  before = read.before;
  line = line;
  behind = left;
  cut = read.cut ∙ ap (λ ls. read.before ++ ls) one;
  counted = ap (λ n. n + 1) read.counted;
  good = read.good;
  log = entries_of read.far;
  front = read.told;
  bad = λ words may. bad words (subst (λ (end : End). MayStandAt names end line) (sym read.ends) (stands-at names read.far line read.sound may));
}

-- lines, each with its newline
pub ended-joined : (line : List ℕ) (lines : List (List ℕ)) → flat_map ended (line ∷ lines) ≡ ended (join_with_byte 10 (line ∷ lines))
ended-joined line [] = append-nil (ended line)
ended-joined line (next ∷ lines) =
    ap (λ t. ended line ++ t) (ended-joined next lines) ∙ append_assoc line (codes "\n") _ ∙ sym (append_assoc line (10 ∷ join_with_byte 10 (next ∷ lines)) (codes "\n"))

longer : (n : ℕ) → n + 1 ≢ 0
longer n is = absurd (omega (arith, is))

-- pieces are never none
pub cut-again : (text : List ℕ) → flat_map ended (pieces_in 10 text) ≡ ended text
cut-again text = by (pieces_in 10 text) refl
  where
    by : (pieces : List (List ℕ)) → pieces_in 10 text ≡ pieces → flat_map ended pieces ≡ ended text
    by [] is = absurd (longer (count_by (λ b. b == 10) text) (sym (length-slice_split (λ b. b == 10) text) ∙ ap length is))
    by (piece ∷ pieces) is = ended-joined piece pieces ∙ ap ended (ap (join_with_byte 10) (sym is) ∙ join_with_byte-slice_split 10 text)

-- all lines are the text
pub all_lines : (text : List ℕ) → flat_map ended (lines_in text) ≡ whole text
all_lines [] = refl
all_lines (c ∷ cs) = cut-again (front_of (c ∷ cs))

-- where no line is left, the whole text is told
pub all_read : (names : Named) (reader : Reader) (end : End) (text : List ℕ) (left : List (List ℕ)) (place : ℕ)
    → Read names reader end false text left place → left ≡ [] → log_lines names (entries_of (so_far reader)) ≡ whole text
all_read names reader end text left place read none =
    ap (λ (far : SoFar). log_lines names (entries_of far)) (read.has refl) ∙ read.told
    ∙ ap (flat_map ended) (sym (append-nil read.before) ∙ ap (λ ls. read.before ++ ls) (sym none) ∙ sym read.cut) ∙ all_lines text

-- and each line of it may follow
pub all_good : (names : Named) (reader : Reader) (end : End) (short : Bool) (text : List ℕ) (left : List (List ℕ)) (place : ℕ)
    → Read names reader end short text left place → left ≡ [] → AreGood names (lines_in text)
all_good names reader end short text left place read none =
    subst (AreGood names) (sym (append-nil read.before) ∙ ap (λ ls. read.before ++ ls) (sym none) ∙ sym read.cut) read.good

no_lines : (names : Named) → AreGood names []
no_lines names place within = absurd (omega (arith, within))

-- before any line
pub none_read : (names : Named) (reader : Reader) (end : End) (text : List ℕ) (left : List (List ℕ)) → (length text == 0) ≡ false → so_far reader ≡ record { log = []; begun = None }
    → end ≡ record { entries = 0; last = Other } → left ≡ pieces_in 10 (front_of text) → Read names reader end false text left 0
none_read names reader end [] left some empty start all = absurd (cc)
none_read names reader end (c ∷ text) left some empty start all = record {
  before = [];
  cut = sym all;
  counted = refl;
  far = record { log = []; begun = None };
  sound = record { reading = λ none. refl; begun = λ begun is. absurd (cc) };
  told = refl;
  ends = start;
  good = no_lines names;
  has = λ long. empty;
}
