-- The lines of entries and instructions.
use Rattle.std.proofs.Common.{◌≡◌, ℕ, ◌+◌, ◌<◌, ◌≤◌, suc, zero, cond, nat_lt, List, [], ◌∷◌, ◌++◌, Some, None, length, take, drop, arith, refl, sym, ap, ◌∙◌, append_assoc, append-nil, length-append}
use Rattle.std.specs.Prelude.{All}
use Rattle.std.specs.List.{flat_map, range_with_len, slice_index_or}
use Rattle.std.proofs.lemmas.List.{drop-drop, flat_map_more, length-drop, length-take-le}
use Rattle.std.proofs.lemmas.List.Elements.{All-append}
use Rattle.std.proofs.Math.Seq.{drop-append_seam, take-length}
use Rattle.std.proofs.lemmas.Bool.Decides.{nat_tests}
use Rattle.tab_asm.specs.Formats.{Instruction, BeginRow, TestGuard, RunAction, GoTo, NoRow, code_of, octets_of}
use Rattle.tab_asm.specs.Images.{Image}
use Rattle.tab_load.specs.Code.{Fits, octets_fault}
use Rattle.tab_load.specs.Faults.{format_of}
use Rattle.tab_load.specs.Loading.{Loaded}
use Rattle.tab_load.specs.declared.counts.Format.{Format}
use Rattle.tab_load.specs.declared.counts.Format.TheVariants.{One, Two}
use Rattle.tab_load.specs.declared.fault.ImageFault.TheVariants.{Cut}
use Rattle.tab_load.proofs.ScanLemmas.{code-more, front-more, size-at}
use Rattle.image_text.specs.Listings.{IsCodeListing, code_text, line_text}

-- one number more
range-more : (a n : ℕ) → range_with_len a (suc n) ≡ range_with_len a n ++ (a + n) ∷ []
range-more a zero = ap (λ (x : ℕ). x ∷ []) (omega arith)
range-more a (suc n) =
    let rest : range_with_len (a + 1) (suc n) ≡ range_with_len (a + 1) n ++ (a + 1 + n) ∷ [] = range-more (a + 1) n in
    let last : a + 1 + n ≡ a + suc n = omega arith in
    ap (λ (xs : List ℕ). a ∷ xs) (rest ∙ ap (λ (x : ℕ). range_with_len (a + 1) n ++ x ∷ []) last)

-- and its text
pub entries-more : (f : ℕ → List ℕ) (n : ℕ) (before out more : List ℕ) → out ≡ before ++ flat_map f (range_with_len 0 n) → more ≡ out ++ f n → more ≡ before ++ flat_map f (range_with_len 0 (n + 1))
entries-more f n before out more is put =
    let next : suc n ≡ n + 1 = omega arith in
    let last : 0 + n ≡ n = omega arith in
    let numbers : range_with_len 0 (n + 1) ≡ range_with_len 0 n ++ n ∷ [] =
    ap (λ (k : ℕ). range_with_len 0 k) (sym next) ∙ range-more 0 n ∙ ap (λ (k : ℕ). range_with_len 0 n ++ k ∷ []) last in
    put ∙ ap (λ (text : List ℕ). text ++ f n) is ∙ flat_map_more f before (range_with_len 0 n) n
    ∙ ap (λ (all : List ℕ). before ++ flat_map f all) (sym numbers)

-- the text of one more instruction
code_text-more : (format : Format) (image : Image) (at : ℕ) (before : List Instruction) (one : Instruction) → code_text format image at (before ++ one ∷ []) ≡ code_text format image at before ++ line_text image (at + length (code_of (format_of format) before)) one
code_text-more format image at [] one =
    append-nil (line_text image at one) ∙ ap (λ (n : ℕ). line_text image n one) (omega arith)
code_text-more format image at (first ∷ before) one =
    let size = length (octets_of (format_of format) first) in
    let long : length (code_of (format_of format) (first ∷ before)) ≡ size + length (code_of (format_of format) before) = length-append (octets_of (format_of format) first) (code_of (format_of format) before) in
    let place : at + size + length (code_of (format_of format) before) ≡ at + length (code_of (format_of format) (first ∷ before)) = omega (arith, long) in
    ap (λ (text : List ℕ). line_text image at first ++ text) (code_text-more format image (at + size) before one)
    ∙ sym (append_assoc (line_text image at first) (code_text format image (at + size) before) (line_text image (at + size + length (code_of (format_of format) before)) one))
    ∙ ap (λ (n : ℕ). (line_text image at first ++ code_text format image (at + size) before) ++ line_text image n one) place

-- the instructions before an offset are printed, and others stand behind it
pub record IsPrinted (format : Format) (image : Image) (start out : List ℕ) (at : ℕ) : Type 0 where
  pub before : List Instruction
  pub after : List Instruction
  pub front : take at image.code ≡ code_of (format_of format) before
  pub fit : All (Fits format) before
  pub rest : drop at image.code ≡ code_of (format_of format) after
  pub inside : at ≤ length image.code
  pub printed : out ≡ start ++ code_text format image 0 before

-- octets that are enough aren't cut off
enough : (n size : ℕ) → size ≤ n → cond (nat_lt n size) (Some Cut) None ≡ None
enough n size few = grind (arith, nat_tests)

-- octets that begin with an instruction have no fault
octets-fine : (format : Format) (one : Instruction) (rest : List ℕ) → octets_fault format (octets_of (format_of format) one ++ rest) ≡ None
octets-fine One (BeginRow row) rest = enough _ _ (omega arith)
octets-fine One (TestGuard guard otherwise) rest = enough _ _ (omega arith)
octets-fine One (RunAction action) rest = enough _ _ (omega arith)
octets-fine One (GoTo state) rest = enough _ _ (omega arith)
octets-fine One NoRow rest = enough _ _ (omega arith)
octets-fine Two (BeginRow row) rest = enough _ _ (omega arith)
octets-fine Two (TestGuard guard otherwise) rest = enough _ _ (omega arith)
octets-fine Two (RunAction action) rest = enough _ _ (omega arith)
octets-fine Two (GoTo state) rest = enough _ _ (omega arith)
octets-fine Two NoRow rest = enough _ _ (omega arith)

-- so it is at each offset that was reached
pub next-fine : (format : Format) (image : Image) (start out : List ℕ) (at : ℕ) → IsPrinted format image start out at → at < length image.code → octets_fault format (drop at image.code) ≡ None
next-fine format image start out at is inside = go is.after is.rest
  where
    go : (after : List Instruction) → drop at image.code ≡ code_of (format_of format) after → octets_fault format (drop at image.code) ≡ None
    go [] rest = let long = length-drop at image.code in let none = ap length rest in absurd (omega (arith, inside, long, none))
    go (one ∷ after) rest = ap (octets_fault format) rest ∙ octets-fine format one (code_of (format_of format) after)

-- nothing is printed yet
pub IsPrinted-start : (format : Format) (image : Image) (start : List ℕ) (instructions : List Instruction) → image.code ≡ code_of (format_of format) instructions → IsPrinted format image start start 0
IsPrinted-start format image start instructions whole = record {
  before = [];
  after = instructions;
  front = refl;
  fit = λ k d inside. absurd (omega (arith, inside));
  rest = whole;
  inside = omega arith;
  printed = sym (append-nil start);
}

only-one : (P : Instruction → Type 0) (one : Instruction) → P one → All P (one ∷ [])
only-one P one is = λ k d inside. at k d inside
  where
    at : (k : ℕ) (d : Instruction) → k < 1 → P (slice_index_or (one ∷ []) k d)
    at zero d inside = is
    at (suc k) d inside = absurd (omega (arith, inside))

-- one more instruction is printed
pub IsPrinted-more : (format : Format) (image : Image) (start out more : List ℕ) (at size : ℕ) (one : Instruction) (rest : List ℕ) → IsPrinted format image start out at → at < length image.code → drop at image.code ≡ octets_of (format_of format) one ++ rest → Fits format one → size ≡ length (octets_of (format_of format) one) → more ≡ out ++ line_text image at one → IsPrinted format image start more (at + size)
IsPrinted-more format image start out more at size one rest is inside stands fits sized put = go is.after is.rest
  where
    go : (after : List Instruction) → drop at image.code ≡ code_of (format_of format) after → IsPrinted format image start more (at + size)
    go [] left = let long = length-drop at image.code in let none = ap length left in absurd (omega (arith, inside, long, none))
    go (other ∷ after) left =
        let spec = format_of format in
        let same : size ≡ length (octets_of spec other) =
        sized ∙ sym (size-at format one image.code at rest stands) ∙ size-at format other image.code at (code_of spec after) left in
        let long = length-drop at image.code in
        let parts : length (drop at image.code) ≡ length (octets_of spec other) + length (code_of spec after) = ap length left ∙ length-append (octets_of spec other) (code_of spec after) in
        let place : length (code_of spec is.before) ≡ at = sym (ap length is.front) ∙ length-take-le at image.code is.inside in
        let lines : code_text format image 0 (is.before ++ one ∷ []) ≡ code_text format image 0 is.before ++ line_text image at one =
        code_text-more format image 0 is.before one ∙ ap (λ (n : ℕ). code_text format image 0 is.before ++ line_text image n one) (omega (arith, place)) in
        record {
          before = is.before ++ one ∷ [];
          after = after;
          front = front-more image.code at size (code_of spec is.before) (octets_of spec one) rest is.front stands (sym sized) ∙ sym (code-more format is.before one);
          fit = All-append (Fits format) is.before (one ∷ []) is.fit (only-one (Fits format) one fits);
          rest = sym (drop-drop size at image.code) ∙ ap (drop size) left ∙ ap (λ (n : ℕ). drop n (octets_of spec other ++ code_of spec after)) same ∙ drop-append_seam (octets_of spec other) (code_of spec after);
          inside = omega (arith, inside, long, parts, same);
          printed = put ∙ ap (λ (text : List ℕ). text ++ line_text image at one) is.printed
              ∙ append_assoc start (code_text format image 0 is.before) (line_text image at one) ∙ ap (λ (text : List ℕ). start ++ text) (sym lines);
        }

-- all of them are printed
pub IsPrinted-all : (program : Loaded) (start out : List ℕ) (at : ℕ) → IsPrinted program.format program.image start out at → length program.image.code ≤ at → IsCodeListing program start out
IsPrinted-all program start out at is end =
    let whole : at ≡ length program.image.code = omega (arith, end, is.inside) in
    record {
      instructions = is.before;
      are = record {
        whole = sym (take-length program.image.code) ∙ ap (λ (n : ℕ). take n program.image.code) (sym whole) ∙ is.front;
        fit = is.fit;
      };
      printed = is.printed;
    }
