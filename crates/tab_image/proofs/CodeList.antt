use Rattle.std.proofs.Common.{◌≡◌, ℕ, ◌+◌, ◌<◌, ◌≤◌, suc, zero, List, [], ◌++◌, length, arith, refl, sym, ap, ◌∙◌}
use Rattle.std.specs.List.{All}
use Rattle.std.proofs.lemmas.List.{length-append}
use Rattle.std.proofs.lemmas.List.Concat.{flat_map-append}
use Rattle.tab_text.specs.Contents.{Contents}
use Rattle.tab_text.specs.declared.row.Row.{Row}
use Rattle.tab_asm.specs.Formats.{format_2, Instruction, octets_of, code_of}
use Rattle.tab_asm.specs.Images.{Image}
use Rattle.tab_asm.specs.Assembled.{rows_in, code_to, row_size, row_instructions, entry_instructions}
use Rattle.tab_asm.proofs.CodeLemmas.{row-length}

-- the instructions of the first entries, one behind the other
abbrev pub instructions_to : Contents → ℕ → List Instruction
instructions_to table zero = []
instructions_to table (suc entry) =
    instructions_to table entry ++ entry_instructions (length (code_of format_2 (instructions_to table entry))) (rows_in table entry)

-- the code of the first entries is that of their instructions
pub code-is : (table : Contents) (n : ℕ) → code_to table n ≡ code_of format_2 (instructions_to table n)
unfolding code_to
code-is table zero = refl
code-is table (suc n) =
    let before = instructions_to table n in
    ap (λ (code : List ℕ). code ++ code_of format_2 (entry_instructions (length code) (rows_in table n))) (code-is table n)
    ∙ sym (flat_map-append (octets_of format_2) before (entry_instructions (length (code_of format_2 before)) (rows_in table n)))

-- how many octets instructions have behind others
pub code-append : (before more : List Instruction) → length (code_of format_2 (before ++ more)) ≡ length (code_of format_2 before) + length (code_of format_2 more)
code-append before more =
    ap length (flat_map-append (octets_of format_2) before more) ∙ length-append (code_of format_2 before) (code_of format_2 more)

-- where the next row begins
pub row-behind : (before : List Instruction) (offset otherwise : ℕ) (numbered : ℕ × Row) → offset ≡ length (code_of format_2 before) → offset + row_size numbered.1 ≡ length (code_of format_2 (before ++ row_instructions otherwise numbered))
row-behind before offset otherwise numbered at =
    let long = code-append before (row_instructions otherwise numbered) in
    let row = row-length otherwise numbered in
    omega (arith, at, long, row)

-- the numbers of a row are in range of the image, and it has at most 8 actions
pub record IsRowIn (image : Image) (numbered : ℕ × Row) : Type 0 where
  pub number : numbered.0 < image.rows
  pub guards : All (λ guard. guard < length image.guards) numbered.1.guards
  pub actions : All (λ action. action < length image.actions) numbered.1.actions
  pub next : numbered.1.next < length image.states
  pub few_actions : length numbered.1.actions ≤ 8
