use Rattle.std.proofs.Common.{◌≡◌, ℕ, ◌<◌, List, [], None, length, arith, sym, ap, ◌∙◌}
use Rattle.std.specs.List.{All}
use Rattle.std.proofs.lemmas.List.FromFn.{get_or-map-range_with_len, length-map-range_with_len}
use Rattle.tab_text.specs.Contents.{Contents}
use Rattle.tab_asm.specs.Formats.{Instruction}
use Rattle.tab_asm.specs.Assembled.{code_to, entry_offset, entry_count, image_of}
use Rattle.tab_load.specs.Code.{Fits, landings}
use Rattle.tab_load.specs.Loading.{CodeWrong, IsSound, counts_of}
use Rattle.tab_load.specs.declared.counts.Format.TheVariants.{Two}
use Rattle.tab_load.specs.declared.fault.ImageFault.{ImageFault}
use Rattle.tab_image.specs.Tables.{HasImage}
use Rattle.tab_image.proofs.CodeList.{instructions_to, code-is}
use Rattle.tab_image.proofs.CodeFine.{table-fine}
use Rattle.tab_image.proofs.CodeLands.{table-leads, table-entries, table-ended, marks-length}
use Rattle.tab_image.proofs.CodeSound.{sound-no-fault}
use Rattle.tab_image.proofs.CodeSpelt.{all-spelt}

-- the instructions of a table
abbrev pub instructions_in : Contents → List Instruction
instructions_in table = instructions_to table (entry_count table)

-- the operands of the instructions of a table are numbers that their octets can hold
table-spelt : (table : Contents) → HasImage table → All (Fits Two) (instructions_in table)
table-spelt table has =
    let instructions = instructions_in table in
    let long : length (landings Two instructions) ≡ length (code_to table (entry_count table)) = marks-length instructions ∙ sym (ap length (code-is table (entry_count table))) in
    let rows = has.numbered.within.few_rows in
    let octets = has.few_octets in
    all-spelt (image_of table) (landings Two instructions) [] instructions (omega (arith, rows)) (omega (arith, long, octets)) (table-fine table (entry_count table) has.numbered.within) (table-leads table (entry_count table))

-- the code of a table is sound
pub assembled-sound : (table : Contents) → HasImage table → IsSound Two (counts_of (image_of table)) (code_to table (entry_count table)) (image_of table).entries (instructions_in table)
assembled-sound table has = record {
  is_code = record { whole = code-is table (entry_count table); fits = table-spelt table has; fine = table-fine table (entry_count table) has.numbered.within };
  ended = table-ended table (entry_count table);
  guards = table-leads table (entry_count table);
  entries_lead = λ number inside.
      let below : number < entry_count table = omega (arith, inside, length-map-range_with_len (entry_offset table) 0 (entry_count table)) in
      rw (get_or-map-range_with_len (entry_offset table) 0 (entry_count table) number number None below (omega arith)) (table-entries table (entry_count table) number below);
}

-- the code of a table has no fault
pub no-code-fault : (table : Contents) → HasImage table → (begin entries-begin whole at : ℕ) (fault : ImageFault) → CodeWrong Two (counts_of (image_of table)) (code_to table (entry_count table)) (image_of table).entries begin entries-begin whole at fault → ⊥
no-code-fault table has begin entries-begin whole at fault wrong =
    sound-no-fault (image_of table) (code_to table (entry_count table)) (image_of table).entries (instructions_in table) (assembled-sound table has) begin entries-begin whole at fault wrong
