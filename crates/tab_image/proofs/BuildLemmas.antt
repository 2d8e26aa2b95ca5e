use Rattle.std.proofs.Common.{◌≡◌, ℕ, ◌+◌, ◌*◌, ◌≤◌, List, Option, Some, None, length, take, map, arith, refl, sym, ap, subst, ◌∙◌}
use Rattle.std.specs.List.{range_with_len}
use Rattle.std.proofs.lemmas.List.{take_all}
use Rattle.std.proofs.lemmas.List.FromFn.{length-map-range_with_len}
use Rattle.tab_law.specs.Books.{Laws}
use Rattle.tab_text.specs.Contents.{Contents}
use Rattle.tab_text.specs.Rows.{IsNumberedTable}
use Rattle.tab_step.specs.Bind.{BoundTable, IsBoundTo}
use Rattle.tab_asm.specs.Formats.{format_2}
use Rattle.tab_asm.specs.Images.{Image, image_octets}
use Rattle.tab_asm.specs.Assembled.{code_to, entry_offset, entry_count, image_of}
use Rattle.tab_load.specs.Faults.{BeginsWith, MagicWrong}
use Rattle.tab_load.specs.Loading.{Lists, Loaded, HasFault, InMagic, InCounts, InNames, InBody, InCode, BehindCode, NamesAre, AnyNameWrong, IsHead, HasBody, IsReadFrom, EntriesOf, CutWrong, CodeWrong, code_begin, code_in, counts_of, entry_count as count_of}
use Rattle.tab_load.specs.declared.counts.Format.{Format}
use Rattle.tab_load.specs.declared.counts.Format.TheVariants.{One, Two}
use Rattle.tab_load.specs.declared.fault.ImageFault.{ImageFault}
use Rattle.tab_load.specs.declared.fault.ImageFault.TheVariants.{Magic, Cut, Count, Name, Unbound, Offset, BackJump, OpCode, NoEnd, Trailing}
use Rattle.tab_image.specs.Tables.{HasImage}
use Rattle.tab_image.proofs.CodeFaults.{no-code-fault}
use Rattle.tab_image.proofs.HeadLemmas.{not-one, counts-same}
use Rattle.tab_image.proofs.KnownLemmas.{AreThese, these-names, no-name-fault, HasBodyAt, body-long, this-body, not-cut}
use Rattle.tab_image.proofs.ImageOctets.{has-image, offsets-fit}
use Rattle.tab_image.proofs.PartLemmas.{Parts, HasFew, parts-of, no-count-fault}
use Rattle.tab_image.proofs.TableNames.{HasFineNames, fine-table}

has-few : (table : Contents) → HasImage table → HasFew (image_of table)
has-few table has =
    let is = has.numbered.within in
    record { some_state = is.some_state; some_row = is.some_row; states = is.few_states; kinds = is.few_kinds; guards = is.few_guards; actions = is.few_actions; rows = is.few_rows }

-- no image begins with anything else
no-magic-fault : (octets : List ℕ) (at : ℕ) (fault : ImageFault) → 14 ≤ length octets → take 4 octets ≡ format_2.magic → MagicWrong octets at fault → ⊥
no-magic-fault octets at Cut long magic wrong = let short = wrong.wrong in omega (arith, long, short)
no-magic-fault octets at Magic long magic wrong = wrong.wrong.2 magic
no-magic-fault octets at Count long magic wrong = wrong.wrong
no-magic-fault octets at Name long magic wrong = wrong.wrong
no-magic-fault octets at Unbound long magic wrong = wrong.wrong
no-magic-fault octets at Offset long magic wrong = wrong.wrong
no-magic-fault octets at BackJump long magic wrong = wrong.wrong
no-magic-fault octets at OpCode long magic wrong = wrong.wrong
no-magic-fault octets at NoEnd long magic wrong = wrong.wrong
no-magic-fault octets at Trailing long magic wrong = wrong.wrong

-- what is known of the octets of a table's image
record IsImage (table : Contents) (octets : List ℕ) : Type 0 where
  has : HasImage table
  few : HasFew (image_of table)
  parts : Parts (image_of table) octets

is-image : (table : Contents) → IsNumberedTable table → IsImage table (image_octets format_2 (image_of table))
is-image table is =
    let has = has-image table is in
    let few = has-few table has in
    record { has = has; few = few; parts = parts-of (image_of table) few }

entries-many : (table : Contents) → entry_count table ≡ length (map (entry_offset table) (range_with_len 0 (entry_count table)))
entries-many table = sym (length-map-range_with_len (entry_offset table) 0 (entry_count table))

body-at : (laws : Laws) (table : Contents) (octets : List ℕ) (names : Lists) → IsImage table octets → AreThese (image_of table) octets names → HasBodyAt (image_of table) octets names.actions.end
body-at laws table octets names is these = record {
  body = these.body;
  inside = these.inside;
  fits = offsets-fit table is.has.numbered.within;
  few = omega (arith, is.has.few_octets);
}

-- what was read of the octets of a table's image is that image
record IsTheImage (table : Contents) (octets : List ℕ) (names : Lists) (entries : List (Option ℕ)) (size : ℕ) : Type 0 where
  these : AreThese (image_of table) octets names
  entries_are : entries ≡ (image_of table).entries
  code : code_in octets (names.actions.end + 4 * entry_count table + 4) size ≡ code_to table (entry_count table)
  end : names.actions.end + 4 * entry_count table + 4 + size ≡ length octets

the-image : (laws : Laws) (table : Contents) (octets : List ℕ) (counts : _) (names : Lists) (entries : List (Option ℕ)) (size : ℕ) → IsImage table octets → IsHead laws octets Two counts names → HasBody octets Two counts names entries size → (counts ≡ counts_of (image_of table)) × IsTheImage table octets names entries size
the-image laws table octets counts names entries size is head body =
    let same = counts-same (image_of table) octets counts is.parts head.counts_are in
    let these = these-names laws (image_of table) octets names is.parts (subst (λ (c : _). NamesAre laws octets c names) same head.names_are) in
    let at = body-at laws table octets names is these in
    let are = subst (λ (c : _). EntriesOf Two octets names.actions.end (count_of c) entries size) same body.entries_are in
    let this = this-body (image_of table) octets names.actions.end (entry_count table) entries size at (entries-many table) are in
    let long = body-long (image_of table) octets names.actions.end at in
    let many = entries-many table in (
      same,
      record {
        these = these;
        entries_are = this.entries_are;
        code = rw (this.code, this.size_is) (take_all (length (code_to table (entry_count table))) (code_to table (entry_count table)) (omega arith));
        end = omega (arith, long, many, this.size_is);
      },
    )

-- the image of a bound table has no fault
pub no-fault : (laws : Laws) (bound : BoundTable) → IsNumberedTable bound.table → IsBoundTo bound laws → (at : ℕ) (fault : ImageFault) → HasFault laws (image_octets format_2 (image_of bound.table)) at fault → ⊥
no-fault laws bound is fits at fault wrong =
    by_part wrong (image_octets format_2 (image_of bound.table)) refl (is-image bound.table is) (fine-table laws bound is fits)
  where
    by_part : HasFault laws (image_octets format_2 (image_of bound.table)) at fault → (octets : List ℕ) → octets ≡ image_octets format_2 (image_of bound.table) → IsImage bound.table (image_octets format_2 (image_of bound.table)) → HasFineNames laws bound.table → ⊥
    by_part (InMagic wrong) octets same image fine = no-magic-fault _ at fault image.parts.long image.parts.magic wrong
    by_part (InCounts One begins wrong) octets same image fine = not-one _ image.parts.magic begins
    by_part (InCounts Two begins wrong) octets same image fine =
        let none = no-count-fault (image_of bound.table) _ image.parts image.few wrong.number wrong.in_counts in
        let clash : None ≡ Some fault = sym none ∙ wrong.wrong in
        cc
    by_part (InNames One counts begins are wrong) octets same image fine = not-one _ image.parts.magic begins
    by_part (InNames Two counts begins are wrong) octets same image fine =
        let equal = counts-same (image_of bound.table) _ counts image.parts are in
        no-name-fault laws bound.table _ at fault image.parts fine (subst (λ (c : _). AnyNameWrong laws (image_octets format_2 (image_of bound.table)) c at fault) equal wrong)
    by_part (InBody One counts names head wrong) octets same image fine = not-one _ image.parts.magic head.begins
    by_part (InBody Two counts names head wrong) octets same image fine =
        let table = bound.table in
        let all = image_octets format_2 (image_of table) in
        let equal = counts-same (image_of table) all counts image.parts head.counts_are in
        let these = these-names laws (image_of table) all names image.parts (subst (λ (c : _). NamesAre laws all c names) equal head.names_are) in
        let has = body-at laws table all names image these in
        not-cut (image_of table) all names.actions.end (entry_count table) at fault has (entries-many table) (subst (λ (c : _). CutWrong Two all names.actions.end (count_of c) at fault) equal wrong)
    by_part (InCode One counts names entries size head body wrong) octets same image fine = not-one _ image.parts.magic head.begins
    by_part (InCode Two counts names entries size head body wrong) octets same image fine =
        let table = bound.table in
        let all = image_octets format_2 (image_of table) in
        let found = the-image laws table all counts names entries size image head body in
        let begin = names.actions.end + 4 * entry_count table + 4 in
        let one = subst (λ (c : _). CodeWrong Two c (code_in all (code_begin Two c names) size) entries (code_begin Two c names) names.actions.end (length all) at fault) found.0 wrong in
        let two = subst (λ (code : List ℕ). CodeWrong Two (counts_of (image_of table)) code entries begin names.actions.end (length all) at fault) found.1.code one in
        let three = subst (λ (e : List (Option ℕ)). CodeWrong Two (counts_of (image_of table)) (code_to table (entry_count table)) e begin names.actions.end (length all) at fault) found.1.entries_are two in
        no-code-fault table image.has begin names.actions.end (length all) at fault three
    by_part (BehindCode One counts names entries size instructions head body sound inside place is_fault) octets same image fine = not-one _ image.parts.magic head.begins
    by_part (BehindCode Two counts names entries size instructions head body sound inside place is_fault) octets same image fine =
        let table = bound.table in
        let all = image_octets format_2 (image_of table) in
        let found = the-image laws table all counts names entries size image head body in
        let there = subst (λ (c : _). at ≡ code_begin Two c names + size) found.0 place in
        omega (arith, there, found.1.end, inside)

image-same : (image : Image) (states kinds guards actions : List (List ℕ)) (rows : ℕ) (entries : List (Option ℕ)) (code : List ℕ) → image.states ≡ states → image.kinds ≡ kinds → image.guards ≡ guards → image.actions ≡ actions → image.rows ≡ rows → image.entries ≡ entries → image.code ≡ code → image ≡ record { states = states; kinds = kinds; guards = guards; actions = actions; rows = rows; entries = entries; code = code }
image-same image states kinds guards actions rows entries code a b c d e f g =
    rw (← a, ← b, ← c, ← d, ← e, ← f, ← g) refl

-- a program that was read from the image of a table has that image
pub read-back : (laws : Laws) (table : Contents) (program : Loaded) → IsNumberedTable table → IsReadFrom laws (image_octets format_2 (image_of table)) program → (program.format ≡ Two) × (program.image ≡ image_of table)
read-back laws table program is from = by_format program.format refl (is-image table is)
  where
    by_format : (format : Format) → program.format ≡ format → IsImage table (image_octets format_2 (image_of table)) → (program.format ≡ Two) × (program.image ≡ image_of table)
    by_format One one image = absurd (not-one _ image.parts.magic (subst (λ (f : Format). BeginsWith f (image_octets format_2 (image_of table))) one from.head.begins))
    by_format Two two image =
        let all = image_octets format_2 (image_of table) in
        let head = subst (λ (f : Format). IsHead laws all f from.counts from.names) two from.head in
        let body = subst (λ (f : Format). HasBody all f from.counts from.names program.image.entries from.size) two from.body in
        let found = the-image laws table all from.counts from.names program.image.entries from.size image head body in
        let begin : code_begin program.format from.counts from.names ≡ from.names.actions.end + 4 * entry_count table + 4 = ap (λ (f : Format). code_begin f from.counts from.names) two ∙ ap (λ (c : _). code_begin Two c from.names) found.0 in
        let states : program.image.states ≡ table.states = from.states ∙ found.1.these.states in
        let kinds : program.image.kinds ≡ table.kinds = from.kinds ∙ found.1.these.kinds in
        let guards : program.image.guards ≡ table.guards = from.guards ∙ found.1.these.guards in
        let actions : program.image.actions ≡ table.actions = from.actions ∙ found.1.these.actions in
        let rows : program.image.rows ≡ length table.rows = from.rows ∙ ap (λ (c : _). c.rows) found.0 in
        let entries : program.image.entries ≡ map (entry_offset table) (range_with_len 0 (entry_count table)) = found.1.entries_are in
        let code : program.image.code ≡ code_to table (entry_count table) = from.code ∙ ap (λ (b : ℕ). code_in all b from.size) begin ∙ found.1.code in
        (two, image-same program.image _ _ _ _ _ _ _ states kinds guards actions rows entries code)
