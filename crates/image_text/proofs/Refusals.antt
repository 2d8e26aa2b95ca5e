-- What a table's text is refused for.
use Rattle.std.proofs.Common.{◌≡◌, ℕ, List, [], Option, Some, None, refl}
use Rattle.std.specs.List.{slice_get}
use Rattle.fault_text.specs.Faults.{known_fault, unbound_text}
use Rattle.fault_text.specs.Spots.{unbound_place}
use Rattle.tab_law.specs.Books.{Laws}
use Rattle.tab_step.specs.Bind.{missing}
use Rattle.tab_text.specs.Faults.{first_fault}
use Rattle.tab_text.specs.Reader.{IsRefusal}
use Rattle.tab_text.specs.Rows.{table_of}
use Rattle.tab_text.specs.declared.fault.ParseError.TheVariants as parsing
use Rattle.tab_text.specs.declared.fault.TextFault.{TextFault}
use Rattle.image_text.specs.Assembled.{refusal_of}

fault_is : (first : Option TextFault) (fault : TextFault) → IsRefusal first (parsing.Fault fault) → first ≡ Some fault
fault_is None fault refusal = absurd (cc)
fault_is (Some other) fault refusal = cc

-- the table's text has a fault
pub refusal-unparsed : (laws : Laws) (table : List ℕ) (fault : TextFault) → IsRefusal (first_fault table) (parsing.Fault fault) → refusal_of laws table ≡ Some (known_fault laws table fault)
unfolding refusal_of
refusal-unparsed laws table fault refusal = rw (fault_is _ fault refusal) refl

-- the book lacks a name
pub refusal-unbound : (laws : Laws) (table name : List ℕ) → first_fault table ≡ None → slice_get (missing laws (table_of table)) 0 ≡ Some name → refusal_of laws table ≡ Some (unbound_text laws (unbound_place laws (table_of table)) name)
unfolding refusal_of
refusal-unbound laws table name sound lacks = rw (sound, lacks) refl

-- the table is bound
pub refusal-none : (laws : Laws) (table : List ℕ) → first_fault table ≡ None → missing laws (table_of table) ≡ [] → refusal_of laws table ≡ None
unfolding refusal_of
refusal-none laws table sound found = rw (sound, found) refl
