-- What is told where a table's text is assembled.
use Rattle.std.specs.Prelude.{◌≡◌, ◌⊎◌, ℕ, Bool, true, false, List, ◌++◌, Option, Some, None, codes, option_map}
use Rattle.std.specs.List.{slice_get}
use Rattle.std.specs.Option.{option_or}
use Rattle.hex.specs.Hex.{encode_lower}
use Rattle.base_device.specs.Devices.{Tells}
use Rattle.base_device.specs.Tellings.{told_status}
use Rattle.base_device.specs.declared.status.Status.{Status}
use Rattle.base_device.specs.declared.status.Status.TheVariants as statuses
use Rattle.fault_text.specs.Faults.{known_fault, unbound_text}
use Rattle.fault_text.specs.Spots.{unbound_place}
use Rattle.tab_asm.specs.Assembled.{image_of}
use Rattle.tab_asm.specs.Formats.{format_2}
use Rattle.tab_asm.specs.Images.{image_octets}
use Rattle.tab_law.specs.Books.{Laws}
use Rattle.tab_step.specs.Bind.{missing}
use Rattle.tab_text.specs.Contents.{Contents}
use Rattle.tab_text.specs.Faults.{first_fault}
use Rattle.tab_text.specs.Rows.{table_of}

-- an image in hexadecimal digits, and a newline
abbrev pub image_text : Contents → List ℕ
image_text table = encode_lower (image_octets format_2 (image_of table)) ++ codes "\n"

-- what is refused first: the table's text, or a name that the book lacks
unfoldable pub refusal_of : Laws → List ℕ → Option (List ℕ)
refusal_of laws table =
    option_or (option_map (known_fault laws table) (first_fault table))
    (option_map (unbound_text laws (unbound_place laws (table_of table))) (slice_get (missing laws (table_of table)) 0))

-- what is told, and whether it is a refusal
abbrev pub IsTold : Laws → (table text : List ℕ) → Bool → Type 0
IsTold laws table text true = refusal_of laws table ≡ Some text
IsTold laws table text false = (refusal_of laws table ≡ None) × (text ≡ image_text (table_of table))

-- What is told was taken whole and its status is the answer, or a write fault came; or memory ran out.
pub record IsAssembled
    {O : Type 0} (contents : O → Option (List ℕ)) (failures idle : O → ℕ) (laws : Laws) (table : List ℕ) (old new : O)
    (answer : Status) : Type 0 where
  pub text : List ℕ
  pub refused : Bool
  pub is : IsTold laws table text refused
  pub told : Tells contents failures idle old new text (told_status refused) answer

abbrev pub IsAssembledOn : {O : Type 0} → (contents : O → Option (List ℕ)) → (failures idle : O → ℕ) → Laws
    → (table : List ℕ) → (old new : O) → Status → Type 0
IsAssembledOn contents failures idle laws table old new answer =
    IsAssembled contents failures idle laws table old new answer
    ⊎ Tells contents failures idle old new (codes "no memory\n") statuses.NoMemory answer
