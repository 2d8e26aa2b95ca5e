-- What is told where an image's text is listed.
use Rattle.std.specs.Prelude.{◌≡◌, ◌⊎◌, ℕ, Bool, true, false, List, Option, Some, codes}
use Rattle.base_device.specs.Devices.{Tells}
use Rattle.base_device.specs.Tellings.{told_status}
use Rattle.base_device.specs.declared.status.Status.{Status}
use Rattle.base_device.specs.declared.status.Status.TheVariants as statuses
use Rattle.tab_law.specs.Books.{Laws}
use Rattle.tab_load.specs.Loading.{Loaded}
use Rattle.image_text.specs.Images.{IsImageOf, IsNoImage, refusal_text}
use Rattle.image_text.specs.Listings.{IsListing}
use Rattle.image_text.specs.declared.reading.ImageError.{ImageError}

-- what is told, and whether it is a refusal: why the text gives no program, or the listing of the program that it gives
abbrev pub IsTold : Laws → (text told : List ℕ) → Bool → Type 0
IsTold laws text told true = (error : ImageError) × IsNoImage laws text error × (Some told ≡ refusal_text error)
IsTold laws text told false = (program : Loaded) × IsImageOf laws text program × IsListing program told

-- What is told was taken whole and its status is the answer, or a write fault came; or memory ran out.
pub record IsListed
    {O : Type 0} (contents : O → Option (List ℕ)) (failures idle : O → ℕ) (laws : Laws) (text : List ℕ) (old new : O)
    (answer : Status) : Type 0 where
  pub listing : List ℕ
  pub refused : Bool
  pub is : IsTold laws text listing refused
  pub told : Tells contents failures idle old new listing (told_status refused) answer

abbrev pub IsListedOn : {O : Type 0} → (contents : O → Option (List ℕ)) → (failures idle : O → ℕ) → Laws
    → (text : List ℕ) → (old new : O) → Status → Type 0
IsListedOn contents failures idle laws text old new answer =
    IsListed contents failures idle laws text old new answer
    ⊎ Tells contents failures idle old new (codes "no memory\n") statuses.NoMemory answer
