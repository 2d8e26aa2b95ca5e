-- A walk by the laws of a registry is one by the laws that it was made of.
use Rattle.std.proofs.Common.{◌≡◌, ℕ, List, Option, subst}
use Rattle.base_device.specs.declared.status.Status.{Status}
use Rattle.tab_law.specs.Books.{Laws}
use Rattle.tab_walk.specs.Walks.{IsWalkedOn}
use Rattle.tab_walk.specs.declared.start.WalkOptions.{WalkOptions}

-- the laws are those of the book
pub IsWalkedOn-by : {O : Type 0} (contents : O → Option (List ℕ)) (failures idle : O → ℕ) (book laws : Laws) (options : WalkOptions) (table events : List ℕ) (old new : O) (status : Status)
    → book ≡ laws → IsWalkedOn contents failures idle book options table events old new status → IsWalkedOn contents failures idle laws options table events old new status
IsWalkedOn-by contents failures idle book laws options table events old new status same walked =
    subst (λ (l : Laws). IsWalkedOn contents failures idle l options table events old new status) same walked
