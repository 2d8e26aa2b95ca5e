-- Deeds by number and name.
use Rattle.std.specs.Prelude.{ℕ, ◌==◌, List, [], ◌∷◌, Option, codes}
use Rattle.std.specs.List.{find}
use Rattle.base_codes.specs.declared.deed_code.DeedCode.{DeedCode}
use Rattle.base_codes.specs.declared.deed_code.DeedCode.TheVariants.{Unlisted, ToPeer, ToSession, Close, Dial}
use Rattle.base_codes.specs.declared.deed_code.DeedCode.TheVariants.{Undial, Arm, Disarm, SndCer, SndCea, SndDwa}
use Rattle.base_codes.specs.declared.deed_code.DeedCode.TheVariants.{SndDpr, SndDpa, SndMsg, Elect, Reserve}
use Rattle.base_codes.specs.declared.deed_code.DeedCode.TheVariants.{Debit, Release, Charge, Refund, Service}

-- the number of each
abbrev pub number_of : DeedCode → ℕ
number_of Unlisted = 1
number_of ToPeer = 2
number_of ToSession = 3
number_of Close = 5
number_of Dial = 6
number_of Undial = 7
number_of Arm = 8
number_of Disarm = 9
number_of SndCer = 10
number_of SndCea = 11
number_of SndDwa = 12
number_of SndDpr = 13
number_of SndDpa = 14
number_of SndMsg = 15
number_of Elect = 16
number_of Reserve = 20
number_of Debit = 21
number_of Release = 22
number_of Charge = 23
number_of Refund = 24
number_of Service = 30

-- its name
abbrev pub name_of : DeedCode → List ℕ
name_of Unlisted = codes "Unlisted"
name_of ToPeer = codes "To-Peer"
name_of ToSession = codes "To-Session"
name_of Close = codes "Close"
name_of Dial = codes "Dial"
name_of Undial = codes "Undial"
name_of Arm = codes "Arm"
name_of Disarm = codes "Disarm"
name_of SndCer = codes "Snd-CER"
name_of SndCea = codes "Snd-CEA"
name_of SndDwa = codes "Snd-DWA"
name_of SndDpr = codes "Snd-DPR"
name_of SndDpa = codes "Snd-DPA"
name_of SndMsg = codes "Snd-Msg"
name_of Elect = codes "Elect"
name_of Reserve = codes "Reserve"
name_of Debit = codes "Debit"
name_of Release = codes "Release"
name_of Charge = codes "Charge"
name_of Refund = codes "Refund"
name_of Service = codes "Service"

-- all of them
abbrev pub all : List DeedCode
all =
    Unlisted ∷ ToPeer ∷ ToSession ∷ Close ∷ Dial ∷ Undial ∷ Arm ∷ Disarm ∷ SndCer ∷ SndCea ∷ SndDwa
    ∷ SndDpr ∷ SndDpa ∷ SndMsg ∷ Elect ∷ Reserve ∷ Debit ∷ Release ∷ Charge ∷ Refund ∷ Service
    ∷ []

-- the one with a number
unfoldable pub coded : ℕ → Option DeedCode
coded number = find (λ code. number_of code == number) all
