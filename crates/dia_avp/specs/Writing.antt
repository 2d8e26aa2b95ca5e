-- What was written is read back.
use Rattle.std.specs.Prelude.{◌≡◌, ◌<◌, ◌≤◌, ◌^◌, ℕ, List, ◌++◌, length, Some, Ok, All, IfSome}
use Rattle.dia_avp.specs.declared.avp.Avp.{Avp}
use Rattle.dia_avp.specs.Encoding.{encoded, encoding}
use Rattle.dia_avp.specs.Avps.{AvpThen, Avps, IsReading}

-- the numbers that an AVP can hold
pub record HasNumbers (a : Avp) : Type 0 where
  pub code : a.code < 2 ^ 32
  pub vendor : IfSome a.vendor (λ v. v < 2 ^ 32)

-- no vendor is written as 0
abbrev pub NoZeroVendor : List Avp → Type 0
NoZeroVendor list = All (λ a. a.vendor ≡ Some 0 → ⊥) list

-- the encoding of an AVP without vendor 0 means this AVP, whatever comes after it
abbrev pub MeansAvp : Avp → Type 0
MeansAvp a = (a.vendor ≡ Some 0 → ⊥) → (rest : List ℕ) → AvpThen (encoded a ++ rest) a rest

-- the encoding of a list without vendor 0 means this list
abbrev pub MeansAvps : List Avp → Type 0
MeansAvps list = NoZeroVendor list → Avps (encoding list) list

-- the encoding of at most 128 AVPs without vendor 0 is read as this list, within at most 4 groups
abbrev pub IsReadBack : List Avp → Type 0
IsReadBack list =
    NoZeroVendor list → length list ≤ 128 → (depth : ℕ) → depth ≤ 4 → IsReading (encoding list) depth (Ok list)
