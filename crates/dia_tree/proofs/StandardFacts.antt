-- Faults and canonical AVPs of octets typed by hand: the definitions are checked by examples.
use Rattle.std.proofs.Common.{◌≡◌, ℕ, true, false, List, [], ◌∷◌, None, Some, refl}
use Rattle.dia_avp.specs.declared.avp.Avp.{Avp}
use Rattle.dia_avp.specs.Reading.{vendor_at, item_at, avp_at, parted, avps_in}
use Rattle.dia_avp.specs.Encoding.{length_of, encoded}
use Rattle.dia_dict.specs.Dictionary.{known}
use Rattle.base_codes.specs.declared.result_code.ResultCode.TheVariants.{AvpUnsupported, InvalidAvpValue, UnableToComply, InvalidAvpLength}
use Rattle.dia_tree.specs.Faults.{fault, group_faults}
use Rattle.dia_tree.specs.Canonical.{canonical}

-- a Used-Service-Unit of a CC-Total-Octets whose length is 17 where 16 octets are left
pub used : List ℕ
used = 0 ∷ 0 ∷ 1 ∷ 190 ∷ 64 ∷ 0 ∷ 0 ∷ 24 ∷ 0 ∷ 0 ∷ 1 ∷ 165 ∷ 64 ∷ 0 ∷ 0 ∷ 17 ∷ 0 ∷ 0 ∷ 0 ∷ 0 ∷ 0 ∷ 0 ∷ 0 ∷ 5 ∷ []

-- it fails with a CC-Total-Octets of eight zeros
pub used_broken : group_faults (known []) false 5 used ≡ fault InvalidAvpLength (Some (record { code = 421; vendor = None; mandatory = true; protected = false; octets = 0 ∷ 0 ∷ 0 ∷ 0 ∷ 0 ∷ 0 ∷ 0 ∷ 0 ∷ [] })) ∷ []
unfolding used group_faults avps_in parted avp_at item_at vendor_at
used_broken = refl

-- AVP 9999 with flag M in a group, before a Requested-Action of 4: both are faults of an EVENT request, in order of place
pub unknown_first : List ℕ
unknown_first = 0 ∷ 0 ∷ 1 ∷ 190 ∷ 64 ∷ 0 ∷ 0 ∷ 16 ∷ 0 ∷ 0 ∷ 39 ∷ 15 ∷ 64 ∷ 0 ∷ 0 ∷ 8 ∷ 0 ∷ 0 ∷ 1 ∷ 180 ∷ 64 ∷ 0 ∷ 0 ∷ 12 ∷ 0 ∷ 0 ∷ 0 ∷ 4 ∷ []

pub two_faults : group_faults (known []) true 5 unknown_first
    ≡ fault AvpUnsupported (Some (record { code = 9999; vendor = None; mandatory = true; protected = false; octets = [] }))
    ∷ fault InvalidAvpValue (Some (record { code = 436; vendor = None; mandatory = true; protected = false; octets = 0 ∷ 0 ∷ 0 ∷ 4 ∷ [] })) ∷ []
unfolding unknown_first group_faults avps_in parted avp_at item_at vendor_at
two_faults = refl

-- an empty group has no fault where a level is left for it, and else is one too many
pub empty : List ℕ
empty = 0 ∷ 0 ∷ 1 ∷ 190 ∷ 64 ∷ 0 ∷ 0 ∷ 8 ∷ []

pub empty_within : group_faults (known []) false 2 empty ≡ []
unfolding empty group_faults avps_in parted avp_at item_at vendor_at
empty_within = refl

pub empty_too_deep : group_faults (known []) false 1 empty ≡ fault UnableToComply None ∷ []
unfolding empty group_faults avps_in parted avp_at item_at vendor_at
empty_too_deep = refl

-- a Subscription-Id whose Subscription-Id-Data has reserved flags and no padding, and its canonical form
abbrev subscription : List ℕ → Avp
subscription octets = record { code = 443; vendor = None; mandatory = true; protected = false; octets = octets }

pub padding_written : canonical (known []) 4 (subscription (0 ∷ 0 ∷ 1 ∷ 188 ∷ 95 ∷ 0 ∷ 0 ∷ 11 ∷ 49 ∷ 48 ∷ 48 ∷ []))
    ≡ subscription (0 ∷ 0 ∷ 1 ∷ 188 ∷ 64 ∷ 0 ∷ 0 ∷ 11 ∷ 49 ∷ 48 ∷ 48 ∷ 0 ∷ [])
unfolding canonical avps_in parted avp_at item_at vendor_at encoded length_of
padding_written = refl
