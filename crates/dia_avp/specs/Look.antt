-- AVPs looked up by their AVP Code (RFC 6733 section 4.1), and the numbers that they hold (section 4.2).
use Rattle.std.specs.Prelude.{ℕ, ◌==◌, ◌&&◌, Bool, List, length, find, is_none, Option, None, Some, if◌then◌else◌}
use Rattle.std.specs.Option.{option_and_then}
use Rattle.byteorder.specs.Endian.{big_number}
use Rattle.dia_avp.specs.declared.avp.Avp.{Avp}

-- whether an AVP is of a code of the base protocol or of credit control, where no vendor stands beside it
abbrev pub is_coded : ℕ → Avp → Bool
is_coded code a = (a.code == code) && is_none a.vendor

-- the number that data of so many octets is, in network byte order; data of another size is none
abbrev pub number_in : ℕ → List ℕ → Option ℕ
number_in size octets = if length octets == size then Some (big_number size octets) else None

-- the number of four octets that the first AVP of a code has
abbrev pub first_number : ℕ → List Avp → Option ℕ
first_number code list = option_and_then (λ a. number_in 4 a.octets) (find (is_coded code) list)
