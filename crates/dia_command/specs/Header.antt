-- The header of a message (RFC 6733 section 3): the numbers in network byte order.
use Rattle.std.specs.Prelude.{◌≡◌, ℕ, ◌+◌, true, false, List, ◌∷◌, ◌++◌, slice_index, drop, if◌then◌else◌, refl}
use Rattle.byteorder.specs.Endian.{big_bytes, big_number}
use Rattle.dia_avp.specs.Avps.{has_flag}
use Rattle.dia_command.specs.declared.header.Flags.{Flags}
use Rattle.dia_command.specs.declared.header.Header.{Header}

-- the flags R, P, E and T of the flags octet; the four other bits are reserved and not looked at
abbrev pub flags_in : ℕ → Flags
flags_in octet = record {
  request = has_flag 128 octet;
  proxiable = has_flag 64 octet;
  error = has_flag 32 octet;
  retransmitted = has_flag 16 octet;
}

-- the flags octet, R P E T and four reserved bits that are zero
abbrev pub flags_octet : Flags → ℕ
flags_octet f =
    (if f.request then 128 else 0) + (if f.proxiable then 64 else 0)
    + (if f.error then 32 else 0) + (if f.retransmitted then 16 else 0)

-- the header that stands at the front: version, length, flags, Command Code, Application-Id and the two identifiers
abbrev pub header_in : List ℕ → Header
header_in octets = record {
  length = big_number 3 (drop 1 octets);
  flags = flags_in (slice_index octets 4);
  command = big_number 3 (drop 5 octets);
  application = big_number 4 (drop 8 octets);
  hop_by_hop = big_number 4 (drop 12 octets);
  end_to_end = big_number 4 (drop 16 octets);
}

-- the octets of a header in front of a message of so many octets; of a Command Code the lowest 24 bits
abbrev pub header_octets : Header → ℕ → List ℕ
header_octets h len =
    1 ∷ big_bytes 3 len ++ flags_octet h.flags ∷ big_bytes 3 h.command
    ++ big_bytes 4 h.application ++ big_bytes 4 h.hop_by_hop ++ big_bytes 4 h.end_to_end

-- the flags R and P, as a Credit-Control-Request has them (RFC 8506 section 3.1)
pub request_and_proxiable : flags_octet
    (record { request = true; proxiable = true; error = false; retransmitted = false }) ≡ 192
request_and_proxiable = refl
