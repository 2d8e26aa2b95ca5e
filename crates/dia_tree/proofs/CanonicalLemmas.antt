-- Canonical AVPs that are written, or put into a list, one after the other.
use Rattle.std.proofs.Common.{◌≡◌, ℕ, zero, suc, ◌+◌, ◌-◌, ◌<◌, ◌≤◌, ◌^◌, true, List, [], ◌∷◌, ◌++◌, length, refl, sym, ap, ◌∙◌, arith, append_assoc}
use Rattle.std.proofs.lemmas.List.{length-append, append-nil}
use Rattle.std.proofs.lemmas.List.Elements.{All-head}
use Rattle.dia_avp.specs.declared.avp.Avp.{Avp}
use Rattle.dia_avp.specs.Avps.{AvpThen}
use Rattle.dia_avp.specs.Reading.{avps_in}
use Rattle.dia_avp.specs.Encoding.{padded, length_of, encoded}
use Rattle.dia_avp.proofs.Bytes.{IsBytes}
use Rattle.dia_avp.proofs.OneLaws.{le_padded}
use Rattle.dia_avp.proofs.Encoded.{length_encoded}
use Rattle.dia_avp.proofs.PartLaws.{IsShort, AvpsThen-short, avps_in-bytes, avps_in-room}
use Rattle.dia_dict.specs.declared.definition.Definition.{Definition}
use Rattle.dia_tree.specs.Canonical.{canonical}
use Rattle.dia_tree.proofs.CanonicalLaws.{IsGroup, with_octets, reencoded, canonical-zero, canonical-group, canonicals_room, short_octets}

-- an AVP that stands in octets is short
pub short_first : (octets : List ℕ) (a : Avp) (rest : List ℕ) → AvpThen octets a rest → length_of a < 2 ^ 24
short_first octets a rest t = All-head IsShort a [] (AvpsThen-short octets (a ∷ []) rest (rest, t, refl))

pub short_inside : (octets : List ℕ) (a : Avp) (rest : List ℕ) → AvpThen octets a rest → length a.octets + 8 < 2 ^ 24
short_inside octets a rest t = short_octets a (short_first octets a rest t)

-- the next AVP of the rest
abbrev pub IsNext : List ℕ → Avp → List ℕ → Type 0
IsNext rest a next = avps_in rest ≡ (a ∷ (avps_in next).0, (avps_in next).1)

-- the canonical encoding takes no more room than the octets and their padding
pub reencoded_len : (definitions : List Definition) (n : ℕ) (octets : List ℕ) → IsBytes octets → length (reencoded definitions n octets) ≤ padded (length octets)
reencoded_len definitions n octets fits = omega (arith, canonicals_room definitions n (avps_in octets).0 (avps_in-bytes octets fits), avps_in-room octets fits)

-- what was written, and then the encoding of the rest, is the encoding of all, for which there is room
pub record Written (definitions : List Definition) (n : ℕ) (octets : List ℕ) (out : List ℕ) (capacity : ℕ) (rest : List ℕ) : Type 0 where
  pub all : reencoded definitions n octets ≡ out ++ reencoded definitions n rest
  pub fits : length (reencoded definitions n octets) ≤ capacity

one_more : (definitions : List Definition) (n : ℕ) (octets out : List ℕ) (capacity : ℕ) (rest : List ℕ) (a : Avp) (next : List ℕ) → Written definitions n octets out capacity rest → IsNext rest a next
    → reencoded definitions n octets ≡ (out ++ encoded (canonical definitions n a)) ++ reencoded definitions n next
one_more definitions n octets out capacity rest a next w e = w.all ∙ rw e (sym (append_assoc out (encoded (canonical definitions n a)) (reencoded definitions n next)))

-- one more AVP was written
pub Written-more : (definitions : List Definition) (n : ℕ) (octets out : List ℕ) (capacity : ℕ) (rest : List ℕ) (a : Avp) (next : List ℕ) (more : List ℕ) (now : ℕ) → Written definitions n octets out capacity rest → IsNext rest a next
    → more ≡ out ++ encoded (canonical definitions n a) → capacity ≤ now → Written definitions n octets more now next
Written-more definitions n octets out capacity rest a next more now w e is le = record { all = rw is (one_more definitions n octets out capacity rest a next w e); fits = omega (arith, w.fits) }

-- there is room for the next
pub Written-room : (definitions : List Definition) (n : ℕ) (octets out : List ℕ) (capacity : ℕ) (rest : List ℕ) (a : Avp) (next : List ℕ) → Written definitions n octets out capacity rest → IsNext rest a next
    → length out + length (encoded (canonical definitions n a)) ≤ capacity
Written-room definitions n octets out capacity rest a next w e =
    let s = encoded (canonical definitions n a) in
    omega (arith, w.fits, ap length (one_more definitions n octets out capacity rest a next w e), length-append (out ++ s) (reencoded definitions n next), length-append out s)

-- the next is short
pub Written-short : (definitions : List Definition) (n : ℕ) (octets out : List ℕ) (capacity : ℕ) (rest : List ℕ) (a : Avp) (next : List ℕ) → Written definitions n octets out capacity rest → IsNext rest a next
    → IsBytes octets → length octets + 8 < 2 ^ 24 → length_of (canonical definitions n a) < 2 ^ 24
Written-short definitions n octets out capacity rest a next w e fits short =
    let s = encoded (canonical definitions n a) in
    omega (arith, reencoded_len definitions n octets fits, ap length (one_more definitions n octets out capacity rest a next w e), length-append (out ++ s) (reencoded definitions n next), length-append out s, length_encoded (canonical definitions n a), le_padded (length_of (canonical definitions n a)))

-- there is no next
pub Written-end : (definitions : List Definition) (n : ℕ) (octets out : List ℕ) (capacity : ℕ) (rest : List ℕ) → Written definitions n octets out capacity rest → avps_in rest ≡ ([], rest) → out ≡ reencoded definitions n octets
Written-end definitions n octets out capacity rest w e = sym (w.all ∙ rw e (append-nil out))

-- a group that has levels below it
pub group_below : (definitions : List Definition) (n : ℕ) (a : Avp) (octets : List ℕ) → 0 < n → IsGroup definitions a ≡ true → octets ≡ reencoded definitions (n - 1) a.octets → with_octets a octets ≡ canonical definitions n a
group_below definitions zero a octets lt e is = absurd (omega arith)
group_below definitions (suc n) a octets lt e is = let k : suc n - 1 ≡ n = omega arith in sym (canonical-group definitions n a e ∙ rw (is, k) refl)

pub none_below : (definitions : List Definition) (n : ℕ) (a : Avp) → n ≡ 0 → canonical definitions n a ≡ a
none_below definitions n a e = rw (e, canonical-zero) refl
