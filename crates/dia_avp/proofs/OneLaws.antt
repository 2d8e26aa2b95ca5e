-- What is read at the front is encoded there, and what is encoded there is read.
use Rattle.std.proofs.Common.{◌≡◌, ℕ, ◌+◌, ◌-◌, ◌≤◌, Bool, true, false, ltb, List, [], ◌∷◌, ◌++◌, length, take, drop, slice_index, Option, None, Ok, Err, cond, refl, sym, ap, subst, ◌∙◌, arith, append_assoc, inl, inr}
use Prim.Native.Nat.{min}
use Rattle.std.specs.Prelude.{slice_range}
use Rattle.std.proofs.lemmas.Bool.{le-ltb, ltb-false, cases_lt}
use Rattle.std.proofs.lemmas.List.{take-append-drop, length-append, length-take, length-drop, take_at, drop_at, drop_all, drop_more, take_rest, drop_min}
use Rattle.byteorder.specs.Endian.{big_bytes, big_number}
use Rattle.byteorder.specs.Numbers.{big_number-reads_back}
use Rattle.dia_avp.specs.declared.fault.FaultCode.TheVariants.{ShortHeader, LengthBelowHeader, PastEnd}
use Rattle.dia_avp.specs.declared.avp.Avp.{Avp}
use Rattle.dia_avp.specs.Encoding.{padded, header}
use Rattle.dia_avp.specs.Avps.{has_flag, vendor_of, IsVendor, AvpThen, header_len, length_field}
use Rattle.dia_avp.specs.Reading.{vendor_at, item_at, avp_at}
use Rattle.dia_avp.proofs.Bytes.{IsBytes, IsBytes-drop, big_bytes_4, big_bytes_3, big_number_4-lt, big_number_3-lt, cut}

avp_at-whole : (octets : List ℕ) → header_len octets ≤ length octets → header_len octets ≤ length_field octets → length_field octets ≤ length octets → avp_at octets ≡ Ok (item_at octets, drop (padded (length_field octets)) octets)
unfolding avp_at
avp_at-whole octets a b c = rw (le-ltb _ _ a, le-ltb _ _ b, le-ltb _ _ c) refl

-- an AVP of fields that are read one by one
abbrev pub made : List ℕ → ℕ → Option ℕ → List ℕ → Avp
made octets code vendor content = record { code = code; vendor = vendor; mandatory = has_flag 64 (slice_index octets 4); protected = has_flag 32 (slice_index octets 4); octets = content }

made-is : (octets : List ℕ) (code : ℕ) (vendor : Option ℕ) (content : List ℕ) → code ≡ big_number 4 octets → vendor ≡ vendor_at octets → content ≡ slice_range octets (header_len octets) (length_field octets) → made octets code vendor content ≡ item_at octets
unfolding item_at
made-is octets code vendor content c v o = cc

-- fields that are read one by one, and the rest, are what is at the front
pub first_is : (octets : List ℕ) (header len end code : ℕ) (vendor : Option ℕ) (content : List ℕ)
    → header ≡ header_len octets → len ≡ length_field octets → header ≤ length octets → header ≤ len → len ≤ length octets
    → code ≡ big_number 4 octets → vendor ≡ vendor_at octets → content ≡ slice_range octets header len
    → end ≡ min (padded len) (length octets)
    → Ok (made octets code vendor content, take (length octets - end) (drop end octets)) ≡ avp_at octets
first_is octets header len end code vendor content h l a b c e v o p =
    let same : made octets code vendor content ≡ item_at octets = made-is octets code vendor content e v (rw (← h, ← l) o) in
    let rest : take (length octets - end) (drop end octets) ≡ drop (padded (length_field octets)) octets = take_rest octets end ∙ rw (p, ← l) (drop_min (padded len) octets) in
    sym (rw (same, rest) (avp_at-whole octets (rw (← h) a) (rw (← h, ← l) b) (rw (← l) c)))

abbrev One : Type 0
One = Avp × List ℕ

-- an AVP that was read, and how its header and lengths stand
pub record WholeAt (octets : List ℕ) (x : Avp × List ℕ) : Type 0 where
  pub header_there : header_len octets ≤ length octets
  pub over_header : header_len octets ≤ length_field octets
  pub content_there : length_field octets ≤ length octets
  pub is : (item_at octets, drop (padded (length_field octets)) octets) ≡ x

guards : (a b c : Bool) (y x : One) → cond a (Err ShortHeader) (cond b (Err LengthBelowHeader) (cond c (Err PastEnd) (Ok y))) ≡ Ok x → (a ≡ false) × (b ≡ false) × (c ≡ false) × (y ≡ x)
guards true b c y x e = absurd cc
guards false true c y x e = absurd cc
guards false false true y x e = absurd cc
guards false false false y x e = (refl, refl, refl, cc)

pub whole_at : (octets : List ℕ) (x : Avp × List ℕ) → avp_at octets ≡ Ok x → WholeAt octets x
unfolding avp_at
whole_at octets x e =
    let g = guards (ltb (length octets) (header_len octets)) (ltb (length_field octets) (header_len octets)) (ltb (length octets) (length_field octets)) (item_at octets, drop (padded (length_field octets)) octets) x e in
    record { header_there = ltb-false _ _ g.0; over_header = ltb-false _ _ g.1; content_there = ltb-false _ _ g.2; is = g.3 }

header_len_cases : (b : Bool) → cond b 12 8 ≡ 8 + cond b 4 0
header_len_cases true = refl
header_len_cases false = refl

-- the Vendor-ID between the eight octets and the content
vendor_takes : (b : Bool) (octets : List ℕ) → IsBytes octets → cond b 12 8 ≤ length octets → IsVendor b (slice_range octets 8 (cond b 12 8)) (cond b (vendor_of (big_number 4 (drop 8 octets))) None)
vendor_takes true octets fits l =
    (big_number 4 (drop 8 octets), big_number_4-lt (drop 8 octets) (IsBytes-drop 8 octets fits), sym (big_bytes_4 (drop 8 octets) (omega (arith, length-drop 8 octets)) (IsBytes-drop 8 octets fits)), refl)
vendor_takes false octets fits l = (refl, refl)

pub at_least_8 : (b : Bool) → 8 ≤ cond b 12 8
at_least_8 true = omega arith
at_least_8 false = omega arith

build : (octets c4 d4 d5 t3 d8 tail b4 b3 : List ℕ) (flag : ℕ) → octets ≡ c4 ++ d4 → d4 ≡ flag ∷ d5 → d5 ≡ t3 ++ d8 → d8 ≡ tail → b4 ≡ c4 → b3 ≡ t3 → octets ≡ (b4 ++ flag ∷ b3) ++ tail
build octets c4 d4 d5 t3 d8 tail b4 b3 flag p q r s t u =
    let e : c4 ++ d4 ≡ b4 ++ (flag ∷ (b3 ++ tail)) = cc in
    p ∙ e ∙ sym (append_assoc b4 (flag ∷ b3) tail)

-- what is left after the content: padding, and what comes after
joined_at : (octets : List ℕ) (h len p : ℕ) → IsBytes octets → 8 ≤ h → h ≤ len → len ≤ p → 8 ≤ length octets
    → octets ≡ header (big_number 4 octets) (slice_index octets 4) (big_number 3 (drop 5 octets)) ++ (slice_range octets 8 h ++ (slice_range octets h len ++ (slice_range octets len p ++ drop p octets)))
joined_at octets h len p fits a b c l =
    let front : octets ≡ take 4 octets ++ drop 4 octets = sym (take-append-drop 4 octets) in
    let flag : drop 4 octets ≡ slice_index octets 4 ∷ drop 5 octets = drop_more octets 4 0 (omega arith) in
    let lens : drop 5 octets ≡ take 3 (drop 5 octets) ++ drop 8 octets = cut octets 5 8 (omega arith) in
    let eight : drop 8 octets ≡ slice_range octets 8 h ++ (slice_range octets h len ++ (slice_range octets len p ++ drop p octets)) = cut octets 8 h a ∙ ap (λ (x : List ℕ). slice_range octets 8 h ++ x) (cut octets h len b ∙ ap (λ (x : List ℕ). slice_range octets h len ++ x) (cut octets len p c)) in
    let code : big_bytes 4 (big_number 4 octets) ≡ take 4 octets = big_bytes_4 octets (omega arith) fits in
    let three : big_bytes 3 (big_number 3 (drop 5 octets)) ≡ take 3 (drop 5 octets) = big_bytes_3 (drop 5 octets) (omega (arith, length-drop 5 octets)) (IsBytes-drop 5 octets fits) in
    build octets (take 4 octets) (drop 4 octets) (drop 5 octets) (take 3 (drop 5 octets)) (drop 8 octets) _ (big_bytes 4 (big_number 4 octets)) (big_bytes 3 (big_number 3 (drop 5 octets))) (slice_index octets 4) front flag lens eight code three

length-slice_range : (octets : List ℕ) (a b : ℕ) → a ≤ b → b ≤ length octets → length (slice_range octets a b) ≡ b - a
length-slice_range octets a b p q = omega (arith, length-take (b - a) (drop a octets), length-drop a octets)

padding_len : (octets : List ℕ) (len p : ℕ) → len ≤ p → len ≤ length octets → (len + length (slice_range octets len p) ≤ p) × ((drop p octets ≡ [] → ⊥) → len + length (slice_range octets len p) ≡ p)
padding_len octets len p a b =
    let l : length (slice_range octets len p) ≡ min (p - len) (length octets - len) = length-take (p - len) (drop len octets) ∙ rw (length-drop len octets) refl in
    (omega arith, λ more. elim (cases_lt p (length octets)) [ inl lt ↦ omega arith | inr le ↦ absurd (more (drop_all p octets le)) ])

pub le_padded : (n : ℕ) → n ≤ padded n
le_padded n = omega arith

takes : (octets : List ℕ) → IsBytes octets → header_len octets ≤ length octets → header_len octets ≤ length_field octets → length_field octets ≤ length octets → AvpThen octets (item_at octets) (drop (padded (length_field octets)) octets)
unfolding item_at vendor_at
takes octets fits a b c =
    let h = header_len octets in
    let len = length_field octets in
    let p = padded len in
    let eight : 8 ≤ h = at_least_8 (has_flag 128 (slice_index octets 4)) in
    let pl = padding_len octets len p (le_padded len) c in
    record {
      flags = slice_index octets 4;
      id = slice_range octets 8 h;
      padding = slice_range octets len p;
      len = len;
      len_is = omega (arith, length-slice_range octets 8 h eight a, length-slice_range octets h len b c);
      joined = joined_at octets h len p fits eight b (le_padded len) (omega arith);
      code_fits = big_number_4-lt octets fits;
      len_fits = big_number_3-lt (drop 5 octets) (IsBytes-drop 5 octets fits);
      vendor = vendor_takes (has_flag 128 (slice_index octets 4)) octets fits a;
      mandatory = refl;
      protected = refl;
      padding_fits = pl.0;
      padding_whole = pl.1;
    }

-- What is read is there.
pub avp_takes : (octets : List ℕ) (x : Avp × List ℕ) → IsBytes octets → avp_at octets ≡ Ok x → AvpThen octets x.0 x.1 × IsBytes x.1
avp_takes octets x fits e =
    let w = whole_at octets x e in
    subst (λ (y : Avp × List ℕ). AvpThen octets y.0 y.1 × IsBytes y.1) w.is (takes octets fits w.header_there w.over_header w.content_there, IsBytes-drop (padded (length_field octets)) octets fits)

vendor_again : (b : Bool) (id : List ℕ) (v : Option ℕ) (tail : List ℕ) → IsVendor b id v → (length id ≡ cond b 4 0) × (cond b (vendor_of (big_number 4 (id ++ tail))) None ≡ v)
vendor_again true id v tail h =
    let e : big_number 4 (id ++ tail) ≡ h.0 = ap (λ (x : List ℕ). big_number 4 (x ++ tail)) h.2 ∙ big_number-reads_back 4 h.0 tail h.1 in
    (ap length h.2, ap vendor_of e ∙ sym h.3)
vendor_again false id v tail h = (ap length h.0, sym h.1)

drop_end : (front rest : List ℕ) (k p : ℕ) → length front ≡ k → k ≤ p → ((rest ≡ [] → ⊥) → k ≡ p) → drop p (front ++ rest) ≡ rest
drop_end front [] k p e le whole = drop_all p (front ++ []) (omega (arith, length-append front []))
drop_end front (x ∷ rest) k p e le whole = drop_at front (x ∷ rest) p (e ∙ whole (λ q. cc))

same_item : (c : ℕ) (v : Option ℕ) (m p : Bool) (o : List ℕ) (a : Avp) → c ≡ a.code → v ≡ a.vendor → m ≡ a.mandatory → p ≡ a.protected → o ≡ a.octets
    → let made : Avp = record { code = c; vendor = v; mandatory = m; protected = p; octets = o } in made ≡ a
same_item c v m p o a e f g h i = rw (e, f, g, h, i) refl

-- What is there is read.
pub avp_again : (octets : List ℕ) (a : Avp) (rest : List ℕ) → AvpThen octets a rest → avp_at octets ≡ Ok (a, rest)
unfolding item_at vendor_at
avp_again octets a rest t =
    let hd = header a.code t.flags t.len in
    let after_content = t.padding ++ rest in
    let after_id = a.octets ++ after_content in
    let b = has_flag 128 t.flags in
    let v = vendor_again b t.id a.vendor after_id t.vendor in
    let code : big_number 4 octets ≡ a.code = ap (big_number 4) t.joined ∙ big_number-reads_back 4 a.code (t.flags ∷ (big_bytes 3 t.len ++ (t.id ++ after_id))) t.code_fits in
    let flag : slice_index octets 4 ≡ t.flags = ap (λ (x : List ℕ). slice_index x 4) t.joined in
    let len : length_field octets ≡ t.len = ap length_field t.joined ∙ big_number-reads_back 3 t.len (t.id ++ after_id) t.len_fits in
    let id_len : header_len octets ≡ 8 + length t.id = ap header_len t.joined ∙ header_len_cases b ∙ ap (λ (n : ℕ). 8 + n) (sym v.0) in
    let vendor : vendor_at octets ≡ a.vendor = ap vendor_at t.joined ∙ v.1 in
    let hd_len : length hd ≡ 8 = refl in
    let to_content : octets ≡ (hd ++ t.id) ++ after_id = t.joined ∙ sym (append_assoc hd t.id after_id) in
    let to_padding : octets ≡ ((hd ++ t.id) ++ a.octets) ++ after_content = to_content ∙ sym (append_assoc (hd ++ t.id) a.octets after_content) in
    let to_rest : octets ≡ (((hd ++ t.id) ++ a.octets) ++ t.padding) ++ rest = to_padding ∙ sym (append_assoc ((hd ++ t.id) ++ a.octets) t.padding rest) in
    let front_len : length (hd ++ t.id) ≡ 8 + length t.id = length-append hd t.id in
    let len_is : t.len ≡ 8 + length t.id + length a.octets = t.len_is in
    let all_len : length octets ≡ 8 + length t.id + length a.octets + length t.padding + length rest = omega (arith, ap length to_rest, length-append (((hd ++ t.id) ++ a.octets) ++ t.padding) rest, length-append ((hd ++ t.id) ++ a.octets) t.padding, length-append (hd ++ t.id) a.octets) in
    let content : slice_range octets (header_len octets) (length_field octets) ≡ a.octets =
    rw (id_len, len, to_content, drop_at (hd ++ t.id) after_id (8 + length t.id) front_len) (take_at a.octets after_content (t.len - (8 + length t.id)) (omega arith)) in
    let rest_is : drop (padded (length_field octets)) octets ≡ rest =
    rw (len, to_rest) (drop_end (((hd ++ t.id) ++ a.octets) ++ t.padding) rest (t.len + length t.padding) (padded t.len) (omega (arith, length-append ((hd ++ t.id) ++ a.octets) t.padding, length-append (hd ++ t.id) a.octets)) t.padding_fits t.padding_whole) in
    let item : item_at octets ≡ a = same_item (big_number 4 octets) (vendor_at octets) (has_flag 64 (slice_index octets 4)) (has_flag 32 (slice_index octets 4)) (slice_range octets (header_len octets) (length_field octets)) a code vendor (ap (has_flag 64) flag ∙ sym t.mandatory) (ap (has_flag 32) flag ∙ sym t.protected) content in
    avp_at-whole octets (omega arith) (omega arith) (omega arith) ∙ cc
