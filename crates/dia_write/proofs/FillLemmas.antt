-- Room that is filled from its front, piece by piece.
use Rattle.std.proofs.Common.{◌≡◌, ℕ, ◌+◌, ◌-◌, ◌<◌, ◌≤◌, List, [], ◌++◌, length, take, drop, get_or, replicate, Result, Ok, Err, is_ok, cond, refl, sym, ap, subst, ◌∙◌, arith, append_assoc}
use Rattle.std.specs.Prelude.{IsOk}
use Rattle.std.specs.List.{flat_map}
use Rattle.std.proofs.lemmas.List.{take_at, drop_at, drop-replicate, length-replicate, length-append, length-take, length-drop, take_all, drop_all, replicate-append-replicate, append-nil}
use borrow.Rule.Slice.PartMut.{put_mid}
use Rattle.dia_avp.specs.declared.avp.Avp.{Avp}
use Rattle.dia_avp.specs.Encoding.{padded, header, flags_of, has_vendor, vendor_id, length_of, encoded}
use Rattle.dia_avp.proofs.Encoded.{length_encoded}
use Rattle.dia_write.specs.Filling.{IsFilled}
use Rattle.dia_write.proofs.WriteLemmas.{pieces-more}

-- room of zeros is filled with nothing
pub filled-start : (room : List ℕ) → room ≡ replicate (length room) 0 → IsFilled room [] 0
filled-start room e = record { zeros = length room; is = e; place = refl }

-- the same octets, up to the same place
pub filled-same : (room a b : List ℕ) (at : ℕ) → a ≡ b → IsFilled room a at → IsFilled room b at
filled-same room a b at e f = subst (λ (l : List ℕ). IsFilled room l at) e f

pub filled-to : (room front : List ℕ) (at to : ℕ) → at ≡ to → IsFilled room front at → IsFilled room front to
filled-to room front at to e f = subst (λ (n : ℕ). IsFilled room front n) e f

-- what is filled and the zeros are the room
length-filled : (room front : List ℕ) (at : ℕ) (f : IsFilled room front at) → length room ≡ at + f.zeros
length-filled room front at f = omega (arith, ap length f.is, length-append front (replicate f.zeros 0), length-replicate {A = ℕ} f.zeros 0, f.place)

-- octets put where the room is filled up to
pub filled-put : (room front octets : List ℕ) (at k : ℕ) → k ≡ length octets → IsFilled room front at → IsFilled (put_mid at k room octets) (front ++ octets) (at + length octets)
filled-put room front octets at k e f =
    let before : take at room ≡ front = ap (take at) f.is ∙ take_at front (replicate f.zeros 0) at (sym f.place) in
    let behind : drop at room ≡ replicate f.zeros 0 = ap (drop at) f.is ∙ drop_at front (replicate f.zeros 0) at (sym f.place) in
    record {
      zeros = f.zeros - k;
      is = rw (before, behind, drop-replicate {X = ℕ} k f.zeros 0) (sym (append_assoc front octets (replicate (f.zeros - k) 0)));
      place = omega (arith, f.place, length-append front octets);
    }

-- zeros behind count as padding
pub filled-pad : (room front : List ℕ) (at pad : ℕ) → at + pad ≤ length room → IsFilled room front at → IsFilled room (front ++ replicate pad 0) (at + pad)
filled-pad room front at pad fits f =
    let whole : pad + (f.zeros - pad) ≡ f.zeros = omega (arith, length-filled room front at f) in
    record {
      zeros = f.zeros - pad;
      is =
          f.is
          ∙ ap (λ (l : List ℕ). front ++ l) (sym (replicate-append-replicate {A = ℕ} pad (f.zeros - pad) 0 ∙ ap (λ (n : ℕ). replicate n 0) whole))
          ∙ sym (append_assoc front (replicate pad 0) (replicate (f.zeros - pad) 0));
      place = omega (arith, f.place, length-append front (replicate pad 0), length-replicate {A = ℕ} pad 0);
    }

four_behind : (front a b c d : List ℕ) → (((front ++ a) ++ b) ++ c) ++ d ≡ front ++ (((a ++ b) ++ c) ++ d)
four_behind front a b c d = simp append_assoc

-- the header of an AVP, up to the Vendor-ID
abbrev pub header_by : Avp → List ℕ
header_by a = header a.code (flags_of (has_vendor a.vendor) a.mandatory a.protected) (length_of a)

-- the parts of an AVP Length
pub length_parts : (a : Avp) → length_of a ≡ 8 + length (vendor_id a.vendor) + length a.octets
unfolding length_of
length_parts a = refl

-- header, Vendor-ID and data are the AVP, whose padding is there
pub filled-avp : (room front : List ℕ) (a : Avp) (at to end : ℕ) → at ≡ length front → end ≡ at + length (encoded a) → end ≤ length room → IsFilled room (((front ++ header_by a) ++ vendor_id a.vendor) ++ a.octets) to → IsFilled room (front ++ encoded a) end
unfolding encoded length_of
filled-avp room front a at to end start last fits f =
    let pad = padded (length_of a) - length_of a in
    let len : to ≡ at + length_of a = omega (arith, f.place, start, length-append ((front ++ header_by a) ++ vendor_id a.vendor) a.octets, length-append (front ++ header_by a) (vendor_id a.vendor), length-append front (header_by a)) in
    let ends : to + pad ≡ end = omega (arith, len, last, length_encoded a) in
    filled-to room (front ++ encoded a) (to + pad) end ends
    (filled-same room _ (front ++ encoded a) (to + pad) (four_behind front (header_by a) (vendor_id a.vendor) a.octets (replicate pad 0))
    (filled-pad room (((front ++ header_by a) ++ vendor_id a.vendor) ++ a.octets) to pad (omega (arith, ends, fits)) f))

-- one piece more behind those before
pub filled-more : {X : Type 0} (f : X → List ℕ) (xs : List X) (i : ℕ) (x : X) (room front : List ℕ) (to : ℕ) → i < length xs → x ≡ get_or xs i x → IsFilled room ((front ++ flat_map f (take i xs)) ++ f x) to → IsFilled room (front ++ flat_map f (take (i + 1) xs)) to
filled-more f xs i x room front to lt e h =
    filled-same room _ _ to (append_assoc front (flat_map f (take i xs)) (f x) ∙ ap (λ (l : List ℕ). front ++ l) (sym (pieces-more f xs i x lt e))) h

-- room that is filled up to its end has what was put alone
pub filled-whole : (room front : List ℕ) (at : ℕ) → at ≡ length room → IsFilled room front at → room ≡ front
filled-whole room front at e f =
    let none : f.zeros ≡ 0 = omega (arith, length-filled room front at f) in
    f.is ∙ ap (λ (n : ℕ). front ++ replicate n 0) none ∙ append-nil front

tail-same : (items room : List ℕ) (start n : ℕ) → n ≡ length items → start ≤ n → length room ≡ n - start
    → take n ((take start items ++ (room ++ drop (length items - start) (drop start items))) ++ drop (length (take start items ++ (room ++ drop (length items - start) (drop start items)))) items) ≡ take start items ++ room
tail-same items room start n e le len =
    let none : drop (length items - start) (drop start items) ≡ [] = drop_all (length items - start) (drop start items) (omega (arith, length-drop start items)) in
    let whole : take start items ++ (room ++ drop (length items - start) (drop start items)) ≡ take start items ++ room = ap (λ (l : List ℕ). take start items ++ (room ++ l)) none ∙ ap (λ (l : List ℕ). take start items ++ l) (append-nil room) in
    let long : length (take start items ++ room) ≡ n = omega (arith, length-append (take start items) room, length-take start items, e, le, len) in
    let nothing : drop (length (take start items ++ room)) items ≡ [] = drop_all (length (take start items ++ room)) items (omega (arith, long, e)) in
    ap (take n) (ap (λ (l : List ℕ). l ++ drop (length l) items) whole ∙ ap (λ (l : List ℕ). (take start items ++ room) ++ l) nothing ∙ append-nil (take start items ++ room))
    ∙ take_all n (take start items ++ room) (omega (arith, long))

-- octets behind a front, in the room that they were to fill
pub tail-filled : (items slice room : List ℕ) (start n : ℕ) → slice ≡ items → n ≡ length items → start ≤ n → length room ≡ n - start
    → take n ((take start slice ++ (room ++ drop (length slice - start) (drop start slice))) ++ drop (length (take start slice ++ (room ++ drop (length slice - start) (drop start slice)))) items) ≡ take start items ++ room
tail-filled items slice room start n same e le len =
    subst (λ (l : List ℕ). take n ((take start l ++ (room ++ drop (length l - start) (drop start l))) ++ drop (length (take start l ++ (room ++ drop (length l - start) (drop start l)))) items) ≡ take start items ++ room)
    (sym same) (tail-same items room start n e le len)

-- what an answer that is no error gives
pub where_ok : {E : Type 0} {X : Type 0} (r : Result (Unit {0}) E) (new a b : X) → IsOk r → new ≡ cond (is_ok r) a b → new ≡ a
where_ok (Ok x) new a b ok e = e
where_ok (Err x) new a b ok e = absurd cc
