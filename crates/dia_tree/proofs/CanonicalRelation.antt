-- An AVP has one canonical encoding: what `canonical` gives (takes), and nothing else (again).
use Rattle.std.proofs.Common.{◌≡◌, ℕ, zero, suc, Bool, true, false, List, [], ◌∷◌, map, All, Result, Ok, Err, refl, sym, ap, ◌∙◌}
use Rattle.std.specs.Prelude.{IfOk}
use Rattle.std.proofs.lemmas.List.Elements.{All-head, All-tail}
use Rattle.dia_avp.specs.declared.avp.Avp.{Avp}
use Rattle.dia_avp.specs.Reading.{avps_in}
use Rattle.dia_avp.specs.Encoding.{encoding}
use Rattle.dia_avp.proofs.Bytes.{IsBytes}
use Rattle.dia_avp.proofs.PartLaws.{HasBytes, avps_in-whole, avps_in-only, avps_in-bytes}
use Rattle.dia_dict.specs.declared.definition.Definition.{Definition}
use Rattle.dia_tree.specs.Canonical.{canonical, AreEach, IsCanonicalBy, IsCanonical, AreCanonical}
use Rattle.dia_tree.proofs.CanonicalLaws.{IsGroup, with_octets, canonical-zero, canonical-group, canonical-plain}

each_takes : (Is : Avp → Avp → Type 0) (f : Avp → Avp) (list : List Avp) → ((a : Avp) → IsBytes a.octets → Is a (f a)) → All HasBytes list → AreEach Is list (map f list)
each_takes Is f [] each fits = refl
each_takes Is f (a ∷ list) each fits = (f a, map f list, each a (All-head HasBytes a list fits), each_takes Is f list each (All-tail HasBytes a list fits), refl)

each_again : (Is : Avp → Avp → Type 0) (f : Avp → Avp) (from list : List Avp) → ((a b : Avp) → Is a b → b ≡ f a) → AreEach Is from list → list ≡ map f from
each_again Is f [] list each h = h
each_again Is f (a ∷ from) list each h =
    let one : h.0 ≡ f a = each a h.0 h.2 in
    let later : h.1 ≡ map f from = each_again Is f from h.1 each h.3 in
    h.4 ∙ ap (λ (b : Avp). b ∷ h.1) one ∙ ap (λ (rest : List Avp). f a ∷ rest) later

-- the AVPs of octets in their canonical encoding
pub AreCanonical-takes : (definitions : List Definition) (n : ℕ) (octets : List ℕ) → IsBytes octets → ((a : Avp) → IsBytes a.octets → IsCanonical definitions n a (canonical definitions n a))
    → AreCanonical definitions n octets (map (canonical definitions n) (avps_in octets).0)
AreCanonical-takes definitions n octets fits each =
    let w = avps_in-whole octets fits in
    ((avps_in octets).0, (avps_in octets).1, w.0, w.1, each_takes (IsCanonical definitions n) (canonical definitions n) (avps_in octets).0 each (avps_in-bytes octets fits))

pub AreCanonical-again : (definitions : List Definition) (n : ℕ) (octets : List ℕ) (list : List Avp) → ((a b : Avp) → IsCanonical definitions n a b → b ≡ canonical definitions n a)
    → AreCanonical definitions n octets list → list ≡ map (canonical definitions n) (avps_in octets).0
AreCanonical-again definitions n octets list each h =
    let parts : avps_in octets ≡ (h.0, h.1) = avps_in-only octets h.0 h.1 h.2 h.3 in
    each_again (IsCanonical definitions n) (canonical definitions n) h.0 list each h.4 ∙ rw parts refl

takes_by : (definitions : List Definition) (n : ℕ) (a : Avp) (b : Bool) → IsGroup definitions a ≡ b → IsBytes a.octets → ((c : Avp) → IsBytes c.octets → IsCanonical definitions n c (canonical definitions n c))
    → IsCanonicalBy (IsCanonical definitions n) b a (canonical definitions (suc n) a)
takes_by definitions n a true e fits each =
    (map (canonical definitions n) (avps_in a.octets).0, AreCanonical-takes definitions n a.octets fits each, canonical-group definitions n a e)
takes_by definitions n a false e fits each = canonical-plain definitions (suc n) a e

-- what the function gives is the canonical encoding
pub IsCanonical-takes : (definitions : List Definition) (n : ℕ) (a : Avp) → IsBytes a.octets → IsCanonical definitions n a (canonical definitions n a)
unfolding IsCanonical
IsCanonical-takes definitions zero a fits = canonical-zero definitions a
IsCanonical-takes definitions (suc n) a fits = takes_by definitions n a (IsGroup definitions a) refl fits (IsCanonical-takes definitions n)

again_by : (definitions : List Definition) (n : ℕ) (a b : Avp) (group : Bool) → IsGroup definitions a ≡ group → ((c d : Avp) → IsCanonical definitions n c d → d ≡ canonical definitions n c)
    → IsCanonicalBy (IsCanonical definitions n) group a b → b ≡ canonical definitions (suc n) a
again_by definitions n a b true e each h =
    let list : h.0 ≡ map (canonical definitions n) (avps_in a.octets).0 = AreCanonical-again definitions n a.octets h.0 each h.1 in
    h.2 ∙ ap (λ (x : List Avp). with_octets a (encoding x)) list ∙ sym (canonical-group definitions n a e)
again_by definitions n a b false e each h = h ∙ sym (canonical-plain definitions (suc n) a e)

-- and nothing else is
pub IsCanonical-again : (definitions : List Definition) (n : ℕ) (a b : Avp) → IsCanonical definitions n a b → b ≡ canonical definitions n a
unfolding IsCanonical
IsCanonical-again definitions zero a b h = h ∙ sym (canonical-zero definitions a)
IsCanonical-again definitions (suc n) a b h = again_by definitions n a b (IsGroup definitions a) refl (IsCanonical-again definitions n) h

-- what a call made is the canonical encoding
pub made_canonical : {E : Type 0} (definitions : List Definition) (n : ℕ) (a : Avp) (r : Result Avp E) → IsBytes a.octets → IfOk r (λ b. b ≡ canonical definitions n a) → IfOk r (IsCanonical definitions n a)
made_canonical definitions n a (Ok b) fits e = rw e (IsCanonical-takes definitions n a fits)
made_canonical definitions n a (Err x) fits e = tt

pub listed_canonical : {E : Type 0} (definitions : List Definition) (n : ℕ) (octets : List ℕ) (r : Result (List Avp) E) → IsBytes octets → IfOk r (λ list. list ≡ map (canonical definitions n) (avps_in octets).0) → IfOk r (AreCanonical definitions n octets)
listed_canonical definitions n octets (Ok list) fits e = rw e (AreCanonical-takes definitions n octets fits (IsCanonical-takes definitions n))
listed_canonical definitions n octets (Err x) fits e = tt
