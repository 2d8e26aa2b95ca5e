use Rattle.std.proofs.Common.{◌≡◌, ℕ, ◌+◌, Bool, false, nat_lt, List, [], ◌∷◌, ◌++◌, Some, None, length, take, drop, slice_index_or, arith, refl, sym, ap, subst, ◌∙◌}
use Rattle.std.specs.List.{flat_map}
use Rattle.std.proofs.lemmas.Bool.{le-ltb}
use Rattle.std.proofs.lemmas.List.{append-nil, append_assoc, length-append}
use Rattle.std.proofs.Math.Seq.{take-append_seam}
use Rattle.base_list.specs.declared.named.Named.{Named}
use Rattle.tab_asm.specs.Formats.{format_2}
use Rattle.tab_asm.specs.Images.{Image, name_octets}
use Rattle.tab_load.specs.Faults.{BeginsWith, CountsOf}
use Rattle.tab_load.specs.Code.{EachAfter}
use Rattle.tab_load.specs.Names.{name_fault, next_fault, AreNames, NamesOf, NamesWrong}
use Rattle.tab_load.specs.Loading.{counts_of}
use Rattle.tab_load.specs.declared.counts.Format.TheVariants.{One, Two}
use Rattle.tab_load.specs.declared.fault.ImageFault.{ImageFault}
use Rattle.tab_image.proofs.FrontLemmas.{behind-part, names-same, next-name}
use Rattle.tab_image.proofs.PartLemmas.{Parts}

-- octets of one format are not those of the other
pub not-one : (octets : List ℕ) → take 4 octets ≡ format_2.magic → BeginsWith One octets → ⊥
not-one octets two one =
    let same : 49 ≡ 50 = ap (λ (l : List ℕ). slice_index_or l 3 0) (sym one ∙ two) in
    omega (arith, same)

pub counts-same : (image : Image) (octets : List ℕ) (counts : _) → Parts image octets → CountsOf Two octets counts → counts ≡ counts_of image
counts-same image octets counts p are =
    let states : counts.states ≡ length image.states = are.states ∙ p.states in
    let kinds : counts.kinds ≡ length image.kinds = are.kinds ∙ p.kinds in
    let guards : counts.guards ≡ length image.guards = are.guards ∙ p.guards in
    let actions : counts.actions ≡ length image.actions = are.actions ∙ p.actions in
    let rows : counts.rows ≡ image.rows = are.rows ∙ p.rows in
    rw (← states, ← kinds, ← guards, ← actions, ← rows) refl

-- the names of a list are those that the image has there
pub list-same : {T : Type 0} (bound : Bool) (entries : List (Named T)) (octets : List ℕ) (begin count end : ℕ) (names actual : List (List ℕ)) (places rest : List ℕ) → NamesOf bound entries octets begin count end names places → count ≡ length actual → drop begin octets ≡ flat_map name_octets actual ++ rest → (names ≡ actual) × (drop end octets ≡ rest)
list-same bound entries octets begin count end names actual places rest are many at =
    names-same names actual (drop end octets) rest (are.many ∙ many) (sym (behind-part octets begin end (flat_map name_octets names) are.front) ∙ at)

-- nothing is wrong with octets that begin with a name with which nothing is wrong
next-fine : {T : Type 0} (bound : Bool) (entries : List (Named T)) (before : List (List ℕ)) (name rest : List ℕ) → name_fault bound entries before name ≡ None → next_fault bound entries before (name_octets name ++ rest) ≡ None
next-fine bound entries before name rest none =
    let long : length (name_octets name ++ rest) ≡ 1 + length name + length rest = length-append (name_octets name) rest ∙ omega arith in
    let whole : nat_lt (length (name_octets name ++ rest)) (1 + length name) ≡ false = le-ltb (length (name_octets name ++ rest)) (1 + length name) (omega (arith, long)) in
    let own : take (length name) (name ++ rest) ≡ name = take-append_seam name rest in
    rw (whole, own) none

each-at : {X : Type 0} (P : List X → X → Type 0) (before a : List X) (x : X) (b : List X) → EachAfter P before (a ++ x ∷ b) → P (before ++ a) x
each-at P before [] x b each = subst (λ (all : _). P all x) (sym (append-nil before)) each.0
each-at P before (y ∷ a) x b each =
    subst (λ (all : _). P all x) (append_assoc before (y ∷ []) a) (each-at P (before ++ y ∷ []) a x b each.1)

-- no name of a list is wrong where nothing is wrong with those that the image has there
pub list-fine : {T : Type 0} (bound : Bool) (entries : List (Named T)) (octets : List ℕ) (begin count at : ℕ) (fault : ImageFault) (actual : List (List ℕ)) (rest : List ℕ) → AreNames bound entries actual → count ≡ length actual → drop begin octets ≡ flat_map name_octets actual ++ rest → NamesWrong bound entries octets begin count at fault → ⊥
list-fine bound entries octets begin count at fault actual rest fine many stands wrong =
    let here = sym (behind-part octets begin wrong.part (flat_map name_octets wrong.before) wrong.front) ∙ stands in
    let next = next-name wrong.before actual (drop wrong.part octets) rest (omega (arith, wrong.few, many)) here in
    let good = each-at (λ b name. name_fault bound entries b name ≡ None) [] wrong.before next.name next.after (subst (λ (all : List (List ℕ)). AreNames bound entries all) next.joined fine) in
    let none : next_fault bound entries wrong.before (drop wrong.part octets) ≡ None = ap (next_fault bound entries wrong.before) next.next ∙ next-fine bound entries wrong.before next.name (flat_map name_octets next.after ++ rest) good in
    let clash : None ≡ Some fault = sym none ∙ wrong.wrong in
    cc
