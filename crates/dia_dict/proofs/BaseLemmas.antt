-- The lines of the base table define no AVP Code and no name twice.
use Rattle.std.proofs.Common.{◌≡◌, ℕ, zero, suc, ◌+◌, ◌<◌, Bool, true, false, not, ◌&&◌, List, [], ◌∷◌, ◌++◌, length, get_or, map, take, None, refl, sym, subst, arith, append_assoc}
use Rattle.std.proofs.lemmas.List.{append-nil, map_more}
use Rattle.std.specs.Borrow.{Bor}
use Rattle.dia_dict.specs.declared.definition.AvpKind.{AvpKind}
use Rattle.dia_dict.specs.declared.definition.Definition.{Definition}
use Rattle.dia_dict.specs.Base.{of_base, of_line, base}
use Rattle.dia_dict.specs.Dictionary.{is_taken}

abbrev Line : Type 0
Line = ℕ × Bor (List ℕ) × AvpKind

-- whether each definition has a code and a name that none before it has
abbrev are_new : List Definition → List Definition → Bool
are_new before [] = true
are_new before (d ∷ later) = not (is_taken before d.code d.vendor d.name) && are_new (before ++ d ∷ []) later

base_new : are_new [] base ≡ true
base_new = refl

both_true : (a b : Bool) → (a && b) ≡ true → (a ≡ true) × (b ≡ true)
both_true true b e = (refl, e)
both_true false b e = absurd cc

not_true : (b : Bool) → not b ≡ true → b ≡ false
not_true false e = refl
not_true true e = absurd cc

-- so a line's code and name are not among those of the lines before it
new_at : (before : List Definition) (lines : List Line) (i : ℕ) (d : Line) → are_new before (map of_line lines) ≡ true → i < length lines → is_taken (before ++ map of_line (take i lines)) (get_or lines i d).0 None (get_or lines i d).1.now ≡ false
new_at before [] i d e lt = absurd (omega arith)
new_at before (line ∷ lines) zero d e lt = let own = not_true (is_taken before line.0 None line.1.now) (both_true _ _ e).0 in rw (append-nil before) own
new_at before (line ∷ lines) (suc i) d e lt =
    let next = new_at (before ++ of_line line ∷ []) lines i d (both_true (not (is_taken before line.0 None line.1.now)) (are_new (before ++ of_line line ∷ []) (map of_line lines)) e).1 (omega arith) in
    rw (← append_assoc before (of_line line ∷ []) (map of_line (take i lines))) next

-- nor among the definitions of those lines
pub line_free : (lines : List Line) (i : ℕ) (d : Line) (table : List Definition) (name : List ℕ) → map of_line lines ≡ base → name ≡ (get_or lines i d).1.now → table ≡ map of_line (take i lines) → i < length lines → is_taken table (get_or lines i d).0 None name ≡ false
line_free lines i d table name is named so_far lt = rw (named, so_far) (new_at [] lines i d (subst (λ (l : List Definition). are_new [] l ≡ true) (sym is) base_new) lt)

-- the lines so far and one more
pub with_line : (lines : List Line) (i : ℕ) (d : Line) (table grown : List Definition) (name : List ℕ) → name ≡ (get_or lines i d).1.now → grown ≡ table ++ of_base (get_or lines i d).0 name (get_or lines i d).2 ∷ [] → table ≡ map of_line (take i lines) → i < length lines → grown ≡ map of_line (take (i + 1) lines)
with_line lines i d table grown name named added so_far lt = rw (added, so_far, named, map_more of_line lines i d lt) refl
