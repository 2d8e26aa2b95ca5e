-- One more argument, and one more register that is kept.
use Rattle.std.proofs.Common.{◌≡◌, ℕ, ◌+◌, ◌++◌, ◌∷◌, [], List, map, arith, refl, append_assoc, subst}
use Rattle.std.proofs.lemmas.List.{map-append}
use Rattle.std.proofs.lemmas.List.FromFn.{map-range_with_len_more}
use Rattle.std.specs.List.{range_with_len}
use Rattle.tab_law.specs.declared.law.Atom.{Atom}
use Rattle.tab_law.specs.declared.law.Term.{Term}
use Rattle.tab_law.specs.declared.law.Term.TheVariants.{Just}
use Rattle.tab_role.specs.declared.step.Services.{Services}
use Rattle.tab_law.specs.declared.law.Change.{Change}
use Rattle.tab_role.specs.Entries.{argument, kept}
use Rattle.tab_role.specs.declared.step.TheConstants.{COUNT, KEPT}

-- the arguments so far and one more
pub with-argument : (head : List Atom) (services : Services) (n : ℕ) (atom : Atom) (terms grown : List Term) → atom ≡ argument head services n → grown ≡ terms ++ Just atom ∷ [] → terms ≡ map Just (map (argument head services) (range_with_len 0 n)) → grown ≡ map Just (map (argument head services) (range_with_len 0 (n + 1)))
with-argument head services n atom terms grown is added so_far =
    rw (added, so_far, is, map-range_with_len_more (argument head services) 0 n n (omega arith), map-append) refl

-- the registers so far and one more
pub with-kept : (i n : ℕ) (change : Change) (old so_far grown : List Change) → n ≡ COUNT + i → change ≡ kept n → grown ≡ so_far ++ change ∷ [] → so_far ≡ old ++ map kept (range_with_len COUNT i) → grown ≡ old ++ map kept (range_with_len COUNT (i + 1))
with-kept i n change old so_far grown place is added before =
    rw (added, before, is, map-range_with_len_more kept COUNT i n (omega (arith, place)), append_assoc) refl

-- all of them
pub all-kept : (i : ℕ) (old grown : List Change) → i ≡ KEPT → grown ≡ old ++ map kept (range_with_len COUNT i) → grown ≡ old ++ map kept (range_with_len COUNT KEPT)
all-kept i old grown end is = subst (λ n. grown ≡ old ++ map kept (range_with_len COUNT n)) end is
