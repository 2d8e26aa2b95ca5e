use Rattle.std.proofs.Common.{◌≡◌, ◌++◌, ℕ, false, List, [], ◌∷◌, Option, Some, None, refl, sym, ap}
use Rattle.std.specs.Prelude.{is_some}
use Rattle.std.specs.Option.{option_map}
use Rattle.std.proofs.lemmas.List.{append_assoc}
use Rattle.script_text.specs.Keys.{before}

-- octets in front of one octet and others
pub before_behind : (front : List ℕ) (octet : ℕ) (others : Option (List ℕ))
    → option_map (λ left. front ++ left) (before (Some octet) others) ≡ option_map (λ left. (front ++ octet ∷ []) ++ left) others
before_behind front octet None = refl
before_behind front octet (Some left) = ap Some (sym (append_assoc front (octet ∷ []) left))

-- an octet in front of a name
pub before_some : (octet : ℕ) (others : Option (List ℕ)) → is_some (before (Some octet) others) ≡ is_some others
before_some octet None = refl
before_some octet (Some left) = refl

pub nothing_before : (others : Option (List ℕ)) → others ≡ option_map (λ left. [] ++ left) others
nothing_before None = refl
nothing_before (Some left) = refl

pub none_by : {T : Type 0} (o : Option T) → is_some o ≡ false → o ≡ None
none_by None e = refl
none_by (Some x) e = absurd cc
