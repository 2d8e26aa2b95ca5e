-- What is read of all nodes of a CONFIG.
use Rattle.std.proofs.Common.{◌++◌, ◌∷◌, ℕ, List, [], Option, refl, subst}
use Rattle.bench_setup.specs.Setups.{AreReadInTurn, IsBenchFrom}
use Rattle.bench_setup.specs.declared.setups.Setup.{Setup}

-- the files of one node more
pub in_turn_more : {I : Type 0} (remaining : I → Option (List ℕ)) (reads failures : I → ℕ) (old mid new : I) (setups : List Setup) (setup : Setup)
    → AreReadInTurn remaining reads failures old setups mid → IsBenchFrom remaining reads failures setup.node mid new setup.bench
    → AreReadInTurn remaining reads failures old (setups ++ setup ∷ []) new
in_turn_more {I} remaining reads failures old mid new [] setup before bench =
    (new, subst (λ (i : I). IsBenchFrom remaining reads failures setup.node i new setup.bench) before bench, refl)
in_turn_more remaining reads failures old mid new (first ∷ setups) setup before bench =
    (before.0, before.1, in_turn_more remaining reads failures before.0 mid new setups setup before.2 bench)
