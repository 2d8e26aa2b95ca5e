-- What is looked at of an entry that is found in a log.
use Rattle.std.proofs.Common.{◌≡◌, ◌∷◌, [], map, refl, ap}
use Rattle.std.specs.Prelude.{option_to_list, Option, Some, None, option_map, option_and_then}
use Rattle.bench_item.specs.declared.entry.Entry.{Entry}
use Rattle.bench_item.specs.declared.step.Step.{Step}
use Rattle.bench_parts.specs.Found.{brief_of, brief_with}

-- a step and an item that were looked up apart are those of the entry
pub brief_is : (o : Option Entry) (step : Step) → Some step ≡ option_map (λ (e : Entry). e.step) o
    → brief_with step (option_and_then (λ (e : Entry). e.item) o) ∷ [] ≡ map brief_of (option_to_list o)
brief_is None step is = absurd cc
brief_is (Some e) step is = let same : step ≡ e.step = cc in ap (λ s. brief_with s e.item ∷ []) same

pub none_is : (o : Option Entry) → None ≡ option_map (λ (e : Entry). e.step) o → [] ≡ map brief_of (option_to_list o)
none_is None is = refl
none_is (Some e) is = absurd cc
