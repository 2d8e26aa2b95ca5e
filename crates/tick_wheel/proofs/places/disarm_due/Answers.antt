use Rattle.std.proofs.Common.{rules}
use Rattle.std.proofs.lemmas.Map.Made.{map_same_pairs}
use Rattle.tick_wheel.specs.Places.{left_at}
use Rattle.tick_wheel.proofs.places.disarm_due.Goals as goal

pub returns : goal.returns
returns c = map_same_pairs _ (left_at c.args.now) _ (λ k v b w f' t. search rules) _ _ c.retain.ensures.filtered
