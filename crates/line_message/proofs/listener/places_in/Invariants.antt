use Rattle.std.proofs.Common.{◌≡◌, map, take}
use Rattle.base_list.specs.Named.{place_of}
use Rattle.line_message.proofs.listener.places_in.Given as goal

-- the places of the kinds that were looked at
abbrev pub invariant-loop-kind : goal.invariant-loop-kind
invariant-loop-kind l = l.places.items ≡ map (λ kind. place_of kind.name l.laws.kinds) (take l.kind-index l.kind-items)
