use Rattle.std.proofs.Common.{◌≡◌, map, take}
use Rattle.dia_dict.specs.Dictionary.{known}
use Rattle.dia_tree.specs.Canonical.{canonical}
use Rattle.dia_msg.specs.Sorting.{seen_all, all_placed}
use Rattle.dia_msg.proofs.source.Source.left.Given as goal

abbrev pub invariant-loop-place : goal.invariant-loop-place
invariant-loop-place l = l.rest ≡ map (canonical (known l.self.dictionary.now) 4) (all_placed (seen_all l.self.avps.now) (take l.place-index l.self.sorted.now.rest.items))
