use Rattle.std.proofs.Common.{◌≡◌, drop}
use Rattle.std.specs.List.{filter_map, slice_get}
use Rattle.tab_walk.specs.Places.{no_at}
use Rattle.tab_walk.proofs.why.first_no.Given as goal

-- the guards so far say yes
abbrev pub invariant-loop-place : goal.invariant-loop-place
invariant-loop-place l =
    slice_get (filter_map (no_at l.book l.scene) (drop l.place-index l.guards)) 0
    ≡ slice_get (filter_map (no_at l.book l.scene) l.guards) 0
