use Rattle.std.proofs.Common.{◌≡◌, true, take}
use Rattle.std.specs.List.{list_all}
use Rattle.live_desk.specs.Desks.{is_answered}
use Rattle.live_desk.proofs.desk.are_all_answered.Given as goal

-- those so far wait for none
abbrev pub invariant-texts : goal.invariant-texts
invariant-texts g l = list_all (is_answered (g.S.Stands.standing l.seen) l.desk l.round) (take l.text-index l.texts) ≡ true
