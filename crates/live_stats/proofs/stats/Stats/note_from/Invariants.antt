use Rattle.std.proofs.Common.{◌≡◌, drop}
use Rattle.live_stats.specs.Tallies.{noted_all}
use Rattle.live_stats.proofs.stats.Stats.note_from.Given as goal

abbrev pub invariant-entries : goal.invariant-entries
invariant-entries l = noted_all l.self l.moment (drop l.at l.log.entries) ≡ noted_all l.fn.self l.moment (drop l.place l.log.entries)
