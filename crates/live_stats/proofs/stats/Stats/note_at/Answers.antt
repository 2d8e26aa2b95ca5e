use Rattle.std.proofs.Common.{◌∙◌, sym}
use Rattle.std.proofs.lemmas.Result.{on_ok_weaker}
use Rattle.live_stats.proofs.LogLemmas.{noted_next, noted_none}
use Rattle.live_stats.proofs.stats.Stats.note_at.Goals as goal

pub returns-in-Some : goal.returns-in-Some
returns-in-Some c =
    let there = sym c.in_ok-entry.ensures.entry ∙ c.in-Some.is in
    on_ok_weaker c.note.result
    (λ noted. noted_next c.args.self.now c.note.new.self c.args.moment c.args.log.now.entries c.args.at c.in-Some.entry there noted)
    c.note.ensures.ok

pub returns-in-None : goal.returns-in-None
returns-in-None c =
    noted_none c.args.self.now c.args.moment c.args.log.now.entries c.args.at (sym c.in_ok-entry.ensures.entry ∙ c.in-None.is)
