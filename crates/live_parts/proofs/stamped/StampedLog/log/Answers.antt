use Rattle.std.proofs.Common.{◌∙◌, ap, sym}
use Rattle.bench_desk.proofs.PartLemmas.{entries-stamped_of}
use Rattle.live_parts.specs.Stamps.{StampedView, entries_in}
use Rattle.live_parts.proofs.stamped.StampedLog.log.Goals as goal

pub returns : goal.returns
returns c =
    sym (entries-stamped_of c.self.inside.stamps.items c.self.inside.log.entries c.self.invariant.0)
    ∙ ap (λ (v : StampedView). entries_in v) c.self.view_is
