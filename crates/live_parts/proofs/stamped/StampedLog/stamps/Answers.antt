use Rattle.std.proofs.Common.{◌∙◌, ap, map, sym}
use Rattle.bench_desk.proofs.PartLemmas.{stamps-stamped_of}
use Rattle.live_parts.specs.Stamps.{StampedView}
use Rattle.live_parts.proofs.stamped.StampedLog.stamps.Goals as goal

pub returns : goal.returns
returns c =
    c.deref.ensures.value
    ∙ sym (stamps-stamped_of c.self.inside.stamps.items c.self.inside.log.entries c.self.invariant.0)
    ∙ ap (λ (v : StampedView). map (λ s. s.stamp) v.entries) c.self.view_is
