use Rattle.std.proofs.Common.{◌∙◌, ap, map, sym}
use Rattle.bench_desk.specs.Parts.{PartView}
use Rattle.bench_desk.proofs.PartLemmas.{stamps-stamped_of}
use Rattle.bench_desk.proofs.part.ShardPart.stamps.Goals as goal

pub returns : goal.returns
returns c =
    c.deref.ensures.value
    ∙ sym (stamps-stamped_of c.self.inside.stamps.items c.self.inside.log.entries c.self.invariant.1)
    ∙ ap (λ (v : PartView). map (λ s. s.stamp) v.entries) c.self.view_is
