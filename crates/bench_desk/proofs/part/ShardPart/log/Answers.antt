use Rattle.std.proofs.Common.{◌∙◌, ap, sym}
use Rattle.bench_desk.specs.Parts.{PartView, entries_in}
use Rattle.bench_desk.proofs.PartLemmas.{entries-stamped_of}
use Rattle.bench_desk.proofs.part.ShardPart.log.Goals as goal

pub returns : goal.returns
returns c =
    sym (entries-stamped_of c.self.inside.stamps.items c.self.inside.log.entries c.self.invariant.1)
    ∙ ap (λ (v : PartView). entries_in v) c.self.view_is
