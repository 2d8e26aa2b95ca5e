use Rattle.std.proofs.Common.{◌∙◌, ap, length, sym}
use Rattle.bench_desk.specs.Parts.{PartView, entries_in}
use Rattle.bench_desk.proofs.PartLemmas.{entries-stamped_of}
use Rattle.bench_desk.proofs.part.ShardPart.len.Goals as goal

pub returns : goal.returns
returns c =
    c.len.ensures.count
    ∙ ap length (sym (entries-stamped_of c.self.inside.stamps.items c.self.inside.log.entries c.self.invariant.1))
    ∙ ap (λ (v : PartView). length (entries_in v)) c.self.view_is
