use Rattle.std.proofs.Common.{◌∙◌, sym}
use Rattle.bench_looks.specs.Before.{before}
use Rattle.bench_looks.proofs.StandLemmas.{decides-same, left-none, moved-stands, standing}
use Rattle.bench_parts.specs.Views.{kept_in}
use Rattle.bench_spec.specs.Machines.{moves_of}
use Rattle.bench_looks.proofs.stands.stands_so.Goals as goal

pub stands_unmoved-requires-clause-unmoved : goal.stands_unmoved-requires-clause-unmoved
stands_unmoved-requires-clause-unmoved c =
    left-none (moves_of (before c.args.look.now.stamp (kept_in c.args.part.now)) c.args.look.now.key)
    (sym c.requires.last ∙ c.in-None.is)

pub returns-in-Some : goal.returns-in-Some
returns-in-Some c =
    let node = c.args.core.now.settings.node in
    let es = before c.args.look.now.stamp (kept_in c.args.part.now) in
    let key = c.args.look.now.key in
    decides-same c.are_same.result c.show.result c.in-Some.state c.args.look.now.stands (standing node es key)
    c.show.ensures (sym (moved-stands node es key c.in-Some.state (sym c.requires.last ∙ c.in-Some.is)))
    c.are_same.ensures
