use Rattle.std.proofs.Common.{◌∙◌, ap, is_some}
use Rattle.bench_looks.proofs.PlaceLemmas.{known-own, known-peer}
use Rattle.bench_spec.specs.Machines.{number_of}
use Rattle.bench_looks.proofs.brought.is_known.Goals as goal

pub returns-then-is_some : goal.returns-then-is_some
returns-then-is_some c =
    let node = c.args.core.now.settings.node in
    known-peer node c.args.keys.now c.args.key.now c.is_some.result
    (c.is_some.ensures ∙ ap is_some (c.number_of.ensures ∙ ap (λ log. number_of node log c.args.key.now) c.requires))
    c.if-is_some.true

pub returns-else-is_some : goal.returns-else-is_some
returns-else-is_some c =
    let node = c.args.core.now.settings.node in
    known-own node c.args.keys.now c.args.key.now c.is_some.result c.is_some-else-is_some.result
    (c.is_some.ensures ∙ ap is_some (c.number_of.ensures ∙ ap (λ log. number_of node log c.args.key.now) c.requires))
    (c.is_some-else-is_some.ensures ∙ ap is_some c.place_of.ensures) c.if-is_some.false
