use Rattle.std.proofs.Common.{◌∙◌, List, ap, sym}
use Rattle.std.specs.Prelude.{slice_get}
use Rattle.std.specs.Option.{option_and_then}
use Rattle.bench_item.specs.declared.entry.Entry.{Entry}
use Rattle.bench_log.specs.Moves.{machine_in}
use Rattle.bench_show.proofs.NumberLemmas.{other_here}
use Rattle.bench_show.proofs.history.may_move.Goals as goal

-- what another machine's move is
pub returns-in-Some-Some : goal.returns-in-Some-Some
returns-in-Some-Some c =
    let place = c.args.place in
    let found = c.machine.ensures ∙ ap (λ (log : List Entry). option_and_then machine_in (slice_get log place)) c.log.ensures in
    λ apart e at.
    other_here c.args.core.now.settings c.args.core.now.log c.args.key.now c.in-Some-Some.number c.in-Some-Some.machine place e
    c.machine.result c.known.ensures (sym c.requires ∙ c.in-Some-Some.is-0) found c.in-Some-Some.is-1 apart at
