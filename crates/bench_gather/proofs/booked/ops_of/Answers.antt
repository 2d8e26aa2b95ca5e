use Rattle.std.proofs.Common.{sym, ◌∙◌, refl}
use Rattle.charge_session.specs.Deeds.{op_of}
use Rattle.bench_gather.proofs.BookLemmas.{filter_map-some, filter_map-none}
use Rattle.bench_gather.proofs.booked.ops_of.Goals as goal
use Rattle.bench_gather.proofs.booked.ops_of.Goals.{in-Some+in_ok-push, in_default}

pub loop-deed-preserved : goal.loop-deed-preserved
loop-deed-preserved c =
    let more = filter_map-some (op_of c.args.want.now) c.args.deeds.now c.loop-deed.deed-index in
    let none = filter_map-none (op_of c.args.want.now) c.args.deeds.now c.loop-deed.deed-index in
    elim c.match-op_of.branch [
      | in-Some+in_ok-push w ↦
          rw (
            w.ops-is,
            w.in_ok-push.ensures.items,
            c.loop-deed.invariant,
            more _ w.in-Some.op c.loop-deed-test.true (sym c.op_of.ensures ∙ w.in-Some.is),
          ) refl
      | in_default w ↦
          rw (w.ops-is, none _ c.loop-deed-test.true (sym c.op_of.ensures ∙ w.in_default.is)) c.loop-deed.invariant
    ]
