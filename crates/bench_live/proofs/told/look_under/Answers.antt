use Rattle.bench_live.proofs.told.look_under.Goals as goal

-- as the slot refuses it, with the stamp that was drawn
pub returns-in-Err-clause-fault : goal.returns-in-Err-clause-fault
returns-in-Err-clause-fault g c = record { stamp = c.draw-stamp.result; first = c.in-Err.ensures.fault }
