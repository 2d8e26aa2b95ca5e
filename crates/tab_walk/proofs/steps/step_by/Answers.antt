use Rattle.tab_walk.proofs.steps.step_by.Goals as goal

pub returns-in-Rows : goal.returns-in-Rows
returns-in-Rows g c = rw c.in-Rows.is c.step_into.ensures

pub returns-in-Image : goal.returns-in-Image
returns-in-Image g c = rw c.in-Image.is c.run_event_into.ensures.run
