use Rattle.thread_node.proofs.DoingLemmas.{does_on, does_same, does_then}
use Rattle.thread_node.proofs.node.ThreadNode.carry_lines.Goals as goal

-- first without patience, then, where nothing was carried, with it
pub returns : goal.returns
returns g c =
    does_on _ _ _ _ _
    (does_then _ _ _ _ (does_same _ _ c.set_patient.ensures) c.carry_each-at_once.ensures)
    (does_then _ _ _ _ (does_same _ _ c.set_patient-2.ensures) c.carry_rest-later.ensures)
