use Rattle.std.proofs.Common.{sym, ◌∙◌, refl}
use Rattle.std.proofs.lemmas.Bool.{true≢false}
use Rattle.dia_msg.proofs.source.Source.value.Goals as goal
use Rattle.dia_msg.proofs.source.Source.value.Goals.{in-Ok, in-Err}

pub returns : goal.returns
returns g c = λ enough. elim c.match-from_avp.branch [
  | in-Ok w ↦ (sym w.no_memory-is ∙ enough, record { mandatory = refl; protected = refl; value = rw w.value-is w.in-Ok.ensures })
  | in-Err w ↦ absurd (true≢false (sym w.no_memory-is ∙ enough))
]
