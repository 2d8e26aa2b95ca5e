use Rattle.std.proofs.Common.{ap, ◌∙◌}
use Rattle.std.specs.Prelude.{is_some}
use Rattle.script_text.specs.Keys.{name_of}
use Rattle.script_text.proofs.NameLemmas.{before_some}
use Rattle.script_text.proofs.keys.is_name.Goals as goal

-- an octet more is passed
pub loop-left-preserved : goal.loop-left-preserved
loop-left-preserved c =
    c.loop-left.invariant ∙ (ap (λ o. is_some o) c.in-Some.ensures.some ∙ before_some c.in-Some.taken.octet (name_of c.in-Some.taken.behind.now))
