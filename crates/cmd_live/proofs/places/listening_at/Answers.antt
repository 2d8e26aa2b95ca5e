use Rattle.std.proofs.Common.{ap}
use Rattle.std.specs.Prelude.{option_map}
use Rattle.cmd_live.proofs.places.listening_at.Goals as goal

-- there is a text
pub returns-in-None : goal.returns-in-None
returns-in-None g c = λ unknown. (c.in-Some.text.now, ap (option_map (λ text. text.now)) c.in-Some.is)
