use Rattle.std.proofs.Common.{append_assoc}
use Rattle.config_json.specs.Json.{counts_text}
use Rattle.config_json.proofs.node.put_counts.Goals as goal

-- a number behind the other
pub returns : goal.returns
unfolding counts_text
returns c =
    simp append_assoc (simp append_assoc at (rw (c.in_ok-put_number-3.ensures, c.in_ok-put_number-2.ensures, c.in_ok-put_number.ensures) at c.put_number-4.ensures))
