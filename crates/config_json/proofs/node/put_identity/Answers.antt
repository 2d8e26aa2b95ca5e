use Rattle.std.proofs.Common.{append_assoc}
use Rattle.config_json.specs.Json.{identity_text}
use Rattle.config_json.proofs.node.put_identity.Goals as goal

-- a text behind the other
pub returns : goal.returns
unfolding identity_text
returns c =
    simp append_assoc (simp append_assoc at (rw (c.in_ok-put_string-2.ensures, c.in_ok-put_string.ensures, c.as_slice.ensures, c.as_slice-2.ensures) at c.put_address.ensures))
