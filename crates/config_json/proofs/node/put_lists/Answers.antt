use Rattle.std.proofs.Common.{append_assoc}
use Rattle.config_json.specs.Json.{lists_text}
use Rattle.config_json.proofs.node.put_lists.Goals as goal

-- a list behind the other
pub returns : goal.returns
unfolding lists_text
returns c =
    simp append_assoc (simp append_assoc at (rw (c.in_ok-put_accounts.ensures, c.in_ok-put_peers.ensures, c.as_slice.ensures, c.as_slice-2.ensures, c.as_slice-3.ensures) at c.put_desks.ensures))
