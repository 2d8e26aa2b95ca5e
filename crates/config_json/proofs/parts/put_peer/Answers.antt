use Rattle.std.proofs.Common.{◌++◌, append_assoc, codes}
use Rattle.config_json.specs.Json.{peer_item}
use Rattle.config_json.proofs.TextLemmas.{put_ok}
use Rattle.config_json.proofs.parts.put_peer.Goals as goal

-- a text behind the other
pub returns : goal.returns
returns c =
    put_ok c.extend_from_slice.result c.put_string-2.new.out.items c.extend_from_slice.new.self.items (codes "}")
    (c.args.out.now.items ++ peer_item c.args.peer.now) c.extend_from_slice.ensures.items
    (rw (c.in_ok-put_string-2.ensures, c.in_ok-put_string.ensures, c.as_slice.ensures, c.as_slice-2.ensures) (simp append_assoc))
