use Rattle.std.proofs.Common.{◌++◌, append_assoc, codes}
use Rattle.config_json.specs.Json.{config_json}
use Rattle.config_json.proofs.TextLemmas.{put_ok}
use Rattle.config_json.proofs.node.put_config.Goals as goal

-- a part behind the other
pub returns : goal.returns
returns c =
    put_ok c.extend_from_slice-2.result c.put_files.new.out.items c.extend_from_slice-2.new.self.items (codes "\n}]}\n")
    (c.args.out.now.items ++ config_json c.args.node.now c.args.files.now) c.extend_from_slice-2.ensures.items
    (rw (c.in_ok-put_files.ensures, c.in_ok-put_counts.ensures, c.in_ok-put_lists.ensures, c.in_ok-put_string_or_null.ensures, c.as_ref.ensures.value, c.in_ok-put_identity.ensures, c.in_ok-extend_from_slice.ensures.items) (simp append_assoc))
