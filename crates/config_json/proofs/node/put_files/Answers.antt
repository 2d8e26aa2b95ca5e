use Rattle.std.proofs.Common.{append_assoc}
use Rattle.config_json.specs.Json.{files_text}
use Rattle.config_json.proofs.node.put_files.Goals as goal

-- a name behind the other
pub returns : goal.returns
unfolding files_text
returns c =
    simp append_assoc (simp append_assoc at (rw (c.in_ok-put_string_or_null-3.ensures, c.in_ok-put_string_or_null-2.ensures, c.in_ok-put_string_or_null.ensures, c.as_ref.ensures.value, c.as_ref-2.ensures.value, c.as_ref-3.ensures.value, c.as_ref-4.ensures.value) at c.put_string_or_null-4.ensures))
