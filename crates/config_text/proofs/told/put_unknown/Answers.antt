use Rattle.std.proofs.Common.{append_assoc}
use Rattle.std.proofs.lemmas.Result.{IfOk-weaker}
use Rattle.config_text.specs.Told.{unknown_text}
use Rattle.config_text.proofs.told.put_unknown.Goals as goal

-- three pieces, one behind another
pub returns : goal.returns
unfolding unknown_text
returns c =
    IfOk-weaker c.put_one_of.result _ _
    (λ _ last. rw last (rw c.in_ok-put_written.ensures (rw c.in_ok-extend_from_slice.ensures.items (simp append_assoc))))
    c.put_one_of.ensures
