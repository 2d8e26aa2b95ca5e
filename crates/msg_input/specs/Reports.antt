-- What a report keeps.
use Rattle.std.specs.Prelude.{◌≡◌, ◌||◌, ◌+◌, ◌++◌, Bool, List, ℕ, length}
use Rattle.dia_frame.specs.Frames.{joined}
use Rattle.msg_input.specs.declared.report.Report.{Report}

-- all is as it was, but for scratch
pub record Stays {M : Type 0} (old new : Report M) : Type 0 where
  pub out : new.out.items ≡ old.out.items
  pub marked : new.refused ≡ old.refused
  pub messages : new.messages ≡ old.messages
  pub octets : new.octets ≡ old.octets

-- The text of these messages came behind the others, they are counted, and all else is as it was, but for scratch.
pub record Gains {M : Type 0} (old new : Report M) (came : List (List ℕ)) (text : List ℕ)
    (refused : Bool) : Type 0 where
  pub out : new.out.items ≡ old.out.items ++ text
  pub marked : new.refused ≡ (old.refused || refused)
  pub messages : new.messages ≡ old.messages + length came
  pub octets : new.octets ≡ old.octets + length (joined came)
