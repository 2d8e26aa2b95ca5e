use Rattle.std.proofs.Common.{◌≡◌, ◌<◌, ℕ, false, get_or}
use Rattle.dia_avp.specs.View.{seen}
use Rattle.dia_command.specs.declared.format.AvpFormat.{AvpFormat}
use Rattle.dia_msg.specs.Taken.{is_for}
use Rattle.dia_msg.proofs.sorting.place_of.Given as goal

-- none of the entries that were looked at is for the AVP
abbrev pub invariant-loop-place : goal.invariant-loop-place
invariant-loop-place l = (k : ℕ) → k < l.place → (d : AvpFormat) → is_for (get_or l.format k d) (seen l.avp) ≡ false
