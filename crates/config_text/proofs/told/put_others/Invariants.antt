use Rattle.std.proofs.Common.{◌≡◌, ◌++◌, length}
use Rattle.config_text.specs.Told.{others_text}
use Rattle.config_text.proofs.told.put_others.Given as goal

-- what is put, and the fields that are left, are all
abbrev pub invariant-fields : goal.invariant-fields
invariant-fields l = l.out.items ++ others_text l.left ≡ l.initial.out.items ++ others_text l.fields

abbrev pub decreases-fields : goal.decreases-fields
decreases-fields l = length l.left
