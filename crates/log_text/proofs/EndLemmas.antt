-- Which lines may not stand behind a log that ends so.
use Rattle.std.proofs.Common.{◌≡◌, ◌≤◌, inl, inr, List, ℕ, true, false, ap, arith}
use Rattle.bench_item.specs.declared.limit.TheConstants.{MAX_ENTRIES}
use Rattle.step_text.specs.Faults.{IsBadLine}
use Rattle.log_text.specs.Books.{Named}
use Rattle.log_text.specs.DeedLines.{IsDeedLine}
use Rattle.log_text.specs.ItemLines.{IsItemLine}
use Rattle.log_text.specs.Following.{IsStepLine, MayStandAt, begins_blank}
use Rattle.log_text.specs.declared.end.End.{End}
use Rattle.log_text.specs.declared.end.Last.TheVariants as last
use Rattle.log_text.proofs.ReaderLemmas.{deed_begins, item_begins, step_begins}

no_item : (names : Named) (line : List ℕ) → begins_blank line ≡ false → IsItemLine names line → ⊥
no_item names line letter item = cc (letter, ap begins_blank item.has, item_begins names item.item)

no_deed : (line : List ℕ) → begins_blank line ≡ false → IsDeedLine line → ⊥
no_deed line letter deed = cc (letter, ap begins_blank deed.has, deed_begins deed.deed)

no_step : (names : Named) (line : List ℕ) → begins_blank line ≡ true → IsStepLine names line → ⊥
no_step names line blank step = cc (blank, ap begins_blank step.has, step_begins names.names step.step)

-- a log that is full
pub full_none : (names : Named) (end : End) (line : List ℕ) → begins_blank line ≡ false → MAX_ENTRIES ≤ end.entries → MayStandAt names end line → ⊥
full_none names end line letter full (inl step) = let room = step.1 in omega (arith, room, full)
full_none names end line letter full (inr (inl item)) = no_item names line letter item.1
full_none names end line letter full (inr (inr deed)) = no_deed line letter deed.1

-- the line of no step
pub bad_none : (names : Named) (end : End) (line : List ℕ) → begins_blank line ≡ false → IsBadLine names.names line → MayStandAt names end line → ⊥
bad_none names end line letter bad (inl step) = bad step.0.step step.0.is step.0.has
bad_none names end line letter bad (inr (inl item)) = no_item names line letter item.1
bad_none names end line letter bad (inr (inr deed)) = no_deed line letter deed.1

-- another line than an item's below a `work`, than a deed's below a move; any that begins with a blank elsewhere
pub waiting_none : (names : Named) (end : End) (line : List ℕ) → begins_blank line ≡ true → end.last ≡ last.Waiting → (IsItemLine names line → ⊥) → MayStandAt names end line → ⊥
waiting_none names end line blank ends none (inl step) = no_step names line blank step.0
waiting_none names end line blank ends none (inr (inl item)) = none item.1
waiting_none names end line blank ends none (inr (inr deed)) = cc (ends, deed.0)

pub moved_none : (names : Named) (end : End) (line : List ℕ) → begins_blank line ≡ true → end.last ≡ last.Moved → (IsDeedLine line → ⊥) → MayStandAt names end line → ⊥
moved_none names end line blank ends none (inl step) = no_step names line blank step.0
moved_none names end line blank ends none (inr (inl item)) = cc (ends, item.0)
moved_none names end line blank ends none (inr (inr deed)) = none deed.1

pub other_none : (names : Named) (end : End) (line : List ℕ) → begins_blank line ≡ true → end.last ≡ last.Other → MayStandAt names end line → ⊥
other_none names end line blank ends (inl step) = no_step names line blank step.0
other_none names end line blank ends (inr (inl item)) = cc (ends, item.0)
other_none names end line blank ends (inr (inr deed)) = cc (ends, deed.0)
