use Rattle.cmd_live.proofs.opening.desk_of.Goals as goal

-- the first text that it can't tell
pub returns-in_ok-bad_text-in-Err-BadText-clause-refused : goal.returns-in_ok-bad_text-in-Err-BadText-clause-refused
returns-in_ok-bad_text-in-Err-BadText-clause-refused c = (
  c.in-Err-BadText.text,
  rw (c.as_slice.ensures, c.min-shown.ensures) at (c.in-Err-BadText.ensures.fault c.in-Err-BadText.text c.in-Err-BadText.field-0-is),
  c.in_ok-bad_text-in-Err-BadText.ensures,
)
