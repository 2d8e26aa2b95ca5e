-- What a deed of a server's machine asks of the account book.
use Rattle.std.specs.Prelude.{ℕ, List, Option, Some, None, slice_index}
use Rattle.std.specs.Option.{option_and_then}
use Rattle.base_codes.specs.declared.deed_code.DeedCode.{DeedCode}
use Rattle.base_codes.specs.declared.deed_code.DeedCode.TheVariants as deeds
use Rattle.base_codes.specs.DeedCodes.{coded}
use Rattle.acct_totals.specs.declared.op.Op.{Op}
use Rattle.acct_totals.specs.declared.op.Op.TheVariants as op
use Rattle.tab_law.specs.declared.scene.Deed.{Deed}
use Rattle.charge_session.specs.declared.want.Want.{Want}

-- by the deed's name: argument 0 is the amount, argument 1 the group
abbrev pub op_by : Want → List ℕ → DeedCode → Option Op
op_by w a deeds.Reserve = Some (op.Reserve w.account w.session (slice_index a 1) (slice_index a 0))
op_by w a deeds.Debit = Some (op.Debit w.account w.session (slice_index a 1) (slice_index a 0))
op_by w a deeds.Release = Some (op.Release w.account w.session)
op_by w a deeds.Charge = Some (op.Charge w.account (slice_index a 0))
op_by w a deeds.Refund = Some (op.Refund w.account (slice_index a 0))
op_by w a code = None

-- the operation of a deed, none where it is not the book's
abbrev pub op_of : Want → Deed → Option Op
op_of w deed = option_and_then (op_by w deed.a) (coded deed.code)
