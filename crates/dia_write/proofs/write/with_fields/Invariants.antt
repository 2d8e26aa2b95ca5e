use Rattle.std.proofs.Common.{◌≡◌, ◌+◌, ◌<◌, ◌^◌, length}
use Rattle.dia_avp.specs.Encoding.{encoding}
use Rattle.dia_write.specs.Values.{values_avps}
use Rattle.dia_write.proofs.write.with_fields.Given as goal

-- the sum so far and what is left are the whole
abbrev pub invariant-fields : goal.invariant-fields
invariant-fields l = record {
  is : l.len + length (encoding (values_avps l.format l.fields)) ≡ l.start + length (encoding (values_avps l.fn.format l.fn.fields));
  fits : l.len < 2 ^ 24;
}

abbrev pub decreases-fields : goal.decreases-fields
decreases-fields l = length l.fields
