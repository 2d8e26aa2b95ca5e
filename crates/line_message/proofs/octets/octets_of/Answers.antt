use Rattle.std.proofs.Common.{◌∙◌, List, ◌++◌, ℕ, ap}
use Rattle.dia_write.specs.Encoding.{encode}
use Rattle.line_message.proofs.SentLemmas.{octets-written, octets-refused}
use Rattle.line_message.proofs.octets.octets_of.Goals as goal

pub returns-in-Ok : goal.returns-in-Ok
returns-in-Ok c =
    c.new.ensures
    ∙ (c.in-Ok.ensures.ok
    ∙ (ap (λ (x : List ℕ). x ++ encode c.args.command.now) c.new-out.ensures.items
    ∙ octets-written c.args.command.now c.write_message.result c.in-Ok.field-0 c.write_message.ensures.too_long c.in-Ok.is))

pub returns-in-Err-LengthOver24Bits : goal.returns-in-Err-LengthOver24Bits
returns-in-Err-LengthOver24Bits c =
    c.new-in-Err-LengthOver24Bits-2.ensures
    ∙ (c.new-in-Err-LengthOver24Bits.ensures.items
    ∙ octets-refused c.args.command.now c.write_message.result c.in-Err-LengthOver24Bits.field-0 c.write_message.ensures.too_long c.in-Err-LengthOver24Bits.is c.in-Err-LengthOver24Bits.field-0-is)
