use Rattle.dia_msg.proofs.SourceLemmas.{text_ok}
use Rattle.dia_msg.proofs.source.TextFromAvp.from_avp.Goals as goal

pub unwrap-requires : goal.unwrap-requires
unwrap-requires c = text_ok c.args.avp.now.octets.now c.as_text.result c.as_text.ensures.refused (c.requires.2.text c.requires.1)
