use Rattle.msg_text.proofs.plain.PlainPrinter.put.Goals as goal

-- what is printed by the definitions of the glossary
pub returns : goal.returns
returns c = rw c.definitions.ensures at c.read.ensures
