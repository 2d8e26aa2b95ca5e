use Rattle.std.proofs.Common.{◌≡◌, ◌++◌, ℕ, Bool, List, Option, Result, Ok, Err, inl}
use Rattle.std.specs.Prelude.{IfOk}
use Rattle.dia_dict.specs.Dictionary.{known}
use Rattle.dia_show.specs.Glossary.{Meanings}
use Rattle.msg_explain.specs.Explained.{Explains}
use Rattle.msg_text.specs.Styles.{IsExplained}
use Rattle.msg_text.proofs.explaining.ExplainingPrinter.put.Goals as goal

explained : {E : Type 0} (r : Result Bool E) (g : Meanings) (line : Option ℕ) (number offset : ℕ) (octets out new : List ℕ)
    → IfOk r (λ refused. (text : List ℕ) × Explains g.namings (known g.definitions) line number offset octets text refused × (new ≡ out ++ text))
    → IfOk r (λ refused. (text : List ℕ) × IsExplained g line number offset octets text refused × (new ≡ out ++ text))
explained (Ok refused) g line number offset octets out new said = (said.0, inl said.1, said.2)
explained (Err e) g line number offset octets out new said = tt

-- what is said in names by the glossary
pub returns : goal.returns
returns c =
    explained c.explain.result c.args.glossary.now c.args.line c.args.number c.args.offset c.args.octets.now c.args.out.now.items c.explain.new.out.items
    c.explain.ensures
