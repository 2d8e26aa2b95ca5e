use Rattle.std.proofs.Common.{◌≡◌, ◌++◌, ℕ, Bool, List, Option, Result, Ok, Err, inl}
use Rattle.std.specs.Prelude.{IfOk}
use Rattle.dia_dict.specs.Dictionary.{known}
use Rattle.dia_show.specs.Glossary.{Meanings}
use Rattle.msg_json.specs.Lines.{SaysInJson}
use Rattle.msg_text.specs.Styles.{IsJson}
use Rattle.msg_text.proofs.json.JsonPrinter.put.Goals as goal

in_json : {E : Type 0} (r : Result Bool E) (g : Meanings) (line : Option ℕ) (number offset : ℕ) (octets out new : List ℕ)
    → IfOk r (λ refused. (text : List ℕ) × SaysInJson (known g.definitions) octets text refused × (new ≡ out ++ text))
    → IfOk r (λ refused. (text : List ℕ) × IsJson g line number offset octets text refused × (new ≡ out ++ text))
in_json (Ok refused) g line number offset octets out new said = (said.0, inl said.1, said.2)
in_json (Err e) g line number offset octets out new said = tt

-- what is said in JSON by the glossary
pub returns : goal.returns
returns c =
    in_json c.put_json.result c.args.glossary.now c.args.line c.args.number c.args.offset c.args.octets.now c.args.out.now.items c.put_json.new.out.items
    c.put_json.ensures
