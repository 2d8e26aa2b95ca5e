use Rattle.std.proofs.Common.{◌≡◌, ◌++◌, ◌∙◌, ℕ, Bool, List, Option, Result, Ok, Err, ap, append_assoc}
use Rattle.std.specs.Prelude.{IfOk}
use Rattle.dia_dict.specs.declared.definition.Definition.{Definition}
use Rattle.dia_dict.specs.Dictionary.{known}
use Rattle.dia_show.specs.Glossary.{Naming}
use Rattle.msg_explain.specs.Messages.{message_line}
use Rattle.msg_explain.specs.Explained.{avp_lines, Concludes, Explains}
use Rattle.msg_explain.proofs.explaining.explain.Goals as goal

-- the message's line, those of its AVPs, and then that of its fault
all_lines : {E : Type 0} (r : Result Bool E) (n : List Naming) (d : List Definition) (line : Option ℕ) (number offset : ℕ) (octets out before new : List ℕ)
    → before ≡ (out ++ message_line line number offset octets) ++ avp_lines n d octets
    → IfOk r (λ refused. (text : List ℕ) × Concludes d line number offset octets text refused × (new ≡ before ++ text))
    → IfOk r (λ refused. (text : List ℕ) × Explains n d line number offset octets text refused × (new ≡ out ++ text))
all_lines (Ok refused) n d line number offset octets out before new so_far h =
    let first = message_line line number offset octets in
    let avps = avp_lines n d octets in (
      first ++ avps ++ h.0,
      record { answer = h.1.answer; reading = h.1.reading; said = ap (λ (end : List ℕ). first ++ avps ++ end) h.1.said; is_refused = h.1.is_refused },
      h.2 ∙ rw so_far (simp append_assoc),
    )
all_lines (Err e) n d line number offset octets out before new so_far h = tt

pub returns : goal.returns
returns c =
    let so_far = rw c.in_ok-put_message_line.ensures at c.in_ok-put_avps.ensures in
    let ended = rw c.definitions-dictionary.ensures at c.put_end.ensures in
    all_lines c.put_end.result c.args.glossary.now.namings (known c.args.glossary.now.definitions) c.args.line c.args.number c.args.offset c.args.octets.now c.args.out.now.items c.put_avps.new.out.items _ so_far ended
