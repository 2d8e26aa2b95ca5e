-- Kind, header, fields and rest fix a command.
use Rattle.std.proofs.Common.{◌≡◌, List, map, Option, None, Some, refl, sym, ap, ◌∙◌}
use Rattle.std.specs.Prelude.{slice_get}
use Rattle.std.specs.Option.{option_to_list}
use Rattle.dia_avp.specs.declared.avp.Avp.{Avp}
use Rattle.dia_command.specs.declared.header.Header.{Header}
use Rattle.dia_command.specs.declared.kind.CommandKind.{CommandKind}
use Rattle.dia_command.specs.declared.command.Command.{Command}
use Rattle.dia_command.specs.declared.command.Command.TheVariants.{Cer, Cea, Dwr, Dwa, Dpr, Dpa, Rar, Raa, Ccr, Cca, ErrorAnswer}
use Rattle.dia_command.specs.Field.{Field}
use Rattle.dia_command.specs.Forms.{command_of, form_of, forms}
use Rattle.dia_command.specs.Command.{kind_of, header_of, fields, rest_of}
use Rattle.dia_command.specs.Laws.{SameCommand}

first_again : {T : Type 0} → (x : Option T) → slice_get (option_to_list x) 0 ≡ x
first_again None = refl
first_again (Some x) = refl

-- kind, header, fields and rest give the command again
pub command_again : (c : Command) → command_of (kind_of c) (header_of c) (fields c) (rest_of c) ≡ Some c
unfolding command_of
command_again (Cer c) = refl
command_again (Cea c) = refl
command_again (Dwr c) = refl
command_again (Dwa c) = refl
command_again (Dpr c) = refl
command_again (Dpa c) = refl
command_again (Rar c) = refl
command_again (Raa c) = refl
command_again (Ccr c) = rw (first_again c.requested_action, first_again c.requested_service_unit, first_again c.multiple_services_indicator) refl
command_again (Cca c) = rw (first_again c.granted_service_unit, first_again c.final_unit_indication, first_again c.check_balance_result) refl
command_again (ErrorAnswer c) = rw (first_again c.session_id, first_again c.failed_avp) refl

-- each field has the form that its format says
pub forms_are : (c : Command) → map form_of (fields c) ≡ forms (kind_of c)
forms_are (Cer c) = refl
forms_are (Cea c) = refl
forms_are (Dwr c) = refl
forms_are (Dwa c) = refl
forms_are (Dpr c) = refl
forms_are (Dpa c) = refl
forms_are (Rar c) = refl
forms_are (Raa c) = refl
forms_are (Ccr c) = refl
forms_are (Cca c) = refl
forms_are (ErrorAnswer c) = refl

some_same : (a b : Command) → Some a ≡ Some b → a ≡ b
some_same a b e = cc

pub same : SameCommand
same a b k h f r =
    some_same a b (sym (command_again a)
    ∙ (ap (λ (x : CommandKind). command_of x (header_of a) (fields a) (rest_of a)) k
    ∙ (ap (λ (x : Header). command_of (kind_of b) x (fields a) (rest_of a)) h
    ∙ (ap (λ (x : List Field). command_of (kind_of b) (header_of b) x (rest_of a)) f
    ∙ (ap (λ (x : List Avp). command_of (kind_of b) (header_of b) (fields b) x) r
    ∙ command_again b)))))
