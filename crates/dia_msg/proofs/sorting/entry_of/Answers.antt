use Rattle.std.proofs.Common.{◌≡◌, All, take, drop, false, subst, List}
use Rattle.std.proofs.lemmas.List.{take-append-drop, take_rest}
use Rattle.std.proofs.lemmas.List.Elements.{All-append}
use Rattle.dia_avp.specs.View.{seen}
use Rattle.dia_command.specs.declared.format.AvpFormat.{AvpFormat}
use Rattle.dia_msg.specs.Taken.{is_for}
use Rattle.dia_msg.proofs.sorting.entry_of.Goals as goal

pub returns-in-None-clause-none : goal.returns-in-None-clause-none
returns-in-None-clause-none c = λ e.
    let P = λ (f : AvpFormat). is_for f (seen c.args.avp.now) ≡ false in
    subst (λ (l : List AvpFormat). All P l) (take-append-drop c.args.next c.args.format.now)
    (All-append P (take c.args.next c.args.format.now) (drop c.args.next c.args.format.now) (c.place_of-in-None.ensures.none e) (rw take_rest at (c.place_of.ensures.none c.in-None.is)))
