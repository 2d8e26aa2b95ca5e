use Rattle.std.proofs.Common.{◌≡◌, List, map, ap, sym, ◌∙◌}
use Rattle.clap.specs.Words.{App, Text, app_of, is_simple, is_simple_and_free, subcommand_of, subcommand_rows_of}
use Rattle.cmd_words.specs.Words.{dbench_app, wanted_of}
use Rattle.cmd_words.proofs.WordLemmas.{HasKind-of, IsAsked-error, faults-none, is_known, is_known_simple, used-is, wanted-used}
use Rattle.cmd_words.proofs.words.parse_words.Goals as goal

-- the error is of a kind that the words have
pub returns-in-Err : goal.returns-in-Err
returns-in-Err g c =
    let words : List Text = map g.S.AsStr.text c.args.words.now in
    let app_is : app_of c.in_ok-command.field-0 ≡ dbench_app = c.in_ok-command.ensures in
    let kinds = c.in-Err.ensures.kinds (ap is_simple_and_free app_is ∙ is_known) in
    IsAsked-error words c.in-Err.error c.refusal.result (HasKind-of _ words c.in-Err.error app_is kinds) c.refusal.ensures

-- nothing is wrong with the words, and the command that was used is what they ask for
pub returns-in-Some : goal.returns-in-Some
returns-in-Some g c =
    let words : List Text = map g.S.AsStr.text c.args.words.now in
    let app_is : app_of c.in_ok-command.field-0 ≡ dbench_app = c.in_ok-command.ensures in
    let kinds = c.in-Ok.ensures.kinds (ap is_simple_and_free app_is ∙ is_known) in
    let matches = c.in-Ok.ensures.matches (ap is_simple app_is ∙ is_known_simple) in
    let used = used-is c.in-Ok.matches _ _ c.in-Some.ensures.name c.in-Some.ensures.rows in (
      faults-none _ words app_is kinds,
      sym (wanted-used words (subcommand_rows_of c.in-Ok.matches) (matches.1 ∙ ap (λ (a : App). subcommand_of a words) app_is))
          ∙ ap wanted_of used ∙ sym c.task_of.ensures,
    )
