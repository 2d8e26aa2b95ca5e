use Rattle.std.proofs.Common.{◌≢◌, [], Some, refl}
use Rattle.std.proofs.lemmas.List.Elements.{All-nil}
use Rattle.msg_input.specs.ByLine.{IsLine}
use Rattle.msg_input.proofs.by_line.ByLine.new.Goals as goal

-- no line is printed yet, and the first is read
pub returns-clause-start : goal.returns-clause-start
returns-clause-start g c = λ meanings. record {
  lines = [];
  last = [];
  joined = refl;
  each = All-nil IsLine;
  no_newline = All-nil (λ c. c ≢ 10);
  texts = (c.new-3.ensures.items, refl, refl);
  count = refl;
  along = c.in_ok-new.ensures.start meanings (Some 1);
}
