use Rattle.std.proofs.Common.{◌∷◌, [], length, ◌+◌}
use Rattle.std.proofs.lemmas.List.{map-append}
use Rattle.bench_item.specs.declared.opening.Opening.TheVariants.{Accepted}
use Rattle.bench_line.specs.Line.{new_line}
use Rattle.bench_line.specs.Talk.{meaning}
use Rattle.bench_line.proofs.StandLemmas.{on_ok, stands-push}
use Rattle.bench_line.proofs.EventLemmas.{opens}
use Rattle.bench_line.proofs.lines.Lines.joined.Goals as goal

pub returns-clause-stands : goal.returns-clause-stands
returns-clause-stands g c =
    let m = meaning g.T.Hears.heard g.T.Hears.turned g.T.Hears.octets_of c.args.self.now.rules in
    let old = c.args.self.now.lines in
    on_ok c.add.result c.add.ensures.ok (λ e pasts s. rw e (stands-push m old (new_line Accepted) Accepted (opens m (length old + 1) Accepted) pasts s))

pub returns-clause-lifted : goal.returns-clause-lifted
returns-clause-lifted g c =
    let old = c.args.self.now.lines in
    on_ok c.add.result c.add.ensures.ok (λ e. rw e (map-append (λ l. l.lifted) old (new_line Accepted ∷ [])))
