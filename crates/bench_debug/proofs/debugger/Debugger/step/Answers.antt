use Rattle.std.proofs.Common.{◌≡◌, Option, subst}
use Rattle.std.specs.Prelude.{MatchOption}
use Rattle.bench_item.specs.declared.entry.Entry.{Entry}
use Rattle.bench_debug.specs.Debug.{IsAtEnd, StepsTo, debugging}
use Rattle.bench_debug.proofs.BackLemmas.{short_text, undone}
use Rattle.bench_debug.proofs.debugger.Debugger.step.Goals as goal

pub returns : goal.returns
returns g c =
    let old = debugging c.args.self.now.core c.args.self.now.progress in
    let mid = debugging c.take.new.self.core c.take.new.self.progress in
    let s = subst (λ (o : Option Entry). MatchOption o (IsAtEnd old × (mid ≡ old)) (StepsTo old mid)) c.in-Some.is c.in_ok-entry.ensures.step in
    short_text old mid _ c.in-Some.entry s (undone old mid (debugging c.undo.new.self.core c.undo.new.self.progress) c.in-Some.entry c.undo.result s c.undo.ensures.ok c.undo.ensures.none)
