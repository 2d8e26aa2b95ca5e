use Rattle.std.proofs.Common.{◌≡◌, Bool, subst}
use Rattle.std.specs.Prelude.{MatchBool}
use Rattle.bench_debug.specs.Debug.{Advances, IsAtEnd, debugging}
use Rattle.bench_debug.proofs.BackLemmas.{read_back, short_text, undone}
use Rattle.bench_debug.proofs.debugger.Debugger.take.Goals as goal

-- the entry is that of the step
pub returns-in-Some-clause-step : goal.returns-in-Some-clause-step
returns-in-Some-clause-step g c =
    let old = debugging c.args.self.now.core c.args.self.now.progress in
    let new = debugging c.advance.new.self.core c.advance.new.self.progress in
    let s = subst (λ (b : Bool). MatchBool b (Advances old new) (IsAtEnd old × (new ≡ old))) c.if-branch.true c.in_ok-advance.ensures.step in
    read_back old new s.0 c.in-Some.entry s.1 c.in-Some.ensures

-- the step was taken back
pub returns-in-None-clause-fault : goal.returns-in-None-clause-fault
returns-in-None-clause-fault g c =
    let old = debugging c.args.self.now.core c.args.self.now.progress in
    let new = debugging c.advance.new.self.core c.advance.new.self.progress in
    let s = subst (λ (b : Bool). MatchBool b (Advances old new) (IsAtEnd old × (new ≡ old))) c.if-branch.true c.in_ok-advance.ensures.step in
    short_text old new _ s.0 s.1 (undone old new (debugging c.undo.new.self.core c.undo.new.self.progress) s.0 c.undo.result s.1 c.undo.ensures.ok c.undo.ensures.none)
