use Rattle.std.proofs.Common.{◌≡◌, Bool, arith, subst}
use Rattle.std.specs.Prelude.{MatchBool}
use Rattle.bench_script.proofs.RanLemmas.{run_by_same}
use Rattle.bench_debug.specs.Debug.{Advances, IsAtEnd, debugging}
use Rattle.bench_debug.proofs.GoingLemmas.{forward_by, forward_same, forward_start, one_longer}
use Rattle.bench_debug.proofs.debugger.Debugger.go_on.Goals as goal

pub steps-init : goal.steps-init
steps-init g c = (forward_start (debugging c.args.self.now.core c.args.self.now.progress), c.requires.behind)

-- the registries are still those of the bench
pub advance-requires : goal.advance-requires
advance-requires g c =
    run_by_same c.args.self.now.core c.steps.self.core _ c.requires.by
    (forward_same (debugging c.args.self.now.core c.args.self.now.progress) (debugging c.steps.self.core c.steps.self.progress) _ c.steps.invariant.0)

-- one step more
pub steps-preserved : goal.steps-preserved
steps-preserved g c =
    let old = debugging c.args.self.now.core c.args.self.now.progress in
    let mid = debugging c.steps.self.core c.steps.self.progress in
    let new = debugging c.advance.new.self.core c.advance.new.self.progress in
    let s = subst (λ (b : Bool). MatchBool b (Advances mid new) (IsAtEnd mid × (new ≡ mid))) c.if-branch.true c.in_ok-advance.ensures.step in
    let one = one_longer mid new s.0 s.1 in (
      forward_by old mid new s.0 c.steps.invariant.0 s.1,
      omega (arith, one, c.place.ensures, c.steps-test.true),
    )
