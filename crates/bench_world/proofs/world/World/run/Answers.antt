use Rattle.std.proofs.Common.{◌∷◌, [], ◌++◌, ◌∙◌, ap, append_assoc, arith, length, refl, subst, sym}
use Rattle.std.proofs.lemmas.List.{append-nil, length-append}
use Rattle.bench_spec.specs.Taken.{TakesAll, fault_of}
use Rattle.bench_world.proofs.RunLemmas.{none-left, takes-more}
use Rattle.bench_world.proofs.world.World.run.Goals as goal

pub loop-step-init : goal.loop-step-init
loop-step-init g c =
    (refl, c.into_iter-step-iterator.ensures.into_iter_gives.0, c.len-count.ensures ∙ c.args.steps.ok.0 ∙ ap length (sym c.into_iter-step-iterator.ensures.into_iter_gives.0))

pub returns-in-Err : goal.returns-in-Err
returns-in-Err g c = (
  c.loop-step.yielded,
  c.in-Some.step,
  c.next.new.self.rest.items,
  sym (ap (λ xs. c.loop-step.yielded ++ xs) (sym c.in-Some.ensures.steps.0) ∙ c.loop-step.invariant.1),
  (let all = ap length c.loop-step.invariant.1 in
      let both = length-append c.loop-step.yielded c.loop-step.step-iterator.rest.items in
      let count = c.len-count.ensures in
      let left = c.loop-step.invariant.2 in
      omega (arith, all, both, count, left)),
  subst (λ run. TakesAll c.args.self.now.core run c.loop-step.yielded) (sym c.in-Err.ensures.err) c.loop-step.invariant.0,
  c.in-Err.ensures.fault ∙ ap (λ run. fault_of run c.in-Some.step) (sym c.in-Err.ensures.err),
)

pub loop-step-preserved : goal.loop-step-preserved
loop-step-preserved g c = (
  takes-more c.args.self.now.core c.loop-step.self.core c.step.new.self.core c.loop-step.yielded c.in-Some.step c.loop-step.invariant.0 c.in_default.ensures.ok,
  append_assoc c.loop-step.yielded (c.in-Some.step ∷ []) c.next.new.self.rest.items ∙ ap (λ xs. c.loop-step.yielded ++ xs) (sym c.in-Some.ensures.steps.0) ∙ c.loop-step.invariant.1,
  (let left = c.loop-step.invariant.2 in
      let rest = ap length c.in-Some.ensures.steps.0 in
      omega (arith, left, rest)),
)

pub returns : goal.returns
returns g c =
    subst (λ xs. TakesAll c.args.self.now.core c.loop-step.self.core xs)
    (sym (append-nil c.loop-step.yielded) ∙ ap (λ xs. c.loop-step.yielded ++ xs) (sym (none-left c.loop-step.step-iterator.rest.items (sym c.loop-step.step-iterator.rest.ok.0 ∙ c.in-None.ensures.steps.0))) ∙ c.loop-step.invariant.1) c.loop-step.invariant.0
