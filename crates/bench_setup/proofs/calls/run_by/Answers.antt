use Rattle.std.proofs.Common.{◌≡◌, ◌∙◌, List, arith, length, subst, sym, vec_len}
use Rattle.std.specs.Prelude.{IfOk}
use Rattle.std.proofs.lemmas.Grind.{common_steps}
use Rattle.tab_law.specs.Books.{Laws}
use Rattle.bench_setup.proofs.CallLemmas.{laws_of_all}
use Rattle.bench_setup.proofs.calls.run_by.Goals as goal

-- there are as many registries as are wanted, and each has the laws
pub run-requires : goal.run-requires
run-requires g c =
    let long : length c.registries.registries.items ≡ vec_len c.registries.registries = grind (arith, common_steps) in
    let all : vec_len c.registries.registries ≡ c.args.count = omega (arith, c.len.ensures, c.registries-test.false, c.registries.invariant.0) in
    subst (λ (books : List Laws). g.J.WithCalls.fits c.args.job books)
    (sym (laws_of_all c.registries.registries.items (λ r. r.book) c.args.count c.args.laws.now c.registries.invariant.1 (long ∙ all)))
    c.requires

pub returns : goal.returns
returns g c =
    let long : length c.registries.registries.items ≡ vec_len c.registries.registries = grind (arith, common_steps) in
    let all : vec_len c.registries.registries ≡ c.args.count = omega (arith, c.len.ensures, c.registries-test.false, c.registries.invariant.0) in
    subst (λ (books : List Laws). IfOk c.run.result (g.J.WithCalls.answers c.args.job books))
    (laws_of_all c.registries.registries.items (λ r. r.book) c.args.count c.args.laws.now c.registries.invariant.1 (long ∙ all))
    c.run.ensures
