use Rattle.std.proofs.Common.{◌≡◌, ◌++◌, ◌∷◌, [], ◌∙◌, List, ap, append-nil, append_assoc, refl, subst, sym}
use Rattle.std.proofs.lemmas.List.{nil_from_length}
use Rattle.script_text.specs.declared.run_line.RunLine.{RunLine}
use Rattle.bench_script.specs.Ran.{Prints, Ran, nothing, one_more}
use Rattle.bench_script.proofs.RanLemmas.{done_same, prints_more, prints_nothing, run_by_same}
use Rattle.bench_script.proofs.script.run_script.Goals as goal

-- no line was done
pub lines-init : goal.lines-init
lines-init g c = (refl, ([], c.into_iter-left.ensures.rest, prints_nothing c.args.out.now.items nothing))

-- the registries are still those of the bench
pub do_line-requires : goal.do_line-requires
do_line-requires g c = run_by_same c.args.core.now c.lines.core _ c.requires (sym c.lines.invariant.0)

-- one more was
pub lines-preserved : goal.lines-preserved
lines-preserved g c =
    let (same, rest) = c.lines.invariant in
    let (done, left, printed) = rest in (
      done_same c.lines.core c.do_line.new.core c.in-Some.line c.in_ok-do_line.ensures.text c.in_ok-do_line.ensures.does ∙ same,
      (
        done ++ c.in-Some.line ∷ [],
        append_assoc done (c.in-Some.line ∷ []) c.next.new.self.rest.items ∙ (ap (λ (lines : List RunLine). done ++ lines) (sym c.in-Some.ensures.items) ∙ left),
        prints_more (λ text more p q. one_more c.lines.core c.do_line.new.core done c.in-Some.line text more p q) printed c.in_ok-do_line.ensures,
      ),
    )

-- no line is left
pub returns : goal.returns
returns g c =
    let (same, rest) = c.lines.invariant in
    let (done, left, printed) = rest in
    let none : c.lines.left.rest.items ≡ [] = nil_from_length c.lines.left.rest.items (sym c.lines.left.rest.ok.0 ∙ c.in_default.ensures.cases.0) in
    let all : done ≡ c.args.lines.items = sym (append-nil done) ∙ (ap (λ (lines : List RunLine). done ++ lines) (sym none) ∙ left) in
    subst (λ (lines : List RunLine). Prints (Ran c.args.core.now lines c.lines.core) c.args.out.now.items c.lines.out.items) all printed
