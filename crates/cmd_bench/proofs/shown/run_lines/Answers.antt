use Rattle.std.proofs.Common.{◌≡◌, ◌++◌, ◌∷◌, [], ◌∙◌, List, ap, append-nil, append_assoc, refl, subst, sym}
use Rattle.std.proofs.lemmas.List.{nil_from_length}
use Rattle.bench_script.proofs.RanLemmas.{done_same, run_by_same}
use Rattle.script_text.specs.declared.run_line.RunLine.{RunLine}
use Rattle.cmd_bench.specs.Told.{RunShown}
use Rattle.cmd_bench.proofs.ShownLemmas.{runs_more, runs_none}
use Rattle.cmd_bench.proofs.shown.run_lines.Goals as goal

-- no line was run
pub lines-init : goal.lines-init
lines-init g c = record {
  same = refl;
  ran = ([], c.into_iter-left.ensures.rest, runs_none c.args.core.now c.args.steps c.new-text.result.items c.new-text.ensures.items);
}

-- the registries are still those of the bench
pub run_line-requires : goal.run_line-requires
run_line-requires g c = run_by_same c.args.core.now c.lines.core _ c.requires (sym c.lines.invariant.same)

-- one line more was
pub lines-preserved : goal.lines-preserved
lines-preserved g c =
    let (done, left, ran) = c.lines.invariant.ran in record {
      same = done_same c.lines.core c.run_line.new.core c.in-Some.line c.in_ok-run_line.ensures.text c.in_ok-run_line.ensures.does ∙ c.lines.invariant.same;
      ran = (
        done ++ c.in-Some.line ∷ [],
        append_assoc done (c.in-Some.line ∷ []) c.next.new.self.rest.items ∙ (ap (λ (lines : List RunLine). done ++ lines) (sym c.in-Some.ensures.items) ∙ left),
        runs_more c.args.core.now c.lines.core c.run_line.new.core done c.in-Some.line c.args.steps c.lines.text.items c.run_line.new.out.items c.keep.new.out.items ran c.in_ok-run_line.ensures c.keep.ensures,
      );
    }

-- no line is left
pub returns : goal.returns
returns g c =
    let (done, left, ran) = c.lines.invariant.ran in
    let none : c.lines.left.rest.items ≡ [] = nil_from_length c.lines.left.rest.items (sym c.lines.left.rest.ok.0 ∙ c.in_default.ensures.cases.0) in
    let all : done ≡ c.args.lines.items = sym (append-nil done) ∙ (ap (λ (lines : List RunLine). done ++ lines) (sym none) ∙ left) in
    subst (λ (lines : List RunLine). RunShown c.args.core.now lines c.args.steps c.lines.core c.lines.text.items) all ran
