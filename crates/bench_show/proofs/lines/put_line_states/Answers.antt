use Rattle.std.proofs.Common.{◌≡◌, ◌++◌, ◌+◌, ◌∙◌, List, ℕ, ap, append-nil, append_assoc, arith, length, sym}
use Rattle.bench_spec.specs.Lines.{openings}
use Rattle.bench_show.specs.Lines.{line_text, lines_to}
use Rattle.bench_show.proofs.LineLemmas.{lines_more, no_lines}
use Rattle.bench_show.proofs.lines.put_line_states.Goals as goal

-- no line was put
pub lines-init : goal.lines-init
lines-init c = sym (ap (λ (text : List ℕ). c.args.out.now.items ++ text) (no_lines c.args.core.now) ∙ append-nil c.args.out.now.items)

-- one more was
pub lines-preserved : goal.lines-preserved
lines-preserved c =
    c.in_ok-put_line.ensures ∙ ap (λ (front : List ℕ). front ++ line_text c.args.core.now (c.lines.line + 1)) c.lines.invariant
    ∙ (append_assoc c.args.out.now.items (lines_to c.args.core.now c.lines.line) (line_text c.args.core.now (c.lines.line + 1))
    ∙ ap (λ (text : List ℕ). c.args.out.now.items ++ text) (sym (lines_more c.args.core.now c.lines.line)))

-- all that were opened were put
pub returns : goal.returns
returns c =
    let all : c.lines.line ≡ length (openings c.args.core.now.log) = omega arith in
    c.lines.invariant ∙ ap (λ (n : ℕ). c.args.out.now.items ++ lines_to c.args.core.now n) all
