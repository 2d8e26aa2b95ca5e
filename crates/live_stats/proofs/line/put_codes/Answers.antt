use Rattle.std.proofs.Common.{◌∙◌, ◌<◌, ◌++◌, ℕ, List, ap, append_assoc, get_or, length, sym, take, arith}
use Rattle.live_stats.specs.Lines.{code_text, codes_text}
use Rattle.live_stats.proofs.LineLemmas.{numbered_next}
use Rattle.live_stats.proofs.line.put_codes.Goals as goal

pub codes-preserved : goal.codes-preserved
codes-preserved c =
    let within : c.codes.code < length c.args.counts.now = omega (arith, c.codes-test.true) in
    let own : List ℕ = code_text c.args.side.now c.codes.code (get_or c.args.counts.now c.codes.code 0) in
    c.in_ok-put_code.ensures ∙ ap (λ (ys : List ℕ). ys ++ own) c.codes.invariant
    ∙ append_assoc c.args.out.now.items (codes_text c.args.side.now (take c.codes.code c.args.counts.now)) own
    ∙ ap (λ (ys : List ℕ). c.args.out.now.items ++ ys) (sym (numbered_next (code_text c.args.side.now) c.args.counts.now c.codes.code within))
