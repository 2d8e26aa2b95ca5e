use Rattle.std.proofs.Common.{◌∙◌, ◌<◌, ◌++◌, ℕ, List, ap, append_assoc, get_or, length, sym, take, arith}
use Rattle.live_stats.specs.Lines.{state_text, states_text}
use Rattle.live_stats.proofs.LineLemmas.{numbered_next}
use Rattle.live_stats.proofs.line.put_states.Goals as goal

pub states-preserved : goal.states-preserved
states-preserved c =
    let within : c.states.state < length c.args.counts.now = omega (arith, c.states-test.true) in
    let own : List ℕ = state_text c.args.states.now c.states.state (get_or c.args.counts.now c.states.state 0) in
    c.in_ok-put_state.ensures ∙ ap (λ (ys : List ℕ). ys ++ own) c.states.invariant
    ∙ append_assoc c.args.out.now.items (states_text c.args.states.now (take c.states.state c.args.counts.now)) own
    ∙ ap (λ (ys : List ℕ). c.args.out.now.items ++ ys) (sym (numbered_next (state_text c.args.states.now) c.args.counts.now c.states.state within))
