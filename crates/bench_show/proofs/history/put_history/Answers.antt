use Rattle.std.proofs.Common.{◌<◌, ◌≡◌, ◌+◌, ◌++◌, ◌∙◌, ℕ, List, ap, append-nil, append_assoc, arith, length, sym}
use Rattle.bench_show.specs.History.{told_of}
use Rattle.bench_show.proofs.HistoryLemmas.{told_all, told_more, told_none, told_to}
use Rattle.bench_show.proofs.PlaceLemmas.{entry_at}
use Rattle.bench_show.proofs.history.put_history.Goals as goal

-- no entry was put
pub entries-init : goal.entries-init
entries-init c = sym (ap (λ (text : List ℕ). c.args.out.now.items ++ text) (told_none c.args.core.now c.args.key.now) ∙ append-nil c.args.out.now.items)

-- one more was
pub entries-preserved : goal.entries-preserved
entries-preserved c =
    let within : c.entries.place < length c.args.core.now.log = omega (arith, ap length c.log.ensures, c.len-count.ensures.count) in
    let e = entry_at c.args.core.now.log c.entries.place within in
    let one = told_of c.args.core.now c.args.key.now (c.entries.place + 1, e.0) in
    let before = told_to c.args.core.now c.args.key.now c.entries.place in
    c.in_ok-put_move.ensures e.0 e.1 ∙ ap (λ (front : List ℕ). front ++ one) c.entries.invariant
    ∙ (append_assoc c.args.out.now.items before one
    ∙ ap (λ (text : List ℕ). c.args.out.now.items ++ text) (sym (told_more c.args.core.now c.args.key.now c.entries.place e.0 e.1)))

-- all were
pub returns : goal.returns
returns c =
    let all : c.entries.place ≡ length c.args.core.now.log = omega (arith, ap length c.log.ensures, c.len-count.ensures.count) in
    c.entries.invariant ∙ ap (λ (text : List ℕ). c.args.out.now.items ++ text) (told_all c.args.core.now c.args.key.now c.entries.place all)
