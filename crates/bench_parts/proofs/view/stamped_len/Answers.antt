use Rattle.std.proofs.Common.{◌∙◌, arith}
use Rattle.bench_parts.proofs.ViewLemmas.{count_by_entries, count_by_stamps}
use Rattle.bench_parts.proofs.view.stamped_len.Goals as goal

pub returns-then-stamps-entries : goal.returns-then-stamps-entries
returns-then-stamps-entries c =
    let count = c.len-entries.ensures.count in
    let fewer = c.if-stamps-entries.true in
    count_by_stamps c.args.stamps.now c.args.log.now.entries (omega (arith, count, fewer))

pub returns-else-stamps-entries : goal.returns-else-stamps-entries
returns-else-stamps-entries c =
    let count = c.len-entries.ensures.count in
    let more = c.if-stamps-entries.false in
    count ∙ count_by_entries c.args.stamps.now c.args.log.now.entries (omega (arith, count, more))
