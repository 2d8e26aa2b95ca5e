use Rattle.std.proofs.Common.{◌≡◌, ◌∷◌, [], ◌++◌, ◌∙◌, sym, arith}
use Rattle.std.proofs.lemmas.List.{length-map}
use Rattle.tab_text.specs.Cells.{Cells}
use Rattle.tab_text.specs.Rooms.{rooms_names}
use Rattle.tab_text.specs.Rows.{numbered}
use Rattle.tab_text.specs.Reading.{named}
use Rattle.tab_text.proofs.ParseLemmas.{filled-none, filled-more, filled-all}
use Rattle.tab_text.proofs.parsing.fill.Goals as goal

pub loop-lines-init : goal.loop-lines-init
loop-lines-init c =
    let opened = c.in_ok-reader.ensures in
    (opened.0, [], filled-none c.args.text.now c.in_ok-reader.reader (rooms_names c.args.names.now) opened.0 c.new-rows.result.items c.new-lines.result.items opened.1 c.requires c.new-rows.ensures.items c.new-lines.ensures.items)

pub loop-lines-preserved : goal.loop-lines-preserved
loop-lines-preserved c =
    let so_far = c.loop-lines.invariant in
    let next = rw c.in-Some.is at (c.in_ok-row.ensures so_far.0 so_far.1 so_far.2.at) in
    let pushed : c.push.new.self.items ≡ c.loop-lines.rows.items ++ numbered (rooms_names c.args.names.now) (named c.in-Some.row) ∷ [] = rw (← c.numbered.ensures) c.in_ok-push.ensures.items in (
      so_far.0,
      so_far.1 ++ next.0 ∷ [],
      filled-more c.args.text.now c.loop-lines.reader c.next_row.new.self (rooms_names c.args.names.now) so_far.0 so_far.1 c.in-Some.row next.0 c.loop-lines.rows.items _ c.loop-lines.lines.items _ so_far.2 next.1 pushed c.in_ok-push-2.ensures.items,
    )

pub loop-lines-smaller : goal.loop-lines-smaller
loop-lines-smaller c =
    let so_far = c.loop-lines.invariant in
    let next = rw c.in-Some.is at (c.in_ok-row.ensures so_far.0 so_far.1 so_far.2.at) in
    next.1.shorter

pub returns-clause-rows : goal.returns-clause-rows
returns-clause-rows c =
    let so_far = c.loop-lines.invariant in
    let ended = rw c.in_default.is at (c.in_ok-row.ensures so_far.0 so_far.1 so_far.2.at) in
    let all = filled-all c.args.text.now c.loop-lines.reader (rooms_names c.args.names.now) _ _ so_far.0 so_far.1 so_far.2 ended in
    rw all so_far.2.rows_are

pub returns-clause-lines : goal.returns-clause-lines
returns-clause-lines c =
    let so_far = c.loop-lines.invariant in
    let ended = rw c.in_default.is at (c.in_ok-row.ensures so_far.0 so_far.1 so_far.2.at) in
    let all = filled-all c.args.text.now c.loop-lines.reader (rooms_names c.args.names.now) _ _ so_far.0 so_far.1 so_far.2 ended in
    rw all so_far.2.lines_are

pub returns-clause-each : goal.returns-clause-each
returns-clause-each c =
    let so_far = c.loop-lines.invariant in
    let ended = rw c.in_default.is at (c.in_ok-row.ensures so_far.0 so_far.1 so_far.2.at) in
    let all = filled-all c.args.text.now c.loop-lines.reader (rooms_names c.args.names.now) _ _ so_far.0 so_far.1 so_far.2 ended in
    rw all (length-map so_far.1 (λ (cells : Cells). cells.line) ∙ sym so_far.2.count)

pub returns-clause-short : goal.returns-clause-short
returns-clause-short c =
    let so_far = c.loop-lines.invariant in
    let ended = rw c.in_default.is at (c.in_ok-row.ensures so_far.0 so_far.1 so_far.2.at) in
    let filled = so_far.2 in
    let all = filled-all c.args.text.now c.loop-lines.reader (rooms_names c.args.names.now) _ _ so_far.0 so_far.1 so_far.2 ended in
    let count = filled.count in
    let some = ended.some_row in
    let few = filled.few_rows in
    rw all (record {
      some_row = omega (arith, count, some);
      few_rows = omega (arith, count, few);
      few_guards = filled.few_guards;
      few_actions = filled.few_actions;
      well_named = filled.well_named;
    })
