use Rattle.std.proofs.Common.{◌∷◌, [], ◌++◌, ◌∙◌}
use Rattle.tab_text.specs.Rooms.{rooms_names}
use Rattle.tab_text.proofs.ParseLemmas.{checked-none, checked-more, checked-over, checked-names}
use Rattle.tab_text.proofs.parsing.check.Goals as goal

pub loop-names-init : goal.loop-names-init
loop-names-init c =
    let opened = c.in_ok-reader.ensures in
    (opened.0, [], checked-none c.args.text.now c.in_ok-reader.reader _ opened.0 opened.1 c.new-names.ensures)

pub returns-then-not-add-clause-fault : goal.returns-then-not-add-clause-fault
returns-then-not-add-clause-fault c =
    let so_far = c.loop-names.invariant in
    let next = rw c.in-Some.is at (c.in_ok-row.ensures so_far.0 so_far.1 so_far.2.at) in
    checked-over c.args.text.now c.loop-names.reader c.next_row.new.self _ so_far.0 so_far.1 c.in-Some.row next.0 so_far.2 next.1 c.if-not-add.ensures.room

pub loop-names-preserved : goal.loop-names-preserved
loop-names-preserved c =
    let so_far = c.loop-names.invariant in
    let next = rw c.in-Some.is at (c.in_ok-row.ensures so_far.0 so_far.1 so_far.2.at) in (
      so_far.0,
      so_far.1 ++ next.0 ∷ [],
      checked-more c.args.text.now c.loop-names.reader c.next_row.new.self _ so_far.0 so_far.1 c.in-Some.row next.0 _ so_far.2 next.1 c.if-not-add.ensures.added c.if-not-add.ensures.room,
    )

pub loop-names-smaller : goal.loop-names-smaller
loop-names-smaller c =
    let so_far = c.loop-names.invariant in
    let next = rw c.in-Some.is at (c.in_ok-row.ensures so_far.0 so_far.1 so_far.2.at) in
    next.1.shorter

pub returns-clause-sound : goal.returns-clause-sound
returns-clause-sound c =
    let so_far = c.loop-names.invariant in
    let ended = rw c.in_default.is at (c.in_ok-row.ensures so_far.0 so_far.1 so_far.2.at) in
    so_far.2.fault ∙ ended.fault

pub returns-clause-names : goal.returns-clause-names
returns-clause-names c =
    let so_far = c.loop-names.invariant in
    let ended = rw c.in_default.is at (c.in_ok-row.ensures so_far.0 so_far.1 so_far.2.at) in
    checked-names c.args.text.now c.loop-names.reader (rooms_names c.loop-names.names) so_far.0 so_far.1 so_far.2 ended

pub returns-clause-room : goal.returns-clause-room
returns-clause-room c =
    let so_far = c.loop-names.invariant in
    let ended = rw c.in_default.is at (c.in_ok-row.ensures so_far.0 so_far.1 so_far.2.at) in
    rw (← checked-names c.args.text.now c.loop-names.reader (rooms_names c.loop-names.names) so_far.0 so_far.1 so_far.2 ended) so_far.2.room
