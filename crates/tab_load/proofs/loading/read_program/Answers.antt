use Rattle.std.proofs.Common.{◌≡◌, ◌+◌, ◌-◌, ◌≤◌, length, drop, refl, ap, arith, ◌∙◌, length-drop}
use Rattle.std.proofs.lemmas.List.{length-take-le}
use Rattle.tab_load.specs.Loading.{lists, code_begin}
use Rattle.tab_load.proofs.BodyLemmas.{few-rows}
use Rattle.tab_load.proofs.loading.read_program.Goals as goal

pub returns-clause-read : goal.returns-clause-read
returns-clause-read c =
    let head = c.in_ok-head.head in
    let size = c.in_ok-body.body.size in
    let begin = code_begin head.format head.counts (lists head.names) in
    let same : (begin + size) - begin ≡ size = omega arith in
    let end = rw c.in_ok-begin.ensures.place at c.in_ok-begin.ensures.end in
    record {
      counts = head.counts;
      names = lists head.names;
      size = size;
      head = c.in_ok-head.ensures.ok;
      body = c.in_ok-body.ensures.ok;
      end = end;
      code = c.in_ok-extend_from_slice.ensures.items ∙ rw (c.new-code.ensures.items, c.in_ok-begin.ensures.place, same) refl;
      rows = refl;
      states = refl;
      kinds = refl;
      guards = refl;
      actions = refl;
    }

pub returns-clause-loaded : goal.returns-clause-loaded
returns-clause-loaded c =
    let head = c.in_ok-head.head in
    let size = c.in_ok-body.body.size in
    let begin = code_begin head.format head.counts (lists head.names) in
    let same : (begin + size) - begin ≡ size = omega arith in
    let names = c.in_ok-head.ensures.ok.names_are in
    let sound = rw c.in_ok-begin.ensures.place at c.in_ok-begin.ensures.sound in
    let inside : size ≤ length (drop begin c.args.octets.now) = omega (arith, c.in_ok-body.ensures.ok.whole, length-drop begin c.args.octets.now) in
    let code = c.in_ok-extend_from_slice.ensures.items ∙ rw (c.new-code.ensures.items, c.in_ok-begin.ensures.place, same) refl in
    let long = ap length code ∙ length-take-le size (drop begin c.args.octets.now) inside in
    record {
      instructions = sound.0;
      sound = rw (code, names.states.many, names.kinds.many, names.guards.many, names.actions.many) sound.1;
      short = rw long c.in_ok-body.ensures.short;
      few_rows = few-rows head.format c.args.octets.now head.counts c.in_ok-head.ensures.ok.counts_are;
      many = rw (names.states.many, names.kinds.many) c.in_ok-body.ensures.ok.entries_are.many;
      kinds = names.kinds.placed;
      guards = names.guards.placed;
      actions = names.actions.placed;
    }
