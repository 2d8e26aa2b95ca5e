use Rattle.std.proofs.Common.{◌≡◌, ◌+◌, ◌<◌, arith, rules, length, refl, sym, ap, ◌∙◌}
use Rattle.base_list.specs.Named.{place_of}
use Rattle.tab_step.proofs.BindLemmas.{as-many}
use Rattle.tab_asm.specs.Formats.{BeginRow, TestGuard, RunAction, GoTo, NoRow}
use Rattle.tab_load.specs.Faults.{width_of}
use Rattle.tab_image.proofs.EntryLemmas.{read-place}
use Rattle.tab_image.proofs.WalkLemmas.{reads, guard-in, begins-row, passes, jumps, test-size, few-actions, runs-action, ends-row, ends-all}
use Rattle.tab_image.proofs.walk.advance.Goals as goal

pub says-requires-clause-named : goal.says-requires-clause-named
says-requires-clause-named g c =
    let at = reads c.args.registry.now.book c.args.program.now c.args.scene.now c.args.walk.now (TestGuard c.in-Test.guard c.in-Test.otherwise) _ _ _ c.requires.loaded c.requires.on_way c.format-format.ensures c.code-code.ensures c.in-Test.ensures.fits c.in-Test.ensures.octets in
    guard-in c.args.registry.now.book c.args.program.now c.args.scene.now c.args.walk.now c.in-Test.guard c.in-Test.otherwise at

pub returns-in-Begin-clause-on_way : goal.returns-in-Begin-clause-on_way
returns-in-Begin-clause-on_way g c =
    let at = reads c.args.registry.now.book c.args.program.now c.args.scene.now c.args.walk.now (BeginRow c.in-Begin.row) _ _ _ c.requires.loaded c.requires.on_way c.format-format.ensures c.code-code.ensures c.in-Begin.ensures.fits c.in-Begin.ensures.octets in
    begins-row c.args.registry.now.book c.args.program.now c.args.scene.now c.args.walk.now _ c.in-Begin.row at c.in-Begin.ensures.fits refl refl refl c.clear.ensures

pub returns-then-says-clause-on_way : goal.returns-then-says-clause-on_way
returns-then-says-clause-on_way g c =
    let at = reads c.args.registry.now.book c.args.program.now c.args.scene.now c.args.walk.now (TestGuard c.in-Test.guard c.in-Test.otherwise) _ _ _ c.requires.loaded c.requires.on_way c.format-format.ensures c.code-code.ensures c.in-Test.ensures.fits c.in-Test.ensures.octets in
    let long = test-size c.args.program.now.format c.in-Test.guard c.in-Test.otherwise c.width_of.result (c.width_of.ensures ∙ ap width_of c.format-format.ensures) in
    passes c.args.registry.now.book c.args.program.now c.args.scene.now c.args.walk.now _ c.in-Test.guard c.in-Test.otherwise (2 + c.width_of.result) at (sym c.says.ensures ∙ c.if-says.true) long refl refl refl refl

pub returns-else-says-clause-on_way : goal.returns-else-says-clause-on_way
returns-else-says-clause-on_way g c =
    let at = reads c.args.registry.now.book c.args.program.now c.args.scene.now c.args.walk.now (TestGuard c.in-Test.guard c.in-Test.otherwise) _ _ _ c.requires.loaded c.requires.on_way c.format-format.ensures c.code-code.ensures c.in-Test.ensures.fits c.in-Test.ensures.octets in
    (jumps c.args.registry.now.book c.args.program.now c.args.scene.now c.args.walk.now (record c.args.walk.now { at = c.in-Test.otherwise }) c.in-Test.guard c.in-Test.otherwise at (sym c.says.ensures ∙ c.if-says.false) refl refl refl).0

pub returns-else-says-clause-forward : goal.returns-else-says-clause-forward
returns-else-says-clause-forward g c =
    let at = reads c.args.registry.now.book c.args.program.now c.args.scene.now c.args.walk.now (TestGuard c.in-Test.guard c.in-Test.otherwise) _ _ _ c.requires.loaded c.requires.on_way c.format-format.ensures c.code-code.ensures c.in-Test.ensures.fits c.in-Test.ensures.octets in
    (jumps c.args.registry.now.book c.args.program.now c.args.scene.now c.args.walk.now (record c.args.walk.now { at = c.in-Test.otherwise }) c.in-Test.guard c.in-Test.otherwise at (sym c.says.ensures ∙ c.if-says.false) refl refl refl).1

pub index-place-requires : goal.index-place-requires
index-place-requires g c =
    let at = reads c.args.registry.now.book c.args.program.now c.args.scene.now c.args.walk.now (RunAction c.in-Act.action) _ _ _ c.requires.loaded c.requires.on_way c.format-format.ensures c.code-code.ensures c.in-Act.ensures.fits c.in-Act.ensures.octets in
    let few = few-actions c.args.registry.now.book c.args.program.now c.args.scene.now c.args.walk.now c.in-Act.action at in
    let many = as-many (λ name. place_of name c.args.registry.now.book.acts) c.args.program.now.image.actions c.args.program.now.act_places c.requires.loaded.actions in
    let long : length c.names.result.now.actions.places.items ≡ length c.args.program.now.act_places = ap length c.names.ensures.actions in
    let inside : c.in-Act.action < length c.names.result.now.actions.places.items = omega (arith, few.0, many, long) in
    search rules

pub push-requires : goal.push-requires
push-requires g c =
    let at = reads c.args.registry.now.book c.args.program.now c.args.scene.now c.args.walk.now (RunAction c.in-Act.action) _ _ _ c.requires.loaded c.requires.on_way c.format-format.ensures c.code-code.ensures c.in-Act.ensures.fits c.in-Act.ensures.octets in
    let few = few-actions c.args.registry.now.book c.args.program.now c.args.scene.now c.args.walk.now c.in-Act.action at in
    (omega arith, few.1)

pub returns-in-Act-clause-on_way : goal.returns-in-Act-clause-on_way
returns-in-Act-clause-on_way g c =
    let laws = c.args.registry.now.book in
    let program = c.args.program.now in
    let at = reads laws program c.args.scene.now c.args.walk.now (RunAction c.in-Act.action) _ _ _ c.requires.loaded c.requires.on_way c.format-format.ensures c.code-code.ensures c.in-Act.ensures.fits c.in-Act.ensures.octets in
    let few = few-actions laws program c.args.scene.now c.args.walk.now c.in-Act.action at in
    let own = read-place (λ name. place_of name laws.acts) program.image.actions program.act_places c.names.result.now.actions.places.items c.in-Act.action c.index-place.result.now c.requires.loaded.actions c.names.ensures.actions c.index-place.ensures few.0 in
    runs-action laws program c.args.scene.now c.args.walk.now _ c.in-Act.action c.index-place.result.now at own refl refl refl c.push.ensures

pub returns-in-Go-clause-ended : goal.returns-in-Go-clause-ended
returns-in-Go-clause-ended g c =
    let at = reads c.args.registry.now.book c.args.program.now c.args.scene.now c.args.walk.now (GoTo c.in-Go.state) _ _ _ c.requires.loaded c.requires.on_way c.format-format.ensures c.code-code.ensures c.in-Go.ensures.fits c.in-Go.ensures.octets in
    (at.actions, ends-row c.args.registry.now.book c.args.program.now c.args.scene.now c.args.walk.now c.in-Go.state at, at.placed)

pub returns-in-End-clause-ended : goal.returns-in-End-clause-ended
returns-in-End-clause-ended g c =
    let at = reads c.args.registry.now.book c.args.program.now c.args.scene.now c.args.walk.now NoRow _ _ _ c.requires.loaded c.requires.on_way c.format-format.ensures c.code-code.ensures c.in-End.ensures.fits c.in-End.ensures.octets in
    ends-all c.args.registry.now.book c.args.program.now c.args.scene.now c.args.walk.now at
