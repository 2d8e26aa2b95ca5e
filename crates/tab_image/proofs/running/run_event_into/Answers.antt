use Rattle.tab_law.specs.Books.{NamedPermits}
use Rattle.tab_image.proofs.TextLemmas.{text-is}
use Rattle.tab_image.proofs.running.run_event_into.Goals as goal

pub returns-clause-text : goal.returns-clause-text
returns-clause-text g c = λ table is two same means.
    text-is (NamedPermits c.args.registry.now.book) c.args.registry.now.book c.args.program.now table c.args.machine.now c.args.event.now _ c.run_into.ensures is two same means
