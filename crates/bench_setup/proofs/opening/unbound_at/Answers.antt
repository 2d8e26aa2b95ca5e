use Rattle.std.proofs.Common.{◌∙◌, ap, sym}
use Rattle.tab_law.specs.Books.{Laws}
use Rattle.bench_setup.specs.Opening.{unbound_in}
use Rattle.bench_setup.proofs.OpeningLemmas.{no_books}
use Rattle.bench_setup.proofs.opening.unbound_at.Goals as goal

-- without a registry there are no laws
pub returns-in-None : goal.returns-in-None
returns-in-None g c =
    c.unbound_in-in-None.ensures
    ∙ ap (λ (laws : Laws). unbound_in laws c.args.config.now.peer c.args.config.now.client c.args.config.now.server)
    (c.new.ensures ∙ sym (no_books _ c.args.registries.now c.in-None.ensures.value))
