use Rattle.tab_kept.proofs.CodedLemmas.{kept-again}
use Rattle.tab_kept.proofs.places.Places.keep.Goals as goal

pub returns-clause-kept : goal.returns-clause-kept
returns-clause-kept c =
    kept-again c.args.places.now _ c.used-count.result c.told-places c.used-count.ensures.within c.used-count.ensures.zeros
    c.in_ok-octets.ensures.octets c.in_ok-octets.ensures.fit
