use Rattle.image_text.specs.Listings.{entry_text}
use Rattle.image_text.proofs.ListingLemmas.{entries-more}
use Rattle.image_text.proofs.listing.put_entries.Goals as goal

pub loop-number-preserved : goal.loop-number-preserved
loop-number-preserved c =
    entries-more (entry_text c.args.program.now.image) c.loop-number.number c.args.out.now.items c.loop-number.out.items c.put_entry.new.out.items c.loop-number.invariant c.in_ok-put_entry.ensures
