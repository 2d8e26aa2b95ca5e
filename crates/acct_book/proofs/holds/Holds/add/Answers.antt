use Rattle.indexmap.specs.IndexMap.{get}
use Rattle.acct_book.specs.Stored.{holder_eq, session_eq}
use Rattle.acct_book.proofs.StoredLemmas.{placed-added}
use Rattle.acct_book.proofs.holds.Holds.add.Goals as goal

pub returns-clause-placed : goal.returns-clause-placed
returns-clause-placed c =
    let at = rw c.unwrap.ensures at c.insert.ensures.updates in
    let of = rw c.unwrap-2.ensures at c.insert-2.ensures.updates in
    placed-added (get holder_eq c.args.self.now.reservations) (get holder_eq c.insert.new.self) (get session_eq c.args.self.now.sessions) (get session_eq c.insert-2.new.self)
    c.args.holder _ c.session.result _ c.session.ensures at.0 of.0 c.requires.placed
