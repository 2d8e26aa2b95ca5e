use Rattle.std.proofs.Common.{ap, ◌∙◌, List}
use Rattle.acct_book.specs.Book.{Opened, Book}
use Rattle.acct_book.proofs.Opened.{shown, shown-insert_new}
use Rattle.std.proofs.Common.{map}
use Rattle.std.proofs.Common.{refl}
use Rattle.acct_book.proofs.LedgerLemmas.{IsKept-same, IsKept-opened}
use Rattle.acct_book.proofs.ledger.Ledger.open.Goals as goal

pub returns-clause-ok : goal.returns-clause-ok
returns-clause-ok c =
    ap (λ (os : List Opened). let b : Book = record { accounts = os; journal = c.args.self.now.journal.items } in b)
    (ap (map shown) c.in_ok-insert.ensures.entries ∙ shown-insert_new c.args.self.now.accounts.entries c.args.account _ c.requires.fresh)

pub returns-in_err-insert-clause-kept : goal.returns-in_err-insert-clause-kept
returns-in_err-insert-clause-kept c = λ h.
    IsKept-same c.args.self.now (record { accounts = c.insert.new.self; holds = c.args.self.now.holds; journal = c.args.self.now.journal; befores = c.args.self.now.befores; room = c.args.self.now.room }) h
    c.in_err-insert.ensures.err refl h.placed refl refl (record { entries = h.room.entries; befores = h.room.befores; reservations = h.room.reservations; sessions = h.room.sessions })

pub returns-clause-kept : goal.returns-clause-kept
returns-clause-kept c = λ h.
    IsKept-opened c.args.self.now (record { accounts = c.insert.new.self; holds = c.args.self.now.holds; journal = c.args.self.now.journal; befores = c.args.self.now.befores; room = c.args.self.now.room })
    c.args.account c.args.given h c.requires.some c.requires.small c.requires.fresh c.in_ok-insert.ensures.updates.0 refl refl refl (record { entries = h.room.entries; befores = h.room.befores; reservations = h.room.reservations; sessions = h.room.sessions })
