use Rattle.std.proofs.Common.{refl}
use Rattle.acct_book.proofs.LedgerLemmas.{IsKept-same}
use Rattle.acct_book.proofs.page.Page.reserve_room.Goals as goal

pub invariant_of-self-2 : goal.invariant_of-self-2
invariant_of-self-2 c =
    let kept = c.make_room.ensures.kept c.self.invariant in
    IsKept-same c.make_room.new.self (record { accounts = c.make_room.new.self.accounts; holds = c.make_room.new.self.holds; journal = c.make_room.new.self.journal; befores = c.make_room.new.self.befores; room = c.max-room.result })
    kept refl refl kept.placed refl refl
    (record { entries = c.in_ok-make_room.ensures.ok.entries; befores = c.in_ok-make_room.ensures.ok.befores; reservations = c.in_ok-make_room.ensures.ok.reservations; sessions = c.in_ok-make_room.ensures.ok.sessions })
