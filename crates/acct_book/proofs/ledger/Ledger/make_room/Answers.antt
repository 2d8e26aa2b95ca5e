use Rattle.std.proofs.Common.{refl, arith}
use Rattle.acct_book.proofs.LedgerLemmas.{IsKept-same}
use Rattle.acct_book.proofs.ledger.Ledger.make_room.Goals as goal

pub returns-in_err-reserve-clause-kept : goal.returns-in_err-reserve-clause-kept
returns-in_err-reserve-clause-kept c = λ h.
    IsKept-same c.args.self.now (record { accounts = c.args.self.now.accounts; holds = c.args.self.now.holds; journal = c.reserve.new.self; befores = c.args.self.now.befores; room = c.args.self.now.room }) h
    refl refl h.placed c.reserve.ensures.items refl
    (record { entries = omega (arith, h.room.entries, c.reserve.ensures.len, c.reserve.ensures.capacity); befores = h.room.befores; reservations = h.room.reservations; sessions = h.room.sessions })

pub returns-in_err-reserve-2-clause-kept : goal.returns-in_err-reserve-2-clause-kept
returns-in_err-reserve-2-clause-kept c = λ h.
    IsKept-same c.args.self.now (record { accounts = c.args.self.now.accounts; holds = c.args.self.now.holds; journal = c.reserve.new.self; befores = c.reserve-2.new.self; room = c.args.self.now.room }) h
    refl refl h.placed c.reserve.ensures.items c.reserve-2.ensures.items
    (record {
      entries = omega (arith, h.room.entries, c.reserve.ensures.len, c.reserve.ensures.capacity);
      befores = omega (arith, h.room.befores, c.reserve-2.ensures.len, c.reserve-2.ensures.capacity);
      reservations = h.room.reservations;
      sessions = h.room.sessions;
    })

pub returns-in_err-make_room-clause-kept : goal.returns-in_err-make_room-clause-kept
returns-in_err-make_room-clause-kept c = λ h.
    IsKept-same c.args.self.now (record { accounts = c.args.self.now.accounts; holds = c.make_room.new.self; journal = c.reserve.new.self; befores = c.reserve-2.new.self; room = c.args.self.now.room }) h
    refl c.make_room.ensures.stored (c.make_room.ensures.placed h.placed) c.reserve.ensures.items c.reserve-2.ensures.items
    (record {
      entries = omega (arith, h.room.entries, c.reserve.ensures.len, c.reserve.ensures.capacity);
      befores = omega (arith, h.room.befores, c.reserve-2.ensures.len, c.reserve-2.ensures.capacity);
      reservations = omega (arith, h.room.reservations, c.make_room.ensures.kept_room.0);
      sessions = omega (arith, h.room.sessions, c.make_room.ensures.kept_room.1);
    })

pub returns-clause-kept : goal.returns-clause-kept
returns-clause-kept c = λ h.
    IsKept-same c.args.self.now (record { accounts = c.args.self.now.accounts; holds = c.make_room.new.self; journal = c.reserve.new.self; befores = c.reserve-2.new.self; room = c.args.self.now.room }) h
    refl c.make_room.ensures.stored (c.make_room.ensures.placed h.placed) c.reserve.ensures.items c.reserve-2.ensures.items
    (record {
      entries = omega (arith, h.room.entries, c.reserve.ensures.len, c.reserve.ensures.capacity);
      befores = omega (arith, h.room.befores, c.reserve-2.ensures.len, c.reserve-2.ensures.capacity);
      reservations = omega (arith, h.room.reservations, c.make_room.ensures.kept_room.0);
      sessions = omega (arith, h.room.sessions, c.make_room.ensures.kept_room.1);
    })
