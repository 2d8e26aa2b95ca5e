use Rattle.std.specs.Prelude.{vec_len, vec_capacity}
use Rattle.std.proofs.Common.{refl, ap, arith, ◌≡◌, ◌++◌, ◌∷◌, []}
use Rattle.std.proofs.lemmas.Grind.{common_steps}
use Rattle.acct_book.proofs.LedgerLemmas.{IsKept-step}
use Rattle.acct_book.proofs.Pushed.{entry}
use Rattle.acct_book.proofs.ledger.Ledger.book.Goals as goal

pub returns-clause-kept : goal.returns-clause-kept
returns-clause-kept c =
    let pushed : c.push.new.self.items ≡ c.args.self.now.journal.items ++ entry c.args.op c.settle-outcome.result.0 ∷ [] = grind (arith, common_steps) in
    let written : c.push-2.new.self.items ≡ c.args.self.now.befores.items ++ c.settle-outcome.result.1 ∷ [] = grind (arith, common_steps) in
    let k = c.requires.kept.room in
    let r = c.requires.room in
    let s = c.settle-outcome.ensures.settles in
    let journal : vec_len c.settle-outcome.new.self.journal ≡ vec_len c.args.self.now.journal = ap vec_len s.journal in
    let capacity : vec_capacity c.settle-outcome.new.self.journal ≡ vec_capacity c.args.self.now.journal = ap vec_capacity s.journal in
    let befores : vec_len c.settle-outcome.new.self.befores ≡ vec_len c.args.self.now.befores = ap vec_len s.befores in
    let capacity-2 : vec_capacity c.settle-outcome.new.self.befores ≡ vec_capacity c.args.self.now.befores = ap vec_capacity s.befores in
    let left = s.left in
    IsKept-step c.args.self.now c.settle-outcome.new.self _ c.args.op c.settle-outcome.result.0 c.settle-outcome.result.1 c.requires.kept c.settle-outcome.ensures.settles c.settle-outcome.ensures.outcome c.settle-outcome.ensures.fits refl refl pushed written
    (record {
      entries = omega (arith, k.entries, r.entries, journal, c.push.ensures, c.unwrap.ensures, c.saturating_sub-self.ensures);
      befores = omega (arith, k.befores, r.befores, befores, c.push-2.ensures, c.unwrap-2.ensures, c.saturating_sub-self.ensures);
      reservations = omega (arith, k.reservations, r.reservations, s.reservations, left, c.saturating_sub-self.ensures);
      sessions = omega (arith, k.sessions, r.sessions, s.sessions, left, c.saturating_sub-self.ensures);
    })
