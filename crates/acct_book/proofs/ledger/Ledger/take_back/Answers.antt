use Rattle.std.proofs.Common.{◌≡◌, ◌++◌, ◌∷◌, [], length, refl, ap, sym, ◌∙◌, Option, arith}
use Rattle.std.proofs.lemmas.Grind.{common_steps}
use Rattle.std.specs.Prelude.{option_to_list, vec_len, vec_capacity}
use Rattle.acct_totals.specs.declared.op.Booked.{Booked}
use Rattle.acct_book.proofs.Pushed.{entry}
use Rattle.acct_book.proofs.TakenBack.{IsLeft-last, IsKept-back, before-last}
use Rattle.acct_book.proofs.ledger.Ledger.take_back.Goals as goal

pub unsettle-requires-clause-left : goal.unsettle-requires-clause-left
unsettle-requires-clause-left c =
    let entries : c.args.self.now.journal.items ≡ c.pop.new.self.items ++ entry c.in-Some.field-0.op c.in-Some.field-0.outcome ∷ [] =
    c.pop.ensures.items ∙ ap (λ (r : Option Booked). c.pop.new.self.items ++ option_to_list r) c.in-Some.is in
    let same : length c.args.self.now.befores.items ≡ vec_len c.args.self.now.befores = grind (arith, common_steps) in
    let befores : c.args.self.now.befores.items ≡ c.pop-2.new.self.items ++ c.unwrap_or-before.result ∷ [] =
    before-last c.args.self.now c.requires.kept c.pop.new.self.items (entry c.in-Some.field-0.op c.in-Some.field-0.outcome) c.pop-2.new.self.items c.pop-2.result entries c.pop-2.ensures.items (λ e. same ∙ (rw e at c.pop-2.ensures.cases).0)
    ∙ ap (λ w. c.pop-2.new.self.items ++ w ∷ []) (sym c.unwrap_or-before.ensures) in
    IsLeft-last c.args.self.now c.requires.kept c.pop.new.self.items c.pop-2.new.self.items c.in-Some.field-0.op c.in-Some.field-0.outcome c.unwrap_or-before.result entries befores

pub returns-clause-kept : goal.returns-clause-kept
returns-clause-kept c =
    let entries : c.args.self.now.journal.items ≡ c.pop.new.self.items ++ entry c.in-Some.field-0.op c.in-Some.field-0.outcome ∷ [] =
    c.pop.ensures.items ∙ ap (λ (r : Option Booked). c.pop.new.self.items ++ option_to_list r) c.in-Some.is in
    let same : length c.args.self.now.befores.items ≡ vec_len c.args.self.now.befores = grind (arith, common_steps) in
    let befores : c.args.self.now.befores.items ≡ c.pop-2.new.self.items ++ c.unwrap_or-before.result ∷ [] =
    before-last c.args.self.now c.requires.kept c.pop.new.self.items (entry c.in-Some.field-0.op c.in-Some.field-0.outcome) c.pop-2.new.self.items c.pop-2.result entries c.pop-2.ensures.items (λ e. same ∙ (rw e at c.pop-2.ensures.cases).0)
    ∙ ap (λ w. c.pop-2.new.self.items ++ w ∷ []) (sym c.unwrap_or-before.ensures) in
    let k = c.requires.kept.room in
    let u = c.unsettle.ensures.unsettles in
    let journal : vec_len c.unsettle.new.self.journal ≡ vec_len c.pop.new.self = ap vec_len u.journal in
    let capacity : vec_capacity c.unsettle.new.self.journal ≡ vec_capacity c.pop.new.self = ap vec_capacity u.journal in
    let written : vec_len c.unsettle.new.self.befores ≡ vec_len c.pop-2.new.self = ap vec_len u.befores in
    let capacity-2 : vec_capacity c.unsettle.new.self.befores ≡ vec_capacity c.pop-2.new.self = ap vec_capacity u.befores in
    IsKept-back c.args.self.now c.requires.kept c.pop.new.self.items c.pop-2.new.self.items c.in-Some.field-0.op c.in-Some.field-0.outcome c.unwrap_or-before.result entries befores
    c.unsettle.new.self c.unsettle.new.self (record { opened = u.undoes.opened; totals = u.undoes.totals; stored = u.undoes.stored; placed = u.undoes.placed }) refl refl (ap (λ j. j.items) u.journal) (ap (λ j. j.items) u.befores)
    (record {
      entries = omega (arith, k.entries, journal, capacity, c.pop.ensures.len, c.pop.ensures.capacity, u.left);
      befores = omega (arith, k.befores, written, capacity-2, c.pop-2.ensures.len, c.pop-2.ensures.capacity, u.left);
      reservations = omega (arith, k.reservations, u.reservations, u.left);
      sessions = omega (arith, k.sessions, u.sessions, u.left);
    })
