use Rattle.std.proofs.Common.{◌≡◌, subst, refl, sym, Some, arith, length}
use Rattle.std.specs.Prelude.{slice_get}
use Rattle.std.proofs.lemmas.Bool.{ltb-true}
use Rattle.std.proofs.lemmas.Option.{slice_get_read}
use Rattle.bench_item.specs.Keys.{Configured}
use Rattle.bench_item.specs.Peers.{IsConfigured}
use Rattle.bench_item.proofs.PeerLemmas.{IsNumberOf, number-is, number-of_peer, number-own}
use Rattle.bench_item.proofs.peers.Peers.number.Goals as goal

well : (c : goal.After-count_of-before) → IsConfigured c.args.self.now
well c = subst (λ (p : Configured). IsConfigured p) c.self.view_is c.self.invariant.0

known : (c : goal.After-count_of-before) → IsNumberOf c.args.self.now c.args.place c.in_ok-home.field-0.now c.count_of-before.result
known c =
    let read = c.in_ok-home.ensures.lookup in
    let less = ltb-true _ _ (sym read.0) in
    let at = slice_get_read c.deref.result.now (length c.deref.result.now) c.args.place c.in_ok-home.field-0.now refl less read.1 in
    let is : slice_get c.self.inside.homes.items c.args.place ≡ Some c.in_ok-home.field-0.now = rw c.deref.ensures.value at at in
    subst (λ (p : Configured). IsNumberOf p c.args.place c.in_ok-home.field-0.now c.count_of-before.result) c.self.view_is
    (number-is _ c.self.inside.homes.items c.args.place c.in_ok-home.field-0.now c.count_of-before.result c.self.invariant.0 c.self.invariant.1 is (rw c.deref-2.ensures.value at c.count_of-before.ensures.count))

pub overflow_mul-result : goal.overflow_mul-result
overflow_mul-result c = let n = known c in omega (arith, n.shard)

pub overflow_add-result : goal.overflow_add-result
overflow_add-result c = let n = known c in omega (arith, n.shard, n.few)

pub returns-clause-number : goal.returns-clause-number
returns-clause-number c = number-of_peer c.args.self.now c.args.place c.in_ok-home.field-0.now c.count_of-before.result (known c)

pub returns-clause-own : goal.returns-clause-own
returns-clause-own c = number-own c.args.self.now c.args.place c.in_ok-home.field-0.now c.count_of-before.result (well c) (known c)
