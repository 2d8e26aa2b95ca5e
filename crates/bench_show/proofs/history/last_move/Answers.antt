use Rattle.std.proofs.Common.{◌≡◌, ◌∙◌, ◌<◌, ◌-◌, Some, true, false, ap, arith, length, subst}
use Rattle.std.specs.Prelude.{IfNone, IfSome, slice_get}
use Rattle.bench_item.specs.declared.entry.Entry.{Entry}
use Rattle.bench_show.specs.History.{moves}
use Rattle.bench_show.proofs.HistoryLemmas.{last_at}
use Rattle.bench_show.proofs.PlaceLemmas.{entry_at, none_before, none_past}
use Rattle.bench_show.proofs.history.last_move.Goals as goal

pub entries-init : goal.entries-init
entries-init c = (
  omega (arith, ap length c.log.ensures, c.len-place.ensures.count),
  none_past (moves c.args.key.now) c.args.core.now.log c.len-place.result (c.len-place.ensures.count ∙ ap length c.log.ensures),
)

pub returns-in-Some : goal.returns-in-Some
returns-in-Some c =
    let key = c.args.key.now in
    let log = c.args.core.now.log in
    let place = c.entries.place in
    let found : (slice_get log (place - 1) ≡ Some c.in-Some.entry) × (moves key c.in-Some.entry ≡ true) =
    subst (λ found. IfSome found (λ e. (slice_get log (place - 1) ≡ Some e) × (moves key e ≡ true))) c.in-Some.is c.in_ok-entry.ensures.some in
    last_at key log place c.in-Some.entry c.entries-test.true found.0 found.1 c.entries.invariant.1

pub entries-preserved : goal.entries-preserved
entries-preserved c =
    let key = c.args.key.now in
    let log = c.args.core.now.log in
    let place = c.entries.place in
    let none : (e : Entry) → slice_get log (place - 1) ≡ Some e → moves key e ≡ false =
    subst (λ found. IfNone found ((e : Entry) → slice_get log (place - 1) ≡ Some e → moves key e ≡ false)) c.in_default.is c.in_ok-entry.ensures.none in
    let within : place - 1 < length log = omega (arith, c.entries.invariant.0, c.entries-test.true) in
    let e = entry_at log (place - 1) within in (
      omega (arith, c.entries.invariant.0),
      none_before (moves key) log place e.0 c.entries-test.true e.1 (none e.0 e.1) c.entries.invariant.1,
    )
