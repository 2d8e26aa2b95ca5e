use Rattle.std.proofs.Common.{◌≡◌, ◌<◌, ◌++◌, ◌∷◌, [], ℕ, List, Vec, Global, length, get_or, true, false, ap, sym, ◌∙◌, arith}
use Rattle.bench_log.specs.Moves.{moves}
use Rattle.bench_log.proofs.MovesLemmas.{places_of-next, places_of-same}
use Rattle.bench_log.proofs.log.Log.of_machine.Goals as goal
use Rattle.bench_log.proofs.log.Log.of_machine.Goals.{then-moves+in_ok-push, else-moves}

pub loop-place-preserved : goal.loop-place-preserved
loop-place-preserved c =
    let within : c.loop-place.place < length c.args.self.now.entries = omega (arith, c.loop-place-test.true, c.len-place-end.ensures.count) in
    let here : c.index.result.now ≡ get_or c.args.self.now.entries c.loop-place.place c.index.result.now = rw (← c.self.view_is) c.index.ensures in
    elim c.if-moves.branch [
      | then-moves+in_ok-push w ↦
          let moved : moves c.args.machine c.index.result.now ≡ true = sym c.moves.ensures ∙ w.if-moves.true in
          ap (λ (v : Vec ℕ Global). v.items) w.places-is ∙ w.in_ok-push.ensures.items ∙ ap (λ (xs : List ℕ). xs ++ c.loop-place.place ∷ []) c.loop-place.invariant
          ∙ sym (places_of-next c.args.machine c.args.self.now.entries c.loop-place.place c.index.result.now within here moved)
      | else-moves w ↦
          let still : moves c.args.machine c.index.result.now ≡ false = sym c.moves.ensures ∙ w.if-moves.false in
          ap (λ (v : Vec ℕ Global). v.items) w.places-is ∙ c.loop-place.invariant
          ∙ sym (places_of-same c.args.machine c.args.self.now.entries c.loop-place.place c.index.result.now within here still)
    ]
