use Rattle.std.proofs.Common.{◌∙◌, ◌++◌, ◌∷◌, [], subst, sym}
use Rattle.std.proofs.lemmas.Result.{err_from_is_err_and}
use Rattle.std.specs.Prelude.{option_map}
use Rattle.cmd_live.specs.Lives.{AreLivings, another}
use Rattle.cmd_live.proofs.LivesLemmas.{wanted_more}
use Rattle.cmd_live.proofs.RefusalLemmas.{wanted_err}
use Rattle.cmd_live.proofs.nodes.add_wanted.Goals.{else-is_wanted, then-is_wanted+in_ok-living_of+in_ok-push+in_ok-push-2}
use Rattle.cmd_live.proofs.nodes.add_wanted.Goals as goal

-- it is one more, if it is to live
pub returns-clause-livings : goal.returns-clause-livings
returns-clause-livings g c =
    let host = option_map (λ host. host.now) c.args.words.node in
    λ setups are. elim c.if-is_wanted.branch [
      | then-is_wanted+in_ok-living_of+in_ok-push+in_ok-push-2 w ↦
          subst (λ nodes. AreLivings host c.args.seconds c.args.words.stats (setups ++ c.args.setup ∷ []) nodes.livings.items) (sym w.nodes-is)
          (wanted_more host c.args.seconds c.args.words.stats setups c.args.setup c.args.nodes.now.livings.items _ w.in_ok-living_of.field-0
          w.in_ok-push.ensures.items (sym c.is_wanted.ensures ∙ w.if-is_wanted.true) w.in_ok-living_of.ensures.living are)
      | else-is_wanted w ↦
          subst (λ nodes. AreLivings host c.args.seconds c.args.words.stats (setups ++ c.args.setup ∷ []) nodes.livings.items) (sym w.nodes-is)
          (another setups c.args.setup c.args.nodes.now.livings.items are (sym c.is_wanted.ensures ∙ w.if-is_wanted.false))
    ]

-- a node that is to live is refused
pub returns-in_err-living_of-clause-refused : goal.returns-in_err-living_of-clause-refused
returns-in_err-living_of-clause-refused g c =
    let p = err_from_is_err_and c.from_residual.result c.from_residual.ensures.1 in
    wanted_err (option_map (λ host. host.now) c.args.words.node) c.args.place c.args.setup c.in_err-living_of.field-0.0 p.0 c.from_residual.result p.1 p.2
    (sym c.is_wanted.ensures ∙ c.if-is_wanted.true) c.in_err-living_of.ensures.refused
