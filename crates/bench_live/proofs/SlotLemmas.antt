-- At the shard of a machine a look is refused as the part says.
use Rattle.std.proofs.Common.{◌≡◌, ◌∙◌, ℕ, Bool, true, Some, ap, sym}
use Rattle.std.specs.Prelude.{if◌then◌else◌}
use Rattle.bench_desk.specs.Desks.{DeskView, look_refusal}
use Rattle.bench_desk.specs.Parts.{PartView}
use Rattle.bench_desk.specs.declared.fault.DeskFault.TheVariants.{Unknown}
use Rattle.bench_item.specs.declared.key.Key.{Key}
use Rattle.bench_spec.specs.Settings.{Settings}
use Rattle.bench_live.specs.Slots.{is_home_of, look_refusal_at}

-- what was found of so many shards holds of the desk's, which are as many
pub home-is : (part : PartView) (shards own : ℕ) (key : Key) (r : Bool) → r ≡ is_home_of part own key → own ≡ shards → r ≡ true
    → is_home_of part shards key ≡ true
home-is part shards own key r is same met = ap (λ n. is_home_of part n key) (sym same) ∙ sym is ∙ met

pub look-home : (settings : Settings) (part : PartView) (desk : DeskView) (stamp : ℕ) (key : Key) → is_home_of part desk.shards key ≡ true
    → look_refusal settings part desk stamp key ≡ look_refusal_at settings part desk stamp key
look-home settings part desk stamp key is =
    sym (ap (λ b. if b then look_refusal settings part desk stamp key else Some Unknown) is)
