use Rattle.std.proofs.Common.{◌≡◌, ◌∙◌, None, ap, sym, nat_eq}
use Rattle.std.specs.Map.{lookup}
use Rattle.std.specs.Option.{option_copied_mut}
use Rattle.tick_wheel.proofs.PlaceLemmas.{set_value-absent}
use Rattle.tick_wheel.proofs.places.put.Goals as goal

-- nothing was written, and there was no place to write to
pub returns-in_default : goal.returns-in_default
returns-in_default c =
    let absent : lookup (nat_eq c.args.owner) c.args.places.now.entries ≡ None =
    sym c.get_mut.ensures.value ∙ ap option_copied_mut c.in_default.is in
    ap (λ places. places.entries) c.get_mut.follows.holds-at-none
    ∙ sym (set_value-absent (nat_eq c.args.owner) c.args.places.now.entries c.args.timer absent)
