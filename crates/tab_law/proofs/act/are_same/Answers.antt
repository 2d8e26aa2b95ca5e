use Rattle.std.proofs.Common.{◌≡◌, Bool, true, false, refl}
use Rattle.std.specs.Bool.{Decides}
use Rattle.std.specs.Prelude.{◌&&◌, ◌==◌}
use Rattle.std.specs.Str.{bytes_eq}
use Rattle.std.proofs.lemmas.Slice.Eq.{slice_eq-Decides, bytes_eq-Decides}
use Rattle.std.proofs.lemmas.Bool.Decides.{Decides-eqb}
use Rattle.tab_law.specs.declared.scene.Deed.{Deed}
use Rattle.tab_law.proofs.act.are_same.Goals as goal

both : (p q : Bool) → (p && q) ≡ true → (p ≡ true) × (q ≡ true)
both true q t = (refl, t)
both false q t = cc

joined : (p q : Bool) → p ≡ true → q ≡ true → (p && q) ≡ true
joined p q s t = rw (s, t) refl

-- two deeds are equal where their codes and their arguments are
one : (a b : Deed) → Decides ((a.code == b.code) && bytes_eq a.a b.a) (a ≡ b)
one a b = (
  λ t. same (both (a.code == b.code) (bytes_eq a.a b.a) t),
  λ e. joined (a.code == b.code) (bytes_eq a.a b.a) ((Decides-eqb a.code b.code).1 (rw e refl)) ((bytes_eq-Decides a.a b.a).1 (rw e refl)),
)
  where
    same : ((a.code == b.code) ≡ true) × (bytes_eq a.a b.a ≡ true) → a ≡ b
    same p =
        let code = (Decides-eqb a.code b.code).0 p.0 in
        let list = (bytes_eq-Decides a.a b.a).0 p.1 in
        λ i. record { code = code i; a = list i }

pub returns : goal.returns
returns c = slice_eq-Decides one c.args.deeds.now c.args.others.now c.eq.result c.eq.ensures
