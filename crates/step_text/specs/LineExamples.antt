-- Lines with known values: a wrong definition doesn't pass these lines.
use Rattle.std.specs.Prelude.{◌≡◌, [], ◌∷◌, replicate, codes, refl}
use Rattle.std.specs.Fmt.{digits}
use Rattle.hex.specs.Hex.{encode_with}
use Rattle.bench_item.specs.declared.key.Role.TheVariants as role
use Rattle.bench_item.specs.declared.source.Source.TheVariants as source
use Rattle.bench_item.specs.declared.step.Step.TheVariants as step
use Rattle.step_text.specs.Lines.{line_of}
use Rattle.step_text.specs.Names.{Names, shown}

-- two kinds, and a machine
abbrev names : Names
names = record {
  kinds = record { name = codes "Start"; value = tt } ∷ record { name = codes "Stop"; value = tt } ∷ [];
  machines = record { name = codes "s:c1;1"; value = 4097 } ∷ [];
}

pub joined : line_of names step.Joined ≡ codes "join"
joined = refl

pub dialled : line_of names (step.Dialled 12) ≡ codes "dialled 12"
unfolding digits
dialled = refl

pub came : line_of names (step.Came 1 (0 ∷ 255 ∷ [])) ≡ codes "came 1 00ff"
unfolding digits encode_with
came = refl

pub came_nothing : line_of names (step.Came 1 []) ≡ codes "came 1"
unfolding digits
came_nothing = refl

-- facts 0 and 5; the others are 0
pub told : line_of names (step.Told 0 (record { role = role.Peer; name = codes "c.example" })
    (record { kind = 1; facts = 7 ∷ 0 ∷ 0 ∷ 0 ∷ 0 ∷ 1 ∷ replicate 58 0 }))
    ≡ codes "told 0 p:c.example Stop 0=7 5=1"
unfolding digits
told = refl

pub fired : line_of names (step.Fired 4097 2) ≡ codes "fired s:c1;1 2"
unfolding digits
fired = refl

-- a machine that isn't there
pub fired_unknown : line_of names (step.Fired 0 2) ≡ codes "fired - 2"
unfolding digits
fired_unknown = refl

pub lift : line_of names (step.Lift (source.Desk 3)) ≡ codes "lift desk 3"
unfolding digits
lift = refl

pub drop : line_of names (step.Drop source.Clock) ≡ codes "drop clock"
drop = refl

-- a blank and `%` in a name
pub shown_name : shown (codes "a b%") ≡ codes "a%20b%25"
unfolding encode_with
shown_name = refl
