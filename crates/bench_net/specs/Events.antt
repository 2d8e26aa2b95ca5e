-- What reaches a port over its connection, and what becomes of it there.
use Rattle.std.specs.Prelude.{◌≡◌, ◌⊎◌, ℕ, List, [], ◌∷◌}
use Rattle.bench_net.specs.declared.refusal.Refusal.{Refusal}
use Rattle.bench_net.specs.declared.refusal.Refusal.TheVariants.{Unknown, Closed}

-- what reaches a port over its connection: a piece of octets, or the loss of the connection
pub data Event : Type 0 where
  Came : List ℕ → Event
  Lost : Event

-- the port has no use for this: it has no such connection, or it is closed
abbrev pub Declines : {P : Type 0} → (P → Event → Refusal → Type 0) → P → Event → Type 0
Declines refuses port event = refuses port event Unknown ⊎ refuses port event Closed

-- there is something that the port has no use for
abbrev pub HasDeclined : {P : Type 0} → (P → Event → Refusal → Type 0) → P → Type 0
HasDeclined refuses port = (event : Event) × Declines refuses port event

-- the port took this, or has no use for it and is as it was
abbrev pub Settles : {P : Type 0} → (P → Event → P → Type 0) → (P → Event → Refusal → Type 0) → P → Event → P → Type 0
Settles takes refuses old event new = takes old event new ⊎ ((new ≡ old) × Declines refuses old event)

-- all of these were settled, one after another, each once
abbrev pub AllSettled : {P : Type 0} → (P → Event → P → Type 0) → (P → Event → Refusal → Type 0) → P → List Event → P
    → Type 0
AllSettled takes refuses old [] new = new ≡ old
AllSettled {P} takes refuses old (event ∷ events) new =
    (mid : P) × Settles takes refuses old event mid × AllSettled takes refuses mid events new
