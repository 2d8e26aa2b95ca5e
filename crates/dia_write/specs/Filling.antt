-- Room that is filled from its front.
use Rattle.std.specs.Prelude.{◌≡◌, ℕ, List, ◌++◌, length, replicate}

-- the room has these octets, up to this place, and zeros behind them
pub record IsFilled (room front : List ℕ) (at : ℕ) : Type 0 where
  pub zeros : ℕ
  pub is : room ≡ front ++ replicate zeros 0
  pub place : at ≡ length front
