-- Why reading digits went no further.
use Rattle.std.specs.Prelude.{◌≡◌, ◌<◌, ℕ, false, List, length, slice_index}
use Rattle.base_text.specs.declared.digits.Stop.{Stop}
use Rattle.base_text.specs.declared.digits.Stop.TheVariants.{TextEnds, PieceFull, BadCharacter}
use Rattle.base_text.specs.declared.digits.Decoded.{Decoded}
use Rattle.base_text.specs.Digits.{is_hex_text}

-- the reason for which reading stopped holds there
abbrev pub StopsBy : List ℕ → ℕ → ℕ → ℕ → Stop → Type 0
StopsBy text room used made TextEnds = used ≡ length text
StopsBy text room used made PieceFull = (made ≡ room) × (used < length text)
StopsBy text room used made BadCharacter = (used < length text) × (is_hex_text (slice_index text used) ≡ false)

-- the same of an answer
abbrev pub Stops : List ℕ → ℕ → Decoded → Type 0
Stops text room decoded = StopsBy text room decoded.used decoded.made decoded.stop
