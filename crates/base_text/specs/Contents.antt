-- Octets as they are printed.
use Rattle.std.specs.Prelude.{ℕ, List, [], ◌∷◌, ◌++◌, codes}
use Rattle.hex.specs.Hex.{encode_lower}

-- the content behind one blank, and no blank where there is none
abbrev pub content_text : List ℕ → List ℕ
content_text [] = []
content_text (octet ∷ octets) = codes " " ++ encode_lower (octet ∷ octets)
