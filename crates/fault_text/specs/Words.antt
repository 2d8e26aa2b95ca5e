-- A word as it is shown.
use Rattle.std.specs.Prelude.{ℕ, List, ◌&&◌, codes, length, nat_le, if◌then◌else◌}
use Rattle.text_parts.specs.Lines.{is_plain}

-- a word as it is shown, where it is printable and has at most 80 octets
abbrev pub shown : List ℕ → List ℕ
shown word =
    if is_plain word && nat_le (length word) 80 then word else codes "a word that is long, or not printable ASCII"
