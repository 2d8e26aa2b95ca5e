-- Texts put behind a buffer, one after another.
use Rattle.std.proofs.Common.{◌≡◌, ℕ, List, [], ◌∷◌, ◌++◌, refl, append_assoc}
use Rattle.std.specs.List.{flat_map}
use Rattle.std.proofs.lemmas.List.{append-nil}
use Rattle.std.proofs.lemmas.Grind.{flat_map-append}
use Rattle.dia_avp.specs.declared.avp.Avp.{Avp}
use Rattle.msg_text.specs.Lines.{avp_line}

-- five texts behind a buffer
pub five_behind : (out a b c d e : List ℕ) → ((((out ++ a) ++ b) ++ c) ++ d) ++ e ≡ out ++ ((((a ++ b) ++ c) ++ d) ++ e)
five_behind out a b c d e = simp append_assoc

-- the line of one AVP more
pub one_line_more : (out before after : List ℕ) (avps : List Avp) (a : Avp)
    → before ≡ out ++ flat_map avp_line avps → after ≡ before ++ avp_line a → after ≡ out ++ flat_map avp_line (avps ++ a ∷ [])
one_line_more out before after avps a so_far line =
    let last : flat_map avp_line (a ∷ []) ≡ avp_line a = append-nil (avp_line a) in
    rw (line, so_far, flat_map-append avp_line avps (a ∷ []), last, append_assoc) refl
