use Rattle.std.proofs.Common.{◌≡◌, ℕ, ◌<◌, Bool, List, [], ◌∷◌, Option, Some, None, length, refl, sym, subst, ap, ◌∙◌}
use Rattle.tab_asm.specs.Formats.{Instruction}
use Rattle.tab_asm.specs.Paths.{StandsAt, IsPath, GoesOn, next_of, Outcome, end_of, LeadsTo, Reaches}
use Rattle.tab_load.specs.Faults.{format_of, code_limit}
use Rattle.tab_load.specs.declared.counts.Format.{Format}
use Rattle.tab_image.proofs.OctetLemmas.{whole-fits}
use Rattle.tab_load.proofs.OnlyLemmas.{same-instruction}

-- at an offset stands one instruction at most
stands-once : (format : Format) (code : List ℕ) (offset : ℕ) (one other : Instruction) → length code < code_limit format → StandsAt (format_of format) code offset one → StandsAt (format_of format) code offset other → one ≡ other
stands-once format code offset one other short at at_other =
    same-instruction format one other at.rest at_other.rest (whole-fits format code one short at.whole) (whole-fits format code other short at_other.whole) (sym at.octets ∙ at_other.octets)

-- from an offset there is one path at most
pub path-once : (format : Format) (code : List ℕ) (says : ℕ → Bool) → length code < code_limit format → (path other : List Instruction) (offset : ℕ) → IsPath (format_of format) code says offset path → IsPath (format_of format) code says offset other → path ≡ other
path-once format code says short [] other offset is is_other = absurd is
path-once format code says short (one ∷ path) [] offset is is_other = absurd is_other
path-once format code says short (one ∷ path) (two ∷ other) offset is is_other =
    let same = stands-once format code offset one two short is.0 is_other.0 in
    let moved = subst (λ (i : Instruction). IsPath (format_of format) code says offset (i ∷ other)) (sym same) is_other in
    let rest : path ≡ other = by_next (next_of (format_of format) says offset one) is.1 moved.1 (λ next p q. path-once format code says short path other next p q) in
    rw (same, rest) refl
  where
    by_next : (next : Option ℕ) → GoesOn path (λ n. IsPath (format_of format) code says n path) next → GoesOn other (λ n. IsPath (format_of format) code says n other) next → ((n : ℕ) → IsPath (format_of format) code says n path → IsPath (format_of format) code says n other → path ≡ other) → path ≡ other
    by_next None none none_other rest = none ∙ sym none_other
    by_next (Some n) p q rest = rest n p q

-- an offset leads to one outcome at most
leads-once : (format : Format) (code : List ℕ) (says : ℕ → Bool) (offset : ℕ) (one other : Outcome) → length code < code_limit format → LeadsTo (format_of format) code says offset one → LeadsTo (format_of format) code says offset other → other ≡ one
leads-once format code says offset one other short to to_other =
    let same = path-once format code says short to.path to_other.path offset to.is_path to_other.is_path in
    let both : Some one ≡ Some other = sym to.end ∙ ap (λ (path : List Instruction). end_of None [] path) same ∙ to_other.end in
    cc

-- and so does an entry
pub reaches-once : (format : Format) (code : List ℕ) (says : ℕ → Bool) (entry : Option ℕ) (one other : Outcome) → length code < code_limit format → Reaches (format_of format) code says entry one → Reaches (format_of format) code says entry other → other ≡ one
reaches-once format code says None one other short to to_other = to_other ∙ sym to
reaches-once format code says (Some offset) one other short to to_other = leads-once format code says offset one other short to to_other
