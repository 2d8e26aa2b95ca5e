-- Listing the parts of octets, one AVP after the other.
use Rattle.std.proofs.Common.{◌≡◌, ◌≤◌, ◌<◌, ◌-◌, ◌+◌, ℕ, zero, suc, Bool, true, false, List, [], ◌∷◌, ◌++◌, length, Ok, Err, refl, sym, ap, ◌∙◌, append_assoc, arith, cond, map}
use Rattle.std.specs.List.{flat_map}
use Rattle.std.proofs.lemmas.List.{append-nil, map-append}
use Rattle.dia_avp.specs.declared.avp.Avp.{Avp}
use Rattle.dia_avp.specs.declared.fault.FaultCode.{FaultCode}
use Rattle.dia_avp.specs.Reading.{avp_at}
use Rattle.dia_dict.specs.declared.definition.Definition.{Definition}
use Rattle.dia_dict.specs.Dictionary.{definition_of}
use Rattle.dia_tree.specs.Kind.{is_grouped}
use Rattle.msg_explain.specs.declared.parts.Part.{Part}
use Rattle.msg_explain.specs.Parts.{Piece, seen_part, length_at, starts_in, starts, inner_of, with_inner, no_parts, parts}

-- the parts with a level of groups fewer
abbrev pub below : List Definition → ℕ → ℕ → List ℕ → List Piece
below d zero = no_parts
below d (suc room) = parts d room

-- the part at the front, and those inside it
abbrev pub each : List Definition → ℕ → ℕ → List ℕ → List Piece
each d room end start = with_inner (below d room) d room end start

parts_are : (d : List Definition) (room end : ℕ) (octets : List ℕ) → parts d room end octets ≡ flat_map (each d room end) (starts octets)
unfolding parts
parts_are d zero end octets = refl
parts_are d (suc room) end octets = refl

-- the part at the front
abbrev pub first : ℕ → ℕ → List ℕ → Piece
first room end rest = record { place = end - length rest; room = room; octets = rest }

-- What was listed, and then what is left, is what was there and the parts.
pub record Listed (d : List Definition) (room end : ℕ) (octets : List ℕ) (before now : List Piece) (rest : List ℕ) : Type 0 where
  pub fuel : ℕ
  pub enough : length rest ≤ fuel
  pub same : now ++ flat_map (each d room end) (starts_in fuel rest) ≡ before ++ parts d room end octets

pub Listed-start : (d : List Definition) (room end : ℕ) (octets : List ℕ) (before : List Piece) → Listed d room end octets before before octets
Listed-start d room end octets before = record {
  fuel = length octets;
  enough = omega arith;
  same = ap (λ (ps : List Piece). before ++ ps) (sym (parts_are d room end octets));
}

none_left : (n : ℕ) → starts_in n [] ≡ []
unfolding starts_in
none_left zero = refl
none_left (suc n) = refl

pub Listed-end : (d : List Definition) (room end : ℕ) (octets : List ℕ) (before now : List Piece) (rest : List ℕ) → length rest ≡ 0 → Listed d room end octets before now rest
    → now ≡ before ++ parts d room end octets
Listed-end d room end octets before now [] none l = rw (none_left l.fuel, append-nil) at l.same
Listed-end d room end octets before now (o ∷ rest) none l = absurd (omega arith)

starts-broken : (n : ℕ) (rest : List ℕ) (code : FaultCode) → 0 < length rest → length rest ≤ n → avp_at rest ≡ Err code → starts_in n rest ≡ rest ∷ []
unfolding starts_in
starts-broken zero rest code some enough e = absurd (omega arith)
starts-broken (suc n) [] code some enough e = absurd (omega arith)
starts-broken (suc n) (o ∷ rest) code some enough e = rw e refl

-- the last is broken
-- one part more
pub put_one : (room end : ℕ) (rest : List ℕ) (before after : List Part) (one : Part) → after ≡ before ++ one ∷ [] → seen_part one ≡ first room end rest
    → map seen_part after ≡ map seen_part before ++ first room end rest ∷ []
put_one room end rest before after one e is = rw (e, map-append seen_part before (one ∷ [])) (ap (λ (p : Piece). map seen_part before ++ p ∷ []) is)

pub Listed-broken : (d : List Definition) (room end : ℕ) (octets : List ℕ) (before now last : List Piece) (rest : List ℕ) (code : FaultCode)
    → 0 < length rest → avp_at rest ≡ Err code → last ≡ now ++ first room end rest ∷ [] → Listed d room end octets before now rest
    → last ≡ before ++ parts d room end octets
Listed-broken d room end octets before now last rest code some e put l =
    let one : flat_map (each d room end) (rest ∷ []) ≡ first room end rest ∷ [] = rw e refl in
    put ∙ ap (λ (ps : List Piece). now ++ ps) (sym one) ∙ rw (starts-broken l.fuel rest code some l.enough e) at l.same

-- what is behind the first
record Behind (n : ℕ) (rest after : List ℕ) : Type 0 where
  pub fuel : ℕ
  pub enough : length after ≤ fuel
  pub same : starts_in n rest ≡ rest ∷ starts_in fuel after

starts-more : (n : ℕ) (rest : List ℕ) (a : Avp) (after : List ℕ) → length after < length rest → length rest ≤ n → avp_at rest ≡ Ok (a, after) → Behind n rest after
unfolding starts_in
starts-more zero rest a after fewer enough e = absurd (omega arith)
starts-more (suc n) [] a after fewer enough e = absurd (omega arith)
starts-more (suc n) (o ∷ rest) a after fewer enough e = record { fuel = n; enough = omega arith; same = rw e refl }

-- one AVP more, and what is inside it
pub Listed-more : (d : List Definition) (room end : ℕ) (octets : List ℕ) (before now more : List Piece) (rest : List ℕ) (a : Avp) (after : List ℕ) (inner : List Piece)
    → length after < length rest → avp_at rest ≡ Ok (a, after)
    → inner_of (below d room) d (end - length rest) rest (Ok (a, after)) ≡ inner
    → more ≡ now ++ first room end rest ∷ inner
    → Listed d room end octets before now rest → Listed d room end octets before more after
Listed-more d room end octets before now more rest a after inner fewer e is_inner put l =
    let b = starts-more l.fuel rest a after fewer l.enough e in
    let one : each d room end rest ≡ first room end rest ∷ inner = rw e (ap (λ (ps : List Piece). first room end rest ∷ ps) is_inner) in
    record {
      fuel = b.fuel;
      enough = b.enough;
      same =
          rw (put, append_assoc) (ap (λ (ps : List Piece). now ++ (ps ++ flat_map (each d room end) (starts_in b.fuel after))) (sym one)
          ∙ rw b.same at l.same);
    }

abbrev none : List Piece
none = []

same_none : (b : Bool) → cond b none none ≡ none
same_none true = refl
same_none false = refl

-- nothing is inside an AVP that isn't opened
pub inner-shut : (d : List Definition) (room place : ℕ) (rest : List ℕ) (a : Avp) (after : List ℕ)
    → (0 < room → is_grouped (definition_of d a.code a.vendor) ≡ false) → inner_of (below d room) d place rest (Ok (a, after)) ≡ []
inner-shut d zero place rest a after shut = same_none (is_grouped (definition_of d a.code a.vendor))
inner-shut d (suc room) place rest a after shut = rw (shut (omega arith)) refl

pub inner-open : (d : List Definition) (room lower place : ℕ) (rest : List ℕ) (a : Avp) (after : List ℕ)
    → room ≡ lower + 1 → is_grouped (definition_of d a.code a.vendor) ≡ true → inner_of (below d room) d place rest (Ok (a, after)) ≡ parts d lower (place + length_at rest) a.octets
inner-open d zero lower place rest a after e opened = absurd (omega arith)
inner-open d (suc room) lower place rest a after e opened =
    let same : room ≡ lower = omega arith in
    rw (opened, same) refl
