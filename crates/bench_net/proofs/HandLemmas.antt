-- What waits in a pipe, and handing it on.
use Rattle.std.proofs.Common.{◌≡◌, ◌<◌, ◌+◌, ℕ, Bool, true, false, not, List, [], ◌∷◌, ◌++◌, Option, take, refl, sym, ap, ◌∙◌, append_assoc, subst, arith}
use Rattle.std.proofs.lemmas.List.{append-nil}
use Rattle.std.proofs.lemmas.Bool.Decides.{nat_tests}
use Rattle.bench_net.specs.Events.{Event, Came, Lost, AllSettled, Settles}
use Rattle.bench_net.specs.Pipes.{HandsOn, loss_waiting, piece_waiting}
use Rattle.bench_net.specs.Texts.{Grows}
use Rattle.bench_net.specs.declared.refusal.Refusal.{Refusal}
use Rattle.bench_net.proofs.TextLemmas.{Grows-refl, Grows-trans}

-- no piece waits, or one does
piece_waiting-none : (kept : ℕ) (room : List ℕ) → kept ≡ 0 → piece_waiting kept room ≡ []
piece_waiting-none kept room e = ap (λ (k : ℕ). piece_waiting k room) e

piece_waiting-some : (kept : ℕ) (room : List ℕ) → 0 < kept → piece_waiting kept room ≡ Came (take kept room) ∷ []
piece_waiting-some kept room some = grind (arith, nat_tests)

-- what waits, by what is kept
abbrev pub waits : ℕ → List ℕ → Bool → List Event
waits kept room losing = piece_waiting kept room ++ loss_waiting losing

pub waits-none : (kept : ℕ) (room : List ℕ) (losing : Bool) → kept ≡ 0 → waits kept room losing ≡ loss_waiting losing
waits-none kept room losing none = ap (λ (l : List Event). l ++ loss_waiting losing) (piece_waiting-none kept room none)

pub waits-piece : (kept : ℕ) (room : List ℕ) (losing : Bool) → 0 < kept → waits kept room losing ≡ Came (take kept room) ∷ loss_waiting losing
waits-piece kept room losing some = ap (λ (l : List Event). l ++ loss_waiting losing) (piece_waiting-some kept room some)

pub waits-empty : (kept : ℕ) (room : List ℕ) (losing : Bool) → kept ≡ 0 → losing ≡ false → waits kept room losing ≡ []
waits-empty kept room losing none not_losing = waits-none kept room losing none ∙ ap loss_waiting not_losing

-- the loss waits behind what waited
loss_more : (losing : Bool) → loss_waiting true ≡ loss_waiting losing ++ loss_waiting (not losing)
loss_more true = refl
loss_more false = refl

pub waits-lost : (kept : ℕ) (room : List ℕ) (losing : Bool) → waits kept room true ≡ waits kept room losing ++ loss_waiting (not losing)
waits-lost kept room losing =
    ap (λ (l : List Event). piece_waiting kept room ++ l) (loss_more losing)
    ∙ sym (append_assoc (piece_waiting kept room) (loss_waiting losing) (loss_waiting (not losing)))

-- what is settled after what was settled
pub AllSettled-append : {P : Type 0} (takes : P → Event → P → Type 0) (refuses : P → Event → Refusal → Type 0) (a b c : P) (first second : List Event)
    → AllSettled takes refuses a first b → AllSettled takes refuses b second c → AllSettled takes refuses a (first ++ second) c
AllSettled-append takes refuses a b c [] second p q = subst (λ z. AllSettled takes refuses z second c) p q
AllSettled-append takes refuses a b c (event ∷ first) second p q =
    (p.0, p.1, AllSettled-append takes refuses p.0 b c first second p.2 q)

joined : (w0 h1 h2 s1 w1 s2 w2 : List Event) → w0 ++ h1 ≡ s1 ++ w1 → w1 ++ h2 ≡ s2 ++ w2 → w0 ++ (h1 ++ h2) ≡ (s1 ++ s2) ++ w2
joined w0 h1 h2 s1 w1 s2 w2 p q =
    sym (append_assoc w0 h1 h2) ∙ ap (λ (l : List Event). l ++ h2) p ∙ append_assoc s1 w1 h2
    ∙ ap (λ (l : List Event). s1 ++ l) q ∙ sym (append_assoc s1 s2 w2)

pub HandsOn-trans : {P : Type 0} (takes : P → Event → P → Type 0) (refuses : P → Event → Refusal → Type 0) (sent : P → Option (List ℕ)) (a b c : P) (p q r : List Event) (h1 h2 : List Event)
    → HandsOn takes refuses sent a b p q h1 → HandsOn takes refuses sent b c q r h2 → HandsOn takes refuses sent a c p r (h1 ++ h2)
HandsOn-trans takes refuses sent a b c p q r h1 h2 first second = record {
  settled = first.settled ++ second.settled;
  order = joined p h1 h2 first.settled q second.settled r first.order second.order;
  each = AllSettled-append takes refuses a b c first.settled second.settled first.each second.each;
  grown = Grows-trans (sent a) (sent b) (sent c) first.grown second.grown;
}

-- what happened waits behind what waited, and the port is as it was
pub HandsOn-waits : {P : Type 0} (takes : P → Event → P → Type 0) (refuses : P → Event → Refusal → Type 0) (sent : P → Option (List ℕ)) (a : P) (p q : List Event) (h : List Event)
    → q ≡ p ++ h → HandsOn takes refuses sent a a p q h
HandsOn-waits takes refuses sent a p q h e = record {
  settled = [];
  order = sym e;
  each = refl;
  grown = Grows-refl (sent a);
}

-- nothing happened, and the port is as it was
pub HandsOn-same : {P : Type 0} (takes : P → Event → P → Type 0) (refuses : P → Event → Refusal → Type 0) (sent : P → Option (List ℕ)) (a b : P) (p q : List Event)
    → b ≡ a → q ≡ p → Grows (sent a) (sent b) → HandsOn takes refuses sent a b p q []
HandsOn-same takes refuses sent a b p q same e grown = record {
  settled = [];
  order = append-nil p ∙ sym e;
  each = same;
  grown = grown;
}

-- what waited first was settled
pub HandsOn-first : {P : Type 0} (takes : P → Event → P → Type 0) (refuses : P → Event → Refusal → Type 0) (sent : P → Option (List ℕ)) (a b : P) (p q : List Event) (event : Event)
    → p ≡ event ∷ q → Settles takes refuses a event b → Grows (sent a) (sent b) → HandsOn takes refuses sent a b p q []
HandsOn-first takes refuses sent a b p q event e settles grown = record {
  settled = event ∷ [];
  order = append-nil p ∙ e;
  each = (b, settles, refl);
  grown = grown;
}

-- the piece that waited was settled, or the loss behind no piece
pub piece_first : (kept : ℕ) (room : List ℕ) (losing : Bool) → (kept ≡ 0 → ⊥) → waits kept room losing ≡ Came (take kept room) ∷ waits 0 room losing
piece_first kept room losing some =
    let positive : 0 < kept = omega (arith, some) in
    waits-piece kept room losing positive ∙ ap (λ (l : List Event). Came (take kept room) ∷ l) (sym (waits-none 0 room losing refl))

pub loss_first : (kept : ℕ) (room : List ℕ) (losing : Bool) → kept ≡ 0 → losing ≡ true → waits kept room losing ≡ Lost ∷ waits kept room false
loss_first kept room losing none is =
    waits-none kept room losing none ∙ ap loss_waiting is ∙ ap (λ (l : List Event). Lost ∷ l) (sym (waits-empty kept room false none refl))

pub first_piece : (kept : ℕ) (room : List ℕ) (losing : Bool) → (kept ≡ 0 → ⊥) → waits kept room losing ≡ Came (take kept room) ∷ loss_waiting losing
first_piece kept room losing some = let positive : 0 < kept = omega (arith, some) in waits-piece kept room losing positive

-- a piece, or the loss, waits behind nothing
pub piece_behind : (kept : ℕ) (room : List ℕ) (losing : Bool) (count : ℕ) (room' : List ℕ) → kept ≡ 0 → losing ≡ false → 0 < count → waits count room' losing ≡ waits kept room losing ++ Came (take count room') ∷ []
piece_behind kept room losing count room' none not_losing some =
    waits-piece count room' losing some
    ∙ ap (λ (b : Bool). Came (take count room') ∷ loss_waiting b) not_losing
    ∙ ap (λ (l : List Event). l ++ Came (take count room') ∷ []) (sym (waits-empty kept room losing none not_losing))

pub loss_behind : (kept : ℕ) (room : List ℕ) (losing : Bool) (room' : List ℕ) → kept ≡ 0 → losing ≡ false → waits kept room' true ≡ waits kept room losing ++ Lost ∷ []
loss_behind kept room losing room' none not_losing =
    waits-none kept room' true none ∙ ap (λ (l : List Event). l ++ Lost ∷ []) (sym (waits-empty kept room losing none not_losing))

pub still_empty : (kept : ℕ) (room : List ℕ) (losing : Bool) (room' : List ℕ) → kept ≡ 0 → losing ≡ false → waits kept room' losing ≡ waits kept room losing
still_empty kept room losing room' none not_losing =
    waits-empty kept room' losing none not_losing ∙ sym (waits-empty kept room losing none not_losing)

-- the loss is put behind what waits, and all of it is handed on
pub HandsOn-lost : {P : Type 0} (takes : P → Event → P → Type 0) (refuses : P → Event → Refusal → Type 0) (sent : P → Option (List ℕ)) (a b : P) (p q r h : List Event)
    → q ≡ p ++ h → HandsOn takes refuses sent a b q r [] → HandsOn takes refuses sent a b p r h
HandsOn-lost takes refuses sent a b p q r h behind handed =
    subst (HandsOn takes refuses sent a b p r) (append-nil h)
    (HandsOn-trans takes refuses sent a a b p q r h [] (HandsOn-waits takes refuses sent a p q h behind) handed)
