-- What the reading half comes to, turn by turn.
use Rattle.std.proofs.Common.{◌≡◌, ◌<◌, ◌≤◌, ℕ, ◌+◌, Bool, true, false, ◌||◌, List, [], ◌∷◌, ◌++◌, Option, None, Some, Result, Ok, Err, OnOk, IfOk, IfErr, OnErr, length, take, map, refl, sym, ap, ◌∙◌, append_assoc, subst, inl, inr, arith, rules}
use Rattle.std.proofs.lemmas.List.{append-nil, map-append, length-append, length-take-le}
use Rattle.std.proofs.lemmas.List.Elements.{All-append}
use Rattle.std.specs.List.{concat}
use Rattle.std.specs.Io.KnownBytes.{Consumes, IsAtEnd}
use Rattle.std.proofs.KnownBytes.{Consumes-trans}
use Rattle.bench_net.specs.Events.{Event, Came, Lost, HasDeclined}
use Rattle.bench_net.specs.Pipes.{HandsOn, IsEmpty, IsHeld, loss_waiting, refusal_of}
use Rattle.bench_net.specs.Readings.{EndsBy, Hears, IsPiece, TurnsBy, end_behind_input, end_behind_piece, happened}
use Rattle.bench_net.specs.declared.settle.Answer.{Answer}
use Rattle.bench_net.specs.declared.settle.Answer.TheVariants as answers
use Rattle.bench_net.specs.declared.settle.Stop.{Stop}
use Rattle.bench_net.specs.declared.end.End.{End}
use Rattle.bench_net.specs.declared.end.End.TheVariants.{Blocked, Ended, Declined, Failed, Over, Held}
use Rattle.bench_net.specs.declared.pipe.Pipe.{Pipe}
use Rattle.bench_net.specs.declared.refusal.Refusal.{Refusal}
use Rattle.bench_net.proofs.HandLemmas.{HandsOn-lost, HandsOn-same, HandsOn-trans}
use Rattle.bench_net.proofs.TextLemmas.{Grows-refl}

-- nothing was read and nothing happened
pub Hears-none : {P I : Type 0} (takes : P → Event → P → Type 0) (refuses : P → Event → Refusal → Type 0) (sent : P → Option (List ℕ)) (remaining : I → Option (List ℕ)) (a b : P) (p q : List Event) (s t : I)
    → Consumes (remaining s) (remaining t) [] → HandsOn takes refuses sent a b p q [] → Hears takes refuses sent remaining a b p q s t [] false
Hears-none takes refuses sent remaining a b p q s t read handed = record { read = read; short = search rules; handed = handed }

-- a piece was read
pub Hears-piece : {P I : Type 0} (takes : P → Event → P → Type 0) (refuses : P → Event → Refusal → Type 0) (sent : P → Option (List ℕ)) (remaining : I → Option (List ℕ)) (a b : P) (p q : List Event) (s t : I) (piece : List ℕ)
    → Consumes (remaining s) (remaining t) piece → IsPiece piece → HandsOn takes refuses sent a b p q (Came piece ∷ [])
    → Hears takes refuses sent remaining a b p q s t (piece ∷ []) false
Hears-piece takes refuses sent remaining a b p q s t piece read short handed = record {
  read = subst (Consumes (remaining s) (remaining t)) (sym (append-nil piece)) read;
  short = search (rules, short);
  handed = handed;
}

-- the end was found
pub Hears-lost : {P I : Type 0} (takes : P → Event → P → Type 0) (refuses : P → Event → Refusal → Type 0) (sent : P → Option (List ℕ)) (remaining : I → Option (List ℕ)) (a b : P) (p q : List Event) (s t : I)
    → Consumes (remaining s) (remaining t) [] → HandsOn takes refuses sent a b p q (Lost ∷ []) → Hears takes refuses sent remaining a b p q s t [] true
Hears-lost takes refuses sent remaining a b p q s t read handed = record { read = read; short = search rules; handed = handed }

happened-append : (first second : List (List ℕ)) (lost : Bool) → happened first false ++ happened second lost ≡ happened (first ++ second) lost
happened-append first second lost =
    ap (λ (l : List Event). l ++ happened second lost) (append-nil (map Came first))
    ∙ sym (append_assoc (map Came first) (map Came second) (loss_waiting lost))
    ∙ ap (λ (l : List Event). l ++ loss_waiting lost) (sym (map-append Came first second))

pub concat-append : (xs ys : List (List ℕ)) → concat (xs ++ ys) ≡ concat xs ++ concat ys
concat-append [] ys = refl
concat-append (x ∷ xs) ys =
    ap (λ (l : List ℕ). x ++ l) (concat-append xs ys) ∙ sym (append_assoc x (concat xs) (concat ys))

-- so many octets more
pub concat-more : (xs ys : List (List ℕ)) (m n : ℕ) → length (concat xs) ≡ m → length (concat ys) ≡ n → length (concat (xs ++ ys)) ≡ m + n
concat-more xs ys m n p q =
    let e = ap length (concat-append xs ys) ∙ length-append (concat xs) (concat ys) in omega arith

pub Hears-trans : {P I : Type 0} (takes : P → Event → P → Type 0) (refuses : P → Event → Refusal → Type 0) (sent : P → Option (List ℕ)) (remaining : I → Option (List ℕ)) (a b c : P) (p q r : List Event) (s t u : I) (first second : List (List ℕ)) (lost : Bool)
    → Hears takes refuses sent remaining a b p q s t first false → Hears takes refuses sent remaining b c q r t u second lost
    → Hears takes refuses sent remaining a c p r s u (first ++ second) lost
Hears-trans takes refuses sent remaining a b c p q r s t u first second lost x y = record {
  read = subst (Consumes (remaining s) (remaining u)) (sym (concat-append first second))
      (Consumes-trans (remaining s) (remaining t) (remaining u) (concat first) (concat second) x.read y.read);
  short = All-append IsPiece first second x.short y.short;
  handed = subst (HandsOn takes refuses sent a c p r) (happened-append first second lost)
      (HandsOn-trans takes refuses sent a b c p q r (happened first false) (happened second lost) x.handed y.handed);
}

-- what was handed on before anything was read
pub Hears-after : {P I : Type 0} (takes : P → Event → P → Type 0) (refuses : P → Event → Refusal → Type 0) (sent : P → Option (List ℕ)) (remaining : I → Option (List ℕ)) (a b c : P) (p q r : List Event) (s t : I) (pieces : List (List ℕ)) (lost : Bool)
    → HandsOn takes refuses sent a b p q [] → Hears takes refuses sent remaining b c q r s t pieces lost → Hears takes refuses sent remaining a c p r s t pieces lost
Hears-after takes refuses sent remaining a b c p q r s t pieces lost x y = record {
  read = y.read;
  short = y.short;
  handed = HandsOn-trans takes refuses sent a b c p q r [] (happened pieces lost) x y.handed;
}

happened-lost : (pieces : List (List ℕ)) (lost more : Bool) → (more ≡ true → lost ≡ false) → happened pieces lost ++ loss_waiting more ≡ happened pieces (lost || more)
happened-lost pieces true true h = let e : true ≡ false = h refl in cc
happened-lost pieces true false h = append-nil (happened pieces true)
happened-lost pieces false more h = ap (λ (l : List Event). l ++ loss_waiting more) (append-nil (map Came pieces))

-- the loss comes behind
pub Hears-then : {P I : Type 0} (takes : P → Event → P → Type 0) (refuses : P → Event → Refusal → Type 0) (sent : P → Option (List ℕ)) (remaining : I → Option (List ℕ)) (a b c : P) (p q r : List Event) (s t : I) (pieces : List (List ℕ)) (lost more : Bool)
    → Hears takes refuses sent remaining a b p q s t pieces lost → HandsOn takes refuses sent b c q r (loss_waiting more) → (more ≡ true → lost ≡ false)
    → Hears takes refuses sent remaining a c p r s t pieces (lost || more)
Hears-then takes refuses sent remaining a b c p q r s t pieces lost more x y once = record {
  read = x.read;
  short = x.short;
  handed = subst (HandsOn takes refuses sent a c p r) (happened-lost pieces lost more once)
      (HandsOn-trans takes refuses sent a b c p q r (happened pieces lost) (loss_waiting more) x.handed y);
}

-- why it ended, seen from before the turns that were made
pub EndsBy-from : {P I : Type 0} (refuses : P → Event → Refusal → Type 0) (remaining : I → Option (List ℕ)) (reads failures blocked : I → ℕ) (port' : P) (pipe mid pipe' : Pipe) (source then source' : I) (lost : Bool) (end : End)
    → failures then ≡ failures source → blocked then ≡ blocked source → (mid.losing ≡ true → pipe.losing ≡ true)
    → (end ≡ Over → reads source' ≡ reads source + 65536)
    → EndsBy refuses remaining reads failures blocked port' mid pipe' then source' lost end
    → EndsBy refuses remaining reads failures blocked port' pipe pipe' source source' lost end
EndsBy-from refuses remaining reads failures blocked port' pipe mid pipe' source then source' lost Blocked f b l o h =
    (h.0, h.1, h.2 ∙ f, h.3 ∙ ap (λ (n : ℕ). n + 1) b)
EndsBy-from refuses remaining reads failures blocked port' pipe mid pipe' source then source' lost Ended f b l o h =
    (h.0, h.1, h.2 ∙ f, h.3)
EndsBy-from refuses remaining reads failures blocked port' pipe mid pipe' source then source' lost Declined f b l o h =
    (h.0, h.1, h.2 ∙ f, h.3)
EndsBy-from refuses remaining reads failures blocked port' pipe mid pipe' source then source' lost Failed f b l o h =
    (h.0, h.1, h.2 ∙ ap (λ (n : ℕ). n + 1) f)
EndsBy-from refuses remaining reads failures blocked port' pipe mid pipe' source then source' lost Over f b l o h =
    (h.0, h.1, h.2 ∙ f, o refl)
EndsBy-from refuses remaining reads failures blocked port' pipe mid pipe' source then source' lost (Held stop) f b l o h =
    (h.0, h.1 ∙ f, h.2, λ e. elim (h.3 e) [ inl x ↦ inl x | inr x ↦ inr (l x) ])

-- the same, where nothing was read before
pub EndsBy-settled : {P I : Type 0} (refuses : P → Event → Refusal → Type 0) (remaining : I → Option (List ℕ)) (reads failures blocked : I → ℕ) (port' : P) (pipe mid pipe' : Pipe) (source source' : I) (lost : Bool) (end : End)
    → (mid.losing ≡ true → pipe.losing ≡ true)
    → EndsBy refuses remaining reads failures blocked port' mid pipe' source source' lost end
    → EndsBy refuses remaining reads failures blocked port' pipe pipe' source source' lost end
EndsBy-settled refuses remaining reads failures blocked port' pipe mid pipe' source source' lost Blocked l h = h
EndsBy-settled refuses remaining reads failures blocked port' pipe mid pipe' source source' lost Ended l h = h
EndsBy-settled refuses remaining reads failures blocked port' pipe mid pipe' source source' lost Declined l h = h
EndsBy-settled refuses remaining reads failures blocked port' pipe mid pipe' source source' lost Failed l h = h
EndsBy-settled refuses remaining reads failures blocked port' pipe mid pipe' source source' lost Over l h = h
EndsBy-settled refuses remaining reads failures blocked port' pipe mid pipe' source source' lost (Held stop) l h =
    (h.0, h.1, h.2, λ e. elim (h.3 e) [ inl x ↦ inl x | inr x ↦ inr (l x) ])

-- one read more can't be all turns
not_over : {P I : Type 0} (refuses : P → Event → Refusal → Type 0) (remaining : I → Option (List ℕ)) (reads failures blocked : I → ℕ) (port' : P) (pipe pipe' : Pipe) (source source' : I) (lost : Bool) (end : End)
    → reads source' ≡ reads source + 1 → EndsBy refuses remaining reads failures blocked port' pipe pipe' source source' lost end → end ≡ Over → ⊥
not_over refuses remaining reads failures blocked port' pipe pipe' source source' lost Blocked r h e = cc
not_over refuses remaining reads failures blocked port' pipe pipe' source source' lost Ended r h e = cc
not_over refuses remaining reads failures blocked port' pipe pipe' source source' lost Declined r h e = cc
not_over refuses remaining reads failures blocked port' pipe pipe' source source' lost Failed r h e = cc
not_over refuses remaining reads failures blocked port' pipe pipe' source source' lost Over r h e = omega (arith, r, h.3)
not_over refuses remaining reads failures blocked port' pipe pipe' source source' lost (Held stop) r h e = cc

-- why a turn ended it, seen from before all turns
pub EndsBy-turn : {P I : Type 0} (refuses : P → Event → Refusal → Type 0) (remaining : I → Option (List ℕ)) (reads failures blocked : I → ℕ) (port' : P) (pipe mid pipe' : Pipe) (source then source' : I) (lost : Bool) (turn : Option End) (end : End)
    → reads source' ≡ reads then + 1 → failures then ≡ failures source → blocked then ≡ blocked source → IsEmpty mid → turn ≡ Some end
    → TurnsBy refuses remaining reads failures blocked port' mid pipe' then source' lost turn
    → EndsBy refuses remaining reads failures blocked port' pipe pipe' source source' lost end
EndsBy-turn refuses remaining reads failures blocked port' pipe mid pipe' source then source' lost turn end r f b empty is h =
    let ended : EndsBy refuses remaining reads failures blocked port' mid pipe' then source' lost end =
    subst (λ (t : Option End). TurnsBy refuses remaining reads failures blocked port' mid pipe' then source' lost t) is h in
    EndsBy-from refuses remaining reads failures blocked port' pipe mid pipe' source then source' lost end f b (λ e. let n = empty.1 in cc)
    (λ e. absurd (not_over refuses remaining reads failures blocked port' mid pipe' then source' lost end r ended e)) ended

-- that a turn did not end it
pub goes_on : {P I : Type 0} (refuses : P → Event → Refusal → Type 0) (remaining : I → Option (List ℕ)) (reads failures blocked : I → ℕ) (port' : P) (pipe pipe' : Pipe) (source source' : I) (lost : Bool) (turn : Option End)
    → turn ≡ None → TurnsBy refuses remaining reads failures blocked port' pipe pipe' source source' lost turn
    → TurnsBy refuses remaining reads failures blocked port' pipe pipe' source source' lost None
goes_on refuses remaining reads failures blocked port' pipe pipe' source source' lost turn is h =
    subst (λ (t : Option End). TurnsBy refuses remaining reads failures blocked port' pipe pipe' source source' lost t) is h

-- why one turn ended it, or that it goes on, behind a piece
turns_behind_piece : {P I : Type 0} (refuses : P → Event → Refusal → Type 0) (remaining : I → Option (List ℕ)) (reads failures blocked : I → ℕ) (port' : P) (pipe pipe' : Pipe) (source source' : I) (r : Result Answer Stop)
    → OnOk r (IsEmpty pipe') → IfOk r (λ answer. answer ≡ answers.Declined → HasDeclined refuses port') → IfErr r (λ stop. IsHeld refuses port' pipe' (refusal_of stop))
    → (pipe'.losing ≡ true → pipe.losing ≡ true) → failures source' ≡ failures source → blocked source' ≡ blocked source
    → TurnsBy refuses remaining reads failures blocked port' pipe pipe' source source' false (end_behind_piece r)
turns_behind_piece refuses remaining reads failures blocked port' pipe pipe' source source' (Ok answers.Taken) empty declined held losing f b = (refl, empty, f, b)
turns_behind_piece refuses remaining reads failures blocked port' pipe pipe' source source' (Ok answers.Declined) empty declined held losing f b = (refl, empty, f, declined refl)
turns_behind_piece refuses remaining reads failures blocked port' pipe pipe' source source' (Err stop) empty declined held losing f b =
    (held, f, (λ e. cc), λ e. inr (losing e))

-- why one turn ended it behind the end of the input
turns_behind_input : {P I : Type 0} (refuses : P → Event → Refusal → Type 0) (remaining : I → Option (List ℕ)) (reads failures blocked : I → ℕ) (port' : P) (pipe pipe' : Pipe) (source source' : I) (r : Result Answer Stop)
    → OnOk r (IsEmpty pipe') → IfErr r (λ stop. IsHeld refuses port' pipe' (refusal_of stop)) → OnErr r (pipe'.losing ≡ true)
    → failures source' ≡ failures source → IsAtEnd (remaining source')
    → TurnsBy refuses remaining reads failures blocked port' pipe pipe' source source' true (end_behind_input r)
turns_behind_input refuses remaining reads failures blocked port' pipe pipe' source source' (Ok answer) empty held losing f at_end = (refl, empty, f, at_end)
turns_behind_input refuses remaining reads failures blocked port' pipe pipe' source source' (Err stop) empty held losing f at_end =
    (held, f, (λ e. (losing, at_end)), λ e. inl refl)

pub TurnsBy-piece : {P I : Type 0} (refuses : P → Event → Refusal → Type 0) (remaining : I → Option (List ℕ)) (reads failures blocked : I → ℕ) (port' : P) (pipe pipe' : Pipe) (source source' : I) (r : Result Answer Stop) (turn : Option End)
    → OnOk r (IsEmpty pipe') → IfOk r (λ answer. answer ≡ answers.Declined → HasDeclined refuses port') → IfErr r (λ stop. IsHeld refuses port' pipe' (refusal_of stop))
    → (pipe'.losing ≡ true → pipe.losing ≡ true) → failures source' ≡ failures source → blocked source' ≡ blocked source → turn ≡ end_behind_piece r
    → TurnsBy refuses remaining reads failures blocked port' pipe pipe' source source' false turn
TurnsBy-piece refuses remaining reads failures blocked port' pipe pipe' source source' r turn empty declined held losing f b is =
    subst (λ (t : Option End). TurnsBy refuses remaining reads failures blocked port' pipe pipe' source source' false t) (sym is)
    (turns_behind_piece refuses remaining reads failures blocked port' pipe pipe' source source' r empty declined held losing f b)

pub TurnsBy-input : {P I : Type 0} (refuses : P → Event → Refusal → Type 0) (remaining : I → Option (List ℕ)) (reads failures blocked : I → ℕ) (port' : P) (pipe pipe' : Pipe) (source source' : I) (r : Result Answer Stop) (turn : Option End)
    → OnOk r (IsEmpty pipe') → IfErr r (λ stop. IsHeld refuses port' pipe' (refusal_of stop)) → OnErr r (pipe'.losing ≡ true)
    → failures source' ≡ failures source → IsAtEnd (remaining source') → turn ≡ end_behind_input r
    → TurnsBy refuses remaining reads failures blocked port' pipe pipe' source source' true turn
TurnsBy-input refuses remaining reads failures blocked port' pipe pipe' source source' r turn empty held losing f at_end is =
    subst (λ (t : Option End). TurnsBy refuses remaining reads failures blocked port' pipe pipe' source source' true t) (sym is)
    (turns_behind_input refuses remaining reads failures blocked port' pipe pipe' source source' r empty held losing f at_end)

-- so many octets in one piece
pub one_piece : (count : ℕ) (room : List ℕ) → count ≤ length room → length (concat (take count room ∷ [])) ≡ count
one_piece count room within = ap length (append-nil (take count room)) ∙ length-take-le count room within

pub IsPiece-front : (count : ℕ) (room : List ℕ) → 0 < count → count ≤ length room → length room ≡ 4096 → IsPiece (take count room)
IsPiece-front count room some within all = let n = length-take-le count room within in (omega arith, omega arith)

-- one read and what was handed on behind it
pub piece_heard : {P I : Type 0} (takes : P → Event → P → Type 0) (refuses : P → Event → Refusal → Type 0) (sent : P → Option (List ℕ)) (remaining : I → Option (List ℕ)) (a b : P) (p q r : List Event) (s t : I) (count : ℕ) (room : List ℕ)
    → HandsOn takes refuses sent a b q r [] → q ≡ p ++ Came (take count room) ∷ [] → 0 < count → count ≤ length room → length room ≡ 4096
    → Consumes (remaining s) (remaining t) (take count room)
    → Hears takes refuses sent remaining a b p r s t (take count room ∷ []) false
piece_heard takes refuses sent remaining a b p q r s t count room handed behind some within all read =
    Hears-piece takes refuses sent remaining a b p r s t (take count room) read (IsPiece-front count room some within all)
    (HandsOn-lost takes refuses sent a b p q r (Came (take count room) ∷ []) behind handed)

pub loss_heard : {P I : Type 0} (takes : P → Event → P → Type 0) (refuses : P → Event → Refusal → Type 0) (sent : P → Option (List ℕ)) (remaining : I → Option (List ℕ)) (a b : P) (p q r : List Event) (s t : I)
    → HandsOn takes refuses sent a b q r [] → q ≡ p ++ Lost ∷ [] → Consumes (remaining s) (remaining t) []
    → Hears takes refuses sent remaining a b p r s t [] true
loss_heard takes refuses sent remaining a b p q r s t handed behind read =
    Hears-lost takes refuses sent remaining a b p r s t read (HandsOn-lost takes refuses sent a b p q r (Lost ∷ []) behind handed)

pub nothing_heard : {P I : Type 0} (takes : P → Event → P → Type 0) (refuses : P → Event → Refusal → Type 0) (sent : P → Option (List ℕ)) (remaining : I → Option (List ℕ)) (a : P) (p q : List Event) (s t : I)
    → q ≡ p → Consumes (remaining s) (remaining t) []
    → Hears takes refuses sent remaining a a p q s t [] false
nothing_heard takes refuses sent remaining a p q s t same read =
    Hears-none takes refuses sent remaining a a p q s t read (HandsOn-same takes refuses sent a a p q refl same (Grows-refl (sent a)))
