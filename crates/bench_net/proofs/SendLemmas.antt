-- What goes out, turn by turn.
use Rattle.std.proofs.Common.{◌≡◌, ◌≤◌, ℕ, ◌+◌, List, [], ◌++◌, Option, length, take, refl, sym, ap, ◌∙◌, subst, arith}
use Rattle.std.proofs.lemmas.List.{length-append, length-take-le}
use Rattle.std.specs.Io.KnownBytes.{Appends}
use Rattle.std.proofs.KnownBytes.{Appends-nil, Appends-trans}
use Rattle.bench_net.specs.Texts.{Grows, StandsAt}
use Rattle.bench_net.specs.Writings.{Sends}
use Rattle.bench_net.proofs.TextLemmas.{StandsAt-grown, StandsAt-join, StandsAt-nil}

-- more octets went out
pub Sends-more : {P O : Type 0} (sent : P → Option (List ℕ)) (contents : O → Option (List ℕ)) (port : P) (p q r : ℕ) (s t u : O) (n m : ℕ) (octets : List ℕ)
    → Sends sent contents port p q s t n → Appends (contents t) (contents u) octets → length octets ≡ m → r ≡ q + m → StandsAt (sent port) q octets
    → Sends sent contents port p r s u (n + m)
Sends-more sent contents port p q r s t u n m octets before appended counted place part = record {
  octets = before.octets ++ octets;
  appended = Appends-trans (contents s) (contents t) (contents u) before.octets octets before.appended appended;
  counted = length-append before.octets octets ∙ ap (λ (k : ℕ). k + length octets) before.counted ∙ ap (λ (k : ℕ). n + k) counted;
  place = (let e = before.place in omega arith);
  part =
      (let at : q ≡ p + length before.octets = before.place ∙ ap (λ (k : ℕ). p + k) (sym before.counted) in
      StandsAt-join (sent port) p before.octets octets before.part (subst (λ (k : ℕ). StandsAt (sent port) k octets) at part));
}

-- nothing went out
pub Sends-none : {P O : Type 0} (sent : P → Option (List ℕ)) (contents : O → Option (List ℕ)) (port : P) (p q : ℕ) (s : O) → q ≡ p → Sends sent contents port p q s s 0
Sends-none sent contents port p q s same = record {
  octets = [];
  appended = Appends-nil (contents s);
  counted = refl;
  place = omega (arith, same);
  part = StandsAt-nil (sent port) p;
}

-- what went out stands in what the port sent when that has grown
pub Sends-grown : {P O : Type 0} (sent : P → Option (List ℕ)) (contents : O → Option (List ℕ)) (port port' : P) (o p q r : ℕ) (s t : O) (n : ℕ)
    → Sends sent contents port p q s t n → p ≡ o → r ≡ q → Grows (sent port) (sent port') → Sends sent contents port' o r s t n
Sends-grown sent contents port port' o p q r s t n before same same' grown = record {
  octets = before.octets;
  appended = before.appended;
  counted = before.counted;
  place = (let e = before.place in omega arith);
  part = StandsAt-grown (sent port) (sent port') o before.octets grown (subst (λ (k : ℕ). StandsAt (sent port) k before.octets) same before.part);
}

-- a front of a front has its length
pub length-front : (taken count : ℕ) (buffer : List ℕ) → taken ≤ length (take count buffer) → length (take taken (take count buffer)) ≡ taken
length-front taken count buffer within = length-take-le taken (take count buffer) within
