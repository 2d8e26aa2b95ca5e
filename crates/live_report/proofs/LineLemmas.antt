-- A line that is told of a node.
use Rattle.std.proofs.Common.{◌≡◌, ◌++◌, ◌∙◌, ℕ, List, Result, Ok, Err, OnOk, ap, append_assoc}

-- a line of a node is one text behind what was put
pub line_ok : {T E : Type 0} (r : Result T E) (o a b t q : List ℕ) → OnOk r (q ≡ o ++ a ++ b ++ t) → OnOk r (q ≡ o ++ (a ++ b ++ t))
line_ok (Ok done) o a b t q is = is ∙ ap (λ (z : List ℕ). z ++ t) (append_assoc o a b) ∙ append_assoc o (a ++ b) t
line_ok (Err e) o a b t q is = tt
