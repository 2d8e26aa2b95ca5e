-- Files behind files.
use Rattle.std.proofs.Common.{◌≡◌, ◌∙◌, ◌++◌, List, Option, None, Some, Result, Ok, Err, OnOk, ap, append_assoc, refl}
use Rattle.node_logs.specs.Files.{File, with_files}

-- some files and then others
pub with_more : (written : Option (List File)) (a b : List File) → with_files (with_files written a) b ≡ with_files written (a ++ b)
with_more None a b = refl
with_more (Some files) a b = ap (λ (all : List File). Some all) (append_assoc files a b)

-- and the same where the others are written, unless something failed
pub then_more : {T E : Type 0} (r : Result T E) (old mid new : Option (List File)) (a b : List File) → mid ≡ with_files old a
    → OnOk r (new ≡ with_files mid b) → OnOk r (new ≡ with_files old (a ++ b))
then_more (Ok done) old mid new a b first second =
    second ∙ ap (λ (written : Option (List File)). with_files written b) first ∙ with_more old a b
then_more (Err e) old mid new a b first second = tt
