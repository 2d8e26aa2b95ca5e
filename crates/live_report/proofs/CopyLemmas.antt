-- The files of nodes are copied, of one behind the other.
use Rattle.std.proofs.Common.{◌≡◌, ◌∙◌, ◌<◌, ◌+◌, ◌++◌, ◌∷◌, ℕ, List, [], Option, ap, get_or, length, subst, sym, take}
use Rattle.std.proofs.lemmas.List.{take_more}
use Rattle.config_text.specs.declared.node.NodeConfig.{NodeConfig}
use Rattle.live_report.specs.Copies.{AllCopied, AreCopied, one_more}
use Rattle.node_logs.specs.Files.{File}

-- those of the next
pub copied_next : {I : Type 0} (remaining : I → Option (List ℕ)) (reads failures : I → ℕ) (old mid new : I) (written before after : Option (List File)) (nodes : List NodeConfig)
    (i : ℕ) (node other : NodeConfig) → i < length nodes → node ≡ get_or nodes i other → AllCopied remaining reads failures old written (take i nodes) mid before
    → AreCopied remaining reads failures node.identity.host node.files mid new before after → AllCopied remaining reads failures old written (take (i + 1) nodes) new after
copied_next remaining reads failures old mid new written before after nodes i node other within is copied one =
    subst (λ (ns : List NodeConfig). AllCopied remaining reads failures old written ns new after)
    (ap (λ (n : NodeConfig). take i nodes ++ n ∷ []) is ∙ sym (take_more nodes i other within))
    (one_more (take i nodes) node mid new before after copied one)
