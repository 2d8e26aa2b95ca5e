-- Nodes are told of, one behind the other, and with which status.
use Rattle.std.proofs.Common.{◌≡◌, ◌∙◌, ◌<◌, ◌+◌, ◌++◌, ◌∷◌, ℕ, Bool, false, true, List, [], Option, None, Some, ap, get_or, inl, inr, length, subst, sym, take}
use Rattle.std.proofs.lemmas.List.{take_more}
use Rattle.std.proofs.lemmas.Option.{get_or_from_slice_get}
use Rattle.std.specs.List.{slice_get}
use Rattle.base_device.specs.Devices.{Tells}
use Rattle.base_device.specs.declared.status.Status.{Status}
use Rattle.base_device.specs.declared.status.Status.TheVariants as statuses
use Rattle.config_text.specs.declared.node.NodeConfig.{NodeConfig}
use Rattle.live_report.specs.declared.fault.LifeFault.{LifeFault}
use Rattle.live_report.specs.declared.fault.LifeFault.TheVariants as faults
use Rattle.node_logs.specs.Files.{File}
use Rattle.bench_spec.specs.Taken.{Run}
use Rattle.live_report.specs.Files.{AreWritten}
use Rattle.live_turns.specs.declared.turns.Lived.{Lived}
use Rattle.std.specs.Prelude.{IfOk, Result}
use Rattle.cmd_live.specs.Told.{AreTold, AreWrittenWhere, TellsOf, disagreed, failed, nothing, one_more, worse}

-- the next of nodes is told of
pub told_next : (is_logged : Bool) (written before after : Option (List File)) (first failed_before failed_after : Option (List ℕ)) (nodes : List NodeConfig) (lived : List (Option Lived)) (i : ℕ)
    (node other : NodeConfig) (one : Lived) (text text' : List ℕ) (status status' : Status) → i < length nodes → i < length lived
    → node ≡ get_or nodes i other → slice_get lived i ≡ Some (Some one)
    → AreTold is_logged written first (take i nodes) (take i lived) text status before failed_before
    → TellsOf is_logged node one text text' status status' before after failed_before failed_after
    → AreTold is_logged written first (take (i + 1) nodes) (take (i + 1) lived) text' status' after failed_after
told_next is_logged written before after first failed_before failed_after nodes lived i node other one text text' status status' within there is has told tells =
    subst (λ (ls : List (Option Lived)). AreTold is_logged written first (take (i + 1) nodes) ls text' status' after failed_after)
    (ap (λ (l : Option Lived). take i lived ++ l ∷ []) (sym (get_or_from_slice_get lived i (Some one) None has)) ∙ sym (take_more lived i None there))
    (subst (λ (ns : List NodeConfig). AreTold is_logged written first ns (take i lived ++ Some one ∷ []) text' status' after failed_after)
    (ap (λ (n : NodeConfig). take i nodes ++ n ∷ []) is ∙ sym (take_more nodes i other within))
    (one_more (take i nodes) node (take i lived) one text text' status status' before after failed_before failed_after told tells))

-- where logs are wanted the files are those of the node
pub written_where : {E : Type 0} (r : Result Bool E) (host : List ℕ) (node : NodeConfig) (run : Run) (written written' : Option (List File)) (before failed' : Option (List ℕ))
    (is_logged : Bool) → is_logged ≡ true → host ≡ node.identity.host → IfOk r (AreWritten host node run written written' before failed')
    → IfOk r (AreWrittenWhere is_logged node run written written' before failed')
written_where {E} r host node run written written' before failed' is_logged logged same are =
    subst (λ (b : Bool). IfOk r (AreWrittenWhere b node run written written' before failed')) (sym logged)
    (subst (λ (h : List ℕ). IfOk r (AreWritten h node run written written' before failed')) same are)

failed_unlike : (status : Status) → failed status ≡ statuses.Usage → ⊥
failed_unlike statuses.NoMemory is = cc
failed_unlike statuses.Done is = cc
failed_unlike statuses.Refused is = cc
failed_unlike statuses.Usage is = cc
failed_unlike statuses.Fault is = cc
failed_unlike statuses.Disagreed is = cc

disagreed_unlike : (status : Status) → disagreed status ≡ statuses.Usage → ⊥
disagreed_unlike statuses.NoMemory is = cc
disagreed_unlike statuses.Done is = cc
disagreed_unlike statuses.Refused is = cc
disagreed_unlike statuses.Usage is = cc
disagreed_unlike statuses.Fault is = cc
disagreed_unlike statuses.Disagreed is = cc

worse_unlike : (status : Status) (fault : Option LifeFault) (unwritten : Bool) → (status ≡ statuses.Usage → ⊥) → worse status fault unwritten ≡ statuses.Usage → ⊥
worse_unlike status (Some faults.NoMemory) unwritten unlike is = cc
worse_unlike status (Some faults.Disagreed) unwritten unlike is = disagreed_unlike status is
worse_unlike status (Some faults.NoSocket) unwritten unlike is = failed_unlike status is
worse_unlike status (Some faults.NoThread) unwritten unlike is = failed_unlike status is
worse_unlike status None true unlike is = failed_unlike status is
worse_unlike status None false unlike is = unlike is

-- what is told of nodes asks for no other words
told_unlike : (is_logged : Bool) (written : Option (List File)) (before : Option (List ℕ)) (written' : Option (List File)) (failed' : Option (List ℕ)) (nodes : List NodeConfig) (lived : List (Option Lived)) (text : List ℕ) (status : Status)
    → AreTold is_logged written before nodes lived text status written' failed' → status ≡ statuses.Usage → ⊥
told_unlike is_logged written before written' failed' nodes lived text status nothing is = cc
told_unlike is_logged written before written' failed' nodes lived text status (one_more front node others one shown more first last mid end mid_failed end_failed told tells) is =
    worse_unlike first one.fault tells.unwritten (told_unlike is_logged written before mid mid_failed front others shown first told) (sym tells.status_is ∙ is)

-- what is told with a status that asks for no other words
pub tells_unlike : {O : Type 0} (contents : O → Option (List ℕ)) (write_failures idle : O → ℕ) (sink sink' : O) (text : List ℕ) (status answer : Status)
    → Tells contents write_failures idle sink sink' text status answer → (status ≡ statuses.Usage → ⊥) → answer ≡ statuses.Usage → ⊥
tells_unlike contents write_failures idle sink sink' text status answer (inl (whole, is)) unlike usage = unlike (sym is ∙ usage)
tells_unlike contents write_failures idle sink sink' text status answer (inr (cause, is)) unlike usage = let faulted : statuses.Fault ≡ statuses.Usage = sym is ∙ usage in cc

pub tells_nodes : {O : Type 0} (contents : O → Option (List ℕ)) (write_failures idle : O → ℕ) (sink sink' : O) (is_logged : Bool) (written written' : Option (List File))
    (before failed' : Option (List ℕ)) (nodes : List NodeConfig) (lived : List (Option Lived)) (text : List ℕ) (status answer : Status)
    → AreTold is_logged written before nodes lived text status written' failed' → Tells contents write_failures idle sink sink' text status answer → answer ≡ statuses.Usage → ⊥
tells_nodes contents write_failures idle sink sink' is_logged written written' before failed' nodes lived text status answer told tells =
    tells_unlike contents write_failures idle sink sink' text status answer tells (told_unlike is_logged written before written' failed' nodes lived text status told)
