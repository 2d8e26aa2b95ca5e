-- Desks and nodes that are to live, one behind the other.
use Rattle.std.proofs.Common.{◌≡◌, ◌∙◌, ◌<◌, ◌+◌, ◌++◌, ◌∷◌, ℕ, Bool, true, List, [], Option, None, Some, Result, Ok, Err, Vec, ap, arith, get_or, is_some, length, refl, subst, suc, sym, take}
use Rattle.std.proofs.lemmas.List.{length-take-le, take_more}
use Rattle.std.proofs.lemmas.Option.{get_or_from_slice_get}
use Rattle.std.specs.Global.{Global}
use Rattle.std.specs.List.{slice_get}
use Rattle.std.specs.Prelude.{IfOk, option_map}
use Rattle.bench_setup.specs.declared.setups.Setup.{Setup}
use Rattle.cmd_live.specs.Lives.{AreDesksFrom, AreLivings, IsDeskOf, IsLivingOf, one_more}
use Rattle.cmd_live.specs.Met.{HaveEnded}
use Rattle.cmd_live.specs.Nodes.{is_wanted}
use Rattle.cmd_live.specs.Told.{AreTold}
use Rattle.cmd_live.specs.declared.told.Ended.{Ended}
use Rattle.config_text.specs.declared.node.DeskConfig.{DeskConfig}
use Rattle.config_text.specs.declared.node.NodeConfig.{NodeConfig}
use Rattle.live_desk.specs.declared.desk.Desk.{Desk}
use Rattle.live_turns.specs.Together.{AreTogether}
use Rattle.live_turns.specs.declared.turns.Lived.{Lived}
use Rattle.live_turns.specs.declared.turns.Living.{Living}
use Rattle.node_logs.specs.Files.{File}

-- one desk more
desks_more : (turns number : ℕ) (configs : List DeskConfig) (desks : List Desk) (config : DeskConfig) (desk : Desk)
    → AreDesksFrom turns number configs desks → IsDeskOf turns (number + length configs) config desk
    → AreDesksFrom turns number (configs ++ config ∷ []) (desks ++ desk ∷ [])
desks_more turns number [] [] config desk are is =
    let same : number + 0 ≡ number = omega arith in (subst (λ (n : ℕ). IsDeskOf turns n config desk) same is, tt)
desks_more turns number [] (first ∷ desks) config desk are is = absurd are
desks_more turns number (first ∷ configs) [] config desk are is = absurd are
desks_more turns number (first ∷ configs) (one ∷ desks) config desk are is =
    let same : number + suc (length configs) ≡ (number + 1) + length configs = omega arith in
    (are.0, desks_more turns (number + 1) configs desks config desk are.1 (subst (λ (n : ℕ). IsDeskOf turns n config desk) same is))

-- that of the next number
pub desk_next : (turns place : ℕ) (configs : List DeskConfig) (desks : List Desk) (config other : DeskConfig) (desk : Desk) → place < length configs
    → config ≡ get_or configs place other → AreDesksFrom turns 0 (take place configs) desks → IsDeskOf turns place config desk
    → AreDesksFrom turns 0 (take (place + 1) configs) (desks ++ desk ∷ [])
desk_next turns place configs desks config other desk within there are is =
    let long : length (take place configs) ≡ place = length-take-le place configs (omega (arith, within)) in
    let start : place ≡ 0 + length (take place configs) = omega (arith, long) in
    let more = desks_more turns 0 (take place configs) desks config desk are (subst (λ (n : ℕ). IsDeskOf turns n config desk) start is) in
    subst (λ (cs : List DeskConfig). AreDesksFrom turns 0 cs (desks ++ desk ∷ []))
    (ap (λ (c : DeskConfig). take place configs ++ c ∷ []) there ∙ sym (take_more configs place other within))
    more

-- a node more that is to live
pub wanted_more : (host : Option (List ℕ)) (seconds : ℕ) (is_watched : Bool) (setups : List Setup) (setup : Setup) (before after : List Living) (living : Living)
    → after ≡ before ++ living ∷ [] → is_wanted host setup ≡ true → IsLivingOf seconds is_watched setup living
    → AreLivings host seconds is_watched setups before → AreLivings host seconds is_watched (setups ++ setup ∷ []) after
wanted_more host seconds is_watched setups setup before after living is wanted so are =
    subst (AreLivings host seconds is_watched (setups ++ setup ∷ [])) (sym is) (one_more setups setup before living are wanted so)

-- the next of CONFIG
pub living_next : (host : Option (List ℕ)) (seconds : ℕ) (is_watched : Bool) (setups : List Setup) (place : ℕ) (setup : Setup) (before after : List Living)
    → place < length setups → slice_get setups place ≡ Some setup
    → ((done : List Setup) → AreLivings host seconds is_watched done before → AreLivings host seconds is_watched (done ++ setup ∷ []) after)
    → AreLivings host seconds is_watched (take place setups) before → AreLivings host seconds is_watched (take (place + 1) setups) after
living_next host seconds is_watched setups place setup before after within there more are =
    subst (λ (ss : List Setup). AreLivings host seconds is_watched ss after)
    (ap (λ (s : Setup). take place setups ++ s ∷ []) (sym (get_or_from_slice_get setups place setup setup there)) ∙ sym (take_more setups place setup within))
    (more (take place setups) are)

-- what is made of a word is there where the word is
pub some_mapped : {X Y : Type 0} (f : X → Y) (o : Option X) → is_some o ≡ is_some (option_map f o)
some_mapped f (Some x) = refl
some_mapped f None = refl

-- they lived, and each is told of as it came out
pub ended_by : {E : Type 0} (r : Result Ended E) (lives : Vec Living Global → Vec (Option Lived) Global → Type 0) (is_logged : Bool) (nodes : List NodeConfig)
    (livings : Vec Living Global) (lived : Vec (Option Lived) Global) (written written' : Option (List File)) (failed failed' : Option (List ℕ))
    → lives livings lived → AreTogether livings.items lived.items
    → IfOk r (λ told. AreTold is_logged written failed nodes lived.items told.text.items told.status written' failed')
    → IfOk r (λ told. HaveEnded lives is_logged nodes livings written failed told.text.items told.status written' failed')
ended_by (Ok told) lives is_logged nodes livings lived written written' failed failed' together worlds tells = record {
  lived = lived;
  together = together;
  worlds = worlds;
  told = tells;
}
ended_by (Err e) lives is_logged nodes livings lived written written' failed failed' together worlds tells = tt
