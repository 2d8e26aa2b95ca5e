use Rattle.std.proofs.Common.{◌≡◌, ℕ, Bool, true, false, List, [], ◌∷◌, ◌++◌, Option, Some, codes, refl, ◌∙◌}
use Rattle.std.specs.List.{All, flat_map}
use Rattle.std.specs.Str.{bytes_eq}
use Rattle.std.proofs.lemmas.List.{append-nil, append_assoc}
use Rattle.std.proofs.lemmas.List.Elements.{All-head, All-tail}
use Rattle.std.proofs.lemmas.Slice.Eq.{bytes_eq-Decides}
use Rattle.text_parts.specs.Lines.{is_plain}
use Rattle.text_parts.specs.Words.{tokens}
use Rattle.tab_text.specs.Names.{is_name}
use Rattle.tab_text.specs.Cells.{names_apart, condition_of, is_dash, actions_of}
use Rattle.tab_text.proofs.TokenLemmas.{tokens-blank, tokens-none, tokens-between}
use Rattle.tab_print.specs.Cells.{behind_each, condition, actions_text}
use Rattle.tab_print.proofs.TextLemmas.{Begins, Ends, begins-append, ends-append, name-wordy, wordy-begins, wordy-ends, wordy-plain, plain-append, tokens-wordy}

abbrev pub AreNames : List (List ℕ) → Type 0
AreNames names = All (λ name. is_name name ≡ true) names

-- names with a word between
abbrev pub with_word : List ℕ → List (List ℕ) → List (List ℕ)
with_word word names = flat_map (λ name. word ∷ name ∷ []) names

bytes-same : (octets : List ℕ) → bytes_eq octets octets ≡ true
bytes-same octets = (bytes_eq-Decides octets octets).1 refl

apart-names : (word : List ℕ) (name : List ℕ) (names : List (List ℕ)) → is_name name ≡ true → AreNames names → names_apart word (name ∷ with_word word names) ≡ Some (name ∷ names)
apart-names word name [] is all = rw is refl
apart-names word name (next ∷ names) is all =
    rw (is, bytes-same word, apart-names word next names (All-head (λ n. is_name n ≡ true) next names all) (All-tail (λ n. is_name n ≡ true) next names all)) refl

and-token : tokens (codes "and") ≡ codes "and" ∷ []
unfolding tokens
and-token = refl

when-token : tokens (codes "when") ≡ codes "when" ∷ []
unfolding tokens
when-token = refl

-- the words of guards with `and` between
guards-tokens : (guard : List ℕ) (guards : List (List ℕ)) → is_name guard ≡ true → AreNames guards → tokens (guard ++ behind_each (codes " and ") guards) ≡ guard ∷ with_word (codes "and") guards
guards-tokens guard [] is all = rw (append-nil guard) (tokens-wordy guard (name-wordy guard is))
guards-tokens guard (next ∷ guards) is all =
    let n = All-head (λ g. is_name g ≡ true) next guards all in
    let rest = All-tail (λ g. is_name g ≡ true) next guards all in
    let behind = next ++ behind_each (codes " and ") guards in
    tokens-blank guard (codes "and" ++ 32 ∷ behind)
    ∙ rw (tokens-blank (codes "and") behind, and-token, tokens-wordy guard (name-wordy guard is), guards-tokens next guards n rest) refl

pub event-tokens : (kind : List ℕ) (guards : List (List ℕ)) → is_name kind ≡ true → AreNames guards → (rest : List (List ℕ)) × (tokens (kind ++ condition guards) ≡ kind ∷ rest) × (condition_of rest ≡ Some guards)
unfolding condition_of
event-tokens kind [] is all =
    ([], rw (append-nil kind) (tokens-wordy kind (name-wordy kind is)), refl)
event-tokens kind (guard ∷ guards) is all =
    let g = All-head (λ n. is_name n ≡ true) guard guards all in
    let rest = All-tail (λ n. is_name n ≡ true) guard guards all in
    let behind = guard ++ behind_each (codes " and ") guards in (
      codes "when" ∷ guard ∷ with_word (codes "and") guards,
      tokens-blank kind (codes "when" ++ 32 ∷ behind)
          ∙ rw (tokens-blank (codes "when") behind, when-token, tokens-wordy kind (name-wordy kind is), guards-tokens guard guards g rest) refl,
      apart-names (codes "and") guard guards g rest,
    )

actions-tokens : (action : List ℕ) (actions : List (List ℕ)) → is_name action ≡ true → AreNames actions → tokens (action ++ behind_each (codes ", ") actions) ≡ action ∷ with_word (codes ",") actions
actions-tokens action [] is all = rw (append-nil action) (tokens-wordy action (name-wordy action is))
actions-tokens action (next ∷ actions) is all =
    let n = All-head (λ a. is_name a ≡ true) next actions all in
    let rest = All-tail (λ a. is_name a ≡ true) next actions all in
    let behind = next ++ behind_each (codes ", ") actions in
    tokens-between action (32 ∷ behind)
    ∙ rw (tokens-blank [] behind, tokens-none, tokens-wordy action (name-wordy action is), actions-tokens next actions n rest) refl

dash-no-name : is_name (codes "-") ≡ false
unfolding is_name
dash-no-name = refl

no-dash-by : (action : List ℕ) (test : Bool) → bytes_eq action (codes "-") ≡ test → is_name action ≡ true → test ≡ false
no-dash-by action false eq is = refl
no-dash-by action true eq is =
    let same : action ≡ codes "-" = (bytes_eq-Decides action (codes "-")).0 eq in
    let named : is_name (codes "-") ≡ true = rw same at is in
    let none = dash-no-name in
    cc

no-dash : (action : List ℕ) (actions : List (List ℕ)) → is_name action ≡ true → is_dash (action ∷ with_word (codes ",") actions) ≡ false
no-dash action [] is = no-dash-by action (bytes_eq action (codes "-")) refl is
no-dash action (next ∷ actions) is = refl

dash-actions : actions_of (tokens (codes "-")) ≡ Some []
unfolding actions_of tokens
dash-actions = refl

list-actions : (found : List (List ℕ)) (names : Option (List (List ℕ))) → is_dash found ≡ false → names_apart (codes ",") found ≡ names → actions_of found ≡ names
unfolding actions_of
list-actions found names dash is = rw dash is

-- what is printed of actions is read as them
pub actions-read : (actions : List (List ℕ)) → AreNames actions → actions_of (tokens (actions_text actions)) ≡ Some actions
actions-read [] all = dash-actions
actions-read (action ∷ actions) all =
    let a = All-head (λ n. is_name n ≡ true) action actions all in
    let rest = All-tail (λ n. is_name n ≡ true) action actions all in
    rw (actions-tokens action actions a rest) (list-actions (action ∷ with_word (codes ",") actions) (Some (action ∷ actions)) (no-dash action actions a) (apart-names (codes ",") action actions a rest))

pub some-action : (actions : List (List ℕ)) → AreNames actions → (word : List ℕ) × (rest : List (List ℕ)) × (tokens (actions_text actions) ≡ word ∷ rest)
unfolding tokens
some-action [] all = (codes "-", [], refl)
some-action (action ∷ actions) all =
    (action, with_word (codes ",") actions, actions-tokens action actions (All-head (λ n. is_name n ≡ true) action actions all) (All-tail (λ n. is_name n ≡ true) action actions all))

-- a cell as it is printed: its bytes are those of a text, and no blank stands at its ends
pub record IsCell (text : List ℕ) : Type 0 where
  pub begins : Begins text
  pub ends : Ends text
  pub plain : is_plain text ≡ true

pub name-cell : (name : List ℕ) → is_name name ≡ true → IsCell name
name-cell name is =
    let wordy = name-wordy name is in
    record { begins = wordy-begins name wordy; ends = wordy-ends name wordy; plain = wordy-plain name wordy }

-- what stands between names is plain
each-cell : (before : List ℕ) (name : List ℕ) (names : List (List ℕ)) → is_plain before ≡ true → is_name name ≡ true → AreNames names → IsCell (name ++ behind_each before names)
each-cell before name [] plain is all = rw (append-nil name) (name-cell name is)
each-cell before name (next ∷ names) plain is all =
    let here = name-cell name is in
    let rest = each-cell before next names plain (All-head (λ n. is_name n ≡ true) next names all) (All-tail (λ n. is_name n ≡ true) next names all) in
    let more = before ++ (next ++ behind_each before names) in
    let whole : behind_each before (next ∷ names) ≡ more = append_assoc before next (behind_each before names) in
    rw whole (record {
      begins = begins-append name more here.begins;
      ends = ends-append name more (ends-append before (next ++ behind_each before names) rest.ends);
      plain = plain-append name more here.plain (plain-append before (next ++ behind_each before names) plain rest.plain);
    })

pub event-cell : (kind : List ℕ) (guards : List (List ℕ)) → is_name kind ≡ true → AreNames guards → IsCell (kind ++ condition guards)
event-cell kind [] is all = rw (append-nil kind) (name-cell kind is)
event-cell kind (guard ∷ guards) is all =
    let here = name-cell kind is in
    let rest = each-cell (codes " and ") guard guards refl (All-head (λ n. is_name n ≡ true) guard guards all) (All-tail (λ n. is_name n ≡ true) guard guards all) in
    let behind = guard ++ behind_each (codes " and ") guards in
    let more = codes " when " ++ behind in
    record {
      begins = begins-append kind more here.begins;
      ends = ends-append kind more (ends-append (codes " when ") behind rest.ends);
      plain = plain-append kind more here.plain (plain-append (codes " when ") behind refl rest.plain);
    }

pub actions-cell : (actions : List (List ℕ)) → AreNames actions → IsCell (actions_text actions)
actions-cell [] all = record { begins = record { first = 45; rest = []; is = refl; solid = refl }; ends = record { first = 45; rest = []; is = refl; solid = refl }; plain = refl }
actions-cell (action ∷ actions) all =
    each-cell (codes ", ") action actions refl (All-head (λ n. is_name n ≡ true) action actions all) (All-tail (λ n. is_name n ≡ true) action actions all)
