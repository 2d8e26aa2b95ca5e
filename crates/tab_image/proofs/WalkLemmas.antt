use Rattle.std.proofs.Common.{◌≡◌, ℕ, ◌+◌, ◌-◌, ◌<◌, ◌≤◌, ◌++◌, true, false, nat_lt, List, [], ◌∷◌, Option, Some, None, length, map, take, drop, arith, refl, sym, subst, ap, ◌∙◌, ◌⊎◌, inl, inr}
use Rattle.std.specs.List.{slice_index_or}
use Rattle.std.proofs.lemmas.Bool.Decides.{nat_tests}
use Rattle.std.proofs.lemmas.List.{append_assoc, length-append, take_rest}
use Rattle.tab_law.specs.Books.{Laws}
use Rattle.tab_law.specs.declared.scene.Scene.{Scene}
use Rattle.tab_asm.specs.Formats.{Instruction, BeginRow, TestGuard, RunAction, GoTo, NoRow, octets_of, code_of}
use Rattle.tab_asm.specs.Paths.{IsWhole, IsPath, Outcome, Taken, Unlisted, next_of, end_of, LeadsTo}
use Rattle.base_list.specs.Named.{place_of}
use Rattle.tab_step.specs.Moves.{name_at}
use Rattle.tab_step.proofs.BindLemmas.{as-many, map-more}
use Rattle.tab_load.specs.Faults.{format_of, width_of, code_limit}
use Rattle.tab_load.specs.Code.{Fits, is_end, is_landing, counted, count_behind, landings, lands, IsEnded}
use Rattle.tab_load.specs.Loading.{Loaded, IsLoaded, IsSound, counts_of}
use Rattle.tab_load.specs.declared.counts.Format.{Format}
use Rattle.tab_load.specs.declared.counts.Format.TheVariants.{One, Two}
use Rattle.tab_load.proofs.PromiseLemmas.{Here, here, lands-at, some-octets}
use Rattle.tab_load.proofs.ScanLemmas.{count-more}
use Rattle.tab_image.specs.RunBy.{says}
use Rattle.tab_image.specs.Walks.{ArePlaces, IsAt}
use Rattle.tab_image.specs.declared.walk.Walk.{Walk}
use Rattle.tab_load.proofs.OnlyLemmas.{same-instruction}

-- an offset to which a jump may lead lies in the code
lands-in : (program : Loaded) (instructions : List Instruction) (offset : ℕ) → IsSound program.format (counts_of program.image) program.image.code program.image.entries instructions → lands (landings program.format instructions) offset ≡ true → offset < length program.image.code
lands-in program instructions offset sound lands_there =
    let there = lands-at program.format instructions offset lands_there in
    let h = here program.format (counts_of program.image) program.image.code program.image.entries instructions there.before there.one there.rest sound there.joined in
    omega (arith, h.long, there.place, some-octets program.format there.one)

-- the operands of a program's instructions fit
one-fits : (program : Loaded) (instructions before : List Instruction) (one : Instruction) (rest : List Instruction) → IsSound program.format (counts_of program.image) program.image.code program.image.entries instructions → length program.image.code < code_limit program.format → program.image.rows ≤ 65536 → Here program.format (counts_of program.image) program.image.code instructions before one rest → Fits program.format one
one-fits program instructions before (BeginRow row) rest sound short few h =
    let range : nat_lt row program.image.rows ≡ true = h.fine.range in
    grind (arith, nat_tests)
one-fits program instructions before (TestGuard guard otherwise) rest sound short few h =
    omega (arith, short, lands-in program instructions otherwise sound h.leads_on)
one-fits program instructions before (RunAction action) rest sound short few h = tt
one-fits program instructions before (GoTo state) rest sound short few h = tt
one-fits program instructions before NoRow rest sound short few h = tt

-- where a walk stands, at this instruction
pub record AtOne (laws : Laws) (program : Loaded) (scene : Scene) (walk : Walk) (one : Instruction) : Type 0 where
  pub instructions : List Instruction
  pub sound : IsSound program.format (counts_of program.image) program.image.code program.image.entries instructions
  pub before : List Instruction
  pub rest : List Instruction
  pub split : instructions ≡ before ++ one ∷ rest
  pub place : length (code_of (format_of program.format) before) ≡ walk.at
  pub begun : Option ℕ
  pub actions : List ℕ
  pub in_row : (is_landing one ≡ true) ⊎ ((begun ≡ Some walk.row) × (count_behind None before ≡ Some (length actions)))
  pub placed : ArePlaces laws program.image actions walk.acts
  pub leads :
      (path : List Instruction) (outcome : Outcome)
      → IsPath (format_of program.format) program.image.code (says laws program.image scene) walk.at path
      → length path + walk.at ≤ length program.image.code
      → end_of begun actions path ≡ Some outcome
      → LeadsTo (format_of program.format) program.image.code (says laws program.image scene) walk.begin outcome

-- what is known of the instruction at which a walk stands
pub here-at : (laws : Laws) (program : Loaded) (scene : Scene) (walk : Walk) (one : Instruction) (at : AtOne laws program scene walk one) → Here program.format (counts_of program.image) program.image.code at.instructions at.before one at.rest
here-at laws program scene walk one at = here program.format (counts_of program.image) program.image.code program.image.entries at.instructions at.before one at.rest at.sound at.split

-- the instruction that is read is the one at which a walk stands
pub at-one : (laws : Laws) (program : Loaded) (scene : Scene) (walk : Walk) (one : Instruction) (more : List ℕ) → IsLoaded laws program → IsAt laws program scene walk → Fits program.format one → drop walk.at program.image.code ≡ octets_of (format_of program.format) one ++ more → AtOne laws program scene walk one
at-one laws program scene walk one more loaded at fits read =
    let own : AtOne laws program scene walk at.one = record {
      instructions = at.instructions;
      sound = at.sound;
      before = at.before;
      rest = at.rest;
      split = at.split;
      place = at.place;
      begun = at.begun;
      actions = at.actions;
      in_row = at.in_row;
      placed = at.placed;
      leads = at.leads;
    } in
    let h = here-at laws program scene walk at.one own in
    let own_fits = one-fits program at.instructions at.before at.one at.rest at.sound loaded.short loaded.few_rows h in
    let octets = sym h.at ∙ ap (λ (n : ℕ). drop n program.image.code) at.place ∙ read in
    let same = same-instruction program.format at.one one (code_of (format_of program.format) at.rest) more own_fits fits octets in
    subst (λ (i : Instruction). AtOne laws program scene walk i) same own

-- and as code reads it
pub reads : (laws : Laws) (program : Loaded) (scene : Scene) (walk : Walk) (one : Instruction) (format : Format) (code more : List ℕ) → IsLoaded laws program → IsAt laws program scene walk → format ≡ program.format → code ≡ program.image.code → Fits format one → take (length code - walk.at) (drop walk.at code) ≡ octets_of (format_of format) one ++ more → AtOne laws program scene walk one
reads laws program scene walk one format code more loaded at same whole fits read =
    let all : take (length program.image.code - walk.at) (drop walk.at program.image.code) ≡ octets_of (format_of program.format) one ++ more = rw (← same, ← whole) read in
    at-one laws program scene walk one more loaded at (rw (← same) fits) (sym (take_rest program.image.code walk.at) ∙ all)

-- the instructions behind one that is no end
record Behind (rest : List Instruction) : Type 0 where
  one : Instruction
  more : List Instruction
  joined : rest ≡ one ∷ more

behind-one : (one : Instruction) (rest : List Instruction) → is_end one ≡ false → IsEnded (one ∷ rest) → Behind rest
behind-one one [] open_on ended = cc
behind-one one (second ∷ more) open_on ended = record { one = second; more = more; joined = refl }

-- a path from where an instruction leads is, behind it, one from there
pub prefixed : (laws : Laws) (program : Loaded) (scene : Scene) (walk : Walk) (one : Instruction) (begun : Option ℕ) (actions : List ℕ) (next : ℕ) (at : AtOne laws program scene walk one) → IsWhole program.image.code one → next_of (format_of program.format) (says laws program.image scene) walk.at one ≡ Some next → walk.at < next → ((path : List Instruction) (outcome : Outcome) → end_of begun actions path ≡ Some outcome → end_of at.begun at.actions (one ∷ path) ≡ Some outcome)
    → (path : List Instruction) (outcome : Outcome) → IsPath (format_of program.format) program.image.code (says laws program.image scene) next path → length path + next ≤ length program.image.code → end_of begun actions path ≡ Some outcome → LeadsTo (format_of program.format) program.image.code (says laws program.image scene) walk.begin outcome
prefixed laws program scene walk one begun actions next at whole leads_to later ends =
    let h = here-at laws program scene walk one at in
    let octets = ap (λ (n : ℕ). drop n program.image.code) (sym at.place) ∙ h.at in
    λ path outcome is few end.
    at.leads (one ∷ path) outcome (record { whole = whole; rest = code_of (format_of program.format) at.rest; octets = octets }, rw leads_to is) (omega (arith, few, later)) (ends path outcome end)

-- a walk stands behind an instruction that is no end
goes-on : (laws : Laws) (program : Loaded) (scene : Scene) (walk now : Walk) (one : Instruction) (begun : Option ℕ) (actions : List ℕ) (at : AtOne laws program scene walk one) → is_end one ≡ false → IsWhole program.image.code one → now.begin ≡ walk.begin → now.at ≡ walk.at + length (octets_of (format_of program.format) one) → next_of (format_of program.format) (says laws program.image scene) walk.at one ≡ Some (walk.at + length (octets_of (format_of program.format) one)) → begun ≡ Some now.row → counted (count_behind None at.before) one ≡ Some (length actions) → ArePlaces laws program.image actions now.acts → ((path : List Instruction) (outcome : Outcome) → end_of begun actions path ≡ Some outcome → end_of at.begun at.actions (one ∷ path) ≡ Some outcome) → IsAt laws program scene now
goes-on laws program scene walk now one begun actions at no_end whole same now_at leads_to row count placed ends =
    let h = here-at laws program scene walk one at in
    let next = behind-one one at.rest no_end h.ended in
    let later = prefixed laws program scene walk one begun actions (walk.at + length (octets_of (format_of program.format) one)) at whole leads_to (omega (arith, some-octets program.format one)) ends in
    record {
      instructions = at.instructions;
      sound = at.sound;
      before = at.before ++ one ∷ [];
      one = next.one;
      rest = next.more;
      split = at.split ∙ ap (λ (r : List Instruction). at.before ++ one ∷ r) next.joined ∙ sym (append_assoc at.before (one ∷ []) (next.one ∷ next.more));
      place = h.next ∙ ap (λ (n : ℕ). n + length (octets_of (format_of program.format) one)) at.place ∙ sym now_at;
      begun = begun;
      actions = actions;
      in_row = inr (row, count-more None at.before one ∙ count);
      placed = placed;
      leads = rw (now_at, same) later;
    }

-- behind the begin of a row
pub begins-row : (laws : Laws) (program : Loaded) (scene : Scene) (walk now : Walk) (row : ℕ) → AtOne laws program scene walk (BeginRow row) → row < 65536 → now.begin ≡ walk.begin → now.at ≡ walk.at + 3 → now.row ≡ row → now.acts ≡ [] → IsAt laws program scene now
begins-row laws program scene walk now row at small same now_at now_row no_acts =
    goes-on laws program scene walk now (BeginRow row) (Some row) [] at refl small same now_at refl (ap (λ (n : ℕ). Some n) (sym now_row)) refl (rw no_acts refl) (λ path outcome end. end)

-- an instruction that begins no row stands in one
in-row : (laws : Laws) (program : Loaded) (scene : Scene) (walk : Walk) (one : Instruction) (at : AtOne laws program scene walk one) → is_landing one ≡ false → (at.begun ≡ Some walk.row) × (count_behind None at.before ≡ Some (length at.actions))
in-row laws program scene walk one at no_landing = by_case at.in_row
  where
    by_case : (is_landing one ≡ true) ⊎ ((at.begun ≡ Some walk.row) × (count_behind None at.before ≡ Some (length at.actions))) → (at.begun ≡ Some walk.row) × (count_behind None at.before ≡ Some (length at.actions))
    by_case (inl landing) = cc
    by_case (inr row) = row

-- a guard that is read is one of the image
pub guard-in : (laws : Laws) (program : Loaded) (scene : Scene) (walk : Walk) (guard otherwise : ℕ) → AtOne laws program scene walk (TestGuard guard otherwise) → guard < length program.image.guards
guard-in laws program scene walk guard otherwise at =
    let h = here-at laws program scene walk (TestGuard guard otherwise) at in
    let range : nat_lt guard (length program.image.guards) ≡ true = h.fine.range in
    grind (arith, nat_tests)

-- behind a guard that says yes
pub passes : (laws : Laws) (program : Loaded) (scene : Scene) (walk now : Walk) (guard otherwise size : ℕ) → AtOne laws program scene walk (TestGuard guard otherwise) → says laws program.image scene guard ≡ true → size ≡ length (octets_of (format_of program.format) (TestGuard guard otherwise)) → now.begin ≡ walk.begin → now.at ≡ walk.at + size → now.row ≡ walk.row → now.acts ≡ walk.acts → IsAt laws program scene now
passes laws program scene walk now guard otherwise size at said long same now_at now_row now_acts =
    let h = here-at laws program scene walk (TestGuard guard otherwise) at in
    let row = in-row laws program scene walk (TestGuard guard otherwise) at refl in
    let inside = lands-in program at.instructions otherwise at.sound h.leads_on in
    goes-on laws program scene walk now (TestGuard guard otherwise) at.begun at.actions at refl inside same (now_at ∙ ap (λ (n : ℕ). walk.at + n) long) (rw said refl) (row.0 ∙ ap (λ (n : ℕ). Some n) (sym now_row)) row.1 (rw now_acts at.placed) (λ path outcome end. end)

-- how many octets a test has
pub test-size : (format : Format) (guard otherwise width : ℕ) → width ≡ width_of format → 2 + width ≡ length (octets_of (format_of format) (TestGuard guard otherwise))
test-size One guard otherwise width is = rw is refl
test-size Two guard otherwise width is = rw is refl

-- where a guard leads that says no
pub jumps : (laws : Laws) (program : Loaded) (scene : Scene) (walk now : Walk) (guard otherwise : ℕ) → AtOne laws program scene walk (TestGuard guard otherwise) → says laws program.image scene guard ≡ false → now.begin ≡ walk.begin → now.at ≡ otherwise → now.acts ≡ walk.acts → IsAt laws program scene now × (walk.at < now.at)
jumps laws program scene walk now guard otherwise at said same now_at now_acts =
    let h = here-at laws program scene walk (TestGuard guard otherwise) at in
    let inside = lands-in program at.instructions otherwise at.sound h.leads_on in
    let there = lands-at program.format at.instructions otherwise h.leads_on in
    let forward = h.fine.forward in
    let behind : length (code_of (format_of program.format) (at.before ++ TestGuard guard otherwise ∷ [])) ≤ otherwise = grind (arith, nat_tests) in
    let later : walk.at < otherwise = omega (arith, behind, h.next, at.place, some-octets program.format (TestGuard guard otherwise)) in
    let on = prefixed laws program scene walk (TestGuard guard otherwise) at.begun at.actions otherwise at inside (rw said refl) later (λ path outcome end. end) in (
      record {
        instructions = at.instructions;
        sound = at.sound;
        before = there.before;
        one = there.one;
        rest = there.rest;
        split = there.joined;
        place = there.place ∙ sym now_at;
        begun = at.begun;
        actions = at.actions;
        in_row = inl there.landing;
        placed = rw now_acts at.placed;
        leads = rw (now_at, same) on;
      },
      rw now_at later,
    )

-- a row has few actions where one more is run
pub few-actions : (laws : Laws) (program : Loaded) (scene : Scene) (walk : Walk) (action : ℕ) → AtOne laws program scene walk (RunAction action) → (action < length program.image.actions) × (length walk.acts < 8)
few-actions laws program scene walk action at =
    let h = here-at laws program scene walk (RunAction action) at in
    let row = in-row laws program scene walk (RunAction action) at refl in
    let range : nat_lt action (length program.image.actions) ≡ true = h.fine.range in
    let room : nat_lt (length at.actions) 8 ≡ true = rw row.1 at h.in_row in
    let many = as-many (λ number. place_of (name_at program.image.actions number) laws.acts) at.actions walk.acts at.placed in
    (grind (arith, nat_tests), grind (arith, nat_tests))

-- behind an action
pub runs-action : (laws : Laws) (program : Loaded) (scene : Scene) (walk now : Walk) (action place : ℕ) → AtOne laws program scene walk (RunAction action) → place_of (name_at program.image.actions action) laws.acts ≡ Some place → now.begin ≡ walk.begin → now.at ≡ walk.at + 2 → now.row ≡ walk.row → now.acts ≡ walk.acts ++ place ∷ [] → IsAt laws program scene now
runs-action laws program scene walk now action place at own same now_at now_row now_acts =
    let row = in-row laws program scene walk (RunAction action) at refl in
    let f : ℕ → Option ℕ = λ number. place_of (name_at program.image.actions number) laws.acts in
    let count : counted (count_behind None at.before) (RunAction action) ≡ Some (length (at.actions ++ action ∷ [])) = rw row.1 (ap (λ (n : ℕ). Some n) (sym (length-append at.actions (action ∷ [])))) in
    let placed : map f (at.actions ++ action ∷ []) ≡ map Some (walk.acts ++ place ∷ []) = map-more f at.actions action ∙ rw (at.placed, own) (sym (map-more Some walk.acts place)) in
    goes-on laws program scene walk now (RunAction action) at.begun (at.actions ++ action ∷ []) at refl tt same now_at refl (row.0 ∙ ap (λ (n : ℕ). Some n) (sym now_row)) count (rw now_acts placed) (λ path outcome end. end)

-- a walk ends by a row
pub ends-row : (laws : Laws) (program : Loaded) (scene : Scene) (walk : Walk) (state : ℕ) (at : AtOne laws program scene walk (GoTo state)) → LeadsTo (format_of program.format) program.image.code (says laws program.image scene) walk.begin (Taken walk.row at.actions state)
ends-row laws program scene walk state at =
    let h = here-at laws program scene walk (GoTo state) at in
    let octets = ap (λ (n : ℕ). drop n program.image.code) (sym at.place) ∙ h.at in
    let row = in-row laws program scene walk (GoTo state) at refl in
    let end : end_of at.begun at.actions (GoTo state ∷ []) ≡ Some (Taken walk.row at.actions state) = rw row.0 refl in
    at.leads (GoTo state ∷ []) (Taken walk.row at.actions state) (record { whole = tt; rest = code_of (format_of program.format) at.rest; octets = octets }, refl) (omega (arith, h.long, at.place)) end

-- or without one
pub ends-all : (laws : Laws) (program : Loaded) (scene : Scene) (walk : Walk) → AtOne laws program scene walk NoRow → LeadsTo (format_of program.format) program.image.code (says laws program.image scene) walk.begin Unlisted
ends-all laws program scene walk at =
    let h = here-at laws program scene walk NoRow at in
    let octets = ap (λ (n : ℕ). drop n program.image.code) (sym at.place) ∙ h.at in
    at.leads (NoRow ∷ []) Unlisted (record { whole = tt; rest = code_of (format_of program.format) at.rest; octets = octets }, refl) (omega (arith, h.long, at.place)) refl

-- a walk begins at an entry
pub begins : (laws : Laws) (program : Loaded) (scene : Scene) (walk : Walk) → IsLoaded laws program → (number offset : ℕ) → number < length program.image.entries → slice_index_or program.image.entries number None ≡ Some offset → walk.begin ≡ offset → walk.at ≡ offset → walk.acts ≡ [] → IsAt laws program scene walk
begins laws program scene walk loaded number offset inside is begin at no_acts =
    let leads_there : lands (landings program.format loaded.instructions) offset ≡ true = rw is at (loaded.sound.entries_lead number inside) in
    let there = lands-at program.format loaded.instructions offset leads_there in
    record {
      instructions = loaded.instructions;
      sound = loaded.sound;
      before = there.before;
      one = there.one;
      rest = there.rest;
      split = there.joined;
      place = there.place ∙ sym at;
      begun = None;
      actions = [];
      in_row = inl there.landing;
      placed = rw no_acts refl;
      leads = λ path outcome is_path few end. record { path = path; is_path = rw (begin, ← at) is_path; few = omega (arith, few); end = end };
    }
