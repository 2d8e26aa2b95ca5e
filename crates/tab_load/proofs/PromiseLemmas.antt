use Rattle.std.proofs.Common.{◌≡◌, ℕ, ◌+◌, ◌-◌, ◌<◌, ◌≤◌, ◌&&◌, suc, zero, Bool, true, false, not, cond, is_some, List, [], ◌∷◌, ◌++◌, Option, Some, None, length, drop, replicate, get_or, arith, refl, sym, ap, subst, ◌∙◌, ◌⊎◌, inl, inr, Result, Ok, Err, IfOk}
use Rattle.std.specs.List.{list_all, slice_index_or}
use Rattle.std.proofs.lemmas.Bool.Decides.{nat_tests}
use Rattle.std.proofs.lemmas.List.{append-nil, append_assoc, length-append}
use Rattle.std.proofs.lemmas.List.Concat.{flat_map-append}
use Rattle.std.proofs.Math.Seq.{drop-append_seam}
use Rattle.tab_asm.specs.Formats.{Instruction, BeginRow, TestGuard, RunAction, GoTo, NoRow, octets_of, code_of}
use Rattle.tab_asm.specs.Paths.{IsPath, Outcome, Taken, Unlisted, end_of}
use Rattle.tab_load.specs.Faults.{format_of}
use Rattle.tab_load.specs.Code.{is_in_range, is_in_row, is_forward, instruction_fault, count_behind, EachAfter, IsFine, is_landing, landings, lands, leads, IsEnded}
use Rattle.tab_law.specs.Books.{Laws}
use Rattle.tab_load.specs.Loading.{IsSound, Loaded, IsLoaded, counts_of}
use Rattle.tab_load.specs.Promise.{Ends, EachEnds}
use Rattle.tab_load.specs.declared.fault.LoadError.{LoadError}
use Rattle.tab_load.proofs.ScanLemmas.{in-row}
use Rattle.tab_load.specs.declared.counts.Counts.{Counts}
use Rattle.tab_load.specs.declared.counts.Format.{Format}
use Rattle.tab_load.specs.declared.fault.ImageFault.TheVariants.{Count, BackJump}
use Rattle.tab_load.proofs.CheckLemmas.{code-length}

-- what holds of each, holds of the one behind these
each-at : {X : Type 0} (P : List X → X → Type 0) (before a : List X) (x : X) (b : List X) → EachAfter P before (a ++ x ∷ b) → P (before ++ a) x
each-at P before [] x b each = subst (λ (all : _). P all x) (sym (append-nil before)) each.0
each-at P before (y ∷ a) x b each =
    subst (λ (all : _). P all x) (append_assoc before (y ∷ []) a) (each-at P (before ++ y ∷ []) a x b each.1)

all-at : {X : Type 0} (p : X → Bool) (a : List X) (x : X) (b : List X) → list_all p (a ++ x ∷ b) ≡ true → p x ≡ true
all-at p [] x b all = and-left (p x) (list_all p b) all
  where
    and-left : (one two : Bool) → (one && two) ≡ true → one ≡ true
    and-left true two is = refl
    and-left false two is = is
all-at p (y ∷ a) x b all = all-at p a x b (and-right (p y) (list_all p (a ++ x ∷ b)) all)
  where
    and-right : (one two : Bool) → (one && two) ≡ true → two ≡ true
    and-right true two is = is
    and-right false two is = cc

-- an instruction without a fault
pub record WithoutFault (counts : Counts) (behind : ℕ) (instruction : Instruction) : Type 0 where
  pub range : is_in_range counts instruction ≡ true
  pub forward : is_forward behind instruction ≡ true

without-fault : (counts : Counts) (count : Option ℕ) (behind : ℕ) (instruction : Instruction) → instruction_fault counts count behind instruction ≡ None → WithoutFault counts behind instruction
without-fault counts count behind instruction none =
    by_tests (is_in_range counts instruction) (is_in_row count instruction) (is_forward behind instruction) refl refl none
  where
    by_tests : (range row forward : Bool) → is_in_range counts instruction ≡ range → is_forward behind instruction ≡ forward → cond (not (range && row)) (Some Count) (cond forward None (Some BackJump)) ≡ None → WithoutFault counts behind instruction
    by_tests true true true range forward none = record { range = range; forward = forward }
    by_tests true true false range forward none = cc
    by_tests true false forward range is none = cc
    by_tests false row forward range is none = cc

pub some-octets : (format : Format) (instruction : Instruction) → 0 < length (octets_of (format_of format) instruction)
some-octets format (BeginRow row) = omega arith
some-octets format (TestGuard guard otherwise) = omega arith
some-octets format (RunAction action) = omega arith
some-octets format (GoTo state) = omega arith
some-octets format NoRow = omega arith

ended-suffix : (before : List Instruction) (instruction : Instruction) (rest : List Instruction) → IsEnded (before ++ instruction ∷ rest) → IsEnded (instruction ∷ rest)
ended-suffix [] instruction rest ended = ended
ended-suffix (first ∷ []) instruction rest ended = ended
ended-suffix (first ∷ second ∷ before) instruction rest ended = ended-suffix (second ∷ before) instruction rest ended

-- where a jump may lead, there an instruction stands to which it may lead
pub record LandsAt (format : Format) (instructions : List Instruction) (offset : ℕ) : Type 0 where
  pub before : List Instruction
  pub one : Instruction
  pub rest : List Instruction
  pub joined : instructions ≡ before ++ one ∷ rest
  pub landing : is_landing one ≡ true
  pub place : length (code_of (format_of format) before) ≡ offset

-- what stands in a row of no landings, or behind it
past : (n offset : ℕ) (rest : List Bool) → get_or (replicate n false ++ rest) offset false ≡ true → (behind : ℕ) × (offset ≡ n + behind) × (get_or rest behind false ≡ true)
past zero offset rest is = (offset, omega arith, is)
past (suc n) zero rest is = cc
past (suc n) (suc offset) rest is =
    let later = past n offset rest is in
    (later.0, omega (arith, later.1), later.2)

pub lands-at : (format : Format) (instructions : List Instruction) (offset : ℕ) → lands (landings format instructions) offset ≡ true → LandsAt format instructions offset
lands-at format [] offset is = cc
lands-at format (one ∷ rest) zero is = record { before = []; one = one; rest = rest; joined = refl; landing = is; place = refl }
lands-at format (one ∷ rest) (suc offset) is =
    let size = length (octets_of (format_of format) one) in
    let later = past (size - 1) offset (landings format rest) is in
    let found = lands-at format rest later.0 later.2 in
    let long : length (code_of (format_of format) (one ∷ found.before)) ≡ size + length (code_of (format_of format) found.before) = length-append (octets_of (format_of format) one) (code_of (format_of format) found.before) in
    record {
      before = one ∷ found.before;
      one = found.one;
      rest = found.rest;
      joined = ap (λ (r : List Instruction). one ∷ r) found.joined;
      landing = found.landing;
      place = omega (arith, long, found.place, later.1, some-octets format one);
    }

-- a path from an offset, behind the begin of a row and these actions of it
record Found (format : Format) (counts : Counts) (code : List ℕ) (says : ℕ → Bool) (at : ℕ) (row : Option ℕ) (actions : List ℕ) : Type 0 where
  path : List Instruction
  is_path : IsPath (format_of format) code says at path
  few : length path + at ≤ length code
  known : list_all (is_in_range counts) path ≡ true
  outcome : Outcome
  end : end_of row actions path ≡ Some outcome

moved : (format : Format) (counts : Counts) (code : List ℕ) (says : ℕ → Bool) (one other : ℕ) (row : Option ℕ) (actions : List ℕ) → one ≡ other → Found format counts code says one row actions → Found format counts code says other row actions
moved format counts code says one other row actions same found =
    subst (λ (n : ℕ). Found format counts code says n row actions) same found

-- what is known of the instruction behind these
pub record Here (format : Format) (counts : Counts) (code : List ℕ) (instructions before : List Instruction) (one : Instruction) (rest : List Instruction) : Type 0 where
  pub at : drop (length (code_of (format_of format) before)) code ≡ octets_of (format_of format) one ++ code_of (format_of format) rest
  pub long : length code ≡ length (code_of (format_of format) before) + (length (octets_of (format_of format) one) + length (code_of (format_of format) rest))
  pub next : length (code_of (format_of format) (before ++ one ∷ [])) ≡ length (code_of (format_of format) before) + length (octets_of (format_of format) one)
  pub fine : WithoutFault counts (length (code_of (format_of format) (before ++ one ∷ []))) one
  pub in_row : is_in_row (count_behind None before) one ≡ true
  pub ended : IsEnded (one ∷ rest)
  pub leads_on : leads (landings format instructions) one ≡ true

pub here : (format : Format) (counts : Counts) (code : List ℕ) (entries : List (Option ℕ)) (instructions before : List Instruction) (one : Instruction) (rest : List Instruction) → IsSound format counts code entries instructions → instructions ≡ before ++ one ∷ rest → Here format counts code instructions before one rest
here format counts code entries instructions before one rest sound is =
    let spec = format_of format in
    let split = sound.is_code.whole ∙ ap (code_of spec) is ∙ flat_map-append (octets_of spec) before (one ∷ rest) in
    let fine = subst (λ (all : List Instruction). EachAfter (IsFine format counts) [] all) is sound.is_code.fine in
    let ended = subst (λ (all : List Instruction). IsEnded all) is sound.ended in
    let guards = subst (λ (all : List Instruction). list_all (leads (landings format instructions)) all ≡ true) is sound.guards in
    record {
      at = ap (drop (length (code_of spec before))) split ∙ drop-append_seam (code_of spec before) (octets_of spec one ++ code_of spec rest);
      long = ap length sound.is_code.whole ∙ code-length format instructions before one rest is;
      next = code-length format (before ++ one ∷ []) before one [] refl ∙ omega arith;
      fine = without-fault counts _ _ one (each-at (IsFine format counts) [] before one rest fine);
      in_row = in-row counts _ _ one (each-at (IsFine format counts) [] before one rest fine);
      ended = ended-suffix before one rest ended;
      leads_on = all-at (leads (landings format instructions)) before one rest guards;
    }

both-known : (counts : Counts) (one : Instruction) (path : List Instruction) → is_in_range counts one ≡ true → list_all (is_in_range counts) path ≡ true → list_all (is_in_range counts) (one ∷ path) ≡ true
both-known counts one path first rest = rw (first, rest) refl

begun : (row : Option ℕ) → is_some row ≡ true → (number : ℕ) × (row ≡ Some number)
begun None is = cc
begun (Some number) is = (number, refl)

only-begun : (row : Option ℕ) (one : Instruction) → is_landing one ≡ false → (is_some row ≡ true) ⊎ (is_landing one ≡ true) → is_some row ≡ true
only-begun row one none (inl is) = is
only-begun row one none (inr is) = cc

go-end : (row : Option ℕ) (actions : List ℕ) (state number : ℕ) → row ≡ Some number → end_of row actions (GoTo state ∷ []) ≡ Some (Taken number actions state)
go-end row actions state number is = rw is refl

-- from each instruction a path leads to an end, where a row was begun or one may be begun there
follow : (format : Format) (counts : Counts) (code : List ℕ) (entries : List (Option ℕ)) (instructions : List Instruction) (says : ℕ → Bool) → IsSound format counts code entries instructions → counts.rows ≤ 65536 → (n : ℕ) (before : List Instruction) (one : Instruction) (rest : List Instruction) (row : Option ℕ) (actions : List ℕ) → instructions ≡ before ++ one ∷ rest → length code ≤ length (code_of (format_of format) before) + n → (is_some row ≡ true) ⊎ (is_landing one ≡ true) → Found format counts code says (length (code_of (format_of format) before)) row actions
follow format counts code entries instructions says sound few_rows zero before one rest row actions is enough ok =
    let h = here format counts code entries instructions before one rest sound is in
    absurd (omega (arith, h.long, enough, some-octets format one))
follow format counts code entries instructions says sound few_rows (suc n) before one rest row actions is enough ok =
    let h = here format counts code entries instructions before one rest sound is in
    let on : (second : Instruction) (more : List Instruction) (now : Option ℕ) (done : List ℕ) → rest ≡ second ∷ more → is_some now ≡ true → Found format counts code says (length (code_of (format_of format) (before ++ one ∷ []))) now done = λ second more now done same some.
    follow format counts code entries instructions says sound few_rows n (before ++ one ∷ []) second more now done (is ∙ ap (λ (r : List Instruction). before ++ one ∷ r) same ∙ sym (append_assoc before (one ∷ []) (second ∷ more))) (omega (arith, enough, h.next, some-octets format one)) (inl some) in
    let jump : (offset : ℕ) → lands (landings format instructions) offset ≡ true → length (code_of (format_of format) (before ++ one ∷ [])) ≤ offset → Found format counts code says offset row actions = λ offset lands_there later.
    let there = lands-at format instructions offset lands_there in
    moved format counts code says (length (code_of (format_of format) there.before)) offset row actions there.place
    (follow format counts code entries instructions says sound few_rows n there.before there.one there.rest row actions there.joined (omega (arith, enough, h.next, there.place, later, some-octets format one)) (inr there.landing)) in
    by_one one rest h ok on jump
  where
    by_one : (i : Instruction) (more : List Instruction) → Here format counts code instructions before i more → (is_some row ≡ true) ⊎ (is_landing i ≡ true) → ((second : Instruction) (after : List Instruction) (now : Option ℕ) (done : List ℕ) → more ≡ second ∷ after → is_some now ≡ true → Found format counts code says (length (code_of (format_of format) (before ++ i ∷ []))) now done) → ((offset : ℕ) → lands (landings format instructions) offset ≡ true → length (code_of (format_of format) (before ++ i ∷ [])) ≤ offset → Found format counts code says offset row actions) → Found format counts code says (length (code_of (format_of format) before)) row actions
    by_one (GoTo state) more h ok on jump =
        let some = begun row (only-begun row (GoTo state) refl ok) in
        record {
          path = GoTo state ∷ [];
          is_path = (record { whole = tt; rest = code_of (format_of format) more; octets = h.at }, refl);
          few = omega (arith, h.long);
          known = both-known counts (GoTo state) [] h.fine.range refl;
          outcome = Taken some.0 actions state;
          end = go-end row actions state some.0 some.1;
        }
    by_one NoRow more h ok on jump = record {
      path = NoRow ∷ [];
      is_path = (record { whole = tt; rest = code_of (format_of format) more; octets = h.at }, refl);
      few = omega (arith, h.long);
      known = refl;
      outcome = Unlisted;
      end = refl;
    }
    by_one (BeginRow number) [] h ok on jump = let ended = h.ended in cc
    by_one (BeginRow number) (second ∷ after) h ok on jump =
        let later = on second after (Some number) [] refl refl in
        let small : number < 65536 = let range = h.fine.range in grind (arith, nat_tests) in
        record {
          path = BeginRow number ∷ later.path;
          is_path = (record { whole = small; rest = code_of (format_of format) (second ∷ after); octets = h.at }, subst (λ (m : ℕ). IsPath (format_of format) code says m later.path) h.next later.is_path);
          few = omega (arith, later.few, h.next);
          known = both-known counts (BeginRow number) later.path h.fine.range later.known;
          outcome = later.outcome;
          end = later.end;
        }
    by_one (RunAction action) [] h ok on jump = let ended = h.ended in cc
    by_one (RunAction action) (second ∷ after) h ok on jump =
        let later = on second after row (actions ++ action ∷ []) refl (only-begun row (RunAction action) refl ok) in
        record {
          path = RunAction action ∷ later.path;
          is_path = (record { whole = tt; rest = code_of (format_of format) (second ∷ after); octets = h.at }, subst (λ (m : ℕ). IsPath (format_of format) code says m later.path) h.next later.is_path);
          few = omega (arith, later.few, h.next);
          known = both-known counts (RunAction action) later.path h.fine.range later.known;
          outcome = later.outcome;
          end = later.end;
        }
    by_one (TestGuard guard otherwise) [] h ok on jump = let ended = h.ended in cc
    by_one (TestGuard guard otherwise) (second ∷ after) h ok on jump =
        let there = lands-at format instructions otherwise h.leads_on in
        let target = here format counts code entries instructions there.before there.one there.rest sound there.joined in
        let inside : otherwise < length code = omega (arith, target.long, there.place, some-octets format there.one) in
        by_answer (says guard) refl inside
      where
        by_answer : (answer : Bool) → says guard ≡ answer → otherwise < length code → Found format counts code says (length (code_of (format_of format) before)) row actions
        by_answer true says_yes inside =
            let later = on second after row actions refl (only-begun row (TestGuard guard otherwise) refl ok) in
            record {
              path = TestGuard guard otherwise ∷ later.path;
              is_path = (record { whole = inside; rest = code_of (format_of format) (second ∷ after); octets = h.at }, rw says_yes (subst (λ (m : ℕ). IsPath (format_of format) code says m later.path) h.next later.is_path));
              few = omega (arith, later.few, h.next, some-octets format (TestGuard guard otherwise));
              known = both-known counts (TestGuard guard otherwise) later.path h.fine.range later.known;
              outcome = later.outcome;
              end = later.end;
            }
        by_answer false says_no inside =
            let forward = h.fine.forward in
            let later_than : length (code_of (format_of format) (before ++ TestGuard guard otherwise ∷ [])) ≤ otherwise = grind (arith, nat_tests) in
            let later = jump otherwise h.leads_on later_than in
            record {
              path = TestGuard guard otherwise ∷ later.path;
              is_path = (record { whole = inside; rest = code_of (format_of format) (second ∷ after); octets = h.at }, rw says_no later.is_path);
              few = omega (arith, later.few, later_than, h.next, some-octets format (TestGuard guard otherwise));
              known = both-known counts (TestGuard guard otherwise) later.path h.fine.range later.known;
              outcome = later.outcome;
              end = later.end;
            }

-- from each entry a path leads to an end
pub each-ends : (format : Format) (counts : Counts) (code : List ℕ) (entries : List (Option ℕ)) (instructions : List Instruction) (says : ℕ → Bool) → IsSound format counts code entries instructions → counts.rows ≤ 65536 → (number offset : ℕ) → number < length entries → slice_index_or entries number None ≡ Some offset → Ends format counts code says offset
each-ends format counts code entries instructions says sound few_rows number offset inside is =
    let leads_there : lands (landings format instructions) offset ≡ true = rw is at (sound.entries_lead number inside) in
    let there = lands-at format instructions offset leads_there in
    let found = follow format counts code entries instructions says sound few_rows (length code) there.before there.one there.rest None [] there.joined (omega arith) (inr there.landing) in
    record {
      path = found.path;
      is_path = subst (λ (m : ℕ). IsPath (format_of format) code says m found.path) there.place found.is_path;
      few = omega (arith, found.few);
      known = found.known;
      outcome = found.outcome;
      end = found.end;
    }

-- a program that fits its book ends each event
ends-all : (laws : Laws) (program : Loaded) → IsLoaded laws program → EachEnds program
ends-all laws program loaded = λ says number offset inside is.
    each-ends program.format (counts_of program.image) program.image.code program.image.entries loaded.instructions says loaded.sound loaded.few_rows number offset inside is

pub ok-ends : (laws : Laws) (result : Result Loaded LoadError) → IfOk result (IsLoaded laws) → IfOk result EachEnds
ok-ends laws (Ok program) loaded = ends-all laws program loaded
ok-ends laws (Err error) loaded = tt
