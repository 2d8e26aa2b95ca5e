use Rattle.std.proofs.Common.{◌≡◌, ℕ, ◌+◌, ◌<◌, suc, Bool, true, List, [], ◌∷◌, ◌++◌, Option, Some, None, is_some, length, drop, map, arith, refl, sym, ap, subst, ◌∙◌, inl, inr}
use Rattle.std.specs.List.{All, list_all, list_any, slice_index_or}
use Rattle.std.proofs.lemmas.Bool.{and_parts}
use Rattle.std.proofs.lemmas.List.{append-nil, append_assoc, length-append, length-drop, get_or_at, take-append-drop}
use Rattle.tab_asm.specs.Formats.{format_2, Instruction, octets_of, code_of}
use Rattle.tab_asm.specs.Images.{Image}
use Rattle.tab_load.specs.Code.{Fits, EachAfter, IsFine, AreFine, landings, leads, is_entry, is_end, octets_fault, NextWrong, ScanWrong, IsCode, EndWrong, IsEnded, GuardWrong, EntryWrong}
use Rattle.tab_load.specs.Loading.{CodeWrong, AtStep, AtEnd, AtGuard, AtEntry, IsSound, counts_of}
use Rattle.tab_load.specs.declared.counts.Format.TheVariants.{Two}
use Rattle.tab_load.specs.declared.fault.ImageFault.{ImageFault}
use Rattle.tab_load.specs.declared.fault.ImageFault.TheVariants.{NoEnd}
use Rattle.tab_image.proofs.CodeList.{code-append}
use Rattle.tab_image.proofs.CodeOnly.{only-one, front-of, only-code, whole-octets}
use Rattle.tab_image.proofs.CodeSpelt.{as_spelt, spelt-code, spelt-count, are-spelt}

-- what holds of each, holds of the one behind these
each-at : {X : Type 0} (P : List X → X → Type 0) (before a : List X) (x : X) (b : List X) → EachAfter P before (a ++ x ∷ b) → P (before ++ a) x
each-at P before [] x b each = subst (λ (all : _). P all x) (sym (append-nil before)) each.0
each-at P before (y ∷ a) x b each =
    subst (λ (all : _). P all x) (append_assoc before (y ∷ []) a) (each-at P (before ++ y ∷ []) a x b each.1)

all-at : {X : Type 0} (p : X → Bool) (a : List X) (x : X) (b : List X) → list_all p (a ++ x ∷ b) ≡ true → p x ≡ true
all-at p [] x b all = (and_parts (p x) (list_all p b) all).0
all-at p (y ∷ a) x b all = all-at p a x b (and_parts (p y) (list_all p (a ++ x ∷ b)) all).1

last-ends : (before : List Instruction) (last : Instruction) → IsEnded (before ++ last ∷ []) → is_end last ≡ true
last-ends [] last ended = ended
last-ends (first ∷ []) last ended = ended
last-ends (first ∷ second ∷ before) last ended = last-ends (second ∷ before) last ended

spelt-at : (a : List Instruction) (x : Instruction) (b : List Instruction) → All (Fits Two) (a ++ x ∷ b) → Fits Two x
spelt-at a x b all =
    let inside : length a < length (a ++ x ∷ b) = omega (arith, length-append a (x ∷ b)) in
    subst (λ (one : Instruction). Fits Two one) (get_or_at a x b x (length a) refl) (all (length a) x inside)

-- what is known behind instructions is known behind those that the same octets spell
behind-spelt : (image : Image) (before : List Instruction) (one : Instruction) → IsFine Two (counts_of image) (map as_spelt before) one → IsFine Two (counts_of image) before one
behind-spelt image before one fine =
    let long : length (code_of format_2 (map as_spelt before ++ one ∷ [])) ≡ length (code_of format_2 (before ++ one ∷ [])) = code-append (map as_spelt before) (one ∷ []) ∙ ap (λ (octets : List ℕ). length octets + length (code_of format_2 (one ∷ []))) (spelt-code before) ∙ sym (code-append before (one ∷ [])) in
    rw (spelt-count, long) at fine

-- instructions without a fault have none
no-scan-fault : (image : Image) (code : List ℕ) (instructions : List Instruction) → IsCode Two (counts_of image) code instructions → (begin whole at : ℕ) (fault : ImageFault) (wrong : ScanWrong Two (counts_of image) code begin whole at fault) → ⊥
no-scan-fault image code instructions is begin whole at fault wrong =
    let before = map as_spelt wrong.before in
    let apart : code_of format_2 instructions ≡ code_of format_2 before ++ drop wrong.part code = sym is.whole ∙ sym (take-append-drop wrong.part code) ∙ ap (λ (front : List ℕ). front ++ drop wrong.part code) (wrong.front ∙ sym (spelt-code wrong.before)) in
    let found = front-of instructions before (drop wrong.part code) is.fits (are-spelt wrong.before) apart in
    by_rest found.0 found.1 found.2 wrong.wrong
  where
    by_next : (one : Instruction) (more : List ℕ) → Fits Two one → drop wrong.part code ≡ octets_of format_2 one ++ more → IsFine Two (counts_of image) wrong.before one → NextWrong Two (counts_of image) wrong.before (drop wrong.part code) fault → ⊥
    by_next one more spelt_one stands fine (inl octets) =
        let none : octets_fault Two (drop wrong.part code) ≡ None = rw stands (whole-octets one more) in
        cc
    by_next one more spelt_one stands fine (inr other) =
        let same : one ≡ other.0 = (only-one one other.0 more other.1 spelt_one other.4 (sym stands ∙ other.3)).0 in
        let none = subst (λ (i : Instruction). IsFine Two (counts_of image) wrong.before i) same fine in
        cc

    by_rest : (after : List Instruction) → instructions ≡ map as_spelt wrong.before ++ after → code_of format_2 after ≡ drop wrong.part code → NextWrong Two (counts_of image) wrong.before (drop wrong.part code) fault → ⊥
    by_rest [] joined octets next =
        let none : 0 ≡ length (drop wrong.part code) = ap length octets in
        omega (arith, none, length-drop wrong.part code, wrong.inside)
    by_rest (one ∷ after) joined octets next =
        let before = map as_spelt wrong.before in
        let fine = each-at (IsFine Two (counts_of image)) [] before one after (subst (λ (all : List Instruction). AreFine Two (counts_of image) all) joined is.fine) in
        let each = subst (λ (all : List Instruction). All (Fits Two) all) joined is.fits in
        by_next one (code_of format_2 after) (spelt-at before one after each) (sym octets) (behind-spelt image wrong.before one fine) next

-- whether there is an entry
some-entry : (entries : List (Option ℕ)) → list_any is_some entries ≡ true → (number : ℕ) × (number < length entries) × (offset : ℕ) × (slice_index_or entries number None ≡ Some offset)
some-entry [] is = cc
some-entry (None ∷ entries) is =
    let later = some-entry entries is in
    (suc later.0, omega (arith, later.1), later.2, later.3)
some-entry (Some offset ∷ entries) is = (0, omega arith, offset, refl)

-- code that ends has no fault at its end
no-end-fault : (image : Image) (code : List ℕ) (entries : List (Option ℕ)) (instructions : List Instruction) → IsSound Two (counts_of image) code entries instructions → (begin at : ℕ) (fault : ImageFault) → EndWrong Two instructions entries begin at fault → ⊥
no-end-fault image code entries instructions sound begin at NoEnd (inl none) =
    let found = some-entry entries none.1 in
    let leads_there : is_entry (landings Two instructions) (Some found.2) ≡ true = subst (λ (entry : Option ℕ). is_entry (landings Two instructions) entry ≡ true) found.3 (sound.entries_lead found.0 found.1) in
    let nowhere : is_entry (landings Two []) (Some found.2) ≡ true = subst (λ (all : List Instruction). is_entry (landings Two all) (Some found.2) ≡ true) none.0 leads_there in
    cc
no-end-fault image code entries instructions sound begin at NoEnd (inr last) =
    let ends = last-ends last.0 last.1 (subst (λ (all : List Instruction). IsEnded all) last.2 sound.ended) in
    let none = last.3 in
    cc
no-end-fault image code entries instructions sound begin at other wrong = wrong

no-guard-fault : (instructions : List Instruction) → list_all (leads (landings Two instructions)) instructions ≡ true → (begin at : ℕ) (fault : ImageFault) → GuardWrong Two instructions begin at fault → ⊥
no-guard-fault instructions all begin at fault wrong =
    let lead = all-at (leads (landings Two instructions)) wrong.before wrong.guard wrong.after (subst (λ (some : List Instruction). list_all (leads (landings Two instructions)) some ≡ true) wrong.joined all) in
    let none = wrong.wrong in
    cc

no-entry-fault : (image : Image) (code : List ℕ) (entries : List (Option ℕ)) (instructions : List Instruction) → IsSound Two (counts_of image) code entries instructions → (begin at : ℕ) (fault : ImageFault) → EntryWrong Two instructions entries begin at fault → ⊥
no-entry-fault image code entries instructions sound begin at fault wrong =
    let lead = sound.entries_lead wrong.number wrong.inside in
    let none = wrong.wrong in
    cc

-- code has one list of instructions alone
one-code : (image : Image) (code : List ℕ) (instructions other : List Instruction) → IsCode Two (counts_of image) code instructions → IsCode Two (counts_of image) code other → other ≡ instructions
one-code image code instructions other is also =
    sym (only-code instructions other is.fits also.fits (sym is.whole ∙ also.whole))

-- sound code has no fault
pub sound-no-fault : (image : Image) (code : List ℕ) (entries : List (Option ℕ)) (instructions : List Instruction) → IsSound Two (counts_of image) code entries instructions → (begin table whole at : ℕ) (fault : ImageFault) → CodeWrong Two (counts_of image) code entries begin table whole at fault → ⊥
sound-no-fault image code entries instructions sound begin table whole at fault (AtStep wrong) =
    no-scan-fault image code instructions sound.is_code begin whole at fault wrong
sound-no-fault image code entries instructions sound begin table whole at fault (AtEnd other is wrong) =
    let same = one-code image code instructions other sound.is_code is in
    no-end-fault image code entries instructions sound begin at fault (subst (λ (all : List Instruction). EndWrong Two all entries begin at fault) same wrong)
sound-no-fault image code entries instructions sound begin table whole at fault (AtGuard other is ended wrong) =
    let same = one-code image code instructions other sound.is_code is in
    no-guard-fault instructions sound.guards begin at fault (subst (λ (all : List Instruction). GuardWrong Two all begin at fault) same wrong)
sound-no-fault image code entries instructions sound begin table whole at fault (AtEntry other is ended lead wrong) =
    let same = one-code image code instructions other sound.is_code is in
    no-entry-fault image code entries instructions sound table at fault (subst (λ (all : List Instruction). EntryWrong Two all entries table at fault) same wrong)
