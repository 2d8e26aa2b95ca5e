use Rattle.std.proofs.Common.{◌≡◌, ℕ, ◌+◌, ◌<◌, suc, zero, true, List, [], ◌∷◌, ◌++◌, length, take, get_or, arith, refl, ap, ◌∙◌}
use Rattle.std.proofs.lemmas.List.{length-append}
use Rattle.std.proofs.lemmas.List.Concat.{flat_map-append}
use Rattle.tab_asm.specs.Formats.{Instruction, octets_of, code_of}
use Rattle.tab_load.specs.Faults.{format_of}
use Rattle.tab_load.specs.Code.{instruction_of, instructions_of, is_end, IsEnded}
use Rattle.tab_load.specs.declared.counts.Format.{Format}
use Rattle.tab_load.specs.declared.instruction.CodeInstruction.{CodeInstruction}

-- instructions apart at the one of that number
pub split-at : (steps : List CodeInstruction) (i : ℕ) (d : CodeInstruction) → i < length steps → (after : List Instruction) × (instructions_of steps ≡ instructions_of (take i steps) ++ instruction_of (get_or steps i d) ∷ after)
split-at [] i d below = absurd (omega arith)
split-at (step ∷ steps) zero d below = (instructions_of steps, refl)
split-at (step ∷ steps) (suc i) d below =
    let rest = split-at steps i d (omega arith) in
    (rest.0, ap (λ (r : List Instruction). instruction_of step ∷ r) rest.1)

-- and at the last one
pub last-at : (steps : List CodeInstruction) (i : ℕ) (d : CodeInstruction) → i + 1 ≡ length steps → (before : List Instruction) × (instructions_of steps ≡ before ++ instruction_of (get_or steps i d) ∷ [])
last-at [] i d long = absurd (omega (arith, long))
last-at (step ∷ []) zero d long = ([], refl)
last-at (step ∷ []) (suc i) d long = absurd (omega (arith, long))
last-at (step ∷ next ∷ steps) zero d long = absurd (omega (arith, long))
last-at (step ∷ next ∷ steps) (suc i) d long =
    let rest = last-at (next ∷ steps) i d (omega (arith, long)) in
    (instruction_of step ∷ rest.0, ap (λ (r : List Instruction). instruction_of step ∷ r) rest.1)

-- instructions that end with an end
pub ended-at : (steps : List CodeInstruction) (i : ℕ) (d : CodeInstruction) → i + 1 ≡ length steps → is_end (instruction_of (get_or steps i d)) ≡ true → IsEnded (instructions_of steps)
ended-at [] i d long is = absurd (omega (arith, long))
ended-at (step ∷ []) zero d long is = is
ended-at (step ∷ []) (suc i) d long is = absurd (omega (arith, long))
ended-at (step ∷ next ∷ steps) zero d long is = absurd (omega (arith, long))
ended-at (step ∷ next ∷ steps) (suc i) d long is = ended-at (next ∷ steps) i d (omega (arith, long)) is

-- how many octets instructions have that come apart
pub code-length : (format : Format) (all before : List Instruction) (one : Instruction) (after : List Instruction) → all ≡ before ++ one ∷ after → length (code_of (format_of format) all) ≡ length (code_of (format_of format) before) + (length (octets_of (format_of format) one) + length (code_of (format_of format) after))
code-length format all before one after is =
    ap (λ (x : List Instruction). length (code_of (format_of format) x)) is
    ∙ ap length (flat_map-append (octets_of (format_of format)) before (one ∷ after))
    ∙ length-append (code_of (format_of format) before) (octets_of (format_of format) one ++ code_of (format_of format) after)
    ∙ ap (λ (n : ℕ). length (code_of (format_of format) before) + n) (length-append (octets_of (format_of format) one) (code_of (format_of format) after))
