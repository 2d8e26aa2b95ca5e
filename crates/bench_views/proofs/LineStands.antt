-- Where the lines of a log stand, what they sent and what they put out.
use Rattle.std.proofs.Common.{◌≡◌, ◌+◌, ◌-◌, ◌<◌, ℕ, zero, suc, List, [], ◌∷◌, length, Bool, true, false, Option, Some, None, refl, ◌∙◌, ap, subst, arith}
use Rattle.std.specs.Prelude.{◌==◌, option_map, slice_get, if◌then◌else◌}
use Rattle.std.specs.Option.{option_map_or}
use Rattle.bench_item.specs.declared.entry.Entry.{Entry}
use Rattle.bench_item.specs.declared.opening.Opening.{Opening}
use Rattle.bench_item.specs.Lines.{LineStep, sent_of, state_of}
use Rattle.bench_line.specs.Line.{LineView, Stands}
use Rattle.bench_line.specs.Lines.{Past, AreLinesAfter, StandFrom, line_at, sent_on, state_on}
use Rattle.bench_line.specs.Talk.{Meaning, posts_of, rules_of}
use Rattle.bench_spec.specs.Lines as lines
use Rattle.bench_spec.specs.Lines.{line_steps, opening_of}
use Rattle.bench_views.specs.LinePasts.{StandsAt, line_posts_by, line_sent_by, line_state_by, outbox_on, past_in, past_of, pasts_by, pasts_of}
use Rattle.bench_views.proofs.LinePasts.{length-pasts_of, not_zero}

-- lines that stand for a log: as many as were opened
length-stands : (m : Meaning) (first : ℕ) (ls : List LineView) (pasts : List Past) → StandFrom m first ls pasts
    → length ls ≡ length pasts
length-stands m first [] [] s = refl
length-stands m first [] (past ∷ pasts) s = elim s [ ]
length-stands m first (l ∷ ls) [] s = elim s [ ]
length-stands m first (l ∷ ls) (past ∷ pasts) s = omega (arith, length-stands m (first + 1) ls pasts s.1)

pub length_lines : (m : Meaning) (ls : List LineView) (log : List Entry) → AreLinesAfter m ls (pasts_of log)
    → length ls ≡ length (lines.openings log)
length_lines m ls log s =
    length-stands m 1 ls (pasts_of log) s.each ∙ length-pasts_of log

-- each line stands for what happened to it
stands_from : (m : Meaning) (first place line : ℕ) (ls : List LineView) (pasts : List Past) → line ≡ first + place
    → StandFrom m first ls pasts → StandsAt m line (slice_get ls place) (slice_get pasts place)
stands_from m first place line [] [] number s = tt
stands_from m first place line [] (past ∷ pasts) number s = elim s [ ]
stands_from m first place line (l ∷ ls) [] number s = elim s [ ]
stands_from m first zero line (l ∷ ls) (past ∷ pasts) number s =
    subst (λ n. Stands m n l past.opening past.happened) (omega (arith, number)) s.0
stands_from m first (suc place) line (l ∷ ls) (past ∷ pasts) number s =
    stands_from m (first + 1) place line ls pasts (omega (arith, number)) s.1

get-pasts_by : (happened : ℕ → List LineStep) (first place line : ℕ) (os : List Opening) → line ≡ first + place
    → slice_get (pasts_by happened first os) place ≡ option_map (λ o. past_of o (happened line)) (slice_get os place)
get-pasts_by happened first place line [] number = refl
get-pasts_by happened first zero line (o ∷ os) number = ap (λ n. Some (past_of o (happened n))) (omega (arith, number))
get-pasts_by happened first (suc place) line (o ∷ os) number =
    get-pasts_by happened (first + 1) place line os (omega (arith, number))

pub stands_at : (m : Meaning) (ls : List LineView) (log : List Entry) (line : ℕ) → AreLinesAfter m ls (pasts_of log)
    → StandsAt m line (line_at ls line) (past_in log line)
stands_at m ls log line s = by (line == 0) refl
  where
    past : Opening → Past
    past opening = past_of opening (line_steps log line)

    by : (b : Bool) → (line == 0) ≡ b
        → StandsAt m line (if b then None else slice_get ls (line - 1))
        (option_map past (if b then None else slice_get (lines.openings log) (line - 1)))
    by true is = tt
    by false is =
        let some : 0 < line = not_zero line is in
        let number : line ≡ 1 + (line - 1) = omega (arith, some) in
        subst (StandsAt m line (slice_get ls (line - 1)))
        (get-pasts_by (line_steps log) 1 (line - 1) line (lines.openings log) number)
        (stands_from m 1 (line - 1) line ls (pasts_of log) number s.each)

-- where it stands
state_by : (m : Meaning) (line : ℕ) (steps : List LineStep) (l : Option LineView) (o : Option Opening)
    → StandsAt m line l (option_map (λ x. past_of x steps) o)
    → option_map (λ v. v.state) l ≡ option_map (λ x. state_of (rules_of m line) x steps) o
state_by m line steps None None s = refl
state_by m line steps None (Some o) s = elim s [ ]
state_by m line steps (Some l) None s = elim s [ ]
state_by m line steps (Some l) (Some o) s = ap Some s.state

pub state_on-stands : (m : Meaning) (ls : List LineView) (log : List Entry) (line : ℕ) → AreLinesAfter m ls (pasts_of log)
    → state_on ls line ≡ line_state_by m log line
state_on-stands m ls log line s =
    state_by m line (line_steps log line) (line_at ls line) (opening_of log line) (stands_at m ls log line s)

-- what it sent
sent_by : (m : Meaning) (line : ℕ) (steps : List LineStep) (l : Option LineView) (o : Option Opening)
    → StandsAt m line l (option_map (λ x. past_of x steps) o)
    → option_map_or (λ v. v.sent) l [] ≡ option_map_or (λ x. sent_of (rules_of m line) m.octets_of x steps) o []
sent_by m line steps None None s = refl
sent_by m line steps None (Some o) s = elim s [ ]
sent_by m line steps (Some l) None s = elim s [ ]
sent_by m line steps (Some l) (Some o) s = s.sent

pub sent_on-stands : (m : Meaning) (ls : List LineView) (log : List Entry) (line : ℕ) → AreLinesAfter m ls (pasts_of log)
    → sent_on ls line ≡ line_sent_by m log line
sent_on-stands m ls log line s =
    sent_by m line (line_steps log line) (line_at ls line) (opening_of log line) (stands_at m ls log line s)

-- what it put out
put_out_by : (m : Meaning) (line : ℕ) (steps : List LineStep) (l : Option LineView) (o : Option Opening)
    → StandsAt m line l (option_map (λ x. past_of x steps) o)
    → option_map_or (λ v. v.outbox) l [] ≡ option_map_or (λ x. posts_of m line x steps) o []
put_out_by m line steps None None s = refl
put_out_by m line steps None (Some o) s = elim s [ ]
put_out_by m line steps (Some l) None s = elim s [ ]
put_out_by m line steps (Some l) (Some o) s = s.outbox

pub outbox_on-stands : (m : Meaning) (ls : List LineView) (log : List Entry) (line : ℕ) → AreLinesAfter m ls (pasts_of log)
    → outbox_on ls line ≡ line_posts_by m log line
outbox_on-stands m ls log line s =
    put_out_by m line (line_steps log line) (line_at ls line) (opening_of log line) (stands_at m ls log line s)
