-- Entries were added, or there was nothing to do, at one place after the other.
use Rattle.std.proofs.Common.{◌≡◌, ◌≢◌, ◌<◌, ◌≤◌, ◌+◌, ◌∙◌, ◌||◌, ◌==◌, ℕ, Bool, true, false, Option, None, Some, Result, Ok, Err, IfErr, IfOk, OnErr, OnOk}
use Rattle.std.proofs.Common.{ap, arith, is_none, length, refl, subst, sym, unwrap_or}
use Rattle.std.proofs.lemmas.Bool.Decides.{nat_tests}
use Rattle.std.specs.declared.alloc.AllocError.{AllocError}
use Rattle.bench_item.specs.declared.source.Source.{Source}
use Rattle.bench_item.specs.declared.source.Source.TheVariants as of
use Rattle.bench_item.specs.declared.step.Step.{Step}
use Rattle.bench_item.specs.declared.step.Step.TheVariants as steps
use Rattle.bench_item.specs.declared.step.StepFault.{StepFault}
use Rattle.bench_item.specs.declared.step.StepFault.TheVariants.{NoMemory}
use Rattle.bench_node.specs.declared.node.TheConstants.{LINE_PLACES}
use Rattle.bench_spec.specs.Lines.{openings}
use Rattle.bench_spec.specs.Refusal.{refusal}
use Rattle.bench_spec.specs.Taken.{Run, Takes, fault_of}
use Rattle.bench_node.specs.Settled.{AreDesksStill, AreIdle, AreLinesStill, AreOthersStill, AreShardsStill, CanBe, IsRefused, IsSettled, IsStill, Says, Took, Went}
use Rattle.bench_node.specs.Timed.{Sets}
use Rattle.tick_wheel.specs.Timers.{Timers}
use Rattle.bench_node.proofs.GoingLemmas.{takes_grow}

-- what is refused for another reason than want of memory is refused
refused_for : (run : Run) (step : Step) (r : Option StepFault) (fault : StepFault) → refusal run.settings run.log run.paused step ≡ r
    → fault ≡ unwrap_or r NoMemory → fault ≢ NoMemory → IsRefused run step
refused_for run step None fault from is other = absurd (other is)
refused_for run step (Some reason) fault from is other = record { fault = reason; is = from }

-- a step was taken, or refused
pub took_by : (r : Result (Unit {0}) StepFault) (a : Result Bool AllocError) (old new : Run) (step : Step) → OnOk r (a ≡ Ok true)
    → IfErr r (λ fault. IfOk a (λ went. (went ≡ false) × (fault ≢ NoMemory))) → OnOk r (Takes old new step)
    → IfErr r (λ fault. fault ≡ fault_of old step) → OnErr r (new ≡ old) → IfOk a (λ went. Took step went old new)
took_by (Ok _) a old new step sure but taken fault kept =
    subst (λ (b : Result Bool AllocError). IfOk b (λ went. Took step went old new)) (sym sure) taken
took_by (Err f) (Err e) old new step sure but taken fault kept = tt
took_by (Err f) (Ok went) old new step sure but taken fault kept =
    let refused : IsRefused old step = refused_for old step (refusal old.settings old.log old.paused step) f refl fault but.1 in
    subst (λ (b : Bool). Took step b old new) (sym but.0) (kept, subst (λ (run : Run). IsRefused run step) (sym kept) refused)

-- what can be taken is taken
not_both : (run : Run) (step : Step) → CanBe true run step → IsRefused run step → ⊥
not_both run step could refused =
    let clash : None ≡ Some refused.fault = sym could ∙ refused.is in
    absurd cc

-- timers that were made another way where a step could be taken, and then it was
pub sets_taken : (r : Result Bool AllocError) (old new : Run) (step : Step) (t made u : Timers) → CanBe true old step
    → IfOk r (λ went. Took step went old new) → u ≡ made → IfOk r (λ went. Sets went t made u)
sets_taken (Ok true) old new step t made u could took is = is
sets_taken (Ok false) old new step t made u could took is =
    absurd (not_both old step could (subst (λ (run : Run). IsRefused run step) took.0 took.1))
sets_taken (Err e) old new step t made u could took is = tt

-- what a look at its reasons tells
pub can_be : (run : Run) (step : Step) (r : Option StepFault) → refusal run.settings run.log run.paused step ≡ r → CanBe (is_none r) run step
can_be run step None is = is
can_be run step (Some fault) is = record { fault = fault; is = is }

-- and then an entry was added, or it is refused
pub took_went : (step : Step) (went : Bool) (old new : Run) → Took step went old new → Went (λ run. IsRefused run step) went old new
took_went step true old new taken = takes_grow old new step taken
took_went step false old new kept = kept

pub went_by : (r : Result Bool AllocError) (old new : Run) (step : Step) → IfOk r (λ went. Took step went old new)
    → IfOk r (λ went. Went (λ run. IsRefused run step) went old new)
went_by (Ok went) old new step took = took_went step went old new took
went_by (Err e) old new step took = tt

-- a drop and then a lift
pub still_by : (source : Source) (went : Bool) (a b c : Run) → Took (steps.Drop source) false a b → Took (steps.Lift source) went b c → Went (IsStill source) went a c
still_by source true a b c drop lift = subst (λ (run : Run). length run.log < length c.log) drop.0 (takes_grow b c (steps.Lift source) lift)
still_by source false a b c drop lift =
    (lift.0 ∙ drop.0, record { drops_none = subst (λ (run : Run). IsRefused run (steps.Drop source)) (sym lift.0) drop.1; lifts_none = lift.1 })

-- at one place, and then at another
pub went_more : (P Q R : Run → Type 0) (m n : Bool) (a b c : Run) → Went P m a b → Went Q n b c → ((run : Run) → P run → Q run → R run) → Went R (m || n) a c
went_more P Q R true true a b c first then both = omega (arith, first, then)
went_more P Q R true false a b c first then both = let same : length c.log ≡ length b.log = ap (λ (run : Run). length run.log) then.0 in omega (arith, first, same)
went_more P Q R false true a b c first then both = let same : length b.log ≡ length a.log = ap (λ (run : Run). length run.log) first.0 in omega (arith, same, then)
went_more P Q R false false a b c first then both = (then.0 ∙ first.0, both c (subst P (sym then.0) first.1) then.1)

-- and the same where it is told in another way whether there was something
pub went_is : (P : Run → Type 0) (m n : Bool) (a b : Run) → n ≡ m → Went P m a b → Went P n a b
went_is P m n a b is went = subst (λ (k : Bool). Went P k a b) (sym is) went

-- as many as there are
pub went_all : (P : ℕ → Run → Type 0) (size : Run → ℕ) (count : ℕ) (went : Bool) (a b : Run) → count ≡ size b → Went (P count) went a b
    → Went (λ run. P (size run) run) went a b
went_all P size count true a b is went = went
went_all P size count false a b is went = (went.0, subst (λ (n : ℕ). P n b) is went.1)

-- what holds of the numbers below one, and of that one, holds of those below the next
next_below : (P : ℕ → Type 0) (count : ℕ) → ((n : ℕ) → n < count → P n) → P count → (n : ℕ) → n < count + 1 → P n
next_below P count below at n within = by (n == count) refl
  where
    by : (b : Bool) → (n == count) ≡ b → P n
    by true is =
        let same : n ≡ count = grind (arith, nat_tests, is) in
        subst P (sym same) at
    by false is =
        let less : n < count = grind (arith, nat_tests, is, within) in
        below n less

pub next_desk : (count : ℕ) (run : Run) → AreDesksStill count run → IsStill (of.Desk count) run → AreDesksStill (count + 1) run
next_desk count run below at = next_below (λ (n : ℕ). IsStill (of.Desk n) run) count below at

pub next_shard : (count : ℕ) (run : Run) → AreShardsStill count run → IsStill (of.Shard count) run → AreShardsStill (count + 1) run
next_shard count run below at = next_below (λ (n : ℕ). IsStill (of.Shard n) run) count below at

pub next_idle : (count : ℕ) (run : Run) → AreIdle count run → IsRefused run (steps.Work count) → AreIdle (count + 1) run
next_idle count run below at = next_below (λ (n : ℕ). IsRefused run (steps.Work n)) count below at

pub next_line : (count : ℕ) (run : Run) → AreLinesStill count run → IsStill (of.Line count) run → AreLinesStill (count + 1) run
next_line count run below at =
    λ line some within opened. next_below (λ (n : ℕ). 0 < n → n ≤ length (openings run.log) → IsStill (of.Line n) run) count
    (λ n less positive there. below n positive less there) (λ positive there. at) line within some opened

-- and so for each place of a loop
pub lines_more : (count : ℕ) (m n k : Bool) (a b c : Run) → k ≡ (m || n) → Went (AreLinesStill count) m a b → Went (IsStill (of.Line count)) n b c → Went (AreLinesStill (count + 1)) k a c
lines_more count m n k a b c is first then =
    went_is (AreLinesStill (count + 1)) (m || n) k a c is (went_more (AreLinesStill count) (IsStill (of.Line count)) (AreLinesStill (count + 1)) m n a b c first then (next_line count))

pub desks_more : (count : ℕ) (m n k : Bool) (a b c : Run) → k ≡ (m || n) → Went (AreDesksStill count) m a b → Went (IsStill (of.Desk count)) n b c → Went (AreDesksStill (count + 1)) k a c
desks_more count m n k a b c is first then =
    went_is (AreDesksStill (count + 1)) (m || n) k a c is (went_more (AreDesksStill count) (IsStill (of.Desk count)) (AreDesksStill (count + 1)) m n a b c first then (next_desk count))

pub shards_more : (count : ℕ) (m n k : Bool) (a b c : Run) → k ≡ (m || n) → Went (AreShardsStill count) m a b → Went (IsStill (of.Shard count)) n b c → Went (AreShardsStill (count + 1)) k a c
shards_more count m n k a b c is first then =
    went_is (AreShardsStill (count + 1)) (m || n) k a c is (went_more (AreShardsStill count) (IsStill (of.Shard count)) (AreShardsStill (count + 1)) m n a b c first then (next_shard count))

pub works_more : (count : ℕ) (m n k : Bool) (a b c : Run) → k ≡ (m || n) → Went (AreIdle count) m a b → Went (λ run. IsRefused run (steps.Work count)) n b c → Went (AreIdle (count + 1)) k a c
works_more count m n k a b c is first then =
    went_is (AreIdle (count + 1)) (m || n) k a c is (went_more (AreIdle count) (λ run. IsRefused run (steps.Work count)) (AreIdle (count + 1)) m n a b c first then (next_idle count))

-- none is before the first
pub no_lines : (run : Run) → AreLinesStill 1 run
no_lines run = λ line some within opened. absurd (omega (arith, some, within))

pub no_desks : (run : Run) → AreDesksStill 0 run
no_desks run = λ desk within. absurd (omega (arith, within))

pub no_shards : (run : Run) → AreShardsStill 0 run
no_shards run = λ shard within. absurd (omega (arith, within))

pub no_works : (run : Run) → AreIdle 0 run
no_works run = λ shard within. absurd (omega (arith, within))

-- no connection was opened behind those that were looked at
pub all_lines : (count : ℕ) (run : Run) → length (openings run.log) < count → AreLinesStill count run → AreLinesStill LINE_PLACES run
all_lines count run few below = λ line some within opened. below line some (omega (arith, few, opened)) opened

-- of a pass that added nothing, and of those before it
pub says_more : (P : Run → Type 0) (m : Bool) (a b c : Run) → Says m a b → Went P true b c → Says true a c
says_more P true a b c first then = omega (arith, first, then)
says_more P false a b c first then = let same : length b.log ≡ length a.log = ap (λ (run : Run). length run.log) first in omega (arith, same, then)

pub says_same : (m : Bool) (a b c : Run) → Says m a b → c ≡ b → Says m a c
says_same m a b c says same = subst (λ (run : Run). Says m a run) (sym same) says

-- at some connections, and then at another
pub says_on : (P : Run → Type 0) (m n k : Bool) (a b c : Run) → k ≡ (m || n) → Says m a b → Went P n b c → Says k a c
says_on P true true k a b c is first then = subst (λ (x : Bool). Says x a c) (sym is) (omega (arith, first, then))
says_on P true false k a b c is first then =
    let same : length c.log ≡ length b.log = ap (λ (run : Run). length run.log) then.0 in
    subst (λ (x : Bool). Says x a c) (sym is) (omega (arith, first, same))
says_on P false true k a b c is first then =
    let same : length b.log ≡ length a.log = ap (λ (run : Run). length run.log) first in
    subst (λ (x : Bool). Says x a c) (sym is) (omega (arith, same, then))
says_on P false false k a b c is first then = subst (λ (x : Bool). Says x a c) (sym is) (then.0 ∙ first)

-- at the connections where something happened, and then at the other places in turn
pub others_by : (v w x y z k : Bool) (a b c d e f : Run) → k ≡ ((((v || w) || x) || y) || z) → Says v a b → Went (IsStill of.Clock) w b c
    → Went (λ run. AreDesksStill run.settings.desks run) x c d → Went (λ run. AreShardsStill run.settings.node.shards run) y d e
    → Went (λ run. AreIdle run.settings.node.shards run) z e f → Went AreOthersStill k a f
others_by v w x y z k a b c d e f is lines clock desks shards idle =
    let none : Went (λ run. Unit {0}) v a b = by v lines in
    let two = went_more (λ run. Unit {0}) (IsStill of.Clock) (IsStill of.Clock) v w a b c none clock (λ run _ still. still) in
    let three = went_more (IsStill of.Clock) (λ run. AreDesksStill run.settings.desks run) (λ run. IsStill of.Clock run × AreDesksStill run.settings.desks run) (v || w) x a c d two desks (λ run p q. (p, q)) in
    let four = went_more (λ run. IsStill of.Clock run × AreDesksStill run.settings.desks run) (λ run. AreShardsStill run.settings.node.shards run)
    (λ run. (IsStill of.Clock run × AreDesksStill run.settings.desks run) × AreShardsStill run.settings.node.shards run) ((v || w) || x) y a d e three shards (λ run p q. (p, q)) in
    went_is AreOthersStill ((((v || w) || x) || y) || z) k a f is
    (went_more (λ run. (IsStill of.Clock run × AreDesksStill run.settings.desks run) × AreShardsStill run.settings.node.shards run) (λ run. AreIdle run.settings.node.shards run)
    AreOthersStill (((v || w) || x) || y) z a e f four idle (λ run p q. record { clock = p.0.0; desks = p.0.1; shards = p.1; idle = q }))
  where
    by : (m : Bool) → Says m a b → Went (λ run. Unit {0}) m a b
    by true says = says
    by false says = (says, tt)

-- at the other places, and then at all connections
pub round_by : (r : Result Bool AllocError) (old mid new : Run) → Went AreOthersStill false old mid → IfOk r (λ went. Went (AreLinesStill LINE_PLACES) went mid new)
    → IfOk r (λ went. Went IsSettled went old new)
round_by (Ok true) old mid new others lines = subst (λ (run : Run). length run.log < length new.log) others.0 lines
round_by (Ok false) old mid new others lines =
    (lines.0 ∙ others.0, record { lines = lines.1; others = subst (λ (run : Run). AreOthersStill run) (sym lines.0) others.1 })
round_by (Err e) old mid new others lines = tt

-- before the first place nothing went
pub none_went : (P : Run → Type 0) (a : Run) → P a → Went P false a a
none_went P a holds = (refl, holds)
