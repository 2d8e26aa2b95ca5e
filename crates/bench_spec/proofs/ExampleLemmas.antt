-- The log of six entries is legal, whole.
use Rattle.std.proofs.Common.{◌≡◌, ◌≢◌, ◌≤◌, ℕ, List, [], ◌∷◌, Bool, true, false, Some, None, refl, sym, ◌∙◌, ap, subst}
use Rattle.std.proofs.Common.{arith}
use Rattle.std.specs.Prelude.{◌==◌, take, slice_index}
use Rattle.std.proofs.Math.Nat.{le-suc}
use Rattle.std.proofs.lemmas.Bool.{eqb-true, false≢true}
use Rattle.std.proofs.lemmas.List.{get_or-set_other}
use Rattle.base_codes.specs.DeedCodes.{coded}
use Rattle.tab_law.specs.Acts.{Allows, Permits, last_of}
use Rattle.tab_law.specs.declared.law.Atom.TheVariants.{Constant, NewRegister, Register}
use Rattle.tab_law.specs.declared.law.Change.{Change}
use Rattle.tab_law.specs.declared.law.Change.TheVariants.{Emit, Set}
use Rattle.tab_law.specs.declared.law.Term.TheVariants.{Just, Sum}
use Rattle.tab_law.specs.declared.scene.Scene.{Scene}
use Rattle.tab_step.specs.Moves.{scene_of}
use Rattle.bench_item.specs.declared.entry.Entry.{Entry}
use Rattle.bench_item.specs.Posts.{no_facts}
use Rattle.bench_item.specs.declared.item.Item.{Item}
use Rattle.bench_item.specs.declared.source.Source.{Source}
use Rattle.bench_item.specs.declared.source.Source.TheVariants.{Line, Shard, Desk, Clock}
use Rattle.bench_item.specs.declared.step.Step.TheVariants.{Drop, Lift, Told}
use Rattle.bench_spec.specs.ExampleLog.{after_work, armed_with, before_work, carried, log, move_by, peer_a, peer_table}
use Rattle.bench_spec.specs.ExampleLog.{regs_with, settings, told, worked_by}
use Rattle.bench_spec.specs.Items.{InOrder, IsCarried, IsFront, arrived, dropped, lifted, posts, worked}
use Rattle.bench_spec.specs.Legal.{IsLegal, IsMove, MayFollow}

-- nothing was lifted from a source
none_carried : (ps ls ds : List Item) → ls ≡ [] → ds ≡ [] → IsCarried ps ls ds
none_carried ps ls ds no_lift no_drop = record {
  lifted_front = (ps, rw no_lift refl);
  dropped_front = (ls, rw no_drop refl);
  one_between = rw (no_lift, no_drop) (le-suc 0);
}

-- a log in which only desk 0 and shard 0 lift and drop, and only shard 0 works
record OnlyZero (xs : List Entry) : Type 0 where
  desk : (d : ℕ) → (d == 0) ≡ false → (lifted xs (Desk d) ≡ []) × (dropped xs (Desk d) ≡ [])
  shard : (s : ℕ) → (s == 0) ≡ false → (lifted xs (Shard s) ≡ []) × (dropped xs (Shard s) ≡ [])
  work : (s : ℕ) → (0 == s) ≡ false → worked xs s ≡ []
  line : (l : ℕ) → (lifted xs (Line l) ≡ []) × (dropped xs (Line l) ≡ [])
  clock : (lifted xs Clock ≡ []) × (dropped xs Clock ≡ [])

desk_order : (xs : List Entry) → OnlyZero xs
    → IsCarried (posts settings xs (Desk 0)) (lifted xs (Desk 0)) (dropped xs (Desk 0)) → (d : ℕ) (b : Bool)
    → (d == 0) ≡ b → IsCarried (posts settings xs (Desk d)) (lifted xs (Desk d)) (dropped xs (Desk d))
desk_order xs only at_0 d true is =
    subst (λ n. IsCarried (posts settings xs (Desk n)) (lifted xs (Desk n)) (dropped xs (Desk n)))
    (sym (eqb-true d 0 is)) at_0
desk_order xs only at_0 d false is =
    none_carried (posts settings xs (Desk d)) (lifted xs (Desk d)) (dropped xs (Desk d)) (only.desk d is).0
    (only.desk d is).1

shard_order : (xs : List Entry) → OnlyZero xs
    → IsCarried (posts settings xs (Shard 0)) (lifted xs (Shard 0)) (dropped xs (Shard 0)) → (s : ℕ) (b : Bool)
    → (s == 0) ≡ b → IsCarried (posts settings xs (Shard s)) (lifted xs (Shard s)) (dropped xs (Shard s))
shard_order xs only at_0 s true is =
    subst (λ n. IsCarried (posts settings xs (Shard n)) (lifted xs (Shard n)) (dropped xs (Shard n)))
    (sym (eqb-true s 0 is)) at_0
shard_order xs only at_0 s false is =
    none_carried (posts settings xs (Shard s)) (lifted xs (Shard s)) (dropped xs (Shard s)) (only.shard s is).0
    (only.shard s is).1

work_order : (xs : List Entry) → OnlyZero xs → IsFront (worked xs 0) (arrived settings.node xs 0) → (s : ℕ) (b : Bool)
    → (0 == s) ≡ b → IsFront (worked xs s) (arrived settings.node xs s)
work_order xs only at_0 s true is =
    subst (λ n. IsFront (worked xs n) (arrived settings.node xs n)) (eqb-true 0 s is) at_0
work_order xs only at_0 s false is = (arrived settings.node xs s, rw (only.work s is) refl)

in_order : (xs : List Entry) → OnlyZero xs
    → IsCarried (posts settings xs (Desk 0)) (lifted xs (Desk 0)) (dropped xs (Desk 0))
    → IsCarried (posts settings xs (Shard 0)) (lifted xs (Shard 0)) (dropped xs (Shard 0))
    → IsFront (worked xs 0) (arrived settings.node xs 0) → InOrder settings xs
in_order xs only desk shard work = record {
  sources = each;
  shards = λ s. work_order xs only work s (0 == s) refl;
}
  where
    each : (source : Source) → IsCarried (posts settings xs source) (lifted xs source) (dropped xs source)
    each (Line l) =
        none_carried (posts settings xs (Line l)) (lifted xs (Line l)) (dropped xs (Line l)) (only.line l).0
        (only.line l).1
    each (Shard s) = shard_order xs only shard s (s == 0) refl
    each (Desk d) = desk_order xs only desk d (d == 0) refl
    each Clock = none_carried (posts settings xs Clock) (lifted xs Clock) (dropped xs Clock) only.clock.0 only.clock.1

-- the whole log is such a one, and each front of it
only_1 : OnlyZero (take 1 log)
only_1 =
    record {
      desk = λ d h. (refl, refl);
      shard = λ s h. (refl, refl);
      work = λ s h. refl;
      line = λ l. (refl, refl);
      clock = (refl, refl);
    }

only_2 : OnlyZero (take 2 log)
only_2 =
    record {
      desk = λ d h. (rw h refl, refl);
      shard = λ s h. (refl, refl);
      work = λ s h. refl;
      line = λ l. (refl, refl);
      clock = (refl, refl);
    }

only_3 : OnlyZero (take 3 log)
only_3 =
    record {
      desk = λ d h. (rw h refl, rw h refl);
      shard = λ s h. (refl, refl);
      work = λ s h. refl;
      line =
          λ l. (refl, refl);
      clock = (refl, refl);
    }

only_4 : OnlyZero (take 4 log)
only_4 =
    record {
      desk = λ d h. (rw h refl, rw h refl);
      shard = λ s h. (refl, refl);
      work = λ s h. rw h refl;
      line =
          λ l. (refl, refl);
      clock = (refl, refl);
    }

only_5 : OnlyZero (take 5 log)
only_5 =
    record {
      desk = λ d h. (rw h refl, rw h refl);
      shard = λ s h. (rw h refl, refl);
      work = λ s h. rw h refl;
      line =
          λ l. (refl, refl);
      clock = (refl, refl);
    }

only_6 : OnlyZero log
only_6 =
    record {
      desk = λ d h. (rw h refl, rw h refl);
      shard = λ s h. (rw h refl, rw h refl);
      work = λ s h. rw h refl;
      line = λ l. (refl, refl);
      clock = (refl, refl);
    }

-- the action's law permits what it left: register 15 one greater, the others as they were
abbrev arm_law : List Change
arm_law = Set 15 (Sum (Register 15) (Constant 1)) ∷ Emit 8 (Just (NewRegister 15) ∷ Just (Constant 30) ∷ []) ∷ []

abbrev scene : Scene
scene = scene_of (regs_with 0) no_facts

others : (register : ℕ) → (15 == register) ≡ false
    → slice_index (regs_with 1) register ≡ slice_index (regs_with 0) register
others register apart =
    let differ : register ≢ 15 = λ e. false≢true (sym apart ∙ ap (λ n. 15 == n) e) in
    get_or-set_other no_facts 15 register 1 0 differ ∙ sym (get_or-set_other no_facts 15 register 0 0 differ)

allowed : (register : ℕ) (b : Bool) → (15 == register) ≡ b
    → Allows scene (last_of register arm_law) (slice_index (regs_with 0) register) (slice_index (regs_with 1) register)
allowed register true is =
    subst (λ n. Allows scene (last_of n arm_law) (slice_index (regs_with 0) n) (slice_index (regs_with 1) n))
    (eqb-true 15 register is) refl
allowed register false is = rw is (others register is)

permitted : Permits arm_law scene (regs_with 1) (move_by 0 30).deeds
permitted = record { registers = λ register within. allowed register (15 == register) refl; emits = refl }

move : IsMove settings.node.laws peer_table (move_by 0 30)
move = record {
  row = refl;
  moves = record { state = refl; runs = ((move_by 0 30).deeds, [], permitted, refl, refl); regs = refl };
}

-- each entry may follow those before it
follows_1 : MayFollow settings [] (carried (Told 0 peer_a (record { kind = 0; facts = no_facts })) None)
follows_1 = record {
  could = refl;
  parts = (refl, refl);
  order = in_order (take 1 log) only_1
      (record { lifted_front = (told ∷ [], refl); dropped_front = ([], refl); one_between = le-suc 0 })
      (record { lifted_front = ([], refl); dropped_front = ([], refl); one_between = le-suc 0 })
      ([], refl);
}

follows_2 : MayFollow settings (take 1 log) (carried (Lift (Desk 0)) (Some told))
follows_2 = record {
  could = refl;
  parts = (refl, refl);
  order = in_order (take 2 log) only_2
      (record { lifted_front = ([], refl); dropped_front = (told ∷ [], refl); one_between = at_most_one })
      (record { lifted_front = ([], refl); dropped_front = ([], refl); one_between = le-suc 0 })
      ([], refl);
}
  where
    at_most_one : 1 ≤ 1
    at_most_one = omega arith

follows_3 : MayFollow settings (take 2 log) (carried (Drop (Desk 0)) (Some told))
follows_3 = record {
  could = refl;
  parts = (refl, refl);
  order = in_order (take 3 log) only_3
      (record { lifted_front = ([], refl); dropped_front = ([], refl); one_between = le-suc 1 })
      (record { lifted_front = ([], refl); dropped_front = ([], refl); one_between = le-suc 0 })
      (arrived settings.node (take 3 log) 0, refl);
}

follows_4 : MayFollow settings before_work (worked_by 30)
unfolding coded
follows_4 = record {
  could = refl;
  parts = (refl, refl, record { machine = refl; before = refl; event = refl; move = move; outcomes = refl });
  order = in_order after_work only_4
      (record { lifted_front = ([], refl); dropped_front = ([], refl); one_between = le-suc 1 })
      (record { lifted_front = (armed_with 1 ∷ [], refl); dropped_front = ([], refl); one_between = le-suc 0 })
      ([], refl);
}

follows_5 : MayFollow settings after_work (carried (Lift (Shard 0)) (Some (armed_with 1)))
unfolding coded
follows_5 = record {
  could = refl;
  parts = (refl, refl);
  order = in_order (take 5 log) only_5
      (record { lifted_front = ([], refl); dropped_front = ([], refl); one_between = le-suc 1 })
      (record { lifted_front = ([], refl); dropped_front = (armed_with 1 ∷ [], refl); one_between = at_most_one })
      ([], refl);
}
  where
    at_most_one : 1 ≤ 1
    at_most_one = omega arith

follows_6 : MayFollow settings (take 5 log) (carried (Drop (Shard 0)) (Some (armed_with 1)))
unfolding coded
follows_6 = record {
  could = refl;
  parts = (refl, refl);
  order = in_order log only_6
      (record { lifted_front = ([], refl); dropped_front = ([], refl); one_between = le-suc 1 })
      (record { lifted_front = ([], refl); dropped_front = ([], refl); one_between = le-suc 1 })
      ([], refl);
}

pub is_legal : IsLegal settings log
is_legal = (follows_1, (follows_2, (follows_3, (follows_4, (follows_5, (follows_6, tt))))))
