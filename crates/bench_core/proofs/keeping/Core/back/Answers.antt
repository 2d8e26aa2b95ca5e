use Rattle.std.proofs.Common.{◌≡◌, ◌-◌, ◌∙◌, ap, arith, refl, subst, sym, take}
use Rattle.std.specs.Prelude.{map}
use Rattle.std.proofs.lemmas.List.{with_items_is}
use Rattle.std.specs.Vec.{with_items}
use Rattle.bench_spec.specs.Taken.{GoesBackTo}
use Rattle.bench_carry.specs.Parts.{MayUndo, numbers_of}
use Rattle.bench_carry.specs.Undone.{undone}
use Rattle.bench_core.specs.Inside.{run_in, settings_in, stored_in}
use Rattle.bench_core.specs.declared.keeping.Core.TheInside.{Inside}
use Rattle.bench_core.proofs.BackLemmas.{IsBack, goes-to, last-may, last-placed, parts-read, settings-back, sound-back}
use Rattle.bench_core.proofs.keeping.Core.back.Goals as goal

-- the world before the last step
abbrev before : (c : goal.After-truncate) → Inside
before c = record c.self.inside {
  shards = with_items c.self.inside.shards c.undo_at.new.shards;
  outboxes = with_items c.self.inside.outboxes c.undo_at.new.outboxes;
  lines = c.undo_at.new.lines;
  carried = c.undo_at.new.carried;
  pages = with_items c.self.inside.pages c.undo_at.new.pages;
  wheel = c.undo_at.new.wheel;
  log = c.truncate.new.self;
  undo = c.pop.new.self;
}

pub undo_at-requires-clause-placed : goal.undo_at-requires-clause-placed
undo_at-requires-clause-placed c =
    let w = c.self.inside in
    last-placed w.wheel c.pop.new.self.records w.undo.records c.in-Some.undo c.in-Some.ensures.last c.self.invariant.placed

pub undo_at-requires-clause-booked : goal.undo_at-requires-clause-booked
undo_at-requires-clause-booked c =
    let w = c.self.inside in
    subst (MayUndo c.in-Some.undo)
    (sym (parts-read c.deref_mut.result.now w.shards.items c.deref_mut-2.result.now w.outboxes.items w.lines.lines w.carried.items
    c.deref_mut-3.result.now w.pages.items w.wheel c.deref_mut.ensures.value c.deref_mut-2.ensures.value c.deref_mut-3.ensures.value))
    (last-may (settings_in w) c.pop.new.self.records w.undo.records c.in-Some.undo w.log.entries (stored_in w) c.self.invariant.whole
    c.in-Some.ensures.last)

-- what was lent comes back as long as it was
shards_are : (c : goal.After-truncate) → (before c).shards.items ≡ c.undo_at.new.shards
shards_are c = with_items_is c.self.inside.shards c.undo_at.new.shards (omega arith)

outboxes_are : (c : goal.After-truncate) → (before c).outboxes.items ≡ c.undo_at.new.outboxes
outboxes_are c = with_items_is c.self.inside.outboxes c.undo_at.new.outboxes (omega arith)

pages_are : (c : goal.After-truncate) → (before c).pages.items ≡ c.undo_at.new.pages
pages_are c = with_items_is c.self.inside.pages c.undo_at.new.pages (omega arith)

is_back : (c : goal.After-truncate) → IsBack c.self.inside (before c) c.in-Some.undo
is_back c =
    let w = c.self.inside in
    record {
      settings = settings-back w (before c) refl refl refl refl c.undo_at.ensures.rules;
      records = c.in-Some.ensures.last;
      log =
          ap (λ l. l.entries) c.truncate.ensures
          ∙ ap (λ n. take n w.log.entries) (c.saturating_sub-len.ensures ∙ ap (λ n. n - 1) c.len.ensures.count);
      parts =
          parts-read (before c).shards.items c.undo_at.new.shards (before c).outboxes.items c.undo_at.new.outboxes c.undo_at.new.lines.lines
          c.undo_at.new.carried.items (before c).pages.items c.undo_at.new.pages c.undo_at.new.wheel (shards_are c) (outboxes_are c) (pages_are c)
          ∙ c.undo_at.ensures.undone
          ∙ ap (undone c.in-Some.undo)
          (parts-read c.deref_mut.result.now w.shards.items c.deref_mut-2.result.now w.outboxes.items w.lines.lines w.carried.items
          c.deref_mut-3.result.now w.pages.items w.wheel c.deref_mut.ensures.value c.deref_mut-2.ensures.value c.deref_mut-3.ensures.value);
      rules = c.undo_at.ensures.rules;
      page_count = refl;
      numbers = ap numbers_of (pages_are c) ∙ c.undo_at.ensures.numbers ∙ ap numbers_of c.deref_mut-3.ensures.value;
      places = c.undo_at.ensures.places;
      paused =
          ap (λ vs. map (λ v. v.paused) vs) (shards_are c) ∙ c.undo_at.ensures.paused
          ∙ ap (λ vs. map (λ v. v.paused) vs) c.deref_mut.ensures.value;
    }

pub invariant_of-self-2 : goal.invariant_of-self-2
invariant_of-self-2 c = sound-back c.self.inside (before c) c.in-Some.undo c.self.invariant (is_back c)

pub returns-clause-ok : goal.returns-clause-ok
returns-clause-ok c taken =
    subst (λ run. GoesBackTo run (run_in (before c))) c.self.view_is
    (goes-to c.self.inside (before c) c.in-Some.undo c.self.invariant (is_back c))
