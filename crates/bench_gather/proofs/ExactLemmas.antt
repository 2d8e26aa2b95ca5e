-- Gathering is exact: Ok where the parts are merged to a legal log, and Disagree where they are not.
use Rattle.std.proofs.Common.{◌≡◌, ◌∙◌, ℕ, List, [], true, ap, subst, sym, map, inl, inr}
use Rattle.std.specs.Prelude.{filter}
use Rattle.bench_item.specs.declared.entry.Entry.{Entry}
use Rattle.bench_item.specs.declared.source.Source.TheVariants.{Desk}
use Rattle.bench_merge.specs.Order.{IsOrder}
use Rattle.bench_merge.specs.declared.merging.Placed.{Placed}
use Rattle.bench_spec.specs.Booked.{booked}
use Rattle.bench_spec.specs.Desks.{IsLongest}
use Rattle.bench_spec.specs.Items.{hand, outbox}
use Rattle.bench_spec.specs.Legal.{IsLegal}
use Rattle.bench_spec.specs.Merged.{IsMerged, Stamped, is_fed}
use Rattle.bench_spec.specs.Settings.{Settings}
use Rattle.bench_spec.specs.Taken.{with_log}
use Rattle.bench_gather.specs.Checks.{is_on_page, looks_stand}
use Rattle.bench_gather.specs.Given.{Gives, Handed, parts_of}
use Rattle.bench_gather.specs.Merging.{GatheredIsMerged, MergedDisagrees, MergedIsGathered}
use Rattle.bench_gather.specs.Ordered.{entries_by, stamped_by, stamps_of}
use Rattle.bench_gather.proofs.ApartLemmas.{merged-only, merged-own, no-clash}
use Rattle.bench_gather.proofs.LogLemmas.{entries-alone}
use Rattle.bench_gather.proofs.MergeLemmas.{desk-rises, order-apart, order-rises, parts-in_order}
use Rattle.bench_gather.proofs.TimesLemmas.{rising-at_least}

given-is_merged : (settings : Settings) (handed : Handed) (order : List Placed) → IsOrder (stamps_of handed.kept) order
    → Gives settings handed order
    → IsMerged settings (parts_of settings.node.shards handed) (entries_by handed.kept order)
given-is_merged settings handed order o g =
    let n = settings.node.shards in
    let stamped = stamped_by handed.kept order in
    record {
      stamped = stamped;
      entries = entries-alone handed.kept order;
      rising = rising-at_least 0 (map (λ (s : Stamped). s.stamp) stamped) (order-rises handed.kept order o);
      each_part = parts-in_order n handed order o g.own;
      others = order-apart n handed order o g.looks;
      desks_rising = desk-rises n handed order o;
      fed = g.fed;
      pages = g.pages;
      few_desks = g.few_desks;
      desks_tell = g.desks_tell;
      desks_done = g.desks_done;
      looks_right = g.right;
    }

merged-gives : (settings : Settings) (handed : Handed) (log : List Entry)
    → looks_stand settings.node.shards handed.kept ≡ true
    → IsMerged settings (parts_of settings.node.shards handed) log → (order : List Placed)
    → IsOrder (stamps_of handed.kept) order → Gives settings handed order
merged-gives settings handed log stand m order o =
    let same = merged-only settings handed log m order o in
    record {
      own = merged-own settings handed log m order;
      looks = stand;
      right = m.looks_right;
      few_desks = m.few_desks;
      desks_tell = m.desks_tell;
      desks_done =
          subst
          (λ (es : List Entry). (desk : ℕ) → (outbox settings es (Desk desk) ≡ []) × (hand es (Desk desk) ≡ [])) same
          m.desks_done;
      fed = subst (λ (es : List Entry). filter is_fed (map (λ (e : Entry). e.step) es) ≡ handed.fed) same m.fed;
      pages =
          subst
          (λ (es : List Entry). (page : ℕ)
          → filter (is_on_page settings.pages page) (booked settings.node.laws es)
          ≡ (parts_of settings.node.shards handed).journal page) same
          m.pages;
    }

pub gathered-is_merged : GatheredIsMerged
gathered-is_merged old new handed (order, o, g, legal, is) =
    (entries_by handed.kept order, given-is_merged old.settings handed order o g, legal, is)

pub merged-disagrees : MergedDisagrees
merged-disagrees old new handed at log stand m (inl (inl clash, zero_is), same) =
    absurd (no-clash old.settings handed log stand m clash)
merged-disagrees old new handed at log stand m (inl (inr (order, o, none), zero_is), same) =
    absurd (none (merged-gives old.settings handed log stand m order o))
merged-disagrees old new handed at log stand m (inr (order, o, g, none, longest), same) =
    let is = sym (merged-only old.settings handed log m order o) in
    (subst (λ es. IsLegal old.settings es → ⊥) is none, subst (λ es. IsLongest old.settings es at) is longest)

pub merged-is_gathered : MergedIsGathered
merged-is_gathered old new handed log stand m (order, o, g, legal, world) =
    let is = sym (merged-only old.settings handed log m order o) in
    (subst (IsLegal old.settings) is legal, world ∙ ap (with_log old) is)
