-- A line that was not opened, and one that is: nothing of it was lifted or dropped.
use Rattle.std.proofs.Common.{◌≡◌, ◌-◌, ℕ, suc, List, [], ◌∷◌, ◌++◌, length, length-append, false, None, refl, sym, ◌∙◌, ap, subst, append_assoc, arith}
use Rattle.std.specs.Prelude.{◌==◌, map, slice_get}
use Rattle.std.specs.Option.{option_map_or}
use Rattle.std.proofs.lemmas.Bool.Decides.{nat_tests}
use Rattle.std.proofs.lemmas.List.{append-nil, length-map}
use Rattle.std.proofs.lemmas.Option.{slice_get_past}
use Rattle.acct_book.specs.Laws.{EachAfter}
use Rattle.bench_item.specs.declared.entry.Entry.{Entry}
use Rattle.bench_item.specs.declared.item.Item.{Item}
use Rattle.bench_item.specs.declared.source.Source.TheVariants.{Line}
use Rattle.bench_line.specs.Line.{LineView}
use Rattle.bench_spec.specs.Items.{InOrder, dropped, lifted, posts}
use Rattle.bench_spec.specs.Legal.{IsLegal, MayFollow}
use Rattle.bench_spec.specs.Lines.{line_steps, opening_of, openings}
use Rattle.bench_spec.specs.Rules.{rules_at}
use Rattle.bench_spec.specs.Settings.{Settings}
use Rattle.bench_views.specs.Carried.{lifts}
use Rattle.bench_views.specs.Stored.{EachAt}
use Rattle.bench_views.proofs.Acting.{each-had, each-has, each-push}
use Rattle.bench_views.proofs.Behind.{lifted-same}

-- the line behind all that were opened is not there
pub unopened : (log : List Entry) → opening_of log (suc (length (openings log))) ≡ None
unopened log = rw some (ap (slice_get (openings log)) less ∙ slice_get_past (openings log) (length (openings log)) (omega arith))
  where
    some : (suc (length (openings log)) == 0) ≡ false
    some = grind (arith, nat_tests)

    less : suc (length (openings log)) - 1 ≡ length (openings log)
    less = omega arith

nothing_before : (xs rest : List Item) → xs ++ rest ≡ [] → xs ≡ []
nothing_before [] rest none = refl
nothing_before (x ∷ xs) rest none = absurd cc

-- Nothing was lifted or dropped of a line that is not there.
pub record IsNewLine (log : List Entry) (line : ℕ) : Type 0 where
  pub no_lift : lifted log (Line line) ≡ []
  pub no_drop : dropped log (Line line) ≡ []

pub new_line : (settings : Settings) (log : List Entry) (line : ℕ) → InOrder settings log → opening_of log line ≡ None → IsNewLine log line
new_line settings log line order none =
    let no_post : posts settings log (Line line) ≡ [] =
    ap (λ o. option_map_or (λ opening. (rules_at settings line).posts opening (line_steps log line)) o []) none in
    let carried = order.sources (Line line) in
    let no_lift : lifted log (Line line) ≡ [] =
    nothing_before (lifted log (Line line)) carried.lifted_front.0 (carried.lifted_front.1 ∙ no_post) in
    record { no_lift = no_lift; no_drop = nothing_before (dropped log (Line line)) carried.dropped_front.0 (carried.dropped_front.1 ∙ no_lift) }

-- lines behind which one came, of which none is lifted
pub lifted_of-opened : (log : List Entry) (e : Entry) (old new : List LineView) → ((line : ℕ) → lifts (Line line) e ≡ [])
    → map (λ l. l.lifted) new ≡ map (λ l. l.lifted) old ++ 0 ∷ [] → IsNewLine log (suc (length old))
    → EachAt (λ n l. l.lifted ≡ length (lifted log (Line (suc n)))) old
    → EachAt (λ n l. l.lifted ≡ length (lifted (log ++ e ∷ []) (Line (suc n)))) new
lifted_of-opened log e old new none more first each =
    each-has (λ n c. c ≡ length (lifted (log ++ e ∷ []) (Line (suc n)))) (λ l. l.lifted) new
    (subst (EachAt (λ n c. c ≡ length (lifted (log ++ e ∷ []) (Line (suc n))))) (sym more)
    (each-push (λ n c. c ≡ length (lifted (log ++ e ∷ []) (Line (suc n)))) (map (λ l. l.lifted) old) 0
    (each-had (λ n c. c ≡ length (lifted (log ++ e ∷ []) (Line (suc n)))) (λ l. l.lifted) old
    (λ n l is. each n l is ∙ sym (lifted-same log e (Line (suc n)) (none (suc n)))))
    (ap length (sym first.no_lift) ∙ sym (lifted-same log e (Line (suc (length old))) (none (suc (length old))))
    ∙ ap (λ n. length (lifted (log ++ e ∷ []) (Line (suc n)))) (sym (length-map old (λ l. l.lifted))))))

-- as many lines as were opened, one more
pub length-opened : (old new : List LineView) → map (λ l. l.lifted) new ≡ map (λ l. l.lifted) old ++ 0 ∷ [] → length new ≡ suc (length old)
length-opened old new more =
    omega (
      arith,
      length-map new (λ l. l.lifted),
      length-map old (λ l. l.lifted),
      ap length more,
      length-append (map (λ l. l.lifted) old) (0 ∷ []),
    )

-- items are carried and handled in their order in a legal log
pub IsLegal-order : (settings : Settings) (log : List Entry) → IsLegal settings log → InOrder settings [] → InOrder settings log
IsLegal-order settings log legal start = behind [] log legal start
  where
    behind : (past rest : List Entry) → EachAfter (MayFollow settings) past rest → InOrder settings past → InOrder settings (past ++ rest)
    behind past [] legal' order = subst (InOrder settings) (sym (append-nil past)) order
    behind past (e ∷ rest) legal' order =
        subst (InOrder settings) (append_assoc past (e ∷ []) rest) (behind (past ++ e ∷ []) rest legal'.1 legal'.0.order)
