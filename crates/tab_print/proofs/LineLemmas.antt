use Rattle.std.proofs.Common.{◌≡◌, ℕ, ◌+◌, ◌-◌, ◌<◌, ◌≤◌, suc, zero, true, false, ◌==◌, List, [], ◌∷◌, ◌++◌, length, take, drop, replicate, filter, codes, arith, refl, sym, ap, ◌∙◌}
use Rattle.std.specs.List.{slice_split}
use Rattle.std.proofs.lemmas.List.{append_assoc, length-append, length-replicate}
use Rattle.std.proofs.lemmas.List.Splits.{slice_split_none, slice_split_at}
use Rattle.text_parts.specs.Lines.{is_plain, is_skipped, is_more, is_row_line}
use Rattle.text_parts.specs.Words.{Word, placed_from, is_word, words, trimmed}
use Rattle.tab_text.specs.Cells.{is_header, columns_at, columns_of, cell, state_span, event_span, action_span, next_span}
use Rattle.tab_print.specs.Printed.{padded}
use Rattle.tab_print.proofs.TextLemmas.{Begins, begins-append, trimmed-padded, trimmed-whole, Wordy, wordy-without, plain-append, plain-blanks}
use Rattle.tab_print.proofs.CellLemmas.{IsCell}

-- a line of four cells without its newline, the first three in columns of these widths
abbrev pub behind_state : ℕ → ℕ → List ℕ → List ℕ → List ℕ → List ℕ
behind_state e a event action next = padded e event ++ (padded a action ++ next)

abbrev pub line_with : ℕ → ℕ → ℕ → List ℕ → List ℕ → List ℕ → List ℕ → List ℕ
line_with s e a state event action next = codes "  " ++ (padded s state ++ behind_state e a event action next)

length-padded : (wide : ℕ) (text : List ℕ) → length text ≤ wide → length (padded wide text) ≡ wide
length-padded wide text fits =
    let blank : ℕ = 32 in
    omega (arith, length-append text (replicate (wide - length text) blank), length-replicate (wide - length text) blank, fits)

-- what stands between two places
drop-front : (front behind : List ℕ) (at : ℕ) → at ≡ length front → drop at (front ++ behind) ≡ behind
drop-front [] behind at is = rw is refl
drop-front (b ∷ front) behind at is = rw is (drop-front front behind (length front) refl)

take-front : (front behind : List ℕ) (at : ℕ) → at ≡ length front → take at (front ++ behind) ≡ front
take-front [] behind at is = rw is refl
take-front (b ∷ front) behind at is = rw is (ap (λ (rest : List ℕ). b ∷ rest) (take-front front behind (length front) refl))

cut-between : (front mid behind : List ℕ) (from to : ℕ) → from ≡ length front → to ≡ length front + length mid → drop from (take to ((front ++ mid) ++ behind)) ≡ mid
cut-between front mid behind from to f t =
    let all : to ≡ length (front ++ mid) = omega (arith, t, length-append front mid) in
    rw (take-front (front ++ mid) behind to all) (drop-front front mid from f)

-- cells that fit into their columns
pub record Fits (s e a : ℕ) (state event action next : List ℕ) : Type 0 where
  pub state_cell : IsCell state
  pub event_cell : IsCell event
  pub action_cell : IsCell action
  pub next_cell : IsCell next
  pub state_fits : length state ≤ s
  pub event_fits : length event ≤ e
  pub action_fits : length action ≤ a

module _ (s e a : ℕ) (state event action next : List ℕ) (fits : Fits s e a state event action next) where
  abbrev line : List ℕ
  line = line_with s e a state event action next

  abbrev front : List ℕ
  front = codes "  " ++ padded s state

  abbrev more : List ℕ
  more = front ++ padded e event

  front-len : length front ≡ 2 + s
  front-len = omega (arith, length-append (codes "  ") (padded s state), length-padded s state fits.state_fits)

  more-len : length more ≡ 2 + s + e
  more-len = omega (arith, front-len, length-append front (padded e event), length-padded e event fits.event_fits)

  from-front : front ++ behind_state e a event action next ≡ line
  from-front = append_assoc (codes "  ") (padded s state) (behind_state e a event action next)

  from-more : more ++ (padded a action ++ next) ≡ line
  from-more = append_assoc front (padded e event) (padded a action ++ next) ∙ from-front

  from-all : (more ++ padded a action) ++ next ≡ line
  from-all = append_assoc more (padded a action) next ∙ from-more

  pub cell-state : cell (state_span (columns_at (2 + s) (2 + s + e) (2 + s + e + a))) line ≡ state
  cell-state =
      let cut = cut-between (codes "  ") (padded s state) (behind_state e a event action next) 2 (2 + s) refl (omega (arith, length-padded s state fits.state_fits)) in
      rw (← from-front) (ap trimmed cut ∙ trimmed-padded state (s - length state) fits.state_cell.begins fits.state_cell.ends)

  pub cell-event : cell (event_span (columns_at (2 + s) (2 + s + e) (2 + s + e + a))) line ≡ event
  cell-event =
      let cut = cut-between front (padded e event) (padded a action ++ next) (2 + s) (2 + s + e) (sym front-len) (omega (arith, front-len, length-padded e event fits.event_fits)) in
      rw (← from-more) (ap trimmed cut ∙ trimmed-padded event (e - length event) fits.event_cell.begins fits.event_cell.ends)

  pub cell-action : cell (action_span (columns_at (2 + s) (2 + s + e) (2 + s + e + a))) line ≡ action
  cell-action =
      let cut = cut-between more (padded a action) next (2 + s + e) (2 + s + e + a) (sym more-len) (omega (arith, more-len, length-padded a action fits.action_fits)) in
      rw (← from-all) (ap trimmed cut ∙ trimmed-padded action (a - length action) fits.action_cell.begins fits.action_cell.ends)

  pub cell-next : cell (next_span (columns_at (2 + s) (2 + s + e) (2 + s + e + a))) line ≡ next
  cell-next =
      let before : length (more ++ padded a action) ≡ 2 + s + e + a = omega (arith, more-len, length-append more (padded a action), length-padded a action fits.action_fits) in
      rw (← from-all) (ap trimmed (drop-front (more ++ padded a action) next (2 + s + e + a) (sym before)) ∙ trimmed-whole next fits.next_cell.begins fits.next_cell.ends)

  pub line-plain : is_plain line ≡ true
  line-plain =
      let p = plain-append state (replicate (s - length state) 32) fits.state_cell.plain (plain-blanks (s - length state)) in
      let q = plain-append event (replicate (e - length event) 32) fits.event_cell.plain (plain-blanks (e - length event)) in
      let r = plain-append action (replicate (a - length action) 32) fits.action_cell.plain (plain-blanks (a - length action)) in
      plain-append (padded s state) (behind_state e a event action next) p (plain-append (padded e event) (padded a action ++ next) q (plain-append (padded a action) next r fits.next_cell.plain))

  pub line-begins : Begins (padded s state ++ behind_state e a event action next)
  line-begins = begins-append (padded s state) (behind_state e a event action next) (begins-append state (replicate (s - length state) 32) fits.state_cell.begins)

-- a line behind two blanks is kept, and begins a row
pub behind-blanks : (text : List ℕ) → Begins text → (is_skipped (32 ∷ 32 ∷ text) ≡ false) × (is_more (32 ∷ 32 ∷ text) ≡ false) × (is_row_line (32 ∷ 32 ∷ text) ≡ true)
behind-blanks text begins = rw (begins.is, begins.solid) (refl, refl, refl)

-- the words of a line that stand from a byte on
abbrev words_from : ℕ → List ℕ → List Word
words_from at text = filter (λ word. is_word word.octets) (placed_from at (slice_split (λ b. b == 32) text))

words-blank : (at : ℕ) (text : List ℕ) → words_from at (32 ∷ text) ≡ words_from (at + 1) text
words-blank at text = let next : at + 0 + 1 ≡ at + 1 = omega arith in rw next refl

words-blanks : (at count : ℕ) (text : List ℕ) → words_from at (replicate count 32 ++ text) ≡ words_from (at + count) text
words-blanks at zero text = let same : at + 0 ≡ at = omega arith in rw same refl
words-blanks at (suc count) text =
    let next : at + 1 + count ≡ at + suc count = omega arith in
    words-blank at (replicate count 32 ++ text) ∙ words-blanks (at + 1) count text ∙ rw next refl

words-word : (at : ℕ) (b : ℕ) (bs : List ℕ) (text : List ℕ) → Wordy (b ∷ bs) → words_from at ((b ∷ bs) ++ 32 ∷ text) ≡ record { at = at; octets = b ∷ bs } ∷ words_from (at + length (b ∷ bs) + 1) text
words-word at b bs text wordy =
    rw (slice_split_at (λ c. c == 32) (b ∷ bs) 32 text (wordy-without (b ∷ bs) 32 (omega arith) wordy) refl) refl

-- a word in a column, and what stands behind it
words-padded : (at wide : ℕ) (b : ℕ) (bs : List ℕ) (text : List ℕ) → Wordy (b ∷ bs) → length (b ∷ bs) < wide → words_from at (padded wide (b ∷ bs) ++ text) ≡ record { at = at; octets = b ∷ bs } ∷ words_from (at + wide) text
words-padded at wide b bs text wordy fits =
    let word = b ∷ bs in
    let count = wide - length word - 1 in
    let some : wide - length word ≡ suc count = omega (arith, fits) in
    let whole : padded wide word ++ text ≡ word ++ 32 ∷ (replicate count 32 ++ text) = ap (λ (k : ℕ). (word ++ replicate k 32) ++ text) some ∙ append_assoc word (replicate (suc count) 32) text in
    let next : at + length word + 1 + count ≡ at + wide = omega (arith, fits) in
    ap (words_from at) whole ∙ words-word at b bs (replicate count 32 ++ text) wordy ∙ ap (λ (rest : List Word). record { at = at; octets = b ∷ bs } ∷ rest) (words-blanks (at + length word + 1) count text ∙ rw next refl)

words-last : (at : ℕ) (b : ℕ) (bs : List ℕ) → Wordy (b ∷ bs) → words_from at (b ∷ bs) ≡ record { at = at; octets = b ∷ bs } ∷ []
words-last at b bs wordy = rw (slice_split_none (λ c. c == 32) (b ∷ bs) (wordy-without (b ∷ bs) 32 (omega arith) wordy)) refl

state-wordy : Wordy (codes "State")
state-wordy = (omega arith, omega arith, (omega arith, omega arith, (omega arith, omega arith, (omega arith, omega arith, (omega arith, omega arith, tt)))))

event-wordy : Wordy (codes "Event")
event-wordy = (omega arith, omega arith, (omega arith, omega arith, (omega arith, omega arith, (omega arith, omega arith, (omega arith, omega arith, tt)))))

action-wordy : Wordy (codes "Action")
action-wordy = (omega arith, omega arith, (omega arith, omega arith, (omega arith, omega arith, (omega arith, omega arith, (omega arith, omega arith, (omega arith, omega arith, tt))))))

next-wordy : Wordy (codes "Next")
next-wordy = (omega arith, omega arith, (omega arith, omega arith, (omega arith, omega arith, (omega arith, omega arith, tt))))

-- the header's words
header-words : (s e a : ℕ) → 5 < s → 5 < e → 6 < a → words (line_with s e a (codes "State") (codes "Event") (codes "Action") (codes "Next"))
    ≡ record { at = 2; octets = codes "State" } ∷ record { at = 2 + s; octets = codes "Event" } ∷ record { at = 2 + s + e; octets = codes "Action" } ∷ record { at = 2 + s + e + a; octets = codes "Next" } ∷ []
unfolding words
header-words s e a state event action =
    let rest_a = padded a (codes "Action") ++ codes "Next" in
    let rest_e = padded e (codes "Event") ++ rest_a in
    words-blank 0 (32 ∷ padded s (codes "State") ++ rest_e)
    ∙ words-blank 1 (padded s (codes "State") ++ rest_e)
    ∙ words-padded 2 s 83 (codes "tate") rest_e state-wordy state
    ∙ rw (words-padded (2 + s) e 69 (codes "vent") rest_a event-wordy event, words-padded (2 + s + e) a 65 (codes "ction") (codes "Next") action-wordy action, words-last (2 + s + e + a) 78 (codes "ext") next-wordy) refl

pub header-is : (s e a : ℕ) → 5 < s → 5 < e → 6 < a → is_header (line_with s e a (codes "State") (codes "Event") (codes "Action") (codes "Next")) ≡ true
unfolding is_header
header-is s e a state event action = rw (header-words s e a state event action) refl

pub header-columns : (s e a : ℕ) → 5 < s → 5 < e → 6 < a → columns_of (line_with s e a (codes "State") (codes "Event") (codes "Action") (codes "Next")) ≡ columns_at (2 + s) (2 + s + e) (2 + s + e + a)
unfolding columns_of
header-columns s e a state event action = rw (header-words s e a state event action) refl
