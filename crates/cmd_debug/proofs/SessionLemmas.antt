-- Commands behind commands.
use Rattle.std.proofs.Common.{◌≡◌, ◌∙◌, ◌<◌, ◌+◌, ℕ, List, [], ◌∷◌, ◌++◌, Result, Ok, Err, ap, append_assoc, get_or, length, refl, subst, sym, take}
use Rattle.std.specs.Prelude.{OnOk}
use Rattle.std.proofs.lemmas.List.{append-nil, take_more}
use Rattle.bench_debug.specs.Debug.{Debugging, Does}
use Rattle.bench_debug.specs.Tables.{tables_in}
use Rattle.debug_text.specs.declared.command.CommandFault.{CommandFault}
use Rattle.debug_text.specs.declared.reply.Reply.{Reply}
use Rattle.cmd_debug.specs.Sessions.{IsReplied, IsSession, answer_text}

-- what is put of an answer
pub replied_of : {A E : Type 0} (old new : Debugging) (line before after text : List ℕ) (answer : Result Reply CommandFault) (put : Result A E)
    → Does old new line answer → text ≡ answer_text (tables_in new.world.settings) answer → OnOk put (after ≡ before ++ text)
    → OnOk put (IsReplied old new line before after)
replied_of old new line before after text answer (Ok done) does is printed =
    record { result = answer; done = does; printed = printed ∙ ap (λ (xs : List ℕ). before ++ xs) is }
replied_of old new line before after text answer (Err error) does is printed = tt

-- the same behind another text
behind : (old new : Debugging) (line before after : List ℕ) → (r : IsReplied old new line before after)
    → (other : List ℕ) → IsReplied old new line other (other ++ answer_text (tables_in new.world.settings) r.result)
behind old new line before after r other = record { result = r.result; done = r.done; printed = refl }

-- one command
one_more : (old mid new : Debugging) (line text after : List ℕ) → mid ≡ old → text ≡ [] → IsReplied mid new line text after
    → IsSession old new (line ∷ []) after
one_more old mid new line text after same none one =
    let here : IsReplied old new line [] after =
    subst (λ (d : Debugging). IsReplied d new line [] after) same (subst (λ (xs : List ℕ). IsReplied mid new line xs after) none one)
    in (new, after, [], here, (refl, refl), sym (append-nil after))

-- one command behind others
pub IsSession-more : (old mid new : Debugging) (lines : List (List ℕ)) (line text after : List ℕ) → IsSession old mid lines text
    → IsReplied mid new line text after → IsSession old new (lines ++ line ∷ []) after
IsSession-more old mid new [] line text after session one = one_more old mid new line text after session.0 session.1 one
IsSession-more old mid new (first ∷ lines) line text after session one =
    let said : List ℕ = answer_text (tables_in new.world.settings) one.result in (
      session.0,
      session.1,
      session.2 ++ said,
      session.3,
      IsSession-more session.0 mid new lines line session.2 (session.2 ++ said) session.4 (behind mid new line text after one session.2),
      one.printed ∙ ap (λ (xs : List ℕ). xs ++ said) session.5 ∙ append_assoc session.1 session.2 said,
    )

-- the command of the next of lines
pub IsSession-next : (old mid new : Debugging) (lines : List (List ℕ)) (i : ℕ) (line other read text after : List ℕ) → i < length lines → line ≡ get_or lines i other
    → read ≡ line → IsSession old mid (take i lines) text → IsReplied mid new read text after → IsSession old new (take (i + 1) lines) after
IsSession-next old mid new lines i line other read text after within is same session one =
    subst (λ (ls : List (List ℕ)). IsSession old new ls after)
    (ap (λ (l : List ℕ). take i lines ++ l ∷ []) (same ∙ is) ∙ sym (take_more lines i other within))
    (IsSession-more old mid new (take i lines) read text after session one)

-- commands behind others
pub IsSession-append : (old mid new : Debugging) (lines others : List (List ℕ)) (text said : List ℕ) → IsSession old mid lines text
    → IsSession mid new others said → IsSession old new (lines ++ others) (text ++ said)
IsSession-append old mid new [] others text said session more =
    subst (λ (d : Debugging). IsSession d new others (text ++ said)) session.0
    (subst (λ (xs : List ℕ). IsSession mid new others (xs ++ said)) (sym session.1) more)
IsSession-append old mid new (first ∷ lines) others text said session more = (
  session.0,
  session.1,
  session.2 ++ said,
  session.3,
  IsSession-append session.0 mid new lines others session.2 said session.4 more,
  ap (λ (xs : List ℕ). xs ++ said) session.5 ∙ append_assoc session.1 session.2 said,
)
