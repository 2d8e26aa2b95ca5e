-- What stands in the way of a later part stands in the way of the whole.
use Rattle.std.proofs.Common.{◌≡◌, ◌≤◌, ◌+◌, ◌∙◌, ◌⊎◌, ℕ, List, ap, arith, inl, inr, refl, subst, sym}
use Rattle.std.specs.Prelude.{IfErr, Option, Result, Ok, Err}
use Rattle.base_device.specs.Inputs.{IsInput, IsUnread}
use Rattle.base_device.specs.declared.whole.InputError.{InputError}
use Rattle.base_device.specs.declared.whole.InputError.TheVariants as input
use Rattle.bench_setup.specs.Halts.{IsHalt, IsNoInput}
use Rattle.bench_setup.specs.Refusals.{IsNoConfig, IsNoDictionary, IsNoTable, IsShipped, IsWrong}
use Rattle.bench_setup.specs.declared.halt.Halt.{Halt}
use Rattle.bench_setup.specs.declared.halt.Halt.TheVariants.{NoMemory, Refused, Unread}

unread_later : {I : Type 0} (reads failures : I → ℕ) (old mid new : I) (why : InputError) → reads old ≤ reads mid → failures mid ≡ failures old
    → IsUnread reads failures mid new why → IsUnread reads failures old new why
unread_later reads failures old mid new (input.NotOpened opened) before same is = is ∙ ap (λ n. n + 1) same
unread_later reads failures old mid new input.Failed before same is = is ∙ ap (λ n. n + 1) same
unread_later reads failures old mid new input.NoEnd before same is = (is.0 ∙ same, omega (arith, before, is.1))
unread_later reads failures old mid new input.NoMemory before same is = is ∙ same

-- behind what was read without a failure
pub later : {I : Type 0} (remaining : I → Option (List ℕ)) (reads failures : I → ℕ) (old mid new : I) (halt : Halt) → reads old ≤ reads mid → failures mid ≡ failures old
    → IsHalt remaining reads failures mid new halt → IsHalt remaining reads failures old new halt
later remaining reads failures old mid new (Unread name why) before same is = unread_later reads failures old mid new why before same is
later remaining reads failures old mid new (Refused text) before same is = (is.0 ∙ same, is.1)
later remaining reads failures old mid new NoMemory before same is = is ∙ same

-- a text that was read whole is refused for a reason
pub refused : {I : Type 0} (remaining : I → Option (List ℕ)) (reads failures : I → ℕ) (old before new : I) (text : List ℕ) (why : List ℕ → Type 0) (halt : Halt)
    → (from : IsInput remaining reads failures before new text ⊎ IsShipped text) → failures new ≡ failures old
    → ((told : List ℕ) → why told → IsWrong text told)
    → IsNoInput why halt → IsHalt remaining reads failures old new halt
refused remaining reads failures old before new text why (Unread name error) from same wrong is = absurd is
refused remaining reads failures old before new text why (Refused told) from same wrong is = (
  same,
  record {
    text = text;
    before = before;
    from = from;
    wrong = wrong told.items is;
  },
)
refused remaining reads failures old before new text why NoMemory from same wrong is = same

-- the reasons
pub no_config : (text told : List ℕ) → IsNoConfig text told → IsWrong text told
no_config text told is = inl is

pub no_table : (text told : List ℕ) → IsNoTable text told → IsWrong text told
no_table text told is = inr (inr (inr (inl is)))

pub no_dictionary : (text told : List ℕ) → IsNoDictionary text told → IsWrong text told
no_dictionary text told is = inr (inr (inr (inr is)))

-- a shipped table with a fault
pub shipped_refused : {I T : Type 0} (remaining : I → Option (List ℕ)) (reads failures : I → ℕ) (source : I) (shipped text : List ℕ) (result : Result T Halt)
    → text ≡ shipped → IsShipped shipped → IfErr result (IsNoInput (IsNoTable text)) → IfErr result (IsHalt remaining reads failures source source)
shipped_refused remaining reads failures source shipped text (Ok x) same is none = tt
shipped_refused remaining reads failures source shipped text (Err halt) same is wrong =
    refused remaining reads failures source source source text (IsNoTable text) halt (inr (subst IsShipped (sym same) is)) refl (no_table text) wrong
