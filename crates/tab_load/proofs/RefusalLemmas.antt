use Rattle.std.proofs.Common.{ℕ, Result, Ok, Err, IfErr}
use Rattle.tab_load.specs.Code.{IsRefusal, AtNoMemory}
use Rattle.tab_load.specs.declared.fault.ImageFault.{ImageFault}
use Rattle.tab_load.specs.declared.fault.LoadError.{LoadError}
use Rattle.tab_load.specs.declared.fault.LoadError.TheVariants.{Refused, NoMemory}

-- a refusal for a fault of one part is one for a fault of the whole
pub refusal-weaker : (P Q : ℕ → ImageFault → Type 0) → ((at : ℕ) (fault : ImageFault) → P at fault → Q at fault) → (error : LoadError) → IsRefusal P error → IsRefusal Q error
refusal-weaker P Q weaker (Refused fault) is = weaker fault.at fault.code is
refusal-weaker P Q weaker NoMemory is = tt

-- the same of a result
pub err-weaker : {T : Type 0} (P Q : ℕ → ImageFault → Type 0) → ((at : ℕ) (fault : ImageFault) → P at fault → Q at fault) → (result : Result T LoadError) → IfErr result (IsRefusal P) → IfErr result (IsRefusal Q)
err-weaker P Q weaker (Ok value) is = tt
err-weaker P Q weaker (Err error) is = refusal-weaker P Q weaker error is

-- what holds where memory was wanting in a part
pub at_none-weaker : (P Q : Type 0) → (P → Q) → (error : LoadError) → AtNoMemory P error → AtNoMemory Q error
at_none-weaker P Q weaker (Refused fault) is = tt
at_none-weaker P Q weaker NoMemory is = weaker is
