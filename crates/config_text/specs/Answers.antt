-- What is read, or the first fault; and how an answer of the code is one of these.
use Rattle.std.specs.Prelude.{◌≡◌, Result, Ok, Err, IsOk, ⊤}
use Rattle.config_text.specs.declared.fault.ConfigError.{ConfigError}
use Rattle.config_text.specs.declared.fault.ConfigError.TheVariants as errors
use Rattle.config_text.specs.declared.fault.Fault as fault

-- what is read, or its first fault; want of memory is told only where there is no fault
abbrev pub Answers : {T : Type 0} → Result T ConfigError → Result T fault.Fault → Type 0
Answers (Ok x) read = read ≡ Ok x
Answers (Err errors.NoMemory) read = IsOk read
Answers (Err (errors.Fault f)) read = read ≡ Err f
Answers (Err (errors.NotJson line column)) read = ⊥

-- two values, or the first fault
abbrev pub both : {A B : Type 0} → Result A fault.Fault → Result B fault.Fault → Result (A × B) fault.Fault
both (Err f) second = Err f
both (Ok a) (Err f) = Err f
both (Ok a) (Ok b) = Ok (a, b)

-- what is made of a value
abbrev pub made : {A B : Type 0} → (A → B) → Result A fault.Fault → Result B fault.Fault
made f (Err e) = Err e
made f (Ok x) = Ok (f x)

-- a value behind a test
abbrev pub after : {A : Type 0} → Result ⊤ fault.Fault → Result A fault.Fault → Result A fault.Fault
after (Err f) read = Err f
after (Ok u) read = read
