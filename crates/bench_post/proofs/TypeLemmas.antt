-- What a CC-Request-Type is for a session, by its number.
use Rattle.std.proofs.Common.{◌≡◌, ◌==◌, ◌<◌, ℕ, Bool, true, false, None, refl, arith}
use Rattle.std.specs.Option.{option_map}
use Rattle.std.proofs.lemmas.Bool.Decides.{nat_tests}
use Rattle.dia_command.specs.Value.{type_coded}
use Rattle.charge_session.specs.Events.{answer_name, server_name}
use Rattle.bench_item.specs.Posts.{answer_kind, request_kind}

-- a number past the last one is none
pub none_past : (n : ℕ) → 4 < n → type_coded n ≡ None
unfolding type_coded
none_past n past = grind (arith, nat_tests)

requests_by : (n : ℕ) (a b c d : Bool) → (n == 1) ≡ a → (n == 2) ≡ b → (n == 3) ≡ c → (n == 4) ≡ d → option_map server_name (type_coded n) ≡ request_kind n
unfolding type_coded
requests_by n true b c d e f g h = rw e refl
requests_by n false true c d e f g h = rw (e, f) refl
requests_by n false false true d e f g h = rw (e, f, g) refl
requests_by n false false false true e f g h = rw (e, f, g, h) refl
requests_by n false false false false e f g h = rw (e, f, g, h) refl

-- the name of a request
pub request_named : (n : ℕ) → option_map server_name (type_coded n) ≡ request_kind n
request_named n = requests_by n (n == 1) (n == 2) (n == 3) (n == 4) refl refl refl refl

answers_by : (n : ℕ) (a b c d : Bool) → (n == 1) ≡ a → (n == 2) ≡ b → (n == 3) ≡ c → (n == 4) ≡ d → option_map answer_name (type_coded n) ≡ answer_kind n
unfolding type_coded
answers_by n true b c d e f g h = rw e refl
answers_by n false true c d e f g h = rw (e, f) refl
answers_by n false false true d e f g h = rw (e, f, g) refl
answers_by n false false false true e f g h = rw (e, f, g, h) refl
answers_by n false false false false e f g h = rw (e, f, g, h) refl

-- the name of an answer
pub answer_named : (n : ℕ) → option_map answer_name (type_coded n) ≡ answer_kind n
answer_named n = answers_by n (n == 1) (n == 2) (n == 3) (n == 4) refl refl refl refl
