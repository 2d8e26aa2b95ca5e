-- The one step that a line can be, if it is one: it is read without looking whether it prints so.
use Rattle.std.specs.Prelude.{ℕ, ◌+◌, ◌*◌, ◌^◌, ◌==◌, nat_lt, List, [], ◌∷◌, replicate, slice_set, Option, Some, None}
use Rattle.std.specs.Prelude.{Result, Ok, Err, option_map, option_and_then, unwrap_or, codes, if◌then◌else◌}
use Rattle.std.specs.Str.{bytes_eq}
use Rattle.hex.specs.Hex.{decode_of, hex_digit_value}
use Rattle.base_list.specs.Named.{entry_of, place_of}
use Rattle.base_list.specs.declared.named.Named.{Named}
use Rattle.base_text.specs.Numbers.{number_of}
use Rattle.event_text.specs.Events.{fact_of}
use Rattle.tab_law.specs.declared.limits.TheConstants.{PLACES}
use Rattle.bench_item.specs.declared.key.Key.{Key}
use Rattle.bench_item.specs.declared.key.Role.{Role}
use Rattle.bench_item.specs.declared.key.Role.TheVariants.{Peer, Client, Server}
use Rattle.bench_item.specs.declared.source.Source.{Source}
use Rattle.bench_item.specs.declared.source.Source.TheVariants as source
use Rattle.bench_item.specs.declared.step.Step.{Step}
use Rattle.bench_item.specs.declared.step.Step.TheVariants as step
use Rattle.step_text.specs.declared.command.Command.{Command}
use Rattle.step_text.specs.declared.command.Command.TheVariants.{Join, Dialled, Came, Lost, Told, Fired}
use Rattle.step_text.specs.declared.command.Command.TheVariants.{Lift, Drop, Work}
use Rattle.step_text.specs.Names.{Names}

-- the words behind the first
abbrev pub rest_of : List (List ℕ) → List (List ℕ)
rest_of [] = []
rest_of (word ∷ words) = words

-- the number of the first word
abbrev pub large : List (List ℕ) → Option ℕ
large [] = None
large (word ∷ words) = number_of word

-- a number below 2 ^ 32
abbrev pub narrow : Option ℕ → Option ℕ
narrow None = None
narrow (Some n) = if nat_lt n (2 ^ 32) then Some n else None

-- the number of the first word, below 2 ^ 32
abbrev pub small : List (List ℕ) → Option ℕ
small words = narrow (large words)

-- the value of a hexadecimal digit, 0 for another octet
abbrev pub nibble : ℕ → ℕ
nibble c = unwrap_or (hex_digit_value c) 0

-- the name that is shown so
abbrev pub unshown : List ℕ → List ℕ
unshown [] = []
unshown (c ∷ []) = c ∷ []
unshown (c ∷ d ∷ []) = c ∷ d ∷ []
unshown (c ∷ d ∷ e ∷ rest) = if c == 37 then (nibble d * 16 + nibble e) ∷ unshown rest else c ∷ unshown (d ∷ e ∷ rest)

-- the name that the first word shows
abbrev pub first_name : List (List ℕ) → Option (List ℕ)
first_name [] = None
first_name (word ∷ words) = Some (unshown word)

-- the role of a key's first octet
abbrev pub role_of : ℕ → Option Role
role_of c = if c == 112 then Some Peer else if c == 99 then Some Client else if c == 115 then Some Server else None

-- the key of a name with its prefix
abbrev pub key_of : List ℕ → Option Key
key_of [] = None
key_of (c ∷ []) = None
key_of (c ∷ d ∷ name) = option_map (λ role. record { role = role; name = name }) (role_of c)

-- octets from what may be their hexadecimal digits
abbrev pub decoded : {E : Type 0} → Result (List ℕ) E → Option (List ℕ)
decoded (Ok octets) = Some octets
decoded (Err e) = None

-- the octets of the first word, none where there is no word
abbrev pub piece_of : List (List ℕ) → Option (List ℕ)
piece_of [] = Some []
piece_of (word ∷ words) = decoded (decode_of word)

-- facts with one more
abbrev pub put_fact : Option (ℕ × ℕ) → List ℕ → List ℕ
put_fact None facts = facts
put_fact (Some fact) facts = slice_set facts fact.0 fact.1

-- facts with those of words
abbrev pub put_all : List (List ℕ) → List ℕ → List ℕ
put_all [] facts = facts
put_all (word ∷ words) facts = put_all words (put_fact (fact_of word) facts)

abbrev pub facts_in : List (List ℕ) → List ℕ
facts_in words = put_all words (replicate PLACES 0)

-- who puts items out
abbrev pub source_of : List (List ℕ) → Option Source
source_of [] = None
source_of (word ∷ words) =
    if bytes_eq word (codes "clock") then Some source.Clock
    else if bytes_eq word (codes "line") then option_map source.Line (small words)
    else if bytes_eq word (codes "shard") then option_map source.Shard (small words)
    else if bytes_eq word (codes "desk") then option_map source.Desk (small words)
    else None

-- the key that the first word shows
abbrev pub first_key : List (List ℕ) → Option Key
first_key words = option_and_then key_of (first_name words)

-- the place of the kind that the first word names
abbrev pub kind_of : List (Named (Unit {0})) → List (List ℕ) → Option ℕ
kind_of kinds words = option_and_then (λ name. place_of name kinds) (first_name words)

-- what a desk tells
abbrev pub told_with : Option ℕ → Option Key → Option ℕ → List ℕ → Option Step
told_with (Some desk) (Some key) (Some kind) facts = Some (step.Told desk key (record { kind = kind; facts = facts }))
told_with (Some desk) (Some key) None facts = None
told_with (Some desk) None kind facts = None
told_with None key kind facts = None

abbrev pub told_of : List (Named (Unit {0})) → List (List ℕ) → Option Step
told_of kinds words =
    told_with (small words) (first_key (rest_of words)) (kind_of kinds (rest_of (rest_of words)))
    (facts_in (rest_of (rest_of (rest_of words))))

-- the number of the machine that the first word names
abbrev pub machine_of : List (Named ℕ) → List (List ℕ) → Option ℕ
machine_of machines words =
    option_and_then (λ name. option_map (λ entry. entry.value) (entry_of name machines)) (first_name words)

-- which timer fires
abbrev pub fired_with : Option ℕ → Option ℕ → Option Step
fired_with (Some machine) (Some generation) = Some (step.Fired machine generation)
fired_with (Some machine) None = None
fired_with None generation = None

abbrev pub fired_of : List (Named ℕ) → List (List ℕ) → Option Step
fired_of machines words = fired_with (machine_of machines words) (large (rest_of words))

-- what came on a connection
abbrev pub came_with : Option ℕ → Option (List ℕ) → Option Step
came_with (Some line) (Some piece) = Some (step.Came line piece)
came_with (Some line) None = None
came_with None piece = None

abbrev pub came_of : List (List ℕ) → Option Step
came_of words = came_with (small words) (piece_of (rest_of words))

-- by the command, and the words behind it
abbrev pub guess_of : Names → Command → List (List ℕ) → Option Step
guess_of names Join words = Some step.Joined
guess_of names Dialled words = option_map step.Dialled (small words)
guess_of names Came words = came_of words
guess_of names Lost words = option_map step.Lost (small words)
guess_of names Told words = told_of names.kinds words
guess_of names Fired words = fired_of names.machines words
guess_of names Lift words = option_map step.Lift (source_of words)
guess_of names Drop words = option_map step.Drop (source_of words)
guess_of names Work words = option_map step.Work (small words)
