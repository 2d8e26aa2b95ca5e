-- The length of an encoding, and that it is one message.
use Rattle.std.proofs.Common.{◌≡◌, ℕ, ◌+◌, ◌*◌, ◌/◌, ◌<◌, ◌≤◌, ◌^◌, Bool, List, [], ◌∷◌, ◌++◌, length, take, drop, get_or, map, false, refl, sym, ap, ◌∙◌, arith, append_assoc}
use Rattle.std.specs.List.{flat_map}
use Rattle.std.proofs.lemmas.List.{length-append, take_more, append-nil}
use Rattle.std.proofs.lemmas.List.Concat.{flat_map-append}
use Rattle.std.proofs.lemmas.List.Folds.{length-flat_map-take, flat_map-map}
use Rattle.byteorder.specs.Numbers.{big_number-reads_back}
use Rattle.dia_avp.specs.declared.avp.Avp.{Avp}
use Rattle.dia_avp.specs.Encoding.{length_of, encoded, encoding}
use Rattle.dia_avp.proofs.Encoded.{length_encoded}
use Rattle.dia_frame.proofs.LawLemmas.{first_frame}
use Rattle.dia_command.specs.declared.command.Command.{Command}
use Rattle.dia_write.specs.Framing.{IsWholeMessage, IsFirstFrame}
use Rattle.dia_command.specs.declared.format.AvpFormat.{AvpFormat}
use Rattle.dia_write.specs.declared.values.Values.{Values}
use Rattle.dia_command.specs.Format.{format_of}
use Rattle.dia_command.specs.declared.typed.TypedAvp.{TypedAvp}
use Rattle.dia_command.specs.Field.{Field, avp_of, avps_by}
use Rattle.dia_command.specs.Header.{header_octets}
use Rattle.dia_command.specs.Command.{kind_of, header_of, rest_of, fields, avps_of}
use Rattle.dia_write.specs.Values.{avp_with, field_of, values_avps}
use Rattle.dia_write.specs.Encoding.{message_len, encode}

-- an encoding is no shorter than the AVP Length
pub length_of-encoded : (a : Avp) → length_of a ≤ length (encoded a)
length_of-encoded a = omega (arith, length_encoded a)

-- an AVP without vendor has 8 octets, its data, and padding to a multiple of 4
pub length_with : (code : ℕ) (mandatory protected : Bool) (octets : List ℕ) → length (encoded (avp_with code mandatory protected octets)) ≡ (8 + length octets + 3) / 4 * 4
unfolding length_of
length_with code mandatory protected octets = length_encoded (avp_with code mandatory protected octets)

-- the encoding of a value's AVP under a code
abbrev pub coded : {T : Type 0} → (T → List ℕ) → ℕ → TypedAvp T → List ℕ
coded data_of code value = encoded (avp_of data_of code value)

-- the AVPs of values are encoded value by value
pub encoding-values : {T : Type 0} (data_of : T → List ℕ) (code : ℕ) (list : List (TypedAvp T)) → encoding (map (avp_of data_of code) list) ≡ flat_map (coded data_of code) list
encoding-values data_of code list = flat_map-map encoded (avp_of data_of code) list

-- one piece more
pub pieces-more : {X : Type 0} (f : X → List ℕ) (xs : List X) (i : ℕ) (x : X) → i < length xs → x ≡ get_or xs i x → flat_map f (take (i + 1) xs) ≡ flat_map f (take i xs) ++ f x
pieces-more f xs i x lt e =
    ap (flat_map f) (take_more xs i x lt) ∙ flat_map-append f (take i xs) (get_or xs i x ∷ []) ∙ rw (← e) (ap (λ (y : List ℕ). flat_map f (take i xs) ++ y) (append-nil (f x)))

pub length-pieces-more : {X : Type 0} (f : X → List ℕ) (xs : List X) (i : ℕ) (x : X) → i < length xs → x ≡ get_or xs i x → length (flat_map f (take (i + 1) xs)) ≡ length (flat_map f (take i xs)) + length (f x)
length-pieces-more f xs i x lt e = omega (arith, ap length (pieces-more f xs i x lt e), length-append (flat_map f (take i xs)) (f x))

-- the next piece is among all
pub length-pieces-next : {X : Type 0} (f : X → List ℕ) (xs : List X) (i : ℕ) (x : X) → i < length xs → x ≡ get_or xs i x → length (flat_map f (take i xs)) + length (f x) ≤ length (flat_map f xs)
length-pieces-next {X} f xs i x lt e = omega (arith, length-flat_map-take f xs i x lt, ap (λ (y : X). length (f y)) e)

-- room for all is room for the next
pub room-next : {X : Type 0} (f : X → List ℕ) (xs : List X) (i : ℕ) (x : X) (start out : List ℕ) (room : ℕ) → i < length xs → x ≡ get_or xs i x → out ≡ start ++ flat_map f (take i xs) → length start + length (flat_map f xs) ≤ room → length out + length (f x) ≤ room
room-next f xs i x start out room lt e is fits = omega (arith, ap length is, length-append start (flat_map f (take i xs)), length-pieces-next f xs i x lt e)

-- the next piece is written behind those before
pub written-next : {X : Type 0} (f : X → List ℕ) (xs : List X) (i : ℕ) (x : X) (start out new : List ℕ) → i < length xs → x ≡ get_or xs i x → out ≡ start ++ flat_map f (take i xs) → new ≡ out ++ f x → new ≡ start ++ flat_map f (take (i + 1) xs)
written-next f xs i x start out new lt e is more =
    more ∙ ap (λ (l : List ℕ). l ++ f x) is ∙ append_assoc start (flat_map f (take i xs)) (f x) ∙ ap (λ (l : List ℕ). start ++ l) (sym (pieces-more f xs i x lt e))

-- AVPs with their padding are a multiple of 4
encoding-fours : (list : List Avp) → (k : ℕ) × (length (encoding list) ≡ k * 4)
encoding-fours [] = (0, refl)
encoding-fours (a ∷ list) =
    let next = encoding-fours list in
    let all : length (encoding (a ∷ list)) ≡ length (encoded a) + length (encoding list) = length-append (encoded a) (encoding list) in
    ((length_of a + 3) / 4 + next.0, omega (arith, length_encoded a, next.1))

pub length-encode : (command : Command) → length (encode command) ≡ message_len command
unfolding encode
length-encode command = length-append (header_octets (header_of command) (message_len command)) (encoding (avps_of command))

-- AVPs are encoded one after the other
pub length-parts : (list rest : List Avp) → length (encoding (list ++ rest)) ≡ length (encoding list) + length (encoding rest)
length-parts list rest = ap length (flat_map-append encoded list rest) ∙ length-append (encoding list) (encoding rest)

pub encoding-parts : (out : List ℕ) (list rest : List Avp) → (out ++ encoding list) ++ encoding rest ≡ out ++ encoding (list ++ rest)
encoding-parts out list rest =
    append_assoc out (encoding list) (encoding rest) ∙ ap (λ (l : List ℕ). out ++ l) (sym (flat_map-append encoded list rest))

-- what an encoding is made of
pub encode-parts : (command : Command) (out : List ℕ) (list : List Avp) → list ≡ avps_of command → (out ++ header_octets (header_of command) (message_len command)) ++ encoding list ≡ out ++ encode command
unfolding encode
encode-parts command out list e =
    let front = header_octets (header_of command) (message_len command) in
    append_assoc out front (encoding list) ∙ ap (λ (l : List Avp). out ++ (front ++ encoding l)) e

-- a command's octets behind those before
pub encode-behind : (command : Command) (out room : List ℕ) (list : List Avp) (len : ℕ) → list ≡ avps_of command → len ≡ message_len command → room ≡ header_octets (header_of command) len ++ encoding list → out ++ room ≡ out ++ encode command
encode-behind command out room list len e l is =
    ap (λ (x : List ℕ). out ++ x) (is ∙ ap (λ (n : ℕ). header_octets (header_of command) n ++ encoding list) l)
    ∙ sym (append_assoc out (header_octets (header_of command) (message_len command)) (encoding list)) ∙ encode-parts command out list e

-- an encoding is one message by its own header
pub encode-whole : (command : Command) → message_len command < 2 ^ 24 → IsWholeMessage (encode command)
unfolding encode
encode-whole command short =
    let len = length-encode command in
    let fours = encoding-fours (avps_of command) in
    record {
      version = refl;
      length_is = big_number-reads_back 3 (message_len command) (drop 4 (encode command)) short ∙ sym len;
      has_header = omega arith;
      aligned = omega (arith, fours.1);
    }

-- a whole message is the first frame of what it begins
whole-first_frame : (octets : List ℕ) → IsWholeMessage octets → IsFirstFrame octets
whole-first_frame octets w limit after messages rest short frames =
    first_frame limit octets after messages rest (record { version = w.version; own = w.length_is; least = w.has_header; fours = w.aligned; most = short }) frames

pub encode-first_frame : (command : Command) → message_len command < 2 ^ 24 → IsFirstFrame (encode command)
encode-first_frame command short = whole-first_frame (encode command) (encode-whole command short)

-- the AVPs of values that are a command's fields, by its format, and then its rest
pub avps-all : (command : Command) (format : List AvpFormat) (values : List Values) → format ≡ format_of (kind_of command) false → map field_of values ≡ fields command → values_avps format values ++ rest_of command ≡ avps_of command
avps-all command format values e f =
    ap (λ (x : List AvpFormat). avps_by x (map field_of values) ++ rest_of command) e ∙ ap (λ (x : List Field). avps_by (format_of (kind_of command) false) x ++ rest_of command) f

-- no fields are no AVPs
pub values_avps-none : (format : List AvpFormat) (values : List Values) → length values ≡ 0 → values_avps format values ≡ []
values_avps-none [] values e = refl
values_avps-none (f ∷ format) [] e = refl
values_avps-none (f ∷ format) (v ∷ values) e = absurd (omega arith)
