-- The parts of commands: numbers, keys, rows of tables, registers.
use Rattle.std.specs.Prelude.{ℕ, ◌==◌, nat_lt, List, [], ◌∷◌, Option, Some, None, Result, Ok, Err, codes, if◌then◌else◌}
use Rattle.std.specs.List.{slice_split}
use Rattle.std.specs.Str.{bytes_eq}
use Rattle.base_text.specs.Numbers.{number_of}
use Rattle.bench_item.specs.declared.key.Key.{Key}
use Rattle.bench_item.specs.declared.key.Role.{Role}
use Rattle.bench_item.specs.declared.key.Role.TheVariants.{Peer, Client, Server}
use Rattle.script_text.specs.Keys as keys
use Rattle.tab_law.specs.declared.limits.TheConstants.{PLACES}
use Rattle.text_parts.specs.Words.{Word}
use Rattle.debug_text.specs.declared.command.CommandFault.{CommandFault}
use Rattle.debug_text.specs.declared.command.CommandFault.TheVariants.{UnknownCommand, BadNumber}

-- a number, or the fault
abbrev pub number_or : Option ℕ → Result ℕ CommandFault
number_or None = Err BadNumber
number_or (Some number) = Ok number

-- words that are one number
abbrev pub one_number : List Word → Result ℕ CommandFault
one_number [] = Err UnknownCommand
one_number (word ∷ []) = number_or (number_of word.octets)
one_number (word ∷ other ∷ others) = Err UnknownCommand

-- a key, or the fault
abbrev pub key_or : CommandFault → Option Key → Result Key CommandFault
key_or fault None = Err fault
key_or fault (Some key) = Ok key

-- words that are one key; a word that is none has this fault
abbrev pub one_key : CommandFault → List Word → Result Key CommandFault
one_key fault [] = Err UnknownCommand
one_key fault (word ∷ []) = key_or fault (keys.key_of word.octets)
one_key fault (word ∷ other ∷ others) = Err UnknownCommand

-- the role of a word
abbrev pub role_of : List ℕ → Option Role
role_of word =
    if bytes_eq word (codes "peer") then Some Peer
    else (if bytes_eq word (codes "client") then Some Client
    else (if bytes_eq word (codes "server") then Some Server else None))

-- a row of a role's table: an unknown role is told before a bad number
abbrev pub row_with : Option Role → Option ℕ → Result (Role × ℕ) CommandFault
row_with None row = Err UnknownCommand
row_with (Some role) None = Err BadNumber
row_with (Some role) (Some row) = Ok (role, row)

-- words that are a role and a row
abbrev pub row_of : List Word → Result (Role × ℕ) CommandFault
row_of [] = Err UnknownCommand
row_of (role ∷ []) = Err UnknownCommand
row_of (role ∷ row ∷ []) = row_with (role_of role.octets) (number_of row.octets)
row_of (role ∷ row ∷ other ∷ others) = Err UnknownCommand

-- the role that a key's letter names
abbrev pub role_in : List ℕ → Option Role
role_in [] = None
role_in (mark ∷ []) = None
role_in (mark ∷ colon ∷ name) = if colon == 58 then keys.role_of mark else None

-- a register and a value: there is such a register
abbrev pub register_with : Option ℕ → Option ℕ → Result (ℕ × ℕ) CommandFault
register_with None value = Err BadNumber
register_with (Some register) None = Err BadNumber
register_with (Some register) (Some value) = if nat_lt register PLACES then Ok (register, value) else Err BadNumber

-- the same of the two parts of `R=V`
abbrev pub register_from : List (List ℕ) → Result (ℕ × ℕ) CommandFault
register_from [] = Err UnknownCommand
register_from (register ∷ []) = Err UnknownCommand
register_from (register ∷ value ∷ []) = register_with (number_of register) (number_of value)
register_from (register ∷ value ∷ other ∷ others) = Err UnknownCommand

-- the register and the value of `rR=V`
abbrev pub register_of : List ℕ → Result (ℕ × ℕ) CommandFault
register_of [] = Err UnknownCommand
register_of (mark ∷ rest) = if mark == 114 then register_from (slice_split (λ c. c == 61) rest) else Err UnknownCommand
