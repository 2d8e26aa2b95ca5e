-- The first word of a command.
use Rattle.std.specs.Prelude.{ℕ, List, Option, Some, None, codes, if◌then◌else◌}
use Rattle.std.specs.Str.{bytes_eq}
use Rattle.debug_text.specs.declared.verb.Verb.{Verb}
use Rattle.debug_text.specs.declared.verb.Verb.TheVariants.{Step, Back, Go, ReverseGo, Goto, Break, Clear, Show}
use Rattle.debug_text.specs.declared.verb.Verb.TheVariants.{ListRow, TotalsOf, Where, Help, History, Why, Queues}
use Rattle.debug_text.specs.declared.verb.Verb.TheVariants.{Timers, Lines, Sent, Accounts}

abbrev pub name_of : Verb → List ℕ
name_of Step = codes "step"
name_of Back = codes "back"
name_of Go = codes "go"
name_of ReverseGo = codes "rgo"
name_of Goto = codes "goto"
name_of Break = codes "break"
name_of Clear = codes "clear"
name_of Show = codes "show"
name_of ListRow = codes "list"
name_of TotalsOf = codes "totals"
name_of Where = codes "where"
name_of Help = codes "help"
name_of History = codes "history"
name_of Why = codes "why"
name_of Queues = codes "queues"
name_of Timers = codes "timers"
name_of Lines = codes "lines"
name_of Sent = codes "sent"
name_of Accounts = codes "accounts"

-- the verb of a word
abbrev pub verb_of : List ℕ → Option Verb
verb_of word =
    if bytes_eq word (codes "step") then Some Step
    else if bytes_eq word (codes "back") then Some Back
    else if bytes_eq word (codes "go") then Some Go
    else if bytes_eq word (codes "rgo") then Some ReverseGo
    else if bytes_eq word (codes "goto") then Some Goto
    else if bytes_eq word (codes "break") then Some Break
    else if bytes_eq word (codes "clear") then Some Clear
    else if bytes_eq word (codes "show") then Some Show
    else if bytes_eq word (codes "list") then Some ListRow
    else if bytes_eq word (codes "totals") then Some TotalsOf
    else if bytes_eq word (codes "where") then Some Where
    else if bytes_eq word (codes "help") then Some Help
    else if bytes_eq word (codes "history") then Some History
    else if bytes_eq word (codes "why") then Some Why
    else if bytes_eq word (codes "queues") then Some Queues
    else if bytes_eq word (codes "timers") then Some Timers
    else if bytes_eq word (codes "lines") then Some Lines
    else if bytes_eq word (codes "sent") then Some Sent
    else if bytes_eq word (codes "accounts") then Some Accounts
    else None
