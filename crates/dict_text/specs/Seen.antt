-- What the code has of a line, as values.
use Rattle.std.specs.Prelude.{ℕ, List, Result, Ok, Err}
use Rattle.dict_text.specs.declared.entries.Head.{Head}
use Rattle.dict_text.specs.declared.entries.Entry.{Entry}
use Rattle.dict_text.specs.declared.wrong.Mistake.{Mistake}
use Rattle.dict_text.specs.Entries.{Entry as EntryRead, Head as HeadRead}
use Rattle.dict_text.specs.Wrong.{Wrong, seen_mistake}

abbrev pub seen_head : Head → HeadRead
seen_head h = record { code = h.code; vendor = h.vendor; name = h.name.now; kind = h.kind }

abbrev pub seen_entry : Entry → EntryRead
seen_entry e = record { head = seen_head e.head; names = e.names.items }

-- what was read of an AVP, with the words behind it
abbrev pub seen_read : Result Head Mistake → List (List ℕ) → Result (HeadRead × List (List ℕ)) Wrong
seen_read (Ok head) rest = Ok (seen_head head, rest)
seen_read (Err m) rest = Err (seen_mistake m)
