use Rattle.std.proofs.Common.{◌≡◌, drop}
use Rattle.std.specs.List.{find}
use Rattle.std.specs.Str.{bytes_eq}
use Rattle.debug_text.specs.Verbs.{name_of}
use Rattle.debug_text.proofs.verb.named_in.Given as goal

-- none that was looked at has the word
abbrev pub invariant-loop-verb : goal.invariant-loop-verb
invariant-loop-verb l = find (λ verb. bytes_eq l.word (name_of verb)) l.verbs ≡ find (λ verb. bytes_eq l.word (name_of verb)) (drop l.verb-index l.verbs)
