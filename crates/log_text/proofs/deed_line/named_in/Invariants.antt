use Rattle.std.proofs.Common.{◌≡◌, drop}
use Rattle.std.specs.List.{find}
use Rattle.std.specs.Str.{bytes_eq}
use Rattle.base_codes.specs.DeedCodes.{name_of}
use Rattle.log_text.proofs.deed_line.named_in.Given as goal

-- none that was looked at has the name
abbrev pub invariant-loop-code : goal.invariant-loop-code
invariant-loop-code l = find (λ code. bytes_eq l.word (name_of code)) l.codes ≡ find (λ code. bytes_eq l.word (name_of code)) (drop l.code-index l.codes)
