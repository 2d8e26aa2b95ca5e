use Rattle.std.proofs.Common.{◌≡◌, take}
use Rattle.std.specs.List.{list_all}
use Rattle.bench_parts.specs.Views.{kept_of}
use Rattle.bench_gather.specs.Checks.{is_did}
use Rattle.bench_gather.proofs.stand.are_did.Given as goal

-- whether those so far are no looks
abbrev pub invariant-loop-note : goal.invariant-loop-note
invariant-loop-note l = l.did ≡ list_all (λ note. is_did (kept_of note)) (take l.note-index l.notes)
