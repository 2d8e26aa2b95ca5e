-- What was answered by a debugger is what it replies.
use Rattle.std.proofs.Common.{◌≡◌, ℕ, List, Option, None, inl, inr, subst}
use Rattle.std.specs.Io.KnownBytes.{Consumes}
use Rattle.base_device.specs.declared.status.Status.{Status}
use Rattle.base_dialog.specs.Told.{IsAnswered, IsAnsweredFrom}
use Rattle.bench_debug.specs.Debug.{Debugging}
use Rattle.bench_debug.specs.Seen.{seen}
use Rattle.bench_spec.specs.Opening.{Config}
use Rattle.cmd_debug.specs.Opened.{refusal_of, start_of}
use Rattle.cmd_debug.specs.Sessions.{IsSession}
use Rattle.cmd_debug.specs.Told.{IsDebugOn}
use Rattle.cmd_debug.specs.declared.session.Session.{Session}

-- what a session answered
abbrev pub Answers : Session → Session → List (List ℕ) → List ℕ → Type 0
Answers start now lines said = IsSession (seen start.debugger) (seen now.debugger) lines said

replies : {I O : Type 0} (remaining : I → Option (List ℕ)) (reads failures : I → ℕ) (contents : O → Option (List ℕ)) (write_failures idle : O → ℕ) (config : Config) (script : List ℕ) (start : Session) (source turned source' : I) (sink sink' : O) (answer : Status)
    → refusal_of config script ≡ None → seen start.debugger ≡ start_of config script → reads turned ≡ reads source → failures turned ≡ failures source
    → IsAnsweredFrom Answers start remaining failures contents write_failures idle turned source' sink sink' answer
    → IsDebugOn remaining reads failures contents write_failures idle config script source source' sink sink' answer
replies remaining reads failures contents write_failures idle config script start source turned source' sink sink' answer free begun no_read sound (inl all) =
    inl (record {
      free = free;
      commands = all.text;
      read = record { start = turned; no_read = no_read; sound = sound; read = all.read };
      lines = all.answered.lines;
      are_lines = all.answered.are;
      new = seen all.answered.now.debugger;
      said = all.said;
      session = subst (λ (d : Debugging). IsSession d (seen all.answered.now.debugger) all.answered.lines all.said) begun all.answered.answered;
      told = all.told;
    })
replies remaining reads failures contents write_failures idle config script start source turned source' sink sink' answer free begun no_read sound (inr short) =
    inr (inl (record {
      free = free;
      turned = turned;
      no_read = no_read;
      sound = sound;
      front = short.answered.front;
      back = short.answered.back;
      read = subst (λ (xs : List ℕ). Consumes (remaining turned) (remaining source') xs) short.answered.split short.read;
      lines = short.answered.lines;
      begun = short.answered.begun;
      cut = short.answered.cut;
      new = seen short.answered.now.debugger;
      said = short.said;
      session = subst (λ (d : Debugging). IsSession d (seen short.answered.now.debugger) short.answered.lines short.said) begun short.answered.answered;
      told = short.told;
    }))

pub replies_on : {I O : Type 0} (remaining : I → Option (List ℕ)) (reads failures : I → ℕ) (contents : O → Option (List ℕ)) (write_failures idle : O → ℕ) (config : Config) (script : List ℕ) (start : Session) (source source' : I) (sink sink' : O) (answer : Status)
    → refusal_of config script ≡ None → seen start.debugger ≡ start_of config script
    → IsAnswered Answers start remaining reads failures contents write_failures idle source source' sink sink' answer
    → IsDebugOn remaining reads failures contents write_failures idle config script source source' sink sink' answer
replies_on remaining reads failures contents write_failures idle config script start source source' sink sink' answer free begun answered =
    replies remaining reads failures contents write_failures idle config script start source answered.turned source' sink sink' answer free begun answered.no_read answered.sound answered.dialog
