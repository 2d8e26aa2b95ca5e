-- Whole images: what a loaded program has, and the first fault of an image that is refused.
use Rattle.std.specs.Prelude.{◌≡◌, ℕ, ◌+◌, ◌*◌, ◌<◌, ◌≤◌, ◌⊎◌, Bool, true, false, List, []}
use Rattle.std.specs.Prelude.{◌++◌, All, Option, Some, None, length, take, drop, map}
use Rattle.std.specs.List.{flat_map, list_all}
use Rattle.std.specs.Int.{to_be_bytes}
use Rattle.base_list.specs.Named.{place_of}
use Rattle.base_list.specs.declared.named.Named.{Named}
use Rattle.tab_law.specs.Books.{Laws}
use Rattle.tab_asm.specs.Formats.{Instruction}
use Rattle.tab_asm.specs.Images.{Image, offset_octets}
use Rattle.tab_load.specs.Faults.{format_of, width_of, code_limit, BeginsWith}
use Rattle.tab_load.specs.Faults.{MagicWrong, count_fault, CountsWrong, CountsOf}
use Rattle.tab_load.specs.Names.{next_fault, NamesWrong, NamesOf}
use Rattle.tab_load.specs.Code.{ScanWrong, IsCode, EndWrong, IsEnded, GuardWrong}
use Rattle.tab_load.specs.Code.{EntryWrong, EntriesLead, landings, leads}
use Rattle.tab_load.specs.declared.counts.Counts.{Counts}
use Rattle.tab_load.specs.declared.counts.Format.{Format}
use Rattle.tab_load.specs.declared.names.Names.{Names}
use Rattle.tab_load.specs.declared.body.Body.{Body}
use Rattle.tab_load.specs.declared.loading.Head.{Head}
use Rattle.tab_load.specs.declared.names.ImageNames.{ImageNames}
use Rattle.tab_load.specs.declared.fault.ImageFault.{ImageFault}
use Rattle.tab_load.specs.declared.fault.ImageFault.TheVariants.{Cut, Trailing}

-- one list of names, with their places
pub record Listed : Type 0 where
  pub names : List (List ℕ)
  pub places : List ℕ
  pub end : ℕ

abbrev pub listed : Names → Listed
listed names = record { names = names.names.items; places = names.places.items; end = names.end }

-- the names of states, kinds, guards and actions, with where each list ends in the image
pub record Lists : Type 0 where
  pub states : Listed
  pub kinds : Listed
  pub guards : Listed
  pub actions : Listed

abbrev pub lists : ImageNames → Lists
lists names = record {
  states = listed names.states;
  kinds = listed names.kinds;
  guards = listed names.guards;
  actions = listed names.actions;
}

-- where the names begin: behind magic and counts
abbrev pub names_begin : ℕ
names_begin = 14

-- memory is taken from the first name on: the format, the counts and that name have no fault
pub record TakesMemory (laws : Laws) (octets : List ℕ) : Type 0 where
  pub format : Format
  pub begins : BeginsWith format octets
  pub counts : (number : ℕ) → number < 5 → count_fault format octets number ≡ None
  pub first : next_fault false laws.kinds [] (drop names_begin octets) ≡ None

-- the names that were read are those of a list of that many, which begins there in the image
abbrev pub NamesIn : {T : Type 0} → Bool → List (Named T) → List ℕ → ℕ → ℕ → Names → Type 0
NamesIn bound entries octets begin count names =
    NamesOf bound entries octets begin count names.end names.names.items names.places.items

-- the next name behind these has no fault
abbrev pub NextFine : {T : Type 0} → Bool → List (Named T) → List ℕ → Names → Type 0
NextFine bound entries octets names = next_fault bound entries names.names.items (drop names.end octets) ≡ None

-- these are the names: those of kinds, guards and actions are in the book
pub record NamesAre (laws : Laws) (octets : List ℕ) (counts : Counts) (names : Lists) : Type 0 where
  pub states : NamesOf false laws.kinds octets names_begin counts.states names.states.end names.states.names
      names.states.places
  pub kinds : NamesOf true laws.kinds octets names.states.end counts.kinds names.kinds.end names.kinds.names
      names.kinds.places
  pub guards : NamesOf true laws.guards octets names.kinds.end counts.guards names.guards.end names.guards.names
      names.guards.places
  pub actions : NamesOf true laws.acts octets names.guards.end counts.actions names.actions.end names.actions.names
      names.actions.places

-- the first name that is wrong: the lists before it are whole
pub data AnyNameWrong (laws : Laws) (octets : List ℕ) (counts : Counts) (at : ℕ) (fault : ImageFault) : Type 0 where
  AtState : NamesWrong false laws.kinds octets names_begin counts.states at fault
      → AnyNameWrong laws octets counts at fault
  AtKind :
      (states : Listed)
      → NamesOf false laws.kinds octets names_begin counts.states states.end states.names states.places
      → NamesWrong true laws.kinds octets states.end counts.kinds at fault
      → AnyNameWrong laws octets counts at fault
  AtGuard :
      (states kinds : Listed)
      → NamesOf false laws.kinds octets names_begin counts.states states.end states.names states.places
      → NamesOf true laws.kinds octets states.end counts.kinds kinds.end kinds.names kinds.places
      → NamesWrong true laws.guards octets kinds.end counts.guards at fault
      → AnyNameWrong laws octets counts at fault
  AtAction :
      (states kinds guards : Listed)
      → NamesOf false laws.kinds octets names_begin counts.states states.end states.names states.places
      → NamesOf true laws.kinds octets states.end counts.kinds kinds.end kinds.names kinds.places
      → NamesOf true laws.guards octets kinds.end counts.guards guards.end guards.names guards.places
      → NamesWrong true laws.acts octets guards.end counts.actions at fault
      → AnyNameWrong laws octets counts at fault

-- an offset is a number that its octets hold, and not the one that stands for none
abbrev pub IsOffset : Format → Option ℕ → Type 0
IsOffset format None = Unit {0}
IsOffset format (Some offset) = offset < (format_of format).no_offset

-- the entries begin there in the image: one for each state and kind, and behind them the code's length
pub record EntriesOf
    (format : Format) (octets : List ℕ) (begin count : ℕ) (entries : List (Option ℕ)) (size : ℕ) : Type 0 where
  pub many : length entries ≡ count
  pub fits : All (IsOffset format) entries
  pub size_fits : size < code_limit format
  pub front : take (begin + width_of format * count) octets
      ≡ take begin octets ++ flat_map (offset_octets (format_of format)) entries
  pub stated : drop (begin + width_of format * count) octets
      ≡ to_be_bytes (format_of format).width size ++ drop (begin + width_of format * count + width_of format) octets
  pub inside : begin + width_of format * count + width_of format ≤ length octets

-- the image ends before the code's length does, or before the code has that length
abbrev pub CutWrong : Format → List ℕ → ℕ → ℕ → ℕ → ImageFault → Type 0
CutWrong format octets begin count at Cut =
    (at ≡ length octets)
    × ((length octets < begin + width_of format * count + width_of format)
    ⊎ ((entries : List (Option ℕ)) × (size : ℕ) × EntriesOf format octets begin count entries size
    × (length octets < begin + width_of format * count + width_of format + size)))
CutWrong format octets begin count at other = ⊥

-- the first fault of code that is whole; it and the entries begin there in the image
pub data CodeWrong (format : Format) (counts : Counts) (code : List ℕ) (entries : List (Option ℕ))
    (begin table whole at : ℕ) (fault : ImageFault) : Type 0 where
  AtStep : ScanWrong format counts code begin whole at fault
      → CodeWrong format counts code entries begin table whole at fault
  AtEnd :
      (instructions : List Instruction)
      → IsCode format counts code instructions
      → EndWrong format instructions entries begin at fault
      → CodeWrong format counts code entries begin table whole at fault
  AtGuard :
      (instructions : List Instruction)
      → IsCode format counts code instructions
      → IsEnded instructions
      → GuardWrong format instructions begin at fault
      → CodeWrong format counts code entries begin table whole at fault
  AtEntry :
      (instructions : List Instruction)
      → IsCode format counts code instructions
      → IsEnded instructions
      → list_all (leads (landings format instructions)) instructions ≡ true
      → EntryWrong format instructions entries table at fault
      → CodeWrong format counts code entries begin table whole at fault

-- these are the instructions of the code, which ends, and guards and entries lead where a jump may lead
pub record IsSound
    (format : Format) (counts : Counts) (code : List ℕ) (entries : List (Option ℕ)) (instructions : List Instruction)
    : Type 0 where
  pub is_code : IsCode format counts code instructions
  pub ended : IsEnded instructions
  pub guards : list_all (leads (landings format instructions)) instructions ≡ true
  pub entries_lead : EntriesLead format instructions entries

-- some instructions are those of the code
abbrev pub IsSoundCode : Format → Counts → List ℕ → List (Option ℕ) → Type 0
IsSoundCode format counts code entries =
    (instructions : List Instruction) × IsSound format counts code entries instructions

-- an image begins with a format, counts and names without a fault
pub record IsHead (laws : Laws) (octets : List ℕ) (format : Format) (counts : Counts) (names : Lists) : Type 0 where
  pub begins : BeginsWith format octets
  pub counts_are : CountsOf format octets counts
  pub names_are : NamesAre laws octets counts names

-- how many entries there are
abbrev pub entry_count : Counts → ℕ
entry_count counts = counts.states * counts.kinds

-- where the code begins
abbrev pub code_begin : Format → Counts → Lists → ℕ
code_begin format counts names = names.actions.end + width_of format * entry_count counts + width_of format

-- behind these an image has entries and code of that size, all of which is there
pub record HasBody
    (octets : List ℕ) (format : Format) (counts : Counts) (names : Lists) (entries : List (Option ℕ)) (size : ℕ)
    : Type 0 where
  pub entries_are : EntriesOf format octets names.actions.end (entry_count counts) entries size
  pub whole : code_begin format counts names + size ≤ length octets

-- the same of what a loader keeps of them
abbrev pub HasBodyOf : List ℕ → Head → Body → Type 0
HasBodyOf octets head body =
    HasBody octets head.format head.counts (lists head.names) body.entries.items body.size

-- the octets of the code
abbrev pub code_in : List ℕ → ℕ → ℕ → List ℕ
code_in octets begin size = take size (drop begin octets)

-- the code that begins there, of what a loader keeps, is sound
abbrev pub IsSoundBody : List ℕ → Head → Body → ℕ → Type 0
IsSoundBody octets head body begin =
    IsSoundCode head.format head.counts (code_in octets begin body.size) body.entries.items

-- the first fault of an image, in octet order, and its place: what stands before the part that is wrong has no fault
pub data HasFault (laws : Laws) (octets : List ℕ) (at : ℕ) (fault : ImageFault) : Type 0 where
  InMagic : MagicWrong octets at fault → HasFault laws octets at fault
  InCounts : (format : Format) → BeginsWith format octets → CountsWrong format octets at fault
      → HasFault laws octets at fault
  InNames :
      (format : Format) (counts : Counts)
      → BeginsWith format octets
      → CountsOf format octets counts
      → AnyNameWrong laws octets counts at fault
      → HasFault laws octets at fault
  InBody :
      (format : Format) (counts : Counts) (names : Lists)
      → IsHead laws octets format counts names
      → CutWrong format octets names.actions.end (entry_count counts) at fault
      → HasFault laws octets at fault
  InCode :
      (format : Format) (counts : Counts) (names : Lists) (entries : List (Option ℕ)) (size : ℕ)
      → IsHead laws octets format counts names
      → HasBody octets format counts names entries size
      → CodeWrong format counts (code_in octets (code_begin format counts names) size) entries
      (code_begin format counts names) names.actions.end (length octets) at fault
      → HasFault laws octets at fault
  BehindCode :
      (format : Format) (counts : Counts) (names : Lists) (entries : List (Option ℕ)) (size : ℕ)
      (instructions : List Instruction)
      → IsHead laws octets format counts names
      → HasBody octets format counts names entries size
      → IsSound format counts (code_in octets (code_begin format counts names) size) entries instructions
      → at < length octets
      → at ≡ code_begin format counts names + size
      → fault ≡ Trailing
      → HasFault laws octets at fault

-- a program: its image, and where the names of kinds, guards and actions stand in a book
pub record Loaded : Type 0 where
  pub format : Format
  pub image : Image
  pub kind_places : List ℕ
  pub guard_places : List ℕ
  pub act_places : List ℕ

-- the program that its parts make up
abbrev pub loaded : Format → Lists → ℕ → List (Option ℕ) → List ℕ → Loaded
loaded format names rows entries code = record {
  format = format;
  image = record {
    states = names.states.names;
    kinds = names.kinds.names;
    guards = names.guards.names;
    actions = names.actions.names;
    rows = rows;
    entries = entries;
    code = code;
  };
  kind_places = names.kinds.places;
  guard_places = names.guards.places;
  act_places = names.actions.places;
}

-- how many names and rows an image has
abbrev pub counts_of : Image → Counts
counts_of image = record {
  states = length image.states;
  kinds = length image.kinds;
  guards = length image.guards;
  actions = length image.actions;
  rows = image.rows;
}

-- a program fits a book: its code is sound and its offsets and rows have room in its instructions, and each of its
-- kinds, guards and actions has its place there
pub record IsLoaded (laws : Laws) (program : Loaded) : Type 0 where
  pub instructions : List Instruction
  pub sound : IsSound program.format (counts_of program.image) program.image.code program.image.entries instructions
  pub short : length program.image.code < code_limit program.format
  pub few_rows : program.image.rows ≤ 65536
  pub many : length program.image.entries ≡ length program.image.states * length program.image.kinds
  pub kinds : map (λ name. place_of name laws.kinds) program.image.kinds ≡ map Some program.kind_places
  pub guards : map (λ name. place_of name laws.guards) program.image.guards ≡ map Some program.guard_places
  pub actions : map (λ name. place_of name laws.acts) program.image.actions ≡ map Some program.act_places

-- a program has what the octets of an image spell, part by part and nothing behind them
pub record IsReadFrom (laws : Laws) (octets : List ℕ) (program : Loaded) : Type 0 where
  pub counts : Counts
  pub names : Lists
  pub size : ℕ
  pub head : IsHead laws octets program.format counts names
  pub body : HasBody octets program.format counts names program.image.entries size
  pub end : code_begin program.format counts names + size ≡ length octets
  pub code : program.image.code ≡ code_in octets (code_begin program.format counts names) size
  pub rows : program.image.rows ≡ counts.rows
  pub states : program.image.states ≡ names.states.names
  pub kinds : program.image.kinds ≡ names.kinds.names
  pub guards : program.image.guards ≡ names.guards.names
  pub actions : program.image.actions ≡ names.actions.names
