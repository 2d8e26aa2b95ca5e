use Rattle.std.proofs.Common.{◌≡◌, ℕ, ◌+◌, ◌-◌, ◌*◌, ◌<◌, ◌≤◌, inl, inr, true, false, List, ◌++◌, Option, length, drop, arith, refl, sym, ap, ◌∙◌}
use Rattle.std.specs.List.{All, flat_map}
use Rattle.std.specs.Int.{w32, to_be_bytes}
use Rattle.std.proofs.lemmas.List.{length-append, length-drop}
use Rattle.tab_law.specs.Books.{Laws}
use Rattle.tab_text.specs.Contents.{Contents}
use Rattle.tab_asm.specs.Formats.{format_2}
use Rattle.tab_asm.specs.Images.{Image, offset_octets}
use Rattle.tab_asm.specs.Assembled.{image_of}
use Rattle.tab_load.specs.Loading.{Lists, NamesAre, AnyNameWrong, AtState, AtKind, AtGuard, AtAction, IsOffset, EntriesOf, CutWrong, counts_of}
use Rattle.tab_load.specs.declared.counts.Format.TheVariants.{Two}
use Rattle.tab_load.specs.declared.fault.ImageFault.{ImageFault}
use Rattle.tab_load.specs.declared.fault.ImageFault.TheVariants.{Magic, Cut, Count, Name, Unbound, Offset, BackJump, OpCode, NoEnd, Trailing}
use Rattle.tab_image.proofs.FrontLemmas.{behind-part, parts-same, number-same, entries-same, entries-length}
use Rattle.tab_image.proofs.HeadLemmas.{list-same, list-fine}
use Rattle.tab_image.proofs.PartLemmas.{Parts, body_octets}
use Rattle.tab_image.proofs.TableNames.{HasFineNames}

-- names that were read are those of the image, and behind them stands what follows there
pub record AreThese (image : Image) (octets : List ℕ) (names : Lists) : Type 0 where
  pub states : names.states.names ≡ image.states
  pub kinds : names.kinds.names ≡ image.kinds
  pub guards : names.guards.names ≡ image.guards
  pub actions : names.actions.names ≡ image.actions
  pub body : drop names.actions.end octets ≡ body_octets image
  pub inside : names.actions.end ≤ length octets

pub these-names : (laws : Laws) (image : Image) (octets : List ℕ) (names : Lists) → Parts image octets → NamesAre laws octets (counts_of image) names → AreThese image octets names
these-names laws image octets names p are =
    let states = list-same false laws.kinds octets 14 (length image.states) names.states.end names.states.names image.states names.states.places _ are.states refl p.names in
    let kinds = list-same true laws.kinds octets names.states.end (length image.kinds) names.kinds.end names.kinds.names image.kinds names.kinds.places _ are.kinds refl states.1 in
    let guards = list-same true laws.guards octets names.kinds.end (length image.guards) names.guards.end names.guards.names image.guards names.guards.places _ are.guards refl kinds.1 in
    let actions = list-same true laws.acts octets names.guards.end (length image.actions) names.actions.end names.actions.names image.actions names.actions.places _ are.actions refl guards.1 in
    record { states = states.0; kinds = kinds.0; guards = guards.0; actions = actions.0; body = actions.1; inside = are.actions.inside }

-- no name of the image of a bound table is a fault
pub no-name-fault : (laws : Laws) (table : Contents) (octets : List ℕ) (at : ℕ) (fault : ImageFault) → Parts (image_of table) octets → HasFineNames laws table → AnyNameWrong laws octets (counts_of (image_of table)) at fault → ⊥
no-name-fault laws table octets at fault p fine (AtState wrong) =
    list-fine false laws.kinds octets 14 (length table.states) at fault table.states _ fine.states refl p.names wrong
no-name-fault laws table octets at fault p fine (AtKind states are wrong) =
    let behind = list-same false laws.kinds octets 14 (length table.states) states.end states.names table.states states.places _ are refl p.names in
    list-fine true laws.kinds octets states.end (length table.kinds) at fault table.kinds _ fine.kinds refl behind.1 wrong
no-name-fault laws table octets at fault p fine (AtGuard states kinds are kinds_are wrong) =
    let behind = list-same false laws.kinds octets 14 (length table.states) states.end states.names table.states states.places _ are refl p.names in
    let later = list-same true laws.kinds octets states.end (length table.kinds) kinds.end kinds.names table.kinds kinds.places _ kinds_are refl behind.1 in
    list-fine true laws.guards octets kinds.end (length table.guards) at fault table.guards _ fine.guards refl later.1 wrong
no-name-fault laws table octets at fault p fine (AtAction states kinds guards are kinds_are guards_are wrong) =
    let behind = list-same false laws.kinds octets 14 (length table.states) states.end states.names table.states states.places _ are refl p.names in
    let later = list-same true laws.kinds octets states.end (length table.kinds) kinds.end kinds.names table.kinds kinds.places _ kinds_are refl behind.1 in
    let last = list-same true laws.guards octets kinds.end (length table.guards) guards.end guards.names table.guards guards.places _ guards_are refl later.1 in
    list-fine true laws.acts octets guards.end (length table.actions) at fault table.actions _ fine.actions refl last.1 wrong

-- what is known of an image whose body can be read back
pub record HasBodyAt (image : Image) (octets : List ℕ) (end : ℕ) : Type 0 where
  pub body : drop end octets ≡ body_octets image
  pub inside : end ≤ length octets
  pub fits : All (IsOffset Two) image.entries
  pub few : length image.code < 4294967296

-- how many octets there are
pub body-long : (image : Image) (octets : List ℕ) (end : ℕ) → HasBodyAt image octets end → length octets ≡ end + 4 * length image.entries + 4 + length image.code
body-long image octets end has =
    let entries = flat_map (offset_octets format_2) image.entries in
    let size : length (to_be_bytes w32 (length image.code) ++ image.code) ≡ 4 + length image.code = length-append (to_be_bytes w32 (length image.code)) image.code in
    let all : length (body_octets image) ≡ length entries + length (to_be_bytes w32 (length image.code) ++ image.code) = length-append entries (to_be_bytes w32 (length image.code) ++ image.code) in
    let left : length octets - end ≡ length (body_octets image) = sym (length-drop end octets) ∙ ap length has.body in
    let long = entries-length image.entries in
    omega (arith, size, all, left, long, has.inside)

-- entries and size that were read are those of the image, and behind them stands the code
pub record IsThis (image : Image) (octets : List ℕ) (end count : ℕ) (entries : List (Option ℕ)) (size : ℕ) : Type 0 where
  pub entries_are : entries ≡ image.entries
  pub size_is : size ≡ length image.code
  pub code : drop (end + 4 * count + 4) octets ≡ image.code

pub this-body : (image : Image) (octets : List ℕ) (end count : ℕ) (entries : List (Option ℕ)) (size : ℕ) → HasBodyAt image octets end → count ≡ length image.entries → EntriesOf Two octets end count entries size → IsThis image octets end count entries size
this-body image octets end count entries size has many are =
    let behind = sym (behind-part octets end (end + 4 * count) (flat_map (offset_octets format_2) entries) are.front) ∙ has.body in
    let same = entries-same entries image.entries (drop (end + 4 * count) octets) (to_be_bytes w32 (length image.code) ++ image.code) (are.many ∙ many) are.fits has.fits behind in
    let parts = parts-same (to_be_bytes w32 size) (drop (end + 4 * count + 4) octets) (to_be_bytes w32 (length image.code)) image.code refl (sym are.stated ∙ same.1) in
    record { entries_are = same.0; size_is = number-same size (length image.code) are.size_fits has.few parts.0; code = parts.1 }

-- the image isn't cut off
pub not-cut : (image : Image) (octets : List ℕ) (end count at : ℕ) (fault : ImageFault) → HasBodyAt image octets end → count ≡ length image.entries → CutWrong Two octets end count at fault → ⊥
not-cut image octets end count at Cut has many (place, inl short) =
    let long = body-long image octets end has in
    omega (arith, many, long, short)
not-cut image octets end count at Cut has many (place, inr (entries, size, are, short)) =
    let long = body-long image octets end has in
    let this = this-body image octets end count entries size has many are in
    omega (arith, many, long, short, this.size_is)
not-cut image octets end count at Magic has many wrong = wrong
not-cut image octets end count at Count has many wrong = wrong
not-cut image octets end count at Name has many wrong = wrong
not-cut image octets end count at Unbound has many wrong = wrong
not-cut image octets end count at Offset has many wrong = wrong
not-cut image octets end count at BackJump has many wrong = wrong
not-cut image octets end count at OpCode has many wrong = wrong
not-cut image octets end count at NoEnd has many wrong = wrong
not-cut image octets end count at Trailing has many wrong = wrong
