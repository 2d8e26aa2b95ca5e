-- Which words are names, and why an AVP is not added.
use Rattle.std.proofs.Common.{◌≡◌, ℕ, Bool, true, false, List, [], Option, Some, None, Err, refl, sym}
use Rattle.std.specs.Str.{IsUtf8, is_utf8}
use Rattle.std.proofs.lemmas.Str.{IsUtf8-from_is_utf8, is_utf8-from_IsUtf8}
use Rattle.base_list.specs.Adding.{error_of}
use Rattle.base_list.specs.declared.error.AddError.{AddError}
use Rattle.base_list.specs.declared.error.AddError.TheVariants as add_errors
use Rattle.base_list.specs.declared.error.AddFault.{AddFault}
use Rattle.text_parts.specs.Lines.{is_plain}
use Rattle.dia_show.specs.Glossary.{Meanings}
use Rattle.dict_text.specs.declared.wrong.Want.{Want}
use Rattle.dict_text.specs.Entries.{Entry, is_name}
use Rattle.dict_text.specs.Read.{added, refused_want}
use Rattle.dict_text.specs.Wrong.{Wrong}

-- printable text is a name
pub name-good : (w : List ℕ) (plain : Bool) → plain ≡ is_plain w → plain ≡ true → IsUtf8 w → is_name w ≡ true
name-good w true is test utf8 = rw (sym is, is_utf8-from_IsUtf8 w utf8) refl
name-good w false is test utf8 = absurd (cc)

not_text : (w : List ℕ) (b : Bool) → is_utf8 w ≡ b → (IsUtf8 w → ⊥) → is_utf8 w ≡ false
not_text w false is other = is
not_text w true is other = absurd (other (IsUtf8-from_is_utf8 w is))

-- what is no UTF-8 is none
pub name-bad : (w : List ℕ) (plain : Bool) → plain ≡ is_plain w → plain ≡ true → (IsUtf8 w → ⊥) → is_name w ≡ false
name-bad w true is test other = rw (sym is, not_text w (is_utf8 w) refl other) refl
name-bad w false is test other = absurd (cc)

-- a refused AVP is told by what was wanted
pub added-refused : (g now : Meanings) (e : Entry) (r : Option AddFault) (error : AddError) (fault : AddFault) (want : Want) (m : Wrong)
    → error ≡ error_of r → error ≡ add_errors.Fault fault → now ≡ g → want ≡ refused_want now e.head fault → m ≡ record { want = want; word = [] }
    → added g e r ≡ Err m
added-refused g now e None error fault want m of is same wanted told = absurd (cc)
added-refused g now e (Some f) error fault want m of is same wanted told =
    let one : f ≡ fault = cc in
    rw (told, wanted, same, one) refl
