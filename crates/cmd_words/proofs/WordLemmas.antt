-- What parsing the words shows: which words are a command, and which file it names.
use Rattle.std.proofs.Common.{◌≡◌, List, [], Option, Some, None, Result, Ok, Err, inl, inr, true, refl, sym, ap, subst, ◌∙◌}
use Rattle.std.specs.Prelude.{option_map}
use Rattle.clap.specs.Words.{App, HasKind, IsAmong, Row, Text, fault_of, is_simple, is_simple_and_free, kind_of, subcommand_name_of, subcommand_of, subcommand_rows_of}
use Rattle.clap.specs.declared.parser.matches.ArgMatches.{ArgMatches}
use Rattle.clap.specs.declared.parser.matches.ArgMatches.TheViews.{out-ArgMatches}
use Rattle.clap.specs.declared.error.Error.{Error}
use Rattle.clap.specs.declared.error.kind.ErrorKind.{ErrorKind}
use Rattle.clap.proofs.OnLiterals.{clap_on_literals}
use Rattle.cmd_words.specs.Words.{dbench_app, wanted, wanted_of, word_faults}
use Rattle.cmd_words.specs.Invocations.{IsAsked, IsRefusal}
use Rattle.cmd_words.specs.declared.words.Invocation.{Invocation}
use Rattle.cmd_words.specs.declared.words.Invocation.TheVariants as asked
use Rattle.cmd_words.specs.declared.words.WordsError.{WordsError}
use Rattle.cmd_words.specs.declared.words.WordsError.TheVariants as errors

-- the command line is of the kind that `clap` tells all about
pub is_known : is_simple_and_free dbench_app ≡ true
unfolding clap_on_literals
is_known = refl

pub is_known_simple : is_simple dbench_app ≡ true
unfolding clap_on_literals
is_known_simple = refl

-- the command that was built has the faults of the words
pub HasKind-of : (app : App) (words : List Text) (error : Error) → app ≡ dbench_app → HasKind (fault_of app words) error → HasKind (word_faults words) error
unfolding word_faults
HasKind-of app words error same kind = subst (λ (a : App). HasKind (fault_of a words) error) same kind

pub faults-none : (app : App) (words : List Text) → app ≡ dbench_app → fault_of app words ≡ [] → word_faults words ≡ []
unfolding word_faults
faults-none app words same none = ap (λ (a : App). fault_of a words) (sym same) ∙ none

-- the answer to an error is what the words ask for, or why they are refused
pub IsAsked-error : (words : List Text) (error : Error) (answer : Result Invocation WordsError)
    → HasKind (word_faults words) error → IsRefusal (kind_of error) answer → IsAsked words answer
IsAsked-error words error (Ok (asked.Task task)) kind refusal = absurd refusal
IsAsked-error words error (Ok (asked.Text text)) (inl memory) (inl help) = absurd (cc)
IsAsked-error words error (Ok (asked.Text text)) (inl memory) (inr version) = absurd (cc)
IsAsked-error words error (Ok (asked.Text text)) (inr among) (inl help) = inl (subst (λ (k : ErrorKind). IsAmong k (word_faults words)) help among)
IsAsked-error words error (Ok (asked.Text text)) (inr among) (inr version) = inr (subst (λ (k : ErrorKind). IsAmong k (word_faults words)) version among)
IsAsked-error words error (Err errors.NoMemory) kind refusal = tt
IsAsked-error words error (Err (errors.Refused text)) (inl memory) refusal = absurd (refusal.2 memory)
IsAsked-error words error (Err (errors.Refused text)) (inr among) refusal = record {
  kind = kind_of error;
  among = among;
  no_help = refusal.0;
  no_version = refusal.1;
}

-- what the command that was used asks for is what the words ask for
pub wanted-used : (words : List Text) (used : Option (Text × List Row)) → used ≡ subcommand_of dbench_app words → wanted_of used ≡ wanted words
unfolding wanted
wanted-used words used is = ap wanted_of is

-- the name and the rows of one subcommand are those of a pair
paired : {B C D : Type 0} (f : B → C) (g : B → D) (used : Option B) (name : C) (rows : D)
    → Some name ≡ option_map f used → Some rows ≡ option_map (λ (p : C × D). p.1) (option_map {U = C × D} (λ b. (f b, g b)) used) → option_map {U = C × D} (λ b. (f b, g b)) used ≡ Some (name, rows)
paired f g None name rows named listed = absurd (cc)
paired f g (Some b) name rows named listed =
    let first : name ≡ f b = cc in
    let second : rows ≡ g b = cc in
    rw (first, second) refl

-- the subcommand that was used
pub used-is : (m : ArgMatches) (name : Text) (rows : List Row)
    → Some name ≡ subcommand_name_of m → Some rows ≡ option_map (λ p. p.1) (subcommand_rows_of m) → subcommand_rows_of m ≡ Some (name, rows)
used-is m name rows named listed = paired _ _ (out-ArgMatches m).subcommand name rows named listed

-- or none
pub unused-is : (m : ArgMatches) → None ≡ option_map (λ p. p.1) (subcommand_rows_of m) → subcommand_rows_of m ≡ None
unused-is m none = go (subcommand_rows_of m) none
  where
    go : (used : Option (Text × List Row)) → None ≡ option_map (λ p. p.1) used → used ≡ None
    go None none = refl
    go (Some used) none = absurd (cc)
