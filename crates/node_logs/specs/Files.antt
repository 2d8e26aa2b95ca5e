-- Files that are written, each whole and by its name.
use Rattle.std.specs.Prelude.{◌≡◌, ℕ, List, ◌++◌, Option, Some, option_map}
use Rattle.node_logs.specs.declared.files.FileError.{FileError}
use Rattle.node_logs.specs.declared.files.FileError.TheVariants.{Failed, NoMemory}

-- a file: its name in a folder, and its octets
pub record File : Type 0 where
  pub name : List ℕ
  pub octets : List ℕ

-- further files behind those that were written, where they are known
abbrev pub with_files : Option (List File) → List File → Option (List File)
with_files written more = option_map (λ files. files ++ more) written

-- why a file is not written, by the name of the file that failed last, before and behind: that of this one, or memory
-- ran out
abbrev pub IsPutFault : (name : List ℕ) → (failed failed' : Option (List ℕ)) → FileError → Type 0
IsPutFault name failed failed' Failed = failed' ≡ Some name
IsPutFault name failed failed' NoMemory = failed' ≡ failed
