-- What a source, a sink and files in memory are.
use Rattle.std.specs.Prelude.{ℕ, List, ◌++◌, Option, map, reverse, find}
use Rattle.std.specs.Option.{option_map}
use Rattle.std.specs.Str.{bytes_eq}
use Rattle.std.specs.Prelude.{String, Vec}
use Rattle.std.specs.String.{string_bytes}
use Rattle.std.specs.declared.alloc.Global.{Global}
use Rattle.th_world.specs.Calls.{Calls}

-- a source: the bytes that are left, and its calls
pub record SourceState : Type 0 where
  pub left : List ℕ
  pub calls : Calls

-- a sink: the bytes put, how many bytes it takes in all, and its calls
pub record SinkState : Type 0 where
  pub put : List ℕ
  pub room : ℕ
  pub calls : Calls

-- a file: its name and its bytes
pub record File : Type 0 where
  pub name : List ℕ
  pub bytes : List ℕ

-- the files of a list of names and bytes
abbrev pub files_of : List (String Global × Vec ℕ Global) → List File
files_of = map (λ e. record { name = string_bytes e.0; bytes = e.1.items })

-- files: those of the start, those written since, the oldest first, how many may be written in all, and the calls
pub record FilesState : Type 0 where
  pub start : List File
  pub writes : List File
  pub spare : ℕ
  pub calls : Calls

-- the bytes of the last file of this name
abbrev pub last_of : List File → List ℕ → Option (List ℕ)
last_of files q = option_map (λ f. f.bytes) (find (λ f. bytes_eq f.name q) (reverse files))

-- the map that the files are
abbrev pub map_of : FilesState → List ℕ → Option (List ℕ)
map_of s = last_of (s.start ++ s.writes)

-- the names written, the oldest first
abbrev pub names_of : FilesState → List (List ℕ)
names_of s = map (λ f. f.name) s.writes
