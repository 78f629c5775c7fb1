-- What is read of files, and which can't be read.
use Rattle.std.specs.Prelude.{◌≡◌, ℕ, ◌<◌, ◌≤◌, ◌⊎◌, List, [], ◌∷◌, length, take, slice_get, Option, Some, None}
use Rattle.th_world.specs.Outside.{Rose}
use Rattle.th_files.specs.declared.files.ReadError.{ReadError}
use Rattle.th_files.specs.declared.files.ReadError.TheVariants as errors
use Rattle.th_files.specs.declared.files.OneError.{OneError}
use Rattle.th_files.specs.declared.files.OneError.TheVariants as one

-- the bytes of each name, None where they aren't told
abbrev pub Told : Type 0
Told = Option (List ℕ → Option (List ℕ))

-- where the files are told, the file of this name has these bytes
abbrev pub Holds : Told → (name bytes : List ℕ) → Type 0
Holds None name bytes = Unit {0}
Holds (Some files) name bytes = files name ≡ Some bytes

-- where the files are told, each file is there with its bytes; and none has more than the limit
abbrev pub AreThere : (limit : ℕ) → Told → (names texts : List (List ℕ)) → Type 0
AreThere limit told [] [] = Unit {0}
AreThere limit told [] (t ∷ ts) = ⊥
AreThere limit told (n ∷ ns) [] = ⊥
AreThere limit told (n ∷ ns) (t ∷ ts) = Holds told n t × (length t ≤ limit) × AreThere limit told ns ts

-- where the files are told, the file is absent or above the limit
abbrev pub CannotRead : (limit : ℕ) → Told → (name : List ℕ) → Type 0
CannotRead limit None name = ⊥
CannotRead limit (Some files) name = (files name ≡ None) ⊎ ((bytes : List ℕ) × (files name ≡ Some bytes) × (limit < length bytes))

-- a file wasn't read: it can't be, or the files failed, whose count of faults was the first and is the second
abbrev pub IsUnread : (limit : ℕ) → Told → (name : List ℕ) → (before later : ℕ) → Type 0
IsUnread limit told name before later = (CannotRead limit told name × (later ≡ before)) ⊎ Rose before later

-- the file at this place among names wasn't read, and all before it were
pub record IsUnreadAt (limit : ℕ) (told : Told) (names : List (List ℕ)) (k before later : ℕ) : Type 0 where
  pub name : List ℕ
  pub texts : List (List ℕ)
  pub at : slice_get names k ≡ Some name
  pub read : AreThere limit told (take k names) texts
  pub unread : IsUnread limit told name before later

-- why one file wasn't read
abbrev pub MayBeUnread : OneError → (limit : ℕ) → Told → (name : List ℕ) → (before later : ℕ) → Type 0
MayBeUnread one.Unread limit told name before later = IsUnread limit told name before later
MayBeUnread one.Memory limit told name before later = later ≡ before

-- why files weren't read, where that at place k is the first that wasn't
abbrev pub error_at : ℕ → OneError → ReadError
error_at k one.Unread = errors.File k
error_at k one.Memory = errors.Memory

-- why files weren't read; want of memory says that no count rose
abbrev pub IsReadError : ReadError → (limit : ℕ) → Told → (names : List (List ℕ)) → (before later : ℕ) → Type 0
IsReadError (errors.File k) limit told names before later = IsUnreadAt limit told names k before later
IsReadError errors.Memory limit told names before later = later ≡ before
