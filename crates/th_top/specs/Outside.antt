-- What the outside of a call tells: the files, the input and the output, and the count of faults of each.
use Rattle.std.specs.Prelude.{◌≡◌, ℕ, List, Option}

-- each content is None where it isn't told
pub record Outside : Type 0 where
  -- the bytes of each file by its name, and the names written, the oldest first
  pub files : Option (List ℕ → Option (List ℕ))
  pub written : Option (List (List ℕ))
  pub file_faults : ℕ
  -- the bytes left of the input
  pub left : Option (List ℕ)
  pub read_faults : ℕ
  -- the bytes put at the output
  pub put : Option (List ℕ)
  pub write_faults : ℕ

-- an outside that tells so much
abbrev pub outside : (files : Option (List ℕ → Option (List ℕ))) (written : Option (List (List ℕ))) (file_faults : ℕ)
    (left : Option (List ℕ)) (read_faults : ℕ) (put : Option (List ℕ)) (write_faults : ℕ) → Outside
outside files written file_faults left read_faults put write_faults = record {
  files = files;
  written = written;
  file_faults = file_faults;
  left = left;
  read_faults = read_faults;
  put = put;
  write_faults = write_faults;
}

-- files and input and output are as before: nothing was written, put or taken, and no stream failed
pub record Untouched (before later : Outside) : Type 0 where
  pub files : later.files ≡ before.files
  pub written : later.written ≡ before.written
  pub left : later.left ≡ before.left
  pub read_faults : later.read_faults ≡ before.read_faults
  pub put : later.put ≡ before.put
  pub write_faults : later.write_faults ≡ before.write_faults
