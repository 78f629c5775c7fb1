-- What it means that an image agrees with a program: the machine, loaded with the image's written form, does what the
-- program's source does, on every input and in every lawful region.
use Rattle.std.specs.Prelude.{◌≡◌, ◌≢◌, ℕ, ◌+◌, ◌*◌, ◌%◌, ◌<◌, ◌≤◌, List, length, map, All, AllPairs}
use Rattle.std.specs.List.Sorted.{IsPermutation}
use Rattle.th_runs.specs.Stand.{Stand}
use Rattle.th_runs.specs.Agreement.{Agreement}
use Rattle.th_meaning.specs.Program.{Program, unit_names}
use Rattle.th_meaning.specs.Counts.{program_nodes}
use Rattle.th_meaning.specs.Run.{source_run}
use Rattle.th_rv.specs.Step.{State}
use Rattle.th_elf.specs.declared.image.Image.{Image}
use Rattle.th_elf.specs.Written.{written}
use Rattle.th_elf.specs.Loadable.{segments_of}
use Rattle.th_elf.specs.Lawful.{IsRegion}
use Rattle.th_elf.specs.Run.{loaded, start, run, stand, names_of}
use Rattle.th_puts.specs.Form.{AreBytes}

-- the machine's state at the start, loaded from the file that the image is written as, with a region of so many bytes
unfoldable pub loaded_image : Image → (room : ℕ) → State
loaded_image image room = loaded (segments_of (written image)) room

-- how the machine stands after so many steps on an input, with the image's names of units by their addresses
unfoldable pub image_run : Image → (room : ℕ) → (input : List ℕ) → (steps : ℕ) → Stand
image_run image room input steps = stand (names_of image.map) (run steps (start (loaded_image image room) input))

-- the address is that of one of so many code words, which stand from 0x00010000 on
pub record IsCodeAddress (words at : ℕ) : Type 0 where
  pub first : 0x00010000 ≤ at
  pub whole : at % 4 ≡ 0
  pub within : at < 0x00010000 + 4 * words

-- the image agrees with the program
pub record Agrees (image : Image) (program : Program) : Type 0 where
  -- the code has at most 64 words for each node of the program, and 4,096 more
  pub few_words : length image.code ≤ 64 * program_nodes program + 4096
  -- the map has each unit of the program exactly once, in whatever order
  pub each_unit : IsPermutation (map (λ u. u.unit) image.map) (unit_names program)
  -- no two units of the map have one address
  pub apart : AllPairs (λ a b. a ≢ b) (map (λ u. u.at) image.map)
  -- each address of the map is that of a code word
  pub in_code : All (λ u. IsCodeAddress (length image.code) u.at) image.map
  -- on every input, in every lawful region, the machine's run agrees with the program's source
  pub runs : (input : List ℕ) (room : ℕ) → AreBytes input → IsRegion room
      → Agreement (source_run program input) (image_run image room input) room (length image.code)
