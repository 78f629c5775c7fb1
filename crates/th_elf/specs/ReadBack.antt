-- What the written form of an image is read back as.
use Rattle.std.specs.Prelude.{◌≡◌, ℕ, ◌<◌, List, [], ◌∷◌, length, None}
use Rattle.th_elf.specs.declared.image.Image.{Image}
use Rattle.th_elf.specs.declared.segments.Segments.{Segments}
use Rattle.th_elf.specs.Written.{content}
use Rattle.th_elf.specs.Loadable.{first_failing, segments_of}

-- the segment that some bytes are loaded as: at 0x00010000, fetched from and loaded from
abbrev pub one_segment : List ℕ → Segments
one_segment c = record { entry = 0x00010000; list = record { at = 0x00010000; flags = 5; size = length c; bytes = c } ∷ [] }

-- where an image has content, its file is loadable, as one segment that is the content
abbrev pub IsReadBack : Image → (file : List ℕ) → Type 0
IsReadBack image file = 0 < length (content image) → (first_failing file ≡ None) × (segments_of file ≡ one_segment (content image))
