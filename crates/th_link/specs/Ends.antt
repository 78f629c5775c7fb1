-- Images whose run ends by itself, whatever the input gives.
use Rattle.std.specs.Prelude.{◌≡◌, ℕ, ◌<◌, List, length, ◌⊎◌}
use Rattle.th_rv.specs.Step.{Ended}
use Rattle.th_elf.specs.declared.image.Image.{Image}
use Rattle.th_elf.specs.Run.{Machine, Running, Stopped, Retired, Retires, Trapping, running}
use Rattle.th_link.specs.Agrees.{loaded_image}
use Rattle.th_elf.specs.Lawful.{IsRegion}

-- a machine that retired this log runs, and the log has fewer instructions than the code has words; or it ended, and
-- the log has as many
abbrev pub IsInTime : (words : ℕ) → List Retired → Machine → Type 0
IsInTime words log m = ((m.status ≡ Running) × (length log < words)) ⊎ ((m.status ≡ Stopped Ended) × (length log ≡ words))

-- in every lawful region, and whatever the input gives, the machine that is loaded with the image ends once it retired
-- as many instructions as the code has words, and not before; it never traps
pub record EndsInTime (image : Image) : Type 0 where
  pub in_time : (room : ℕ) → IsRegion room → (log : List Retired) (m : Machine)
      → Retires (running (loaded_image image room)) log m → IsInTime (length image.code) log m
  pub never_traps : (room : ℕ) → IsRegion room → (log : List Retired) (m trapped : Machine)
      → Retires (running (loaded_image image room)) log m → Trapping m trapped → ⊥
