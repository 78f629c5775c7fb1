use Rattle.std.proofs.Common.{◌≡◌, ◌++◌, take}
use Rattle.std.specs.List.{flat_map}
use Rattle.th_elf.specs.Written.{half_bytes}
use Rattle.th_elf.proofs.write.put_halves.Given as goal

abbrev pub invariant-loop-half : goal.invariant-loop-half
invariant-loop-half l = l.file.items ≡ l.fn.file.items ++ flat_map half_bytes (take l.half-index l.halves)
