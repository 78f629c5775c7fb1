-- A test on a list of segments in order of their addresses: each begins where the one before it has ended.
use Rattle.std.specs.Prelude.{ℕ, ◌+◌, List, [], ◌∷◌, Bool, true, ◌&&◌, nat_le}
use Rattle.th_elf.specs.declared.header.Header.{Header}

-- whether each segment of a list begins at or after the end of the one before it, the first at or after an address
abbrev pub rises_from : ℕ → List Header → Bool
rises_from end [] = true
rises_from end (h ∷ hs) = nat_le end h.vaddr && rises_from (h.vaddr + h.memsz) hs
