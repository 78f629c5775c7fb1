use Rattle.std.proofs.Common.{◌≡◌, map, take, string_bytes}
use Rattle.th_files.specs.Reading.{AreThere}
use Rattle.th_files.proofs.files.read_files.Given as goal

-- the files so far are there, and nothing changed
abbrev pub invariant-loop-k : goal.invariant-loop-k
invariant-loop-k g l =
    AreThere l.fn.limit (g.F.Files.map l.fn.files) (take l.k (map string_bytes l.fn.names)) (map (λ t. t.items) l.done.items) × (g.F.Files.faults l.files ≡ g.F.Files.faults l.fn.files)
    × (g.F.Files.map l.files ≡ g.F.Files.map l.fn.files) × (g.F.Files.written l.files ≡ g.F.Files.written l.fn.files)
