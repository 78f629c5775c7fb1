use Rattle.std.proofs.Common.{ℕ, List, option_map, ap}
use Rattle.std.specs.Prelude.{String, Vec}
use Rattle.std.specs.declared.alloc.Global.{Global}
use Rattle.th_world.proofs.FileLemmas.{last_of-files_of}
use Rattle.th_world.proofs.mem_files.last_bytes.Goals as goal

pub returns-in-Some : goal.returns-in-Some
returns-in-Some c =
    let found = last_of-files_of c.args.entries.now c.args.name.now in
    let at = ap (option_map {U = List ℕ} (λ (e : String Global × Vec ℕ Global). e.1.items)) c.in-Some.ensures in
    cc

pub returns-in-None : goal.returns-in-None
returns-in-None c =
    let found = last_of-files_of c.args.entries.now c.args.name.now in
    let at = ap (option_map {U = List ℕ} (λ (e : String Global × Vec ℕ Global). e.1.items)) c.in-None.ensures in
    cc
