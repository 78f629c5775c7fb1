use Rattle.std.proofs.Common.{◌∙◌}
use Rattle.th_world.specs.Memory.{files_of}
use Rattle.th_world.proofs.FileLemmas.{last_of-written, last_of-unwritten}
use Rattle.th_world.proofs.mem_files.MemFiles.get.Goals as goal

pub returns-in-Some : goal.returns-in-Some
returns-in-Some c =
    let here = rw c.deref.ensures.value at c.in-Some.ensures in
    rw (← c.self.view_is) (last_of-written (files_of c.self.inside.start.items) (files_of c.self.inside.writes.items) _ _ here)

pub returns-in-None : goal.returns-in-None
returns-in-None c =
    let here = rw c.deref.ensures.value at c.in-None.ensures in
    let first = rw c.deref-in-None.ensures.value at c.last_bytes-in-None.ensures in
    rw (← c.self.view_is) (first ∙ last_of-unwritten (files_of c.self.inside.start.items) (files_of c.self.inside.writes.items) _ here)
