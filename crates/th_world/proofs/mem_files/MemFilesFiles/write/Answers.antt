use Rattle.std.proofs.Common.{◌≡◌, [], ◌∷◌, ◌++◌, ap, ◌∙◌, arith}
use Rattle.std.proofs.lemmas.Grind.{common_steps}
use Rattle.th_world.specs.Memory.{files_of, last_of}
use Rattle.th_world.proofs.FileLemmas.{last_of-pushed}
use Rattle.th_world.proofs.mem_files.MemFilesFiles.write.Goals as goal

pub returns-clause-set : goal.returns-clause-set
returns-clause-set c =
    let pushed : c.push.new.self.items ≡ c.self.inside.writes.items ++ (c.args.name, c.args.bytes) ∷ [] = grind (arith, common_steps) in
    rw (← c.self.view_is) (ap (λ entries. last_of (files_of c.self.inside.start.items ++ files_of entries)) pushed ∙ last_of-pushed (files_of c.self.inside.start.items) c.self.inside.writes.items (c.args.name, c.args.bytes))
