use Rattle.th_top.proofs.Going.{holds_of}
use Rattle.th_top.proofs.Running.{runs}
use Rattle.th_top.proofs.run.run.Goals as goal

pub returns-in-Ok-load : goal.returns-in-Ok-load
returns-in-Ok-load g c =
    runs c.args.file.now c.args.region c.args.steps _ _ _ c.deref.result.now c.in-Ok.bytes.items c.in-Ok-load.machine
    (holds_of _ _ _ c.in-Ok.ensures.found) c.deref.ensures.value c.in-Ok.ensures.within c.in-Ok-load.ensures.loadable c.in-Ok-load.ensures.loaded
    c.in-Ok.ensures.same_files c.in-Ok.ensures.same_written c.in-Ok.ensures.no_fault c.execute.ensures
