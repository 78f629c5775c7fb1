use Rattle.std.proofs.Common.{map, string_bytes, refl}
use Rattle.th_top.proofs.Going.{same_outside, stopped, goes}
use Rattle.th_top.proofs.go.go.Goals as goal

pub returns-in-Err : goal.returns-in-Err
returns-in-Err g c =
    stopped c.args.out.now (map string_bytes c.args.names.now) _ _ _
    (record { files = c.build.ensures.same_files; written = c.build.ensures.same_written; left = refl; read_faults = refl; put = refl; write_faults = refl }) c.in-Err.ensures.stops

pub returns : goal.returns
returns g c =
    goes c.args.out.now (map string_bytes c.args.names.now) _ _ _ _ c.in-Ok.product c.in-Ok.ensures.built
    (same_outside _ _ _ _ c.build.ensures.same_files c.build.ensures.same_written c.in-Ok.ensures.no_fault) c.write_and_run.ensures
