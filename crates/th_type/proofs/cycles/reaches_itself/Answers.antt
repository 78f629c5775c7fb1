use Rattle.std.proofs.Common.{map, subst, sym, ◌≤◌}
use Rattle.th_type.specs.Declarations.{super_of}
use Rattle.th_type.specs.Tables.{defs_of}
use Rattle.th_type.proofs.Noting.{naming_start, naming_step, naming_smaller, naming_done}
use Rattle.th_type.proofs.cycles.reaches_itself.Goals as goal

pub loop-done-init : goal.loop-done-init
loop-done-init c = naming_start (defs_of c.args.defs.now) c.args.name (map super_of c.members.result.now) c.new-seen.result.keys c.note_all.new.seen.keys c.new-seen.ensures.empty c.members.ensures c.in_ok-note_all.ensures

pub loop-done-smaller : goal.loop-done-smaller
loop-done-smaller c = naming_smaller (defs_of c.args.defs.now) c.requires (map super_of c.members-in-Some.result.now) c.loop-done.seen.keys c.note_all-in-Some.new.seen.keys c.loop-done.done c.in-Some.next.now (sym c.in-Some.ensures.key) c.members-in-Some.ensures c.in_ok-note_all-in-Some.ensures

pub loop-done-preserved : goal.loop-done-preserved
loop-done-preserved c = naming_step (defs_of c.args.defs.now) c.args.name (map super_of c.members-in-Some.result.now) c.loop-done.seen.keys c.note_all-in-Some.new.seen.keys c.loop-done.done c.in-Some.next.now c.loop-done.invariant (sym c.in-Some.ensures.key) c.members-in-Some.ensures c.in_ok-note_all-in-Some.ensures

pub returns : goal.returns
returns c = naming_done (defs_of c.args.defs.now) c.args.name c.loop-done.seen.keys c.loop-done.done c.contains.result c.loop-done.invariant (subst (λ n. n ≤ c.loop-done.done) c.len.ensures.len c.loop-done-test.false) c.contains.ensures
