use Rattle.std.proofs.Common.{◌≡◌, map, drop}
use Rattle.th_type.specs.Declarations.{decl_of, written_of}
use Rattle.th_type.specs.Failures.{lowest}
use Rattle.th_type.specs.MethodTables.{method_in}
use Rattle.th_type.specs.Tests.{written_failures}
use Rattle.th_type.specs.Tables.{tables_up, tables_methods}
use Rattle.th_type.proofs.known.Tables.judge_written.Given as goal

abbrev pub invariant-loop-method : goal.invariant-loop-method
invariant-loop-method l =
    lowest l.found (written_failures (tables_up l.self) (method_in (tables_methods l.self)) (decl_of l.def) (map written_of (drop l.method-index l.def.methods.items)))
    ≡ lowest l.fn.found (written_failures (tables_up l.self) (method_in (tables_methods l.self)) (decl_of l.def) (map written_of l.def.methods.items))
