use Rattle.std.proofs.Common.{List, ◌++◌, map, take}
use Rattle.th_meaning.specs.View.{type_decl_of}
use Rattle.th_meaning.specs.Program.{TypeDecl}
use Rattle.th_weights.specs.Types.{HoldsTypes}
use Rattle.th_weights.proofs.table.add_types.Given as goal

abbrev pub invariant-loop-of : goal.invariant-loop-of
invariant-loop-of l = (done : List TypeDecl) → HoldsTypes l.fn.table done → HoldsTypes l.table (done ++ map type_decl_of (take l.of-index l.types))
