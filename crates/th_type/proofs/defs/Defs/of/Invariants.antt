use Rattle.std.proofs.Common.{◌≡◌, ◌++◌, map}
use Rattle.th_type.specs.Declarations.{decls_of}
use Rattle.th_type.specs.Tables.{entry_decl}
use Rattle.th_type.proofs.defs.Defs.of.Given as goal

abbrev pub invariant-loop-def : goal.invariant-loop-def
invariant-loop-def l = record {
  taken : map entry_decl l.map.entries ≡ decls_of l.yielded;
  rest : l.fn.list.items ≡ l.yielded ++ l.def-iterator.rest.items;
}
