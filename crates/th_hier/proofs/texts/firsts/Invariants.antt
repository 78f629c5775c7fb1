use Rattle.std.proofs.Common.{◌≡◌, ◌++◌, []}
use Rattle.th_type.specs.Declarations.{decls_of}
use Rattle.th_hier.specs.Texts.{firsts}
use Rattle.th_hier.proofs.texts.firsts.Given as goal

abbrev pub invariant-loop-def : goal.invariant-loop-def
invariant-loop-def l = decls_of l.kept.items ++ firsts l.seen (decls_of l.def-iterator.rest.items) ≡ firsts [] (decls_of l.fn.types.items)
