use Rattle.std.proofs.Common.{◌≡◌, drop, map}
use Rattle.std.specs.Prelude.{find, bytes_eq}
use Rattle.th_meaning.specs.View.{type_decl_of}
use Rattle.th_lowering.specs.Homes.{decl_named}
use Rattle.th_homes.proofs.types.Types.find.Given as goal

abbrev pub invariant-loop-decl : goal.invariant-loop-decl
invariant-loop-decl l = decl_named (map (λ d. type_decl_of d.now) (drop l.decl-index l.fn.self.decls.items)) l.fn.name ≡ decl_named (map (λ d. type_decl_of d.now) l.fn.self.decls.items) l.fn.name
