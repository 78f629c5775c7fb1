use Rattle.std.proofs.Common.{◌≡◌, ◌++◌, drop, map}
use Rattle.th_meaning.specs.View.{type_decl_of}
use Rattle.th_homes.proofs.types.push_types.Given as goal

abbrev pub invariant-loop-of : goal.invariant-loop-of
invariant-loop-of l = map (λ d. type_decl_of d.now) l.decls.items ++ map type_decl_of (drop l.of-index l.fn.types)
    ≡ map (λ d. type_decl_of d.now) l.fn.decls.items ++ map type_decl_of l.fn.types
