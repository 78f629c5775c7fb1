use Rattle.std.proofs.Common.{◌≡◌, ◌++◌, drop, map}
use Rattle.std.specs.Prelude.{flat_map}
use Rattle.th_meaning.specs.View.{interface_of, type_decl_of}
use Rattle.th_homes.proofs.types.Types.of.Given as goal

abbrev pub invariant-loop-interface : goal.invariant-loop-interface
invariant-loop-interface l = map (λ d. type_decl_of d.now) l.decls.items ++ flat_map (λ i. i.types) (map interface_of (drop l.interface-index l.fn.checked.interfaces.items))
    ≡ flat_map (λ i. i.types) (map interface_of l.fn.checked.interfaces.items)
