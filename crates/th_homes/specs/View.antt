-- What known types and shapes of methods are among the definitions.
use Rattle.std.specs.Prelude.{List, map, option_map}
use Rattle.th_meaning.specs.Program.{TypeDecl}
use Rattle.th_meaning.specs.View.{type_decl_of}
use Rattle.th_homes.specs.declared.types.Types.{Types}
use Rattle.th_homes.specs.declared.types.Head.{Head}
use Rattle.th_homes.specs.declared.types.Head.TheVariants.{Named, Param, Other}
use Rattle.th_homes.specs.declared.types.Shape.{Shape}
use Rattle.th_homes.specs.Heads.{HeadTree, named_head, param_head, other_head, ShapeHead}

-- the declared types
abbrev pub known_of : Types → List TypeDecl
known_of t = map (λ d. type_decl_of d.now) t.decls.items

-- what a type begins with
abbrev pub head_view : Head → HeadTree
head_view (Named n) = named_head n.now
head_view (Param k) = param_head k
head_view Other = other_head

-- the shape of a method
abbrev pub shape_view : Shape → ShapeHead
shape_view s = record { formals = s.formals; gives = option_map head_view s.gives }
