-- What the code's tables hold.
use Rattle.std.specs.Prelude.{ℕ, Bool, false, nat_eq, ◌||◌, List, [], map, Option, Some, None}
use Rattle.th_type.specs.declared.typedef.TypeDef.{TypeDef}
use Rattle.th_type.specs.declared.defs.Defs.{Defs}
use Rattle.th_type.specs.declared.above.Above.{Above}
use Rattle.th_type.specs.declared.above.Ancestors.{Ancestors}
use Rattle.th_type.specs.declared.sig.Sig.{Sig}
use Rattle.th_type.specs.declared.known.Tables.{Tables}
use Rattle.std.specs.Global.{Vec}
use Rattle.th_type.specs.Types.{TypeExpr, TypeExprs, named_ty, list_of, subst_ty, same_ty}
use Rattle.th_type.specs.Pool.{tys_at, IsKept}
use Rattle.th_type.specs.Lists.{IsIn}
use Rattle.std.specs.Map.{lookup}
use Rattle.th_type.specs.Closure.{find_head, Took}
use Rattle.th_type.specs.Declarations.{Declaration, named_decl}

-- a declared type under its number
abbrev pub entry_decl : ℕ × TypeDef → Declaration
entry_decl e = named_decl e.0 e.1

-- a declared type, with the list of the pool that the table has at its number as arguments
abbrev pub entry_ty : List TypeExprs → ℕ × ℕ → TypeExpr
entry_ty ts e = named_ty e.0 (tys_at ts e.1)

-- the declared types of the table
abbrev pub defs_of : Defs → List Declaration
defs_of d = map entry_decl d.map.entries

-- the types of the table, whose arguments are lists of the pool
abbrev pub above_of : List TypeExprs → Above → List TypeExpr
above_of ts a = map (entry_ty ts) a.map.entries

-- the arguments in the table are lists of the pool
abbrev pub Held : List TypeExprs → Above → Type 0
Held ts a = (e : ℕ × ℕ) → IsIn e a.map.entries → IsKept ts e.1

abbrev pub up_in : List TypeExprs → Option Above → List TypeExpr
up_in ts None = []
up_in ts (Some a) = above_of ts a

-- the supertypes that the table has for the declared type n
abbrev pub up_of : Ancestors → ℕ → List TypeExpr
up_of t n = up_in t.pool (lookup (nat_eq n) t.map.entries)

-- whether the type that was found, with arguments substituted, is the other
abbrev pub is_found : Option TypeExpr → TypeExprs → TypeExpr → Bool
is_found None args b = false
is_found (Some u) args b = same_ty (subst_ty (list_of args) u) b

-- whether the first type is a declared type that reaches the second, by a table of supertypes
abbrev pub is_reached : (ℕ → List TypeExpr) → TypeExpr → TypeExpr → Bool
is_reached up (named_ty n args) (named_ty m bs) = is_found (find_head (up n) m) args (named_ty m bs)
is_reached up _ _ = false

-- whether the first type is a subtype of the second, by a table of supertypes
abbrev pub table_subtype : (ℕ → List TypeExpr) → TypeExpr → TypeExpr → Bool
table_subtype up a b = same_ty a b || is_reached up a b

-- the supertypes that the tables have for the declared type n
abbrev pub tables_up : Tables → ℕ → List TypeExpr
tables_up t = up_of t.ancestors

-- the methods that the tables have for declared types
abbrev pub tables_methods : Tables → List (ℕ × Vec Sig)
tables_methods t = t.methods.map.entries

-- the types ps were taken into the first table, whose arguments are lists of the first pool: the second ones are the pool and the table then
pub record TookIn (ts : List TypeExprs) (a : Above) (ps : List TypeExpr) (us : List TypeExprs) (b : Above) : Type 0 where
  pub held : Held us b
  pub took : Took (above_of ts a) ps (above_of us b)
