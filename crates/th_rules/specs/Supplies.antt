-- What stands for the where-clauses of an item that is used with type arguments.
use Rattle.std.specs.Prelude.{ℕ, zero, suc, Bool, true, false, nat_eq, ◌&&◌, List, [], ◌∷◌, Option, Some, None, option_map, bytes_eq, codes, if◌then◌else◌}
use Rattle.th_type.specs.Types.{TypeExpr, int_ty, bool_ty, text_ty, array_ty, named_ty, param_ty, TypeExprs, no_ty, more_ty, list_of, arg_at}
use Rattle.th_type.specs.Signatures.{Signature, subst_sig, Constraint}
use Rattle.th_type.specs.Methods.{method_at}
use Rattle.th_type.specs.Conforming.{exactly}
use Rattle.th_meaning.specs.declared.types.Primitive.{Primitive}
use Rattle.th_meaning.specs.declared.types.Primitive.TheVariants.{IntEqual, IntLess, BoolEqual}
use Rattle.th_meaning.specs.Trees.{SupplyTree, by_primitive, by_method, passed}
use Rattle.th_rules.specs.Context.{Context}
use Rattle.th_rules.specs.Cores.{name_at}

-- what stands for a method, where its signature exactly conforms to what is needed
abbrev pub exact_supply : Signature → SupplyTree → Option Signature → Option SupplyTree
exact_supply needed s None = None
exact_supply needed s (Some sig) = if exactly sig needed then Some s else None

-- a where-clause of the unit, by its place
pub record ClauseUse : Type 0 where
  pub place : ℕ
  pub sig : Signature

-- the clause of the type parameter k for the method m, where the first of the list has the place i
abbrev pub find_clause : ℕ → List Constraint → ℕ → ℕ → Option ClauseUse
find_clause i [] k m = None
find_clause i (c ∷ cs) k m = if nat_eq c.param k && nat_eq c.sig.method m then Some (record { place = i; sig = c.sig }) else find_clause (suc i) cs k m

-- the clause of the unit for a type parameter and a method
abbrev pub own_clause : Context → ℕ → ℕ → Option ClauseUse
own_clause C k m = find_clause 0 C.clauses k m

-- a clause of the unit that is passed on
abbrev pub clause_supply : Signature → Option ClauseUse → Option SupplyTree
clause_supply needed None = None
clause_supply needed (Some c) = exact_supply needed (passed c.place) (Some c.sig)

-- the signature of a method of two values of one type that gives a truth value
abbrev pub test_sig : ℕ → TypeExpr → Signature
test_sig m t = record { method = m; iterator = false; formals = more_ty t no_ty; gives = Some bool_ty; signals = [] }

-- the primitive of `int` by its name
abbrev pub int_primitive : List ℕ → Option Primitive
int_primitive bs = if bytes_eq bs (codes "equal") then Some IntEqual else if bytes_eq bs (codes "less") then Some IntLess else None

-- the primitive of `bool` by its name
abbrev pub bool_primitive : List ℕ → Option Primitive
bool_primitive bs = if bytes_eq bs (codes "equal") then Some BoolEqual else None

-- a primitive of the type, where its signature exactly conforms to what is needed
abbrev pub primitive_supply : Signature → TypeExpr → Option Primitive → Option SupplyTree
primitive_supply needed t None = None
primitive_supply needed t (Some p) = exact_supply needed (by_primitive p) (Some (test_sig needed.method t))

-- what stands for the method that is needed of a type: a primitive of `int` or `bool`, a method of a declared type, a
-- clause of the unit for a type parameter; nothing for an array or a text
abbrev pub supply_of : Context → Signature → TypeExpr → Option SupplyTree
supply_of C needed int_ty = primitive_supply needed int_ty (int_primitive (name_at C.names needed.method))
supply_of C needed bool_ty = primitive_supply needed bool_ty (bool_primitive (name_at C.names needed.method))
supply_of C needed text_ty = None
supply_of C needed (array_ty t) = None
supply_of C needed (named_ty n ts) = exact_supply needed (by_method (name_at C.names n) (name_at C.names needed.method)) (method_at C.types (named_ty n ts) needed.method)
supply_of C needed (param_ty k) = clause_supply needed (own_clause C k needed.method)

-- one after another, where all are there
abbrev pub with_supply : Option SupplyTree → Option (List SupplyTree) → Option (List SupplyTree)
with_supply None ss = None
with_supply (Some s) None = None
with_supply (Some s) (Some ss) = Some (s ∷ ss)

-- what stands for the clauses, in order, where the item is used with these type arguments; none where a clause is not
-- satisfied
abbrev pub supplies_of : Context → List TypeExpr → List Constraint → Option (List SupplyTree)
supplies_of C args [] = Some []
supplies_of C args (c ∷ cs) = with_supply (supply_of C (subst_sig args c.sig) (arg_at args c.param c.param)) (supplies_of C args cs)
