-- Where code stands, and the operations that depend on it: what stands for a where-method, the word of a local, `self`.
use Rattle.std.specs.Prelude.{ℕ, zero, suc, ◌+◌, List, [], ◌∷◌, ◌++◌, length, codes, decimal, Option, Some, None}
use Rattle.th_flat.specs.declared.op.FlatOp.{FlatOp}
use Rattle.th_flat.specs.declared.op.FlatOp.TheVariants.{OpLocal, OpCast, OpField, OpUnitword}
use Rattle.th_meaning.specs.Trees.{SupplyTree, by_primitive, by_method, passed, CastTree}
use Rattle.th_meaning.specs.Program.{TypeDecl, UnitSort, of_routine, of_method, of_init, name_of_type}

-- where code stands: the name of its module and what the interfaces declare that this names; what its unit is and how many
-- where-clauses the unit has; how many operations the unit has, and how many the units before it have
pub record Site : Type 0 where
  pub module_name : List ℕ
  pub known : List TypeDecl
  pub sort : UnitSort
  pub clauses : ℕ
  pub count : ℕ
  pub before : ℕ

-- the class that a unit stands in; a routine stands in none
abbrev pub class_around : UnitSort → List ℕ
class_around of_routine = []
class_around (of_method c m) = c
class_around (of_init c) = c

-- the local words of a unit before its formals: the receiver where there is one, and the words of its where-methods; a method
-- finds these in its object
abbrev pub words_before : UnitSort → (clauses : ℕ) → ℕ
words_before of_routine n = n
words_before (of_method c m) n = 1
words_before (of_init c) n = n + 1

-- the local word of a local
abbrev pub word_of : Site → (local : ℕ) → ℕ
word_of s k = words_before s.sort s.clauses + k

-- the word of a where-method: a local word, or in a method a word of the object
abbrev pub where_op : UnitSort → (clause : ℕ) → FlatOp
where_op of_routine k = OpLocal k
where_op (of_method c m) k = OpField c k
where_op (of_init c) k = OpLocal (k + 1)

-- a reference that is seen at a declared type is seen at another
abbrev pub cast_between : Option (List ℕ) → Option (List ℕ) → List FlatOp
cast_between None to = []
cast_between (Some from) None = []
cast_between (Some from) (Some to) = OpCast from to ∷ []

abbrev pub cast_code : CastTree → List FlatOp
cast_code c = cast_between (name_of_type c.from) (name_of_type c.to)

-- a cast that there may be
abbrev pub may_cast_code : Option CastTree → List FlatOp
may_cast_code None = []
may_cast_code (Some c) = cast_code c

-- the name of a stub, which is the module's, `/#` and a number
abbrev pub stub_name : (module_name : List ℕ) → ℕ → List ℕ
stub_name m n = m ++ (codes "/#" ++ decimal n)

-- what stands for a where-method, by an operation at this place: the stub whose number is that of the operation among all of the
-- module's, or what the unit was given itself
abbrev pub supply_op : Site → SupplyTree → (place : ℕ) → FlatOp
supply_op s (by_primitive p) b = OpUnitword (stub_name s.module_name (s.before + b))
supply_op s (by_method t m) b = OpUnitword (stub_name s.module_name (s.before + b))
supply_op s (passed k) b = where_op s.sort k

-- what stands for where-methods, one after another
abbrev pub supplies_code : Site → List SupplyTree → (place : ℕ) → List FlatOp
supplies_code s [] b = []
supplies_code s (x ∷ xs) b = supply_op s x b ∷ supplies_code s xs (b + 1)
