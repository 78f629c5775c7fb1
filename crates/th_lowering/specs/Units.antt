-- Units and their operations.
use Rattle.std.specs.Prelude.{ℕ, zero, suc, ◌+◌, Bool, true, false, List, [], ◌∷◌, ◌++◌, length, if◌then◌else◌}
use Rattle.th_meaning.specs.Program.{TypeDecl, UnitSort, of_routine, of_method, of_init, ProgramUnit}
use Rattle.th_meaning.specs.Counts.{unit_locals, unit_depth}
use Rattle.th_flat.specs.declared.op.FlatOp.{FlatOp}
use Rattle.th_flat.specs.declared.op.FlatOp.TheVariants.{OpLocal, OpOwn, OpSetfield, OpReturn}
use Rattle.th_flat.specs.declared.module.FlatUnit.{FlatUnit}
use Rattle.th_lowering.specs.Sizes.{body_size}
use Rattle.th_lowering.specs.Site.{Site, words_before}
use Rattle.th_lowering.specs.Code.{body_code}
use Rattle.th_lowering.specs.Stubs.{body_stubs}

-- the kind of a unit
abbrev pub kind_of : UnitSort → (iterator : Bool) → ℕ
kind_of of_routine iterator = if iterator then 1 else 0
kind_of (of_method c m) iterator = if iterator then 3 else 2
kind_of (of_init c) iterator = 4

-- the where-words k, k + 1 and so on of a new object of a class are set, so many of them; their local words stand behind the receiver
abbrev pub keep_code : (class : List ℕ) → (k count : ℕ) → List FlatOp
keep_code c k zero = []
keep_code c k (suc n) = OpLocal (k + 1) ∷ OpSetfield c k ∷ keep_code c (k + 1) n

-- what stands before a unit's statements: an initializer sets the where-words
abbrev pub start_code : UnitSort → (clauses : ℕ) → List FlatOp
start_code of_routine n = []
start_code (of_method c m) n = []
start_code (of_init c) n = keep_code c 0 n

abbrev pub start_size : UnitSort → (clauses : ℕ) → ℕ
start_size of_routine n = 0
start_size (of_method c m) n = 0
start_size (of_init c) n = n + n

-- what stands behind a unit's statements: a return, which in an initializer gives the object
abbrev pub end_code : UnitSort → List FlatOp
end_code of_routine = OpReturn 0 ∷ []
end_code (of_method c m) = OpReturn 0 ∷ []
end_code (of_init c) = OpOwn c ∷ OpReturn 1 ∷ []

abbrev pub end_size : UnitSort → ℕ
end_size of_routine = 1
end_size (of_method c m) = 1
end_size (of_init c) = 2

-- how many operations a unit has
abbrev pub unit_size : ProgramUnit → ℕ
unit_size u = start_size u.sort (length u.clauses) + body_size u.body + end_size u.sort

-- where a unit's statements begin, and where they end
abbrev pub body_start : ProgramUnit → ℕ
body_start u = start_size u.sort (length u.clauses)

abbrev pub body_end : ProgramUnit → ℕ
body_end u = start_size u.sort (length u.clauses) + body_size u.body

module _ (module_name : List ℕ) (known : List TypeDecl) where
  -- where a unit's code stands, with so many operations of the module before it
  abbrev pub site_of : (before : ℕ) → ProgramUnit → Site
  site_of before u = record { module_name = module_name; known = known; sort = u.sort; clauses = length u.clauses; count = unit_size u; before = before }

  -- the operations of a unit
  abbrev pub unit_code : (before : ℕ) → ProgramUnit → List FlatOp
  unit_code before u = start_code u.sort (length u.clauses) ++ (body_code (site_of before u) u.body (body_start u) (body_end u) ++ end_code u.sort)

  -- a unit
  abbrev pub lowered_unit : (before : ℕ) → ProgramUnit → FlatUnit
  lowered_unit before u = record {
    name = u.name;
    kind = kind_of u.sort u.sig.iterator;
    args = words_before u.sort (length u.clauses) + length u.sig.formals;
    locals = unit_locals u;
    depth = unit_depth u;
    ops = unit_code before u;
  }

  -- a unit and its stubs
  abbrev pub with_stubs : (before : ℕ) → ProgramUnit → List FlatUnit
  with_stubs before u = lowered_unit before u ∷ body_stubs (site_of before u) u.body (body_start u)

  -- units and their stubs, one after another
  abbrev pub lowered_units : (before : ℕ) → List ProgramUnit → List FlatUnit
  lowered_units before [] = []
  lowered_units before (u ∷ us) = with_stubs before u ++ lowered_units (before + unit_size u) us
