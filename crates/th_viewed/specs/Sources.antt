-- What units of Flat code were lowered from, and programs of such units.
use Rattle.std.specs.Prelude.{◌≡◌, ℕ, List, Option, option_map}
use Rattle.th_meaning.specs.declared.types.Primitive.{Primitive}
use Rattle.th_meaning.specs.Program.{TypeDecl, ProgramUnit}
use Rattle.th_flat.specs.declared.module.FlatUnit.{FlatUnit}
use Rattle.th_flat.specs.Program.{FlatProgram}
use Rattle.th_lowering.specs.Homes.{MethodShape}
use Rattle.th_lowering.specs.Stubs.{primitive_stub, method_stub}
use Rattle.th_lowering.specs.Units.{lowered_unit}

-- what a unit of Flat code was lowered from: a unit of a module, with what the module's interfaces declare and how many operations
-- the module has before it; or what stands for a where-method, which is a primitive, or a method of a declared type
pub data Source : Type 0 where
  from_unit : (module_name : List ℕ) → (known : List TypeDecl) → (before : ℕ) → (unit : ProgramUnit) → Source
  from_primitive : (name : List ℕ) → (primitive : Primitive) → Source
  from_method : (name of home method : List ℕ) → (shape : MethodShape) → Source

-- the unit of Flat code that it becomes
abbrev pub flat_of : Source → FlatUnit
flat_of (from_unit m known before u) = lowered_unit m known before u
flat_of (from_primitive name q) = primitive_stub name q
flat_of (from_method name of h m x) = method_stub name of h m x

-- what the operations of a program can name, whose units are given by what they were lowered from
pub record WordProgram : Type 0 where
  pub flat : FlatProgram
  pub main : Option Source
  pub unit : List ℕ → Option Source
  pub called : List ℕ → Option Source
  pub dispatched : (head method class : List ℕ) → Option Source
  pub hidden : (class method of : List ℕ) → Option Source

-- each name leads to a unit that was lowered from what it leads to
pub record AreLoweredFrom (w : WordProgram) : Type 0 where
  pub main : w.flat.main ≡ option_map flat_of w.main
  pub unit : (name : List ℕ) → w.flat.unit name ≡ option_map flat_of (w.unit name)
  pub called : (name : List ℕ) → w.flat.called name ≡ option_map flat_of (w.called name)
  pub dispatched : (head method class : List ℕ) → w.flat.dispatched head method class ≡ option_map flat_of (w.dispatched head method class)
  pub hidden : (class method of : List ℕ) → w.flat.hidden class method of ≡ option_map flat_of (w.hidden class method of)
