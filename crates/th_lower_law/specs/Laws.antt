-- What holds of the units that the lowering gives, whatever the checked units are.
use Rattle.std.specs.Prelude.{◌≡◌, ℕ, ◌<◌, ◌⊎◌, IsTrue, List, All, length, slice_get, Some}
use Rattle.th_meaning.specs.Program.{TypeDecl, ProgramUnit, ProgramModule}
use Rattle.th_flat.specs.declared.op.FlatOp.{FlatOp}
use Rattle.th_flat.specs.declared.op.FlatOp.TheVariants.{OpTurn}
use Rattle.th_flat.specs.declared.module.FlatUnit.{FlatUnit}
use Rattle.th_flat.specs.declared.module.FlatModule.{FlatModule}
use Rattle.th_flat.specs.Orderly.{is_on}
use Rattle.th_flat.specs.Pace.{LeadsTo}
use Rattle.th_lowering.specs.Units.{unit_size, lowered_unit}
use Rattle.th_lowering.specs.Module.{IsLowered}

-- a unit has as many operations as its size says
abbrev pub UnitsHaveTheirSize : Type 0
UnitsHaveTheirSize = (module_name : List ℕ) (known : List TypeDecl) (before : ℕ) (u : ProgramUnit) → length (lowered_unit module_name known before u).ops ≡ unit_size u

-- each unit of a lowered module, and each stub, is of level 1
abbrev pub ModulesAreOfLevel1 : Type 0
ModulesAreOfLevel1 = (m : ProgramModule) (f : FlatModule) → IsLowered m f → All (λ u. IsTrue (is_on 1 u)) f.units

-- what an operation of a unit leads to besides the next one is ahead of it, or a turn
abbrev pub GoesOnward : FlatUnit → Type 0
GoesOnward u = (p q : ℕ) (op : FlatOp) → slice_get u.ops p ≡ Some op → LeadsTo u p op q → (p < q) ⊎ (slice_get u.ops q ≡ Some OpTurn)

-- so it is in each unit of a lowered module, and in each stub
abbrev pub ModulesGoOnward : Type 0
ModulesGoOnward = (m : ProgramModule) (f : FlatModule) → IsLowered m f → All GoesOnward f.units
