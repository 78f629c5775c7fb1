-- The laws.
use Rattle.std.proofs.Common.{◌≡◌, ℕ, ◌+◌, List, length, refl, sym, subst}
use Rattle.std.specs.Prelude.{IsTrue}
use Rattle.std.specs.List.{list_all}
use Rattle.th_meaning.specs.Program.{TypeDecl, ProgramUnit}
use Rattle.th_flat.specs.Orderly.{is_of_level_1, is_on}
use Rattle.th_lowering.specs.Stubs.{primitive_stub, method_stub}
use Rattle.th_lowering.specs.Units.{unit_code, unit_size, lowered_unit}
use Rattle.th_lower_law.specs.Laws.{UnitsHaveTheirSize, ModulesAreOfLevel1, GoesOnward, ModulesGoOnward}
use Rattle.th_lower_law.proofs.Lengths.{unit_length}
use Rattle.th_lower_law.proofs.Levels.{unit_plain}
use Rattle.th_lower_law.proofs.Onward.{unit_onward, leads_onward}
use Rattle.th_lower_law.proofs.StubLaws.{method_length, primitive_level, method_level, primitive_onward, method_onward}
use Rattle.th_lower_law.proofs.Everywhere.{everywhere}

pub have_their_size : UnitsHaveTheirSize
have_their_size name known before u = unit_length name known before u

unit_level : (name : List ℕ) (known : List TypeDecl) (before : ℕ) (u : ProgramUnit) → IsTrue (is_on 1 (lowered_unit name known before u))
unit_level name known before u =
    subst (λ n. IsTrue (list_all (is_of_level_1 n) (unit_code name known before u))) (sym (unit_length name known before u)) (unit_plain name known before u).plain

pub are_of_level_1 : ModulesAreOfLevel1
are_of_level_1 m f h = everywhere (λ u. IsTrue (is_on 1 u)) primitive_level method_level unit_level m f h

pub go_onward : ModulesGoOnward
go_onward m f h = everywhere GoesOnward
    (λ name p. leads_onward (primitive_stub name p) 5 refl (primitive_onward name p))
    (λ name of home method x. leads_onward (method_stub name of home method x) (x.formals + 4) (method_length name of home method x) (method_onward name of home method x))
    (λ name known before u. leads_onward (lowered_unit name known before u) (unit_size u) (unit_length name known before u) (unit_onward name known before u)) m f h
