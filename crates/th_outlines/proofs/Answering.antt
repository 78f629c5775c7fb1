-- The answer of the hierarchy of interfaces, with failures at their texts.
use Rattle.std.proofs.Common.{◌≡◌, ℕ, ◌<◌, List, length, Option, Some, None, sym, ap, ◌∙◌, subst, inl, inr}
use Rattle.std.specs.Prelude.{Ok, Err}
use Rattle.th_tree.specs.Trees.{InterfaceSyn, ModuleSyn}
use Rattle.th_type.specs.declared.place.Place.{Place}
use Rattle.th_type.specs.declared.place.Failure.{Failure}
use Rattle.th_type.specs.Failures.{failure, IsLeastOf}
use Rattle.th_type.proofs.Least.{least_alike}
use Rattle.th_hier.specs.declared.hierarchy.HierError.{HierError}
use Rattle.th_hier.specs.declared.hierarchy.HierError.TheVariants as errors
use Rattle.th_hier.specs.Answers.{IsHierarchyAnswer}
use Rattle.th_hier.specs.Naming.{Items}
use Rattle.th_hier.specs.Hierarchies.{TypeHierarchy, hierarchy_of, items_of, FailsEarly, FailsLate, NoRuleFails, IsRefusal}
use Rattle.th_module_rules.specs.Stages.{Program, hierarchy_in, interface_trees, placed, IsNamed}
use Rattle.th_program.specs.declared.error.RuleError.{RuleError}
use Rattle.th_outlines.specs.Placing.{placed_in, Placed}
use Rattle.th_program.specs.Programs.{program, Ascending}
use Rattle.th_outlines.specs.Stages.{hierarchy_stages, placed_error, IsAnswer}
use Rattle.th_outlines.proofs.Pairing.{texts_are, trees_are}
use Rattle.th_outlines.proofs.Placing.{least_placed}
use Rattle.th_outlines.proofs.InTexts.{early_in, late_in}

-- the failures of a rule on the hierarchy, at their texts
abbrev pub InStage : (Items → List InterfaceSyn → Failure → Type 0) → Program → Failure → Type 0
InStage F p f = (g : Failure) × F (hierarchy_in p).items (interface_trees p) g × (f ≡ placed p g)

to_stage : (F : Items → List InterfaceSyn → Failure → Type 0) (table : List (List ℕ)) (texts : List ℕ) (fs : List InterfaceSyn) (ns : List ℕ) (ms : List ModuleSyn) → length texts ≡ length fs
    → (f : Failure) → Placed texts (F (items_of table fs) fs) f → InStage F (program table texts fs ns ms) f
to_stage F table texts fs ns ms len f (g, x, s) =
    (g, subst (λ (l : List InterfaceSyn). F (items_of table l) l g) (sym (trees_are texts fs len)) x, s ∙ sym (ap (λ (l : List ℕ). placed_in l g) (texts_are texts fs len)))

from_stage : (F : Items → List InterfaceSyn → Failure → Type 0) (table : List (List ℕ)) (texts : List ℕ) (fs : List InterfaceSyn) (ns : List ℕ) (ms : List ModuleSyn) → length texts ≡ length fs
    → (f : Failure) → InStage F (program table texts fs ns ms) f → Placed texts (F (items_of table fs) fs) f
from_stage F table texts fs ns ms len f (g, x, s) =
    (g, subst (λ (l : List InterfaceSyn). F (items_of table l) l g) (trees_are texts fs len) x, s ∙ ap (λ (l : List ℕ). placed_in l g) (texts_are texts fs len))

in_stage : (F : Items → List InterfaceSyn → Failure → Type 0) (table : List (List ℕ)) (texts : List ℕ) (fs : List InterfaceSyn) (ns : List ℕ) (ms : List ModuleSyn) (o : Option Failure) → length texts ≡ length fs
    → IsLeastOf (Placed texts (F (items_of table fs) fs)) o → IsLeastOf (InStage F (program table texts fs ns ms)) o
in_stage F table texts fs ns ms o len h =
    least_alike (Placed texts (F (items_of table fs) fs)) (InStage F (program table texts fs ns ms)) o (to_stage F table texts fs ns ms len) (from_stage F table texts fs ns ms len) h

none_in : (F : Items → List InterfaceSyn → Failure → Type 0) (table : List (List ℕ)) (texts : List ℕ) (fs : List InterfaceSyn) (ns : List ℕ) (ms : List ModuleSyn) → length texts ≡ length fs
    → ((f : Failure) → ¬ F (items_of table fs) fs f) → IsLeastOf (InStage F (program table texts fs ns ms)) None
none_in F table texts fs ns ms len none = λ f w. let g = from_stage F table texts fs ns ms len f w in none g.0 g.1

pub answer_ok : (table : List (List ℕ)) (texts : List ℕ) (fs : List InterfaceSyn) (ns : List ℕ) (ms : List ModuleSyn) (h : TypeHierarchy) → length texts ≡ length fs
    → h ≡ hierarchy_of table fs → NoRuleFails (items_of table fs) fs → IsAnswer (program table texts fs ns ms) (hierarchy_stages (program table texts fs ns ms)) (Ok h)
answer_ok table texts fs ns ms h len is none =
    (is ∙ ap (hierarchy_of table) (sym (trees_are texts fs len)), (none_in FailsEarly table texts fs ns ms len none.0, (none_in FailsLate table texts fs ns ms len none.1, tt)))

pub answer_rule : (table : List (List ℕ)) (texts : List ℕ) (fs : List InterfaceSyn) (ns : List ℕ) (ms : List ModuleSyn) (rule : ℕ) (q : Place) → length texts ≡ length fs → Ascending texts
    → IsRefusal (items_of table fs) fs rule q → IsNamed (hierarchy_stages (program table texts fs ns ms)) (placed_in texts (failure rule q))
answer_rule table texts fs ns ms rule q len up (inl l) =
    inl (in_stage FailsEarly table texts fs ns ms (Some (placed_in texts (failure rule q))) len
    (least_placed texts (FailsEarly (items_of table fs) fs) (Some (failure rule q)) up (λ g x. subst (λ n. g.place.text < n) (sym len) (early_in (items_of table fs) fs g x)) l))
answer_rule table texts fs ns ms rule q len up (inr (none, l)) =
    inr (
      none_in FailsEarly table texts fs ns ms len none,
      inl (in_stage FailsLate table texts fs ns ms (Some (placed_in texts (failure rule q))) len
          (least_placed texts (FailsLate (items_of table fs) fs) (Some (failure rule q)) up (λ g x. subst (λ n. g.place.text < n) (sym len) (late_in (items_of table fs) fs g x)) l)),
    )

-- what the making of a hierarchy answers, with failures at their texts
pub answer_err : (table : List (List ℕ)) (texts : List ℕ) (fs : List InterfaceSyn) (ns : List ℕ) (ms : List ModuleSyn) (e : HierError) (r : RuleError) → length texts ≡ length fs → Ascending texts
    → r ≡ placed_error texts e → IsHierarchyAnswer table fs (Err e) → IsAnswer (program table texts fs ns ms) (hierarchy_stages (program table texts fs ns ms)) (Err r)
answer_err table texts fs ns ms (errors.Rule number q) r len up is h =
    subst (λ (x : RuleError). IsAnswer (program table texts fs ns ms) (hierarchy_stages (program table texts fs ns ms)) (Err x)) (sym is) (answer_rule table texts fs ns ms number q len up h)
answer_err table texts fs ns ms errors.Memory r len up is h =
    subst (λ (x : RuleError). IsAnswer (program table texts fs ns ms) (hierarchy_stages (program table texts fs ns ms)) (Err x)) (sym is) tt
