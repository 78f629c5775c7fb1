-- What holds of the modules of a program outside whose bodies and initializers nothing fails.
use Rattle.std.proofs.Common.{◌≡◌, ℕ, true, List, [], ◌∷◌, ◌++◌, length, Option, None, refl, sym, ap, ◌∙◌, subst, inl, inr}
use Rattle.std.specs.Global.{Vec}
use Rattle.th_tree.specs.Trees.{InterfaceSyn, ModuleSyn}
use Rattle.th_type.specs.declared.place.Failure.{Failure}
use Rattle.th_type.specs.Failures.{lowest, none_of, IsLeastOf}
use Rattle.th_type.specs.Lists.{IsIn}
use Rattle.th_type.proofs.Members.{from_map, in_left, in_right}
use Rattle.th_hier.specs.Hierarchies.{TypeHierarchy}
use Rattle.th_hier.specs.Naming.{Items}
use Rattle.th_meaning.specs.declared.declared.CoreUnit.{CoreUnit}
use Rattle.th_module_rules.specs.Clauses.{module_items_fail}
use Rattle.th_module_rules.specs.Contexts.{interface_items}
use Rattle.th_module_rules.specs.Own.{head_items, module_names_fail}
use Rattle.th_module_rules.specs.Stages.{Numbered, Program, FailsThird, FailsFourth, hierarchy_in, interface_trees, interfaces_fail, modules_fail}
use Rattle.th_module_rules.specs.Texts.{HasItemNames, HasNames}
use Rattle.th_contexts.specs.declared.known.Known.{Known}
use Rattle.th_modules.specs.Lowering.{Lowers}
use Rattle.th_program.specs.Programs.{program, with_texts}
use Rattle.th_bodies.specs.Bodies.{judged_in, UnitsOf}
use Rattle.th_bodies.specs.Exported.{interfaces_fail_by}
use Rattle.th_bodies.specs.Judging.{judged_at, ModulesFail, UnitsHere}
use Rattle.th_bodies.proofs.Above.{AllFull}
use Rattle.th_bodies.proofs.Joining.{Makes, fourth_least, units_of_all}
use Rattle.th_bodies.proofs.Made.{own_heads, units_there}
use Rattle.th_bodies.proofs.Paired.{trees_are}
use Rattle.th_bodies.proofs.Resolved.{none_there}

in_modules : (table : List (List ℕ)) (items : Items) (ms : List (Numbered ModuleSyn)) (m : Numbered ModuleSyn) (f : Failure)
    → IsIn m ms → IsIn f (module_names_fail table items m.text m.tree) → IsIn f (modules_fail table items ms)
in_modules table items [] m f k i = absurd k
in_modules table items (n ∷ ms) m f (inl e) i =
    let names : List Failure = module_names_fail table items n.text n.tree in
    let further : List Failure = module_items_fail table n.text (head_items n.tree) in
    in_left f (names ++ further) (modules_fail table items ms) (in_left f names further (subst (λ (q : Numbered ModuleSyn). IsIn f (module_names_fail table items q.text q.tree)) e i))
in_modules table items (n ∷ ms) m f (inr k) i =
    in_right f (module_names_fail table items n.text n.tree ++ module_items_fail table n.text (head_items n.tree)) (modules_fail table items ms) (in_modules table items ms m f k i)

-- no rule on names fails in a module outside bodies and initializers
names_none : (p : Program) (m : Numbered ModuleSyn) → IsLeastOf (FailsThird p) None → IsIn m p.modules → none_of (module_names_fail p.table (hierarchy_in p).items m.text m.tree) ≡ true
names_none p m none k =
    none_there (module_names_fail p.table (hierarchy_in p).items m.text m.tree)
    (λ f i. none f (inl (in_right f (interfaces_fail p.table p.interfaces) (modules_fail p.table (hierarchy_in p).items p.modules) (in_modules p.table (hierarchy_in p).items p.modules m f k i))))

-- the table has the full names of the items of interfaces
all_full : (p : Program) → HasNames p → AllFull p.table (interface_trees p)
all_full p named = λ f k x i.
    let q = from_map (λ (n : Numbered InterfaceSyn). n.tree) f p.interfaces k in
    subst (λ (t : InterfaceSyn). HasItemNames p.table t) (sym q.2) (named.interfaces q.0 q.1) x i

-- each module is found as its items say, and has units where nothing fails in it
makes_all : (p : Program) → HasNames p → IsLeastOf (FailsThird p) None → IsLeastOf (FailsFourth p) None → (m : Numbered ModuleSyn) → IsIn m p.modules → Makes p (judged_in p m)
makes_all p named third fourth m k =
    let names = names_none p m third k in (
      own_heads m.text p.table (interface_trees p) m.tree (hierarchy_in p) refl names,
      units_there m.text p.table (interface_trees p) m.tree (hierarchy_in p) refl names (all_full p named) (λ f q. fourth f (inr (m, k, q))),
    )

-- what was judged by the hierarchy and the interfaces of a program
module _ (table : List (List ℕ)) (is : List ℕ) (fs : List InterfaceSyn) (ns : List ℕ) (ms : List ModuleSyn) (h : TypeHierarchy) (paired : length is ≡ length fs) (same : h ≡ hierarchy_in (program table is fs ns ms)) where
  abbrev p : Program
  p = program table is fs ns ms

  pub least_of_all : (mid new : Option Failure) → mid ≡ lowest None (interfaces_fail_by table h (interface_items h.items [] fs) (with_texts is fs)) → Lowers (ModulesFail (judged_at table h fs) (with_texts ns ms)) mid new → IsLeastOf (FailsFourth p) new
  least_of_all mid new e l =
      fourth_least p mid new
      (e ∙ ap (λ (k : TypeHierarchy). lowest None (interfaces_fail_by table k (interface_items k.items [] fs) (with_texts is fs))) same
      ∙ ap (λ (xs : List InterfaceSyn). lowest None (interfaces_fail_by table (hierarchy_in p) (interface_items (hierarchy_in p).items [] xs) (with_texts is fs))) (sym (trees_are is fs paired)))
      (subst (λ (xs : List InterfaceSyn). Lowers (ModulesFail (judged_at table (hierarchy_in p) xs) (with_texts ns ms)) mid new) (sym (trees_are is fs paired))
      (subst (λ (k : TypeHierarchy). Lowers (ModulesFail (judged_at table k fs) (with_texts ns ms)) mid new) same l))

  pub units_of_program : (us : List (Vec CoreUnit)) (ks : List Known) → HasNames p → IsLeastOf (FailsThird p) None → IsLeastOf (FailsFourth p) None → UnitsHere (judged_at table h fs) (with_texts ns ms) us ks → UnitsOf p p.modules us ks
  units_of_program us ks named third fourth u =
      units_of_all p p.modules us ks (makes_all p named third fourth)
      (subst (λ (xs : List InterfaceSyn). UnitsHere (judged_at table (hierarchy_in p) xs) (with_texts ns ms) us ks) (sym (trees_are is fs paired))
      (subst (λ (k : TypeHierarchy). UnitsHere (judged_at table k fs) (with_texts ns ms) us ks) same u))
