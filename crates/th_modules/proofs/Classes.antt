-- The definition of a class: what lists show of it, and then what it defines and inherits.
use Rattle.std.proofs.Common.{◌≡◌, ℕ, ◌++◌, List, [], ◌∷◌, Option, None, option_map, sym, ◌∙◌, ap, subst}
use Rattle.th_tree.specs.Trees.{ClassSyn}
use Rattle.th_type.specs.declared.place.Failure.{Failure}
use Rattle.th_type.specs.Failures.{lowest, IsLeastOf}
use Rattle.th_type.proofs.Least.{lowest_append}
use Rattle.th_hier.specs.Naming.{Items, Visible}
use Rattle.th_meaning.specs.Trees.{BodyTree}
use Rattle.th_meaning.specs.Program.{ProgramUnit}
use Rattle.th_rules.specs.Context.{Binding, ClassInfo, Context, class_head}
use Rattle.th_rules.specs.Cores.{name_at}
use Rattle.th_overrides.specs.Bodies.{body_above}
use Rattle.th_overrides.specs.Judging.{FailsToo}
use Rattle.th_module_rules.specs.Contexts.{bindings, sig_or_bare}
use Rattle.th_module_rules.specs.ClassRules.{OverridesFail}
use Rattle.th_module_rules.specs.Initializers.{init_core, init_fails}
use Rattle.th_module_rules.specs.Modules.{ClassFails, Judged, class_lists_fail, context_in, found_in, has_body_above, inherited_at, inherits_fails, method_sig, methods_fail, seen_in}
use Rattle.th_module_rules.specs.Units.{class_units, init_unit, method_units}
use Rattle.th_modules.specs.Lowering.{Lowers}
use Rattle.th_modules.specs.View.{init_made, units_after}
use Rattle.th_modules.proofs.Least.{still_none}
use Rattle.th_modules.proofs.Lowering.{lowered_none, lowers_after}
use Rattle.th_modules.proofs.Units.{units_one}

-- three lists, one after the other
three_kept : (o a b n : Option Failure) (xs ys zs : List Failure) → a ≡ lowest o xs → b ≡ lowest a ys → n ≡ lowest b zs → n ≡ lowest o (xs ++ ys ++ zs)
three_kept o a b n xs ys zs first second third =
    third ∙ ap (λ (k : Option Failure). lowest k zs) (second ∙ ap (λ (k : Option Failure). lowest k ys) first ∙ sym (lowest_append o xs ys)) ∙ sym (lowest_append o (xs ++ ys) zs)

module _ (J : Judged) (c : ClassInfo) (full : ℕ) (s : ClassSyn) where
  -- what is known where the class's initializer stands, and its formals
  abbrev around : Context
  around = context_in J s.head.params c.clauses c.init None

  abbrev formals : List Binding
  formals = bindings (found_in J) (seen_in J s.head.params) 0 s.init.head.formals

  abbrev init_there : Context → List Binding → List Failure
  init_there C ls = init_fails C ls c (inherited_at C c.inherits) s.init

  abbrev core_there : Context → List Binding → Option BodyTree
  core_there C ls = init_core C ls (name_at C.names full) c (inherited_at C c.inherits) s.init

  -- the failures that lists show are kept
  pub parts_kept : (C : Context) (ls : List Binding) (o a b n : Option Failure) → C ≡ around → ls ≡ formals
      → a ≡ lowest o (inherits_fails C s.head.inherits c.inherits) → b ≡ lowest a (init_there C ls) → n ≡ lowest b (methods_fail J s.head.params c full s.methods)
      → n ≡ lowest o (class_lists_fail J c full s)
  parts_kept C ls o a b n is locals first second third =
      three_kept o a b n (inherits_fails around s.head.inherits c.inherits) (init_there around formals) (methods_fail J s.head.params c full s.methods)
      (first ∙ ap (λ (D : Context). lowest o (inherits_fails D s.head.inherits c.inherits)) is)
      (second ∙ ap (λ (D : Context). lowest a (init_there D ls)) is ∙ ap (λ (ks : List Binding). lowest a (init_there around ks)) locals) third

  -- the units, where nothing fails
  pub parts_units : (C : Context) (ls : List Binding) (b n : Option Failure) (body : Option BodyTree) (u : Option ProgramUnit) (us r : Option (List ProgramUnit)) → C ≡ around → ls ≡ formals
      → (b ≡ None → body ≡ core_there C ls) → u ≡ init_made J.table c full body → us ≡ option_map (λ x. x ∷ []) u → n ≡ lowest b (methods_fail J s.head.params c full s.methods)
      → (n ≡ None → r ≡ units_after us (method_units J s.head.params c full s.methods)) → n ≡ None → r ≡ class_units J full s (class_head c)
  parts_units C ls b n body u us r is locals core made pushed kept rest none =
      let ms : Option (List ProgramUnit) = method_units J s.head.params c full s.methods in
      let whole = core (still_none b (methods_fail J s.head.params c full s.methods) (sym kept ∙ none)) ∙ ap (λ (D : Context). core_there D ls) is ∙ ap (core_there around) locals in
      rest none ∙ ap (λ (vs : Option (List ProgramUnit)). units_after vs ms) (pushed ∙ ap (option_map (λ x. x ∷ [])) (made ∙ ap (init_made J.table c full) whole)) ∙ units_one (init_unit J s c full) ms

  abbrev OverridesHere : Context → Items → Visible → Failure → Type 0
  OverridesHere C found sight = OverridesFail C (body_above C.types J.bases J.own c.inherits) (sig_or_bare found sight) c s

  -- the failures of the class are kept
  pub class_kept : (C : Context) (found : Items) (sight : Visible) (o mid new : Option Failure) → C ≡ around → found ≡ found_in J → sight ≡ seen_in J s.head.params
      → mid ≡ lowest o (class_lists_fail J c full s) → IsLeastOf (FailsToo mid (OverridesFail C (body_above C.types J.bases J.own c.inherits) (sig_or_bare found sight) c s)) new → Lowers (ClassFails J c full s) o new
  class_kept C found sight o mid new is at seen kept least =
      lowers_after (OverridesFail around (has_body_above J c) (method_sig J s.head.params) c s) (class_lists_fail J c full s) o mid new kept
      (subst (λ (v : Visible). IsLeastOf (FailsToo mid (OverridesHere around (found_in J) v)) new) seen
      (subst (λ (i : Items). IsLeastOf (FailsToo mid (OverridesHere around i sight)) new) at (subst (λ (D : Context). IsLeastOf (FailsToo mid (OverridesHere D found sight)) new) is least)))

-- where nothing is kept in a class, nothing that lists show was kept
pub lists_none : (P : Failure → Type 0) (mid new : Option Failure) → IsLeastOf (FailsToo mid P) new → new ≡ None → mid ≡ None
lists_none P mid new h e = lowered_none P mid (subst (λ (n : Option Failure). Lowers P mid n) e h)
