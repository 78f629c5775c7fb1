-- The failures in modules and interfaces that are judged where no rule on names fails outside bodies and initializers.
use Rattle.std.specs.Prelude.{◌≡◌, ℕ, zero, suc, ◌+◌, Bool, true, false, not, ◌&&◌, ◌||◌, ◌⊎◌, List, [], ◌∷◌, ◌++◌, map, length, Option, Some, None, is_some, if◌then◌else◌}
use Rattle.th_tree.specs.declared.tree.Ident.{Ident}
use Rattle.th_tree.specs.Trees.{NamedSyn, RoutineSyn, MethodSyn, BodySyn, SigSyn, ClassSyn, InterfaceSyn, ModuleItemSyn, module_class, module_routine, ModuleSyn}
use Rattle.th_type.specs.declared.place.Failure.{Failure}
use Rattle.th_type.specs.Failures.{place, failure, unless}
use Rattle.th_type.specs.Lists.{IsIn, is_in}
use Rattle.th_type.specs.Types.{TypeExpr, TypeExprs, int_ty, bool_ty, text_ty, array_ty, named_ty, param_ty, list_of}
use Rattle.th_type.specs.Signatures.{Signature, Constraint}
use Rattle.th_type.specs.Declarations.{DeclaredType}
use Rattle.th_type.specs.Methods.{method_at}
use Rattle.th_hier.specs.Naming.{Items, Visible}
use Rattle.th_hier.specs.Hierarchies.{TypeHierarchy}
use Rattle.th_hier.specs.Texts.{within}
use Rattle.th_rules.specs.Context.{Binding, ClassInfo, Head, class_head, routine_head, Item, Context, find_item}
use Rattle.th_rules.specs.Classes.{class_at}
use Rattle.th_rules.specs.Supplies.{supplies_of}
use Rattle.th_stmt_rules.specs.Units.{unit_fails, ends_lawfully}
use Rattle.th_module_rules.specs.Own.{all_items, implemented, module_visible, own_full}
use Rattle.th_module_rules.specs.Contexts.{Base, base_at, bindings, interface_items, item_bases, module_items, module_item_name, own_bases, routine_info, sig_or_bare, type_number, unit_context}
use Rattle.th_module_rules.specs.ClassRules.{SameHead, OverridesFail}
use Rattle.th_module_rules.specs.Initializers.{Inherited, init_fails}

-- the class that a class inherits, with arguments
abbrev pub inherited_with : ℕ → TypeExprs → Option ClassInfo → Option Inherited
inherited_with n ts None = None
inherited_with n ts (Some c) = Some (record { full = n; class = c; args = list_of ts; types = ts })

abbrev pub inherited_at : Context → Option TypeExpr → Option Inherited
inherited_at C None = None
inherited_at C (Some int_ty) = None
inherited_at C (Some bool_ty) = None
inherited_at C (Some text_ty) = None
inherited_at C (Some (array_ty t)) = None
inherited_at C (Some (named_ty n ts)) = inherited_with n ts (class_at C.items n)
inherited_at C (Some (param_ty k)) = None

-- whether the where-clauses of the inherited class are satisfied
abbrev pub is_inherited_supplied : Context → Option Inherited → Bool
is_inherited_supplied C None = true
is_inherited_supplied C (Some i) = is_some (supplies_of C i.args i.class.clauses)

-- the failure of an inherited class whose where-clauses are not satisfied
abbrev pub inherits_fails : Context → Option NamedSyn → Option TypeExpr → List Failure
inherits_fails C None t = []
inherits_fails C (Some n) t = unless (is_inherited_supplied C (inherited_at C t)) 17 (place C.text n.item.first.at)

-- whether a method is marked as hidden exactly where its name is not that of a method of the class's type
abbrev pub marked_lawfully : List DeclaredType → ClassInfo → MethodSyn → Bool
marked_lawfully D c m = if is_some (method_at D c.of m.sig.name.name) then not m.hidden else m.hidden

-- what the definitions of a module are judged by: the number of the text, the names, the hierarchy of interfaces, the items
-- that can be named, what is asked of classes, the numbers of the module's own classes, and the module
pub record Judged : Type 0 where
  pub text : ℕ
  pub table : List (List ℕ)
  pub hierarchy : TypeHierarchy
  pub items : List Item
  pub bases : List Base
  pub own : List ℕ
  pub tree : ModuleSyn

-- the items by name in a module, and what can be seen there
abbrev pub found_in : Judged → Items
found_in J = all_items J.table J.hierarchy.items J.tree

abbrev pub seen_in : Judged → List Ident → Visible
seen_in J ps = within (module_visible J.table J.tree) ps

-- what is known where a unit of an item of the module stands
abbrev pub context_in : Judged → List Ident → List Constraint → Signature → Option ℕ → Context
context_in J ps cs s c = unit_context J.text J.table J.hierarchy J.items J.tree ps cs s c

-- the failures in the body of a unit with these formals, and of its end
abbrev pub unit_body_fails : Context → List Binding → Ident → BodySyn → List Failure
unit_body_fails C ls name b = unit_fails C ls b ++ unless (ends_lawfully C.sig b) 28 (place C.text name.at)

-- the failures in a routine
abbrev pub routine_fails : Judged → RoutineSyn → List Failure
routine_fails J r =
    let info = routine_info (found_in J) (seen_in J r.head.params) r.head in
    unit_body_fails (context_in J r.head.params info.clauses info.sig None) (bindings (found_in J) (seen_in J r.head.params) 0 r.head.formals) r.head.name r.body

-- the signature of a method in a class with these type parameters
abbrev pub method_sig : Judged → List Ident → SigSyn → Signature
method_sig J ps s = sig_or_bare (found_in J) (seen_in J ps) s

-- the failures in a method: it is marked as hidden where the class's type does not have it, and in its body
abbrev pub method_fails : Judged → List Ident → ClassInfo → ℕ → MethodSyn → List Failure
method_fails J ps c full m =
    unless (marked_lawfully J.hierarchy.types c m) 15 (place J.text m.sig.name.at)
    ++ unit_body_fails (context_in J ps c.clauses (method_sig J ps m.sig) (Some full)) (bindings (found_in J) (seen_in J ps) 0 m.sig.formals) m.sig.name m.body

abbrev pub methods_fail : Judged → List Ident → ClassInfo → ℕ → List MethodSyn → List Failure
methods_fail J ps c full [] = []
methods_fail J ps c full (m ∷ ms) = method_fails J ps c full m ++ methods_fail J ps c full ms

-- the failures in a class that lists show: of the inherited class's where-clauses, in the initializer, and in the methods
abbrev pub class_lists_fail : Judged → ClassInfo → ℕ → ClassSyn → List Failure
class_lists_fail J c full s =
    let C = context_in J s.head.params c.clauses c.init None in
    inherits_fails C s.head.inherits c.inherits
    ++ init_fails C (bindings (found_in J) (seen_in J s.head.params) 0 s.init.head.formals) c (inherited_at C c.inherits) s.init
    ++ methods_fail J s.head.params c full s.methods

-- whether a class has a body of the method, looked for through k classes, one above the other; a class of an interface has
-- those of its type and its hidden ones
abbrev pub base_has_body : List DeclaredType → List ℕ → (Option ℕ → ℕ → Bool) → Option Base → ℕ → Bool
base_has_body D own above None m = false
base_has_body D own above (Some b) m = is_in m b.methods || ((not (is_in b.full own) && is_some (method_at D b.of m)) || above b.inherits m)

abbrev pub body_up : ℕ → List DeclaredType → List Base → List ℕ → Option ℕ → ℕ → Bool
body_up zero D bs own n m = false
body_up (suc k) D bs own None m = false
body_up (suc k) D bs own (Some n) m = base_has_body D own (body_up k D bs own) (base_at bs n) m

-- whether the class above a class has a body of the method
abbrev pub has_body_above : Judged → ClassInfo → ℕ → Bool
has_body_above J c m = body_up (length J.bases) J.hierarchy.types J.bases J.own (type_number c.inherits) m

-- f is a failure in the definition of a class: one that lists show, or one of what it defines and inherits
abbrev pub ClassFails : Judged → ClassInfo → ℕ → ClassSyn → Failure → Type 0
ClassFails J c full s f =
    IsIn f (class_lists_fail J c full s) ⊎ OverridesFail (context_in J s.head.params c.clauses c.init None) (has_body_above J c) (method_sig J s.head.params) c s f

-- the definition of an item with that name differs from its declaration in the implemented interface
abbrev pub Redefined : Judged → ℕ → Head → Type 0
Redefined J n h = (i : ℕ) × (d : Item) × (implemented J.tree ≡ Some i) × (find_item J.items (Some i) n ≡ Some d) × (¬ SameHead h d.head)

-- f is a failure in an item of the module
abbrev pub HeadFails : Judged → ℕ → ModuleItemSyn → Head → Failure → Type 0
HeadFails J full (module_class s) (class_head c) f = ClassFails J c full s f
HeadFails J full (module_routine r) (routine_head i) f = IsIn f (routine_fails J r)
HeadFails J full _ _ f = ⊥

-- f is a failure in one of the module's items, each the first of its name
abbrev pub ModuleFails : Judged → Failure → Type 0
ModuleFails J f =
    (x : ModuleItemSyn) × (i : Item) × IsIn x J.tree.items × (find_item J.items None (module_item_name x).name ≡ Some i)
    × (HeadFails J i.full x i.head f ⊎ (Redefined J (module_item_name x).name i.head × (f ≡ failure 12 (place J.text (module_item_name x).at))))

-- what the definitions of a module are judged by
abbrev pub judged : ℕ → List (List ℕ) → TypeHierarchy → List InterfaceSyn → ModuleSyn → Judged
judged text table h fs m =
    let all = all_items table h.items m in
    let v = module_visible table m in
    let others = interface_items h.items [] fs in
    let bs = own_bases (own_full table h.items m) all v [] m.items in
    record {
      text = text;
      table = table;
      hierarchy = h;
      items = module_items table h fs m;
      bases = bs ++ item_bases others;
      own = map (λ b. b.full) bs;
      tree = m;
    }
