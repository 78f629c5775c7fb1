-- What a module is judged by, where the numbers of its own classes are the same numbers in another order.
use Rattle.std.proofs.Common.{◌≡◌, ℕ, Bool, List, map, length, Option, refl, sym, ◌∙◌, subst, inl, inr}
use Rattle.th_tree.specs.Trees.{SigSyn, ClassSyn, ModuleItemSyn, module_class, module_routine}
use Rattle.th_type.specs.declared.place.Failure.{Failure}
use Rattle.th_type.specs.Signatures.{Signature}
use Rattle.th_type.specs.Judged.{SameNumbers}
use Rattle.th_rules.specs.Context.{ClassInfo, Context, Head, exception_head, type_head, class_head, routine_head}
use Rattle.th_overrides.proofs.Lackings.{bodies_alike}
use Rattle.th_module_rules.specs.Contexts.{type_number}
use Rattle.th_module_rules.specs.ClassRules.{Lacks, OverridesFail}
use Rattle.th_module_rules.specs.Modules.{ClassFails, HeadFails, Judged, ModuleFails, has_body_above}
use Rattle.th_module_rules.specs.Units.{module_units}
use Rattle.th_modules.specs.Lowering.{Lowers}
use Rattle.th_modules.specs.Own.{AreOwn}
use Rattle.th_modules.proofs.Lowering.{lowers_alike}

-- the same with these numbers of own classes
abbrev pub with_own : Judged → List ℕ → Judged
with_own J ns = record J { own = ns }

lacks_as : (C : Context) (f g : ℕ → Bool) (c : ClassInfo) (own : List ℕ) → ((m : ℕ) → g m ≡ f m) → Lacks C f c own → Lacks C g c own
lacks_as C f g c own h (n, t, e, a, o, l) = (n, t, e, a, o, elim l [ inl x ↦ inl (h t.method ∙ x) | inr x ↦ inr x ])

overrides_as : (C : Context) (f g : ℕ → Bool) (sig : SigSyn → Signature) (c : ClassInfo) (s : ClassSyn) (x : Failure) → ((m : ℕ) → g m ≡ f m) → OverridesFail C f sig c s x → OverridesFail C g sig c s x
overrides_as C f g sig c s x h (inl l) = inl (lacks_as C f g c (map (λ m. m.sig.name.name) s.methods) h l.0, l.1)
overrides_as C f g sig c s x h (inr l) = inr l

module _ (J : Judged) (ns ms : List ℕ) (same : SameNumbers ms ns) where
  bodies_as : (c : ClassInfo) (m : ℕ) → has_body_above (with_own J ms) c m ≡ has_body_above (with_own J ns) c m
  bodies_as c m = bodies_alike (length J.bases) J.hierarchy.types J.bases ms ns (type_number c.inherits) m same

  class_as : (c : ClassInfo) (full : ℕ) (s : ClassSyn) (f : Failure) → ClassFails (with_own J ns) c full s f → ClassFails (with_own J ms) c full s f
  class_as c full s f (inl h) = inl h
  class_as c full s f (inr h) = inr (overrides_as _ (has_body_above (with_own J ns) c) (has_body_above (with_own J ms) c) _ c s f (bodies_as c) h)

  head_as : (full : ℕ) (x : ModuleItemSyn) (k : Head) (f : Failure) → HeadFails (with_own J ns) full x k f → HeadFails (with_own J ms) full x k f
  head_as full (module_class s) (class_head c) f h = class_as c full s f h
  head_as full (module_class s) (exception_head t) f h = absurd h
  head_as full (module_class s) (type_head k) f h = absurd h
  head_as full (module_class s) (routine_head i) f h = absurd h
  head_as full (module_routine r) (class_head c) f h = absurd h
  head_as full (module_routine r) (exception_head t) f h = absurd h
  head_as full (module_routine r) (type_head k) f h = absurd h
  head_as full (module_routine r) (routine_head i) f h = h

  module_as : (f : Failure) → ModuleFails (with_own J ns) f → ModuleFails (with_own J ms) f
  module_as f (x, i, m, e, inl h) = (x, i, m, e, inl (head_as i.full x i.head f h))
  module_as f (x, i, m, e, inr h) = (x, i, m, e, inr h)

-- the least failure that is kept is that of the module with the other numbers
pub lowers_as : (J K : Judged) (old new : Option Failure) → J ≡ with_own K J.own → SameNumbers J.own K.own → Lowers (ModuleFails J) old new → Lowers (ModuleFails K) old new
lowers_as J K old new e same h =
    lowers_alike (ModuleFails (with_own K J.own)) (ModuleFails K) old new (module_as K J.own K.own (λ n. sym (same n))) (module_as K K.own J.own same)
    (subst (λ (L : Judged). Lowers (ModuleFails L) old new) e h)

-- the units of the module do not depend on those numbers
pub units_as : (J K : Judged) → J ≡ with_own K J.own → module_units J ≡ module_units K
units_as J K e = subst (λ (L : Judged). module_units L ≡ module_units K) (sym e) refl

-- items that are found with their own heads are so with the other numbers
pub own_as : (J K : Judged) → J ≡ with_own K J.own → AreOwn K → AreOwn J
own_as J K e h = subst (λ (L : Judged). AreOwn L) (sym e) h
