-- The method of a class, looked for through so many classes.
use Rattle.std.proofs.Common.{◌≡◌, ℕ, zero, suc, ◌<◌, ◌≤◌, ◌-◌, List, Option, Some, None, option_map, refl, ap, subst, arith}
use Rattle.th_type.specs.Types.{TypeExpr}
use Rattle.th_type.specs.Signatures.{Signature, subst_sig, find_sig}
use Rattle.th_type.specs.Methods.{method_at}
use Rattle.th_type.specs.Subtypes.{args_of, head_of}
use Rattle.th_type.specs.Lists.{or_else}
use Rattle.th_rules.specs.Context.{ClassInfo, Item, Context}
use Rattle.th_rules.specs.Classes.{class_sig_up, inherited_sig, class_named, of_class}

-- no class is looked through
none_of_class : (C : Context) (o : Option ClassInfo) (m : ℕ) → of_class (class_sig_up zero C) o m ≡ None
none_of_class C None m = refl
none_of_class C (Some c) m = refl

none_inherited : (C : Context) (is : List Item) (i : Option TypeExpr) (m : ℕ) → inherited_sig (class_sig_up zero C) is i m ≡ None
none_inherited C is None m = refl
none_inherited C is (Some t) m = ap (option_map (subst_sig (args_of t))) (none_of_class C (class_named is (head_of t)) m)

pub up_none : (k : ℕ) (C : Context) (c : ClassInfo) (m : ℕ) → k ≤ 0 → class_sig_up (suc k) C c m ≡ or_else (method_at C.types c.of m) (find_sig c.hidden m)
up_none zero C c m h = ap (λ o. or_else (method_at C.types c.of m) (or_else o (find_sig c.hidden m))) (none_inherited C C.items c.inherits m)
up_none (suc k) C c m h = absurd (omega (arith, h))

-- what the inherited class has is what the class has, where its type has nothing
pub up_found : (k : ℕ) (C : Context) (c : ClassInfo) (m : ℕ) (s : Signature) → 0 < k → method_at C.types c.of m ≡ None → inherited_sig (class_sig_up (suc (k - 1)) C) C.items c.inherits m ≡ Some s → Some s ≡ class_sig_up (suc k) C c m
up_found zero C c m s h a b = absurd (omega (arith, h))
up_found (suc k) C c m s h a b =
    let e : suc k - 1 ≡ k = omega arith in
    let d : inherited_sig (class_sig_up (suc k) C) C.items c.inherits m ≡ Some s = subst (λ j. inherited_sig (class_sig_up (suc j) C) C.items c.inherits m ≡ Some s) e b in
    rw (a, d) refl

-- a hidden method is what the class has, where neither its type nor the inherited class has the method
pub up_missed : (k : ℕ) (C : Context) (c : ClassInfo) (m : ℕ) (o : Option Signature) → 0 < k → method_at C.types c.of m ≡ None → inherited_sig (class_sig_up (suc (k - 1)) C) C.items c.inherits m ≡ None → o ≡ find_sig c.hidden m → o ≡ class_sig_up (suc k) C c m
up_missed zero C c m o h a b f = absurd (omega (arith, h))
up_missed (suc k) C c m o h a b f =
    let e : suc k - 1 ≡ k = omega arith in
    let d : inherited_sig (class_sig_up (suc k) C) C.items c.inherits m ≡ None = subst (λ j. inherited_sig (class_sig_up (suc j) C) C.items c.inherits m ≡ None) e b in
    rw (a, d) f
