-- The subtype test, and the methods that a class knows.
use Rattle.std.specs.Prelude.{ℕ, zero, suc, Bool, true, false, nat_eq, ◌||◌, List, [], ◌∷◌, length, Option, Some, None, option_map, if◌then◌else◌}
use Rattle.std.specs.List.{list_any}
use Rattle.th_type.specs.Types.{TypeExpr, same_ty}
use Rattle.th_type.specs.Signatures.{Signature, subst_sig, find_sig}
use Rattle.th_type.specs.Declarations.{DeclaredType}
use Rattle.th_type.specs.Subtypes.{parents, head_of, args_of}
use Rattle.th_type.specs.Methods.{method_at}
use Rattle.th_type.specs.Lists.{or_else}
use Rattle.th_rules.specs.Context.{Binding, ClassInfo, Head, exception_head, type_head, class_head, routine_head, Item, Context, find_binding}

-- whether the second type is reached from the first in at most k steps, each to a declared supertype
abbrev pub is_within : ℕ → List DeclaredType → TypeExpr → TypeExpr → Bool
is_within zero D t u = same_ty t u
is_within (suc k) D t u = same_ty t u || list_any (λ v. is_within k D v u) (parents D t)

-- whether the first type is a subtype of the second; no type reaches itself, so no way is longer than there are types
abbrev pub is_subtype : List DeclaredType → TypeExpr → TypeExpr → Bool
is_subtype D t u = is_within (length D) D t u

-- the class, if the item with that full name is one
abbrev pub class_or : ℕ → ℕ → Head → Option ClassInfo → Option ClassInfo
class_or full n (exception_head t) others = others
class_or full n (type_head k) others = others
class_or full n (class_head c) others = if nat_eq full n then Some c else others
class_or full n (routine_head r) others = others

-- the first class of that full name
abbrev pub class_at : List Item → ℕ → Option ClassInfo
class_at [] n = None
class_at (i ∷ is) n = class_or i.full n i.head (class_at is n)

-- the class of that full name, where there is a name
abbrev pub class_named : List Item → Option ℕ → Option ClassInfo
class_named is None = None
class_named is (Some n) = class_at is n

-- what a function says of a class that there may be
abbrev pub of_class : (ClassInfo → ℕ → Option Signature) → Option ClassInfo → ℕ → Option Signature
of_class f None m = None
of_class f (Some c) m = f c m

-- what a function says of the inherited class, with arguments substituted
abbrev pub inherited_sig : (ClassInfo → ℕ → Option Signature) → List Item → Option TypeExpr → ℕ → Option Signature
inherited_sig f is None m = None
inherited_sig f is (Some t) m = option_map (subst_sig (args_of t)) (of_class f (class_named is (head_of t)) m)

-- the method of a class, looked for through k classes, one above the other: the signature in the class's type, else that
-- of the inherited class with arguments substituted, else that of the class's own hidden method
abbrev pub class_sig_up : ℕ → Context → ClassInfo → ℕ → Option Signature
class_sig_up zero C c m = None
class_sig_up (suc k) C c m = or_else (method_at C.types c.of m) (or_else (inherited_sig (class_sig_up k C) C.items c.inherits m) (find_sig c.hidden m))

-- the method of a class; no class reaches itself, so no more classes stand one above the other than there are items
abbrev pub class_sig : Context → ClassInfo → ℕ → Option Signature
class_sig C c m = class_sig_up (suc (length C.items)) C c m

-- the method of the class that a class inherits, with arguments substituted
abbrev pub super_sig : Context → ClassInfo → ℕ → Option Signature
super_sig C c m = inherited_sig (class_sig C) C.items c.inherits m

-- the class around a method's body
abbrev pub own_class : Context → Option ClassInfo
own_class C = class_named C.items C.class

-- the number of the full name of the class around a method's body
abbrev pub own_name : Option ℕ → ℕ
own_name None = 0
own_name (Some n) = n

-- an own field of a class that there may be
abbrev pub field_in : Option ClassInfo → ℕ → Option Binding
field_in None f = None
field_in (Some c) f = find_binding c.fields f
