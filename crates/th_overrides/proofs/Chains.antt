-- The classes of a chain are those above a class.
use Rattle.std.proofs.Common.{◌≡◌, ℕ, zero, suc, ◌≤◌, Bool, not, ◌&&◌, List, [], ◌∷◌, ◌++◌, length, map, Option, Some, None, option_map, is_some, refl, sym, ap, ◌∙◌, inl, inr, arith}
use Rattle.std.specs.List.{list_all}
use Rattle.th_type.specs.Types.{TypeExpr, subst_ty}
use Rattle.th_type.specs.Lists.{IsIn}
use Rattle.th_type.specs.Subtypes.{head_of, args_of}
use Rattle.th_type.specs.Declarations.{DeclaredType}
use Rattle.th_type.specs.Methods.{method_at}
use Rattle.th_rules.specs.Context.{ClassInfo, Item, Context}
use Rattle.th_rules.specs.Classes.{class_named}
use Rattle.th_module_rules.specs.ClassRules.{Above, AboveIn, above_of, hidden_up, is_hidden_above}
use Rattle.th_overrides.specs.Chain.{AboveClass, IsChain, Leads, above_class, class_with, inherited_as, inherited_over, next_above}

some_is : {A : Type 0} (a b : A) → Some a ≡ Some b → a ≡ b
some_is a b h = cc

none_some : {A : Type 0} (a : A) → None ≡ Some a → ⊥
none_some a h = cc

-- one more class after those so far
pub leads_push : (is : List Item) (o : Option AboveClass) (hs : List AboveClass) (a : AboveClass) (p : Option AboveClass) → Leads is o hs (Some a) → p ≡ next_above is a → Leads is o (hs ++ a ∷ []) p
leads_push is o [] a p h e = (h, sym e)
leads_push is o (b ∷ hs) a p h e = (h.0, leads_push is (next_above is b) hs a p h.1 e)

-- the class with arguments by its parts
with_from : (xs : List TypeExpr) (o : Option ClassInfo) (d : ClassInfo) → o ≡ Some d → class_with xs o ≡ Some (above_class d xs)
with_from xs o d e = ap (class_with xs) e

with_to : (xs : List TypeExpr) (o : Option ClassInfo) (a : AboveClass) → class_with xs o ≡ Some a → (o ≡ Some a.class) × (a.args ≡ xs)
with_to xs None a h = absurd (none_some a h)
with_to xs (Some d) a h = let e = some_is (above_class d xs) a h in (ap (λ (x : AboveClass). Some x.class) e, sym (ap (λ (x : AboveClass). x.args) e))

-- what one step leads to
abbrev step : List Item → Option AboveClass → Option AboveClass
step is None = None
step is (Some a) = next_above is a

abbrev steps : List Item → ℕ → Option AboveClass → Option AboveClass
steps is zero o = o
steps is (suc k) o = step is (steps is k o)

steps_from : (is : List Item) (k : ℕ) (o : Option AboveClass) → steps is (suc k) o ≡ steps is k (step is o)
steps_from is zero o = refl
steps_from is (suc k) o = ap (step is) (steps_from is k o)

steps_none : (is : List Item) (k : ℕ) → steps is k None ≡ None
steps_none is zero = refl
steps_none is (suc k) = ap (step is) (steps_none is k)

-- a class above is reached in so many steps
above_steps : (C : Context) (c : ClassInfo) (k : ℕ) (args : List TypeExpr) (d : ClassInfo) → AboveIn k C c args d → steps C.items k (inherited_as C.items c.inherits) ≡ Some (above_class d args)
above_steps C c zero args d (t, h, e) =
    ap (inherited_as C.items) h.0 ∙ with_from (args_of t) (class_named C.items (head_of t)) d h.1 ∙ ap (λ xs. Some (above_class d xs)) (sym e)
above_steps C c (suc k) args d (us, x, t, a, h, e) =
    ap (step C.items) (above_steps C c k us x a)
    ∙ ap (inherited_over C.items us) h.0 ∙ with_from (map (subst_ty us) (args_of t)) (class_named C.items (head_of t)) d h.1 ∙ ap (λ xs. Some (above_class d xs)) (sym e)

first_to : (C : Context) (c : ClassInfo) (i : Option TypeExpr) (a : AboveClass) → c.inherits ≡ i → inherited_as C.items i ≡ Some a → AboveIn zero C c a.args a.class
first_to C c None a e h = absurd (none_some a h)
first_to C c (Some t) a e h = let p = with_to (args_of t) (class_named C.items (head_of t)) a h in (t, (e, p.0), p.1)

next_to : (C : Context) (c : ClassInfo) (k : ℕ) (b : AboveClass) (i : Option TypeExpr) (a : AboveClass) → b.class.inherits ≡ i → AboveIn k C c b.args b.class → inherited_over C.items b.args i ≡ Some a → AboveIn (suc k) C c a.args a.class
next_to C c k b None a e up h = absurd (none_some a h)
next_to C c k b (Some t) a e up h =
    let p = with_to (map (subst_ty b.args) (args_of t)) (class_named C.items (head_of t)) a h in (b.args, b.class, t, up, (e, p.0), p.1)

steps_by : (C : Context) (c : ClassInfo) (k : ℕ) (a : AboveClass) (o : Option AboveClass) → ((b : AboveClass) → o ≡ Some b → AboveIn k C c b.args b.class) → step C.items o ≡ Some a → AboveIn (suc k) C c a.args a.class
steps_by C c k a None rest h = absurd (none_some a h)
steps_by C c k a (Some b) rest h = next_to C c k b b.class.inherits a refl (rest b refl) h

steps_above : (C : Context) (c : ClassInfo) (k : ℕ) (a : AboveClass) → steps C.items k (inherited_as C.items c.inherits) ≡ Some a → AboveIn k C c a.args a.class
steps_above C c zero a h = first_to C c c.inherits a refl h
steps_above C c (suc k) a h = steps_by C c k a (steps C.items k (inherited_as C.items c.inherits)) (λ b e. steps_above C c k b e) h

-- what is reached is in the chain
in_chain : (is : List Item) (hs : List AboveClass) (o : Option AboveClass) (k : ℕ) (x : AboveClass) → Leads is o hs None → steps is k o ≡ Some x → IsIn x hs
in_chain is [] o k x h e = absurd (none_some x (sym (steps_none is k) ∙ ap (steps is k) (sym h) ∙ e))
in_chain is (a ∷ hs) o zero x h e = inl (some_is x a (sym e ∙ h.0))
in_chain is (a ∷ hs) o (suc k) x h e = inr (in_chain is hs (next_above is a) k x h.1 (sym (steps_from is k o ∙ ap (λ p. steps is k (step is p)) h.0) ∙ e))

from_chain : (is : List Item) (hs : List AboveClass) (o : Option AboveClass) (x : AboveClass) → Leads is o hs None → IsIn x hs → (k : ℕ) × (steps is k o ≡ Some x)
from_chain is [] o x h m = absurd m
from_chain is (a ∷ hs) o x h (inl e) = (zero, h.0 ∙ ap Some (sym e))
from_chain is (a ∷ hs) o x h (inr m) =
    let p = from_chain is hs (next_above is a) x h.1 m in (suc p.0, steps_from is p.0 o ∙ ap (λ q. steps is p.0 (step is q)) h.0 ∙ p.1)

-- the classes of a chain are those above
pub above_in : (C : Context) (c : ClassInfo) (hs : List AboveClass) (args : List TypeExpr) (d : ClassInfo) → IsChain C.items c hs → Above C c args d → IsIn (above_class d args) hs
above_in C c hs args d h (k, a) = in_chain C.items hs (inherited_as C.items c.inherits) k (above_class d args) h (above_steps C c k args d a)

pub in_above : (C : Context) (c : ClassInfo) (hs : List AboveClass) (a : AboveClass) → IsChain C.items c hs → IsIn a hs → Above C c a.args a.class
in_above C c hs a h m = let p = from_chain C.items hs (inherited_as C.items c.inherits) a h m in (p.0, steps_above C c p.0 a p.1)

-- the classes of a chain without their arguments
abbrev only : Option AboveClass → Option ClassInfo
only o = option_map (λ a. a.class) o

only_with : (xs : List TypeExpr) (o : Option ClassInfo) → only (class_with xs o) ≡ o
only_with xs None = refl
only_with xs (Some d) = refl

only_first : (C : Context) (i : Option TypeExpr) → only (inherited_as C.items i) ≡ above_of C i
only_first C None = refl
only_first C (Some t) = only_with (args_of t) (class_named C.items (head_of t))

only_next : (C : Context) (us : List TypeExpr) (i : Option TypeExpr) → only (inherited_over C.items us i) ≡ above_of C i
only_next C us None = refl
only_next C us (Some t) = only_with (map (subst_ty us) (args_of t)) (class_named C.items (head_of t))

abbrev lacks : List DeclaredType → ℕ → AboveClass → Bool
lacks D m a = not (is_some (method_at D a.class.of m))

hidden_from : (C : Context) (m k : ℕ) (hs : List AboveClass) (o : Option AboveClass) → Leads C.items o hs None → length hs ≤ k → list_all (lacks C.types m) hs ≡ hidden_up (suc k) C (only o) m
hidden_from C m k [] o h l = sym (ap (λ p. hidden_up (suc k) C (only p) m) h)
hidden_from C m zero (a ∷ hs) o h l = absurd (omega (arith, l))
hidden_from C m (suc k) (a ∷ hs) o h l =
    ap (λ b. lacks C.types m a && b) (hidden_from C m k hs (next_above C.items a) h.1 (omega (arith, l)) ∙ ap (λ p. hidden_up (suc k) C p m) (only_next C a.args a.class.inherits))
    ∙ sym (ap (λ p. hidden_up (suc (suc k)) C (only p) m) h.0)

-- no class of the chain has the method in its type where the class above knows it hs a hidden one
pub hidden_is : (C : Context) (c : ClassInfo) (m : ℕ) (hs : List AboveClass) → IsChain C.items c hs → length hs ≤ length C.items → list_all (lacks C.types m) hs ≡ is_hidden_above C c m
hidden_is C c m hs h l = hidden_from C m (length C.items) hs (inherited_as C.items c.inherits) h l ∙ ap (λ p. hidden_up (suc (length C.items)) C p m) (only_first C c.inherits)
