-- What a class lacks, put together.
use Rattle.std.proofs.Common.{◌≡◌, ◌↔◌, ◌∙◌, ℕ, zero, suc, ◌<◌, ◌≤◌, Bool, true, false, not, ◌&&◌, ◌||◌, nat_eq, List, [], ◌∷◌, length, Option, Some, None, option_map, is_some, refl, ap, sym, subst, ◌⊎◌, inl, inr, arith, IsTrue, true≢false, eq-eqb, if◌then◌else◌, Result, Ok, Err, IfOk}
use Rattle.std.specs.List.{list_all}
use Rattle.std.proofs.lemmas.Bool.Decides.{nat_tests}
use Rattle.th_type.specs.declared.ty.Ty.{Ty}
use Rattle.th_type.specs.declared.ty.Ty.TheVariants as types
use Rattle.th_type.specs.declared.ty.TyList.{TyList}
use Rattle.th_type.specs.Types.{TypeExpr, TypeExprs, list_of, named_ty, ty_of}
use Rattle.th_type.specs.Lists.{IsIn, is_in}
use Rattle.th_type.specs.Judged.{SameNumbers}
use Rattle.th_type.specs.Signatures.{Signature, find_sig, subst_sig}
use Rattle.th_type.specs.Declarations.{DeclaredType}
use Rattle.th_type.specs.Subtypes.{head_of}
use Rattle.th_type.specs.Methods.{Conforms, ExactlyConforms, ResultIsParam, method_at, method_of}
use Rattle.th_type.specs.MethodTables.{Rising}
use Rattle.th_type.specs.Conforming.{same_gives}
use Rattle.th_type.proofs.Exact.{gives_from, gives_to}
use Rattle.th_rules.specs.Context.{ClassInfo, Context}
use Rattle.th_rules.specs.Classes.{class_sig, super_sig}
use Rattle.th_module_rules.specs.ClassRules.{InheritedFits, IsNamed, Lacks, is_hidden_above}
use Rattle.th_module_rules.specs.Contexts.{Base, base_at}
use Rattle.th_module_rules.specs.Modules.{base_has_body, body_up}
use Rattle.th_overrides.specs.Bodies.{has_own}
use Rattle.th_overrides.specs.Chain.{AboveClass, IsChain, above_class}
use Rattle.th_overrides.specs.Lacking.{AllGiveSame, GivesSame, LacksAmong, LacksOne, Unfit}
use Rattle.th_overrides.proofs.Chains.{above_in, hidden_is, in_above}
use Rattle.th_overrides.proofs.Deciding.{alike, fails, holds, not_decides, refutes}
use Rattle.th_overrides.proofs.Overrides.{no_name}

some_is : {A : Type 0} (a b : A) → Some a ≡ Some b → a ≡ b
some_is a b h = cc

none_some : {A : Type 0} (a : A) → None ≡ Some a → ⊥
none_some a h = cc

-- what a class above gives by a method
pub gives_same_some : (C : Context) (t : Signature) (a : AboveClass) (f g : Signature) (r : Bool) → Some f ≡ class_sig C a.class t.method → g ≡ subst_sig a.args f → r ≡ same_gives g.gives t.gives → IsTrue r ↔ GivesSame C t a
gives_same_some C t a f g r e i h = (
  λ x u k. subst (λ (y : Signature). (subst_sig a.args y).gives ≡ t.gives) (some_is f u (e ∙ k)) (sym (ap (λ (y : Signature). y.gives) i) ∙ gives_to g.gives t.gives (sym h ∙ x)),
  λ same. h ∙ gives_from g.gives t.gives (ap (λ (y : Signature). y.gives) i ∙ same f (sym e)),
)

-- how an inherited method fits
module _ (C : Context) (c : ClassInfo) (n : ℕ) (s t : Signature) (hs : List AboveClass) (chain : IsChain C.items c hs) where
  -- where it is a hidden one it exactly conforms
  abbrev pub ExactWhereHidden : Type 0
  ExactWhereHidden = is_hidden_above C c t.method ≡ true → ExactlyConforms s t

  fits_by : Conforms C.types n s t → ExactWhereHidden → (ResultIsParam C.types n t.method → AllGiveSame C t hs) → InheritedFits C c n s t
  fits_by a b f = record { conforms = a; exactly = b; fixed = λ p args d r up k. f p (above_class d args) (above_in C c hs args d chain up) r k }

  all_from : InheritedFits C c n s t → ResultIsParam C.types n t.method → AllGiveSame C t hs
  all_from i p a m r k = i.fixed p a.args a.class r (in_above C c hs a chain m) k

  pub inherited_not : (r : Bool) → IsTrue r ↔ Conforms C.types n s t → r ≡ false → IsTrue false ↔ InheritedFits C c n s t
  inherited_not r d e = refutes r d e (λ i. i.conforms)

  pub inherited_hidden : (r : Bool) → IsTrue r ↔ ExactWhereHidden → r ≡ false → IsTrue false ↔ InheritedFits C c n s t
  inherited_hidden r d e = refutes r d e (λ i. i.exactly)

  pub inherited_free : (r x z : Bool) → IsTrue r ↔ Conforms C.types n s t → r ≡ true → IsTrue x ↔ ExactWhereHidden → x ≡ true → IsTrue z ↔ ResultIsParam C.types n t.method → z ≡ false → IsTrue true ↔ InheritedFits C c n s t
  inherited_free r x z d e f g q k = holds (fits_by (d.0 e) (f.0 g) (λ p. absurd (true≢false (sym (q.1 p) ∙ k))))

  pub inherited_fixed : {E : Type 0} (r x z : Bool) (y : Result Bool E) → IsTrue r ↔ Conforms C.types n s t → r ≡ true → IsTrue x ↔ ExactWhereHidden → x ≡ true → IsTrue z ↔ ResultIsParam C.types n t.method → z ≡ true
      → IfOk y (λ b. IsTrue b ↔ AllGiveSame C t hs) → IfOk y (λ b. IsTrue b ↔ InheritedFits C c n s t)
  inherited_fixed r x z (Ok b) d e f g q k h = alike b h (λ same. fits_by (d.0 e) (f.0 g) (λ p. same)) (λ i. all_from i (q.0 k))
  inherited_fixed r x z (Err e') d e f g q k h = tt

-- where a signature exactly conforms it does so where the method is a hidden one; else the method may be none
pub exact_always : (C : Context) (c : ClassInfo) (s t : Signature) (r : Bool) → IsTrue r ↔ ExactlyConforms s t → r ≡ true → IsTrue r ↔ (is_hidden_above C c t.method ≡ true → ExactlyConforms s t)
exact_always C c s t r d e = (λ h g. d.0 h, λ f. e)

pub exact_unless_hidden : (C : Context) (c : ClassInfo) (s t : Signature) (hs : List AboveClass) (h r : Bool) → IsChain C.items c hs → length hs ≤ length C.items
    → IsTrue r ↔ ExactlyConforms s t → r ≡ false → h ≡ list_all (λ a. not (is_some (method_at C.types a.class.of t.method))) hs → IsTrue (not h) ↔ (is_hidden_above C c t.method ≡ true → ExactlyConforms s t)
exact_unless_hidden C c s t hs h r chain l d f e =
    not_decides h (λ x. x, λ x. x)
    (λ seen g. absurd (seen (e ∙ hidden_is C c t.method hs chain l ∙ g)))
    (λ exact x. true≢false (sym (d.1 (exact (sym (hidden_is C c t.method hs chain l) ∙ sym e ∙ x))) ∙ f))

-- what the class above has
pub unfit_none : (C : Context) (c : ClassInfo) (n : ℕ) (t : Signature) → None ≡ super_sig C c t.method → IsTrue false ↔ Unfit C c n t
unfit_none C c n t h = fails (λ u. none_some u.0 (h ∙ u.1))

pub unfit_some : (C : Context) (c : ClassInfo) (n : ℕ) (t s : Signature) (r : Bool) → Some s ≡ super_sig C c t.method → IsTrue r ↔ InheritedFits C c n s t → IsTrue (not r) ↔ Unfit C c n t
unfit_some C c n t s r h d = not_decides r d (λ m. (s, sym h, m)) (λ u f. u.2 (subst (λ (x : Signature). InheritedFits C c n x t) (some_is s u.0 (h ∙ u.1)) f))

-- one method is lacking
pub one_own : (C : Context) (f : ℕ → Bool) (c : ClassInfo) (own : List ℕ) (n : ℕ) (t : Signature) (r : Bool) → r ≡ is_in t.method own → r ≡ true → IsTrue false ↔ LacksOne C f c own n t
one_own C f c own n t r e g = fails (λ l. true≢false (sym g ∙ e ∙ l.0))

pub one_bare : (C : Context) (f : ℕ → Bool) (c : ClassInfo) (own : List ℕ) (n : ℕ) (t : Signature) (r b : Bool) → r ≡ is_in t.method own → r ≡ false → b ≡ f t.method → b ≡ false → IsTrue true ↔ LacksOne C f c own n t
one_bare C f c own n t r b e g h k = holds (sym e ∙ g, inl (sym h ∙ k))

pub one_unfit : (C : Context) (f : ℕ → Bool) (c : ClassInfo) (own : List ℕ) (n : ℕ) (t : Signature) (r b u : Bool) → r ≡ is_in t.method own → r ≡ false → b ≡ f t.method → b ≡ true → IsTrue u ↔ Unfit C c n t → IsTrue u ↔ LacksOne C f c own n t
one_unfit C f c own n t r b u e g h k d = alike u d (λ x. (sym e ∙ g, inr x)) (λ l. elim l.1 [ inl x ↦ absurd (true≢false (sym k ∙ h ∙ x)) | inr x ↦ x ])

-- one of several methods
module _ (C : Context) (f : ℕ → Bool) (c : ClassInfo) (own : List ℕ) (n : ℕ) (args : List TypeExpr) where
  pub among_none : LacksAmong C f c own n args [] → ⊥
  among_none l = l.1

  -- it is among those that are left where it is not the next
  pub among_next : (u : Signature) (us : List Signature) (t : Signature) (r : Bool) → t ≡ subst_sig args u → IsTrue r ↔ LacksOne C f c own n t → r ≡ false → LacksAmong C f c own n args (u ∷ us) → LacksAmong C f c own n args us
  among_next u us t r e d g (v, inl s, l) =
      absurd (true≢false (sym (d.1 (subst (LacksOne C f c own n) (sym e) (subst (λ (x : Signature). LacksOne C f c own n (subst_sig args x)) s l))) ∙ g))
  among_next u us t r e d g (v, inr m, l) = (v, m, l)

  pub among_found : (u : Signature) (us : List Signature) (t : Signature) (r : Bool) → IsIn u us → t ≡ subst_sig args u → IsTrue r ↔ LacksOne C f c own n t → r ≡ true → IsTrue true ↔ LacksAmong C f c own n args us
  among_found u us t r m e d g = holds (u, m, subst (LacksOne C f c own n) e (d.0 g))

-- a signature is the first of its method where the methods ascend
find_if : (s u : Signature) (us : List Signature) (m : ℕ) (b : Bool) → nat_eq s.method m ≡ b → (if b then Some s else find_sig us m) ≡ Some u → (s ≡ u) ⊎ (find_sig us m ≡ Some u)
find_if s u us m true e h = inl (some_is s u h)
find_if s u us m false e h = inr h

find_in : (us : List Signature) (m : ℕ) (u : Signature) → find_sig us m ≡ Some u → IsIn u us
find_in [] m u h = absurd (none_some u h)
find_in (s ∷ us) m u h = elim (find_if s u us m (nat_eq s.method m) refl h) [ inl e ↦ inl (sym e) | inr r ↦ inr (find_in us m u r) ]

lower_differs : (a b : ℕ) → a < b → nat_eq a b ≡ false
lower_differs a b h = grind (arith, nat_tests)

rising_find : (us : List Signature) (u : Signature) → Rising us → IsIn u us → find_sig us u.method ≡ Some u
rising_find [] u r m = absurd m
rising_find (s ∷ us) u r (inl e) = ap (λ (b : Bool). if b then Some s else find_sig us u.method) (eq-eqb s.method u.method (ap (λ (x : Signature). x.method) (sym e))) ∙ ap Some (sym e)
rising_find (s ∷ us) u r (inr m) = ap (λ (b : Bool). if b then Some s else find_sig us u.method) (lower_differs s.method u.method (r.0 u m)) ∙ rising_find us u r.1 m

mapped_some : (args : List TypeExpr) (o : Option Signature) (t : Signature) → option_map (subst_sig args) o ≡ Some t → (u : Signature) × (o ≡ Some u) × (t ≡ subst_sig args u)
mapped_some args None t h = absurd (none_some t h)
mapped_some args (Some u) t h = (u, refl, sym (some_is (subst_sig args u) t h))

-- what a class lacks is among the methods of its type
pub lacks_among : (C : Context) (f : ℕ → Bool) (c : ClassInfo) (own : List ℕ) (n : ℕ) (ts : TypeExprs) (us : List Signature) (r : Bool) → c.of ≡ named_ty n ts → Rising us → ((m : ℕ) → find_sig us m ≡ method_of C.types n m)
    → IsTrue r ↔ LacksAmong C f c own n (list_of ts) us → IsTrue r ↔ Lacks C f c own
lacks_among C f c own n ts us r is rise finds d = alike r d forth back
  where
    forth : LacksAmong C f c own n (list_of ts) us → Lacks C f c own
    forth (u, m, l) = (
      n,
      subst_sig (list_of ts) u,
      ap head_of is,
      ap (λ (x : TypeExpr). method_at C.types x u.method) is ∙ ap (option_map (subst_sig (list_of ts))) (sym (finds u.method) ∙ rising_find us u rise m),
      l.0,
      l.1,
    )

    back : Lacks C f c own → LacksAmong C f c own n (list_of ts) us
    back (k, t, e, a, o, l) =
        let p = mapped_some (list_of ts) (method_of C.types n t.method) t (sym (ap (λ (x : TypeExpr). method_at C.types x t.method) is) ∙ a) in
        let same : n ≡ k = some_is n k (sym (ap head_of is) ∙ e) in
        (p.0, find_in us t.method p.0 (finds t.method ∙ p.1), subst (LacksOne C f c own n) p.2 (subst (λ (j : ℕ). LacksOne C f c own j t) (sym same) (o, l)))

-- a class for no declared type lacks nothing
pub lacks_nothing : (C : Context) (f : ℕ → Bool) (c : ClassInfo) (own : List ℕ) (t : Ty) → c.of ≡ ty_of t → ((n : ℕ) (args : TyList) → t ≡ types.Named n args → ⊥) → IsTrue false ↔ Lacks C f c own
lacks_nothing C f c own t e h = fails (λ l. no_name t h l.0 (subst (λ (x : TypeExpr). IsNamed x l.0) e l.2))

-- bodies, where the own classes have the same numbers
has_alike : (D : List DeclaredType) (own fulls : List ℕ) (f g : Option ℕ → ℕ → Bool) (b : Option Base) (m : ℕ) → SameNumbers own fulls → ((i : Option ℕ) → f i m ≡ g i m) → base_has_body D own f b m ≡ base_has_body D fulls g b m
has_alike D own fulls f g None m s h = refl
has_alike D own fulls f g (Some b) m s h =
    ap (λ (x : Bool). is_in m b.methods || ((not x && is_some (method_at D b.of m)) || f b.inherits m)) (s b.full)
    ∙ ap (λ (x : Bool). is_in m b.methods || ((not (is_in b.full fulls) && is_some (method_at D b.of m)) || x)) (h b.inherits)

pub bodies_alike : (k : ℕ) (D : List DeclaredType) (bs : List Base) (own fulls : List ℕ) (i : Option ℕ) (m : ℕ) → SameNumbers own fulls → body_up k D bs own i m ≡ body_up k D bs fulls i m
bodies_alike zero D bs own fulls i m s = refl
bodies_alike (suc k) D bs own fulls None m s = refl
bodies_alike (suc k) D bs own fulls (Some n) m s = has_alike D own fulls (body_up k D bs own) (body_up k D bs fulls) (base_at bs n) m s (λ j. bodies_alike k D bs own fulls j m s)

pub lacks_alike : (C : Context) (f g : ℕ → Bool) (c : ClassInfo) (own names : List ℕ) (r : Bool) → ((m : ℕ) → f m ≡ g m) → SameNumbers own names → IsTrue r ↔ Lacks C f c own → IsTrue r ↔ Lacks C g c names
lacks_alike C f g c own names r h s d =
    alike r d
    (λ (n, t, e, a, o, l). (n, t, e, a, sym (s t.method) ∙ o, elim l [ inl x ↦ inl (sym (h t.method) ∙ x) | inr x ↦ inr x ]))
    (λ (n, t, e, a, o, l). (n, t, e, a, s t.method ∙ o, elim l [ inl x ↦ inl (h t.method ∙ x) | inr x ↦ inr x ]))

-- a class that has a body, or the class above one that has none
body_if : (a b c : Bool) → (a || b) ≡ true → (a || (b || c)) ≡ true
body_if true b c h = refl
body_if false true c h = refl
body_if false false c h = absurd (true≢false (sym h))

body_not : (a b c : Bool) → (a || b) ≡ false → (a || (b || c)) ≡ c
body_not true b c h = absurd (true≢false h)
body_not false true c h = absurd (true≢false h)
body_not false false c h = refl

pub body_here : (k l : ℕ) (D : List DeclaredType) (bs : List Base) (own : List ℕ) (i : Option ℕ) (n : ℕ) (b : Base) (m : ℕ) (r : Bool) → l ≡ suc k → i ≡ Some n → Some b ≡ base_at bs n → r ≡ has_own D own b m → r ≡ true → body_up l D bs own i m ≡ true
body_here k l D bs own i n b m r s e at is h =
    ap (λ (j : ℕ). body_up j D bs own i m) s ∙ ap (λ (o : Option ℕ). body_up (suc k) D bs own o m) e ∙ ap (λ (o : Option Base). base_has_body D own (body_up k D bs own) o m) (sym at)
    ∙ body_if (is_in m b.methods) (not (is_in b.full own) && is_some (method_at D b.of m)) (body_up k D bs own b.inherits m) (sym is ∙ h)

pub body_next : (k l : ℕ) (D : List DeclaredType) (bs : List Base) (own : List ℕ) (i : Option ℕ) (n : ℕ) (b : Base) (m : ℕ) (r : Bool) → l ≡ suc k → i ≡ Some n → Some b ≡ base_at bs n → r ≡ has_own D own b m → r ≡ false
    → body_up l D bs own i m ≡ body_up k D bs own b.inherits m
body_next k l D bs own i n b m r s e at is h =
    ap (λ (j : ℕ). body_up j D bs own i m) s ∙ ap (λ (o : Option ℕ). body_up (suc k) D bs own o m) e ∙ ap (λ (o : Option Base). base_has_body D own (body_up k D bs own) o m) (sym at)
    ∙ body_not (is_in m b.methods) (not (is_in b.full own) && is_some (method_at D b.of m)) (body_up k D bs own b.inherits m) (sym is ∙ h)
