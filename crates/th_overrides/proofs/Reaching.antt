-- The declared types that a declared type reaches, by their numbers.
use Rattle.std.proofs.Common.{◌≡◌, ◌↔◌, ◌∙◌, ℕ, zero, suc, ◌+◌, ◌<◌, ◌≤◌, Bool, true, false, ◌||◌, List, [], ◌∷◌, ◌++◌, length, Option, Some, None, slice_get, refl, ap, sym, subst, ◌⊎◌, inl, inr, arith, IsTrue, true≢false, if◌then◌else◌}
use Rattle.std.specs.List.{list_any}
use Rattle.th_type.specs.Lists.{IsIn}
use Rattle.th_type.specs.Types.{TypeExpr, TypeExprs, int_ty, bool_ty, text_ty, array_ty, named_ty, param_ty, list_of, subst_ty, subst_tys}
use Rattle.th_type.specs.Signatures.{Signature}
use Rattle.th_type.specs.Declarations.{DeclaredType, supers_of}
use Rattle.th_type.specs.Subtypes.{Climbs, Reached, head_of, parents}
use Rattle.th_type.specs.Methods.{GivesParam, IsParam, ResultIsParam, method_of}
use Rattle.th_type.specs.Tests.{gives_param, param_given}
use Rattle.th_type.proofs.Members.{at_in, from_append, in_at, in_map, in_right, in_within, is_in_true, from_map, place_in}
use Rattle.th_hier.specs.Naming.{has, with_number}
use Rattle.th_overrides.specs.Reached.{AllReached, with_head, with_heads}
use Rattle.th_overrides.proofs.Numbered.{has_in}

some_is : {A : Type 0} (a b : A) → Some a ≡ Some b → a ≡ b
some_is a b h = cc

none_some : {A : Type 0} (a : A) → None ≡ Some a → ⊥
none_some a h = cc

front_at : {A : Type 0} (xs ys : List A) (j : ℕ) (x : A) → slice_get xs j ≡ Some x → slice_get (xs ++ ys) j ≡ Some x
front_at [] ys j x h = absurd (none_some x h)
front_at (y ∷ xs) ys zero x h = h
front_at (y ∷ xs) ys (suc j) x h = front_at xs ys j x h

-- a number put last
number_at_if : (ns : List ℕ) (n j x : ℕ) (b : Bool) → slice_get ns j ≡ Some x → slice_get (if b then ns else ns ++ n ∷ []) j ≡ Some x
number_at_if ns n j x true h = h
number_at_if ns n j x false h = front_at ns (n ∷ []) j x h

number_at : (ns : List ℕ) (n j x : ℕ) → slice_get ns j ≡ Some x → slice_get (with_number ns n) j ≡ Some x
number_at ns n j x h = number_at_if ns n j x (has ns n) h

number_kept : (ns : List ℕ) (n x : ℕ) → IsIn x ns → IsIn x (with_number ns n)
number_kept ns n x m = let p = in_at x ns m in at_in x (with_number ns n) p.0 (number_at ns n p.0 x p.2)

number_there_if : (ns : List ℕ) (n : ℕ) (b : Bool) → has ns n ≡ b → IsIn n (if b then ns else ns ++ n ∷ [])
number_there_if ns n true e = is_in_true n ns (sym (has_in ns n) ∙ e)
number_there_if ns n false e = in_right n ns (n ∷ []) (inl refl)

number_there : (ns : List ℕ) (n : ℕ) → IsIn n (with_number ns n)
number_there ns n = number_there_if ns n (has ns n) refl

number_from_if : (ns : List ℕ) (n x : ℕ) (b : Bool) → IsIn x (if b then ns else ns ++ n ∷ []) → IsIn x ns ⊎ (x ≡ n)
number_from_if ns n x true m = inl m
number_from_if ns n x false m = elim (from_append x ns (n ∷ []) m) [ inl a ↦ inl a | inr b ↦ elim b [ inl e ↦ inr e | inr c ↦ absurd c ] ]

number_from : (ns : List ℕ) (n x : ℕ) → IsIn x (with_number ns n) → IsIn x ns ⊎ (x ≡ n)
number_from ns n x m = number_from_if ns n x (has ns n) m

-- a type that has a number is a declared one
head_named : (t : TypeExpr) (n : ℕ) → head_of t ≡ Some n → (args : TypeExprs) × (t ≡ named_ty n args)
head_named int_ty n h = absurd (none_some n h)
head_named bool_ty n h = absurd (none_some n h)
head_named text_ty n h = absurd (none_some n h)
head_named (array_ty t) n h = absurd (none_some n h)
head_named (named_ty m args) n h = (args, ap (λ k. named_ty k args) (some_is m n h))
head_named (param_ty k) n h = absurd (none_some n h)

-- the numbers of types, put last
pub record Put (ns : List ℕ) (ts : List TypeExpr) (ms : List ℕ) : Type 0 where
  pub same : (j x : ℕ) → slice_get ns j ≡ Some x → slice_get ms j ≡ Some x
  pub kept : (x : ℕ) → IsIn x ns → IsIn x ms
  pub there : (t : TypeExpr) → IsIn t ts → (n : ℕ) × (args : TypeExprs) × (t ≡ named_ty n args) × IsIn n ms
  pub from : (x : ℕ) → IsIn x ms → IsIn x ns ⊎ ((args : TypeExprs) × IsIn (named_ty x args) ts)

put_more : (ns : List ℕ) (t : TypeExpr) (ts : List TypeExpr) (ms : List ℕ) (n : ℕ) → head_of t ≡ Some n → Put (with_number ns n) ts ms → Put ns (t ∷ ts) ms
put_more ns t ts ms n e p = let q = head_named t n e in record {
  same = λ j x g. p.same j x (number_at ns n j x g);
  kept = λ x m. p.kept x (number_kept ns n x m);
  there = λ u m. elim m [ inl s ↦ (n, q.0, s ∙ q.1, p.kept n (number_there ns n)) | inr r ↦ p.there u r ];
  from = λ x m. elim (p.from x m) [
    | inl a ↦ elim (number_from ns n x a) [ inl b ↦ inl b | inr s ↦ inr (q.0, inl (ap (λ k. named_ty k q.0) s ∙ sym q.1)) ]
    | inr r ↦ inr (r.0, inr r.1)
  ];
}

heads_by : (ns : List ℕ) (t : TypeExpr) (ts : List TypeExpr) (ms : List ℕ) (o : Option ℕ) → head_of t ≡ o → ((ks : List ℕ) → with_heads ks ts ≡ Some ms → Put ks ts ms)
    → with_head (λ ks. with_heads ks ts) ns o ≡ Some ms → Put ns (t ∷ ts) ms
heads_by ns t ts ms None e rest g = absurd (none_some ms g)
heads_by ns t ts ms (Some n) e rest g = put_more ns t ts ms n e (rest (with_number ns n) g)

pub heads_put : (ns : List ℕ) (ts : List TypeExpr) (ms : List ℕ) → with_heads ns ts ≡ Some ms → Put ns ts ms
heads_put ns [] ms h = let e = some_is ns ms h in record {
  same = λ j x g. subst (λ (ks : List ℕ). slice_get ks j ≡ Some x) e g;
  kept = λ x m. subst (λ (ks : List ℕ). IsIn x ks) e m;
  there = λ t m. absurd m;
  from = λ x m. inl (subst (λ (ks : List ℕ). IsIn x ks) (sym e) m);
}
heads_put ns (t ∷ ts) ms h = heads_by ns t ts ms (head_of t) refl (λ ks g. heads_put ks ts ms g) h

-- what is reached, and one step more
climbs_push : (D : List DeclaredType) (k : ℕ) (t u w : TypeExpr) → Climbs D k t u → IsIn w (parents D u) → Climbs D (suc k) t w
climbs_push D zero t u w h m = (w, subst (λ (x : TypeExpr). IsIn w (parents D x)) (sym h) m, refl)
climbs_push D (suc k) t u w (v, i, c) m = (v, i, climbs_push D k v u w c m)

reached_push : (D : List DeclaredType) (n b c : ℕ) (bs cs : TypeExprs) → Reached D n (named_ty b bs) → IsIn (named_ty c cs) (supers_of D b) → (args : TypeExprs) × Reached D n (named_ty c args)
reached_push D n b c bs cs (v, i, (k, up)) m =
    (subst_tys (list_of bs) cs, (v, i, (suc k, climbs_push D k v (named_ty b bs) (named_ty c (subst_tys (list_of bs) cs)) up (in_map (subst_ty (list_of bs)) (named_ty c cs) (supers_of D b) m))))

-- a declared type is n, or n reaches it
abbrev pub OwnOrReached : List DeclaredType → ℕ → ℕ → Type 0
OwnOrReached D n b = (b ≡ n) ⊎ ((args : TypeExprs) × Reached D n (named_ty b args))

next_reached : (D : List DeclaredType) (n b c : ℕ) (cs : TypeExprs) → OwnOrReached D n b → IsIn (named_ty c cs) (supers_of D b) → OwnOrReached D n c
next_reached D n b c cs (inl e) m = inr (cs, (named_ty c cs, subst (λ (k : ℕ). IsIn (named_ty c cs) (supers_of D k)) e m, (zero, refl)))
next_reached D n b c cs (inr (args, r)) m = inr (reached_push D n b c args cs r m)

-- the declared type n and some that it reaches; the supertypes of the first k of these are there
pub record Reaching (D : List DeclaredType) (n k : ℕ) (ns : List ℕ) : Type 0 where
  pub own : IsIn n ns
  pub only : (b : ℕ) → IsIn b ns → OwnOrReached D n b
  pub below : (j b : ℕ) (s : TypeExpr) → j < k → slice_get ns j ≡ Some b → IsIn s (supers_of D b) → (c : ℕ) × (args : TypeExprs) × (s ≡ named_ty c args) × IsIn c ns

pub reaching_first : (D : List DeclaredType) (n : ℕ) (ns : List ℕ) → ns ≡ with_number [] n → Reaching D n 0 ns
reaching_first D n ns e = subst (λ (ks : List ℕ). Reaching D n 0 ks) (sym e) (record {
  own = inl refl;
  only = λ b m. elim m [ inl s ↦ inl s | inr x ↦ absurd x ];
  below = λ j b s l g m. absurd (omega (arith, l));
})

-- a place before one that there is
place_of_front : (ns : List ℕ) (k b j : ℕ) → slice_get ns k ≡ Some b → j < k → (x : ℕ) × (slice_get ns j ≡ Some x)
place_of_front ns k b j g l = place_in j ns (let h = in_within b ns k g in omega (arith, h, l))

least_of : (j k : ℕ) → j < k + 1 → (j < k) ⊎ (j ≡ k)
least_of j k h = grind arith

pub reaching_more : (D : List DeclaredType) (n k b : ℕ) (ns ms : List ℕ) → Reaching D n k ns → slice_get ns k ≡ Some b → with_heads ns (supers_of D b) ≡ Some ms → Reaching D n (k + 1) ms
reaching_more D n k b ns ms r g h =
    let p = heads_put ns (supers_of D b) ms h in record {
      own = p.kept n r.own;
      only = λ x m. elim (p.from x m) [ inl a ↦ r.only x a | inr q ↦ next_reached D n b x q.0 (r.only b (at_in b ns k g)) q.1 ];
      below = λ j x s l e m. elim (least_of j k l) [
        | inl a ↦ (let q = place_of_front ns k b j g a in let same : q.0 ≡ x = some_is q.0 x (sym (p.same j q.0 q.1) ∙ e) in
            let d = r.below j x s a (subst (λ (y : ℕ). slice_get ns j ≡ Some y) same q.1) m in (d.0, d.1, d.2, p.kept d.0 d.3))
        | inr a ↦ (let same : b ≡ x = some_is b x (sym (p.same k b g) ∙ subst (λ (i : ℕ). slice_get ms i ≡ Some x) a e) in
            p.there s (subst (λ (y : ℕ). IsIn s (supers_of D y)) (sym same) m))
      ];
    }

pub reaching_all : (D : List DeclaredType) (n k : ℕ) (ns : List ℕ) → Reaching D n k ns → length ns ≤ k → AllReached D n ns
reaching_all D n k ns r l = record {
  own = r.own;
  supers = λ b s m i. let p = in_at b ns m in r.below p.0 b s (let h = p.1 in omega (arith, h, l)) p.2 i;
  only = r.only;
}

-- what is climbed to from one of the numbers has one of the numbers
climbed_in : (D : List DeclaredType) (n : ℕ) (ns : List ℕ) → AllReached D n ns → (k : ℕ) (b : ℕ) (bs : TypeExprs) (u : TypeExpr) → IsIn b ns → Climbs D k (named_ty b bs) u → (c : ℕ) × (cs : TypeExprs) × (u ≡ named_ty c cs) × IsIn c ns
climbed_in D n ns r zero b bs u m h = (b, bs, sym h, m)
climbed_in D n ns r (suc k) b bs u m (v, i, c) =
    let p = from_map (subst_ty (list_of bs)) v (supers_of D b) i in
    let q = r.supers b p.0 m p.1 in
    let e : v ≡ named_ty q.0 (subst_tys (list_of bs) q.1) = p.2 ∙ ap (subst_ty (list_of bs)) q.2 in
    climbed_in D n ns r k q.0 (subst_tys (list_of bs) q.1) u q.3 (subst (λ (w : TypeExpr). Climbs D k w u) e c)

name_is : (a c : ℕ) (args cs : TypeExprs) → named_ty a args ≡ named_ty c cs → c ≡ a
name_is a c args cs h = sym (some_is a c (ap head_of h))

reached_in : (D : List DeclaredType) (n : ℕ) (ns : List ℕ) (a : ℕ) (args : TypeExprs) → AllReached D n ns → Reached D n (named_ty a args) → IsIn a ns
reached_in D n ns a args r (v, i, (k, c)) =
    let p = r.supers n v r.own i in
    let q = climbed_in D n ns r k p.0 p.1 (named_ty a args) p.3 (subst (λ (w : TypeExpr). Climbs D k w (named_ty a args)) p.2 c) in
    subst (λ (x : ℕ). IsIn x ns) (name_is a q.0 args q.1 q.2) q.3

-- whether a method gives a type parameter
param_to : (g : Option TypeExpr) → param_given g ≡ true → IsParam g
param_to None h = absurd (true≢false (sym h))
param_to (Some int_ty) h = absurd (true≢false (sym h))
param_to (Some bool_ty) h = absurd (true≢false (sym h))
param_to (Some text_ty) h = absurd (true≢false (sym h))
param_to (Some (array_ty t)) h = absurd (true≢false (sym h))
param_to (Some (named_ty n args)) h = absurd (true≢false (sym h))
param_to (Some (param_ty k)) h = (k, refl)

gives_to : (o : Option Signature) → gives_param o ≡ true → GivesParam o
gives_to None h = absurd (true≢false (sym h))
gives_to (Some s) h = (s, refl, param_to s.gives h)

gives_from : (o : Option Signature) → GivesParam o → gives_param o ≡ true
gives_from o (s, e, (k, f)) = ap gives_param e ∙ ap param_given f

either : (a b : Bool) → (a || b) ≡ true → (a ≡ true) ⊎ (b ≡ true)
either true b h = inl refl
either false b h = inr h

or_right : (a b : Bool) → b ≡ true → (a || b) ≡ true
or_right true b h = refl
or_right false b h = h

any_to : (f : ℕ → Bool) (ns : List ℕ) → list_any f ns ≡ true → (n : ℕ) × IsIn n ns × (f n ≡ true)
any_to f [] h = absurd (true≢false (sym h))
any_to f (n ∷ ns) h = elim (either (f n) (list_any f ns) h) [ inl e ↦ (n, inl refl, e) | inr r ↦ (let p = any_to f ns r in (p.0, inr p.1, p.2)) ]

any_from : (f : ℕ → Bool) (n : ℕ) (ns : List ℕ) → IsIn n ns → f n ≡ true → list_any f ns ≡ true
any_from f n [] m h = absurd m
any_from f n (k ∷ ns) (inl e) h = ap (λ b. b || list_any f ns) (ap f (sym e) ∙ h)
any_from f n (k ∷ ns) (inr m) h = or_right (f k) (list_any f ns) (any_from f n ns m h)

-- the test by all that is reached decides
pub fixed_decides : (D : List DeclaredType) (n m : ℕ) (ns : List ℕ) (r : Bool) → AllReached D n ns → r ≡ list_any (λ b. gives_param (method_of D b m)) ns → IsTrue r ↔ ResultIsParam D n m
fixed_decides D n m ns r a e = (λ h. forth (sym e ∙ h), λ h. e ∙ back h)
  where
    f : ℕ → Bool
    f b = gives_param (method_of D b m)

    forth : list_any f ns ≡ true → ResultIsParam D n m
    forth h = let p = any_to f ns h in elim (a.only p.0 p.1) [
      | inl s ↦ inl (subst (λ (b : ℕ). GivesParam (method_of D b m)) s (gives_to (method_of D p.0 m) p.2))
      | inr q ↦ inr (p.0, q.0, q.1, gives_to (method_of D p.0 m) p.2)
    ]

    back : ResultIsParam D n m → list_any f ns ≡ true
    back (inl g) = any_from f n ns a.own (gives_from (method_of D n m) g)
    back (inr (b, args, reach, g)) = any_from f b ns (reached_in D n ns b args a reach) (gives_from (method_of D b m) g)
