-- The judgement of supertypes.
use Rattle.std.proofs.Common.{◌≡◌, ◌∙◌, ℕ, zero, suc, ◌+◌, ◌<◌, ◌↔◌, Bool, true, false, not, cond, nat_eq, ◌||◌, List, [], ◌∷◌, ◌++◌, length, map, take, drop, get_or, slice_get, Option, Some, None, refl, ap, sym, subst, ◌⊎◌, inl, inr, arith, if◌then◌else◌, IsTrue}
use Rattle.std.proofs.lemmas.Bool.Decides.{nat_tests}
use Rattle.std.proofs.lemmas.List.{map-append}
use Rattle.std.proofs.Math.Seq.{drop-cons}
use Rattle.std.specs.Bool.{MatchBool}
use Rattle.std.specs.List.{list_any}
use Rattle.std.specs.Map.{lookup}
use Rattle.indexmap.specs.IndexSet.{insert_key}
use Rattle.th_type.specs.declared.place.Failure.{Failure}
use Rattle.th_type.specs.declared.ty.TyList.{TyList}
use Rattle.th_type.specs.declared.typedef.Meaning.{Meaning}
use Rattle.th_type.specs.declared.typedef.Meaning.TheVariants.{Head, Whole}
use Rattle.th_type.specs.declared.typedef.Supertype.{Supertype}
use Rattle.th_type.specs.declared.above.Above.{Above}
use Rattle.th_type.specs.declared.above.Ancestors.{Ancestors}
use Rattle.th_type.specs.Lists.{IsIn, is_in}
use Rattle.th_type.specs.Types.{TypeExpr}
use Rattle.th_type.specs.Failures.{place, failure, before, lower, lowest, unless, UpTo, IsLeastOf}
use Rattle.th_type.specs.Declarations.{Meant, unresolved, parameter, by_head, whole, SuperRef, Declaration, super_of, meant_of, declared_types}
use Rattle.th_type.specs.Rules.{names_meant, member_failures, list_failures, NamesDiffer, ReachesItself, HasTwo, IsHigh, IsTangled, FailsSupertypes}
use Rattle.th_type.specs.Closure.{Climbed}
use Rattle.th_type.specs.Pool.{Grows}
use Rattle.th_type.specs.Tables.{above_of, Held}
use Rattle.th_type.specs.Judged.{SameNumbers, Listed, Judged, FailsAmong, Judging}
use Rattle.th_type.proofs.Members.{in_left, in_right, from_append, at_in}
use Rattle.th_type.proofs.Least.{least_alike, least_lowest, lowest_append, up_to_self}
use Rattle.th_type.proofs.Noting.{any_in}
use Rattle.th_type.proofs.Closure.{climbed_none}
use Rattle.th_type.proofs.Held.{above_grown, held_grown}

pub is_in_push : (k n : ℕ) (ks : List ℕ) → is_in k (ks ++ n ∷ []) ≡ (nat_eq k n || is_in k ks)
is_in_push k n [] = refl
is_in_push k n (m ∷ ms) = ap (λ b. nat_eq k m || b) (is_in_push k n ms) ∙ swap (nat_eq k m) (nat_eq k n) (is_in k ms) where
  swap : (a b c : Bool) → (a || (b || c)) ≡ (b || (a || c))
  swap true true c = refl
  swap true false c = refl
  swap false true c = refl
  swap false false c = refl

insert_same : (n : ℕ) (ks : List ℕ) (b : Bool) → is_in n ks ≡ b → SameNumbers (if b then ks else ks ++ n ∷ []) (n ∷ ks)
insert_same n ks true e k = by (nat_eq k n) refl where
  by : (c : Bool) → nat_eq k n ≡ c → is_in k ks ≡ (nat_eq k n || is_in k ks)
  by true h = let s : k ≡ n = grind (arith, nat_tests) in let i : is_in k ks ≡ true = subst (λ k. is_in k ks ≡ true) (sym s) e in rw (h, i) refl
  by false h = rw h refl
insert_same n ks false e k = is_in_push k n ks

pub insert_numbers : (n : ℕ) (ks ls : List ℕ) → ls ≡ insert_key nat_eq ks n → SameNumbers ls (n ∷ ks)
insert_numbers n ks ls e k = ap (is_in k) (e ∙ ap (λ b. if b then ks else ks ++ n ∷ []) (any_in n ks)) ∙ insert_same n ks (is_in n ks) refl k

listed_by : (m : Meant) (n : ℕ) (text at : ℕ) (seen : List ℕ) → (m ≡ by_head n) ⊎ ((x : _) × (m ≡ whole n x)) → (member_failures text seen at m ≡ unless (not (is_in n seen)) 6 (place text at)) × (names_meant m ≡ n ∷ [])
listed_by m n text at seen (inl e) = (rw e refl, rw e refl)
listed_by m n text at seen (inr (x, e)) = (rw e refl, rw e refl)

meant_by : (m : Meaning) (n : ℕ) → (m ≡ Head n) ⊎ ((x : TyList) × (m ≡ Whole n x)) → (meant_of m ≡ by_head n) ⊎ ((x : _) × (meant_of m ≡ whole n x))
meant_by m n (inl e) = inl (ap meant_of e)
meant_by m n (inr (x, e)) = inr (_, ap meant_of e)

-- a member that names a declared type was judged
pub listed_named : (s : Supertype) (n text : ℕ) (old new : Option Failure) (seen later : List ℕ) (is_new : Bool) → (s.meaning ≡ Head n) ⊎ ((x : TyList) × (s.meaning ≡ Whole n x)) → later ≡ insert_key nat_eq seen n → is_new ≡ not (list_any (nat_eq n) seen) → new ≡ lowest old (unless is_new 6 (place text s.at)) → Listed old new seen later text (super_of s)
listed_named s n text old new seen later is_new h e f g =
    let p = listed_by (meant_of s.meaning) n text s.at seen (meant_by s.meaning n h) in
    let q : is_new ≡ not (is_in n seen) = f ∙ ap not (any_in n seen) in
    let i : later ≡ (if is_in n seen then seen else seen ++ n ∷ []) = e ∙ ap (λ b. if b then seen else seen ++ n ∷ []) (any_in n seen) in
    record {
      least = g ∙ ap (λ b. lowest old (unless b 6 (place text s.at))) q ∙ ap (lowest old) (sym p.0);
      names = λ k. ap (is_in k) i ∙ insert_same n seen (is_in n seen) refl k ∙ ap (λ ns. is_in k (ns ++ seen)) (sym p.1);
    }

names_same : (m : Meant) (xs ys : List ℕ) → SameNumbers xs ys → SameNumbers (names_meant m ++ xs) (names_meant m ++ ys)
names_same unresolved xs ys h k = h k
names_same parameter xs ys h k = h k
names_same (by_head n) xs ys h k = ap (λ b. nat_eq k n || b) (h k)
names_same (whole n a) xs ys h k = ap (λ b. nat_eq k n || b) (h k)

member_same : (text at : ℕ) (m : Meant) (xs ys : List ℕ) → SameNumbers xs ys → member_failures text xs at m ≡ member_failures text ys at m
member_same text at unresolved xs ys h = refl
member_same text at parameter xs ys h = refl
member_same text at (by_head n) xs ys h = ap (λ b. unless (not b) 6 (place text at)) (h n)
member_same text at (whole n a) xs ys h = ap (λ b. unless (not b) 6 (place text at)) (h n)

list_same : (text : ℕ) (ss : List SuperRef) (xs ys : List ℕ) → SameNumbers xs ys → list_failures text xs ss ≡ list_failures text ys ss
list_same text [] xs ys h = refl
list_same text (s ∷ ss) xs ys h = rw (member_same text s.at s.meaning xs ys h, list_same text ss (names_meant s.meaning ++ xs) (names_meant s.meaning ++ ys) (names_same s.meaning xs ys h)) refl

-- a further member was judged
pub listed_more : (text i : ℕ) (ms : List Supertype) (d : Supertype) (old mid new : Option Failure) (seen later : List ℕ) → i < length ms → d ≡ get_or ms i d
    → lowest mid (list_failures text seen (map super_of (drop i ms))) ≡ lowest old (list_failures text [] (map super_of ms)) → Listed mid new seen later text (super_of d)
    → lowest new (list_failures text later (map super_of (drop (i + 1) ms))) ≡ lowest old (list_failures text [] (map super_of ms))
listed_more text i ms d old mid new seen later h e inv a =
    let o : i + 1 ≡ suc i = omega arith in
    let c : drop i ms ≡ d ∷ drop (i + 1) ms = drop-cons ms i d h ∙ ap (λ (x : Supertype). x ∷ drop (suc i) ms) (sym e) ∙ ap (λ k. d ∷ drop k ms) (sym o) in
    let s = list_same text (map super_of (drop (i + 1) ms)) later (names_meant (meant_of d.meaning) ++ seen) a.names in
    ap (lowest new) s
    ∙ ap (λ o. lowest o (list_failures text (names_meant (meant_of d.meaning) ++ seen) (map super_of (drop (i + 1) ms)))) a.least
    ∙ sym (lowest_append mid (member_failures text seen d.at (meant_of d.meaning)) (list_failures text (names_meant (meant_of d.meaning) ++ seen) (map super_of (drop (i + 1) ms))))
    ∙ ap (λ ts. lowest mid (list_failures text seen (map super_of ts))) (sym c)
    ∙ inv

not_climbed : (ds : List Declaration) (n : ℕ) (xs : List TypeExpr) → (ReachesItself ds n → ⊥) → Climbed (declared_types ds) n xs → ¬ IsTangled ds n
not_climbed ds n xs r c (inl h) = r h
not_climbed ds n xs r c (inr h) = climbed_none (declared_types ds) n xs c h

-- a declared type was judged whose supertypes are known
pub judged_some : (ds : List Declaration) (d : Declaration) (old mid new : Option Failure) (xs : List TypeExpr) (cyclic : Bool) → mid ≡ lowest old (list_failures d.place.text [] d.supertypes) → new ≡ lowest mid (unless (not cyclic) 6 d.place) → IsTrue cyclic ↔ ReachesItself ds d.name → Climbed (declared_types ds) d.name xs → Judged ds d old new xs
judged_some ds d old mid new xs cyclic e f r c = record {
  holds = not cyclic;
  least = f ∙ ap (λ o. lowest o (unless (not cyclic) 6 d.place)) e ∙ sym (lowest_append old (list_failures d.place.text [] d.supertypes) (unless (not cyclic) 6 d.place));
  decides = by cyclic r;
  climbed = λ h. c;
} where
  by : (b : Bool) → IsTrue b ↔ ReachesItself ds d.name → MatchBool (not b) (¬ IsTangled ds d.name) (IsTangled ds d.name)
  by true r = inl (r.0 refl)
  by false r = not_climbed ds d.name xs (λ q. let z : false ≡ true = r.1 q in absurd (cc)) c

-- a declared type was judged that has two of one name, or one that is too high
pub judged_none : (ds : List Declaration) (d : Declaration) (old mid new : Option Failure) (xs : List TypeExpr) → mid ≡ lowest old (list_failures d.place.text [] d.supertypes) → new ≡ lowest mid (unless false 6 d.place) → HasTwo (declared_types ds) d.name ⊎ IsHigh (declared_types ds) d.name → Judged ds d old new xs
judged_none ds d old mid new xs e f r = record {
  holds = false;
  least = f ∙ ap (λ o. lowest o (unless false 6 d.place)) e ∙ sym (lowest_append old (list_failures d.place.text [] d.supertypes) (unless false 6 d.place));
  decides = inr r;
  climbed = λ h. cc;
}

least_self : (o : Option Failure) → IsLeastOf (λ f. o ≡ Some f) o
least_self None = λ g h. cc
least_self (Some f) = (refl, λ g h. let e : g ≡ f = cc in subst (λ g. UpTo f g) (sym e) (up_to_self f))

-- nothing was judged
pub judging_none : (ds : List Declaration) (old : Option Failure) (t : Ancestors) → t.map.entries ≡ [] → Judging ds [] old old t
judging_none ds old t e = record {
  least = least_alike (λ f. old ≡ Some f) (FailsAmong ds [] old) old (λ g h. inl h) (λ g h. elim h [ inl p ↦ p | inr q ↦ absurd q.1 ]) (least_self old);
  climbed = λ n k a h. let z : lookup (nat_eq k) [] ≡ Some a = subst (λ (es : List (ℕ × Above)). lookup (nat_eq k) es ≡ Some a) e h in absurd (cc);
  held = λ k a h. let z : lookup (nat_eq k) [] ≡ Some a = subst (λ (es : List (ℕ × Above)). lookup (nat_eq k) es ≡ Some a) e h in absurd (cc);
  names = ap (map (λ e. e.0)) e;
}

lower_some : (o : Option Failure) (f : Failure) → lower o f ≡ None → ⊥
lower_some None f h = cc
lower_some (Some k) f h = by (before f k) h where
  by : (b : Bool) → (if b then Some f else Some k) ≡ None → ⊥
  by true h = cc
  by false h = cc

lowest_none : (o : Option Failure) (fs : List Failure) → lowest o fs ≡ None → (o ≡ None) × (fs ≡ [])
lowest_none o [] h = (h, refl)
lowest_none o (f ∷ fs) h = absurd (lower_some o f (lowest_none (lower o f) fs h).0)

append_nil : {A : Type 0} (xs ys : List A) → xs ++ ys ≡ [] → ys ≡ []
append_nil [] ys h = h
append_nil (x ∷ xs) ys h = cc

unless_nil : (b : Bool) (p : _) → unless b 6 p ≡ [] → b ≡ true
unless_nil true p h = refl
unless_nil false p h = cc

tangled_to : (ds : List Declaration) (d : Declaration) (b : Bool) (g : Failure) → MatchBool b (¬ IsTangled ds d.name) (IsTangled ds d.name) → IsIn g (unless b 6 d.place) → IsTangled ds d.name × (g ≡ failure 6 d.place)
tangled_to ds d true g m i = absurd i
tangled_to ds d false g m (inl e) = (m, e)
tangled_to ds d false g m (inr i) = absurd i

tangled_from : (ds : List Declaration) (d : Declaration) (b : Bool) (g : Failure) → MatchBool b (¬ IsTangled ds d.name) (IsTangled ds d.name) → IsTangled ds d.name → g ≡ failure 6 d.place → IsIn g (unless b 6 d.place)
tangled_from ds d true g m t e = absurd (m t)
tangled_from ds d false g m t e = inl e

pub look_push : {A : Type 0} (k n : ℕ) (a x : A) (es : List (ℕ × A)) → lookup (nat_eq k) (es ++ (n, a) ∷ []) ≡ Some x → (lookup (nat_eq k) es ≡ Some x) ⊎ ((k ≡ n) × (x ≡ a))
look_push {A} k n a x [] h = by (nat_eq k n) refl h where
  by : (b : Bool) → nat_eq k n ≡ b → cond b (Some a) None ≡ Some x → (lookup (nat_eq k) [] ≡ Some x) ⊎ ((k ≡ n) × (x ≡ a))
  by true e h = inr (grind (arith, nat_tests), cc)
  by false e h = cc
look_push {A} k n a x (e ∷ es) h = by (nat_eq k e.0) (look_push k n a x es) h where
  by : (b : Bool) → (lookup (nat_eq k) (es ++ (n, a) ∷ []) ≡ Some x → (lookup (nat_eq k) es ≡ Some x) ⊎ ((k ≡ n) × (x ≡ a))) → cond b (Some e.1) (lookup (nat_eq k) (es ++ (n, a) ∷ [])) ≡ Some x → (cond b (Some e.1) (lookup (nat_eq k) es) ≡ Some x) ⊎ ((k ≡ n) × (x ≡ a))
  by true r h = inl h
  by false r h = r h

-- a further declared type was judged
pub judging_more : (ds ps : List Declaration) (d : Declaration) (old mid new : Option Failure) (t u : Ancestors) (a : Above) → Judging ds ps old mid t → Grows t.pool u.pool → Judged ds d mid new (above_of u.pool a) → Held u.pool a → u.map.entries ≡ t.map.entries ++ (d.name, a) ∷ [] → Judging ds (ps ++ d ∷ []) old new u
judging_more ds ps d old mid new t u a j g b w e = record {
  least = subst (λ o. IsLeastOf (FailsAmong ds (ps ++ d ∷ []) old) o) (sym b.least)
      (least_alike (λ g. FailsAmong ds ps old g ⊎ IsIn g (L ++ U)) (FailsAmong ds (ps ++ d ∷ []) old) (lowest mid (L ++ U)) forth back (least_lowest (FailsAmong ds ps old) mid (L ++ U) j.least));
  climbed = λ n k x h. climbed_by n k x (subst (λ fs. lookup (nat_eq k) fs ≡ Some x) e h);
  held = λ k x h. held_by k x (subst (λ fs. lookup (nat_eq k) fs ≡ Some x) e h);
  names = ap (map (λ e. e.0)) e ∙ map-append (λ e. e.0) t.map.entries ((d.name, a) ∷ []) ∙ ap (λ ns. ns ++ d.name ∷ []) j.names ∙ sym (map-append (λ d. d.name) ps (d ∷ []));
} where
  L : List Failure
  L = list_failures d.place.text [] d.supertypes

  U : List Failure
  U = unless b.holds 6 d.place

  forth : (g : Failure) → FailsAmong ds ps old g ⊎ IsIn g (L ++ U) → FailsAmong ds (ps ++ d ∷ []) old g
  forth g (inl (inl h)) = inl h
  forth g (inl (inr (c, i, h))) = inr (c, in_left c ps (d ∷ []) i, h)
  forth g (inr i) = elim (from_append g L U i) [ inl l ↦ inr (d, in_right d ps (d ∷ []) (inl refl), inl l) | inr u ↦ inr (d, in_right d ps (d ∷ []) (inl refl), inr (tangled_to ds d b.holds g b.decides u)) ]

  of_d : (g : Failure) → FailsSupertypes ds d g → IsIn g (L ++ U)
  of_d g (inl l) = in_left g L U l
  of_d g (inr (t, q)) = in_right g L U (tangled_from ds d b.holds g b.decides t q)

  back : (g : Failure) → FailsAmong ds (ps ++ d ∷ []) old g → FailsAmong ds ps old g ⊎ IsIn g (L ++ U)
  back g (inl h) = inl (inl h)
  back g (inr (c, i, h)) = elim (from_append c ps (d ∷ []) i) [ inl k ↦ inl (inr (c, k, h)) | inr k ↦ elim k [ inl s ↦ inr (of_d g (subst (λ c. FailsSupertypes ds c g) s h)) | inr z ↦ absurd z ] ]

  held_by : (k : ℕ) (x : Above) → lookup (nat_eq k) (t.map.entries ++ (d.name, a) ∷ []) ≡ Some x → Held u.pool x
  held_by k x h = elim (look_push k d.name a x t.map.entries h) [ inl q ↦ held_grown t.pool u.pool x g (j.held k x q) | inr q ↦ subst (λ y. Held u.pool y) (sym q.1) w ]

  climbed_by : new ≡ None → (k : ℕ) (x : Above) → lookup (nat_eq k) (t.map.entries ++ (d.name, a) ∷ []) ≡ Some x → (¬ IsTangled ds k) × Climbed (declared_types ds) k (above_of u.pool x)
  climbed_by n k x h =
      let p = lowest_none mid (L ++ U) (sym b.least ∙ n) in
      let y : b.holds ≡ true = unless_nil b.holds d.place (append_nil L U p.1) in
      elim (look_push k d.name a x t.map.entries h) [
        | inl q ↦ (let c = j.climbed p.0 k x q in (c.0, subst (λ xs. Climbed (declared_types ds) k xs) (sym (above_grown t.pool u.pool x g (j.held k x q))) c.1))
        | inr q ↦ (let c : (¬ IsTangled ds d.name) × Climbed (declared_types ds) d.name (above_of u.pool a) = (subst (λ b. MatchBool b (¬ IsTangled ds d.name) (IsTangled ds d.name)) y b.decides, b.climbed y) in
            subst (λ y. (¬ IsTangled ds k) × Climbed (declared_types ds) k (above_of u.pool y)) (sym q.1) (subst (λ k. (¬ IsTangled ds k) × Climbed (declared_types ds) k (above_of u.pool a)) (sym q.0) c))
      ]

look_absent : {A : Type 0} (n : ℕ) (es : List (ℕ × A)) → (IsIn n (map (λ e. e.0) es) → ⊥) → lookup (nat_eq n) es ≡ None
look_absent n [] h = refl
look_absent n (e ∷ es) h = by (nat_eq n e.0) refl (look_absent n es (λ i. h (inr i))) where
  by : (b : Bool) → nat_eq n e.0 ≡ b → lookup (nat_eq n) es ≡ None → cond b (Some e.1) (lookup (nat_eq n) es) ≡ None
  by true q r = let s : n ≡ e.0 = grind (arith, nat_tests) in absurd (h (inl s))
  by false q r = r

differ_take : (ds : List Declaration) (k : ℕ) (d : Declaration) → NamesDiffer ds → slice_get ds k ≡ Some d → IsIn d.name (map (λ d. d.name) (take k ds)) → ⊥
differ_take [] k d w g i = cc
differ_take (x ∷ xs) zero d w g i = i
differ_take (x ∷ xs) (suc k) d w g (inl s) = w.0 d (at_in d xs k g) (sym s)
differ_take (x ∷ xs) (suc k) d w g (inr i) = differ_take xs k d w.1 g i

-- the next declared type is not in the table
pub next_absent : {A : Type 0} (ds : List Declaration) (k : ℕ) (d : Declaration) (es : List (ℕ × A)) → NamesDiffer ds → slice_get ds k ≡ Some d → map (λ e. e.0) es ≡ map (λ d. d.name) (take k ds) → lookup (nat_eq d.name) es ≡ None
next_absent ds k d es w g e = look_absent d.name es (λ i. differ_take ds k d w g (subst (λ ns. IsIn d.name ns) e i))

pub take_next : {A : Type 0} (xs : List A) (k : ℕ) (x : A) → slice_get xs k ≡ Some x → take (k + 1) xs ≡ take k xs ++ x ∷ []
take_next [] k x h = cc
take_next (y ∷ ys) zero x h = let e : y ≡ x = cc in ap (λ z. z ∷ []) e
take_next (y ∷ ys) (suc k) x h = let o : suc k + 1 ≡ suc (k + 1) = omega arith in rw o (ap (λ zs. y ∷ zs) (take_next ys k x h))
