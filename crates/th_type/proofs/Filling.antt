-- The table of methods, filled from the lowest types up.
use Rattle.std.proofs.Common.{◌≡◌, ◌∙◌, ℕ, zero, suc, ◌+◌, ◌<◌, ◌≤◌, Bool, true, false, nat_eq, cond, List, [], ◌∷◌, ◌++◌, length, map, take, get_or, slice_get, Option, Some, None, option_map, is_some, refl, ap, sym, subst, inl, inr, arith, append_assoc, max}
use Rattle.std.proofs.lemmas.Bool.Decides.{nat_tests}
use Rattle.std.proofs.lemmas.List.{map-append, take_more, length-map}
use Rattle.std.specs.Map.{lookup}
use Rattle.std.specs.Global.{Vec}
use Rattle.th_type.specs.declared.sig.Sig.{Sig}
use Rattle.th_type.specs.declared.above.Above.{Above}
use Rattle.th_type.specs.declared.ty.TyList.{TyList}
use Rattle.th_type.specs.declared.typedef.Meaning.{Meaning}
use Rattle.th_type.specs.declared.typedef.Meaning.TheVariants.{Whole}
use Rattle.th_type.specs.declared.typedef.Supertype.{Supertype}
use Rattle.th_type.specs.declared.typedef.Written.{Written}
use Rattle.th_type.specs.declared.typedef.TypeDef.{TypeDef}
use Rattle.th_type.specs.Lists.{IsIn, or_else, first_some}
use Rattle.th_type.specs.Types.{TypeExpr, named_ty, tys_of, list_of}
use Rattle.th_type.specs.Signatures.{Signature, sig_of, subst_sig, find_sig}
use Rattle.th_type.specs.Declarations.{SuperRef, Declaration, declared_type, declared_types, super_of, meant_of, written_of, named_decl, types_meant, resolved, find_decl, written_in, supers_of, sigs_of, members_in}
use Rattle.th_type.specs.Methods.{applied, method_up, method_of}
use Rattle.th_type.specs.Rules.{WellFormed}
use Rattle.th_type.specs.Judged.{Ascended}
use Rattle.th_type.specs.declared.above.Ancestors.{Ancestors}
use Rattle.th_type.specs.Tables.{entry_ty, above_of, up_in, up_of}
use Rattle.th_type.specs.MethodTables.{Rising, Merged, sigs_in, methods_in, method_in, Joined, Settled, Put, Filling, MethodsRight, written_sigs}
use Rattle.th_type.proofs.Members.{in_map, from_append}
use Rattle.th_type.proofs.MethodLists.{or_assoc, find_subst}
use Rattle.th_type.proofs.Resolved.{type_found, supers_resolved, decl_there, decl_is, name_among, heads_among}
use Rattle.th_type.proofs.Ascent.{absent_supers}
use Rattle.th_type.proofs.Judging.{look_push, take_next}
use Rattle.th_type.proofs.Ranks.{rank_less, rank_bound}

or_none : {A : Type 0} (o : Option A) → or_else o None ≡ o
or_none None = refl
or_none (Some a) = refl

first_append : {A B : Type 0} (f : A → Option B) (xs ys : List A) → first_some f (xs ++ ys) ≡ or_else (first_some f xs) (first_some f ys)
first_append f [] ys = refl
first_append f (x ∷ xs) ys = ap (or_else (f x)) (first_append f xs ys) ∙ sym (or_assoc (f x) (first_some f xs) (first_some f ys))

pub joined_none : (es : List (ℕ × Vec Sig)) (xs : List Signature) → Rising xs → Joined es xs [] xs
joined_none es xs r = record { rising = r; finds = λ m. sym (or_none (find_sig xs m)) }

joined_then : (es : List (ℕ × Vec Sig)) (xs ys zs : List Signature) (ts us : List TypeExpr) → Joined es xs ts ys → Joined es ys us zs → Joined es xs (ts ++ us) zs
joined_then es xs ys zs ts us a b = record {
  rising = b.rising;
  finds = λ m. b.finds m ∙ ap (λ o. or_else o (first_some (applied (method_in es) m) us)) (a.finds m) ∙ or_assoc (find_sig xs m) (first_some (applied (method_in es) m) ts) (first_some (applied (method_in es) m) us) ∙ ap (or_else (find_sig xs m)) (sym (first_append (applied (method_in es) m) ts us));
}

whole_is : (m : Meaning) (n : ℕ) (args : TyList) → m ≡ Whole n args → types_meant (meant_of m) ≡ named_ty n (tys_of args) ∷ []
whole_is m n args e = rw e refl

-- the methods of a supertype are added
pub joined_whole : (es : List (ℕ × Vec Sig)) (xs zs : List Signature) (m : Meaning) (n : ℕ) (args : TyList) (v : Vec Sig) → m ≡ Whole n args → lookup (nat_eq n) es ≡ Some v → Merged xs (map (subst_sig (list_of (tys_of args))) (map sig_of v.items)) zs → Joined es xs (types_meant (meant_of m)) zs
joined_whole es xs zs m n args v e l a =
    let h : methods_in es n ≡ map sig_of v.items = ap sigs_in l in
    subst (λ ts. Joined es xs ts zs) (sym (whole_is m n args e)) (record {
      rising = a.rising;
      finds = λ k. a.finds k ∙ ap (or_else (find_sig xs k)) (find_subst (list_of (tys_of args)) (map sig_of v.items) k ∙ ap (λ ss. option_map (subst_sig (list_of (tys_of args))) (find_sig ss k)) (sym h) ∙ sym (or_none (option_map (subst_sig (list_of (tys_of args))) (method_in es n k))));
    })

-- a supertype that is not there adds nothing
pub joined_missing : (es : List (ℕ × Vec Sig)) (xs : List Signature) (m : Meaning) (n : ℕ) (args : TyList) → m ≡ Whole n args → lookup (nat_eq n) es ≡ None → Rising xs → Joined es xs (types_meant (meant_of m)) xs
joined_missing es xs m n args e l r =
    let h : methods_in es n ≡ [] = ap sigs_in l in
    subst (λ ts. Joined es xs ts xs) (sym (whole_is m n args e)) (record {
      rising = r;
      finds = λ k. sym (ap (λ ss. or_else (find_sig xs k) (or_else (option_map (subst_sig (list_of (tys_of args))) (find_sig ss k)) None)) h ∙ or_none (find_sig xs k));
    })

resolved_append : (xs ys : List SuperRef) → resolved (xs ++ ys) ≡ resolved xs ++ resolved ys
resolved_append [] ys = refl
resolved_append (x ∷ xs) ys = ap (λ ts. types_meant x.meaning ++ ts) (resolved_append xs ys) ∙ sym (append_assoc (types_meant x.meaning) (resolved xs) (resolved ys))

append_none : {A : Type 0} (xs : List A) → xs ++ [] ≡ xs
append_none [] = refl
append_none (x ∷ xs) = ap (λ ys. x ∷ ys) (append_none xs)

pub joined_more : (es : List (ℕ × Vec Sig)) (ms : List Supertype) (i : ℕ) (d : Supertype) (xs ys zs : List Signature) → i < length ms → d ≡ get_or ms i d → Joined es xs (resolved (map super_of (take i ms))) ys → Joined es ys (types_meant (meant_of d.meaning)) zs → Joined es xs (resolved (map super_of (take (i + 1) ms))) zs
joined_more es ms i d xs ys zs h e a b =
    let g : resolved (map super_of (take (i + 1) ms)) ≡ resolved (map super_of (take i ms)) ++ types_meant (meant_of d.meaning) =
    ap (λ ts. resolved (map super_of ts)) (take_more ms i d h)
    ∙ ap resolved (map-append super_of (take i ms) (get_or ms i d ∷ []))
    ∙ resolved_append (map super_of (take i ms)) (super_of (get_or ms i d) ∷ [])
    ∙ ap (λ ts. resolved (map super_of (take i ms)) ++ ts) (append_none (types_meant (meant_of (get_or ms i d).meaning)))
    ∙ ap (λ (s : Supertype). resolved (map super_of (take i ms)) ++ types_meant (meant_of s.meaning)) (sym e) in
    subst (λ ts. Joined es xs ts zs) (sym g) (joined_then es xs ys zs (resolved (map super_of (take i ms))) (types_meant (meant_of d.meaning)) a b)

pub first_same : {A B : Type 0} (f g : A → Option B) (xs : List A) → ((x : A) → IsIn x xs → f x ≡ g x) → first_some f xs ≡ first_some g xs
first_same f g [] h = refl
first_same f g (x ∷ xs) h = rw (h x (inl refl), first_same f g xs (λ y i. h y (inr i))) refl

pub find_written : (n : ℕ) (d : Declaration) (ds : List Declaration) → find_decl ds n ≡ Some d → sigs_of (declared_types ds) n ≡ map (λ w. w.sig) d.methods
find_written n d ds e = ap written_in (type_found n ds ∙ ap (option_map declared_type) e)

pub find_supers : (n : ℕ) (d : Declaration) (ds : List Declaration) → find_decl ds n ≡ Some d → supers_of (declared_types ds) n ≡ resolved d.supertypes
find_supers n d ds e = supers_resolved n ds ∙ ap (λ o. resolved (members_in o)) e

pub names_to : (ds : List Declaration) (s : ℕ) → IsIn s (map (λ d. d.name) (declared_types ds)) → IsIn s (map (λ d. d.name) ds)
names_to ds s i = let p = name_among s ds i in subst (λ s. IsIn s (map (λ d. d.name) ds)) p.2 (in_map (λ d. d.name) p.0 ds p.1)

pub names_from : (ds : List Declaration) (s : ℕ) → IsIn s (map (λ d. d.name) ds) → IsIn s (map (λ d. d.name) (declared_types ds))
names_from [] s i = i
names_from (d ∷ ds) s (inl e) = inl e
names_from (d ∷ ds) s (inr i) = inr (names_from ds s i)

look_more : {A : Type 0} (k n : ℕ) (a : A) (es : List (ℕ × A)) → lookup (nat_eq k) (es ++ (n, a) ∷ []) ≡ None → lookup (nat_eq k) es ≡ None
look_more k n a [] h = refl
look_more k n a (e ∷ es) h = look_if k n a e es (nat_eq k e.0) (look_more k n a es) h where
  look_if : {A : Type 0} (k n : ℕ) (a : A) (e : ℕ × A) (es : List (ℕ × A)) (b : Bool) → (lookup (nat_eq k) (es ++ (n, a) ∷ []) ≡ None → lookup (nat_eq k) es ≡ None) → cond b (Some e.1) (lookup (nat_eq k) (es ++ (n, a) ∷ [])) ≡ None → cond b (Some e.1) (lookup (nat_eq k) es) ≡ None
  look_if k n a e es true r h = cc
  look_if k n a e es false r h = r h

look_last : {A : Type 0} (n : ℕ) (a : A) (es : List (ℕ × A)) → lookup (nat_eq n) (es ++ (n, a) ∷ []) ≡ None → ⊥
look_last n a [] h = let e : nat_eq n n ≡ true = grind (arith, nat_tests) in let z : cond (nat_eq n n) (Some a) None ≡ None = h in by (nat_eq n n) e z where
  by : (b : Bool) → b ≡ true → cond b (Some a) None ≡ None → ⊥
  by true e h = cc
  by false e h = cc
look_last n a (e ∷ es) h = last_if n a e es (nat_eq n e.0) (look_last n a es) h where
  last_if : {A : Type 0} (n : ℕ) (a : A) (e : ℕ × A) (es : List (ℕ × A)) (b : Bool) → (lookup (nat_eq n) (es ++ (n, a) ∷ []) ≡ None → ⊥) → cond b (Some e.1) (lookup (nat_eq n) (es ++ (n, a) ∷ [])) ≡ None → ⊥
  last_if n a e es true r h = cc
  last_if n a e es false r h = r h

module _ (ds : List Declaration) (w : WellFormed ds) (up : ℕ → List TypeExpr) (a : Ascended ds up) where
  super_same : (es : List (ℕ × Vec Sig)) (ps : List Declaration) (r k m : ℕ) (d : Declaration) → Filling (declared_types ds) up es r ps → IsIn d ds → length (up d.name) ≡ r → r < suc k → (t : TypeExpr) → IsIn t (supers_of (declared_types ds) d.name) → applied (method_in es) m t ≡ applied (method_up k (declared_types ds)) m t
  super_same es ps r k m d f i e l t j =
      let q = heads_among ds w d.name t j in
      let s_in = names_to ds q.0 q.3 in
      let less = rank_less ds w up a d.name q.0 q.1 s_in (subst (λ t. IsIn t (supers_of (declared_types ds) d.name)) q.2 j) in
      let here = f.lower q.0 q.3 (omega (arith, less, e)) in
      let same = found_same q.0 (lookup (nat_eq q.0) es) refl here (omega (arith, less, e, l)) in
      rw q.2 (ap (option_map (subst_sig (list_of q.1))) same) where
        found_same : (s : ℕ) (o : Option (Vec Sig)) → lookup (nat_eq s) es ≡ o → (lookup (nat_eq s) es ≡ None → ⊥) → length (up s) < k → find_sig (methods_in es s) m ≡ method_up k (declared_types ds) s m
        found_same s None e h l = absurd (h e)
        found_same s (Some v) e h l = ap (λ o. find_sig (sigs_in o) m) e ∙ (f.settled s v e).finds k m l

  settled_new : (es : List (ℕ × Vec Sig)) (ps : List Declaration) (r : ℕ) (d : Declaration) (zs : List Signature) → Filling (declared_types ds) up es r ps → IsIn d ds → length (up d.name) ≡ r → Joined es (map (λ w. w.sig) d.methods) (resolved d.supertypes) zs → Settled (declared_types ds) up d.name zs
  settled_new es ps r d zs f i e j = record {
    rising = j.rising;
    finds = λ k m l. finds_at k m l;
    named = names_from ds d.name (in_map (λ d. d.name) d ds i);
  } where
    there : find_decl ds d.name ≡ Some d
    there = decl_there d ds w.differ i

    finds_at : (k m : ℕ) → length (up d.name) < k → find_sig zs m ≡ method_up k (declared_types ds) d.name m
    finds_at zero m l = absurd (omega (arith, l))
    finds_at (suc k) m l =
        let s = find_supers d.name d ds there in
        let c : first_some (applied (method_in es) m) (supers_of (declared_types ds) d.name) ≡ first_some (applied (method_up k (declared_types ds)) m) (supers_of (declared_types ds) d.name) =
        first_same (applied (method_in es) m) (applied (method_up k (declared_types ds)) m) (supers_of (declared_types ds) d.name) (super_same es ps r k m d f i e (omega (arith, l, e))) in
        j.finds m
        ∙ ap (λ ss. or_else (find_sig ss m) (first_some (applied (method_in es) m) (resolved d.supertypes))) (sym (find_written d.name d ds there))
        ∙ ap (λ ts. or_else (find_sig (sigs_of (declared_types ds) d.name) m) (first_some (applied (method_in es) m) ts)) (sym s)
        ∙ ap (or_else (find_sig (sigs_of (declared_types ds) d.name) m)) c

  equal_more : (es : List (ℕ × Vec Sig)) (ps : List Declaration) (r : ℕ) (d : Declaration) → Filling (declared_types ds) up es r ps → (length (up d.name) ≡ r → lookup (nat_eq d.name) es ≡ None → ⊥) → Filling (declared_types ds) up es r (ps ++ d ∷ [])
  equal_more es ps r d f h = record {
    settled = f.settled;
    lower = f.lower;
    equal = λ n i e l. elim (from_append n (map (λ d. d.name) ps) (d.name ∷ []) (subst (λ ns. IsIn n ns) (map-append (λ d. d.name) ps (d ∷ [])) i)) [
      | inl j ↦ f.equal n j e l
      | inr j ↦ elim j [ inl q ↦ h (subst (λ n. length (up n) ≡ r) q e) (subst (λ n. lookup (nat_eq n) es ≡ None) q l) | inr z ↦ absurd z ]
    ];
  }

  filling_put : (es fs : List (ℕ × Vec Sig)) (ps : List Declaration) (r : ℕ) (d : Declaration) (v : Vec Sig) → Filling (declared_types ds) up es r ps → IsIn d ds → length (up d.name) ≡ r → fs ≡ es ++ (d.name, v) ∷ [] → Joined es (map (λ w. w.sig) d.methods) (resolved d.supertypes) (map sig_of v.items) → Filling (declared_types ds) up fs r (ps ++ d ∷ [])
  filling_put es fs ps r d v f i e g j =
      equal_more fs ps r d (subst (λ fs. Filling (declared_types ds) up fs r ps) (sym g) (record {
        settled = λ n u l. elim (look_push n d.name v u es l) [
          | inl q ↦ f.settled n u q
          | inr q ↦ subst (λ n. Settled (declared_types ds) up n (map sig_of u.items)) (sym q.0) (subst (λ (u : Vec Sig). Settled (declared_types ds) up d.name (map sig_of u.items)) (sym q.1) (settled_new es ps r d (map sig_of v.items) f i e j))
        ];
        lower = λ n k l q. f.lower n k l (look_more n d.name v es q);
        equal = λ n k l q. f.equal n k l (look_more n d.name v es q);
      })) (λ q l. look_last d.name v es (subst (λ fs. lookup (nat_eq d.name) fs ≡ None) g l))

  pub filling_more : (es fs : List (ℕ × Vec Sig)) (ps : List Declaration) (r : ℕ) (d : Declaration) → Filling (declared_types ds) up es r ps → IsIn d ds → length (up d.name) ≡ r → Put es fs d → Filling (declared_types ds) up fs r (ps ++ d ∷ [])
  filling_more es fs ps r d f i e (inl q) = subst (λ fs. Filling (declared_types ds) up fs r (ps ++ d ∷ [])) (sym q.0) (equal_more es ps r d f (λ z. q.1))
  filling_more es fs ps r d f i e (inr q) = filling_put es fs ps r d q.0 f i e q.1 q.2

  pub filling_skip : (es : List (ℕ × Vec Sig)) (ps : List Declaration) (r : ℕ) (d : Declaration) → Filling (declared_types ds) up es r ps → (length (up d.name) ≡ r → ⊥) → Filling (declared_types ds) up es r (ps ++ d ∷ [])
  filling_skip es ps r d f h = equal_more es ps r d f (λ e. absurd (h e))

  -- all of a rank are there
  pub filling_next : (es : List (ℕ × Vec Sig)) (r : ℕ) → Filling (declared_types ds) up es r ds → Filling (declared_types ds) up es (r + 1) []
  filling_next es r f = record {
    settled = f.settled;
    lower = λ n i l q. lower_by n i q (nat_eq (length (up n)) r) refl l;
    equal = λ n i. absurd i;
  } where
    lower_by : (n : ℕ) → IsIn n (map (λ d. d.name) (declared_types ds)) → lookup (nat_eq n) es ≡ None → (b : Bool) → nat_eq (length (up n)) r ≡ b → length (up n) < r + 1 → ⊥
    lower_by n i q true e l = f.equal n (names_to ds n i) (grind (arith, nat_tests)) q
    lower_by n i q false e l = f.lower n i (grind (arith, nat_tests)) q

  -- the empty table
  pub filling_none : (es : List (ℕ × Vec Sig)) → es ≡ [] → Filling (declared_types ds) up es 0 []
  filling_none es e = record {
    settled = λ n v l. let z : lookup (nat_eq n) [] ≡ Some v = subst (λ (es : List (ℕ × Vec Sig)). lookup (nat_eq n) es ≡ Some v) e l in absurd (cc);
    lower = λ n i l. absurd (omega (arith, l));
    equal = λ n i. absurd i;
  }

  no_method : (k n m : ℕ) → (IsIn n (map (λ d. d.name) (declared_types ds)) → ⊥) → method_up k (declared_types ds) n m ≡ None
  no_method zero n m h = refl
  no_method (suc k) n m h =
      let g : IsIn n (map (λ d. d.name) ds) → ⊥ = λ i. h (names_from ds n i) in
      rw (no_sigs n g, absent_supers n ds g) refl where
        no_sigs : (n : ℕ) → (IsIn n (map (λ d. d.name) ds) → ⊥) → sigs_of (declared_types ds) n ≡ []
        no_sigs n g = ap written_in (type_found n ds ∙ ap (option_map declared_type) (by (find_decl ds n) refl)) where
          by : (o : Option Declaration) → find_decl ds n ≡ o → find_decl ds n ≡ None
          by None e = e
          by (Some d) e = let p = decl_is n d ds e in absurd (g (subst (λ k. IsIn k (map (λ d. d.name) ds)) p.1 (in_map (λ d. d.name) d ds p.0)))

  -- at the end the table is right
  pub filling_done : (es : List (ℕ × Vec Sig)) (r : ℕ) → ((n : ℕ) → length (up n) < r) → Filling (declared_types ds) up es r [] → MethodsRight (declared_types ds) up es
  filling_done es r h f = record {
    rising = λ n. rising_at n (lookup (nat_eq n) es) refl;
    stable = λ n m k l. stable_at n m k l (lookup (nat_eq n) es) refl;
    finds = λ n m. finds_at n m (lookup (nat_eq n) es) refl;
  } where
    rising_at : (n : ℕ) (o : Option (Vec Sig)) → lookup (nat_eq n) es ≡ o → Rising (sigs_in o)
    rising_at n None e = tt
    rising_at n (Some v) e = (f.settled n v e).rising

    stable_at : (n m k : ℕ) → length (up n) < k → (o : Option (Vec Sig)) → lookup (nat_eq n) es ≡ o → find_sig (sigs_in o) m ≡ method_up k (declared_types ds) n m
    stable_at n m k l None e = sym (no_method k n m (λ i. f.lower n i (h n) e))
    stable_at n m k l (Some v) e = (f.settled n v e).finds k m l

    finds_at : (n m : ℕ) (o : Option (Vec Sig)) → lookup (nat_eq n) es ≡ o → find_sig (sigs_in o) m ≡ method_of (declared_types ds) n m
    finds_at n m None e = sym (no_method (length (declared_types ds)) n m (λ i. f.lower n i (h n) e))
    finds_at n m (Some v) e = let i = (f.settled n v e).named in (f.settled n v e).finds (length (declared_types ds)) m (rank_bound ds w up a n (names_to ds n i) i)

-- the greatest rank
look_member : {A : Type 0} (n : ℕ) (a : A) (es : List (ℕ × A)) → lookup (nat_eq n) es ≡ Some a → (e : ℕ × A) × IsIn e es × (e.1 ≡ a)
look_member n a [] h = cc
look_member n a (e ∷ es) h = member_if n a e es (nat_eq n e.0) (look_member n a es) h where
  member_if : {A : Type 0} (n : ℕ) (a : A) (e : ℕ × A) (es : List (ℕ × A)) (b : Bool) → (lookup (nat_eq n) es ≡ Some a → (e : ℕ × A) × IsIn e es × (e.1 ≡ a)) → cond b (Some e.1) (lookup (nat_eq n) es) ≡ Some a → (x : ℕ × A) × IsIn x (e ∷ es) × (x.1 ≡ a)
  member_if n a e es true r h = (e, inl refl, cc)
  member_if n a e es false r h = let p = r h in (p.0, inr p.1, p.2)

pub highest_bound : (t : Ancestors) (h : ℕ) → ((e : ℕ × Above) → IsIn e t.map.entries → length e.1.map.entries ≤ h) → (n : ℕ) → length (up_of t n) ≤ h
highest_bound t h b n = by (lookup (nat_eq n) t.map.entries) refl where
  by : (o : Option Above) → lookup (nat_eq n) t.map.entries ≡ o → length (up_in t.pool o) ≤ h
  by None e = omega arith
  by (Some a) e =
      let p = look_member n a t.map.entries e in
      let l : length (above_of t.pool a) ≡ length a.map.entries = length-map a.map.entries (entry_ty t.pool) in
      let m : length a.map.entries ≤ h = subst (λ (a : Above). length a.map.entries ≤ h) p.2 (b p.0 p.1) in
      omega (arith, l, m)

pub highest_more : (es : List (ℕ × Above)) (k h : ℕ) (d : ℕ × Above) (l : ℕ) → slice_get es k ≡ Some d → l ≡ length d.1.map.entries → ((e : ℕ × Above) → IsIn e (take k es) → length e.1.map.entries ≤ h) → (e : ℕ × Above) → IsIn e (take (k + 1) es) → length e.1.map.entries ≤ max h l
highest_more es k h d l g q b e i = elim (from_append e (take k es) (d ∷ []) (subst (λ xs. IsIn e xs) (take_next es k d g) i)) [
  | inl j ↦ (let p = b e j in grind (arith, p))
  | inr j ↦ elim j [ inl s ↦ (let p : length e.1.map.entries ≡ l = ap (λ (x : ℕ × Above). length x.1.map.entries) s ∙ sym q in grind (arith, p)) | inr z ↦ absurd z ]
]

pub written_same : (ws : List Written) → written_sigs ws ≡ map (λ w. w.sig) (map written_of ws)
written_same [] = refl
written_same (w ∷ ws) = ap (λ ss. sig_of w.sig ∷ ss) (written_same ws)

-- a declared type was put
pub put_new : (es fs : List (ℕ × Vec Sig)) (n : ℕ) (def : TypeDef) (v : Vec Sig) → fs ≡ es ++ (n, v) ∷ [] → Joined es (written_sigs def.methods.items) (resolved (map super_of def.supertypes.items)) (map sig_of v.items) → Put es fs (named_decl n def)
put_new es fs n def v e j = inr (v, e, subst (λ ss. Joined es ss (resolved (map super_of def.supertypes.items)) (map sig_of v.items)) (written_same def.methods.items) j)

some_not_none : {A : Type 0} (o : Option A) → true ≡ is_some o → o ≡ None → ⊥
some_not_none None h e = cc
some_not_none (Some a) h e = cc

pub put_old : (es : List (ℕ × Vec Sig)) (n : ℕ) (def : TypeDef) → true ≡ is_some (lookup (nat_eq n) es) → Put es es (named_decl n def)
put_old es n def h = inl (refl, λ e. some_not_none (lookup (nat_eq n) es) h e)

pub in_take_all : {A : Type 0} (x : A) (k : ℕ) (xs : List A) → length xs ≤ k → IsIn x xs → IsIn x (take k xs)
in_take_all x k [] l i = absurd i
in_take_all x zero (y ∷ ys) l i = absurd (omega (arith, l))
in_take_all x (suc k) (y ∷ ys) l (inl e) = inl e
in_take_all x (suc k) (y ∷ ys) l (inr i) = inr (in_take_all x k ys (omega (arith, l)) i)
