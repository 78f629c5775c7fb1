-- The loops of the tests of signatures.
use Rattle.std.proofs.Common.{◌≡◌, ◌∙◌, ℕ, zero, suc, ◌+◌, ◌<◌, ◌≤◌, Bool, true, false, nat_eq, ◌&&◌, ◌||◌, List, [], ◌∷◌, ◌++◌, length, map, take, drop, get_or, slice_get, Option, Some, option_map, refl, ap, sym, arith, append_assoc, take-append-drop}
use Rattle.std.proofs.lemmas.List.{map-append, take_more}
use Rattle.std.proofs.Math.Seq.{drop-cons}
use Rattle.std.specs.List.{list_any, list_all}
use Rattle.std.specs.Global.{Vec}
use Rattle.indexmap.specs.IndexSet.{insert_key}
use Rattle.th_type.specs.declared.place.Failure.{Failure}
use Rattle.th_type.specs.declared.sig.Sig.{Sig}
use Rattle.th_type.specs.declared.ty.TyList.{TyList}
use Rattle.th_type.specs.declared.typedef.Meaning.{Meaning}
use Rattle.th_type.specs.declared.typedef.Meaning.TheVariants.{Whole}
use Rattle.th_type.specs.declared.typedef.Supertype.{Supertype}
use Rattle.th_type.specs.declared.typedef.Written.{Written}
use Rattle.th_type.specs.declared.typedef.TypeDef.{TypeDef}
use Rattle.th_type.specs.Lists.{is_in}
use Rattle.th_type.specs.Types.{TypeExpr, int_ty, bool_ty, text_ty, array_ty, named_ty, param_ty, tys_of, list_of}
use Rattle.th_type.specs.Signatures.{Signature, sig_of, subst_sig}
use Rattle.th_type.specs.Declarations.{SuperRef, WrittenSig, Declaration, named_decl, super_of, written_of, meant_of, types_meant, resolved}
use Rattle.th_type.specs.Failures.{place, lowest, unless}
use Rattle.th_type.specs.MethodTables.{methods_in, method_in}
use Rattle.th_type.specs.Judged.{SameNumbers}
use Rattle.th_type.specs.Tests.{param_at, gives_param, conforms_test, fits_found, fits_all, written_failures, agrees_found, agrees_sig, agrees_type, agrees_all, def_failures, all_failures}
use Rattle.th_type.proofs.Least.{lowest_append}
use Rattle.th_type.proofs.Judging.{insert_numbers, is_in_push, take_next}

pub numbers_more : (f : Written → ℕ) (ws : List Written) (i : ℕ) (d : Written) (ks ls : List ℕ) → i < length ws → d ≡ get_or ws i d → SameNumbers ks (map f (take i ws)) → ls ≡ insert_key nat_eq ks (f d) → SameNumbers ls (map f (take (i + 1) ws))
numbers_more f ws i d ks ls h e s q k =
    let g : map f (take (i + 1) ws) ≡ map f (take i ws) ++ f d ∷ [] = ap (map f) (take_more ws i d h) ∙ map-append f (take i ws) (get_or ws i d ∷ []) ∙ ap (λ (w : Written). map f (take i ws) ++ f w ∷ []) (sym e) in
    insert_numbers (f d) ks ls q k ∙ ap (λ b. nat_eq k (f d) || b) (s k) ∙ sym (is_in_push k (f d) (map f (take i ws))) ∙ ap (is_in k) (sym g)

any_there : {A : Type 0} (f : A → Bool) (xs : List A) (k : ℕ) (x : A) → slice_get xs k ≡ Some x → f x ≡ true → list_any f xs ≡ true
any_there f [] k x g h = cc
any_there f (y ∷ ys) zero x g h = let e : y ≡ x = cc in let i : f y ≡ true = ap f e ∙ h in rw i refl
any_there f (y ∷ ys) (suc k) x g h = or_right (f y) (list_any f ys) (any_there f ys k x g h) where
  or_right : (a b : Bool) → b ≡ true → (a || b) ≡ true
  or_right true b h = refl
  or_right false b h = h

any_append : {A : Type 0} (f : A → Bool) (xs ys : List A) → list_any f (xs ++ ys) ≡ (list_any f xs || list_any f ys)
any_append f [] ys = refl
any_append f (x ∷ xs) ys = ap (λ b. f x || b) (any_append f xs ys) ∙ or_or (f x) (list_any f xs) (list_any f ys) where
  or_or : (a b c : Bool) → (a || (b || c)) ≡ ((a || b) || c)
  or_or true b c = refl
  or_or false b c = refl

pub param_there : (f : ℕ → ℕ → Option Signature) (m : ℕ) (xs : List TypeExpr) (k n : ℕ) (args : _) (b : Bool) → slice_get xs k ≡ Some (named_ty n args) → b ≡ gives_param (f n m) → b ≡ true → true ≡ list_any (param_at f m) xs
param_there f m xs k n args b g e h = sym (any_there (param_at f m) xs k (named_ty n args) g (sym e ∙ h))

take_all : {A : Type 0} (xs : List A) (k : ℕ) → length xs ≤ k → take k xs ≡ xs
take_all [] zero l = refl
take_all [] (suc k) l = refl
take_all (x ∷ xs) zero l = absurd (omega (arith, l))
take_all (x ∷ xs) (suc k) l = ap (λ ys. x ∷ ys) (take_all xs k (omega (arith, l)))

-- all types of the list were looked at
pub param_none : (f : ℕ → ℕ → Option Signature) (m : ℕ) (xs : List TypeExpr) (k : ℕ) → length xs ≤ k → list_any (param_at f m) (take k xs) ≡ false → false ≡ list_any (param_at f m) xs
param_none f m xs k l h = sym (ap (list_any (param_at f m)) (sym (take_all xs k l)) ∙ h)

pub param_more : (f : ℕ → ℕ → Option Signature) (m : ℕ) (xs : List TypeExpr) (k n : ℕ) (args : _) (b : Bool) → slice_get xs k ≡ Some (named_ty n args) → b ≡ gives_param (f n m) → b ≡ false → list_any (param_at f m) (take k xs) ≡ false → list_any (param_at f m) (take (k + 1) xs) ≡ false
param_more f m xs k n args b g e h i =
    let p : gives_param (f n m) ≡ false = sym e ∙ h in
    ap (list_any (param_at f m)) (take_next xs k (named_ty n args) g) ∙ any_append (param_at f m) (take k xs) (named_ty n args ∷ []) ∙ rw (i, p) refl

all_append : {A : Type 0} (f : A → Bool) (xs ys : List A) → list_all f (xs ++ ys) ≡ (list_all f xs && list_all f ys)
all_append f [] ys = refl
all_append f (x ∷ xs) ys = ap (λ b. f x && b) (all_append f xs ys) ∙ and_and (f x) (list_all f xs) (list_all f ys) where
  and_and : (a b c : Bool) → (a && (b && c)) ≡ ((a && b) && c)
  and_and true b c = refl
  and_and false b c = refl

and_false : (a b : Bool) → b ≡ false → (a && b) ≡ false
and_false true b h = h
and_false false b h = refl

resolved_append : (xs ys : List SuperRef) → resolved (xs ++ ys) ≡ resolved xs ++ resolved ys
resolved_append [] ys = refl
resolved_append (x ∷ xs) ys = ap (λ ts. types_meant x.meaning ++ ts) (resolved_append xs ys) ∙ sym (append_assoc (types_meant x.meaning) (resolved xs) (resolved ys))

append_none : {A : Type 0} (xs : List A) → xs ++ [] ≡ xs
append_none [] = refl
append_none (x ∷ xs) = ap (λ ys. x ∷ ys) (append_none xs)

pub resolved_more : (ms : List Supertype) (i : ℕ) (d : Supertype) → i < length ms → d ≡ get_or ms i d → resolved (map super_of (take (i + 1) ms)) ≡ resolved (map super_of (take i ms)) ++ types_meant (meant_of d.meaning)
resolved_more ms i d h e =
    ap (λ ts. resolved (map super_of ts)) (take_more ms i d h)
    ∙ ap resolved (map-append super_of (take i ms) (get_or ms i d ∷ []))
    ∙ resolved_append (map super_of (take i ms)) (super_of (get_or ms i d) ∷ [])
    ∙ ap (λ ts. resolved (map super_of (take i ms)) ++ ts) (append_none (types_meant (meant_of (get_or ms i d).meaning)))
    ∙ ap (λ (s : Supertype). resolved (map super_of (take i ms)) ++ types_meant (meant_of s.meaning)) (sym e)

resolved_split : (ms : List Supertype) (i : ℕ) → resolved (map super_of ms) ≡ resolved (map super_of (take i ms)) ++ resolved (map super_of (drop i ms))
resolved_split ms i = ap (λ ts. resolved (map super_of ts)) (sym (take-append-drop i ms)) ∙ ap resolved (map-append super_of (take i ms) (drop i ms)) ∙ resolved_append (map super_of (take i ms)) (map super_of (drop i ms))

pub members_more : (g : TypeExpr → Bool) (ms : List Supertype) (i : ℕ) (d : Supertype) (b : Bool) → i < length ms → d ≡ get_or ms i d → b ≡ list_all g (types_meant (meant_of d.meaning)) → b ≡ true → list_all g (resolved (map super_of (take i ms))) ≡ true → list_all g (resolved (map super_of (take (i + 1) ms))) ≡ true
members_more g ms i d b h e q t r =
    let p : list_all g (types_meant (meant_of d.meaning)) ≡ true = sym q ∙ t in
    ap (list_all g) (resolved_more ms i d h e) ∙ all_append g (resolved (map super_of (take i ms))) (types_meant (meant_of d.meaning)) ∙ rw (r, p) refl

pub members_false : (g : TypeExpr → Bool) (ms : List Supertype) (i : ℕ) (d : Supertype) (b : Bool) → i < length ms → d ≡ get_or ms i d → b ≡ list_all g (types_meant (meant_of d.meaning)) → b ≡ false → false ≡ list_all g (resolved (map super_of ms))
members_false g ms i d b h e q t =
    let p : list_all g (types_meant (meant_of d.meaning)) ≡ false = sym q ∙ t in
    let s : list_all g (resolved (map super_of (take (i + 1) ms))) ≡ false = ap (list_all g) (resolved_more ms i d h e) ∙ all_append g (resolved (map super_of (take i ms))) (types_meant (meant_of d.meaning)) ∙ and_false (list_all g (resolved (map super_of (take i ms)))) (list_all g (types_meant (meant_of d.meaning))) p in
    sym (ap (list_all g) (resolved_split ms (i + 1)) ∙ all_append g (resolved (map super_of (take (i + 1) ms))) (resolved (map super_of (drop (i + 1) ms))) ∙ rw s refl)

all_there : {A : Type 0} (f : A → Bool) (xs : List A) (k : ℕ) (x : A) → slice_get xs k ≡ Some x → f x ≡ false → list_all f xs ≡ false
all_there f [] k x g h = cc
all_there f (y ∷ ys) zero x g h = let e : y ≡ x = cc in let i : f y ≡ false = ap f e ∙ h in rw i refl
all_there f (y ∷ ys) (suc k) x g h = and_false (f y) (list_all f ys) (all_there f ys k x g h)

sig_there : (args : List TypeExpr) (ss : List Sig) (i : ℕ) (d : Sig) → i < length ss → d ≡ get_or ss i d → slice_get (map (subst_sig args) (map sig_of ss)) i ≡ Some (subst_sig args (sig_of d))
sig_there args [] i d h e = absurd (omega (arith, h))
sig_there args (s ∷ ss) zero d h e = ap (λ (x : Sig). Some (subst_sig args (sig_of x))) (sym e)
sig_there args (s ∷ ss) (suc i) d h e = sig_there args ss i d (omega (arith, h)) e

pub sigs_false : (g : Signature → Bool) (args : List TypeExpr) (ss : List Sig) (i : ℕ) (d : Sig) (s : Signature) (b : Bool) → i < length ss → d ≡ get_or ss i d → s ≡ subst_sig args (sig_of d) → b ≡ g s → b ≡ false → false ≡ list_all g (map (subst_sig args) (map sig_of ss))
sigs_false g args ss i d s b h e q r t = sym (all_there g (map (subst_sig args) (map sig_of ss)) i (subst_sig args (sig_of d)) (sig_there args ss i d h e) (ap g (sym q) ∙ sym r ∙ t))

and_true : (b : Bool) → (b && true) ≡ b
and_true true = refl
and_true false = refl

pub fits_some : (up : ℕ → List TypeExpr) (f : ℕ → ℕ → Option Signature) (s t u : Signature) (m : Meaning) (n : ℕ) (args : TyList) (r : Bool) → m ≡ Whole n args → Some t ≡ f n s.method → u ≡ subst_sig (list_of (tys_of args)) t → r ≡ conforms_test up f n s u → r ≡ fits_all up f s (types_meant (meant_of m))
fits_some up f s t u m n args r e g h i =
    rw e (i ∙ ap (conforms_test up f n s) h ∙ ap (λ o. fits_found up f n s (option_map (subst_sig (list_of (tys_of args))) o)) g ∙ sym (and_true (fits_found up f n s (option_map (subst_sig (list_of (tys_of args))) (f n s.method)))))

pub written_next : (up : ℕ → List TypeExpr) (f : ℕ → ℕ → Option Signature) (e : Declaration) (ws : List Written) (i : ℕ) (d : Written) (fits : Bool) (mid new total : Option Failure) → i < length ws → d ≡ get_or ws i d
    → lowest mid (written_failures up f e (map written_of (drop i ws))) ≡ total → new ≡ lowest mid (unless fits 8 (place e.place.text d.at)) → fits ≡ fits_all up f (sig_of d.sig) (resolved e.supertypes)
    → lowest new (written_failures up f e (map written_of (drop (i + 1) ws))) ≡ total
written_next up f e ws i d fits mid new total h q inv a b =
    let o : i + 1 ≡ suc i = omega arith in
    let c : drop i ws ≡ d ∷ drop (i + 1) ws = drop-cons ws i d h ∙ ap (λ (x : Written). x ∷ drop (suc i) ws) (sym q) ∙ ap (λ k. d ∷ drop k ws) (sym o) in
    ap (λ o. lowest o (written_failures up f e (map written_of (drop (i + 1) ws)))) (a ∙ ap (λ b. lowest mid (unless b 8 (place e.place.text d.at))) b)
    ∙ sym (lowest_append mid (unless (fits_all up f (sig_of d.sig) (resolved e.supertypes)) 8 (place e.place.text d.at)) (written_failures up f e (map written_of (drop (i + 1) ws))))
    ∙ ap (λ ts. lowest mid (written_failures up f e (map written_of ts))) (sym c)
    ∙ inv

agrees_same : (es : List (ℕ × Vec Sig)) (xs ys : List ℕ) (own : ℕ → Option Signature) → SameNumbers xs ys → (ts : List TypeExpr) → agrees_all es xs own ts ≡ agrees_all es ys own ts
agrees_same es xs ys own h [] = refl
agrees_same es xs ys own h (t ∷ ts) = rw (type_same t, agrees_same es xs ys own h ts) refl where
  sigs_same : (ss : List Signature) → list_all (agrees_sig xs own) ss ≡ list_all (agrees_sig ys own) ss
  sigs_same [] = refl
  sigs_same (s ∷ ss) = rw (ap (λ b. b || agrees_found (own s.method) s) (h s.method), sigs_same ss) refl

  type_same : (t : TypeExpr) → agrees_type es xs own t ≡ agrees_type es ys own t
  type_same int_ty = refl
  type_same bool_ty = refl
  type_same text_ty = refl
  type_same (array_ty t) = refl
  type_same (named_ty n args) = sigs_same (map (subst_sig (list_of args)) (methods_in es n))
  type_same (param_ty k) = refl

methods_same : (ws : List Written) → map (λ (w : Written). w.sig.method) ws ≡ map (λ (w : WrittenSig). w.sig.method) (map written_of ws)
methods_same [] = refl
methods_same (w ∷ ws) = ap (λ ns. w.sig.method ∷ ns) (methods_same ws)

pub type_judged : (up : ℕ → List TypeExpr) (es : List (ℕ × Vec Sig)) (n : ℕ) (def : TypeDef) (ks : List ℕ) (agrees : Bool) (old mid new : Option Failure) (ws : List Written) (ss : List Supertype) → ws ≡ def.methods.items → ss ≡ def.supertypes.items
    → mid ≡ lowest old (written_failures up (method_in es) (named_decl n def) (map written_of def.methods.items)) → SameNumbers ks (map (λ (w : Written). w.sig.method) ws) → agrees ≡ agrees_all es ks (method_in es n) (resolved (map super_of ss)) → new ≡ lowest mid (unless agrees 8 def.place)
    → new ≡ lowest old (def_failures up es (named_decl n def))
type_judged up es n def ks agrees old mid new ws ss we se a b c d =
    let N = map (λ (w : WrittenSig). w.sig.method) (map written_of def.methods.items) in
    let T = resolved (map super_of def.supertypes.items) in
    let m : SameNumbers ks N = λ k. b k ∙ ap (λ ws. is_in k (map (λ (w : Written). w.sig.method) ws)) we ∙ ap (is_in k) (methods_same def.methods.items) in
    let e : agrees ≡ agrees_all es N (method_in es n) T = c ∙ ap (λ ss. agrees_all es ks (method_in es n) (resolved (map super_of ss))) se ∙ agrees_same es ks N (method_in es n) m T in
    d ∙ ap (λ b. lowest mid (unless b 8 def.place)) e ∙ ap (λ o. lowest o (unless (agrees_all es N (method_in es n) T) 8 def.place)) a
    ∙ sym (lowest_append old (written_failures up (method_in es) (named_decl n def) (map written_of def.methods.items)) (unless (agrees_all es N (method_in es n) T) 8 def.place))

drop_next : {A : Type 0} (xs : List A) (k : ℕ) (x : A) → slice_get xs k ≡ Some x → drop k xs ≡ x ∷ drop (k + 1) xs
drop_next [] k x h = cc
drop_next (y ∷ ys) zero x h = let e : y ≡ x = cc in ap (λ z. z ∷ ys) e
drop_next (y ∷ ys) (suc k) x h = let o : suc k + 1 ≡ suc (k + 1) = omega arith in rw o (drop_next ys k x h)

pub all_next : (up : ℕ → List TypeExpr) (es : List (ℕ × Vec Sig)) (ds : List Declaration) (k : ℕ) (d : Declaration) (mid new total : Option Failure) → slice_get ds k ≡ Some d → lowest mid (all_failures up es (drop k ds)) ≡ total → new ≡ lowest mid (def_failures up es d) → lowest new (all_failures up es (drop (k + 1) ds)) ≡ total
all_next up es ds k d mid new total g inv a =
    ap (λ o. lowest o (all_failures up es (drop (k + 1) ds))) a
    ∙ sym (lowest_append mid (def_failures up es d) (all_failures up es (drop (k + 1) ds)))
    ∙ ap (λ ts. lowest mid (all_failures up es ts)) (sym (drop_next ds k d g))
    ∙ inv
