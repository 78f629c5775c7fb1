-- What results name, with arguments in place of parameters.
use Rattle.std.proofs.Common.{◌≡◌, ℕ, zero, suc, List, [], ◌∷◌, Bool, true, false, nat_eq, cond, refl, sym, ap, ◌∙◌, subst, Option, Some, None}
use Rattle.std.specs.Prelude.{option_map, option_and_then, slice_get}
use Rattle.std.specs.Map.{lookup}
use Rattle.th_type.specs.Lists.{or_else, is_in}
use Rattle.th_type.specs.Types.{TypeExpr, TypeExprs, int_ty, bool_ty, text_ty, array_ty, named_ty, param_ty, list_of, subst_ty, arg_at}
use Rattle.th_type.specs.Signatures.{Signature, subst_sig}
use Rattle.th_type.specs.Declarations.{DeclaredType}
use Rattle.th_type.specs.Subtypes.{head_of}
use Rattle.th_shape.specs.declared.results.Head.{Head}
use Rattle.th_shape.specs.declared.results.Head.TheVariants.{Declared, Param, Other}
use Rattle.th_shape.specs.Heads.{kind_of, result_kind, kind_at, apply_kind, declared_in}
use Rattle.th_shape.specs.Results.{picked}
use Rattle.th_views.specs.Shapes.{Shape, base_args}
use Rattle.th_shape.specs.Lines.{result_of, type_result, carried, sig_result, arrival, named_by}
use Rattle.th_shape.proofs.Steps.{or_none}

kind_arg : (args : List TypeExpr) (k place : ℕ) → kind_of (arg_at args k place) ≡ kind_at args k place
kind_arg [] k place = refl
kind_arg (t ∷ ts) zero place = refl
kind_arg (t ∷ ts) (suc k) place = kind_arg ts k place

pub kind_found : (args : List TypeExpr) (k place : ℕ) (t : TypeExpr) → slice_get args k ≡ Some t → kind_at args k place ≡ kind_of t
kind_found [] k place t e = absurd (cc)
kind_found (x ∷ xs) zero place t e = let z : x ≡ t = cc in ap kind_of z
kind_found (x ∷ xs) (suc k) place t e = kind_found xs k place t e

pub kind_missing : (args : List TypeExpr) (k place : ℕ) → slice_get args k ≡ None → kind_at args k place ≡ Param place
kind_missing [] k place e = refl
kind_missing (x ∷ xs) zero place e = absurd (cc)
kind_missing (x ∷ xs) (suc k) place e = kind_missing xs k place e

kind_subst : (args : List TypeExpr) (t : TypeExpr) → kind_of (subst_ty args t) ≡ apply_kind args (kind_of t)
kind_subst args int_ty = refl
kind_subst args bool_ty = refl
kind_subst args text_ty = refl
kind_subst args (array_ty t) = refl
kind_subst args (named_ty n ts) = refl
kind_subst args (param_ty k) = kind_arg args k k

pub result_subst : (args : List TypeExpr) (r : Option TypeExpr) → result_kind (option_map (subst_ty args) r) ≡ apply_kind args (result_kind r)
result_subst args None = refl
result_subst args (Some t) = kind_subst args t

pub apply_none : (h : Head) → apply_kind [] h ≡ h
apply_none (Declared n) = refl
apply_none (Param k) = refl
apply_none Other = refl

pub map_none : (o : Option Head) → option_map (apply_kind []) o ≡ o
map_none None = refl
map_none (Some h) = ap Some (apply_none h)

-- the result of a signature with arguments
result_applied : (args : List TypeExpr) (s : Signature) → result_of (subst_sig args s) ≡ option_map (subst_ty args) (result_of s)
result_applied args s = by s.iterator
  where
    by : (b : Bool) → cond b None (option_map (subst_ty args) s.gives) ≡ option_map (subst_ty args) (cond b None s.gives)
    by true = refl
    by false = refl

pub applied_found : (args : List TypeExpr) (o : Option Signature) → option_map (λ s. apply_kind args (result_kind (result_of s))) o ≡ option_map result_kind (option_map result_of (option_map (subst_sig args) o))
applied_found args None = refl
applied_found args (Some s) = ap Some (sym (ap result_kind (result_applied args s) ∙ result_subst args (result_of s)))

pub head_named : (r : Option (Option TypeExpr)) → option_and_then declared_in (option_map result_kind r) ≡ named_by r
head_named None = refl
head_named (Some None) = refl
head_named (Some (Some int_ty)) = refl
head_named (Some (Some bool_ty)) = refl
head_named (Some (Some text_ty)) = refl
head_named (Some (Some (array_ty t))) = refl
head_named (Some (Some (named_ty n ts))) = refl
head_named (Some (Some (param_ty k))) = refl

pub own_found : (o : Option Signature) → option_map (λ s. apply_kind [] (result_kind (result_of s))) o ≡ option_map result_kind (option_map result_of o)
own_found None = refl
own_found (Some s) = ap Some (apply_none (result_kind (result_of s)))

carried_kinds : (args : List TypeExpr) (o : Option (Option TypeExpr)) → option_map (apply_kind args) (option_map result_kind o) ≡ option_map result_kind (option_map (option_map (subst_ty args)) o)
carried_kinds args None = refl
carried_kinds args (Some r) = ap Some (sym (result_subst args r))

kinds_or : (a b : Option (Option TypeExpr)) → or_else (option_map result_kind a) (option_map result_kind b) ≡ option_map result_kind (or_else a b)
kinds_or None b = refl
kinds_or (Some x) b = refl

-- a class's signatures
pub sigs_made : (D : List DeclaredType) (s : Shape) (above : List Shape) (q : ℕ) (first up : Option Head) → first ≡ option_map result_kind (type_result D s.of q) → up ≡ option_map result_kind (sig_result D above q)
    → or_else first (option_map (apply_kind (base_args s)) up) ≡ option_map result_kind (sig_result D (s ∷ above) q)
sigs_made D s above q first up e f =
    ap (λ x. or_else x (option_map (apply_kind (base_args s)) up)) e ∙ ap (λ x. or_else (option_map result_kind (type_result D s.of q)) (option_map (apply_kind (base_args s)) x)) f
    ∙ ap (or_else (option_map result_kind (type_result D s.of q))) (carried_kinds (base_args s) (sig_result D above q))
    ∙ kinds_or (type_result D s.of q) (carried s (sig_result D above q))

pub sigs_alone : (D : List DeclaredType) (s : Shape) (q : ℕ) (first : Option Head) → first ≡ option_map result_kind (type_result D s.of q) → first ≡ option_map result_kind (sig_result D (s ∷ []) q)
sigs_alone D s q first e = e ∙ ap (option_map result_kind) (sym (or_none (type_result D s.of q)))

-- where no signature is, nothing arrives
none_carried : (s : Shape) (a b : Option (Option TypeExpr)) → or_else a (carried s b) ≡ None → b ≡ None
none_carried s None None e = refl
none_carried s None (Some r) e = absurd (cc)
none_carried s (Some x) b e = absurd (cc)

none_arrives : (D : List DeclaredType) (l : List Shape) (q : ℕ) → sig_result D l q ≡ None → arrival D l q ≡ None
none_arrives D [] q e = refl
none_arrives D (s ∷ above) q e = by (is_in q s.methods) (none_arrives D above q (none_carried s (type_result D s.of q) (sig_result D above q) e))
  where
    by : (b : Bool) → arrival D above q ≡ None → cond b (sig_result D (s ∷ above) q) (or_else (carried s (arrival D above q)) (sig_result D (s ∷ above) q)) ≡ None
    by true up = e
    by false up = ap (λ x. or_else (carried s x) (sig_result D (s ∷ above) q)) up ∙ e

-- what arrives
picked_some : (D : List DeclaredType) (s : Shape) (above : List Shape) (q : ℕ) (b : Bool) (sig : Option (Option TypeExpr)) → sig_result D (s ∷ above) q ≡ sig
    → or_else (or_else (cond b (option_map result_kind sig) None) (option_map result_kind (carried s (arrival D above q)))) (option_map result_kind sig)
    ≡ option_map result_kind (cond b sig (or_else (carried s (arrival D above q)) sig))
picked_some D s above q true None e = ap (λ x. or_else (option_map result_kind (carried s x)) None) (none_arrives D above q (none_carried s (type_result D s.of q) (sig_result D above q) e))
picked_some D s above q true (Some r) e = refl
picked_some D s above q false sig e = kinds_or (carried s (arrival D above q)) sig

pub arrives_made : (D : List DeclaredType) (s : Shape) (above : List Shape) (q : ℕ) (sig up : Option Head) → sig ≡ option_map result_kind (sig_result D (s ∷ above) q) → up ≡ option_map result_kind (arrival D above q)
    → or_else (or_else (picked s.methods sig q) (option_map (apply_kind (base_args s)) up)) sig ≡ option_map result_kind (arrival D (s ∷ above) q)
arrives_made D s above q sig up e f =
    ap (λ x. or_else (or_else (picked s.methods x q) (option_map (apply_kind (base_args s)) up)) x) e
    ∙ ap (λ x. or_else (or_else (picked s.methods (option_map result_kind (sig_result D (s ∷ above) q)) q) x) (option_map result_kind (sig_result D (s ∷ above) q)))
    (ap (option_map (apply_kind (base_args s))) f ∙ carried_kinds (base_args s) (arrival D above q))
    ∙ picked_some D s above q (is_in q s.methods) (sig_result D (s ∷ above) q) refl

pub arrives_alone : (D : List DeclaredType) (s : Shape) (q : ℕ) (sig : Option Head) → sig ≡ option_map result_kind (sig_result D (s ∷ []) q) → or_else (picked s.methods sig q) sig ≡ option_map result_kind (arrival D (s ∷ []) q)
arrives_alone D s q sig e = ap (λ x. or_else x sig) (sym (or_none (picked s.methods sig q))) ∙ arrives_made D s [] q sig None e refl
