-- What is said of the rest of a list, at its next item.
use Rattle.std.proofs.Common.{◌≡◌, ℕ, ◌+◌, ◌-◌, ◌<◌, zero, suc, Bool, true, false, List, [], ◌∷◌, ap, sym, subst, ◌∙◌, arith, refl}
use Rattle.std.specs.Prelude.{◌||◌, not}
use Rattle.th_meaning.specs.Program.{TypeDecl}
use Rattle.th_meaning.specs.Trees.{TypeTree, TypeTrees, int_type, bool_type, text_type, array_type, named_type, param_type}
use Rattle.th_meaning.specs.Weights.{type_list, substituted, argument_at}
use Rattle.th_lowering.specs.Homes.{MethodShape, shape_in, decl_named, shape_with, shape_within, above_for, home_within, name_given, same_name, differs, own_over, own_among}
use Rattle.th_homes.specs.Heads.{ShapeHead, head_of, head_name, head_through, shape_head, shape_through}
use Rattle.std.specs.Prelude.{Option, Some, None, option_map, is_some}
use Rattle.th_homes.specs.declared.types.Shape.{Shape}
use Rattle.th_homes.specs.View.{head_view, shape_view}

-- what a type begins with when arguments stand for its parameters
pub head_substituted : (args : List TypeTree) (t : TypeTree) → head_of (substituted args t) ≡ head_through args (head_of t)
head_substituted args int_type = refl
head_substituted args bool_type = refl
head_substituted args text_type = refl
head_substituted args (array_type t) = refl
head_substituted args (named_type n ts) = refl
head_substituted args (param_type k) = refl

pub shape_substituted : (args : List TypeTree) (s : MethodShape) → shape_head (shape_with args s) ≡ shape_through args (shape_head s)
shape_substituted args s = ap (λ g. record { formals = s.formals; gives = g }) (go s.gives)
  where
    go : (g : Option TypeTree) → option_map head_of (option_map (substituted args) g) ≡ option_map (head_through args) (option_map head_of g)
    go None = refl
    go (Some t) = ap Some (head_substituted args t)

pub or_true : (b : Bool) → (b || true) ≡ true
or_true true = refl
or_true false = refl

pub home_next : (types : List TypeDecl) (of m : List ℕ) (n : ℕ) → 0 < n
    → home_within n types of m ≡ elim (above_for types m (decl_named types of)) [ None ↦ of | Some above ↦ home_within (n - 1) types above m ]
home_next types of m n lt = let e : n ≡ suc (n - 1) = omega arith in ap (λ k. home_within k types of m) e

pub shapes_some : (r : Option Shape) (x : Option MethodShape) → option_map shape_view r ≡ option_map shape_head x → is_some r ≡ is_some x
shapes_some None None e = refl
shapes_some None (Some x) e = absurd (cc)
shapes_some (Some r) None e = absurd (cc)
shapes_some (Some r) (Some x) e = refl

given_name : (g : Option TypeTree) → head_name (option_map head_of g) ≡ name_given g
given_name None = refl
given_name (Some int_type) = refl
given_name (Some bool_type) = refl
given_name (Some text_type) = refl
given_name (Some (array_type t)) = refl
given_name (Some (named_type n ts)) = refl
given_name (Some (param_type k)) = refl

same_shape : {a b : ShapeHead} → Some a ≡ Some b → a ≡ b
same_shape e = cc

pub differs_of : (r : Shape) (x : Option MethodShape) (n : Option (List ℕ)) → Some (shape_view r) ≡ option_map shape_head x → differs x n ≡ not (same_name (head_name (option_map head_view r.gives)) n)
differs_of r None n e = absurd (cc)
differs_of r (Some s) n e = ap (λ g. not (same_name g n)) (sym (given_name s.gives) ∙ ap (λ (h : ShapeHead). head_name h.gives) (sym (same_shape e)))

pub own_of : (r : Shape) (x : Option MethodShape) (above : List (Option MethodShape)) → Some (shape_view r) ≡ option_map shape_head x → own_among x above ≡ own_over (head_name (option_map head_view r.gives)) above
own_of r None above e = absurd (cc)
own_of r (Some s) above e = ap (λ g. own_over g above) (sym (given_name s.gives) ∙ ap (λ (h : ShapeHead). head_name h.gives) (sym (same_shape e)))

-- a method of a declared type, from that which its declaration gives
pub shape_up : (steps : ℕ) (types : List TypeDecl) (name : List ℕ) (ts : TypeTrees) (m : List ℕ) (r : Option ShapeHead) → 0 < steps
    → r ≡ option_map shape_head (shape_in (decl_named types name) m (λ t. shape_within (steps - 1) types t m))
    → option_map (shape_through (type_list ts)) r ≡ option_map shape_head (shape_within steps types (named_type name ts) m)
shape_up zero types name ts m r lt e = absurd (omega (arith, lt))
shape_up (suc n) types name ts m r lt e =
    let q : suc n - 1 ≡ n = omega arith in
    let f = subst (λ k. r ≡ option_map shape_head (shape_in (decl_named types name) m (λ t. shape_within k types t m))) q e in
    ap (λ x. option_map (shape_through (type_list ts)) x) f ∙ go (shape_in (decl_named types name) m (λ t. shape_within n types t m))
  where
    go : (x : Option MethodShape) → option_map (shape_through (type_list ts)) (option_map shape_head x) ≡ option_map shape_head (option_map (shape_with (type_list ts)) x)
    go None = refl
    go (Some s) = ap Some (sym (shape_substituted (type_list ts) s))
