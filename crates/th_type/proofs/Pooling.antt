-- Types that are put into a pool with arguments in place of parameters.
use Rattle.std.proofs.Common.{◌≡◌, ◌∙◌, ℕ, zero, suc, ◌+◌, ◌-◌, ◌<◌, ◌≤◌, max, List, [], ◌∷◌, ◌++◌, length, drop, get_or, slice_get, Some, refl, ap, sym, subst, arith}
use Rattle.std.proofs.lemmas.Option.{slice_get-get_or}
use Rattle.th_type.specs.declared.pool.Shape.{Shape}
use Rattle.th_type.specs.declared.pool.Shape.TheVariants.{Int, Array, Named}
use Rattle.th_type.specs.declared.pool.Cell.{Cell}
use Rattle.th_type.specs.declared.pool.Cell.TheVariants.{Empty, More}
use Rattle.th_type.specs.Types.{TypeExpr, TypeExprs, array_ty, named_ty, no_ty, more_ty, list_of, subst_ty, subst_tys, ty_height, tys_height}
use Rattle.th_type.specs.Pool.{tys_at, first_of, shape_ty, shapes_before, shapes_tys, cell_tys, IsKept, IsNumbered, ShapeFits, AllFit, CellFits, Grows}
use Rattle.th_type.proofs.Pooled.{at_is, fit_at, shape_fits_grown, shape_grown, all_fit_grown, all_fit_more, shapes_grown, shapes_more, end_height, grows_on}

drop_shape : (ts : List TypeExprs) (ss : List Shape) (k : ℕ) (s : Shape) → slice_get ss k ≡ Some s → shapes_tys ts (drop k ss) ≡ more_ty (shape_ty ts s) (shapes_tys ts (drop (k + 1) ss))
drop_shape ts [] k s h = cc
drop_shape ts (x ∷ ss) zero s h = let e : x ≡ s = cc in ap (λ y. more_ty (shape_ty ts y) (shapes_tys ts ss)) e
drop_shape ts (x ∷ ss) (suc k) s h = let o : suc k + 1 ≡ suc (k + 1) = omega arith in rw o (drop_shape ts ss k s h)

drop_height : (ts : List TypeExprs) (ss : List Shape) (k : ℕ) → tys_height (shapes_tys ts (drop k ss)) ≤ tys_height (shapes_tys ts ss)
drop_height ts ss zero = omega arith
drop_height ts [] (suc k) = omega arith
drop_height ts (s ∷ ss) (suc k) = let l = drop_height ts ss k in grind (arith, l)

-- a list with one more type in front
longer_fits : (ts us : List TypeExprs) (ss : List Shape) (k : ℕ) (s : Shape) (list : ℕ) → Grows ts us → AllFit ts ss → slice_get ss k ≡ Some s → IsNumbered us list (shapes_tys ts (drop (k + 1) ss)) → CellFits us (More s list)
longer_fits ts us ss k s list g f h n = (shape_fits_grown ts us s g (fit_at ts ss k s f h), (shapes_tys ts (drop (k + 1) ss), n.0))

longer_is : (ts us : List TypeExprs) (ss : List Shape) (k : ℕ) (s : Shape) (list : ℕ) → Grows ts us → AllFit ts ss → slice_get ss k ≡ Some s → IsNumbered us list (shapes_tys ts (drop (k + 1) ss)) → cell_tys us (More s list) ≡ shapes_tys ts (drop k ss)
longer_is ts us ss k s list g f h n =
    ap (λ t. more_ty t (tys_at us list)) (shape_grown ts us s g (fit_at ts ss k s f h))
    ∙ ap (more_ty (shape_ty ts s)) (at_is us list (shapes_tys ts (drop (k + 1) ss)) n.0)
    ∙ sym (drop_shape ts ss k s h)

longer_high : (ts us : List TypeExprs) (ss : List Shape) (k : ℕ) (s : Shape) (list : ℕ) → Grows ts us → AllFit ts ss → slice_get ss k ≡ Some s → IsNumbered us list (shapes_tys ts (drop (k + 1) ss)) → 599 < tys_height (cell_tys us (More s list)) → 599 < tys_height (shapes_tys ts ss)
longer_high ts us ss k s list g f h n l =
    let a = subst (λ xs. 599 < tys_height xs) (longer_is ts us ss k s list g f h n) l in
    let b = drop_height ts ss k in
    omega (arith, a, b)

longer_numbered : (ts us vs : List TypeExprs) (ss : List Shape) (k : ℕ) (s : Shape) (list longer : ℕ) → Grows ts us → AllFit ts ss → slice_get ss k ≡ Some s → IsNumbered us list (shapes_tys ts (drop (k + 1) ss)) → IsNumbered vs longer (cell_tys us (More s list)) → IsNumbered vs longer (shapes_tys ts (drop k ss))
longer_numbered ts us vs ss k s list longer g f h n m = subst (IsNumbered vs longer) (longer_is ts us ss k s list g f h n) m

shape_there : (ss : List Shape) (left : ℕ) → 0 < left → left ≤ length ss → slice_get ss (left - 1) ≡ Some (get_or ss (left - 1) Int)
shape_there ss left p l = slice_get-get_or ss (left - 1) Int (omega (arith, p, l))

end_at : (ts us : List TypeExprs) (ss : List Shape) (left list : ℕ) → 0 < left → IsNumbered us list (shapes_tys ts (drop left ss)) → IsNumbered us list (shapes_tys ts (drop (left - 1 + 1) ss))
end_at ts us ss left list p n = let e : left ≡ left - 1 + 1 = omega (arith, p) in subst (λ k. IsNumbered us list (shapes_tys ts (drop k ss))) e n

-- a list from its end up to the place `left`, with the type in front of it
pub up_fits : (ts us : List TypeExprs) (ss : List Shape) (left list : ℕ) → Grows ts us → AllFit ts ss → 0 < left → left ≤ length ss → IsNumbered us list (shapes_tys ts (drop left ss)) → CellFits us (More (get_or ss (left - 1) Int) list)
up_fits ts us ss left list g f p l n = longer_fits ts us ss (left - 1) (get_or ss (left - 1) Int) list g f (shape_there ss left p l) (end_at ts us ss left list p n)

pub up_high : (ts us : List TypeExprs) (ss : List Shape) (left list : ℕ) → Grows ts us → AllFit ts ss → 0 < left → left ≤ length ss → IsNumbered us list (shapes_tys ts (drop left ss)) → 599 < tys_height (cell_tys us (More (get_or ss (left - 1) Int) list)) → 599 < tys_height (shapes_tys ts ss)
up_high ts us ss left list g f p l n h = longer_high ts us ss (left - 1) (get_or ss (left - 1) Int) list g f (shape_there ss left p l) (end_at ts us ss left list p n) h

pub up_numbered : (ts us vs : List TypeExprs) (ss : List Shape) (left list longer : ℕ) → Grows ts us → AllFit ts ss → 0 < left → left ≤ length ss → IsNumbered us list (shapes_tys ts (drop left ss)) → IsNumbered vs longer (cell_tys us (More (get_or ss (left - 1) Int) list)) → IsNumbered vs longer (shapes_tys ts (drop (left - 1) ss))
up_numbered ts us vs ss left list longer g f p l n m = longer_numbered ts us vs ss (left - 1) (get_or ss (left - 1) Int) list longer g f (shape_there ss left p l) (end_at ts us ss left list p n) m

-- the types of a list, one after another
pub next_are : (ts : List TypeExprs) (ss : List Shape) (first : Shape) (rest next : ℕ) (all : TypeExprs) → shapes_before ts ss (tys_at ts rest) ≡ all → cell_tys ts (More first next) ≡ tys_at ts rest → shapes_before ts (ss ++ first ∷ []) (tys_at ts next) ≡ all
next_are ts ss first rest next all h e = shapes_more ts ss first (tys_at ts next) ∙ ap (shapes_before ts ss) e ∙ h

pub next_shorter : (ts : List TypeExprs) (first : Shape) (rest next : ℕ) → cell_tys ts (More first next) ≡ tys_at ts rest → length (list_of (tys_at ts next)) < length (list_of (tys_at ts rest))
next_shorter ts first rest next e = rw (sym e) (omega arith)

pub none_are : (ts : List TypeExprs) (ss : List Shape) (rest : ℕ) (all : TypeExprs) → shapes_before ts ss (tys_at ts rest) ≡ all → no_ty ≡ tys_at ts rest → shapes_tys ts ss ≡ all
none_are ts ss rest all h e = ap (shapes_before ts ss) e ∙ h

-- an array of a type of the pool
pub array_fits : (ts us : List TypeExprs) (s : Shape) (list : ℕ) → IsNumbered us list (shapes_tys ts (s ∷ [])) → ShapeFits us (Array list)
array_fits ts us s list n = (shape_ty ts s, n.0)

pub array_is : (ts us : List TypeExprs) (s : Shape) (list : ℕ) (t : TypeExpr) → IsNumbered us list (shapes_tys ts (s ∷ [])) → shape_ty ts s ≡ t → shape_ty us (Array list) ≡ array_ty t
array_is ts us s list t n e = ap (λ xs. array_ty (first_of xs)) (at_is us list (shapes_tys ts (s ∷ [])) n.0) ∙ ap array_ty e

pub array_high : (ts : List TypeExprs) (s : Shape) (t : TypeExpr) → 599 < tys_height (shapes_tys ts (s ∷ [])) → shape_ty ts s ≡ t → 600 < ty_height (array_ty t)
array_high ts s t l e = let a : 599 < max (ty_height t) 0 = subst (λ u. 599 < max (ty_height u) 0) e l in grind (arith, a)

-- a declared type with arguments of the pool
pub named_fits : (us : List TypeExprs) (n list : ℕ) (xs : TypeExprs) → IsNumbered us list xs → ShapeFits us (Named n list)
named_fits us n list xs m = (xs, m.0)

pub named_is : (us : List TypeExprs) (n list : ℕ) (xs : TypeExprs) → IsNumbered us list xs → shape_ty us (Named n list) ≡ named_ty n xs
named_is us n list xs m = ap (named_ty n) (at_is us list xs m.0)

-- types of a list are put into the pool one after another; a are the arguments
pub record Putting (ts us : List TypeExprs) (args ss : List Shape) (rest all : TypeExprs) : Type 0 where
  pub grows : Grows ts us
  pub given : AllFit us args
  pub fit : AllFit us ss
  pub made : shapes_before us ss (subst_tys (list_of (shapes_tys ts args)) rest) ≡ subst_tys (list_of (shapes_tys ts args)) all

args_same : (ts us : List TypeExprs) (args : List Shape) → Grows ts us → AllFit ts args → list_of (shapes_tys us args) ≡ list_of (shapes_tys ts args)
args_same ts us args g f = ap list_of (shapes_grown ts us args no_ty g f)

pub putting_more : (ts us vs : List TypeExprs) (args ss : List Shape) (s : Shape) (first : TypeExpr) (next all : TypeExprs) → AllFit ts args → Putting ts us args ss (more_ty first next) all → Grows us vs → ShapeFits vs s
    → shape_ty vs s ≡ subst_ty (list_of (shapes_tys us args)) first → Putting ts vs args (ss ++ s ∷ []) next all
putting_more ts us vs args ss s first next all f p g h e =
    let a : list_of (shapes_tys us args) ≡ list_of (shapes_tys ts args) = args_same ts us args p.grows f in
    let b : shape_ty vs s ≡ subst_ty (list_of (shapes_tys ts args)) first = e ∙ ap (λ xs. subst_ty xs first) a in
    record {
      grows = grows_on ts us vs p.grows g;
      given = all_fit_grown us vs args g p.given;
      fit = all_fit_more vs ss s (all_fit_grown us vs ss g p.fit) h;
      made =
          shapes_more vs ss s (subst_tys (list_of (shapes_tys ts args)) next)
          ∙ shapes_grown us vs ss (more_ty (shape_ty vs s) (subst_tys (list_of (shapes_tys ts args)) next)) g p.fit
          ∙ ap (λ t. shapes_before us ss (more_ty t (subst_tys (list_of (shapes_tys ts args)) next))) b
          ∙ p.made;
    }

pub putting_high : (ts us : List TypeExprs) (args ss : List Shape) (first : TypeExpr) (next all : TypeExprs) → AllFit ts args → Putting ts us args ss (more_ty first next) all → 600 < ty_height (subst_ty (list_of (shapes_tys us args)) first) → 599 < tys_height (subst_tys (list_of (shapes_tys ts args)) all)
putting_high ts us args ss first next all f p l =
    let xs = list_of (shapes_tys ts args) in
    let a : list_of (shapes_tys us args) ≡ xs = args_same ts us args p.grows f in
    let b : 600 < ty_height (subst_ty xs first) = subst (λ ys. 600 < ty_height (subst_ty ys first)) a l in
    let c = end_height us ss (more_ty (subst_ty xs first) (subst_tys xs next)) in
    let d : tys_height (shapes_before us ss (subst_tys xs (more_ty first next))) ≡ tys_height (subst_tys xs all) = ap tys_height p.made in
    grind (arith, b, c, d)
