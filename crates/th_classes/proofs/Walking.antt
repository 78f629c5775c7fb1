-- The walk from a class up.
use Rattle.std.proofs.Common.{◌≡◌, refl, sym, ap, ◌∙◌, subst, ℕ, zero, suc, ◌+◌, ◌-◌, ◌<◌, ◌≤◌, Bool, true, false, cond, List, [], ◌∷◌, length, Option, Some, None, option_map, is_some, slice_get, bytes_eq, arith}
use Rattle.std.specs.List.{find}
use Rattle.std.specs.HashMap.{get_by}
use denote.Ref.{Bor}
use Rattle.th_meaning.specs.Program.{ProgramClass, Program, classes_of, class_named, method_name, inherited_name, above, class_and_above, chain_within, chain, has_body, walk}
use Rattle.th_units.specs.Units.{unit_number}
use Rattle.th_units.proofs.Adding.{none_named, some_named}
use Rattle.th_classes.specs.declared.row.ClassRow.{ClassRow}
use Rattle.th_classes.specs.Numbers.{class_number, number_of, above_number, with_above, chain_from}
use Rattle.th_classes.specs.Rows.{IsClassRow, RowIs, body_in}

no_chain : (n : ℕ) (p : Program) → [] ≡ chain_from n p None
no_chain zero p = refl
no_chain (suc n) p = refl

above_same : (n : ℕ) (p : Program) (o : Option (List ℕ)) → ((q : List ℕ) → chain_within n p q ≡ chain_from n p (class_number p q)) → above o (chain_within n p) ≡ chain_from n p (number_of p o)
above_same n p None ih = no_chain n p
above_same n p (Some q) ih = ih q

chain_step : (n : ℕ) (p : Program) (name : List ℕ) (o : Option ℕ) → class_number p name ≡ o → ((q : List ℕ) → chain_within n p q ≡ chain_from n p (class_number p q))
    → class_and_above (class_named p name) (chain_within n p) ≡ chain_from (suc n) p o
chain_step n p name None h ih = ap (λ c. class_and_above c (chain_within n p)) (none_named (λ c. c.head.name) (classes_of p) name h)
chain_step n p name (Some k) h ih =
    let c : (c : ProgramClass) × (slice_get (classes_of p) k ≡ Some c) × (class_named p name ≡ Some c) = some_named (λ c. c.head.name) (classes_of p) name k h in
    ap (λ o. class_and_above o (chain_within n p)) c.2
    ∙ ap (λ cs. c.0 ∷ cs) (above_same n p (inherited_name c.0.head.inherits) ih)
    ∙ sym (ap (λ o. with_above o (λ d. chain_from n p (above_number p d))) c.1)

-- the chain of a name is that of its number
pub chain_numbers : (n : ℕ) (p : Program) (name : List ℕ) → chain_within n p name ≡ chain_from n p (class_number p name)
chain_numbers zero p name = refl
chain_numbers (suc n) p name = chain_step n p name (class_number p name) refl (λ q. chain_numbers n p q)

body_of_walk : (p : Program) (m : List ℕ) (o : Option ProgramClass) → option_map (λ c. unit_number p (method_name c.head.name m)) o ≡ option_map (unit_number p) (option_map (λ c. method_name c.head.name m) o)
body_of_walk p m None = refl
body_of_walk p m (Some c) = refl

-- the walk from a class without a number finds nothing
pub no_walk : (p : Program) (name m : List ℕ) → class_number p name ≡ None → None ≡ option_map (unit_number p) (walk p name m)
no_walk p name m h =
    let e : chain p name ≡ [] = chain_numbers (length (classes_of p)) p name ∙ ap (chain_from (length (classes_of p)) p) h ∙ sym (no_chain (length (classes_of p)) p) in
    sym (ap (λ cs. option_map (unit_number p) (option_map (λ c. method_name c.head.name m) (find (has_body m) cs))) e)

-- the walk from the class of a number
pub walk_from : (p : Program) (name m : List ℕ) (k : ℕ) → class_number p name ≡ Some k → body_in p m (chain_from (length (classes_of p)) p (Some k)) ≡ option_map (unit_number p) (walk p name m)
walk_from p name m k h =
    ap (λ o. body_in p m (chain_from (length (classes_of p)) p o)) (sym h)
    ∙ ap (body_in p m) (sym (chain_numbers (length (classes_of p)) p name))
    ∙ body_of_walk p m (find (has_body m) (chain p name))

no_class : (p : Program) (o : Option ProgramClass) → RowIs p None o → o ≡ None
no_class p None h = refl
no_class p (Some c) h = absurd h

a_class : (p : Program) (row : ClassRow) (o : Option ProgramClass) → RowIs p (Some row) o → (c : ProgramClass) × (o ≡ Some c) × IsClassRow p row c
a_class p row None h = absurd h
a_class p row (Some c) h = (c, refl, h)

-- no class of this number: nothing is found
pub walk_ends : (p : Program) (n k : ℕ) (m : List ℕ) → RowIs p None (slice_get (classes_of p) k) → body_in p m (chain_from (suc n) p (Some k)) ≡ None
walk_ends p n k m h = ap (λ o. body_in p m (with_above o (λ c. chain_from n p (above_number p c)))) (no_class p (slice_get (classes_of p) k) h)

-- what is found in the row of a class
pub found_row : (p : Program) (n k : ℕ) (m : List ℕ) (row : ClassRow) (found : Option (Option ℕ)) → RowIs p (Some row) (slice_get (classes_of p) k)
    → ((c : ProgramClass) → IsClassRow p row c → body_in p m (c ∷ chain_from n p (above_number p c)) ≡ found) → body_in p m (chain_from (suc n) p (Some k)) ≡ found
found_row p n k m row found h there =
    let c : (c : ProgramClass) × (slice_get (classes_of p) k ≡ Some c) × IsClassRow p row c = a_class p row (slice_get (classes_of p) k) h in
    ap (λ o. body_in p m (with_above o (λ d. chain_from n p (above_number p d)))) c.1 ∙ there c.0 c.2

has_it : (b : Bool) (w unit : Option ℕ) → Some unit ≡ cond b (Some w) None → (b ≡ true) × (unit ≡ w)
has_it true w unit h = (refl, cc)
has_it false w unit h = cc

has_none : (b : Bool) (w : Option ℕ) → None ≡ cond b (Some w) None → b ≡ false
has_none true w h = cc
has_none false w h = refl

-- a class with a body
pub body_here : (p : Program) (c : ProgramClass) (rest : List ProgramClass) (m : List ℕ) (row : ClassRow) (unit : Option ℕ) → IsClassRow p row c
    → get_by (λ q. bytes_eq m q.now) row.methods ≡ Some unit → body_in p m (c ∷ rest) ≡ Some unit
body_here p c rest m row unit is there =
    let b : (has_body m c ≡ true) × (unit ≡ unit_number p (method_name c.head.name m)) = has_it (has_body m c) (unit_number p (method_name c.head.name m)) unit (sym there ∙ is.methods m) in
    ap (λ x. option_map (λ d. unit_number p (method_name d.head.name m)) (cond x (Some c) (find (has_body m) rest))) b.0
    ∙ ap Some (sym b.1)

-- a class without
pub body_above : (p : Program) (c : ProgramClass) (n : ℕ) (m : List ℕ) (row : ClassRow) (above : Option ℕ) → IsClassRow p row c
    → get_by (λ q. bytes_eq m q.now) row.methods ≡ None → row.above ≡ above → body_in p m (c ∷ chain_from n p (above_number p c)) ≡ body_in p m (chain_from n p above)
body_above p c n m row above is there up =
    let b : has_body m c ≡ false = has_none (has_body m c) (unit_number p (method_name c.head.name m)) (sym there ∙ is.methods m) in
    ap (λ x. option_map (λ d. unit_number p (method_name d.head.name m)) (cond x (Some c) (find (has_body m) (chain_from n p (above_number p c))))) b
    ∙ ap (λ o. body_in p m (chain_from n p o)) (sym is.above ∙ up)

-- and none above it
pub body_nowhere : (p : Program) (c : ProgramClass) (n : ℕ) (m : List ℕ) (row : ClassRow) → IsClassRow p row c
    → get_by (λ q. bytes_eq m q.now) row.methods ≡ None → row.above ≡ None → body_in p m (c ∷ chain_from n p (above_number p c)) ≡ None
body_nowhere p c n m row is there up = body_above p c n m row None is there up ∙ ap (body_in p m) (sym (no_chain n p))

-- one class more of the walk
pub walk_step : (p : Program) (m : List ℕ) (all step at : ℕ) (o : Option (Option ℕ)) (end : ℕ) (found : ℕ → Option (Option ℕ)) → step < end → end ≡ all
    → o ≡ body_in p m (chain_from (all - step) p (Some at)) → ((n : ℕ) → body_in p m (chain_from (suc n) p (Some at)) ≡ found n) → o ≡ found (all - (step + 1))
walk_step p m all step at o end found below ends so there =
    let e : all - step ≡ suc (all - (step + 1)) = omega (arith, below, ends) in
    so ∙ ap (λ n. body_in p m (chain_from n p (Some at))) e ∙ there (all - (step + 1))

pub walk_begins : (p : Program) (m : List ℕ) (all classes class : ℕ) → all ≡ classes → body_in p m (chain_from classes p (Some class)) ≡ body_in p m (chain_from (all - 0) p (Some class))
walk_begins p m all classes class same = let e : classes ≡ all - 0 = omega (arith, same) in ap (λ n. body_in p m (chain_from n p (Some class))) e

-- the walk took as many steps as there are classes
pub walk_over : (p : Program) (m : List ℕ) (all step at : ℕ) (o : Option (Option ℕ)) → all ≤ step → o ≡ body_in p m (chain_from (all - step) p (Some at)) → None ≡ o
walk_over p m all step at o past so = let e : all - step ≡ 0 = omega (arith, past) in sym (so ∙ ap (λ n. body_in p m (chain_from n p (Some at))) e)
