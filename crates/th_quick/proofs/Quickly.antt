-- The machine comes to the values of short expressions.
use Rattle.std.proofs.Common.{◌≡◌, refl, sym, ap, ◌∙◌, subst, ℕ, ℤ, pos, Bool, set, Option, Some, None, IfSome}
use Rattle.th_meaning.specs.declared.expr.ArithOp.{ArithOp}
use Rattle.th_meaning.specs.declared.expr.CompareOp.{CompareOp}
use Rattle.th_meaning.specs.Trees.{ExprTree, StmtTree, BodyTree, number_expr, truth_expr, local_expr, arith_expr, compare_expr, more_stmts}
use Rattle.th_meaning.specs.Program.{Program}
use Rattle.th_meaning.specs.World.{World, Did, Unset}
use Rattle.th_meaning.specs.Meaning.{Value, Int, Truth, Frame, State, Gives, with_some, local_value, set_local, act_as, arith, compare}
use Rattle.th_steps.specs.Machine.{Loop, Rest, Machine, At, now_eval, now_value, now_body, then_right, then_binary, then_sink, then_stmts, to_local, of_arith, of_compare, on_value, steps}
use Rattle.th_steps.proofs.Follow.{Comes, here, first, on}
use Rattle.th_control.specs.Values.{bound_at}
use Rattle.th_quick.specs.Quick.{IsQuick, IsSum, IsTest}
use Rattle.th_quick.specs.Statements.{Binds, BodyGoes}

pub quick_number : (f : Frame) (n : ℕ) → IsQuick f (number_expr n) (Int (pos n))
quick_number f n p lp k st h = (1, refl)

pub quick_truth : (f : Frame) (b : Bool) → IsQuick f (truth_expr b) (Truth b)
quick_truth f b p lp k st h = (1, refl)

pub quick_local : (f : Frame) (x : ℕ) (v : Value) → Some v ≡ bound_at f.locals x → IsQuick f (local_expr x) v
quick_local f x v bound p lp k st h =
    let e : local_value x st ≡ Some v = ap (λ g. bound_at g.locals x) h ∙ sym bound in
    (1, ap (λ o. on_value (with_some o Unset st (λ a. Gives a st)) lp k) e)

comes_by : (f : Frame) (e : ExprTree) (v : Value) → IsQuick f e v → (p : Program) (lp : Loop) (k : Rest) (st : State) → st.frame ≡ f → Comes p (At (now_eval e) lp k st) (At (now_value v) lp k st)
comes_by f e v q p lp k st h = let c = q p lp k st h in record { count = c.0; is = c.1 }

same_comes : (p : Program) (c d : Machine) → c ≡ d → Comes p c d
same_comes p c d h = record { count = 0; is = h }

arith_comes : (f : Frame) (op : ArithOp) (a b : ExprTree) (x y z : ℤ) → IsQuick f a (Int x) → IsQuick f b (Int y) → ((w : World Value) → arith op x y w ≡ Did z w)
    → (p : Program) (lp : Loop) (k : Rest) (st : State) → st.frame ≡ f → Comes p (At (now_eval (arith_expr op a b)) lp k st) (At (now_value (Int z)) lp k st)
arith_comes f op a b x y z qa qb did p lp k st h =
    first (on (comes_by f a (Int x) qa p lp (then_right (of_arith op) b k) st h)
    (first (on (comes_by f b (Int y) qb p lp (then_binary (of_arith op) (Int x) k) st h)
    (first (same_comes p (on_value (act_as Int (arith op x y st.world) st) lp k) (At (now_value (Int z)) lp k st) (ap (λ e. on_value (act_as Int e st) lp k) (did st.world)))))))

compare_comes : (f : Frame) (op : CompareOp) (a b : ExprTree) (x y : ℤ) → IsQuick f a (Int x) → IsQuick f b (Int y)
    → (p : Program) (lp : Loop) (k : Rest) (st : State) → st.frame ≡ f → Comes p (At (now_eval (compare_expr op a b)) lp k st) (At (now_value (Truth (compare op x y))) lp k st)
compare_comes f op a b x y qa qb p lp k st h =
    first (on (comes_by f a (Int x) qa p lp (then_right (of_compare op) b k) st h)
    (first (on (comes_by f b (Int y) qb p lp (then_binary (of_compare op) (Int x) k) st h)
    (first here))))

there : {A : Type 0} → (P : A → Type 0) (o : Option A) (a : A) → o ≡ Some a → IfSome o P → P a
there P None a h k = let e : None ≡ Some a = h in absurd (cc)
there P (Some b) a h k = let e : Some b ≡ Some a = h in let g : b ≡ a = cc in subst P g k

-- an operator on two numbers
pub quick_sum : (f : Frame) (op : ArithOp) (a b : ExprTree) (x y : Option Value) (v : Value) → IfSome x (IsQuick f a) → IfSome y (IsQuick f b) → IsSum op x y v → IsQuick f (arith_expr op a b) v
quick_sum f op a b x y v qa qb sum p lp k st h =
    let c = arith_comes f op a b sum.x sum.y sum.z (there (IsQuick f a) x (Int sum.x) sum.first qa) (there (IsQuick f b) y (Int sum.y) sum.second qb) sum.did p lp k st h in
    (c.count, c.is ∙ ap (λ u. At (now_value u) lp k st) (sym sum.is))

-- a comparison of two numbers
pub quick_test : (f : Frame) (op : CompareOp) (a b : ExprTree) (x y : Option Value) (v : Value) → IfSome x (IsQuick f a) → IfSome y (IsQuick f b) → IsTest op x y v → IsQuick f (compare_expr op a b) v
quick_test f op a b x y v qa qb test p lp k st h =
    let c = compare_comes f op a b test.x test.y (there (IsQuick f a) x (Int test.x) test.first qa) (there (IsQuick f b) y (Int test.y) test.second qb) p lp k st h in
    (c.count, c.is ∙ ap (λ u. At (now_value u) lp k st) (sym test.is))

pub if_some_map : {A : Type 0} {P Q : A → Type 0} → (o : Option A) → ((a : A) → P a → Q a) → IfSome o P → IfSome o Q
if_some_map None f h = tt
if_some_map (Some a) f h = f a h

-- a statement that binds a local
pub binds_quickly : (f : Frame) (s : StmtTree) (others : BodyTree) (x : ℕ) (e : ExprTree) (v : Value) → Binds s x e → IsQuick f e v
    → BodyGoes f (more_stmts s others) (record { receiver = f.receiver; locals = set f.locals x (Some v) }) others
binds_quickly f s others x e v binds q p lp k st h =
    let c : Comes p (At (now_body (more_stmts s others)) lp k st) (At (now_body others) lp k (set_local x v st)) =
    first (first (on (same_comes p _ (At (now_eval e) lp (then_sink (to_local x) (then_stmts others k)) st) (binds p lp (then_stmts others k) st))
    (on (comes_by f e v q p lp (then_sink (to_local x) (then_stmts others k)) st h) (first (first here))))) in
    (c.count, c.is ∙ ap (λ g. At (now_body others) lp k (record st { frame = record { receiver = g.receiver; locals = set g.locals x (Some v) } })) h)

-- the same in a control
pub binds_in : (f g : Frame) (b : BodyTree) (s : StmtTree) (others : BodyTree) (x : ℕ) (e : ExprTree) (v : Value) → b ≡ more_stmts s others → Binds s x e → IsQuick f e v
    → g ≡ record { receiver = f.receiver; locals = set f.locals x (Some v) } → BodyGoes f b g others
binds_in f g b s others x e v is binds q bound p lp k st h =
    let c = binds_quickly f s others x e v binds q p lp k st h in
    (c.0, ap (λ t. steps p c.0 (At (now_body t) lp k st)) is ∙ c.1 ∙ ap (λ y. At (now_body others) lp k (record st { frame = y })) (sym bound))
