-- Where the operations of a form stand, and which handlers cover them.
use Rattle.std.proofs.Common.{◌≡◌, ℕ, suc, ◌+◌, ◌<◌, ◌≤◌, true, false, List, [], ◌∷◌, ◌++◌, length, Option, Some, None, refl, ap, ◌∙◌, subst, arith, length-append, add-one}
use Rattle.std.specs.Prelude.{slice_get, nat_lt, if◌then◌else◌}
use Rattle.std.proofs.lemmas.Bool.{le-ltb, lt-ltb}
use Rattle.th_meaning.specs.Trees.{SupplyTree, by_primitive, by_method, passed, Variable, CastTree, ExprTree, number_expr, truth_expr, literal_expr, self_expr, local_expr, field_expr, negative_expr, arith_expr, compare_expr, same_expr, not_expr, and_expr, or_expr, join_expr, letter_expr, extent_expr, element_expr, length_expr, cast_expr, call_expr, new_expr, new_array_expr, get_byte_expr, ExprTrees, no_expr, more_exprs, CallTree, routine_call, method_call, hidden_call, super_call, where_call, init_call, StmtTree, var_stmt, set_local_stmt, set_field_stmt, set_element_stmt, call_stmt, drop_stmt, if_stmt, while_stmt, for_stmt, break_stmt, return_stmt, return_value_stmt, yield_stmt, raise_stmt, raise_value_stmt, begin_stmt, put_byte_stmt, put_int_stmt, put_text_stmt, BodyTree, no_stmt, more_stmts, ElseTree, no_else, else_do, elseif_then, WhenTrees, no_when, more_whens}
use Rattle.th_meaning.specs.Program.{UnitSort, of_routine, of_method, of_init, name_of_type}
use Rattle.th_meaning.specs.Counts.{variable_nodes}
use Rattle.th_flat.specs.declared.op.FlatOp.{FlatOp}
use Rattle.th_flat.specs.declared.op.FlatOp.TheVariants.{OpBlock}
use Rattle.th_flat.specs.Configs.{cover_of, cover_upto, Stack, leaves_body}
use Rattle.th_lowering.specs.Sizes.{expr_size, operands_size, stmt_size, body_size, else_size, whens_size, block_size, may_cast_size}
use Rattle.th_lowering.specs.Site.{Site, cast_between, cast_code, may_cast_code, supply_op, supplies_code, where_op}
use Rattle.th_lowering.specs.Code.{call_op, drop_code, block_code, expr_code, exprs_code, operands_code, bind_code, stmt_code, body_code, else_code, whens_code}
use Rattle.th_lower_law.proofs.Onward.{StandsAt, stands_here, stands_rest, stands_first, stands_then}

-- operations that change nothing of the handlers at p
abbrev pub PassAll : ℕ → List FlatOp → Type 0
PassAll p [] = Unit {0}
PassAll p (op ∷ ops) = ((acc : Option ℕ) → cover_of (Some op) p acc ≡ acc) × PassAll p ops

pub record Passes (p : ℕ) (ops : List FlatOp) : Type 0 where
  pub all : PassAll p ops

pub none_pass : (p : ℕ) → Passes p []
none_pass p = record { all = tt }

pub one_passes : (p : ℕ) (op : FlatOp) (ops : List FlatOp) → ((acc : Option ℕ) → cover_of (Some op) p acc ≡ acc) → Passes p ops → Passes p (op ∷ ops)
one_passes p op ops h k = record { all = (h, k.all) }

pub both_pass : (p : ℕ) (xs ys : List FlatOp) → Passes p xs → Passes p ys → Passes p (xs ++ ys)
both_pass p [] ys h k = k
both_pass p (x ∷ xs) ys h k = record { all = (h.all.0, (both_pass p xs ys (record { all = h.all.1 }) k).all) }

pub cover_step : (ops : List FlatOp) (k p : ℕ) (op : FlatOp) → slice_get ops k ≡ Some op → cover_upto ops (k + 1) p ≡ cover_of (Some op) p (cover_upto ops k p)
cover_step ops k p op at = ap (λ m. cover_upto ops m p) (add-one k) ∙ ap (λ o. cover_of o p (cover_upto ops k p)) at

pub pass_part : (ops xs : List FlatOp) (lo hi p : ℕ) → lo + length xs ≡ hi → StandsAt ops lo xs → Passes p xs → cover_upto ops hi p ≡ cover_upto ops lo p
pass_part ops [] lo hi p e has pass = let q : hi ≡ lo = omega (arith, e) in ap (λ m. cover_upto ops m p) q
pass_part ops (x ∷ xs) lo hi p e has pass =
    pass_part ops xs (lo + 1) hi p (omega (arith, e)) (stands_rest ops lo x xs has) (record { all = pass.all.1 })
    ∙ cover_step ops lo p x (stands_here ops lo x xs has) ∙ pass.all.0 (cover_upto ops lo p)

pub block_passes : (h e p : ℕ) → e ≤ p → (acc : Option ℕ) → cover_of (Some (OpBlock h e)) p acc ≡ acc
block_passes h e p le acc = ap (λ t. if t then Some h else acc) (le-ltb p e le)

-- the operations stand from b on; labels up to hi, which is an operation, leave no loop body; the handlers around are at h, an
-- operation behind hi
pub record Placed (ops : List FlatOp) (held : Stack) (h : Option ℕ) (hi b : ℕ) (xs : List FlatOp) : Type 0 where
  pub stands : StandsAt ops b xs
  pub fits : b + length xs ≤ hi
  pub bound : hi < length ops
  pub inside : (l : ℕ) → b ≤ l → l ≤ hi → leaves_body l held ≡ false
  pub behind : (l : ℕ) → h ≡ Some l → hi ≤ l
  pub there : (l : ℕ) → h ≡ Some l → l < length ops
  pub outer : (p : ℕ) → b ≤ p → p < hi → cover_upto ops b p ≡ h

module _ (ops : List FlatOp) (held : Stack) (h : Option ℕ) (hi : ℕ) where
  abbrev pub At : ℕ → List FlatOp → Type 0
  At = Placed ops held h hi

  pub placed_front : (b : ℕ) (xs ys : List FlatOp) → At b (xs ++ ys) → At b xs
  placed_front b xs ys k =
      let f : b + length (xs ++ ys) ≤ hi = k.fits in
      record { stands = stands_first ops b xs ys k.stands; fits = omega (arith, f, length-append xs ys); bound = k.bound; inside = k.inside; behind = k.behind; there = k.there; outer = k.outer }

  pub placed_back : (b mid m : ℕ) (xs ys : List FlatOp) → length xs ≡ m → b + m ≡ mid → ((p : ℕ) → mid ≤ p → Passes p xs) → At b (xs ++ ys) → At mid ys
  placed_back b mid m xs ys len e pass k =
      let f : b + length (xs ++ ys) ≤ hi = k.fits in
      let at : b + length xs ≡ mid = omega (arith, len, e) in
      let lo : b ≤ mid = omega (arith, e) in
      record {
        stands = stands_then ops b mid xs ys at k.stands;
        fits = omega (arith, f, length-append xs ys, at);
        bound = k.bound;
        inside = λ l a c. k.inside l (omega (arith, lo, a)) c;
        behind = k.behind;
        there = k.there;
        outer = λ p a c. pass_part ops xs b mid p at (stands_first ops b xs ys k.stands) (pass p a) ∙ k.outer p (omega (arith, lo, a)) c;
      }

  pub placed_here : (b : ℕ) (x : FlatOp) (xs : List FlatOp) → At b (x ∷ xs) → slice_get ops b ≡ Some x
  placed_here b x xs k = stands_here ops b x xs k.stands

  pub placed_rest : (b : ℕ) (x : FlatOp) (xs : List FlatOp) → ((p : ℕ) (acc : Option ℕ) → cover_of (Some x) p acc ≡ acc) → At b (x ∷ xs) → At (b + 1) xs
  placed_rest b x xs pass k = placed_back b (b + 1) 1 (x ∷ []) xs refl refl (λ p a. one_passes p x [] (pass p) (none_pass p)) k

  pub placed_at : (b c : ℕ) (xs : List FlatOp) → b ≡ c → At b xs → At c xs
  placed_at b c xs e k = subst (λ m. At m xs) e k

  -- the handlers at the first operation
  pub covered : (b : ℕ) (x : FlatOp) (xs : List FlatOp) → At b (x ∷ xs) → cover_upto ops b b ≡ h
  covered b x xs k = let f : b + suc (length xs) ≤ hi = k.fits in k.outer b (omega arith) (omega (arith, f))

  -- a label within is an operation
  pub labelled : (b l : ℕ) (xs : List FlatOp) → l ≤ hi → At b xs → nat_lt l (length ops) ≡ true
  labelled b l xs le k = lt-ltb l (length ops) (omega (arith, le, k.bound))

calm : (p : ℕ) (op : FlatOp) → ((acc : Option ℕ) → cover_of (Some op) p acc ≡ acc) → Passes p (op ∷ [])
calm p op h = one_passes p op [] h (none_pass p)

cast_passes : (c : CastTree) (p : ℕ) → Passes p (cast_code c)
cast_passes c p = go (name_of_type c.from) (name_of_type c.to)
  where
    go : (from to : Option (List ℕ)) → Passes p (cast_between from to)
    go None to = none_pass p
    go (Some f) None = none_pass p
    go (Some f) (Some t) = calm p _ (λ acc. refl)

pub may_cast_passes : (c : Option CastTree) (p : ℕ) → Passes p (may_cast_code c)
may_cast_passes None p = none_pass p
may_cast_passes (Some c) p = cast_passes c p

module _ (s : Site) where
  pub where_passes : (t : UnitSort) (k p : ℕ) (acc : Option ℕ) → cover_of (Some (where_op t k)) p acc ≡ acc
  where_passes of_routine k p acc = refl
  where_passes (of_method c m) k p acc = refl
  where_passes (of_init c) k p acc = refl

  pub supply_passes : (x : SupplyTree) (b p : ℕ) (acc : Option ℕ) → cover_of (Some (supply_op s x b)) p acc ≡ acc
  supply_passes (by_primitive q) b p acc = refl
  supply_passes (by_method t m) b p acc = refl
  supply_passes (passed k) b p acc = where_passes s.sort k p acc

  pub supplies_pass : (xs : List SupplyTree) (b p : ℕ) → Passes p (supplies_code s xs b)
  supplies_pass [] b p = none_pass p
  supplies_pass (x ∷ xs) b p = one_passes p _ _ (supply_passes x b p) (supplies_pass xs (b + 1) p)

  pub call_passes : (c : CallTree) (f p : ℕ) (acc : Option ℕ) → cover_of (Some (call_op s c f)) p acc ≡ acc
  call_passes (routine_call u ts ss es) f p acc = refl
  call_passes (method_call t m e es) f p acc = refl
  call_passes (hidden_call c m es) f p acc = refl
  call_passes (super_call c m es) f p acc = refl
  call_passes (where_call k m e es) f p acc = refl
  call_passes (init_call c ts ss es) f p acc = refl

  drop_passes : (c : CallTree) (p : ℕ) → Passes p (drop_code c)
  drop_passes (routine_call u ts ss es) p = none_pass p
  drop_passes (method_call t m e es) p = none_pass p
  drop_passes (hidden_call c m es) p = none_pass p
  drop_passes (super_call c m es) p = none_pass p
  drop_passes (where_call k m e es) p = none_pass p
  drop_passes (init_call c ts ss es) p = calm p _ (λ acc. refl)

  pub bind_passes : (v : Option Variable) (p : ℕ) → Passes p (bind_code s v)
  bind_passes None p = none_pass p
  bind_passes (Some v) p = calm p _ (λ acc. refl)

  -- the code of two expressions and an operation
  two : (p : ℕ) (xs ys : List FlatOp) (op : FlatOp) → ((acc : Option ℕ) → cover_of (Some op) p acc ≡ acc) → Passes p xs → Passes p ys → Passes p (xs ++ (ys ++ op ∷ []))
  two p xs ys op h k l = both_pass p xs (ys ++ op ∷ []) k (both_pass p ys (op ∷ []) l (calm p op h))

  mutual
    pub expr_passes : (e : ExprTree) (b p : ℕ) → Passes p (expr_code s e b)
    expr_passes (number_expr n) b p = calm p _ (λ acc. refl)
    expr_passes (truth_expr x) b p = calm p _ (λ acc. refl)
    expr_passes (literal_expr bytes) b p = calm p _ (λ acc. refl)
    expr_passes self_expr b p = calm p _ (λ acc. refl)
    expr_passes (local_expr k) b p = calm p _ (λ acc. refl)
    expr_passes (field_expr c f) b p = calm p _ (λ acc. refl)
    expr_passes (negative_expr a) b p = both_pass p _ _ (expr_passes a b p) (calm p _ (λ acc. refl))
    expr_passes (arith_expr op x y) b p = two p _ _ _ (λ acc. refl) (expr_passes x b p) (expr_passes y (b + expr_size x) p)
    expr_passes (compare_expr op x y) b p = two p _ _ _ (λ acc. refl) (expr_passes x b p) (expr_passes y (b + expr_size x) p)
    expr_passes (same_expr x y) b p = two p _ _ _ (λ acc. refl) (expr_passes x b p) (expr_passes y (b + expr_size x) p)
    expr_passes (not_expr a) b p = both_pass p _ _ (expr_passes a b p) (one_passes p _ _ (λ acc. refl) (one_passes p _ _ (λ acc. refl) (one_passes p _ _ (λ acc. refl) (calm p _ (λ acc. refl)))))
    expr_passes (and_expr x y) b p = both_pass p _ _ (expr_passes x b p) (one_passes p _ _ (λ acc. refl) (both_pass p _ _ (expr_passes y (b + expr_size x + 1) p) (one_passes p _ _ (λ acc. refl) (calm p _ (λ acc. refl)))))
    expr_passes (or_expr x y) b p = both_pass p _ _ (expr_passes x b p) (one_passes p _ _ (λ acc. refl) (one_passes p _ _ (λ acc. refl) (one_passes p _ _ (λ acc. refl) (expr_passes y (b + expr_size x + 3) p))))
    expr_passes (join_expr x y) b p = two p _ _ _ (λ acc. refl) (expr_passes x b p) (expr_passes y (b + expr_size x) p)
    expr_passes (letter_expr x y) b p = two p _ _ _ (λ acc. refl) (expr_passes x b p) (expr_passes y (b + expr_size x) p)
    expr_passes (extent_expr a) b p = both_pass p _ _ (expr_passes a b p) (calm p _ (λ acc. refl))
    expr_passes (element_expr x y) b p = two p _ _ _ (λ acc. refl) (expr_passes x b p) (expr_passes y (b + expr_size x) p)
    expr_passes (length_expr a) b p = both_pass p _ _ (expr_passes a b p) (calm p _ (λ acc. refl))
    expr_passes (cast_expr c a) b p = both_pass p _ _ (expr_passes a b p) (cast_passes c p)
    expr_passes (call_expr c) b p = both_pass p _ _ (operands_pass c b p) (calm p _ (call_passes c 1 p))
    expr_passes (new_expr c ts ss es) b p = one_passes p _ _ (λ acc. refl) (both_pass p _ _ (supplies_pass ss (b + 1) p) (both_pass p _ _ (exprs_pass es (b + 1 + length ss) p) (calm p _ (λ acc. refl))))
    expr_passes (new_array_expr t x y) b p = two p _ _ _ (λ acc. refl) (expr_passes x b p) (expr_passes y (b + expr_size x) p)
    expr_passes get_byte_expr b p = calm p _ (λ acc. refl)

    pub exprs_pass : (es : ExprTrees) (b p : ℕ) → Passes p (exprs_code s es b)
    exprs_pass no_expr b p = none_pass p
    exprs_pass (more_exprs e es) b p = both_pass p _ _ (expr_passes e b p) (exprs_pass es (b + expr_size e) p)

    pub operands_pass : (c : CallTree) (b p : ℕ) → Passes p (operands_code s c b)
    operands_pass (routine_call u ts ss es) b p = both_pass p _ _ (supplies_pass ss b p) (exprs_pass es (b + length ss) p)
    operands_pass (method_call t m e es) b p = both_pass p _ _ (expr_passes e b p) (one_passes p _ _ (λ acc. refl) (exprs_pass es (b + expr_size e + 1) p))
    operands_pass (hidden_call c m es) b p = one_passes p _ _ (λ acc. refl) (exprs_pass es (b + 1) p)
    operands_pass (super_call c m es) b p = one_passes p _ _ (λ acc. refl) (exprs_pass es (b + 1) p)
    operands_pass (where_call k m e es) b p = one_passes p _ _ (where_passes s.sort k p) (both_pass p _ _ (expr_passes e (b + 1) p) (exprs_pass es (b + 1 + expr_size e) p))
    operands_pass (init_call c ts ss es) b p = one_passes p _ _ (λ acc. refl) (both_pass p _ _ (supplies_pass ss (b + 1) p) (both_pass p _ _ (exprs_pass es (b + 1 + length ss) p) (calm p _ (λ acc. refl))))

  last : (p : ℕ) (xs : List FlatOp) (op : FlatOp) → ((acc : Option ℕ) → cover_of (Some op) p acc ≡ acc) → Passes p xs → Passes p (xs ++ op ∷ [])
  last p xs op h k = both_pass p xs (op ∷ []) k (calm p op h)

  block_code_passes : (ws : WhenTrees) (h e p : ℕ) → e ≤ p → Passes p (block_code ws h e)
  block_code_passes no_when h e p le = none_pass p
  block_code_passes (more_whens x v t ws) h e p le = calm p _ (block_passes h e p le)

  mutual
    -- behind a form its blocks don't count
    pub stmt_passes : (t : StmtTree) (b x p : ℕ) → b + stmt_size t ≤ p → Passes p (stmt_code s t b x)
    stmt_passes (var_stmt v e) b x p le = last p _ _ (λ acc. refl) (expr_passes e b p)
    stmt_passes (set_local_stmt k e) b x p le = last p _ _ (λ acc. refl) (expr_passes e b p)
    stmt_passes (set_field_stmt c f e) b x p le = last p _ _ (λ acc. refl) (expr_passes e b p)
    stmt_passes (set_element_stmt a i e) b x p le = both_pass p _ _ (expr_passes a b p) (two p _ _ _ (λ acc. refl) (expr_passes i (b + expr_size a) p) (expr_passes e (b + expr_size a + expr_size i) p))
    stmt_passes (call_stmt c) b x p le = both_pass p _ _ (operands_pass c b p) (one_passes p _ _ (call_passes c 0 p) (drop_passes c p))
    stmt_passes (drop_stmt c) b x p le = both_pass p _ _ (operands_pass c b p) (one_passes p _ _ (call_passes c 1 p) (calm p _ (λ acc. refl)))
    stmt_passes (if_stmt e t r) b x p le = both_pass p _ _ (expr_passes e b p) (one_passes p _ _ (λ acc. refl)
        (both_pass p _ _ (body_passes t (b + expr_size e + 1) x p (omega (arith, le))) (else_passes r (b + expr_size e + 1 + body_size t) x p (omega (arith, le)))))
    stmt_passes (while_stmt e t) b x p le = one_passes p _ _ (λ acc. refl) (one_passes p _ _ (λ acc. refl)
        (both_pass p _ _ (body_passes t (b + 2) (b + 2 + body_size t + expr_size e + 2) p (omega (arith, le))) (both_pass p _ _ (expr_passes e (b + 2 + body_size t) p) (one_passes p _ _ (λ acc. refl) (calm p _ (λ acc. refl))))))
    stmt_passes (for_stmt v k c t) b x p le = both_pass p _ _ (operands_pass c b p) (one_passes p _ _ (λ acc. refl) (one_passes p _ _ (call_passes c 0 p)
        (both_pass p _ _ (may_cast_passes k p) (one_passes p _ _ (λ acc. refl) (last p _ _ (λ acc. refl)
        (body_passes t (b + operands_size c + 2 + may_cast_size k + 1) (b + operands_size c + 2 + may_cast_size k + 1 + body_size t + 1) p (omega (arith, le))))))))
    stmt_passes break_stmt b x p le = calm p _ (λ acc. refl)
    stmt_passes return_stmt b x p le = calm p _ (λ acc. refl)
    stmt_passes (return_value_stmt e) b x p le = last p _ _ (λ acc. refl) (expr_passes e b p)
    stmt_passes (yield_stmt e) b x p le = last p _ _ (λ acc. refl) (expr_passes e b p)
    stmt_passes (raise_stmt y) b x p le = calm p _ (λ acc. refl)
    stmt_passes (raise_value_stmt y e) b x p le = last p _ _ (λ acc. refl) (expr_passes e b p)
    stmt_passes (begin_stmt t ws) b x p le = both_pass p _ _ (block_code_passes ws (b + block_size ws + body_size t + 1) (b + block_size ws + body_size t) p (omega (arith, le)))
        (both_pass p _ _ (body_passes t (b + block_size ws) x p (omega (arith, le))) (whens_pass ws (b + block_size ws + body_size t) x p (omega (arith, le))))
    stmt_passes (put_byte_stmt e) b x p le = last p _ _ (λ acc. refl) (expr_passes e b p)
    stmt_passes (put_int_stmt e) b x p le = last p _ _ (λ acc. refl) (expr_passes e b p)
    stmt_passes (put_text_stmt e) b x p le = last p _ _ (λ acc. refl) (expr_passes e b p)

    pub body_passes : (t : BodyTree) (b x p : ℕ) → b + body_size t ≤ p → Passes p (body_code s t b x)
    body_passes no_stmt b x p le = none_pass p
    body_passes (more_stmts first rest) b x p le = both_pass p _ _ (stmt_passes first b x p (omega (arith, le))) (body_passes rest (b + stmt_size first) x p (omega (arith, le)))

    pub else_passes : (r : ElseTree) (b x p : ℕ) → b + else_size r ≤ p → Passes p (else_code s r b x)
    else_passes no_else b x p le = none_pass p
    else_passes (else_do t) b x p le = one_passes p _ _ (λ acc. refl) (body_passes t (b + 1) x p (omega (arith, le)))
    else_passes (elseif_then e t r) b x p le = one_passes p _ _ (λ acc. refl) (both_pass p _ _ (expr_passes e (b + 1) p) (one_passes p _ _ (λ acc. refl)
        (both_pass p _ _ (body_passes t (b + 1 + expr_size e + 1) x p (omega (arith, le))) (else_passes r (b + 1 + expr_size e + 1 + body_size t) x p (omega (arith, le))))))

    pub whens_pass : (ws : WhenTrees) (b x p : ℕ) → b + whens_size ws ≤ p → Passes p (whens_code s ws b x)
    whens_pass no_when b x p le = none_pass p
    whens_pass (more_whens y v t ws) b x p le = one_passes p _ _ (λ acc. refl) (one_passes p _ _ (λ acc. refl) (both_pass p _ _ (bind_passes v p)
        (both_pass p _ _ (body_passes t (b + 1 + 1 + variable_nodes v) x p (omega (arith, le))) (whens_pass ws (b + 1 + 1 + variable_nodes v + body_size t) x p (omega (arith, le))))))
