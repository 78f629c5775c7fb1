-- Each way of a lowered unit goes on to an operation ahead, or to a turn.
use Rattle.std.proofs.Common.{◌≡◌, ℕ, zero, suc, ◌+◌, ◌<◌, ◌≤◌, Bool, true, false, List, [], ◌∷◌, ◌++◌, length, Option, Some, None, refl, sym, ap, ◌∙◌, subst, ◌⊎◌, ⊎_elim, inl, inr, arith, length-append, append_assoc, add-one}
use Rattle.std.specs.Prelude.{slice_get, nat_eq, nat_lt, if◌then◌else◌}
use Rattle.std.proofs.lemmas.Bool.{ltb-true, eq-eqb}
use Rattle.std.proofs.Math.Seq.{get_or-append_seam}
use Rattle.std.proofs.lemmas.Option.{slice_get-get_or}
use Rattle.th_meaning.specs.Trees.{SupplyTree, by_primitive, by_method, passed, Variable, CastTree, ExprTree, number_expr, truth_expr, literal_expr, self_expr, local_expr, field_expr, negative_expr, arith_expr, compare_expr, same_expr, not_expr, and_expr, or_expr, join_expr, letter_expr, extent_expr, element_expr, length_expr, cast_expr, call_expr, new_expr, new_array_expr, get_byte_expr, ExprTrees, no_expr, more_exprs, CallTree, routine_call, method_call, hidden_call, super_call, where_call, init_call, StmtTree, var_stmt, set_local_stmt, set_field_stmt, set_element_stmt, call_stmt, drop_stmt, if_stmt, while_stmt, for_stmt, break_stmt, return_stmt, return_value_stmt, yield_stmt, raise_stmt, raise_value_stmt, begin_stmt, put_byte_stmt, put_int_stmt, put_text_stmt, BodyTree, no_stmt, more_stmts, ElseTree, no_else, else_do, elseif_then, WhenTrees, no_when, more_whens}
use Rattle.th_meaning.specs.Program.{UnitSort, of_routine, of_method, of_init, ProgramUnit, TypeDecl, name_of_type, init_name}
use Rattle.th_meaning.specs.Counts.{variable_nodes}
use Rattle.th_flat.specs.declared.op.FlatOp.{FlatOp}
use Rattle.th_flat.specs.declared.op.FlatOp.TheVariants.{OpWord, OpLocal, OpSet, OpDrop, OpArith, OpCompare, OpSame, OpGo, OpUnless, OpCast, OpOwn, OpField, OpSetfield, OpCall, OpDispatch, OpHidden, OpSupply, OpNew, OpArray, OpAt, OpSetat, OpLength, OpPutbyte, OpPutint, OpGet, OpUnitword, OpRaise, OpReturn, OpTurn, OpText, OpAppend, OpLetter, OpExtent, OpPuttext, OpBlock, OpHandle, OpOver, OpNext, OpResume}
use Rattle.th_flat.specs.declared.module.FlatUnit.{FlatUnit}
use Rattle.th_flat.specs.Effects.{shape_of}
use Rattle.th_flat.specs.Configs.{cover_of, cover_upto, handler}
use Rattle.th_flat.specs.Orderly.{Throws}
use Rattle.th_flat.specs.Pace.{LeadsTo}
use Rattle.th_lowering.specs.Homes.{home}
use Rattle.th_lowering.specs.Sizes.{expr_size, exprs_size, operands_size, dropped, stmt_size, body_size, else_size, else_jump, whens_size, block_size, cast_size, may_cast_size}
use Rattle.th_lowering.specs.Site.{Site, word_of, cast_between, cast_code, may_cast_code, supply_op, supplies_code, where_op}
use Rattle.th_lowering.specs.Code.{call_op, drop_code, block_code, next_handler, expr_code, exprs_code, operands_code, bind_code, stmt_code, body_code, else_code, whens_code}
use Rattle.th_lowering.specs.Units.{keep_code, start_code, start_size, end_code, unit_code, site_of, body_start, body_end, unit_size}
use Rattle.th_lower_law.proofs.Lengths.{expr_length, exprs_length, operands_length, supplies_length, cast_length, may_cast_length, bind_length, stmt_length, body_length, block_length, start_length, unit_length}

-- the operations stand in a list from a place on
abbrev pub StandFrom : List FlatOp → ℕ → List FlatOp → Type 0
StandFrom ops b [] = Unit {0}
StandFrom ops b (op ∷ more) = (slice_get ops b ≡ Some op) × StandFrom ops (b + 1) more

pub record StandsAt (ops : List FlatOp) (b : ℕ) (xs : List FlatOp) : Type 0 where
  pub stand : StandFrom ops b xs

-- the first operation stands there, and the others behind it
pub stands_here : (ops : List FlatOp) (b : ℕ) (op : FlatOp) (xs : List FlatOp) → StandsAt ops b (op ∷ xs) → slice_get ops b ≡ Some op
stands_here ops b op xs h = h.stand.0

pub stands_rest : (ops : List FlatOp) (b : ℕ) (op : FlatOp) (xs : List FlatOp) → StandsAt ops b (op ∷ xs) → StandsAt ops (b + 1) xs
stands_rest ops b op xs h = record { stand = h.stand.1 }

pub stands_first : (ops : List FlatOp) (b : ℕ) (xs ys : List FlatOp) → StandsAt ops b (xs ++ ys) → StandsAt ops b xs
stands_first ops b [] ys h = record { stand = tt }
stands_first ops b (x ∷ xs) ys h = record { stand = (stands_here ops b x (xs ++ ys) h, (stands_first ops (b + 1) xs ys (stands_rest ops b x (xs ++ ys) h)).stand) }

pub stands_then : (ops : List FlatOp) (b m : ℕ) (xs ys : List FlatOp) → b + length xs ≡ m → StandsAt ops b (xs ++ ys) → StandsAt ops m ys
stands_then ops b m [] ys e h = let q : b ≡ m = omega (arith, e) in subst (λ k. StandsAt ops k ys) q h
stands_then ops b m (x ∷ xs) ys e h = stands_then ops (b + 1) m xs ys (omega (arith, e)) (stands_rest ops b x (xs ++ ys) h)

pub stands_whole : (is pre : List FlatOp) → StandsAt (pre ++ is) (length pre) is
stands_whole [] pre = record { stand = tt }
stands_whole (i ∷ is) pre =
    let within : length pre < length (pre ++ i ∷ is) = omega (arith, length-append pre (i ∷ is)) in
    let here = slice_get-get_or (pre ++ i ∷ is) (length pre) i within ∙ ap Some (get_or-append_seam pre i is i) in
    let n : length (pre ++ i ∷ []) ≡ length pre + 1 = omega (arith, length-append pre (i ∷ [])) in
    let rest = subst (λ l. StandsAt l (length (pre ++ i ∷ [])) is) (append_assoc pre (i ∷ []) is) (stands_whole is (pre ++ i ∷ [])) in
    record { stand = (here, (subst (λ m. StandsAt (pre ++ i ∷ is) m is) n rest).stand) }

none_some : {A : Type 0} {a : A} → None ≡ Some a → ⊥
none_some e = cc

some_same : {A : Type 0} {a b : A} → Some a ≡ Some b → a ≡ b
some_same e = cc

module _ (ops : List FlatOp) (n : ℕ) where
  -- an operation goes on ahead or to a turn; fails out of the unit's blocks, or ahead; and a block's handlers are behind it
  pub record Onward (p : ℕ) (op : FlatOp) : Type 0 where
    pub way : (q : ℕ) → (shape_of op).way ≡ Some q → (p < q) ⊎ (slice_get ops q ≡ Some OpTurn)
    pub failure : (l : ℕ) → (shape_of op).failure ≡ Some l → (l ≡ n) ⊎ (p < l)
    pub cover : (at h : ℕ) (acc : Option ℕ) → cover_of (Some op) at acc ≡ Some h → (acc ≡ Some h) ⊎ (at < h)

  -- operations from a place on do so
  abbrev pub Each : ℕ → List FlatOp → Type 0
  Each b [] = Unit {0}
  Each b (op ∷ more) = Onward b op × Each (b + 1) more

  pub record AllOnward (b : ℕ) (xs : List FlatOp) : Type 0 where
    pub each : Each b xs

  pub no_more : (b : ℕ) → AllOnward b []
  no_more b = record { each = tt }

  pub one_more : (b : ℕ) (op : FlatOp) (more : List FlatOp) → Onward b op → AllOnward (b + 1) more → AllOnward b (op ∷ more)
  one_more b op more h k = record { each = (h, k.each) }

  pub onward_here : (b : ℕ) (op : FlatOp) (more : List FlatOp) → AllOnward b (op ∷ more) → Onward b op
  onward_here b op more h = h.each.0

  pub onward_rest : (b : ℕ) (op : FlatOp) (more : List FlatOp) → AllOnward b (op ∷ more) → AllOnward (b + 1) more
  onward_rest b op more h = record { each = h.each.1 }

  pub onward_append : (b m : ℕ) (xs ys : List FlatOp) → b + length xs ≡ m → AllOnward b xs → AllOnward m ys → AllOnward b (xs ++ ys)
  onward_append b m [] ys e h k = let q : m ≡ b = omega (arith, e) in subst (λ x. AllOnward x ys) q k
  onward_append b m (x ∷ xs) ys e h k = one_more b x (xs ++ ys) (onward_here b x xs h) (onward_append (b + 1) m xs ys (omega (arith, e)) (onward_rest b x xs h) k)

  -- an operation that only goes on to the next one
  pub calm : (p : ℕ) (op : FlatOp) → (shape_of op).way ≡ None → (shape_of op).failure ≡ None → ((at : ℕ) (acc : Option ℕ) → cover_of (Some op) at acc ≡ acc) → Onward p op
  calm p op w f c = record { way = λ q e. absurd (none_some (sym w ∙ e)); failure = λ l e. absurd (none_some (sym f ∙ e)); cover = λ at h acc e. inl (sym (c at acc) ∙ e) }

  -- one that fails out of the unit's blocks
  pub failing : (p : ℕ) (op : FlatOp) → (shape_of op).way ≡ None → (shape_of op).failure ≡ Some n → ((at : ℕ) (acc : Option ℕ) → cover_of (Some op) at acc ≡ acc) → Onward p op
  failing p op w f c = record { way = λ q e. absurd (none_some (sym w ∙ e)); failure = λ l e. inl (some_same (sym e ∙ f)); cover = λ at h acc e. inl (sym (c at acc) ∙ e) }

  -- one that goes ahead
  going : (p l : ℕ) (op : FlatOp) → p < l → (shape_of op).way ≡ Some l → (shape_of op).failure ≡ None → ((at : ℕ) (acc : Option ℕ) → cover_of (Some op) at acc ≡ acc) → Onward p op
  going p l op lt w f c = record { way = λ q e. let same = some_same (sym w ∙ e) in inl (subst (λ x. p < x) same lt); failure = λ k e. absurd (none_some (sym f ∙ e)); cover = λ at h acc e. inl (sym (c at acc) ∙ e) }

  -- one that goes back to a turn
  back : (p l : ℕ) → slice_get ops l ≡ Some OpTurn → Onward p (OpGo l)
  back p l turn = record { way = λ q e. let same : l ≡ q = some_same e in inr (subst (λ x. slice_get ops x ≡ Some OpTurn) same turn); failure = λ k e. absurd (none_some e); cover = λ at h acc e. inl e }

  covers : (at h e k : ℕ) (acc : Option ℕ) (t : Bool) → nat_lt at e ≡ t → e < h → (if t then Some h else acc) ≡ Some k → (acc ≡ Some k) ⊎ (at < k)
  covers at h e k acc true lt less c = let same : h ≡ k = some_same c in inr (omega (arith, ltb-true at e lt, less, same))
  covers at h e k acc false lt less c = inl c

  block : (p h e : ℕ) → e < h → Onward p (OpBlock h e)
  block p h e lt = record { way = λ q w. absurd (none_some w); failure = λ k f. absurd (none_some f); cover = λ at k acc c. covers at h e k acc (nat_lt at e) refl lt c }

  handling : (p f l : ℕ) (name : List ℕ) → (l ≡ n) ⊎ (p < l) → Onward p (OpHandle name f l)
  handling p f l name h = record { way = λ q w. absurd (none_some w); failure = λ k e. let same : l ≡ k = some_same e in subst (λ x. (x ≡ n) ⊎ (p < x)) same h; cover = λ at k acc c. inl c }

module _ (ops : List FlatOp) (s : Site) where
  abbrev All : ℕ → List FlatOp → Type 0
  All = AllOnward ops s.count

  none : (b : ℕ) → All b []
  none b = no_more ops s.count b

  -- one operation, and others behind it
  one : (b : ℕ) (op : FlatOp) (more : List FlatOp) → Onward ops s.count b op → All (b + 1) more → All b (op ∷ more)
  one b op more h k = one_more ops s.count b op more h k

  sole : (b : ℕ) (op : FlatOp) → Onward ops s.count b op → All b (op ∷ [])
  sole b op h = one b op [] h (none (b + 1))

  both : (b m k : ℕ) (xs ys : List FlatOp) → length xs ≡ m → b + m ≡ k → All b xs → All k ys → All b (xs ++ ys)
  both b m k xs ys l e h g = onward_append ops s.count b k xs ys (omega (arith, l, e)) h g

  at_place : (b m : ℕ) (xs : List FlatOp) → b ≡ m → All m xs → All b xs
  at_place b m xs e h = subst (λ k. All k xs) (sym e) h

  last : (b m : ℕ) (xs : List FlatOp) (op : FlatOp) → length xs ≡ m → All b xs → Onward ops s.count (b + m) op → All b (xs ++ op ∷ [])
  last b m xs op l h k = both b m (b + m) xs (op ∷ []) l refl h (sole (b + m) op k)

  -- two forms, and an operation behind them
  two : (b m n : ℕ) (xs ys : List FlatOp) (op : FlatOp) → length xs ≡ m → length ys ≡ n → All b xs → All (b + m) ys → Onward ops s.count (b + m + n) op → All b (xs ++ (ys ++ op ∷ []))
  two b m n xs ys op l k h g o = both b m (b + m) xs (ys ++ op ∷ []) l refl h (last (b + m) n ys op k g o)

  cast_onward : (c : CastTree) (b : ℕ) → All b (cast_code c)
  cast_onward c b = go (name_of_type c.from) (name_of_type c.to)
    where
      go : (from to : Option (List ℕ)) → All b (cast_between from to)
      go None to = none _
      go (Some f) None = none _
      go (Some f) (Some t) = sole _ _ (calm ops s.count b (OpCast f t) refl refl (λ at acc. refl))

  may_cast_onward : (c : Option CastTree) (b : ℕ) → All b (may_cast_code c)
  may_cast_onward None b = none _
  may_cast_onward (Some c) b = cast_onward c b

  where_onward : (b k : ℕ) (sort : UnitSort) → Onward ops s.count b (where_op sort k)
  where_onward b k of_routine = calm ops s.count b (OpLocal k) refl refl (λ at acc. refl)
  where_onward b k (of_method c m) = calm ops s.count b (OpField c k) refl refl (λ at acc. refl)
  where_onward b k (of_init c) = calm ops s.count b (OpLocal (k + 1)) refl refl (λ at acc. refl)

  supply_onward : (x : SupplyTree) (p b : ℕ) → Onward ops s.count p (supply_op s x b)
  supply_onward (by_primitive q) p b = calm ops s.count p _ refl refl (λ at acc. refl)
  supply_onward (by_method t m) p b = calm ops s.count p _ refl refl (λ at acc. refl)
  supply_onward (passed k) p b = where_onward p k s.sort

  supplies_onward : (ss : List SupplyTree) (b : ℕ) → All b (supplies_code s ss b)
  supplies_onward [] b = none _
  supplies_onward (x ∷ xs) b = one _ _ _ (supply_onward x b b) (supplies_onward xs (b + 1))

  bind_onward : (v : Option Variable) (b : ℕ) → All b (bind_code s v)
  bind_onward None b = none _
  bind_onward (Some v) b = sole _ _ (calm ops s.count b _ refl refl (λ at acc. refl))

  drop_onward : (c : CallTree) (b : ℕ) → All b (drop_code c)
  drop_onward (routine_call f ts ss es) b = none _
  drop_onward (method_call t m e es) b = none _
  drop_onward (hidden_call c m es) b = none _
  drop_onward (super_call c m es) b = none _
  drop_onward (where_call k m e es) b = none _
  drop_onward (init_call c ts ss es) b = sole _ _ (calm ops s.count b OpDrop refl refl (λ at acc. refl))

  call_onward : (c : CallTree) (f b : ℕ) → Onward ops s.count b (call_op s c f)
  call_onward (routine_call g ts ss es) f b = failing ops s.count b _ refl refl (λ at acc. refl)
  call_onward (method_call t m e es) f b = failing ops s.count b _ refl refl (λ at acc. refl)
  call_onward (hidden_call c m es) f b = failing ops s.count b _ refl refl (λ at acc. refl)
  call_onward (super_call c m es) f b = failing ops s.count b _ refl refl (λ at acc. refl)
  call_onward (where_call k m e es) f b = failing ops s.count b _ refl refl (λ at acc. refl)
  call_onward (init_call c ts ss es) f b = failing ops s.count b _ refl refl (λ at acc. refl)

  mutual
    expr_onward : (e : ExprTree) (b : ℕ) → All b (expr_code s e b)
    expr_onward (number_expr k) b = sole _ _ (calm ops s.count b _ refl refl (λ at acc. refl))
    expr_onward (truth_expr x) b = sole _ _ (calm ops s.count b _ refl refl (λ at acc. refl))
    expr_onward (literal_expr bytes) b = sole _ _ (calm ops s.count b _ refl refl (λ at acc. refl))
    expr_onward self_expr b = sole _ _ (calm ops s.count b _ refl refl (λ at acc. refl))
    expr_onward (local_expr k) b = sole _ _ (calm ops s.count b _ refl refl (λ at acc. refl))
    expr_onward (field_expr c f) b = sole _ _ (calm ops s.count b _ refl refl (λ at acc. refl))
    expr_onward (negative_expr a) b = last b (expr_size a) _ _ (expr_length s a b) (expr_onward a b) (failing ops s.count _ _ refl refl (λ at acc. refl))
    expr_onward (arith_expr op x y) b = two b (expr_size x) (expr_size y) _ _ _ (expr_length s x b) (expr_length s y (b + expr_size x)) (expr_onward x b) (expr_onward y (b + expr_size x)) (failing ops s.count _ _ refl refl (λ at acc. refl))
    expr_onward (compare_expr op x y) b = two b (expr_size x) (expr_size y) _ _ _ (expr_length s x b) (expr_length s y (b + expr_size x)) (expr_onward x b) (expr_onward y (b + expr_size x)) (calm ops s.count _ _ refl refl (λ at acc. refl))
    expr_onward (same_expr x y) b = two b (expr_size x) (expr_size y) _ _ _ (expr_length s x b) (expr_length s y (b + expr_size x)) (expr_onward x b) (expr_onward y (b + expr_size x)) (calm ops s.count _ _ refl refl (λ at acc. refl))
    expr_onward (not_expr a) b = both b (expr_size a) (b + expr_size a) _ _ (expr_length s a b) refl (expr_onward a b)
        (one _ _ _ (going ops s.count _ (b + expr_size a + 3) _ (omega arith) refl refl (λ at acc. refl)) (one _ _ _ (calm ops s.count _ _ refl refl (λ at acc. refl))
        (one _ _ _ (going ops s.count _ (b + expr_size a + 4) _ (omega arith) refl refl (λ at acc. refl)) (sole _ _ (calm ops s.count _ _ refl refl (λ at acc. refl))))))
    expr_onward (and_expr x y) b = both b (expr_size x) (b + expr_size x) _ _ (expr_length s x b) refl (expr_onward x b)
        (one _ _ _ (going ops s.count _ (b + expr_size x + 1 + expr_size y + 1) _ (omega arith) refl refl (λ at acc. refl))
        (both (b + expr_size x + 1) (expr_size y) (b + expr_size x + 1 + expr_size y) _ _ (expr_length s y (b + expr_size x + 1)) refl (expr_onward y (b + expr_size x + 1))
        (one _ _ _ (going ops s.count _ (b + expr_size x + 1 + expr_size y + 2) _ (omega arith) refl refl (λ at acc. refl)) (sole _ _ (calm ops s.count _ _ refl refl (λ at acc. refl))))))
    expr_onward (or_expr x y) b = both b (expr_size x) (b + expr_size x) _ _ (expr_length s x b) refl (expr_onward x b)
        (one _ _ _ (going ops s.count _ (b + expr_size x + 3) _ (omega arith) refl refl (λ at acc. refl)) (one _ _ _ (calm ops s.count _ _ refl refl (λ at acc. refl))
        (one _ _ _ (going ops s.count _ (b + expr_size x + 3 + expr_size y) _ (omega arith) refl refl (λ at acc. refl)) (at_place _ (b + expr_size x + 3) _ (omega arith) (expr_onward y (b + expr_size x + 3))))))
    expr_onward (join_expr x y) b = two b (expr_size x) (expr_size y) _ _ _ (expr_length s x b) (expr_length s y (b + expr_size x)) (expr_onward x b) (expr_onward y (b + expr_size x)) (failing ops s.count _ _ refl refl (λ at acc. refl))
    expr_onward (letter_expr x y) b = two b (expr_size x) (expr_size y) _ _ _ (expr_length s x b) (expr_length s y (b + expr_size x)) (expr_onward x b) (expr_onward y (b + expr_size x)) (failing ops s.count _ _ refl refl (λ at acc. refl))
    expr_onward (extent_expr a) b = last b (expr_size a) _ _ (expr_length s a b) (expr_onward a b) (calm ops s.count _ _ refl refl (λ at acc. refl))
    expr_onward (element_expr x y) b = two b (expr_size x) (expr_size y) _ _ _ (expr_length s x b) (expr_length s y (b + expr_size x)) (expr_onward x b) (expr_onward y (b + expr_size x)) (failing ops s.count _ _ refl refl (λ at acc. refl))
    expr_onward (length_expr a) b = last b (expr_size a) _ _ (expr_length s a b) (expr_onward a b) (calm ops s.count _ _ refl refl (λ at acc. refl))
    expr_onward (cast_expr c a) b = both b (expr_size a) (b + expr_size a) _ _ (expr_length s a b) refl (expr_onward a b) (cast_onward c (b + expr_size a))
    expr_onward (call_expr c) b = last b (operands_size c) _ _ (operands_length s c b) (operands_onward c b) (call_onward c 1 _)
    expr_onward (new_expr c ts ss es) b = (one _ _ _ (calm ops s.count b (OpNew c) refl refl (λ at acc. refl))
        (both (b + 1) (length ss) (b + 1 + length ss) _ _ (supplies_length s ss (b + 1)) refl (supplies_onward ss (b + 1))
        (last (b + 1 + length ss) (exprs_size es) _ _ (exprs_length s es (b + 1 + length ss)) (exprs_onward es (b + 1 + length ss)) (failing ops s.count _ _ refl refl (λ at acc. refl)))))
    expr_onward (new_array_expr t x y) b = two b (expr_size x) (expr_size y) _ _ _ (expr_length s x b) (expr_length s y (b + expr_size x)) (expr_onward x b) (expr_onward y (b + expr_size x)) (failing ops s.count _ _ refl refl (λ at acc. refl))
    expr_onward get_byte_expr b = sole _ _ (failing ops s.count b _ refl refl (λ at acc. refl))

    exprs_onward : (es : ExprTrees) (b : ℕ) → All b (exprs_code s es b)
    exprs_onward no_expr b = none _
    exprs_onward (more_exprs e es) b = both b (expr_size e) (b + expr_size e) _ _ (expr_length s e b) refl (expr_onward e b) (exprs_onward es (b + expr_size e))

    operands_onward : (c : CallTree) (b : ℕ) → All b (operands_code s c b)
    operands_onward (routine_call f ts ss es) b = both b (length ss) (b + length ss) _ _ (supplies_length s ss b) refl (supplies_onward ss b) (exprs_onward es (b + length ss))
    operands_onward (method_call t m e es) b = both b (expr_size e) (b + expr_size e) _ _ (expr_length s e b) refl (expr_onward e b)
        (one _ _ _ (calm ops s.count _ _ refl refl (λ at acc. refl)) (exprs_onward es (b + expr_size e + 1)))
    operands_onward (hidden_call c m es) b = one _ _ _ (calm ops s.count b (OpLocal 0) refl refl (λ at acc. refl)) (exprs_onward es (b + 1))
    operands_onward (super_call c m es) b = one _ _ _ (calm ops s.count b (OpLocal 0) refl refl (λ at acc. refl)) (exprs_onward es (b + 1))
    operands_onward (where_call k m e es) b = one _ _ _ (where_onward b k s.sort) (both (b + 1) (expr_size e) (b + 1 + expr_size e) _ _ (expr_length s e (b + 1)) refl (expr_onward e (b + 1)) (exprs_onward es (b + 1 + expr_size e)))
    operands_onward (init_call c ts ss es) b = (one _ _ _ (calm ops s.count b (OpLocal 0) refl refl (λ at acc. refl))
        (both (b + 1) (length ss) (b + 1 + length ss) _ _ (supplies_length s ss (b + 1)) refl (supplies_onward ss (b + 1))
        (last (b + 1 + length ss) (exprs_size es) _ _ (exprs_length s es (b + 1 + length ss)) (exprs_onward es (b + 1 + length ss)) (calm ops s.count _ OpTurn refl refl (λ at acc. refl)))))

  with_one : (a : ExprTree) (b : ℕ) (op : FlatOp) → Onward ops s.count (b + expr_size a) op → All b (expr_code s a b ++ op ∷ [])
  with_one a b op h = last b (expr_size a) (expr_code s a b) op (expr_length s a b) (expr_onward a b) h

  with_two : (x y : ExprTree) (b : ℕ) (op : FlatOp) → Onward ops s.count (b + expr_size x + expr_size y) op → All b (expr_code s x b ++ (expr_code s y (b + expr_size x) ++ op ∷ []))
  with_two x y b op h = two b (expr_size x) (expr_size y) (expr_code s x b) (expr_code s y (b + expr_size x)) op (expr_length s x b) (expr_length s y (b + expr_size x)) (expr_onward x b) (expr_onward y (b + expr_size x)) h

  -- what follows a place, of operations that stand
  then_at : (b m k : ℕ) (xs ys : List FlatOp) → length xs ≡ m → b + m ≡ k → StandsAt ops b (xs ++ ys) → StandsAt ops k ys
  then_at b m k xs ys l e h = stands_then ops b k xs ys (omega (arith, l, e)) h

  block_onward : (ws : WhenTrees) (b h e : ℕ) → e < h → All b (block_code ws h e)
  block_onward no_when b h e lt = none _
  block_onward (more_whens x v body ws) b h e lt = sole _ _ (block ops s.count b h e lt)

  next_onward : (ws : WhenTrees) (p b : ℕ) → p < b → (next_handler s ws b ≡ s.count) ⊎ (p < next_handler s ws b)
  next_onward no_when p b lt = inl refl
  next_onward (more_whens x v body ws) p b lt = inr (omega (arith, lt))

  mutual
    stmt_onward : (t : StmtTree) (b x : ℕ) → b + stmt_size t ≤ x → StandsAt ops b (stmt_code s t b x) → All b (stmt_code s t b x)
    stmt_onward (var_stmt v e) b x le st = with_one e b _ (calm ops s.count _ _ refl refl (λ at acc. refl))
    stmt_onward (set_local_stmt k e) b x le st = with_one e b _ (calm ops s.count _ _ refl refl (λ at acc. refl))
    stmt_onward (set_field_stmt c f e) b x le st = with_one e b _ (calm ops s.count _ _ refl refl (λ at acc. refl))
    stmt_onward (set_element_stmt a i e) b x le st = both b (expr_size a) (b + expr_size a) _ _ (expr_length s a b) refl (expr_onward a b) (with_two i e (b + expr_size a) _ (failing ops s.count _ _ refl refl (λ at acc. refl)))
    stmt_onward (call_stmt c) b x le st = both b (operands_size c) (b + operands_size c) _ _ (operands_length s c b) refl (operands_onward c b) (one _ _ _ (call_onward c 0 _) (drop_onward c _))
    stmt_onward (drop_stmt c) b x le st = both b (operands_size c) (b + operands_size c) _ _ (operands_length s c b) refl (operands_onward c b) (one _ _ _ (call_onward c 1 _) (sole _ _ (calm ops s.count _ OpDrop refl refl (λ at acc. refl))))
    stmt_onward (if_stmt e body r) b x le st =
        let m1 = b + expr_size e in
        let m2 = b + expr_size e + 1 in
        let m3 = b + expr_size e + 1 + body_size body in
        let st1 = then_at b (expr_size e) m1 _ _ (expr_length s e b) refl st in
        both b (expr_size e) m1 _ _ (expr_length s e b) refl (expr_onward e b)
        (one _ _ _ (going ops s.count m1 (m3 + else_jump r) _ (omega arith) refl refl (λ at acc. refl))
        (both m2 (body_size body) m3 _ _ (body_length s body m2 x) refl (body_onward body m2 x (omega (arith, le)) (stands_first ops m2 _ _ (stands_rest ops m1 _ _ st1)))
        (else_onward r m3 x (omega (arith, le)) (then_at m2 (body_size body) m3 _ _ (body_length s body m2 x) refl (stands_rest ops m1 _ _ st1)))))
    stmt_onward (while_stmt e body) b x le st =
        let m2 = b + 2 + body_size body in
        let exit = b + 2 + body_size body + expr_size e + 2 in
        let two : b + 1 + 1 ≡ b + 2 = omega arith in
        let st2 = subst (λ k. StandsAt ops k (body_code s body (b + 2) exit ++ (expr_code s e m2 ++ OpUnless exit ∷ OpGo (b + 1) ∷ []))) two (stands_rest ops (b + 1) _ _ (stands_rest ops b _ _ st)) in
        (one _ _ _ (going ops s.count b m2 _ (omega arith) refl refl (λ at acc. refl)) (one _ _ _ (calm ops s.count (b + 1) OpTurn refl refl (λ at acc. refl))
        (at_place (b + 1 + 1) (b + 2) _ two (both (b + 2) (body_size body) m2 _ _ (body_length s body (b + 2) exit) refl
        (body_onward body (b + 2) exit (omega arith) (stands_first ops (b + 2) _ _ st2))
        (both m2 (expr_size e) (m2 + expr_size e) _ _ (expr_length s e m2) refl (expr_onward e m2)
        (one _ _ _ (going ops s.count _ exit _ (omega arith) refl refl (λ at acc. refl)) (sole _ _ (back ops s.count _ (b + 1) (stands_here ops (b + 1) _ _ (stands_rest ops b _ _ st))))))))))
    stmt_onward (for_stmt v k c body) b x le st =
        let m1 = b + operands_size c in
        let m2 = b + operands_size c + 2 in
        let m3 = b + operands_size c + 2 + may_cast_size k in
        let m4 = b + operands_size c + 2 + may_cast_size k + 1 in
        let next = m4 + body_size body in
        let two : m1 + 1 + 1 ≡ m2 = omega arith in
        let st1 = then_at b (operands_size c) m1 _ _ (operands_length s c b) refl st in
        let st2 = subst (λ q. StandsAt ops q (may_cast_code k ++ OpSet (word_of s v.local) ∷ (body_code s body m4 (next + 1) ++ OpNext ∷ []))) two (stands_rest ops (m1 + 1) _ _ (stands_rest ops m1 _ _ st1)) in
        let st3 = then_at m2 (may_cast_size k) m3 _ _ (may_cast_length k) refl st2 in
        both b (operands_size c) m1 _ _ (operands_length s c b) refl (operands_onward c b)
        (one _ _ _ (calm ops s.count m1 (OpOver next) refl refl (λ at acc. refl)) (one _ _ _ (call_onward c 0 (m1 + 1))
        (at_place (m1 + 1 + 1) m2 _ two (both m2 (may_cast_size k) m3 _ _ (may_cast_length k) refl (may_cast_onward k m2)
        (one _ _ _ (calm ops s.count m3 _ refl refl (λ at acc. refl))
        (last m4 (body_size body) _ _ (body_length s body m4 (next + 1)) (body_onward body m4 (next + 1) (omega arith) (stands_first ops m4 _ _ (stands_rest ops m3 _ _ st3))) (calm ops s.count _ OpNext refl refl (λ at acc. refl))))))))
    stmt_onward break_stmt b x le st = sole _ _ (going ops s.count b x _ (omega (arith, le)) refl refl (λ at acc. refl))
    stmt_onward return_stmt b x le st = sole _ _ (calm ops s.count b _ refl refl (λ at acc. refl))
    stmt_onward (return_value_stmt e) b x le st = with_one e b _ (calm ops s.count _ _ refl refl (λ at acc. refl))
    stmt_onward (yield_stmt e) b x le st = with_one e b _ (calm ops s.count _ _ refl refl (λ at acc. refl))
    stmt_onward (raise_stmt y) b x le st = sole _ _ (failing ops s.count b _ refl refl (λ at acc. refl))
    stmt_onward (raise_value_stmt y e) b x le st = with_one e b _ (failing ops s.count _ _ refl refl (λ at acc. refl))
    stmt_onward (begin_stmt body ws) b x le st =
        let m1 = b + block_size ws in
        let m2 = b + block_size ws + body_size body in
        let st1 = then_at b (block_size ws) m1 _ _ (block_length ws (m2 + 1) m2) refl st in
        both b (block_size ws) m1 _ _ (block_length ws (m2 + 1) m2) refl (block_onward ws b (m2 + 1) m2 (omega arith))
        (both m1 (body_size body) m2 _ _ (body_length s body m1 x) refl (body_onward body m1 x (omega (arith, le)) (stands_first ops m1 _ _ st1))
        (whens_onward ws m2 x (omega (arith, le)) (then_at m1 (body_size body) m2 _ _ (body_length s body m1 x) refl st1)))
    stmt_onward (put_byte_stmt e) b x le st = with_one e b _ (failing ops s.count _ _ refl refl (λ at acc. refl))
    stmt_onward (put_int_stmt e) b x le st = with_one e b _ (calm ops s.count _ _ refl refl (λ at acc. refl))
    stmt_onward (put_text_stmt e) b x le st = with_one e b _ (calm ops s.count _ _ refl refl (λ at acc. refl))

    body_onward : (t : BodyTree) (b x : ℕ) → b + body_size t ≤ x → StandsAt ops b (body_code s t b x) → All b (body_code s t b x)
    body_onward no_stmt b x le st = none _
    body_onward (more_stmts first rest) b x le st =
        both b (stmt_size first) (b + stmt_size first) _ _ (stmt_length s first b x) refl (stmt_onward first b x (omega (arith, le)) (stands_first ops b _ _ st))
        (body_onward rest (b + stmt_size first) x (omega (arith, le)) (then_at b (stmt_size first) (b + stmt_size first) _ _ (stmt_length s first b x) refl st))

    else_onward : (r : ElseTree) (b x : ℕ) → b + else_size r ≤ x → StandsAt ops b (else_code s r b x) → All b (else_code s r b x)
    else_onward no_else b x le st = none _
    else_onward (else_do body) b x le st = one _ _ _ (going ops s.count b (b + else_size (else_do body)) _ (omega arith) refl refl (λ at acc. refl)) (body_onward body (b + 1) x (omega (arith, le)) (stands_rest ops b _ _ st))
    else_onward (elseif_then e body r) b x le st =
        let m1 = b + 1 + expr_size e in
        let m2 = b + 1 + expr_size e + 1 in
        let m3 = b + 1 + expr_size e + 1 + body_size body in
        let st1 = then_at (b + 1) (expr_size e) m1 _ _ (expr_length s e (b + 1)) refl (stands_rest ops b _ _ st) in
        (one _ _ _ (going ops s.count b (b + else_size (elseif_then e body r)) _ (omega arith) refl refl (λ at acc. refl))
        (both (b + 1) (expr_size e) m1 _ _ (expr_length s e (b + 1)) refl (expr_onward e (b + 1))
        (one _ _ _ (going ops s.count m1 (m3 + else_jump r) _ (omega arith) refl refl (λ at acc. refl))
        (both m2 (body_size body) m3 _ _ (body_length s body m2 x) refl (body_onward body m2 x (omega (arith, le)) (stands_first ops m2 _ _ (stands_rest ops m1 _ _ st1)))
        (else_onward r m3 x (omega (arith, le)) (then_at m2 (body_size body) m3 _ _ (body_length s body m2 x) refl (stands_rest ops m1 _ _ st1)))))))

    whens_onward : (ws : WhenTrees) (b x : ℕ) → b + whens_size ws ≤ x → StandsAt ops b (whens_code s ws b x) → All b (whens_code s ws b x)
    whens_onward no_when b x le st = none _
    whens_onward (more_whens y v body ws) b x le st =
        let m1 = b + 1 + 1 in
        let m2 = b + 1 + 1 + variable_nodes v in
        let m3 = b + 1 + 1 + variable_nodes v + body_size body in
        let st1 = then_at m1 (variable_nodes v) m2 _ _ (bind_length s v) refl (stands_rest ops (b + 1) _ _ (stands_rest ops b _ _ st)) in
        (one _ _ _ (going ops s.count b (b + whens_size (more_whens y v body ws)) _ (omega arith) refl refl (λ at acc. refl))
        (one _ _ _ (handling ops s.count (b + 1) (variable_nodes v) (next_handler s ws m3) y (next_onward ws (b + 1) m3 (omega arith)))
        (both m1 (variable_nodes v) m2 _ _ (bind_length s v) refl (bind_onward v m1)
        (both m2 (body_size body) m3 _ _ (body_length s body m2 x) refl (body_onward body m2 x (omega (arith, le)) (stands_first ops m2 _ _ st1))
        (whens_onward ws m3 x (omega (arith, le)) (then_at m2 (body_size body) m3 _ _ (body_length s body m2 x) refl st1))))))

keep_onward : (ops : List FlatOp) (n : ℕ) (c : List ℕ) (b k m : ℕ) → AllOnward ops n b (keep_code c k m)
keep_onward ops n c b k zero = no_more ops n b
keep_onward ops n c b k (suc m) = one_more ops n _ _ _ (calm ops n b (OpLocal (k + 1)) refl refl (λ at acc. refl)) (one_more ops n _ _ _ (calm ops n (b + 1) (OpSetfield c k) refl refl (λ at acc. refl)) (keep_onward ops n c (b + 1 + 1) (k + 1) m))

start_onward : (ops : List FlatOp) (n b : ℕ) (sort : UnitSort) (m : ℕ) → AllOnward ops n b (start_code sort m)
start_onward ops n b of_routine m = no_more ops n _
start_onward ops n b (of_method c x) m = no_more ops n _
start_onward ops n b (of_init c) m = keep_onward ops n c b 0 m

end_onward : (ops : List FlatOp) (n b : ℕ) (sort : UnitSort) → AllOnward ops n b (end_code sort)
end_onward ops n b of_routine = one_more ops n _ _ _ (calm ops n b _ refl refl (λ at acc. refl)) (no_more ops n _)
end_onward ops n b (of_method c m) = one_more ops n _ _ _ (calm ops n b _ refl refl (λ at acc. refl)) (no_more ops n _)
end_onward ops n b (of_init c) = one_more ops n _ _ _ (calm ops n b _ refl refl (λ at acc. refl)) (one_more ops n _ _ _ (calm ops n (b + 1) _ refl refl (λ at acc. refl)) (no_more ops n _))

-- each operation of a unit goes on ahead or to a turn
pub unit_onward : (name : List ℕ) (known : List TypeDecl) (before : ℕ) (u : ProgramUnit) → AllOnward (unit_code name known before u) (unit_size u) 0 (unit_code name known before u)
unit_onward name known bef u =
    let ops = unit_code name known bef u in
    let s = site_of name known bef u in
    let m1 = body_start u in
    let m2 = body_end u in
    let n = unit_size u in
    let xs = start_code u.sort (length u.clauses) in
    let ys = body_code s u.body m1 m2 in
    let zs = end_code u.sort in
    let st1 : StandsAt ops m1 (ys ++ zs) = stands_then ops 0 m1 xs (ys ++ zs) (omega (arith, start_length u.sort (length u.clauses))) (stands_whole ops []) in
    onward_append ops n 0 m1 xs (ys ++ zs) (omega (arith, start_length u.sort (length u.clauses))) (start_onward ops n 0 u.sort (length u.clauses))
    (onward_append ops n m1 m2 ys zs (omega (arith, body_length s u.body m1 m2)) (body_onward ops s u.body m1 m2 (omega arith) (stands_first ops m1 ys zs st1))
    (end_onward ops n m2 u.sort))

-- the operation at a place of a list of such
pub onward_at : (ops : List FlatOp) (n b : ℕ) (xs : List FlatOp) (p k : ℕ) (op : FlatOp) → AllOnward ops n b xs → slice_get xs k ≡ Some op → b + k ≡ p → Onward ops n p op
onward_at ops n b [] p k op h e q = absurd (none_some e)
onward_at ops n b (x ∷ xs) p zero op h e q =
    let same : x ≡ op = some_same e in
    let at : b ≡ p = omega (arith, q) in
    subst (λ k. Onward ops n k op) at (subst (λ o. Onward ops n b o) same (onward_here ops n b x xs h))
onward_at ops n b (x ∷ xs) p (suc k) op h e q = onward_at ops n (b + 1) xs p k op (onward_rest ops n b x xs h) e (omega (arith, q))

-- handlers are behind what they cover
pub covered_ahead : (ops : List FlatOp) (n : ℕ) → AllOnward ops n 0 ops → (k at h : ℕ) → cover_upto ops k at ≡ Some h → at < h
covered_ahead ops n all zero at h c = absurd (none_some c)
covered_ahead ops n all (suc k) at h c = go (slice_get ops k) refl c (λ f. covered_ahead ops n all k at h f)
  where
    go : (o : Option FlatOp) → slice_get ops k ≡ o → cover_of o at (cover_upto ops k at) ≡ Some h → (cover_upto ops k at ≡ Some h → at < h) → at < h
    go None e c again = again c
    go (Some op) e c again = ⊎_elim again (λ lt. lt) ((onward_at ops n 0 ops k k op all e (omega arith)).cover at h (cover_upto ops k at) c)

-- what an operation leads to is ahead of it, or a turn
pub leads_onward : (u : FlatUnit) (n : ℕ) → length u.ops ≡ n → AllOnward u.ops n 0 u.ops → (p q : ℕ) (op : FlatOp) → slice_get u.ops p ≡ Some op → LeadsTo u p op q → (p < q) ⊎ (slice_get u.ops q ≡ Some OpTurn)
leads_onward u n count all p q op e (inl w) = (onward_at u.ops n 0 u.ops p p op all e (omega arith)).way q w
leads_onward u n count all p q op e (inr t) = go (nat_eq t.0 (length u.ops)) refl t.2 ((onward_at u.ops n 0 u.ops p p op all e (omega arith)).failure t.0 t.1)
  where
    go : (eq : Bool) → nat_eq t.0 (length u.ops) ≡ eq → (if eq then cover_upto u.ops p p else Some t.0) ≡ Some q → (t.0 ≡ n) ⊎ (p < t.0) → (p < q) ⊎ (slice_get u.ops q ≡ Some OpTurn)
    go true same c f = inl (covered_ahead u.ops n all p p q c)
    go false other c (inl f) = absurd (ne (eq-eqb t.0 (length u.ops) (f ∙ sym count)) other)
      where
        ne : nat_eq t.0 (length u.ops) ≡ true → nat_eq t.0 (length u.ops) ≡ false → ⊥
        ne a b = cc
    go false other c (inr lt) = let same : t.0 ≡ q = some_same c in inl (subst (λ x. p < x) same lt)
