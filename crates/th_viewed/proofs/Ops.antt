-- Operators, local words and fields.
use Rattle.std.proofs.Common.{◌≡◌, ℕ, zero, suc, ◌+◌, Bool, true, false, List, [], ◌∷◌, ◌++◌, length, Option, Some, None, refl, sym, subst}
use Rattle.std.specs.Prelude.{slice_get, nat_eq, nat_lt, ℤ, pos, negsuc, if◌then◌else◌, ◌&&◌, ◌*◌, replicate, set}
use Rattle.std.specs.Fmt.{signed_decimal}
use Rattle.th_world.specs.Event.{Put}
use Rattle.th_meaning.specs.declared.expr.ArithOp.{ArithOp}
use Rattle.th_meaning.specs.declared.expr.ArithOp.TheVariants.{Plus, Minus, Times, Divide, Remainder}
use Rattle.th_meaning.specs.declared.expr.CompareOp.{CompareOp}
use Rattle.th_meaning.specs.World.{Instance, Array, Unset, bounds, greatest, text_weight, negation, put_byte, put_all, get_byte, give_back, note, letter, add_object, element, array_length, set_element, field_value, set_field}
use Rattle.th_flat.specs.declared.op.FlatOp.TheVariants.{OpLocal, OpSet, OpDrop, OpArith, OpCompare, OpSame, OpGo, OpUnless, OpCast, OpOwn, OpField, OpSetfield, OpArray, OpAt, OpSetat, OpLength, OpPutbyte, OpPutint, OpGet, OpTurn, OpAppend, OpLetter, OpExtent, OpPuttext, OpNew, OpReturn, OpRaise}
use Rattle.th_flat.specs.declared.module.FlatUnit.{FlatUnit}
use Rattle.th_flat.specs.Values.{as_whole, at_type, FlatValue, Int, Ref, Text, FlatWorld, Fine, Thrown, truth}
use Rattle.th_flat.specs.Deeds.{Act, Falls, Jumps, Failing, Deed, free, on_int, on_test, arith_value, push_number, holds, at_zero, array_deed, for_both, takes_turns, takes_both}
use Rattle.th_flat.specs.Configs.{NoLoop, Stack, Config, Over, Halts, Putting, Returned, loaded, body_ends, ends_as, gives_result, weight_of, room_of, paid, cover_upto, fail_to, is_body, stuck, leaves_body}
use Rattle.th_viewed.specs.Sources.{WordProgram}
use Rattle.th_viewed.specs.Evaluation.{Locals, State, Outcome, Gives, Throws, How, Done, Return, return_of, pay, with_world, on_world, with_int, given, load, store, arith_of, negative_of, compare_of, same_of, join_of, letter_of, extent_of, element_of, length_of, array_of, new_array_of, get_byte_of, own, field, set_field_of, cast_to, new_of, Units, put_byte_of, put_int_of, put_each, put_text_of, set_element_of}
use Rattle.th_viewed.specs.Evaluation.{loaded as word_loaded}
use Rattle.th_lowering.specs.Site.{Site}
use Rattle.th_lowering.specs.Stubs.{flag}
use Rattle.th_lowering.specs.Code.{arith_number, compare_number}
use Rattle.th_viewed.proofs.Follow.{Comes, here, one, first, Goes, goes_after, goes_paid}
use Rattle.th_viewed.proofs.Acts.{goes_int, goes_ref, goes_text, goes_whole, goes_seen, goes_some, goes_test, goes_self, goes_effect, goes_read, run, bad, leads, acts, goes_op, at_end, fails_to, go_within}

-- a value that there may be, on the stack
abbrev pub push_some : Option FlatValue → List FlatValue → List FlatValue
push_some None stack = stack
push_some (Some v) stack = v ∷ stack

under_five : (op : ArithOp) → nat_lt (arith_number op) 5 ≡ true
under_five Plus = refl
under_five Minus = refl
under_five Times = refl
under_five Divide = refl
under_five Remainder = refl

module _ (w : WordProgram) (units : Units) (u : FlatUnit) (n : ℕ) (size : length u.ops ≡ n) (held : Stack) (below : List Locals → Stack) (h : Option ℕ) where
  -- the next operation, with a word more on the stack
  abbrev pub pushes : ℕ → List FlatValue → FlatValue → State → Config
  pushes pc1 stack v st = run w.flat u held below pc1 (v ∷ stack) st

  abbrev pub fails : List ℕ → Option FlatValue → State → Config
  fails = bad w.flat u held below h

  pub arith_goes : (op : ArithOp) (a b : FlatValue) (pc pc1 : ℕ) (stack : List FlatValue) (st : State) → pc + 1 ≡ pc1 → slice_get u.ops pc ≡ Some (OpArith (arith_number op) n) → cover_upto u.ops pc pc ≡ h
      → Goes w.flat (run w.flat u held below pc (b ∷ a ∷ stack) st) (arith_of op a b st) (pushes pc1 stack) fails
  arith_goes op a b pc pc1 stack st e at ch =
      let op1 = OpArith (arith_number op) n in
      let K : Deed Act → Config = leads w.flat u held below op1 NoLoop pc (b ∷ a ∷ stack) st in
      goes_op w.flat u held below pc (b ∷ a ∷ stack) st op1 (arith_of op a b st) (pushes pc1 stack) fails at
      (subst (λ t. Goes w.flat (K (if t then on_int a (λ x. on_int b (λ y. free (λ w1. push_number (arith_value (arith_number op) x y w1) stack Fine))) else on_test (nat_eq (arith_number op) 5) (on_int b (λ x. free (λ w1. push_number (negation x w1) (a ∷ stack) Fine))))) (arith_of op a b st) (pushes pc1 stack) fails) (sym (under_five op))
      (goes_int w.flat K st (pushes pc1 stack) fails a _ _ (λ x. goes_int w.flat K st (pushes pc1 stack) fails b _ _
      (λ y. goes_effect w.flat (acts w.flat u held below op1 NoLoop pc (b ∷ a ∷ stack) st) st (pushes pc1 stack) fails (arith_value (arith_number op) x y st.world) (λ k v. Falls (Int k ∷ stack) Fine v) _ (λ x v. fails_to w.flat u held below n pc h x None (with_world st v) size ch) (λ x v. refl)
      (λ k v. at_end w.flat u held below (pc + 1) pc1 (Int k ∷ stack) (with_world st v) e)))))

  pub negative_goes : (a : FlatValue) (pc pc1 : ℕ) (stack : List FlatValue) (st : State) → pc + 1 ≡ pc1 → slice_get u.ops pc ≡ Some (OpArith 5 n) → cover_upto u.ops pc pc ≡ h
      → Goes w.flat (run w.flat u held below pc (a ∷ stack) st) (negative_of a st) (pushes pc1 stack) fails
  negative_goes a pc pc1 stack st e at ch =
      let K : Deed Act → Config = leads w.flat u held below (OpArith 5 n) NoLoop pc (a ∷ stack) st in
      goes_op w.flat u held below pc (a ∷ stack) st (OpArith 5 n) (negative_of a st) (pushes pc1 stack) fails at
      (goes_int w.flat K st (pushes pc1 stack) fails a _ _
      (λ x. goes_effect w.flat (acts w.flat u held below (OpArith 5 n) NoLoop pc (a ∷ stack) st) st (pushes pc1 stack) fails (negation x st.world) (λ k v. Falls (Int k ∷ stack) Fine v) _ (λ x v. fails_to w.flat u held below n pc h x None (with_world st v) size ch) (λ x v. refl)
      (λ k v. at_end w.flat u held below (pc + 1) pc1 (Int k ∷ stack) (with_world st v) e)))

  pub compare_goes : (op : CompareOp) (a b : FlatValue) (pc pc1 : ℕ) (stack : List FlatValue) (st : State) → pc + 1 ≡ pc1 → slice_get u.ops pc ≡ Some (OpCompare (compare_number op))
      → Goes w.flat (run w.flat u held below pc (b ∷ a ∷ stack) st) (compare_of op a b st) (pushes pc1 stack) fails
  compare_goes op a b pc pc1 stack st e at =
      let K : Deed Act → Config = leads w.flat u held below (OpCompare (compare_number op)) NoLoop pc (b ∷ a ∷ stack) st in
      goes_op w.flat u held below pc (b ∷ a ∷ stack) st (OpCompare (compare_number op)) (compare_of op a b st) (pushes pc1 stack) fails at
      (goes_int w.flat K st (pushes pc1 stack) fails a _ _ (λ x. goes_int w.flat K st (pushes pc1 stack) fails b _ _
      (λ y. at_end w.flat u held below (pc + 1) pc1 (truth (holds (compare_number op) x y) ∷ stack) st e)))

  pub same_goes : (a b : FlatValue) (pc pc1 : ℕ) (stack : List FlatValue) (st : State) → pc + 1 ≡ pc1 → slice_get u.ops pc ≡ Some OpSame
      → Goes w.flat (run w.flat u held below pc (b ∷ a ∷ stack) st) (same_of a b st) (pushes pc1 stack) fails
  same_goes a b pc pc1 stack st e at =
      let K : Deed Act → Config = leads w.flat u held below OpSame NoLoop pc (b ∷ a ∷ stack) st in
      goes_op w.flat u held below pc (b ∷ a ∷ stack) st OpSame (same_of a b st) (pushes pc1 stack) fails at
      (goes_ref w.flat K st (pushes pc1 stack) fails a _ _ (λ x vx. goes_ref w.flat K st (pushes pc1 stack) fails b _ _
      (λ y vy. at_end w.flat u held below (pc + 1) pc1 (truth (nat_eq x y) ∷ stack) st e)))

  pub join_goes : (a b : FlatValue) (pc pc1 : ℕ) (stack : List FlatValue) (st : State) → pc + 1 ≡ pc1 → slice_get u.ops pc ≡ Some (OpAppend n) → cover_upto u.ops pc pc ≡ h
      → Goes w.flat (run w.flat u held below pc (b ∷ a ∷ stack) st) (join_of a b st) (pushes pc1 stack) fails
  join_goes a b pc pc1 stack st e at ch =
      let K : Deed Act → Config = leads w.flat u held below (OpAppend n) NoLoop pc (b ∷ a ∷ stack) st in
      goes_op w.flat u held below pc (b ∷ a ∷ stack) st (OpAppend n) (join_of a b st) (pushes pc1 stack) fails at
      (goes_text w.flat K st (pushes pc1 stack) fails a _ _ (λ x. goes_text w.flat K st (pushes pc1 stack) fails b _ _ (λ y. choose x y (nat_lt greatest (length x + length y)))))
    where
      K : Deed Act → Config
      K = leads w.flat u held below (OpAppend n) NoLoop pc (b ∷ a ∷ stack) st

      choose : (x y : List ℕ) (t : Bool)
          → Goes w.flat (K (if t then free (λ v. Failing (Thrown bounds None) v) else for_both (length x + length y + 1) (text_weight (length x + length y)) (λ v. Falls (Text (x ++ y) ∷ stack) Fine v)))
          (if t then Throws bounds None st else pay (takes_both (length x + length y + 1) (text_weight (length x + length y))) st (λ st1. Gives (Text (x ++ y)) st1)) (pushes pc1 stack) fails
      choose x y true = subst (λ c. Comes w.flat (K (free (λ v. Failing (Thrown bounds None) v))) c) (fails_to w.flat u held below n pc h bounds None st size ch) (here w.flat _)
      choose x y false = goes_paid w.flat (takes_both (length x + length y + 1) (text_weight (length x + length y))) st _ (λ st1. Gives (Text (x ++ y)) st1) (pushes pc1 stack) fails
          (λ v. at_end w.flat u held below (pc + 1) pc1 (Text (x ++ y) ∷ stack) (with_world st v) e)

  pub letter_goes : (a b : FlatValue) (pc pc1 : ℕ) (stack : List FlatValue) (st : State) → pc + 1 ≡ pc1 → slice_get u.ops pc ≡ Some (OpLetter n) → cover_upto u.ops pc pc ≡ h
      → Goes w.flat (run w.flat u held below pc (b ∷ a ∷ stack) st) (letter_of a b st) (pushes pc1 stack) fails
  letter_goes a b pc pc1 stack st e at ch =
      let K : Deed Act → Config = leads w.flat u held below (OpLetter n) NoLoop pc (b ∷ a ∷ stack) st in
      goes_op w.flat u held below pc (b ∷ a ∷ stack) st (OpLetter n) (letter_of a b st) (pushes pc1 stack) fails at
      (goes_text w.flat K st (pushes pc1 stack) fails a _ _ (λ x. goes_int w.flat K st (pushes pc1 stack) fails b _ _
      (λ i. goes_effect w.flat (acts w.flat u held below (OpLetter n) NoLoop pc (b ∷ a ∷ stack) st) st (pushes pc1 stack) fails (letter x i st.world) (λ k v. Falls (Int (pos k) ∷ stack) Fine v) _ (λ x v. fails_to w.flat u held below n pc h x None (with_world st v) size ch) (λ x v. refl)
      (λ k v. at_end w.flat u held below (pc + 1) pc1 (Int (pos k) ∷ stack) (with_world st v) e))))

  pub extent_goes : (a : FlatValue) (pc pc1 : ℕ) (stack : List FlatValue) (st : State) → pc + 1 ≡ pc1 → slice_get u.ops pc ≡ Some OpExtent
      → Goes w.flat (run w.flat u held below pc (a ∷ stack) st) (extent_of a st) (pushes pc1 stack) fails
  extent_goes a pc pc1 stack st e at =
      let K : Deed Act → Config = leads w.flat u held below OpExtent NoLoop pc (a ∷ stack) st in
      goes_op w.flat u held below pc (a ∷ stack) st OpExtent (extent_of a st) (pushes pc1 stack) fails at
      (goes_text w.flat K st (pushes pc1 stack) fails a _ _ (λ x. at_end w.flat u held below (pc + 1) pc1 (Int (pos (length x)) ∷ stack) st e))

  pub element_goes : (a b : FlatValue) (pc pc1 : ℕ) (stack : List FlatValue) (st : State) → pc + 1 ≡ pc1 → slice_get u.ops pc ≡ Some (OpAt n) → cover_upto u.ops pc pc ≡ h
      → Goes w.flat (run w.flat u held below pc (b ∷ a ∷ stack) st) (element_of a b st) (pushes pc1 stack) fails
  element_goes a b pc pc1 stack st e at ch =
      let K : Deed Act → Config = leads w.flat u held below (OpAt n) NoLoop pc (b ∷ a ∷ stack) st in
      goes_op w.flat u held below pc (b ∷ a ∷ stack) st (OpAt n) (element_of a b st) (pushes pc1 stack) fails at
      (goes_whole w.flat K st (pushes pc1 stack) fails a _ _ (λ k. goes_int w.flat K st (pushes pc1 stack) fails b _ _
      (λ i. goes_effect w.flat (acts w.flat u held below (OpAt n) NoLoop pc (b ∷ a ∷ stack) st) st (pushes pc1 stack) fails (element k i st.world) (λ y v. Falls (y ∷ stack) Fine v) _ (λ x v. fails_to w.flat u held below n pc h x None (with_world st v) size ch) (λ x v. refl)
      (λ y v. at_end w.flat u held below (pc + 1) pc1 (y ∷ stack) (with_world st v) e))))

  pub get_goes : (pc pc1 : ℕ) (stack : List FlatValue) (st : State) → pc + 1 ≡ pc1 → slice_get u.ops pc ≡ Some (OpGet n) → cover_upto u.ops pc pc ≡ h
      → Goes w.flat (run w.flat u held below pc stack st) (get_byte_of st) (pushes pc1 stack) fails
  get_goes pc pc1 stack st e at ch =
      goes_op w.flat u held below pc stack st (OpGet n) (get_byte_of st) (pushes pc1 stack) fails at
      (goes_effect w.flat (acts w.flat u held below (OpGet n) NoLoop pc stack st) st (pushes pc1 stack) fails (get_byte st.world) (λ k v. Falls (Int k ∷ stack) Fine v) _ (λ x v. fails_to w.flat u held below n pc h x None (with_world st v) size ch) (λ x v. refl)
      (λ k v. at_end w.flat u held below (pc + 1) pc1 (Int k ∷ stack) (with_world st v) e))

  pub array_goes : (a fill : FlatValue) (pc pc1 : ℕ) (stack : List FlatValue) (st : State) → pc + 1 ≡ pc1 → slice_get u.ops pc ≡ Some (OpArray n) → cover_upto u.ops pc pc ≡ h
      → Goes w.flat (run w.flat u held below pc (fill ∷ a ∷ stack) st) (new_array_of a fill st) (pushes pc1 stack) fails
  array_goes a fill pc pc1 stack st e at ch =
      goes_op w.flat u held below pc (fill ∷ a ∷ stack) st (OpArray n) (new_array_of a fill st) (pushes pc1 stack) fails at
      (goes_int w.flat K st (pushes pc1 stack) fails a _ _ made)
    where
      K : Deed Act → Config
      K = leads w.flat u held below (OpArray n) NoLoop pc (fill ∷ a ∷ stack) st

      made : (x : ℤ) → Goes w.flat (K (array_deed x fill stack Fine)) (array_of x fill st) (pushes pc1 stack) fails
      made (pos k) = goes_paid w.flat (takes_both (k + 1) (8 + 4 * k)) st _ (λ st1. on_world (add_object (Array (replicate k fill)) st1.world) st1 (λ j st2. Gives (Ref j as_whole) st2)) (pushes pc1 stack) fails
          (λ v. at_end w.flat u held below (pc + 1) pc1 _ _ e)
      made (negsuc k) = subst (λ c. Comes w.flat (K (array_deed (negsuc k) fill stack Fine)) c) (fails_to w.flat u held below n pc h bounds None st size ch) (here w.flat _)

  -- operations that don't fail
  pub length_goes : (a : FlatValue) (pc pc1 : ℕ) (stack : List FlatValue) (st : State) → pc + 1 ≡ pc1 → slice_get u.ops pc ≡ Some OpLength
      → Goes w.flat (run w.flat u held below pc (a ∷ stack) st) (length_of a st) (pushes pc1 stack) fails
  length_goes a pc pc1 stack st e at =
      let K : Deed Act → Config = leads w.flat u held below OpLength NoLoop pc (a ∷ stack) st in
      goes_op w.flat u held below pc (a ∷ stack) st OpLength (length_of a st) (pushes pc1 stack) fails at
      (goes_whole w.flat K st (pushes pc1 stack) fails a _ _ (λ k. goes_read w.flat (acts w.flat u held below OpLength NoLoop pc (a ∷ stack) st) st (pushes pc1 stack) fails (array_length k st.world) (λ y v. Falls (Int (pos y) ∷ stack) Fine v) _ (λ x v. refl)
      (λ y v. at_end w.flat u held below (pc + 1) pc1 (Int (pos y) ∷ stack) (with_world st v) e)))

  pub own_goes : (class : List ℕ) (pc pc1 : ℕ) (stack : List FlatValue) (st : State) → pc + 1 ≡ pc1 → slice_get u.ops pc ≡ Some (OpOwn class)
      → Goes w.flat (run w.flat u held below pc stack st) (own w u class st) (pushes pc1 stack) fails
  own_goes class pc pc1 stack st e at =
      let K : Deed Act → Config = leads w.flat u held below (OpOwn class) NoLoop pc stack st in
      goes_op w.flat u held below pc stack st (OpOwn class) (own w u class st) (pushes pc1 stack) fails at
      (goes_self w.flat K st (pushes pc1 stack) fails w units u _ _ (λ k of. goes_test w.flat K st (pushes pc1 stack) fails (w.flat.inherits of class) _ _
      (goes_some w.flat K st (pushes pc1 stack) fails (w.flat.class_type class) _ _ (λ t. at_end w.flat u held below (pc + 1) pc1 (Ref k (at_type t) ∷ stack) st e))))

  pub field_goes : (class : List ℕ) (i pc pc1 : ℕ) (stack : List FlatValue) (st : State) → pc + 1 ≡ pc1 → slice_get u.ops pc ≡ Some (OpField class i)
      → Goes w.flat (run w.flat u held below pc stack st) (field w u class i st) (pushes pc1 stack) fails
  field_goes class i pc pc1 stack st e at =
      let K : Deed Act → Config = leads w.flat u held below (OpField class i) NoLoop pc stack st in
      goes_op w.flat u held below pc stack st (OpField class i) (field w u class i st) (pushes pc1 stack) fails at
      (goes_self w.flat K st (pushes pc1 stack) fails w units u _ _ (λ k of. goes_test w.flat K st (pushes pc1 stack) fails (w.flat.inherits of class && nat_lt i (w.flat.slots class)) _ _
      (goes_read w.flat (acts w.flat u held below (OpField class i) NoLoop pc stack st) st (pushes pc1 stack) fails (field_value k class i st.world) (λ y v. Falls (y ∷ stack) Fine v) _ (λ x v. refl) (λ y v. at_end w.flat u held below (pc + 1) pc1 (y ∷ stack) (with_world st v) e))))

  pub cast_goes : (from to : List ℕ) (a : FlatValue) (pc pc1 : ℕ) (stack : List FlatValue) (st : State) → pc + 1 ≡ pc1 → slice_get u.ops pc ≡ Some (OpCast from to)
      → Goes w.flat (run w.flat u held below pc (a ∷ stack) st) (cast_to w from to a st) (pushes pc1 stack) fails
  cast_goes from to a pc pc1 stack st e at =
      let K : Deed Act → Config = leads w.flat u held below (OpCast from to) NoLoop pc (a ∷ stack) st in
      goes_op w.flat u held below pc (a ∷ stack) st (OpCast from to) (cast_to w from to a st) (pushes pc1 stack) fails at
      (goes_seen w.flat K st (pushes pc1 stack) fails from a _ _ (λ k. goes_test w.flat K st (pushes pc1 stack) fails (w.flat.reaches from to) _ _
      (at_end w.flat u held below (pc + 1) pc1 (Ref k (at_type to) ∷ stack) st e)))

  pub load_goes : (k pc pc1 : ℕ) (stack : List FlatValue) (st : State) → pc + 1 ≡ pc1 → slice_get u.ops pc ≡ Some (OpLocal k)
      → Goes w.flat (run w.flat u held below pc stack st) (load k st) (pushes pc1 stack) fails
  load_goes k pc pc1 stack st e at =
      goes_op w.flat u held below pc stack st (OpLocal k) (load k st) (pushes pc1 stack) fails at (go (slice_get st.locals k))
    where
      go : (o : Option (Option FlatValue)) → Goes w.flat (loaded o u pc (record { stack = stack; locals = st.locals; status = Fine }) held (below st.homes) st.world) (word_loaded o st) (pushes pc1 stack) fails
      go None = tt
      go (Some None) = here w.flat (Over (Halts Unset) st.world)
      go (Some (Some v)) = at_end w.flat u held below (pc + 1) pc1 (v ∷ stack) st e

  -- a word is set, and what follows goes on
  pub store_goes : {A : Type 0} (k : ℕ) (v : FlatValue) (pc : ℕ) (stack : List FlatValue) (st : State) (f : State → Outcome A) (good : A → State → Config) → slice_get u.ops pc ≡ Some (OpSet k)
      → ((st1 : State) → Goes w.flat (run w.flat u held below (pc + 1) stack st1) (f st1) good fails)
      → Goes w.flat (run w.flat u held below pc (v ∷ stack) st) (store k v st f) good fails
  store_goes k v pc stack st f good at g =
      let st1 : State = record { locals = set st.locals k (Some v); homes = st.homes; world = st.world } in
      goes_op w.flat u held below pc (v ∷ stack) st (OpSet k) (store k v st f) good fails at (go (nat_lt k (length st.locals)) (g st1))
    where
      st1 : State
      st1 = record { locals = set st.locals k (Some v); homes = st.homes; world = st.world }

      go : (t : Bool) → Goes w.flat (run w.flat u held below (pc + 1) stack st1) (f st1) good fails
          → Goes w.flat (if t then run w.flat u held below (pc + 1) stack st1 else stuck st.world) (given t st (f st1)) good fails
      go true h = h
      go false h = tt

  -- a field is set, and what follows goes on
  pub set_field_goes : {A : Type 0} (class : List ℕ) (i : ℕ) (v : FlatValue) (pc : ℕ) (stack : List FlatValue) (st : State) (f : State → Outcome A) (good : A → State → Config) → slice_get u.ops pc ≡ Some (OpSetfield class i)
      → ((st1 : State) → Goes w.flat (run w.flat u held below (pc + 1) stack st1) (f st1) good fails)
      → Goes w.flat (run w.flat u held below pc (v ∷ stack) st) (set_field_of w u class i v st f) good fails
  set_field_goes class i v pc stack st f good at g =
      let K : Deed Act → Config = leads w.flat u held below (OpSetfield class i) NoLoop pc (v ∷ stack) st in
      goes_op w.flat u held below pc (v ∷ stack) st (OpSetfield class i) (set_field_of w u class i v st f) good fails at
      (goes_self w.flat K st good fails w units u _ _ (λ k of. goes_test w.flat K st good fails (w.flat.inherits of class && nat_lt i (w.flat.slots class)) _ _
      (goes_read w.flat (acts w.flat u held below (OpSetfield class i) NoLoop pc (v ∷ stack) st) st good fails (set_field k class i v st.world) (λ t y. Falls stack Fine y) _ (λ x y. refl) (λ t y. g (with_world st y)))))

  pub new_goes : (c : List ℕ) (s : Site) (pc pc1 : ℕ) (stack : List FlatValue) (st : State) → pc + 1 ≡ pc1 → slice_get u.ops pc ≡ Some (OpNew c)
      → Goes w.flat (run w.flat u held below pc stack st) (new_of w u s c st) (pushes pc1 stack) fails
  new_goes c s pc pc1 stack st e at =
      let K : Deed Act → Config = leads w.flat u held below (OpNew c) NoLoop pc stack st in
      goes_op w.flat u held below pc stack st (OpNew c) (new_of w u s c st) (pushes pc1 stack) fails at
      (goes_some w.flat K st (pushes pc1 stack) fails (w.flat.weight c) _ _
      (λ k. goes_paid w.flat (takes_both 1 k) st _ (λ st1. on_world (add_object (Instance c []) st1.world) st1 (λ j st2. Gives (Ref j as_whole) st2)) (pushes pc1 stack) fails
      (λ v. at_end w.flat u held below (pc + 1) pc1 _ _ e)))

  -- one turn, and what follows goes on
  pub turn_goes : {A : Type 0} (pc : ℕ) (stack : List FlatValue) (st : State) (f : State → Outcome A) (good : A → State → Config) → slice_get u.ops pc ≡ Some OpTurn
      → ((st1 : State) → Goes w.flat (run w.flat u held below (pc + 1) stack st1) (f st1) good fails)
      → Goes w.flat (run w.flat u held below pc stack st) (pay (takes_turns 1) st f) good fails
  turn_goes pc stack st f good at g =
      goes_op w.flat u held below pc stack st OpTurn (pay (takes_turns 1) st f) good fails at
      (goes_paid w.flat (takes_turns 1) st _ f good fails (λ v. g (with_world st v)))

  -- a jump within
  pub jump_goes : {A : Type 0} (pc l : ℕ) (stack : List FlatValue) (st : State) (r : Outcome A) (good : A → State → Config) → is_body u ≡ false → nat_lt l (length u.ops) ≡ true → leaves_body l held ≡ false → slice_get u.ops pc ≡ Some (OpGo l)
      → Goes w.flat (run w.flat u held below l stack st) r good fails → Goes w.flat (run w.flat u held below pc stack st) r good fails
  jump_goes pc l stack st r good plain lt lv at g =
      goes_op w.flat u held below pc stack st (OpGo l) r good fails at
      (subst (λ c. Goes w.flat c r good fails) (sym (go_within w.flat u held below l (record { stack = stack; locals = st.locals; status = Fine }) (below st.homes) st.world plain lt lv)) g)

  -- a test, and two ways
  pub unless_goes : {A : Type 0} (pc l : ℕ) (v : FlatValue) (stack : List FlatValue) (st : State) (r1 r2 : Outcome A) (good : A → State → Config) → is_body u ≡ false → nat_lt l (length u.ops) ≡ true → leaves_body l held ≡ false → slice_get u.ops pc ≡ Some (OpUnless l)
      → Goes w.flat (run w.flat u held below l stack st) r1 good fails → Goes w.flat (run w.flat u held below (pc + 1) stack st) r2 good fails
      → Goes w.flat (run w.flat u held below pc (v ∷ stack) st) (with_int v st (λ x. at_zero x r1 r2)) good fails
  unless_goes pc l v stack st r1 r2 good plain lt lv at g1 g2 =
      goes_op w.flat u held below pc (v ∷ stack) st (OpUnless l) (with_int v st (λ x. at_zero x r1 r2)) good fails at
      (goes_int w.flat K st good fails v _ _ ways)
    where
      K : Deed Act → Config
      K = leads w.flat u held below (OpUnless l) NoLoop pc (v ∷ stack) st

      ways : (x : ℤ) → Goes w.flat (K (free (λ w1. at_zero x (Jumps stack Fine w1) (Falls stack Fine w1)))) (at_zero x r1 r2) good fails
      ways (pos zero) = subst (λ c. Goes w.flat c r1 good fails) (sym (go_within w.flat u held below l (record { stack = stack; locals = st.locals; status = Fine }) (below st.homes) st.world plain lt lv)) g1
      ways (pos (suc k)) = g2
      ways (negsuc k) = g2

  -- statements of one operation
  pub setat_goes : (a i v : FlatValue) (pc pc1 : ℕ) (stack : List FlatValue) (st : State) (good : How → State → Config) → slice_get u.ops pc ≡ Some (OpSetat n) → cover_upto u.ops pc pc ≡ h
      → ((st1 : State) → Comes w.flat (run w.flat u held below (pc + 1) stack st1) (good Done st1))
      → Goes w.flat (run w.flat u held below pc (v ∷ i ∷ a ∷ stack) st) (set_element_of a i v st) good fails
  setat_goes a i v pc pc1 stack st good at ch g =
      let K : Deed Act → Config = leads w.flat u held below (OpSetat n) NoLoop pc (v ∷ i ∷ a ∷ stack) st in
      goes_op w.flat u held below pc (v ∷ i ∷ a ∷ stack) st (OpSetat n) (set_element_of a i v st) good fails at
      (goes_whole w.flat K st good fails a _ _ (λ k. goes_int w.flat K st good fails i _ _
      (λ j. goes_effect w.flat (acts w.flat u held below (OpSetat n) NoLoop pc (v ∷ i ∷ a ∷ stack) st) st good fails (set_element k j v st.world) (λ t y. Falls stack Fine y) _ (λ x y. fails_to w.flat u held below n pc h x None (with_world st y) size ch) (λ x y. refl) (λ t y. g (with_world st y)))))

  pub put_byte_goes : (v : FlatValue) (pc : ℕ) (stack : List FlatValue) (st : State) (good : How → State → Config) → slice_get u.ops pc ≡ Some (OpPutbyte n) → cover_upto u.ops pc pc ≡ h
      → ((st1 : State) → Comes w.flat (run w.flat u held below (pc + 1) stack st1) (good Done st1))
      → Goes w.flat (run w.flat u held below pc (v ∷ stack) st) (put_byte_of v st) good fails
  put_byte_goes v pc stack st good at ch g =
      let K : Deed Act → Config = leads w.flat u held below (OpPutbyte n) NoLoop pc (v ∷ stack) st in
      goes_op w.flat u held below pc (v ∷ stack) st (OpPutbyte n) (put_byte_of v st) good fails at
      (goes_int w.flat K st good fails v _ _
      (λ j. goes_effect w.flat (acts w.flat u held below (OpPutbyte n) NoLoop pc (v ∷ stack) st) st good fails (put_byte j st.world) (λ t y. Falls stack Fine y) _ (λ x y. fails_to w.flat u held below n pc h x None (with_world st y) size ch) (λ x y. refl) (λ t y. g (with_world st y))))

  pub put_int_goes : (v : FlatValue) (pc : ℕ) (stack : List FlatValue) (st : State) (good : How → State → Config) → slice_get u.ops pc ≡ Some OpPutint
      → ((st1 : State) → Comes w.flat (run w.flat u held below (pc + 1) stack st1) (good Done st1))
      → Goes w.flat (run w.flat u held below pc (v ∷ stack) st) (put_int_of v st) good fails
  put_int_goes v pc stack st good at g =
      let K : Deed Act → Config = leads w.flat u held below OpPutint NoLoop pc (v ∷ stack) st in
      goes_op w.flat u held below pc (v ∷ stack) st OpPutint (put_int_of v st) good fails at
      (goes_int w.flat K st good fails v _ _
      (λ j. goes_paid w.flat (takes_turns (length (signed_decimal j) + 1)) st _ (λ st1. Gives Done (with_world st1 (put_all (signed_decimal j) st1.world))) good fails
      (λ y. g (with_world st (put_all (signed_decimal j) y)))))

  putting : (bytes : List ℕ) (pc : ℕ) (stack : List FlatValue) (st : State) (good : How → State → Config)
      → ((st1 : State) → Comes w.flat (run w.flat u held below pc stack st1) (good Done st1))
      → Goes w.flat (Putting bytes u pc (record { stack = stack; locals = st.locals; status = Fine }) held (below st.homes) st.world) (put_each bytes st) good fails
  putting [] pc stack st good g = first w.flat _ _ (g st)
  putting (b ∷ bytes) pc stack st good g =
      let c = Putting (b ∷ bytes) u pc (record { stack = stack; locals = st.locals; status = Fine }) held (below st.homes) st.world in
      let go : FlatWorld → Config = λ y. Putting bytes u pc (record { stack = stack; locals = st.locals; status = Fine }) held (below st.homes) (note (Put b) y) in
      goes_after w.flat c (paid w.flat (takes_turns 1) st.world go) (put_each (b ∷ bytes) st) good fails (one w.flat c (paid w.flat (takes_turns 1) st.world go) refl)
      (goes_paid w.flat (takes_turns 1) st go (λ st1. put_each bytes (with_world st1 (note (Put b) st1.world))) good fails
      (λ y. putting bytes pc stack (with_world st (note (Put b) y)) good g))

  pub put_text_goes : (v : FlatValue) (pc : ℕ) (stack : List FlatValue) (st : State) (good : How → State → Config) → slice_get u.ops pc ≡ Some OpPuttext
      → ((st1 : State) → Comes w.flat (run w.flat u held below (pc + 1) stack st1) (good Done st1))
      → Goes w.flat (run w.flat u held below pc (v ∷ stack) st) (put_text_of v st) good fails
  put_text_goes v pc stack st good at g =
      let K : Deed Act → Config = leads w.flat u held below OpPuttext NoLoop pc (v ∷ stack) st in
      goes_op w.flat u held below pc (v ∷ stack) st OpPuttext (put_text_of v st) good fails at
      (goes_text w.flat K st good fails v _ _
      (λ bytes. goes_paid w.flat (takes_turns 1) st _ (λ st1. put_each bytes st1) good fails (λ y. putting bytes (pc + 1) stack (with_world st y) good g)))

  pub drop_goes : {A : Type 0} (v : FlatValue) (pc : ℕ) (stack : List FlatValue) (st : State) (r : Outcome A) (good : A → State → Config) → slice_get u.ops pc ≡ Some OpDrop
      → Goes w.flat (run w.flat u held below (pc + 1) stack st) r good fails → Goes w.flat (run w.flat u held below pc (v ∷ stack) st) r good fails
  drop_goes v pc stack st r good at g = goes_op w.flat u held below pc (v ∷ stack) st OpDrop r good fails at g

  -- a return
  pub return_goes : (v : Option FlatValue) (pc : ℕ) (stack : List FlatValue) (st : State) (good : How → State → Config) → is_body u ≡ false → slice_get u.ops pc ≡ Some (OpReturn (flag v))
      → Comes w.flat (Returned Fine v (below st.homes) (give_back (weight_of u + room_of held) st.world)) (good (Return v) st)
      → Goes w.flat (run w.flat u held below pc (push_some v stack) st) (return_of w u v st) good fails
  return_goes v pc stack st good plain at g = by_value v at g
    where
      ends : (x : Option FlatValue) → Comes w.flat (Returned Fine x (below st.homes) (give_back (weight_of u + room_of held) st.world)) (good (Return x) st)
          → (t : Bool) → Goes w.flat (if t then ends_as u Fine x st.locals held (below st.homes) st.world else stuck st.world) (given t st (Gives (Return x) st)) good fails
      ends x g true = subst (λ b. Comes w.flat (if b then body_ends held u Fine x st.locals (below st.homes) st.world else Returned Fine x (below st.homes) (give_back (weight_of u + room_of held) st.world)) (good (Return x) st)) (sym plain) g
      ends x g false = tt

      by_value : (x : Option FlatValue) → slice_get u.ops pc ≡ Some (OpReturn (flag x)) → Comes w.flat (Returned Fine x (below st.homes) (give_back (weight_of u + room_of held) st.world)) (good (Return x) st)
          → Goes w.flat (run w.flat u held below pc (push_some x stack) st) (return_of w u x st) good fails
      by_value None at g = goes_op w.flat u held below pc stack st (OpReturn 0) (return_of w u None st) good fails at (ends None g (gives_result (w.flat.result u.name) None))
      by_value (Some x) at g = goes_op w.flat u held below pc (x ∷ stack) st (OpReturn 1) (return_of w u (Some x) st) good fails at (ends (Some x) g (gives_result (w.flat.result u.name) (Some x)))

  -- a raise
  pub raise_goes : {A : Type 0} (x : List ℕ) (v : Option FlatValue) (pc : ℕ) (stack : List FlatValue) (st : State) (good : A → State → Config) → slice_get u.ops pc ≡ Some (OpRaise x (flag v) n) → cover_upto u.ops pc pc ≡ h
      → Goes w.flat (run w.flat u held below pc (push_some v stack) st) (Throws x v st) good fails
  raise_goes x None pc stack st good at ch =
      goes_op w.flat u held below pc stack st (OpRaise x 0 n) (Throws x None st) good fails at
      (subst (λ c. Comes w.flat (fail_to (Some n) u pc (Thrown x None) st.locals held (below st.homes) st.world) c) (fails_to w.flat u held below n pc h x None st size ch) (here w.flat _))
  raise_goes x (Some v) pc stack st good at ch =
      goes_op w.flat u held below pc (v ∷ stack) st (OpRaise x 1 n) (Throws x (Some v) st) good fails at
      (subst (λ c. Comes w.flat (fail_to (Some n) u pc (Thrown x (Some v)) st.locals held (below st.homes) st.world) c) (fails_to w.flat u held below n pc h x (Some v) st size ch) (here w.flat _))
