-- Calls: from the operands to the entry, and from the end of what was called back.
use Rattle.std.proofs.Common.{◌≡◌, ℕ, zero, suc, ◌+◌, Bool, true, false, not, List, [], ◌∷◌, ◌++◌, length, Option, Some, None, refl, sym, ap, subst, arith}
use Rattle.std.specs.Prelude.{slice_get, nat_eq, option_map, ◌&&◌}
use Rattle.th_meaning.specs.Trees.{CallTree, routine_call, method_call, hidden_call, super_call, where_call, init_call}
use Rattle.th_meaning.specs.Program.{method_name, init_name}
use Rattle.th_flat.specs.declared.op.FlatOp.{FlatOp}
use Rattle.th_flat.specs.declared.op.FlatOp.TheVariants.{OpCall, OpDispatch, OpHidden, OpSupply}
use Rattle.th_flat.specs.declared.module.FlatUnit.{FlatUnit}
use Rattle.th_flat.specs.Values.{as_whole, FlatValue, Ref, FlatWorld, Status, Fine, Thrown}
use Rattle.th_flat.specs.Program.{FlatProgram, and_if}
use Rattle.th_flat.specs.Deeds.{Charge, no_charge, takes_turns, Act, Calls, Deed, on_top, on_some, on_test, on_seen, on_whole, on_class, on_code, on_receiver, call_charge}
use Rattle.th_flat.specs.Deeds.{calling as deed_calling}
use Rattle.th_flat.specs.Configs.{Loop, NoLoop, Stack, Call, Config, Run, Entering, Returned, Over, Ends, is_body, is_iterator, cover_upto, with_value, seen_at_result, back_seen, back_at}
use Rattle.th_lowering.specs.Homes.{home}
use Rattle.th_lowering.specs.Sizes.{count}
use Rattle.th_lowering.specs.Site.{Site}
use Rattle.th_lowering.specs.Code.{call_op}
use Rattle.th_viewed.specs.Sources.{Source, flat_of, WordProgram, AreLoweredFrom}
use Rattle.th_viewed.specs.Evaluation.{Locals, State, Outcome, Gives, Throws, Halted, Leave, How, Done, Exit, Return, Cut, with_world, given, with_some, with_class, pay, no_body, Units, Target, calling, call, back_in, dispatch, call_named, call_hidden, call_supply, aim, view_of, at_home}
use Rattle.th_viewed.proofs.Follow.{Comes, here, one, comes_on, Goes, goes_after, goes_paid}
use Rattle.th_viewed.proofs.Acts.{push_all, off_all, goes_code, goes_whole, goes_seen, goes_test, goes_class, run, bad, leads, goes_op_in, at_end, fails_to}

-- what lies below a running unit, by the local words of the homes
abbrev pub Below : Type 0
Below = List Locals → Stack

-- where a unit's end leads: `up` says where it leads that a loop's body left its loop
abbrev pub fin : Below → (Leave → State → Config) → How → State → Config
fin below up Done st = Over Ends st.world
fin below up Exit st = Over Ends st.world
fin below up (Return v) st = Returned Fine v (below st.homes) st.world
fin below up (Cut l) st = up l (at_home st)

-- where a unit's exception leads
abbrev pub thrown : Below → List ℕ → Option FlatValue → State → Config
thrown below x v st = Returned (Thrown x v) None (below st.homes) st.world

-- in a call that no loop is open for nothing is left by a yield
abbrev pub no_up : Leave → State → Config
no_up l st = Over Ends st.world

-- whether a unit is called by a call that isn't a loop's
abbrev pub is_plain : Source → Bool
is_plain g = not (is_iterator (flat_of g)) && not (is_body (flat_of g))

-- the runs of called units are those of Flat
pub record CallsRun (w : WordProgram) (units : Units) : Type 0 where
  pub by : (g : Source) (args : List FlatValue) (u : FlatUnit) (pc : ℕ) (stack : List FlatValue) (ls : Locals) (held below : Stack) (wd : FlatWorld) → is_plain g ≡ true
      → Goes w.flat (Entering (flat_of g) args (Call u pc stack ls held NoLoop below) wd) (units g args no_body [] wd) (fin (λ hs. Call u pc stack ls held NoLoop below) no_up) (thrown (λ hs. Call u pc stack ls held NoLoop below))

-- as many words as a call's operands are
abbrev pub words_in : CallTree → ℕ
words_in (routine_call f ts ss es) = length ss + count es
words_in (method_call of m e es) = count es + 1
words_in (hidden_call c m es) = count es + 1
words_in (super_call c m es) = count es + 1
words_in (where_call k m e es) = count es + 1 + 1
words_in (init_call c ts ss es) = length ss + count es + 1

-- how many words a call gives whose statement wants f
abbrev pub flag_of : CallTree → ℕ → ℕ
flag_of (routine_call u ts ss es) f = f
flag_of (method_call t m e es) f = f
flag_of (hidden_call c m es) f = f
flag_of (super_call c m es) f = f
flag_of (where_call k m e es) f = f
flag_of (init_call c ts ss es) f = 1

-- what is entered, above the call at an operation
abbrev pub enters : FlatUnit → Stack → Below → Loop → ℕ → List FlatValue → Target → State → Config
enters u held below loop pc stack t st = Entering (flat_of t.unit) t.args (Call u pc stack st.locals held loop (below st.homes)) st.world

-- the unit at a call with its loop body
abbrev pub at_call : FlatUnit → Stack → Below → Loop → ℕ → List FlatValue → State → Config
at_call u held below loop pc stack st = Run u pc loop (record { stack = stack; locals = st.locals; status = Fine }) held (below st.homes) st.world

-- what follows a call at an operation whose unit ended, and gives f words
pub record Backs (p : FlatProgram) (u : FlatUnit) (n : ℕ) (held : Stack) (view : Option (List ℕ)) (f pc : ℕ) : Type 0 where
  pub is : (s : Status) (v : Option FlatValue) (stack : List FlatValue) (ls : Locals) (loop : Loop) (wd : FlatWorld) (bel : Stack)
      → back_at p (slice_get u.ops pc) s v u pc stack ls held loop bel wd ≡ back_seen p (seen_at_result p view v) s f (Some n) u pc stack ls held loop bel wd

module _ (w : WordProgram) (lowered : AreLoweredFrom w) (units : Units) (u : FlatUnit) (n : ℕ) (size : length u.ops ≡ n) (held : Stack) (below : Below) (h : Option ℕ) where
  abbrev pub fails : List ℕ → Option FlatValue → State → Config
  fails = bad w.flat u held below h

  goes_lowered : {A : Type 0} (K : Deed Act → Config) (st : State) (good : A → State → Config) (o : Option FlatUnit) (g : Option Source) (go : FlatUnit → Deed Act) (f : Source → Outcome A) → o ≡ option_map flat_of g
      → ((x : Source) → Goes w.flat (K (go (flat_of x))) (f x) good fails) → Goes w.flat (K (on_some o go)) (with_some g st f) good fails
  goes_lowered K st good o None go f e k = tt
  goes_lowered K st good o (Some x) go f e k = subst (λ y. Goes w.flat (K (on_some y go)) (f x) good fails) (sym e) (k x)

  pub stub_goes : {A : Type 0} (K : Deed Act → Config) (st : State) (good : A → State → Config) (name : List ℕ) (go : FlatUnit → Deed Act) (f : Source → Outcome A)
      → ((x : Source) → Goes w.flat (K (go (flat_of x))) (f x) good fails) → Goes w.flat (K (on_some (w.flat.unit name) go)) (with_some (w.unit name) st f) good fails
  stub_goes K st good name go f k = goes_lowered K st good (w.flat.unit name) (w.unit name) go f (lowered.unit name) k

  calling_goes : (op : FlatOp) (loop : Loop) (pc : ℕ) (stack0 stack : List FlatValue) (st : State) (o : Option FlatUnit) (g : Option Source) (charge : FlatUnit → Charge) (args : List FlatValue) → o ≡ option_map flat_of g
      → Goes w.flat (leads w.flat u held below op loop pc stack0 st (deed_calling o charge args stack)) (calling g charge args st) (enters u held below loop pc stack) fails
  calling_goes op loop pc stack0 stack st o g charge args e =
      let K : Deed Act → Config = leads w.flat u held below op loop pc stack0 st in
      goes_lowered K st (enters u held below loop pc stack) o g (λ x. on_test (nat_eq (length args) x.args) (record { charge = charge x; act = λ v. Calls x args stack v }))
      (λ x. given (nat_eq (length args) (flat_of x).args) st (pay (charge (flat_of x)) st (λ st1. Gives (record { unit = x; args = args }) st1))) e
      (λ x. goes_test w.flat K st (enters u held below loop pc stack) fails (nat_eq (length args) (flat_of x).args) (record { charge = charge (flat_of x); act = λ v. Calls (flat_of x) args stack v }) (pay (charge (flat_of x)) st (λ st1. Gives (record { unit = x; args = args }) st1))
      (goes_paid w.flat (charge (flat_of x)) st (λ v. Entering (flat_of x) args (Call u pc stack st.locals held loop (below st.homes)) v) (λ st1. Gives (record { unit = x; args = args }) st1) (enters u held below loop pc stack) fails
      (λ v. here w.flat (Entering (flat_of x) args (Call u pc stack st.locals held loop (below st.homes)) v))))

  pub named_goes : (name : List ℕ) (k f : ℕ) (vs : List FlatValue) (loop : Loop) (pc : ℕ) (stack : List FlatValue) (st : State) → length vs ≡ k → slice_get u.ops pc ≡ Some (OpCall name k f n)
      → Goes w.flat (at_call u held below loop pc (push_all vs stack) st) (call_named w name vs st) (enters u held below loop pc stack) fails
  named_goes name k f vs loop pc stack st len at =
      let K : Deed Act → Config = leads w.flat u held below (OpCall name k f n) loop pc (push_all vs stack) st in
      let go : List FlatValue → List FlatValue → Deed Act = λ xs rest. deed_calling (w.flat.called name) (λ g. call_charge g.kind) xs rest in
      goes_op_in w.flat u held below loop pc (push_all vs stack) st (OpCall name k f n) (call_named w name vs st) (enters u held below loop pc stack) fails at
      (subst (λ d. Goes w.flat (K d) (call_named w name vs st) (enters u held below loop pc stack) fails) (sym (off_all vs stack k go len))
      (calling_goes (OpCall name k f n) loop pc (push_all vs stack) stack st (w.flat.called name) (w.called name) (λ g. call_charge g.kind) vs (lowered.called name)))

  pub dispatch_goes : (head m : List ℕ) (k f : ℕ) (vs : List FlatValue) (loop : Loop) (pc : ℕ) (stack : List FlatValue) (st : State) → length vs ≡ k → slice_get u.ops pc ≡ Some (OpDispatch head m k f n)
      → Goes w.flat (at_call u held below loop pc (push_all vs stack) st) (dispatch w head m vs st) (enters u held below loop pc stack) fails
  dispatch_goes head m k f vs loop pc stack st len at =
      goes_op_in w.flat u held below loop pc (push_all vs stack) st op (dispatch w head m vs st) (enters u held below loop pc stack) fails at
      (subst (λ d. Goes w.flat (K d) (dispatch w head m vs st) (enters u held below loop pc stack) fails) (sym (off_all vs stack k go len)) (by_first vs))
    where
      op : FlatOp
      op = OpDispatch head m k f n

      K : Deed Act → Config
      K = leads w.flat u held below op loop pc (push_all vs stack) st

      target : List FlatValue → List FlatValue → ℕ → List ℕ → Deed Act
      target rest more j class = deed_calling (w.flat.dispatched head m class) (λ g. takes_turns 1) (Ref j as_whole ∷ rest) more

      go : List FlatValue → List FlatValue → Deed Act
      go xs more = on_receiver xs (λ v rest. on_seen head v (λ j. on_class (slice_get st.world.objects j) (λ class. target rest more j class)))

      by_first : (xs : List FlatValue) → Goes w.flat (K (go xs stack)) (dispatch w head m xs st) (enters u held below loop pc stack) fails
      by_first [] = tt
      by_first (v ∷ rest) =
          goes_seen w.flat K st (enters u held below loop pc stack) fails head v (λ j. on_class (slice_get st.world.objects j) (λ class. target rest stack j class))
          (λ j. with_class (slice_get st.world.objects j) st (λ class. calling (w.dispatched head m class) (λ g. takes_turns 1) (Ref j as_whole ∷ rest) st))
          (λ j. goes_class w.flat K st (enters u held below loop pc stack) fails (slice_get st.world.objects j) (λ class. target rest stack j class) (λ class. calling (w.dispatched head m class) (λ g. takes_turns 1) (Ref j as_whole ∷ rest) st)
          (λ class. calling_goes op loop pc (push_all vs stack) stack st (w.flat.dispatched head m class) (w.dispatched head m class) (λ g. takes_turns 1) (Ref j as_whole ∷ rest) (lowered.dispatched head m class)))

  pub hidden_goes : (c m : List ℕ) (k f : ℕ) (vs : List FlatValue) (loop : Loop) (pc : ℕ) (stack : List FlatValue) (st : State) → length vs ≡ k → slice_get u.ops pc ≡ Some (OpHidden c m k f n)
      → Goes w.flat (at_call u held below loop pc (push_all vs stack) st) (call_hidden w c m vs st) (enters u held below loop pc stack) fails
  hidden_goes c m k f vs loop pc stack st len at =
      goes_op_in w.flat u held below loop pc (push_all vs stack) st op (call_hidden w c m vs st) (enters u held below loop pc stack) fails at
      (subst (λ d. Goes w.flat (K d) (call_hidden w c m vs st) (enters u held below loop pc stack) fails) (sym (off_all vs stack k go len)) (by_first vs))
    where
      op : FlatOp
      op = OpHidden c m k f n

      K : Deed Act → Config
      K = leads w.flat u held below op loop pc (push_all vs stack) st

      target : FlatValue → List FlatValue → List FlatValue → List ℕ → Deed Act
      target v rest more of = deed_calling (w.flat.hidden c m of) (λ g. takes_turns 1) (v ∷ rest) more

      go : List FlatValue → List FlatValue → Deed Act
      go xs more = on_receiver xs (λ v rest. on_whole v (λ j. on_class (slice_get st.world.objects j) (λ of. target v rest more of)))

      by_first : (xs : List FlatValue) → Goes w.flat (K (go xs stack)) (call_hidden w c m xs st) (enters u held below loop pc stack) fails
      by_first [] = tt
      by_first (v ∷ rest) =
          goes_whole w.flat K st (enters u held below loop pc stack) fails v (λ j. on_class (slice_get st.world.objects j) (λ of. target v rest stack of))
          (λ j. with_class (slice_get st.world.objects j) st (λ of. calling (w.hidden c m of) (λ g. takes_turns 1) (v ∷ rest) st))
          (λ j. goes_class w.flat K st (enters u held below loop pc stack) fails (slice_get st.world.objects j) (λ of. target v rest stack of) (λ of. calling (w.hidden c m of) (λ g. takes_turns 1) (v ∷ rest) st)
          (λ of. calling_goes op loop pc (push_all vs stack) stack st (w.flat.hidden c m of) (w.hidden c m of) (λ g. takes_turns 1) (v ∷ rest) (lowered.hidden c m of)))

  pub supply_goes : (k f : ℕ) (v : FlatValue) (vs : List FlatValue) (loop : Loop) (pc : ℕ) (stack : List FlatValue) (st : State) → length vs ≡ k → slice_get u.ops pc ≡ Some (OpSupply k f n)
      → Goes w.flat (at_call u held below loop pc (push_all vs (v ∷ stack)) st) (call_supply w (v ∷ vs) st) (enters u held below loop pc stack) fails
  supply_goes k f v vs loop pc stack st len at =
      goes_op_in w.flat u held below loop pc (push_all vs (v ∷ stack)) st op (call_supply w (v ∷ vs) st) (enters u held below loop pc stack) fails at
      (subst (λ d. Goes w.flat (K d) (call_supply w (v ∷ vs) st) (enters u held below loop pc stack) fails) (sym (off_all vs (v ∷ stack) k go len))
      (goes_code w.flat K st (enters u held below loop pc stack) fails v (λ name. on_some (w.flat.unit name) (λ g. on_test (nat_eq g.kind 6) (deed_calling (Some g) (λ x. no_charge) vs stack)))
      (λ name. with_some (w.unit name) st (λ g. given (nat_eq (flat_of g).kind 6) st (calling (Some g) (λ x. no_charge) vs st)))
      (λ name. stub_goes K st (enters u held below loop pc stack) name (λ g. on_test (nat_eq g.kind 6) (deed_calling (Some g) (λ x. no_charge) vs stack)) (λ g. given (nat_eq (flat_of g).kind 6) st (calling (Some g) (λ x. no_charge) vs st))
      (λ g. goes_test w.flat K st (enters u held below loop pc stack) fails (nat_eq (flat_of g).kind 6) (deed_calling (Some (flat_of g)) (λ x. no_charge) vs stack) (calling (Some g) (λ x. no_charge) vs st)
      (calling_goes op loop pc (push_all vs (v ∷ stack)) stack st (Some (flat_of g)) (Some g) (λ x. no_charge) vs refl)))))
    where
      op : FlatOp
      op = OpSupply k f n

      K : Deed Act → Config
      K = leads w.flat u held below op loop pc (push_all vs (v ∷ stack)) st

      go : List FlatValue → List FlatValue → Deed Act
      go xs more = on_top more (λ x rest. on_code x (λ name. on_some (w.flat.unit name) (λ g. on_test (nat_eq g.kind 6) (deed_calling (Some g) (λ y. no_charge) xs rest))))

  -- the words that are given go on the stack
  given_goes : (o : Option (Option FlatValue)) (f pc pc1 : ℕ) (stack : List FlatValue) (st st1 : State) → pc + 1 ≡ pc1
      → Goes w.flat (back_seen w.flat o Fine f (Some n) u pc stack st.locals held NoLoop (below st.homes) st1.world) (with_some (and_if o (λ x. with_value f x [])) st1 (λ vs. Gives vs (with_world st st1.world))) (λ vs st2. run w.flat u held below pc1 (vs ++ stack) st2) fails
  given_goes None f pc pc1 stack st st1 e = tt
  given_goes (Some None) zero pc pc1 stack st st1 e = at_end w.flat u held below (pc + 1) pc1 stack (with_world st st1.world) e
  given_goes (Some (Some v)) zero pc pc1 stack st st1 e = tt
  given_goes (Some None) (suc zero) pc pc1 stack st st1 e = tt
  given_goes (Some (Some v)) (suc zero) pc pc1 stack st st1 e = at_end w.flat u held below (pc + 1) pc1 (v ∷ stack) (with_world st st1.world) e
  given_goes (Some x) (suc (suc f)) pc pc1 stack st st1 e = tt

  -- a call of a unit that raised
  pub raised_back : (view : Option (List ℕ)) (f pc : ℕ) (stack : List FlatValue) (ls : Locals) (loop : Loop) (st : State) (x : List ℕ) (v : Option FlatValue) → cover_upto u.ops pc pc ≡ h
      → back_seen w.flat (seen_at_result w.flat view None) (Thrown x v) f (Some n) u pc stack st.locals held loop (below st.homes) st.world ≡ fails x v st
  raised_back None f pc stack ls loop st x v ch = fails_to w.flat u held below n pc h x v st size ch
  raised_back (Some t) f pc stack ls loop st x v ch = fails_to w.flat u held below n pc h x v st size ch

  -- one step back from what was called
  pub back_step : (view : Option (List ℕ)) (f pc : ℕ) (s : Status) (v : Option FlatValue) (stack : List FlatValue) (ls : Locals) (loop : Loop) (wd : FlatWorld) (bel : Stack) → Backs w.flat u n held view f pc
      → Comes w.flat (Returned s v (Call u pc stack ls held loop bel) wd) (back_seen w.flat (seen_at_result w.flat view v) s f (Some n) u pc stack ls held loop bel wd)
  back_step view f pc s v stack ls loop wd bel backs = one w.flat _ _ (backs.is s v stack ls loop wd bel)

  back_goes : (view : Option (List ℕ)) (f pc pc1 : ℕ) (stack : List FlatValue) (st : State) (c : Config) (r : Outcome How) → pc + 1 ≡ pc1 → Backs w.flat u n held view f pc → cover_upto u.ops pc pc ≡ h
      → Goes w.flat c r (fin (λ hs. Call u pc stack st.locals held NoLoop (below st.homes)) no_up) (thrown (λ hs. Call u pc stack st.locals held NoLoop (below st.homes)))
      → Goes w.flat c (back_in w view f st r) (λ vs st2. run w.flat u held below pc1 (vs ++ stack) st2) fails
  back_goes view f pc pc1 stack st c (Gives Done st1) e backs ch g = tt
  back_goes view f pc pc1 stack st c (Gives Exit st1) e backs ch g = tt
  back_goes view f pc pc1 stack st c (Gives (Return v) st1) e backs ch g =
      let d = Returned Fine v (Call u pc stack st.locals held NoLoop (below st.homes)) st1.world in
      let d1 = back_seen w.flat (seen_at_result w.flat view v) Fine f (Some n) u pc stack st.locals held NoLoop (below st.homes) st1.world in
      let r = with_some (and_if (seen_at_result w.flat view v) (λ x. with_value f x [])) st1 (λ vs. Gives vs (with_world st st1.world)) in
      goes_after w.flat c d1 r (λ vs st2. run w.flat u held below pc1 (vs ++ stack) st2) fails
      (comes_on w.flat c d d1 g (back_step view f pc Fine v stack st.locals NoLoop st1.world (below st.homes) backs))
      (given_goes (seen_at_result w.flat view v) f pc pc1 stack st st1 e)
  back_goes view f pc pc1 stack st c (Gives (Cut l) st1) e backs ch g = tt
  back_goes view f pc pc1 stack st c (Throws x v st1) e backs ch g =
      let d = Returned (Thrown x v) None (Call u pc stack st.locals held NoLoop (below st.homes)) st1.world in
      let st2 = with_world st st1.world in
      comes_on w.flat c d (fails x v st2) g
      (subst (λ z. Comes w.flat d z) (raised_back view f pc stack st.locals NoLoop st2 x v ch) (back_step view f pc (Thrown x v) None stack st.locals NoLoop st1.world (below st.homes) backs))
  back_goes view f pc pc1 stack st c (Halted x wd) e backs ch g = g

  -- a call, from the entry
  pub call_goes : CallsRun w units → (view : Option (List ℕ)) (f pc pc1 : ℕ) (stack : List FlatValue) (t : Target) (st : State) → pc + 1 ≡ pc1 → Backs w.flat u n held view f pc → cover_upto u.ops pc pc ≡ h
      → Goes w.flat (enters u held below NoLoop pc stack t st) (call w units view f t st) (λ vs st2. run w.flat u held below pc1 (vs ++ stack) st2) fails
  call_goes calls view f pc pc1 stack t st e backs ch = go (is_plain t.unit) refl
    where
      go : (b : Bool) → is_plain t.unit ≡ b → Goes w.flat (enters u held below NoLoop pc stack t st) (given b st (back_in w view f st (units t.unit t.args no_body [] st.world))) (λ vs st2. run w.flat u held below pc1 (vs ++ stack) st2) fails
      go true is = back_goes view f pc pc1 stack st (enters u held below NoLoop pc stack t st) (units t.unit t.args no_body [] st.world) e backs ch (calls.by t.unit t.args u pc stack st.locals held (below st.homes) st.world is)
      go false is = tt

  pub call_backs : (name : List ℕ) (k f pc : ℕ) → slice_get u.ops pc ≡ Some (OpCall name k f n) → Backs w.flat u n held (w.flat.called_result name) f pc
  call_backs name k f pc at = record { is = λ s v stack ls loop wd bel. ap (λ o. back_at w.flat o s v u pc stack ls held loop bel wd) at }

  pub dispatch_backs : (head m : List ℕ) (k f pc : ℕ) → slice_get u.ops pc ≡ Some (OpDispatch head m k f n) → Backs w.flat u n held (w.flat.dispatched_result head m) f pc
  dispatch_backs head m k f pc at = record { is = λ s v stack ls loop wd bel. ap (λ o. back_at w.flat o s v u pc stack ls held loop bel wd) at }

  hidden_backs : (c m : List ℕ) (k f pc : ℕ) → slice_get u.ops pc ≡ Some (OpHidden c m k f n) → Backs w.flat u n held None f pc
  hidden_backs c m k f pc at = record { is = λ s v stack ls loop wd bel. ap (λ o. back_at w.flat o s v u pc stack ls held loop bel wd) at }

  supply_backs : (k f pc : ℕ) → slice_get u.ops pc ≡ Some (OpSupply k f n) → Backs w.flat u n held None f pc
  supply_backs k f pc at = record { is = λ s v stack ls loop wd bel. ap (λ o. back_at w.flat o s v u pc stack ls held loop bel wd) at }

module _ (w : WordProgram) (lowered : AreLoweredFrom w) (units : Units) (u : FlatUnit) (s : Site) (size : length u.ops ≡ s.count) (held : Stack) (below : Below) (h : Option ℕ) where
  -- each call, from its operands to the entry
  pub aim_goes : (c : CallTree) (f : ℕ) (vs : List FlatValue) (loop : Loop) (pc : ℕ) (stack : List FlatValue) (st : State) → length vs ≡ words_in c → slice_get u.ops pc ≡ Some (call_op s c f)
      → Goes w.flat (at_call u held below loop pc (push_all vs stack) st) (aim w u s c vs st) (enters u held below loop pc stack) (bad w.flat u held below h)
  aim_goes (routine_call name ts ss es) f vs loop pc stack st len at = named_goes w lowered units u s.count size held below h name (length ss + count es) f vs loop pc stack st len at
  aim_goes (method_call of m e es) f vs loop pc stack st len at = dispatch_goes w lowered units u s.count size held below h (home s.known of m) m (count es + 1) f vs loop pc stack st len at
  aim_goes (hidden_call c m es) f vs loop pc stack st len at = hidden_goes w lowered units u s.count size held below h c m (count es + 1) f vs loop pc stack st len at
  aim_goes (super_call c m es) f vs loop pc stack st len at = named_goes w lowered units u s.count size held below h (method_name c m) (count es + 1) f vs loop pc stack st len at
  aim_goes (where_call k m e es) f [] loop pc stack st len at = tt
  aim_goes (where_call k m e es) f (v ∷ vs) loop pc stack st len at = supply_goes w lowered units u s.count size held below h (count es + 1) f v vs loop pc stack st (omega (arith, len)) at
  aim_goes (init_call c ts ss es) f vs loop pc stack st len at = named_goes w lowered units u s.count size held below h (init_name c) (length ss + count es + 1) 1 vs loop pc stack st len at

  pub aim_backs : (c : CallTree) (f pc : ℕ) → slice_get u.ops pc ≡ Some (call_op s c f) → Backs w.flat u s.count held (view_of w u s c) (flag_of c f) pc
  aim_backs (routine_call name ts ss es) f pc at = call_backs w lowered units u s.count size held below h name (length ss + count es) f pc at
  aim_backs (method_call of m e es) f pc at = dispatch_backs w lowered units u s.count size held below h (home s.known of m) m (count es + 1) f pc at
  aim_backs (hidden_call c m es) f pc at = hidden_backs w lowered units u s.count size held below h c m (count es + 1) f pc at
  aim_backs (super_call c m es) f pc at = call_backs w lowered units u s.count size held below h (method_name c m) (count es + 1) f pc at
  aim_backs (where_call k m e es) f pc at = supply_backs w lowered units u s.count size held below h (count es + 1) f pc at
  aim_backs (init_call c ts ss es) f pc at = call_backs w lowered units u s.count size held below h (init_name c) (length ss + count es + 1) 1 pc at
