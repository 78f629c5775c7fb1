-- What an operation does of itself follows what its form does on words.
use Rattle.std.proofs.Common.{◌≡◌, ℕ, suc, ◌+◌, Bool, true, false, ◌||◌, not, List, [], ◌∷◌, ◌++◌, length, Option, Some, None, refl, sym, ap, ◌∙◌, subst, arith, append-nil}
use Rattle.std.specs.Prelude.{slice_get, nat_lt, bytes_eq, ℤ, if◌then◌else◌, ◌&&◌}
use Rattle.std.proofs.lemmas.Bool.{eq-eqb}
use Rattle.th_meaning.specs.World.{Object, Instance, Array, Halt, Effect, Did, Fails, Stops}
use Rattle.th_flat.specs.declared.op.FlatOp.{FlatOp}
use Rattle.th_flat.specs.declared.module.FlatUnit.{FlatUnit}
use Rattle.th_flat.specs.Values.{View, as_whole, at_type, FlatValue, Int, Ref, Text, Code, FlatWorld, Fine, Thrown}
use Rattle.th_flat.specs.Program.{FlatProgram}
use Rattle.th_flat.specs.Deeds.{Act, Failing, Stands, Deed, on_effect, on_int, on_ref, on_text, on_code, if_whole, if_at, on_whole, on_seen, on_some, on_test, off, on_class, on_self, doing}
use Rattle.th_flat.specs.Configs.{Loop, NoLoop, Here, Stack, Config, Run, Over, Halts, self_of, cover_upto, fail_at, fail_to, way_of, failure_of, finish, op_deed, paid, go_to, is_body, leaves_body, is_empty, kept, freed, Bottom, Call, Paused, inside, stuck}
use Rattle.th_viewed.specs.Evaluation.{Locals, State, Outcome, with_world, on_world, on_read, with_int, with_ref, with_text, with_code, given, with_whole, with_seen, with_some, with_class, with_self, Units}
use Rattle.th_viewed.specs.Evaluation.{if_whole as word_if_whole, if_at as word_if_at}
use Rattle.th_viewed.specs.Sources.{WordProgram}
use Rattle.th_viewed.proofs.Follow.{Comes, here, one, Goes, goes_after, halts_at}

-- words on the stack, the last on top
abbrev pub push_all : List FlatValue → List FlatValue → List FlatValue
push_all [] st = st
push_all (v ∷ vs) st = push_all vs (v ∷ st)

pub push_append : (xs ys st : List FlatValue) → push_all (xs ++ ys) st ≡ push_all ys (push_all xs st)
push_append [] ys st = refl
push_append (x ∷ xs) ys st = push_append xs ys (x ∷ st)

off_more : (vs ws st : List FlatValue) (k m : ℕ) (go : List FlatValue → List FlatValue → Deed Act) → length vs + m ≡ k → off k ws (push_all vs st) go ≡ off m (vs ++ ws) st go
off_more [] ws st k m go e = let e1 : k ≡ m = omega (arith, e) in ap (λ j. off j ws st go) e1
off_more (v ∷ vs) ws st k m go e = off_more vs ws (v ∷ st) k (suc m) go (omega (arith, e))

pub off_all : (vs st : List FlatValue) (k : ℕ) (go : List FlatValue → List FlatValue → Deed Act) → length vs ≡ k → off k [] (push_all vs st) go ≡ go vs st
off_all vs st k go e = off_more vs [] st k 0 go (omega (arith, e)) ∙ ap (λ ws. go ws st) (append-nil vs)

or_true : (a : Bool) → (a || true) ≡ true
or_true true = refl
or_true false = refl

pub kept_same : (l : ℕ) (held : Stack) → leaves_body l held ≡ false → kept l held ≡ held
kept_same l Bottom e = refl
kept_same l (Call u at st ls h loop below) e = refl
kept_same l (Paused u at st ls h home loop rest) e = go (inside loop l) e
  where
    go : (t : Bool) → not t ≡ false → (if t then Paused u at st ls h home loop rest else kept l rest) ≡ Paused u at st ls h home loop rest
    go true e = refl
    go false e = cc

pub freed_same : (l : ℕ) (held : Stack) (w : FlatWorld) → leaves_body l held ≡ false → freed l held w ≡ w
freed_same l Bottom w e = refl
freed_same l (Call u at st ls h loop below) w e = refl
freed_same l (Paused u at st ls h home loop rest) w e = go (inside loop l) _ e
  where
    go : (t : Bool) (x : FlatWorld) → not t ≡ false → (if t then w else x) ≡ w
    go true x e = refl
    go false x e = cc

module _ (p : FlatProgram) where
  module _ {A : Type 0} (K : Deed Act → Config) (st : State) (good : A → State → Config) (bad : List ℕ → Option FlatValue → State → Config) where
    pub goes_int : (v : FlatValue) (go : ℤ → Deed Act) (f : ℤ → Outcome A) → ((x : ℤ) → Goes p (K (go x)) (f x) good bad) → Goes p (K (on_int v go)) (with_int v st f) good bad
    goes_int (Int n) go f g = g n
    goes_int (Ref k view) go f g = tt
    goes_int (Text bytes) go f g = tt
    goes_int (Code unit) go f g = tt

    pub goes_ref : (v : FlatValue) (go : ℕ → View → Deed Act) (f : ℕ → View → Outcome A) → ((k : ℕ) (x : View) → Goes p (K (go k x)) (f k x) good bad) → Goes p (K (on_ref v go)) (with_ref v st f) good bad
    goes_ref (Int n) go f g = tt
    goes_ref (Ref k view) go f g = g k view
    goes_ref (Text bytes) go f g = tt
    goes_ref (Code unit) go f g = tt

    pub goes_text : (v : FlatValue) (go : List ℕ → Deed Act) (f : List ℕ → Outcome A) → ((x : List ℕ) → Goes p (K (go x)) (f x) good bad) → Goes p (K (on_text v go)) (with_text v st f) good bad
    goes_text (Int n) go f g = tt
    goes_text (Ref k view) go f g = tt
    goes_text (Text bytes) go f g = g bytes
    goes_text (Code unit) go f g = tt

    pub goes_code : (v : FlatValue) (go : List ℕ → Deed Act) (f : List ℕ → Outcome A) → ((x : List ℕ) → Goes p (K (go x)) (f x) good bad) → Goes p (K (on_code v go)) (with_code v st f) good bad
    goes_code (Int n) go f g = tt
    goes_code (Ref k view) go f g = tt
    goes_code (Text bytes) go f g = tt
    goes_code (Code unit) go f g = g unit

    pub goes_test : (t : Bool) (d : Deed Act) (r : Outcome A) → Goes p (K d) r good bad → Goes p (K (on_test t d)) (given t st r) good bad
    goes_test true d r g = g
    goes_test false d r g = tt

    goes_if_whole : (x : View) (d : Deed Act) (r : Outcome A) → Goes p (K d) r good bad → Goes p (K (if_whole x d)) (word_if_whole x st r) good bad
    goes_if_whole as_whole d r g = g
    goes_if_whole (at_type t) d r g = tt

    goes_if_at : (name : List ℕ) (x : View) (d : Deed Act) (r : Outcome A) → Goes p (K d) r good bad → Goes p (K (if_at name x d)) (word_if_at name x st r) good bad
    goes_if_at name as_whole d r g = tt
    goes_if_at name (at_type t) d r g = go (bytes_eq t name)
      where
        go : (b : Bool) → Goes p (K (if b then d else on_test false d)) (given b st r) good bad
        go true = g
        go false = tt

    pub goes_whole : (v : FlatValue) (go : ℕ → Deed Act) (f : ℕ → Outcome A) → ((k : ℕ) → Goes p (K (go k)) (f k) good bad) → Goes p (K (on_whole v go)) (with_whole v st f) good bad
    goes_whole v go f g = goes_ref v (λ k x. if_whole x (go k)) (λ k x. word_if_whole x st (f k)) (λ k x. goes_if_whole x (go k) (f k) (g k))

    pub goes_seen : (name : List ℕ) (v : FlatValue) (go : ℕ → Deed Act) (f : ℕ → Outcome A) → ((k : ℕ) → Goes p (K (go k)) (f k) good bad) → Goes p (K (on_seen name v go)) (with_seen name v st f) good bad
    goes_seen name v go f g = goes_ref v (λ k x. if_at name x (go k)) (λ k x. word_if_at name x st (f k)) (λ k x. goes_if_at name x (go k) (f k) (g k))

    pub goes_some : {B : Type 0} (o : Option B) (go : B → Deed Act) (f : B → Outcome A) → ((x : B) → Goes p (K (go x)) (f x) good bad) → Goes p (K (on_some o go)) (with_some o st f) good bad
    goes_some None go f g = tt
    goes_some (Some x) go f g = g x

    pub goes_class : (o : Option (Object FlatValue)) (go : List ℕ → Deed Act) (f : List ℕ → Outcome A) → ((x : List ℕ) → Goes p (K (go x)) (f x) good bad) → Goes p (K (on_class o go)) (with_class o st f) good bad
    goes_class None go f g = tt
    goes_class (Some (Instance class slots)) go f g = g class
    goes_class (Some (Array elements)) go f g = tt

    pub goes_self : (w : WordProgram) (units : Units) (u : FlatUnit) (go : ℕ → List ℕ → Deed Act) (f : ℕ → List ℕ → Outcome A)
        → ((k : ℕ) (c : List ℕ) → Goes p (K (go k c)) (f k c) good bad) → Goes p (K (on_self (self_of u st.locals) st.world go)) (with_self w u st f) good bad
    goes_self w units u go f g =
        goes_some (self_of u st.locals) (λ v. on_whole v (λ k. on_class (slice_get st.world.objects k) (λ c. go k c))) (λ v. with_whole v st (λ k. with_class (slice_get st.world.objects k) st (λ c. f k c)))
        (λ v. goes_whole v (λ k. on_class (slice_get st.world.objects k) (λ c. go k c)) (λ k. with_class (slice_get st.world.objects k) st (λ c. f k c))
        (λ k. goes_class (slice_get st.world.objects k) (λ c. go k c) (λ c. f k c) (λ c. g k c)))

  -- an effect on the world, where K says where an act leads
  pub goes_effect : {A B : Type 0} (K : Act → Config) (st : State) (good : B → State → Config) (bad : List ℕ → Option FlatValue → State → Config) (e : Effect FlatValue A) (go : A → FlatWorld → Act) (f : A → State → Outcome B)
      → ((x : List ℕ) (w : FlatWorld) → K (Failing (Thrown x None) w) ≡ bad x None (with_world st w)) → ((h : Halt) (w : FlatWorld) → K (Stands h w) ≡ Over (Halts h) w)
      → ((a : A) (w : FlatWorld) → Goes p (K (go a w)) (f a (with_world st w)) good bad) → Goes p (K (on_effect e go)) (on_world e st f) good bad
  goes_effect K st good bad (Did a w) go f fails halts g = g a w
  goes_effect K st good bad (Fails x w) go f fails halts g = subst (λ c. Comes p (K (Failing (Thrown x None) w)) c) (fails x w) (here p (K (Failing (Thrown x None) w)))
  goes_effect K st good bad (Stops h w) go f fails halts g = halts_at p (K (Stands h w)) h w (subst (λ c. Comes p (K (Stands h w)) c) (halts h w) (here p (K (Stands h w))))

  pub goes_read : {A B : Type 0} (K : Act → Config) (st : State) (good : B → State → Config) (bad : List ℕ → Option FlatValue → State → Config) (e : Effect FlatValue A) (go : A → FlatWorld → Act) (f : A → State → Outcome B)
      → ((h : Halt) (w : FlatWorld) → K (Stands h w) ≡ Over (Halts h) w)
      → ((a : A) (w : FlatWorld) → Goes p (K (go a w)) (f a (with_world st w)) good bad) → Goes p (K (on_effect e go)) (on_read e st f) good bad
  goes_read K st good bad (Did a w) go f halts g = g a w
  goes_read K st good bad (Fails x w) go f halts g = tt
  goes_read K st good bad (Stops h w) go f halts g = halts_at p (K (Stands h w)) h w (subst (λ c. Comes p (K (Stands h w)) c) (halts h w) (here p (K (Stands h w))))

  module _ (u : FlatUnit) (held : Stack) (below : List Locals → Stack) where
    -- a unit at an operation, with nothing on its way
    abbrev pub run : ℕ → List FlatValue → State → Config
    run pc stack st = Run u pc NoLoop (record { stack = stack; locals = st.locals; status = Fine }) held (below st.homes) st.world

    -- the unit fails with an exception, where the handlers around are at h
    abbrev pub bad : Option ℕ → List ℕ → Option FlatValue → State → Config
    bad h x v st = fail_at h u (Thrown x v) st.locals held (below st.homes) st.world

    -- where an operation's deed leads
    abbrev pub leads : FlatOp → Loop → ℕ → List FlatValue → State → Deed Act → Config
    leads op loop pc stack st d = paid p d.charge st.world (λ w1. finish p (d.act w1) (way_of op) (failure_of op) u pc loop (record { stack = stack; locals = st.locals; status = Fine }) held (below st.homes))

    -- where an operation's act leads
    abbrev pub acts : FlatOp → Loop → ℕ → List FlatValue → State → Act → Config
    acts op loop pc stack st a = finish p a (way_of op) (failure_of op) u pc loop (record { stack = stack; locals = st.locals; status = Fine }) held (below st.homes)

    -- an operation with the loop body of the next call
    pub goes_op_in : {A : Type 0} (loop : Loop) (pc : ℕ) (stack : List FlatValue) (st : State) (op : FlatOp) (r : Outcome A) (good : A → State → Config) (bad : List ℕ → Option FlatValue → State → Config) → slice_get u.ops pc ≡ Some op
        → Goes p (leads op loop pc stack st (doing p op (self_of u st.locals) stack Fine st.world)) r good bad
        → Goes p (Run u pc loop (record { stack = stack; locals = st.locals; status = Fine }) held (below st.homes) st.world) r good bad
    goes_op_in loop pc stack st op r good bad at g =
        let c = Run u pc loop (record { stack = stack; locals = st.locals; status = Fine }) held (below st.homes) st.world in
        let d : Option FlatOp → Deed Config = λ o. op_deed p o u pc loop (record { stack = stack; locals = st.locals; status = Fine }) held (below st.homes) st.world in
        goes_after p c _ r good bad (one p c _ (ap (λ o. paid p (d o).charge st.world (d o).act) at)) g

    pub goes_op : {A : Type 0} (pc : ℕ) (stack : List FlatValue) (st : State) (op : FlatOp) (r : Outcome A) (good : A → State → Config) (bad : List ℕ → Option FlatValue → State → Config) → slice_get u.ops pc ≡ Some op
        → Goes p (leads op NoLoop pc stack st (doing p op (self_of u st.locals) stack Fine st.world)) r good bad → Goes p (run pc stack st) r good bad
    goes_op pc stack st op r good bad at g = goes_op_in NoLoop pc stack st op r good bad at g

    pub at_end : (pc pc1 : ℕ) (stack : List FlatValue) (st : State) → pc ≡ pc1 → Comes p (run pc stack st) (run pc1 stack st)
    at_end pc pc1 stack st e = subst (λ m. Comes p (run pc stack st) (run m stack st)) e (here p (run pc stack st))

    -- a way to a label, with nothing on the stack
    pub go_out : (l : ℕ) (x : Here) (bel : Stack) (w : FlatWorld) → is_body u ≡ false → x.stack ≡ [] → nat_lt l (length u.ops) ≡ true → go_to l u x held bel w ≡ Run u l NoLoop x (kept l held) bel (freed l held w)
    go_out l x bel w plain e lt = go (is_body u) (nat_lt l (length u.ops)) (leaves_body l held) (is_empty x.stack) plain lt (ap is_empty e)
      where
        go : (b t lv em : Bool) → b ≡ false → t ≡ true → em ≡ true
            → (if t && (b || not lv || em) then Run u l NoLoop x (if b then held else kept l held) bel (if b then w else freed l held w) else stuck w) ≡ Run u l NoLoop x (kept l held) bel (freed l held w)
        go true t lv em e1 e2 e3 = cc
        go false false lv em e1 e2 e3 = cc
        go false true false em e1 e2 e3 = refl
        go false true true true e1 e2 e3 = refl
        go false true true false e1 e2 e3 = cc

    -- a way to a label within
    pub go_within : (l : ℕ) (x : Here) (bel : Stack) (w : FlatWorld) → is_body u ≡ false → nat_lt l (length u.ops) ≡ true → leaves_body l held ≡ false → go_to l u x held bel w ≡ Run u l NoLoop x held bel w
    go_within l x bel w plain lt lv =
        go (is_body u) (nat_lt l (length u.ops)) (leaves_body l held) (is_empty x.stack) plain lt lv
        ∙ ap (λ k. Run u l NoLoop x k bel (freed l held w)) (kept_same l held lv) ∙ ap (λ v. Run u l NoLoop x held bel v) (freed_same l held w lv)
      where
        go : (b t lv em : Bool) → b ≡ false → t ≡ true → lv ≡ false
            → (if t && (b || not lv || em) then Run u l NoLoop x (if b then held else kept l held) bel (if b then w else freed l held w) else stuck w) ≡ Run u l NoLoop x (kept l held) bel (freed l held w)
        go true t lv em e1 e2 e3 = cc
        go false false lv em e1 e2 e3 = cc
        go false true true em e1 e2 e3 = cc
        go false true false em e1 e2 e3 = refl

    -- a failure to the handlers around
    pub fails_to : (n pc : ℕ) (h : Option ℕ) (x : List ℕ) (v : Option FlatValue) (st : State) → length u.ops ≡ n → cover_upto u.ops pc pc ≡ h
        → fail_to (Some n) u pc (Thrown x v) st.locals held (below st.homes) st.world ≡ bad h x v st
    fails_to n pc h x v st count cover =
        ap (λ o. fail_at o u (Thrown x v) st.locals held (below st.homes) st.world) (ap (λ t. if t then cover_upto u.ops pc pc else Some n) (eq-eqb n (length u.ops) (sym count)) ∙ cover)
