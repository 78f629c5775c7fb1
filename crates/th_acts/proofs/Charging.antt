-- Charges, and what follows them.
use Rattle.std.proofs.Common.{◌≡◌, refl, sym, ap, ◌∙◌, subst, ℕ, ◌+◌, ◌*◌, ◌/◌, ◌<◌, ◌≤◌, ℤ, pos, negsuc, Bool, true, false, cond, nat_lt, List, [], ◌∷◌, ◌++◌, length, replicate, Option, Some, None}
use Rattle.std.proofs.lemmas.Bool.{le-ltb, lt-ltb}
use Rattle.th_meaning.specs.Trees.{ExprTrees, BodyTree}
use Rattle.th_meaning.specs.Program.{Program, ProgramUnit, unit_named}
use Rattle.th_meaning.specs.Counts.{call_weight}
use Rattle.th_meaning.specs.World.{World, Object, Instance, Array, Effect, Did, Fails, Stops, Halt, Stuck, OutOfTurns, OutOfRoom, and_then, bounds, spend, reserve, enter, note, open_yield, add_object, new_object, new_array, join, greatest, text_weight}
use Rattle.th_world.specs.Event.{Entered}
use Rattle.th_meaning.specs.Meaning.{Value, Ref, Text, Outcome, Gives, Raises, Halts, State, Frame, act, act_as, Enters, with_world, frame_of}
use Rattle.th_steps.specs.Machine.{Machine, At, Stopped, Loop, Rest, Purpose, a_use, a_for, now_args, now_value, now_raise, now_body, new_object_of, on_value, on_how, on_some, visit, begin, enter_at}
use Rattle.th_control.specs.declared.control.Control.{Control}
use Rattle.th_control.specs.declared.control.Now.{Now}
use Rattle.th_control.specs.declared.control.Now.TheVariants.{Value as NowValue}
use Rattle.th_control.specs.Config.{now_of, state_of, machine_at}
use Rattle.th_control.specs.Acts.{the_loop, the_rest}
use Rattle.th_store.specs.Alike.{Adds}
use Rattle.th_store.specs.Stock.{Stock}
use Rattle.th_store.specs.Charges.{charged, with_left}
use Rattle.th_store.specs.declared.store.Short.{Short}
use Rattle.th_store.specs.declared.store.Short.TheVariants.{Turns, Room}
use Rattle.th_acts.specs.declared.runner.Runner.{Runner}
use Rattle.th_acts.specs.declared.runner.Next.{Next}
use Rattle.th_acts.specs.declared.runner.Next.TheVariants.{Go}
use Rattle.th_acts.specs.Stands.{Told, Stands, Leads, short_at}
use Rattle.th_acts.proofs.Acts.{goes_on, stands_by}

-- an effect that was done
pub some_did : {A : Type 0} → (eff : Effect Value A) (a : A) (v : World Value) (st : State) (lp : Loop) (k : Rest) (go : A → State → Machine) → eff ≡ Did a v
    → on_some (act eff st) lp k go ≡ go a (with_world st v)
some_did eff a v st lp k go h = ap (λ x. on_some (act x st) lp k go) h

-- an effect that stopped the run
pub some_stopped : {A : Type 0} → (eff : Effect Value A) (halt : Halt) (v : World Value) (st : State) (lp : Loop) (k : Rest) (go : A → State → Machine) → eff ≡ Stops halt v
    → on_some (act eff st) lp k go ≡ Stopped (Halts halt v)
some_stopped eff halt v st lp k go h = ap (λ x. on_some (act x st) lp k go) h

assoc : {A : Type 0} → (x : Effect Value (Unit {0})) (f : World Value → Effect Value (Unit {0})) (g : World Value → Effect Value A)
    → and_then x (λ _ w1. and_then (f w1) (λ _ w2. g w2)) ≡ and_then (and_then x (λ _ w1. f w1)) (λ _ w2. g w2)
assoc (Did a w) f g = refl
assoc (Fails n w) f g = refl
assoc (Stops h w) f g = refl

-- what lacks, as an effect
abbrev pub short_effect : {A : Type 0} → Short → World Value → Effect Value A
short_effect Turns v = Stops OutOfTurns v
short_effect Room v = Stops OutOfRoom v

-- after turns and room that were taken
pub charged_then : {A : Type 0} → (t b : ℕ) (w v : World Value) (g : World Value → Effect Value A) → and_then (spend t w) (λ _ w1. reserve b w1) ≡ charged None v
    → and_then (spend t w) (λ _ w1. and_then (reserve b w1) (λ _ w2. g w2)) ≡ g v
charged_then t b w v g h = assoc (spend t w) (reserve b) g ∙ ap (λ x. and_then x (λ _ w2. g w2)) h

short_then : {A : Type 0} → (short : Short) (v : World Value) (g : World Value → Effect Value A) → and_then (charged (Some short) v) (λ _ w2. g w2) ≡ short_effect short v
short_then Turns v g = refl
short_then Room v g = refl

-- and that weren't
pub charged_short : {A : Type 0} → (t b : ℕ) (w v : World Value) (short : Short) (g : World Value → Effect Value A) → and_then (spend t w) (λ _ w1. reserve b w1) ≡ charged (Some short) v
    → and_then (spend t w) (λ _ w1. and_then (reserve b w1) (λ _ w2. g w2)) ≡ short_effect short v
charged_short t b w v short g h = assoc (spend t w) (reserve b) g ∙ ap (λ x. and_then x (λ _ w2. g w2)) h ∙ short_then short v g

short_is : (short : Short) (v : World Value) → charged (Some short) v ≡ short_effect short v
short_is Turns v = refl
short_is Room v = refl

some_short_by : {A : Type 0} → (short : Short) (v : World Value) (st : State) (lp : Loop) (k : Rest) (go : A → State → Machine) → on_some (act (short_effect short v) st) lp k go ≡ short_at short v
some_short_by Turns v st lp k go = refl
some_short_by Room v st lp k go = refl

pub some_short : {A : Type 0} → (eff : Effect Value A) (short : Short) (v : World Value) (st : State) (lp : Loop) (k : Rest) (go : A → State → Machine) → eff ≡ short_effect short v
    → on_some (act eff st) lp k go ≡ short_at short v
some_short eff short v st lp k go h = ap (λ x. on_some (act x st) lp k go) h ∙ some_short_by short v st lp k go

value_short_by : {A : Type 0} → (kind : A → Value) (short : Short) (v : World Value) (st : State) (lp : Loop) (k : Rest) → on_value (act_as kind (short_effect short v) st) lp k ≡ short_at short v
value_short_by kind Turns v st lp k = refl
value_short_by kind Room v st lp k = refl

pub value_short : {A : Type 0} → (kind : A → Value) (eff : Effect Value A) (short : Short) (v : World Value) (st : State) (lp : Loop) (k : Rest) → eff ≡ short_effect short v
    → on_value (act_as kind eff st) lp k ≡ short_at short v
value_short kind eff short v st lp k h = ap (λ x. on_value (act_as kind x st) lp k) h ∙ value_short_by kind short v st lp k

-- a yield whose turn and room were taken
pub yield_did : (w v : World Value) (value : Value) (c : Control) → and_then (spend 1 w) (λ _ w1. reserve 64 w1) ≡ charged None v
    → on_some (act (open_yield w) (state_of c w)) (the_loop c) (the_rest c) (λ _ st. visit (the_loop c) value (the_loop c) (the_rest c) st) ≡ visit (the_loop c) value (the_loop c) (the_rest c) (state_of c v)
yield_did w v value c h = some_did (open_yield w) tt v (state_of c w) (the_loop c) (the_rest c) (λ _ st. visit (the_loop c) value (the_loop c) (the_rest c) st) h

pub yield_short : (w v : World Value) (value : Value) (c : Control) (short : Short) → and_then (spend 1 w) (λ _ w1. reserve 64 w1) ≡ charged (Some short) v
    → on_some (act (open_yield w) (state_of c w)) (the_loop c) (the_rest c) (λ _ st. visit (the_loop c) value (the_loop c) (the_rest c) st) ≡ short_at short v
yield_short w v value c short h = some_short (open_yield w) short v (state_of c w) (the_loop c) (the_rest c) (λ _ st. visit (the_loop c) value (the_loop c) (the_rest c) st) (h ∙ short_is short v)

-- an object that was made
pub object_made : (c : Control) (w v v1 : World Value) (class : List ℕ) (b weight n : ℕ) (es : ExprTrees) → b ≡ weight
    → and_then (spend 1 w) (λ _ w1. reserve b w1) ≡ charged None v → add_object (Instance class []) v ≡ Did n v1
    → on_some (act (new_object class weight w) (state_of c w)) (the_loop c) (the_rest c) (λ m st. At (now_args [] es (new_object_of class m)) (the_loop c) (the_rest c) st)
    ≡ At (now_args [] es (new_object_of class n)) (the_loop c) (the_rest c) (state_of c v1)
object_made c w v v1 class b weight n es same charge added =
    some_did (new_object class weight w) n v1 (state_of c w) (the_loop c) (the_rest c) (λ m st. At (now_args [] es (new_object_of class m)) (the_loop c) (the_rest c) st)
    (ap (λ x. new_object class x w) (sym same) ∙ charged_then 1 b w v (add_object (Instance class [])) charge ∙ added)

pub object_short : (c : Control) (w v : World Value) (class : List ℕ) (b weight : ℕ) (es : ExprTrees) (short : Short) → b ≡ weight
    → and_then (spend 1 w) (λ _ w1. reserve b w1) ≡ charged (Some short) v
    → on_some (act (new_object class weight w) (state_of c w)) (the_loop c) (the_rest c) (λ m st. At (now_args [] es (new_object_of class m)) (the_loop c) (the_rest c) st) ≡ short_at short v
object_short c w v class b weight es short same charge =
    some_short (new_object class weight w) short v (state_of c w) (the_loop c) (the_rest c) (λ m st. At (now_args [] es (new_object_of class m)) (the_loop c) (the_rest c) st)
    (ap (λ x. new_object class x w) (sym same) ∙ charged_short 1 b w v short (add_object (Instance class [])) charge)

-- an array that was made
pub array_made : (c : Control) (w v v1 : World Value) (fill : Value) (elements : List Value) (size n : ℕ) → elements ≡ replicate size fill
    → and_then (spend (size + 1) w) (λ _ w1. reserve (8 + 4 * size) w1) ≡ charged None v → add_object (Array elements) v ≡ Did n v1
    → on_value (act_as Ref (new_array (pos size) fill w) (state_of c w)) (the_loop c) (the_rest c) ≡ At (now_value (Ref n)) (the_loop c) (the_rest c) (state_of c v1)
array_made c w v v1 fill elements size n same charge added =
    let made : new_array (pos size) fill w ≡ Did n v1 = charged_then (size + 1) (8 + 4 * size) w v (add_object (Array (replicate size fill))) charge ∙ ap (λ xs. add_object (Array xs) v) (sym same) ∙ added in
    ap (λ x. on_value (act_as Ref x (state_of c w)) (the_loop c) (the_rest c)) made

pub array_short : (c : Control) (w v : World Value) (fill : Value) (size : ℕ) (short : Short) → and_then (spend (size + 1) w) (λ _ w1. reserve (8 + 4 * size) w1) ≡ charged (Some short) v
    → on_value (act_as Ref (new_array (pos size) fill w) (state_of c w)) (the_loop c) (the_rest c) ≡ short_at short v
array_short c w v fill size short charge =
    value_short Ref (new_array (pos size) fill w) short v (state_of c w) (the_loop c) (the_rest c)
    (charged_short (size + 1) (8 + 4 * size) w v short (add_object (Array (replicate size fill))) charge)

-- the machine is the same
pub leads_at : (e : Told) (r : Runner) (left now : Option (List ℕ)) (next : Next) (m n : Machine) → m ≡ n → Leads e r left now next n → Leads e r left now next m
leads_at e r left now next m n is h = subst (Leads e r left now next) (sym is) h

-- the run after an object was added
pub goes_made : (e : Told) (old new : Runner) (left now : Option (List ℕ)) (w v : World Value) (o : Object Value) (n : ℕ) (next : Now) (m : Machine) → Stands e old left now w → v.trace ≡ w.trace → v.input ≡ w.input
    → Adds o v n new.store → new.control ≡ old.control → new.tables ≡ old.tables → new.entered ≡ old.entered
    → m ≡ At (now_of next) (the_loop old.control) (the_rest old.control) (state_of old.control (record v { objects = v.objects ++ o ∷ [] }))
    → Leads e new left now (Go next) m
goes_made e old new left now w v o n next m h trace input adds control tables entered is =
    goes_on e new left now (record v { objects = v.objects ++ o ∷ [] }) next m
    (stands_by e old new left now w (record v { objects = v.objects ++ o ∷ [] }) h tables entered adds.alike trace input)
    (is ∙ ap (λ c. machine_at (now_of next) c (record v { objects = v.objects ++ o ∷ [] })) (sym control))

-- texts that are joined
join_by : (a b : List ℕ) (w : World Value) (t : Bool) → nat_lt greatest (length a + length b) ≡ t
    → join a b w ≡ cond t (Fails bounds w) (and_then (spend (length a + length b + 1) w) (λ _ w1. and_then (reserve (text_weight (length a + length b)) w1) (λ _ w2. Did (a ++ b) w2)))
join_by a b w t h = ap (λ x. cond x (Fails bounds w) (and_then (spend (length a + length b + 1) w) (λ _ w1. and_then (reserve (text_weight (length a + length b)) w1) (λ _ w2. Did (a ++ b) w2)))) h

module _ (c : Control) (a b : List ℕ) (w : World Value) (size : ℕ) (is : size ≡ length a + length b) where
  pub join_long : greatest < size → on_value (act_as Text (join a b w) (state_of c w)) (the_loop c) (the_rest c) ≡ At (now_raise bounds None) (the_loop c) (the_rest c) (state_of c w)
  join_long above =
      ap (λ x. on_value (act_as Text x (state_of c w)) (the_loop c) (the_rest c)) (join_by a b w true (ap (nat_lt greatest) (sym is) ∙ lt-ltb greatest size above))

  join_charged : size ≤ greatest → join a b w ≡ and_then (spend (size + 1) w) (λ _ w1. and_then (reserve (8 + 4 * ((size + 3) / 4)) w1) (λ _ w2. Did (a ++ b) w2))
  join_charged within =
      join_by a b w false (ap (nat_lt greatest) (sym is) ∙ le-ltb greatest size within)
      ∙ ap (λ n. and_then (spend (n + 1) w) (λ _ w1. and_then (reserve (text_weight n) w1) (λ _ w2. Did (a ++ b) w2))) (sym is)

  pub join_short : (v : World Value) (short : Short) → size ≤ greatest → and_then (spend (size + 1) w) (λ _ w1. reserve (8 + 4 * ((size + 3) / 4)) w1) ≡ charged (Some short) v
      → on_value (act_as Text (join a b w) (state_of c w)) (the_loop c) (the_rest c) ≡ short_at short v
  join_short v short within charge =
      value_short Text (join a b w) short v (state_of c w) (the_loop c) (the_rest c)
      (join_charged within ∙ charged_short (size + 1) (8 + 4 * ((size + 3) / 4)) w v short (λ w2. Did (a ++ b) w2) charge)

  pub join_made : (v : World Value) → size ≤ greatest → and_then (spend (size + 1) w) (λ _ w1. reserve (8 + 4 * ((size + 3) / 4)) w1) ≡ charged None v
      → on_value (act_as Text (join a b w) (state_of c w)) (the_loop c) (the_rest c) ≡ At (now_value (Text (a ++ b))) (the_loop c) (the_rest c) (state_of c v)
  join_made v within charge =
      ap (λ x. on_value (act_as Text x (state_of c w)) (the_loop c) (the_rest c))
      (join_charged within ∙ charged_then (size + 1) (8 + 4 * ((size + 3) / 4)) w v (λ w2. Did (a ++ b) w2) charge)

pub array_negative : (c : Control) (w : World Value) (fill : Value) (z : ℤ) (n : ℕ) → z ≡ negsuc n
    → on_value (act_as Ref (new_array z fill w) (state_of c w)) (the_loop c) (the_rest c) ≡ At (now_raise bounds None) (the_loop c) (the_rest c) (state_of c w)
array_negative c w fill z n is = ap (λ x. on_value (act_as Ref (new_array x fill w) (state_of c w)) (the_loop c) (the_rest c)) is

-- the run after an array was made
pub made_array : (e : Told) (old new : Runner) (left now : Option (List ℕ)) (w : World Value) (s : Stock) (fill : Value) (elements : List Value) (size n : ℕ) (o : Object Value) (value : Value) → Stands e old left now w
    → elements ≡ replicate size fill → and_then (spend (size + 1) w) (λ _ w1. reserve (8 + 4 * size) w1) ≡ charged None (with_left s w) → o ≡ Array elements → Adds o (with_left s w) n new.store → value ≡ Ref n
    → new.control ≡ old.control → new.tables ≡ old.tables → new.entered ≡ old.entered
    → Leads e new left now (Go (NowValue value)) (on_value (act_as Ref (new_array (pos size) fill w) (state_of old.control w)) (the_loop old.control) (the_rest old.control))
made_array e old new left now w s fill elements size n o value h filled charge is adds gives control tables entered =
    let v = with_left s w in
    goes_made e old new left now w v o n (NowValue value) _ h refl refl adds control tables entered
    (array_made old.control w v (record v { objects = v.objects ++ o ∷ [] }) fill elements size n filled charge (ap (λ x. add_object x v) (sym is) ∙ adds.is)
    ∙ ap (λ x. At (now_value x) (the_loop old.control) (the_rest old.control) (state_of old.control (record v { objects = v.objects ++ o ∷ [] }))) (sym gives))

-- the run after an object was made
pub made_object : (e : Told) (old new : Runner) (left now : Option (List ℕ)) (w : World Value) (s : Stock) (class : List ℕ) (b weight n : ℕ) (es : ExprTrees) (o : Object Value) (next : Now) → Stands e old left now w
    → b ≡ weight → and_then (spend 1 w) (λ _ w1. reserve b w1) ≡ charged None (with_left s w) → o ≡ Instance class [] → Adds o (with_left s w) n new.store → now_of next ≡ now_args [] es (new_object_of class n)
    → new.control ≡ old.control → new.tables ≡ old.tables → new.entered ≡ old.entered
    → Leads e new left now (Go next) (on_some (act (new_object class weight w) (state_of old.control w)) (the_loop old.control) (the_rest old.control)
    (λ m st. At (now_args [] es (new_object_of class m)) (the_loop old.control) (the_rest old.control) st))
made_object e old new left now w s class b weight n es o next h same charge is adds goes control tables entered =
    let v = with_left s w in
    goes_made e old new left now w v o n next _ h refl refl adds control tables entered
    (object_made old.control w v (record v { objects = v.objects ++ o ∷ [] }) class b weight n es same charge (ap (λ x. add_object x v) (sym is) ∙ adds.is)
    ∙ ap (λ x. At x (the_loop old.control) (the_rest old.control) (state_of old.control (record v { objects = v.objects ++ o ∷ [] }))) (sym goes))
