-- Evaluation on words: what checked units do, with the words of Flat code in place of values. A reference has the type at which it
-- is seen, and what stands for where-methods is handed over by words of its own. A word of another kind than a form takes, or seen
-- elsewhere, and a name that isn't there make the run stuck.
use Rattle.std.specs.Prelude.{ℕ, zero, suc, ◌+◌, ◌*◌, Bool, true, false, ◌&&◌, not, List, [], ◌∷◌, ◌++◌, length, replicate, set, Option, Some, None, ℤ, pos, negsuc, nat_eq, nat_lt, bytes_eq, slice_get, if◌then◌else◌}
use Rattle.std.specs.Fmt.{signed_decimal}
use Rattle.th_world.specs.Event.{Put}
use Rattle.th_meaning.specs.declared.expr.ArithOp.{ArithOp}
use Rattle.th_meaning.specs.declared.expr.CompareOp.{CompareOp}
use Rattle.th_meaning.specs.Trees.{SupplyTree, by_primitive, by_method, passed, CastTree, ExprTree, number_expr, truth_expr, literal_expr, self_expr, local_expr, field_expr, negative_expr, arith_expr, compare_expr, same_expr, not_expr, and_expr, or_expr, join_expr, letter_expr, extent_expr, element_expr, length_expr, cast_expr, call_expr, new_expr, new_array_expr, get_byte_expr, ExprTrees, no_expr, more_exprs, CallTree, routine_call, method_call, hidden_call, super_call, where_call, init_call, Variable, StmtTree, var_stmt, set_local_stmt, set_field_stmt, set_element_stmt, call_stmt, drop_stmt, if_stmt, while_stmt, for_stmt, break_stmt, return_stmt, return_value_stmt, yield_stmt, raise_stmt, raise_value_stmt, begin_stmt, put_byte_stmt, put_int_stmt, put_text_stmt, BodyTree, no_stmt, more_stmts, ElseTree, no_else, else_do, elseif_then, WhenTrees, no_when, more_whens}
use Rattle.th_meaning.specs.Program.{UnitSort, of_routine, of_method, of_init, method_name, init_name, name_of_type}
use Rattle.th_meaning.specs.Counts.{variable_nodes}
use Rattle.th_meaning.specs.World.{Object, Instance, Array, Halt, Unset, Stuck, Deep, Effect, Did, Fails, Stops, and_then, spend, reserve, give_back, note, yield_weight, bounds, greatest, text_weight, negation, put_byte, put_all, get_byte, letter, add_object, element, array_length, set_element, field_value, set_field}
use Rattle.th_flat.specs.declared.module.FlatUnit.{FlatUnit}
use Rattle.th_flat.specs.Values.{View, as_whole, at_type, FlatValue, Int, Ref, Text, Code, FlatWorld, signed, truth}
use Rattle.th_flat.specs.Program.{and_if}
use Rattle.th_flat.specs.Deeds.{Charge, no_charge, takes_turns, takes_room, takes_both, arith_value, holds, at_zero, call_charge}
use Rattle.th_flat.specs.Configs.{is_body, is_iterator, self_of, gives_result, with_value, seen_at_result}
use Rattle.th_lowering.specs.Homes.{home}
use Rattle.th_lowering.specs.Sizes.{expr_size, operands_size, block_size, stmt_size, body_size, may_cast_size}
use Rattle.th_lowering.specs.Site.{Site, class_around, word_of, stub_name}
use Rattle.th_lowering.specs.Code.{arith_number, compare_number}
use Rattle.th_viewed.specs.Sources.{Source, flat_of, WordProgram}

-- the local words of a unit (None: not yet set): the receiver, the where-words, the formals and the locals
abbrev pub Locals : Type 0
Locals = List (Option FlatValue)

-- the running unit's local words; those of the units with a `for` whose loop bodies are run by the yields of the running
-- iterators, the nearest first; and the world
pub record State : Type 0 where
  pub locals : Locals
  pub homes : List Locals
  pub world : FlatWorld

-- the outcome of an evaluation: a result; an exception that was raised, by its full name and perhaps with an argument; or the
-- run's stop
pub data Outcome (A : Type 0) : Type 0 where
  Gives : A → State → Outcome A
  Throws : (name : List ℕ) → (argument : Option FlatValue) → State → Outcome A
  Halted : Halt → FlatWorld → Outcome A

-- how a loop's body, run by a yield, left its loop: by a `break`, by a return, by an exception, or by leaving the loop that its
-- own unit, an iterator, runs for
pub data Leave : Type 0 where
  by_break : Leave
  by_return : (value : Option FlatValue) → Leave
  by_raise : (name : List ℕ) → (argument : Option FlatValue) → Leave
  by_leave : Leave → Leave

-- how a statement ended: the next one follows; its loop is left; its unit returns, perhaps with a value; or the loop's body that a
-- yield of the running iterator ran left its loop, so that the iterator ends
pub data How : Type 0 where
  Done : How
  Exit : How
  Return : (value : Option FlatValue) → How
  Cut : Leave → How

-- one evaluation after another
abbrev pub then_do : {A B : Type 0} → Outcome A → (A → State → Outcome B) → Outcome B
then_do (Gives a st) f = f a st
then_do (Throws x v st) f = Throws x v st
then_do (Halted h w) f = Halted h w

-- the state with another world
abbrev pub with_world : State → FlatWorld → State
with_world st w = record { locals = st.locals; homes = st.homes; world = w }

-- a word isn't of the kind that the form takes, or what it names isn't there
abbrev pub stuck : {A : Type 0} → State → Outcome A
stuck st = Halted Stuck st.world

-- what follows an effect on the world
abbrev pub on_world : {A B : Type 0} → Effect FlatValue A → State → (A → State → Outcome B) → Outcome B
on_world (Did a w) st f = f a (with_world st w)
on_world (Fails x w) st f = Throws x None (with_world st w)
on_world (Stops h w) st f = Halted h w

-- what follows an effect that doesn't raise
abbrev pub on_read : {A B : Type 0} → Effect FlatValue A → State → (A → State → Outcome B) → Outcome B
on_read (Did a w) st f = f a (with_world st w)
on_read (Fails x w) st f = Halted Stuck w
on_read (Stops h w) st f = Halted h w

-- what follows a charge that is taken; a charge doesn't raise
abbrev pub taken : {A : Type 0} → Effect FlatValue (Unit {0}) → State → (State → Outcome A) → Outcome A
taken (Did t w) st f = f (with_world st w)
taken (Fails x w) st f = Halted Stuck w
taken (Stops h w) st f = Halted h w

abbrev pub pay : {A : Type 0} → Charge → State → (State → Outcome A) → Outcome A
pay no_charge st f = f st
pay (takes_turns k) st f = taken (spend k st.world) st f
pay (takes_room r) st f = taken (reserve r st.world) st f
pay (takes_both k r) st f = taken (and_then (spend k st.world) (λ _ w1. reserve r w1)) st f

-- the number that a word is; the object that it refers to, and how it is seen; the text; the unit that it stands for
abbrev pub with_int : {A : Type 0} → FlatValue → State → (ℤ → Outcome A) → Outcome A
with_int (Int n) st f = f n
with_int (Ref k view) st f = stuck st
with_int (Text bytes) st f = stuck st
with_int (Code unit) st f = stuck st

abbrev pub with_ref : {A : Type 0} → FlatValue → State → (ℕ → View → Outcome A) → Outcome A
with_ref (Int n) st f = stuck st
with_ref (Ref k view) st f = f k view
with_ref (Text bytes) st f = stuck st
with_ref (Code unit) st f = stuck st

abbrev pub with_text : {A : Type 0} → FlatValue → State → (List ℕ → Outcome A) → Outcome A
with_text (Int n) st f = stuck st
with_text (Ref k view) st f = stuck st
with_text (Text bytes) st f = f bytes
with_text (Code unit) st f = stuck st

abbrev pub with_code : {A : Type 0} → FlatValue → State → (List ℕ → Outcome A) → Outcome A
with_code (Int n) st f = stuck st
with_code (Ref k view) st f = stuck st
with_code (Text bytes) st f = stuck st
with_code (Code unit) st f = f unit

-- what a test holds of
abbrev pub given : {A : Type 0} → Bool → State → Outcome A → Outcome A
given true st r = r
given false st r = stuck st

-- an object that is seen as a whole, or at a type
abbrev pub if_whole : {A : Type 0} → View → State → Outcome A → Outcome A
if_whole as_whole st r = r
if_whole (at_type t) st r = stuck st

abbrev pub if_at : {A : Type 0} → List ℕ → View → State → Outcome A → Outcome A
if_at name as_whole st r = stuck st
if_at name (at_type t) st r = given (bytes_eq t name) st r

abbrev pub with_whole : {A : Type 0} → FlatValue → State → (ℕ → Outcome A) → Outcome A
with_whole v st f = with_ref v st (λ k view. if_whole view st (f k))

abbrev pub with_seen : {A : Type 0} → List ℕ → FlatValue → State → (ℕ → Outcome A) → Outcome A
with_seen name v st f = with_ref v st (λ k view. if_at name view st (f k))

-- what is there
abbrev pub with_some : {A B : Type 0} → Option A → State → (A → Outcome B) → Outcome B
with_some None st f = stuck st
with_some (Some a) st f = f a

-- the first of some words, and the others
abbrev pub with_first : {A : Type 0} → List FlatValue → State → (FlatValue → List FlatValue → Outcome A) → Outcome A
with_first [] st f = stuck st
with_first (v ∷ vs) st f = f v vs

-- the class of an object
abbrev pub with_class : {A : Type 0} → Option (Object FlatValue) → State → (List ℕ → Outcome A) → Outcome A
with_class None st f = stuck st
with_class (Some (Instance class slots)) st f = f class
with_class (Some (Array elements)) st f = stuck st

-- the word of a local
abbrev pub loaded : Option (Option FlatValue) → State → Outcome FlatValue
loaded None st = stuck st
loaded (Some None) st = Halted Unset st.world
loaded (Some (Some v)) st = Gives v st

abbrev pub load : ℕ → State → Outcome FlatValue
load k st = loaded (slice_get st.locals k) st

-- the word of a local is set
abbrev pub store : {A : Type 0} → ℕ → FlatValue → State → (State → Outcome A) → Outcome A
store k v st f = given (nat_lt k (length st.locals)) st (f (record { locals = set st.locals k (Some v); homes = st.homes; world = st.world }))

-- two evaluations, the left one first, and what is done with their words
abbrev pub both : {A : Type 0} → Outcome FlatValue → (State → Outcome FlatValue) → (FlatValue → FlatValue → State → Outcome A) → Outcome A
both left right f = then_do left (λ x st1. then_do (right st1) (λ y st2. f x y st2))

-- operators
abbrev pub arith_of : ArithOp → FlatValue → FlatValue → State → Outcome FlatValue
arith_of op a b st = with_int a st (λ x. with_int b st (λ y. on_world (arith_value (arith_number op) x y st.world) st (λ n st1. Gives (Int n) st1)))

abbrev pub negative_of : FlatValue → State → Outcome FlatValue
negative_of v st = with_int v st (λ x. on_world (negation x st.world) st (λ n st1. Gives (Int n) st1))

abbrev pub compare_of : CompareOp → FlatValue → FlatValue → State → Outcome FlatValue
compare_of op a b st = with_int a st (λ x. with_int b st (λ y. Gives (truth (holds (compare_number op) x y)) st))

abbrev pub same_of : FlatValue → FlatValue → State → Outcome FlatValue
same_of a b st = with_ref a st (λ j _. with_ref b st (λ k _. Gives (truth (nat_eq j k)) st))

abbrev pub not_of : FlatValue → State → Outcome FlatValue
not_of v st = with_int v st (λ x. at_zero x (Gives (truth true) st) (Gives (truth false) st))

abbrev pub and_of : (State → Outcome FlatValue) → FlatValue → State → Outcome FlatValue
and_of right v st = with_int v st (λ x. at_zero x (Gives (truth false) st) (right st))

abbrev pub or_of : (State → Outcome FlatValue) → FlatValue → State → Outcome FlatValue
or_of right v st = with_int v st (λ x. at_zero x (right st) (Gives (truth true) st))

abbrev pub joined : List ℕ → List ℕ → State → Outcome FlatValue
joined a b st = if nat_lt greatest (length a + length b) then Throws bounds None st
    else pay (takes_both (length a + length b + 1) (text_weight (length a + length b))) st (λ st1. Gives (Text (a ++ b)) st1)

abbrev pub join_of : FlatValue → FlatValue → State → Outcome FlatValue
join_of a b st = with_text a st (λ x. with_text b st (λ y. joined x y st))

abbrev pub letter_of : FlatValue → FlatValue → State → Outcome FlatValue
letter_of a b st = with_text a st (λ x. with_int b st (λ i. on_world (letter x i st.world) st (λ c st1. Gives (Int (pos c)) st1)))

abbrev pub extent_of : FlatValue → State → Outcome FlatValue
extent_of v st = with_text v st (λ bytes. Gives (Int (pos (length bytes))) st)

abbrev pub element_of : FlatValue → FlatValue → State → Outcome FlatValue
element_of a b st = with_whole a st (λ k. with_int b st (λ i. on_world (element k i st.world) st (λ v st1. Gives v st1)))

abbrev pub length_of : FlatValue → State → Outcome FlatValue
length_of a st = with_whole a st (λ k. on_read (array_length k st.world) st (λ n st1. Gives (Int (pos n)) st1))

abbrev pub array_of : ℤ → FlatValue → State → Outcome FlatValue
array_of (pos n) fill st = pay (takes_both (n + 1) (8 + 4 * n)) st (λ st1. on_world (add_object (Array (replicate n fill)) st1.world) st1 (λ k st2. Gives (Ref k as_whole) st2))
array_of (negsuc n) fill st = Throws bounds None st

abbrev pub new_array_of : FlatValue → FlatValue → State → Outcome FlatValue
new_array_of a fill st = with_int a st (λ n. array_of n fill st)

abbrev pub get_byte_of : State → Outcome FlatValue
get_byte_of st = on_world (get_byte st.world) st (λ n st1. Gives (Int n) st1)

-- a loop's body, which a yield runs with a value in the state of its home
abbrev pub Body : Type 0
Body = FlatValue → State → Outcome How

-- where no loop is open there is nothing that a yield runs
abbrev pub no_body : Body
no_body v st = stuck st

-- the runs of units: with operands, the loop's body that its yields run, and the local words of the homes of open loops
abbrev pub Units : Type 0
Units = Source → (args : List FlatValue) → Body → (homes : List Locals) → FlatWorld → Outcome How

-- what a call enters: a unit with operands
pub record Target : Type 0 where
  pub unit : Source
  pub args : List FlatValue

-- a unit that is there takes as many operands; the charge is taken
abbrev pub calling : Option Source → (FlatUnit → Charge) → List FlatValue → State → Outcome Target
calling g charge args st = with_some g st (λ x. given (nat_eq (length args) (flat_of x).args) st (pay (charge (flat_of x)) st (λ st1. Gives (record { unit = x; args = args }) st1)))

-- one word, and none
abbrev pub one_word : List FlatValue → State → Outcome FlatValue
one_word [] st = stuck st
one_word (v ∷ []) st = Gives v st
one_word (v ∷ x ∷ vs) st = stuck st

abbrev pub one_dropped : List FlatValue → State → Outcome How
one_dropped [] st = stuck st
one_dropped (v ∷ []) st = Gives Done st
one_dropped (v ∷ x ∷ vs) st = stuck st

abbrev pub none_left : List FlatValue → State → Outcome How
none_left [] st = Gives Done st
none_left (v ∷ vs) st = stuck st

-- 1 where a call as a statement gives a word, which is dropped: an initializer always gives its object
abbrev pub kept_words : CallTree → ℕ
kept_words (routine_call f ts ss es) = 0
kept_words (method_call t m e es) = 0
kept_words (hidden_call c m es) = 0
kept_words (super_call c m es) = 0
kept_words (where_call k m e es) = 0
kept_words (init_call c ts ss es) = 1

abbrev pub statement_words : CallTree → List FlatValue → State → Outcome How
statement_words (routine_call f ts ss es) vs st = none_left vs st
statement_words (method_call t m e es) vs st = none_left vs st
statement_words (hidden_call c m es) vs st = none_left vs st
statement_words (super_call c m es) vs st = none_left vs st
statement_words (where_call k m e es) vs st = none_left vs st
statement_words (init_call c ts ss es) vs st = one_dropped vs st

-- the nearest home's local words, and those of the others
abbrev pub nearest : List Locals → Locals
nearest [] = []
nearest (locals ∷ homes) = locals

abbrev pub others : List Locals → List Locals
others [] = []
others (locals ∷ homes) = homes

-- the home goes on as its iterator ended in this state
abbrev pub at_home : State → State
at_home st = record { locals = nearest st.homes; homes = others st.homes; world = st.world }

-- the iterator goes on after its loop's body, which ended in the state st1: the home's local words are kept, and the room of the
-- yield is given back
abbrev pub again_in : State → State → State
again_in st st1 = record { locals = st.locals; homes = st1.locals ∷ st1.homes; world = give_back yield_weight st1.world }

-- how a yield ends whose loop's body ended so
abbrev pub yielded : State → Outcome How → Outcome How
yielded st (Gives Done st1) = Gives Done (again_in st st1)
yielded st (Gives Exit st1) = Gives (Cut by_break) (again_in st st1)
yielded st (Gives (Return v) st1) = Gives (Cut (by_return v)) (again_in st st1)
yielded st (Gives (Cut l) st1) = Gives (Cut (by_leave l)) (again_in st st1)
yielded st (Throws x v st1) = Gives (Cut (by_raise x v)) (again_in st st1)
yielded st (Halted h w) = Halted h w

-- a yield: one turn, then the loop's body in the state of its home
abbrev pub yields : Body → FlatValue → State → Outcome How
yields body v st = pay (takes_turns 1) st (λ st1. yielded st1 (body v (at_home st1)))

-- what follows a statement that ended so
abbrev pub if_done : How → State → Outcome How → Outcome How
if_done Done st next = next
if_done Exit st next = Gives Exit st
if_done (Return v) st next = Gives (Return v) st
if_done (Cut l) st next = Gives (Cut l) st

-- what follows the body of a `while` that ended so
abbrev pub again_of : (State → Outcome How) → How → State → Outcome How
again_of again Done st = again st
again_of again Exit st = Gives Done st
again_of again (Return v) st = Gives (Return v) st
again_of again (Cut l) st = Gives (Cut l) st

-- what follows the test of a `while`: where it holds one turn, then the body, then again
abbrev pub while_of : (State → Outcome How) → (State → Outcome How) → FlatValue → State → Outcome How
while_of body again v st = with_int v st (λ x. at_zero x (Gives Done st) (pay (takes_turns 1) st (λ st1. then_do (body st1) (again_of again))))

-- a `while`, with a bound on its turns
abbrev pub loops : ℕ → (State → Outcome FlatValue) → (State → Outcome How) → State → Outcome How
loops zero test body st = Halted Deep st.world
loops (suc n) test body st = then_do (test st) (while_of body (loops n test body))

-- what follows a test
abbrev pub if_of : (State → Outcome How) → (State → Outcome How) → FlatValue → State → Outcome How
if_of first second v st = with_int v st (λ x. at_zero x (second st) (first st))

-- a body's exception goes to its handlers
abbrev pub catch : Outcome How → (List ℕ → Option FlatValue → State → Outcome How) → Outcome How
catch (Gives how st) handle = Gives how st
catch (Throws x v st) handle = handle x v st
catch (Halted h w) handle = Halted h w

abbrev pub put_byte_of : FlatValue → State → Outcome How
put_byte_of v st = with_int v st (λ x. on_world (put_byte x st.world) st (λ _ st1. Gives Done st1))

abbrev pub put_int_of : FlatValue → State → Outcome How
put_int_of v st = with_int v st (λ x. pay (takes_turns (length (signed_decimal x) + 1)) st (λ st1. Gives Done (with_world st1 (put_all (signed_decimal x) st1.world))))

-- bytes are put, each after one turn
abbrev pub put_each : List ℕ → State → Outcome How
put_each [] st = Gives Done st
put_each (b ∷ bytes) st = pay (takes_turns 1) st (λ st1. put_each bytes (with_world st1 (note (Put b) st1.world)))

abbrev pub put_text_of : FlatValue → State → Outcome How
put_text_of v st = with_text v st (λ bytes. pay (takes_turns 1) st (λ st1. put_each bytes st1))

abbrev pub set_element_of : (array index value : FlatValue) → State → Outcome How
set_element_of a i v st = with_whole a st (λ k. with_int i st (λ j. on_world (set_element k j v st.world) st (λ _ st1. Gives Done st1)))

module _ (w : WordProgram) where
  -- the words that a call gives of what its unit returned: as many as f, 0 or 1
  abbrev pub words_given : (view : Option (List ℕ)) → (f : ℕ) → Option FlatValue → Option (List FlatValue)
  words_given view f v = and_if (seen_at_result w.flat view v) (λ x. with_value f x [])

  -- the caller goes on with its own local words
  abbrev pub back_in : (view : Option (List ℕ)) → (f : ℕ) → State → Outcome How → Outcome (List FlatValue)
  back_in view f st (Gives Done st1) = stuck st1
  back_in view f st (Gives Exit st1) = stuck st1
  back_in view f st (Gives (Return v) st1) = with_some (words_given view f v) st1 (λ vs. Gives vs (with_world st st1.world))
  back_in view f st (Gives (Cut l) st1) = stuck st1
  back_in view f st (Throws x v st1) = Throws x v (with_world st st1.world)
  back_in view f st (Halted h w1) = Halted h w1

  -- how a `for` ends whose iterator ended so
  abbrev pub for_how : (view : Option (List ℕ)) → (f : ℕ) → How → State → Outcome How
  for_how view f Done st = stuck st
  for_how view f Exit st = stuck st
  for_how view f (Return v) st = with_some (words_given view f v) st (λ vs. none_left vs st)
  for_how view f (Cut by_break) st = Gives Done st
  for_how view f (Cut (by_return v)) st = Gives (Return v) st
  for_how view f (Cut (by_raise x v)) st = Throws x v st
  for_how view f (Cut (by_leave l)) st = Gives (Cut l) st

  abbrev pub for_ends : (view : Option (List ℕ)) → (f : ℕ) → Outcome How → Outcome How
  for_ends view f (Gives how st) = for_how view f how (at_home st)
  for_ends view f (Throws x v st) = Throws x v (at_home st)
  for_ends view f (Halted h w1) = Halted h w1

  -- a call of a method of the object that the first word refers to, by the type that is the method's home
  abbrev pub dispatch : (head method : List ℕ) → List FlatValue → State → Outcome Target
  dispatch head m vs st = with_first vs st (λ v rest. with_seen head v st (λ k. with_class (slice_get st.world.objects k) st
      (λ class. calling (w.dispatched head m class) (λ g. takes_turns 1) (Ref k as_whole ∷ rest) st)))

  -- a call of what a name means
  abbrev pub call_named : List ℕ → List FlatValue → State → Outcome Target
  call_named name vs st = calling (w.called name) (λ g. call_charge g.kind) vs st

  -- a call of a hidden method of the object that the first word refers to
  abbrev pub call_hidden : (class method : List ℕ) → List FlatValue → State → Outcome Target
  call_hidden c m vs st = with_first vs st (λ v rest. with_whole v st (λ k. with_class (slice_get st.world.objects k) st
      (λ of. calling (w.hidden c m of) (λ g. takes_turns 1) (v ∷ rest) st)))

  -- a call of the stub that the first word stands for
  abbrev pub call_supply : List FlatValue → State → Outcome Target
  call_supply vs st = with_first vs st (λ v rest. with_code v st (λ name. with_some (w.unit name) st (λ g. given (nat_eq (flat_of g).kind 6) st (calling (Some g) (λ _. no_charge) rest st))))

  -- a reference that is seen at a declared type is seen at another, which the type reaches
  abbrev pub cast_to : (from to : List ℕ) → FlatValue → State → Outcome FlatValue
  cast_to from to v st = with_seen from v st (λ k. given (w.flat.reaches from to) st (Gives (Ref k (at_type to)) st))

  abbrev pub cast_between : (from to : Option (List ℕ)) → FlatValue → State → Outcome FlatValue
  cast_between None to v st = Gives v st
  cast_between (Some from) None v st = Gives v st
  cast_between (Some from) (Some to) v st = cast_to from to v st

  abbrev pub cast : CastTree → FlatValue → State → Outcome FlatValue
  cast c v st = cast_between (name_of_type c.from) (name_of_type c.to) v st

  -- a cast that there may be
  abbrev pub may_cast : Option CastTree → FlatValue → State → Outcome FlatValue
  may_cast None v st = Gives v st
  may_cast (Some c) v st = cast c v st

  -- in the unit u
  module _ (u : FlatUnit) where
    -- the object whose method or initializer runs, with its class
    abbrev pub with_self : {A : Type 0} → State → (ℕ → List ℕ → Outcome A) → Outcome A
    with_self st f = with_some (self_of u st.locals) st (λ v. with_whole v st (λ k. with_class (slice_get st.world.objects k) st (λ of. f k of)))

    -- that object, seen at the type of a class
    abbrev pub own : (class : List ℕ) → State → Outcome FlatValue
    own class st = with_self st (λ k of. given (w.flat.inherits of class) st (with_some (w.flat.class_type class) st (λ t. Gives (Ref k (at_type t)) st)))

    -- a where-word or a field of that object, where-words first
    abbrev pub field : (class : List ℕ) → (place : ℕ) → State → Outcome FlatValue
    field class i st = with_self st (λ k of. given (w.flat.inherits of class && nat_lt i (w.flat.slots class)) st (on_read (field_value k class i st.world) st (λ v st1. Gives v st1)))

    abbrev pub set_field_of : {A : Type 0} → (class : List ℕ) → (place : ℕ) → FlatValue → State → (State → Outcome A) → Outcome A
    set_field_of class i v st f = with_self st (λ k of. given (w.flat.inherits of class && nat_lt i (w.flat.slots class)) st (on_read (set_field k class i v st.world) st (λ _ st1. f st1)))

    -- the unit returns; what a method's body returns is seen at its result
    abbrev pub return_of : Option FlatValue → State → Outcome How
    return_of v st = given (gives_result (w.flat.result u.name) v) st (Gives (Return v) st)

    -- where the code of the unit stands; places tell the stubs apart
    module _ (s : Site) where
      -- what the unit was given for a where-method
      abbrev pub where_word : UnitSort → (clause : ℕ) → State → Outcome FlatValue
      where_word of_routine k st = load k st
      where_word (of_method c m) k st = field c k st
      where_word (of_init c) k st = load (k + 1) st

      -- what stands for the stub of this place
      abbrev pub stub_word : (place : ℕ) → State → Outcome FlatValue
      stub_word b st = with_some (w.unit (stub_name s.module_name (s.before + b))) st (λ g. Gives (Code (stub_name s.module_name (s.before + b))) st)

      -- what stands for a where-method, by the operation at a place
      abbrev pub supply : SupplyTree → (place : ℕ) → State → Outcome FlatValue
      supply (by_primitive q) b st = stub_word b st
      supply (by_method of m) b st = stub_word b st
      supply (passed k) b st = where_word s.sort k st

      abbrev pub supplies : List SupplyTree → (place : ℕ) → State → Outcome (List FlatValue)
      supplies [] b st = Gives [] st
      supplies (x ∷ xs) b st = then_do (supply x b st) (λ v st1. then_do (supplies xs (b + 1) st1) (λ vs st2. Gives (v ∷ vs) st2))

      -- an object with no field set
      abbrev pub new_of : (class : List ℕ) → State → Outcome FlatValue
      new_of c st = with_some (w.flat.weight c) st (λ k. pay (takes_both 1 k) st (λ st1. on_world (add_object (Instance c []) st1.world) st1 (λ n st2. Gives (Ref n as_whole) st2)))

      -- a call, once its operands are there
      abbrev pub aim : CallTree → List FlatValue → State → Outcome Target
      aim (routine_call f ts ss es) vs st = call_named f vs st
      aim (method_call of m e es) vs st = dispatch (home s.known of m) m vs st
      aim (hidden_call c m es) vs st = call_hidden c m vs st
      aim (super_call c m es) vs st = call_named (method_name c m) vs st
      aim (where_call k m e es) vs st = call_supply vs st
      aim (init_call c ts ss es) vs st = call_named (init_name c) vs st

      -- the type at which what a call gives is seen, where there is one: the method's result in the named type, or in the class's
      -- signature
      abbrev pub view_of : CallTree → Option (List ℕ)
      view_of (routine_call f ts ss es) = w.flat.called_result f
      view_of (method_call of m e es) = w.flat.dispatched_result (home s.known of m) m
      view_of (hidden_call c m es) = None
      view_of (super_call c m es) = w.flat.called_result (method_name c m)
      view_of (where_call k m e es) = None
      view_of (init_call c ts ss es) = w.flat.called_result (init_name c)

      -- a handler's variable is set to the exception's argument
      abbrev pub bind_argument : {A : Type 0} → Option Variable → Option FlatValue → State → (State → Outcome A) → Outcome A
      bind_argument None v st f = f st
      bind_argument (Some x) None st f = stuck st
      bind_argument (Some x) (Some v) st f = store (word_of s x.local) v st f

      -- the words of a `for` and its loop's body
      abbrev pub visiting : Variable → Option CastTree → (State → Outcome How) → Body
      visiting x k run v st = pay (takes_room yield_weight) st (λ st1. then_do (may_cast k v st1) (λ y st2. store (word_of s x.local) y st2 run))

module _ (w : WordProgram) (units : Units) where
  -- a call of a unit that isn't an iterator; what it gives is seen at a type from then on, where there is one
  abbrev pub call : (view : Option (List ℕ)) → (f : ℕ) → Target → State → Outcome (List FlatValue)
  call view f t st = given (not (is_iterator (flat_of t.unit)) && not (is_body (flat_of t.unit))) st (back_in w view f st (units t.unit t.args no_body [] st.world))

  -- a `for` over the iterator that is called, which gives f words, none
  abbrev pub looped : (view : Option (List ℕ)) → (f : ℕ) → Body → Target → State → Outcome How
  looped view f body t st = given (is_iterator (flat_of t.unit) && not (is_body (flat_of t.unit))) st (for_ends w view f (units t.unit t.args body (st.locals ∷ st.homes) st.world))

  module _ (u : FlatUnit) (s : Site) where
    abbrev mutual
      -- the word of an expression whose code stands from the place b on; operands come from left to right
      pub eval : ExprTree → (b : ℕ) → State → Outcome FlatValue
      eval (number_expr n) b st = Gives (Int (signed n)) st
      eval (truth_expr x) b st = Gives (truth x) st
      eval (literal_expr bytes) b st = Gives (Text bytes) st
      eval self_expr b st = own w u (class_around s.sort) st
      eval (local_expr k) b st = load (word_of s k) st
      eval (field_expr c f) b st = field w u c (s.clauses + f) st
      eval (negative_expr x) b st = then_do (eval x b st) negative_of
      eval (arith_expr op x y) b st = both (eval x b st) (eval y (b + expr_size x)) (arith_of op)
      eval (compare_expr op x y) b st = both (eval x b st) (eval y (b + expr_size x)) (compare_of op)
      eval (same_expr x y) b st = both (eval x b st) (eval y (b + expr_size x)) same_of
      eval (not_expr x) b st = then_do (eval x b st) not_of
      eval (and_expr x y) b st = then_do (eval x b st) (and_of (eval y (b + expr_size x + 1)))
      eval (or_expr x y) b st = then_do (eval x b st) (or_of (eval y (b + expr_size x + 3)))
      eval (join_expr x y) b st = both (eval x b st) (eval y (b + expr_size x)) join_of
      eval (letter_expr x y) b st = both (eval x b st) (eval y (b + expr_size x)) letter_of
      eval (extent_expr x) b st = then_do (eval x b st) extent_of
      eval (element_expr x y) b st = both (eval x b st) (eval y (b + expr_size x)) element_of
      eval (length_expr x) b st = then_do (eval x b st) length_of
      eval (cast_expr c x) b st = then_do (eval x b st) (cast w c)
      eval (call_expr c) b st = then_do (operands c b st) (λ vs st1. then_do (aim w u s c vs st1) (λ t st2. then_do (call (view_of w u s c) 1 t st2) one_word))
      eval (new_expr c ts ss es) b st = then_do (new_of w u s c st) (λ v st1. then_do (supplies w u s ss (b + 1) st1) (λ xs st2. then_do (eval_all es (b + 1 + length ss) st2)
          (λ vs st3. then_do (call_named w (init_name c) (v ∷ (xs ++ vs)) st3) (λ t st4. then_do (call (w.flat.called_result (init_name c)) 1 t st4) one_word))))
      eval (new_array_expr t x y) b st = both (eval x b st) (eval y (b + expr_size x)) new_array_of
      eval get_byte_expr b st = get_byte_of st

      -- the words of expressions
      pub eval_all : ExprTrees → (b : ℕ) → State → Outcome (List FlatValue)
      eval_all no_expr b st = Gives [] st
      eval_all (more_exprs e es) b st = then_do (eval e b st) (λ v st1. then_do (eval_all es (b + expr_size e) st1) (λ vs st2. Gives (v ∷ vs) st2))

      -- the operands of a call: the word of the where-method that is called, the receiver, a word for each where-method of what is
      -- called, and the arguments
      pub operands : CallTree → (b : ℕ) → State → Outcome (List FlatValue)
      operands (routine_call f ts ss es) b st = then_do (supplies w u s ss b st) (λ xs st1. then_do (eval_all es (b + length ss) st1) (λ vs st2. Gives (xs ++ vs) st2))
      operands (method_call of m e es) b st = then_do (eval e b st) (λ v st1. then_do (cast_to w of (home s.known of m) v st1) (λ x st2. then_do (eval_all es (b + expr_size e + 1) st2) (λ vs st3. Gives (x ∷ vs) st3)))
      operands (hidden_call c m es) b st = then_do (load 0 st) (λ v st1. then_do (eval_all es (b + 1) st1) (λ vs st2. Gives (v ∷ vs) st2))
      operands (super_call c m es) b st = then_do (load 0 st) (λ v st1. then_do (eval_all es (b + 1) st1) (λ vs st2. Gives (v ∷ vs) st2))
      operands (where_call k m e es) b st = then_do (where_word w u s s.sort k st) (λ x st1. then_do (eval e (b + 1) st1) (λ v st2. then_do (eval_all es (b + 1 + expr_size e) st2) (λ vs st3. Gives (x ∷ v ∷ vs) st3)))
      operands (init_call c ts ss es) b st = then_do (load 0 st) (λ v st1. then_do (supplies w u s ss (b + 1) st1) (λ xs st2. then_do (eval_all es (b + 1 + length ss) st2)
          (λ vs st3. pay (takes_turns 1) st3 (λ st4. Gives (v ∷ (xs ++ vs)) st4))))

    -- n bounds the turns of loops
    module _ (n : ℕ) where
      abbrev mutual
        -- the execution of a statement whose code stands from the place b on
        pub exec : StmtTree → (b : ℕ) → Body → State → Outcome How
        exec (var_stmt x e) b body st = then_do (eval e b st) (λ v st1. store (word_of s x.local) v st1 (Gives Done))
        exec (set_local_stmt k e) b body st = then_do (eval e b st) (λ v st1. store (word_of s k) v st1 (Gives Done))
        exec (set_field_stmt c f e) b body st = then_do (eval e b st) (λ v st1. set_field_of w u c (s.clauses + f) v st1 (Gives Done))
        exec (set_element_stmt a i e) b body st = then_do (eval a b st) (λ x st1. then_do (eval i (b + expr_size a) st1) (λ y st2. then_do (eval e (b + expr_size a + expr_size i) st2) (set_element_of x y)))
        exec (call_stmt c) b body st = then_do (operands c b st) (λ vs st1. then_do (aim w u s c vs st1) (λ t st2. then_do (call (view_of w u s c) (kept_words c) t st2) (statement_words c)))
        exec (drop_stmt c) b body st = then_do (operands c b st) (λ vs st1. then_do (aim w u s c vs st1) (λ t st2. then_do (call (view_of w u s c) 1 t st2) one_dropped))
        exec (if_stmt e t r) b body st = then_do (eval e b st) (if_of (exec_body t (b + expr_size e + 1) body) (exec_else r (b + expr_size e + 1 + body_size t) body))
        exec (while_stmt e t) b body st = loops n (eval e (b + 2 + body_size t)) (exec_body t (b + 2) body) st
        exec (for_stmt x k c t) b body st = then_do (operands c b st) (λ vs st1. then_do (aim w u s c vs st1) (looped (view_of w u s c) (kept_words c) (visiting w u s x k (exec_body t (b + operands_size c + 2 + may_cast_size k + 1) body))))
        exec break_stmt b body st = Gives Exit st
        exec return_stmt b body st = return_of w u None st
        exec (return_value_stmt e) b body st = then_do (eval e b st) (λ v st1. return_of w u (Some v) st1)
        exec (yield_stmt e) b body st = then_do (eval e b st) (yields body)
        exec (raise_stmt x) b body st = Throws x None st
        exec (raise_value_stmt x e) b body st = then_do (eval e b st) (λ v st1. Throws x (Some v) st1)
        exec (begin_stmt t ws) b body st = catch (exec_body t (b + block_size ws) body st) (λ x v st1. handle ws (b + block_size ws + body_size t) x v body st1)
        exec (put_byte_stmt e) b body st = then_do (eval e b st) put_byte_of
        exec (put_int_stmt e) b body st = then_do (eval e b st) put_int_of
        exec (put_text_stmt e) b body st = then_do (eval e b st) put_text_of

        -- the execution of statements
        pub exec_body : BodyTree → (b : ℕ) → Body → State → Outcome How
        exec_body no_stmt b body st = Gives Done st
        exec_body (more_stmts first rest) b body st = then_do (exec first b body st) (λ how st1. if_done how st1 (exec_body rest (b + stmt_size first) body st1))

        -- what follows the statements after a `then`, where the test before it didn't hold
        pub exec_else : ElseTree → (b : ℕ) → Body → State → Outcome How
        exec_else no_else b body st = Gives Done st
        exec_else (else_do t) b body st = exec_body t (b + 1) body st
        exec_else (elseif_then e t r) b body st = then_do (eval e (b + 1) st) (if_of (exec_body t (b + 1 + expr_size e + 1) body) (exec_else r (b + 1 + expr_size e + 1 + body_size t) body))

        -- an exception goes to the handler of its name; where there is none it goes on
        pub handle : WhenTrees → (b : ℕ) → List ℕ → Option FlatValue → Body → State → Outcome How
        handle no_when b x v body st = Throws x v st
        handle (more_whens y variable t ws) b x v body st =
            if bytes_eq x y then bind_argument w u s variable v st (exec_body t (b + 1 + 1 + variable_nodes variable) body)
            else handle ws (b + 1 + 1 + variable_nodes variable + body_size t) x v body st
