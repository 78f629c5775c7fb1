-- What a program does: the evaluation of expressions, calls and statements.
use Rattle.std.specs.Prelude.{ℕ, zero, suc, ◌+◌, Bool, true, false, not, List, [], ◌∷◌, ◌++◌, map, length, replicate, set, Option, Some, None, option_map, ℤ, pos, negsuc, int_lt, int_le, nat_eq, bytes_eq, slice_get, if◌then◌else◌, codes}
use Rattle.std.specs.Ordering.{int_eq}
use Rattle.th_meaning.specs.declared.expr.ArithOp.{ArithOp}
use Rattle.th_meaning.specs.declared.expr.ArithOp.TheVariants.{Plus, Minus, Times, Divide, Remainder}
use Rattle.th_meaning.specs.declared.expr.CompareOp.{CompareOp}
use Rattle.th_meaning.specs.declared.expr.CompareOp.TheVariants.{Equal, NotEqual, Less, LessEqual, Greater, GreaterEqual}
use Rattle.th_meaning.specs.Trees.{ExprTree, number_expr, truth_expr, literal_expr, self_expr, local_expr, field_expr, negative_expr, arith_expr, compare_expr, same_expr, not_expr, and_expr, or_expr, join_expr, letter_expr, extent_expr, element_expr, length_expr, cast_expr, call_expr, new_expr, new_array_expr, get_byte_expr, ExprTrees, no_expr, more_exprs, CallTree, routine_call, method_call, hidden_call, super_call, where_call, init_call, Variable, StmtTree, var_stmt, set_local_stmt, set_field_stmt, set_element_stmt, call_stmt, drop_stmt, if_stmt, while_stmt, for_stmt, break_stmt, return_stmt, return_value_stmt, yield_stmt, raise_stmt, raise_value_stmt, begin_stmt, put_byte_stmt, put_int_stmt, put_text_stmt, BodyTree, no_stmt, more_stmts, ElseTree, no_else, else_do, elseif_then, WhenTrees, no_when, more_whens}
use Rattle.th_meaning.specs.Program.{ProgramUnit, Program, unit_named, walk, init_name}
use Rattle.th_meaning.specs.Counts.{unit_locals, call_weight}
use Rattle.th_meaning.specs.Weights.{object_weight}
use Rattle.th_meaning.specs.World.{Object, Instance, Array, World, Halt, Unset, Stuck, Deep, Effect, Did, Fails, Stops, spend, enter, open_yield, yield_weight, give_back, sum, difference, product, negation, quotient, remainder, put_byte, put_int, put_text, get_byte, join, letter, new_object, new_array, element, array_length, set_element, field_value, set_field}

-- a value: a number, a truth value, a reference to the object of a number, or a text
pub data Value : Type 0 where
  Int : ℤ → Value
  Truth : Bool → Value
  Ref : ℕ → Value
  Text : List ℕ → Value

-- what a unit works on besides the world: the object whose method or initializer it is, where it is one, and its locals
-- (None: not yet bound)
pub record Frame : Type 0 where
  pub receiver : Option ℕ
  pub locals : List (Option Value)

-- the running unit's frame; the frames of the units with a `for` whose loop bodies are run by the yields of the running
-- iterators, the nearest first; and the world
pub record State : Type 0 where
  pub frame : Frame
  pub homes : List Frame
  pub world : World Value

-- the outcome of an evaluation: a result; an exception that was raised, by its full name and perhaps with an argument; or
-- the run's stop
pub data Outcome (A : Type 0) : Type 0 where
  Gives : A → State → Outcome A
  Raises : (name : List ℕ) → (argument : Option Value) → State → Outcome A
  Halts : Halt → World Value → Outcome A

-- how a loop's body, run by a yield, left its loop: by a `break`, by a return, by an exception, or by leaving the loop
-- that its own unit, an iterator, runs for
pub data Leave : Type 0 where
  by_break : Leave
  by_return : (value : Option Value) → Leave
  by_raise : (name : List ℕ) → (argument : Option Value) → Leave
  by_leave : Leave → Leave

-- how a statement ended: the next one follows; its loop is left; its unit returns, perhaps with a value; or the loop's body
-- that a yield of the running iterator ran left its loop, so that the iterator ends
pub data How : Type 0 where
  Done : How
  Exit : How
  Return : (value : Option Value) → How
  Cut : Leave → How

-- one evaluation after another
abbrev pub then_do : {A B : Type 0} → Outcome A → (A → State → Outcome B) → Outcome B
then_do (Gives a st) f = f a st
then_do (Raises x v st) f = Raises x v st
then_do (Halts h w) f = Halts h w

-- the state with another world
abbrev pub with_world : State → World Value → State
with_world st w = record st { world = w }

-- an effect on the state's world
abbrev pub act : {A : Type 0} → Effect Value A → State → Outcome A
act (Did a w) st = Gives a (with_world st w)
act (Fails x w) st = Raises x None (with_world st w)
act (Stops h w) st = Halts h w

-- an effect that gives a value by its kind
abbrev pub act_as : {A : Type 0} → (A → Value) → Effect Value A → State → Outcome Value
act_as kind e st = then_do (act e st) (λ a st1. Gives (kind a) st1)

-- the number that a value is
abbrev pub with_int : {A : Type 0} → Value → State → (ℤ → Outcome A) → Outcome A
with_int (Int n) st f = f n
with_int (Truth b) st f = Halts Stuck st.world
with_int (Ref k) st f = Halts Stuck st.world
with_int (Text bytes) st f = Halts Stuck st.world

-- the truth value that a value is
abbrev pub with_truth : {A : Type 0} → Value → State → (Bool → Outcome A) → Outcome A
with_truth (Int n) st f = Halts Stuck st.world
with_truth (Truth b) st f = f b
with_truth (Ref k) st f = Halts Stuck st.world
with_truth (Text bytes) st f = Halts Stuck st.world

-- the number of the object that a value refers to
abbrev pub with_ref : {A : Type 0} → Value → State → (ℕ → Outcome A) → Outcome A
with_ref (Int n) st f = Halts Stuck st.world
with_ref (Truth b) st f = Halts Stuck st.world
with_ref (Ref k) st f = f k
with_ref (Text bytes) st f = Halts Stuck st.world

-- the bytes of the text that a value is
abbrev pub with_text : {A : Type 0} → Value → State → (List ℕ → Outcome A) → Outcome A
with_text (Int n) st f = Halts Stuck st.world
with_text (Truth b) st f = Halts Stuck st.world
with_text (Ref k) st f = Halts Stuck st.world
with_text (Text bytes) st f = f bytes

-- what is there; where it isn't, the run stops for this cause
abbrev pub with_some : {A B : Type 0} → Option A → Halt → State → (A → Outcome B) → Outcome B
with_some None h st f = Halts h st.world
with_some (Some a) h st f = f a

-- the object whose method or initializer runs
abbrev pub with_self : {A : Type 0} → State → (ℕ → Outcome A) → Outcome A
with_self st f = with_some st.frame.receiver Stuck st f

-- the value of a local
abbrev pub local_value : ℕ → State → Option Value
local_value k st = elim (slice_get st.frame.locals k) [ None ↦ None | Some v ↦ v ]

-- a local is bound
abbrev pub set_local : ℕ → Value → State → State
set_local k v st = record st { frame = record { receiver = st.frame.receiver; locals = set st.frame.locals k (Some v) } }

-- two evaluations, the left one first, and what is done with their values
abbrev pub both : {A : Type 0} → Outcome Value → (State → Outcome Value) → (Value → Value → State → Outcome A) → Outcome A
both left right f = then_do left (λ x st1. then_do (right st1) (λ y st2. f x y st2))

-- an operator on two numbers
abbrev pub arith : ArithOp → ℤ → ℤ → World Value → Effect Value ℤ
arith Plus x y w = sum x y w
arith Minus x y w = difference x y w
arith Times x y w = product x y w
arith Divide x y w = quotient x y w
arith Remainder x y w = remainder x y w

abbrev pub arith_of : ArithOp → Value → Value → State → Outcome Value
arith_of op a b st = with_int a st (λ x. with_int b st (λ y. act_as Int (arith op x y st.world) st))

-- a comparison of two numbers
abbrev pub compare : CompareOp → ℤ → ℤ → Bool
compare Equal x y = int_eq x y
compare NotEqual x y = not (int_eq x y)
compare Less x y = int_lt x y
compare LessEqual x y = int_le x y
compare Greater x y = int_lt y x
compare GreaterEqual x y = int_le y x

-- a truth value as a number
abbrev pub number_of : Bool → ℤ
number_of false = pos 0
number_of true = pos 1

-- a comparison of two numbers, or of two truth values
abbrev pub compare_of : CompareOp → Value → Value → State → Outcome Value
compare_of op (Int x) b st = with_int b st (λ y. Gives (Truth (compare op x y)) st)
compare_of op (Truth x) b st = with_truth b st (λ y. Gives (Truth (compare op (number_of x) (number_of y))) st)
compare_of op (Ref k) b st = Halts Stuck st.world
compare_of op (Text bytes) b st = Halts Stuck st.world

-- whether two references are to one object
abbrev pub same_of : Value → Value → State → Outcome Value
same_of a b st = with_ref a st (λ j. with_ref b st (λ k. Gives (Truth (nat_eq j k)) st))

abbrev pub join_of : Value → Value → State → Outcome Value
join_of a b st = with_text a st (λ s. with_text b st (λ t. act_as Text (join s t st.world) st))

abbrev pub letter_of : Value → Value → State → Outcome Value
letter_of a b st = with_text a st (λ s. with_int b st (λ i. act_as (λ c. Int (pos c)) (letter s i st.world) st))

abbrev pub element_of : Value → Value → State → Outcome Value
element_of a b st = with_ref a st (λ k. with_int b st (λ i. act (element k i st.world) st))

abbrev pub new_array_of : Value → Value → State → Outcome Value
new_array_of n fill st = with_int n st (λ count. act_as Ref (new_array count fill st.world) st)

abbrev pub negative_of : Value → State → Outcome Value
negative_of v st = with_int v st (λ x. act_as Int (negation x st.world) st)

abbrev pub not_of : Value → State → Outcome Value
not_of v st = with_truth v st (λ x. Gives (Truth (not x)) st)

-- `and`: the right side is left where the left one decides
abbrev pub and_of : (State → Outcome Value) → Value → State → Outcome Value
and_of right v st = with_truth v st (λ x. if x then right st else Gives (Truth false) st)

-- `or`: the right side is left where the left one decides
abbrev pub or_of : (State → Outcome Value) → Value → State → Outcome Value
or_of right v st = with_truth v st (λ x. if x then Gives (Truth true) st else right st)

abbrev pub extent_of : Value → State → Outcome Value
extent_of v st = with_text v st (λ bytes. Gives (Int (pos (length bytes))) st)

abbrev pub length_of : Value → State → Outcome Value
length_of v st = with_ref v st (λ k. act_as (λ n. Int (pos n)) (array_length k st.world) st)

abbrev pub self_of : State → Outcome Value
self_of st = with_self st (λ k. Gives (Ref k) st)

abbrev pub local_of : ℕ → State → Outcome Value
local_of k st = with_some (local_value k st) Unset st (λ v. Gives v st)

abbrev pub field_of : (class : List ℕ) → (field : ℕ) → State → Outcome Value
field_of class f st = with_self st (λ k. act (field_value k class f st.world) st)

abbrev pub get_byte_of : State → Outcome Value
get_byte_of st = act_as Int (get_byte st.world) st

-- what a call comes to once its operands are there and its turn is taken: a unit is entered with a receiver, where it has
-- one, and arguments; or the value is known, as a primitive gives it
pub data Target : Type 0 where
  Enters : (unit : List ℕ) → (receiver : Option ℕ) → (args : List Value) → Target
  Known : (value : Value) → Target

-- the class of an object
abbrev pub class_of : Option (Object Value) → Option (List ℕ)
class_of None = None
class_of (Some (Instance class slots)) = Some class
class_of (Some (Array elements)) = None

-- a body that was found is entered with the object as its receiver
abbrev pub entering : Option (List ℕ) → ℕ → List Value → Option Target
entering None k args = None
entering (Some unit) k args = Some (Enters unit (Some k) args)

-- the body of a method that the walk finds from a class, where there is one
abbrev pub found_from : Program → Option (List ℕ) → (method : List ℕ) → ℕ → List Value → Option Target
found_from p None method k args = None
found_from p (Some class) method k args = entering (walk p class method) k args

-- the body of a method that the walk finds from an object's class
abbrev pub method_of_object : Program → (method : List ℕ) → ℕ → List Value → World Value → Option Target
method_of_object p method k args w = found_from p (class_of (slice_get w.objects k)) method k args

-- a method of a number: `equal` or `less`, of one more number
abbrev pub int_primitive : (method : List ℕ) → ℤ → List Value → Option Target
int_primitive method x (Int y ∷ []) = if bytes_eq method (codes "equal") then Some (Known (Truth (int_eq x y)))
    else if bytes_eq method (codes "less") then Some (Known (Truth (int_lt x y))) else None
int_primitive method x _ = None

-- a method of a truth value: `equal`, of one more truth value
abbrev pub truth_primitive : (method : List ℕ) → Bool → List Value → Option Target
truth_primitive method x (Truth y ∷ []) = if bytes_eq method (codes "equal") then Some (Known (Truth (int_eq (number_of x) (number_of y)))) else None
truth_primitive method x _ = None

-- a method of an object of a declared type: the walk from the object's class
abbrev pub method_target : Program → (method : List ℕ) → Value → List Value → World Value → Option Target
method_target p method (Int n) args w = None
method_target p method (Truth b) args w = None
method_target p method (Ref k) args w = method_of_object p method k args w
method_target p method (Text bytes) args w = None

-- a where-method: the primitive of a number or a truth value, or the walk from an object's class
abbrev pub where_target : Program → (method : List ℕ) → Value → List Value → World Value → Option Target
where_target p method (Int n) args w = int_primitive method n args
where_target p method (Truth b) args w = truth_primitive method b args
where_target p method (Ref k) args w = method_of_object p method k args w
where_target p method (Text bytes) args w = None

-- one turn is taken for a call
abbrev pub aimed : Option Target → State → Outcome Target
aimed target st = with_some target Stuck st (λ t. then_do (act (spend 1 st.world) st) (λ _ st1. Gives t st1))

-- a call of a method of an object of a declared type
abbrev pub aim_method : Program → (method : List ℕ) → Value → List Value → State → Outcome Target
aim_method p method v args st = aimed (method_target p method v args st.world) st

-- a call of a method of the object of a number
abbrev pub aim_object : Program → (method : List ℕ) → ℕ → List Value → State → Outcome Target
aim_object p method k args st = aimed (method_of_object p method k args st.world) st

-- a call of a where-method
abbrev pub aim_where : Program → (method : List ℕ) → Value → List Value → State → Outcome Target
aim_where p method v args st = aimed (where_target p method v args st.world) st

-- a loop's body, which a yield runs with a value in the state of its home
abbrev pub Body : Type 0
Body = Value → State → Outcome How

-- where no loop is open there is nothing that a yield runs
abbrev pub no_body : Body
no_body v st = Halts Stuck st.world

-- the runs of units: of the unit of a full name with a receiver, arguments, the loop's body that its yields run, and the
-- frames of the homes of open loops
abbrev pub Units : Type 0
Units = (unit : List ℕ) → (receiver : Option ℕ) → (args : List Value) → Body → (homes : List Frame) → World Value → Outcome How

-- the value that a unit returned
abbrev pub returned : How → Option Value
returned Done = None
returned Exit = None
returned (Return v) = v
returned (Cut l) = None

-- the caller goes on in its own frame
abbrev pub back_in : State → Outcome How → Outcome (Option Value)
back_in st (Gives how st1) = Gives (returned how) (with_world st st1.world)
back_in st (Raises x v st1) = Raises x v (with_world st st1.world)
back_in st (Halts h w) = Halts h w

-- a call
abbrev pub called : Units → Target → State → Outcome (Option Value)
called units (Enters unit receiver args) st = back_in st (units unit receiver args no_body [] st.world)
called units (Known v) st = Gives (Some v) st

-- a call whose value is used
abbrev pub value_called : Units → Target → State → Outcome Value
value_called units t st = then_do (called units t st) (λ v st1. with_some v Stuck st1 (λ x. Gives x st1))

-- an object is made: one turn, its room, the arguments, and then its initializer is entered, which takes no turn
abbrev pub made : Units → (class : List ℕ) → (number : ℕ) → List Value → State → Outcome Value
made units class k args st = then_do (called units (Enters (init_name class) (Some k) args) st) (λ _ st1. Gives (Ref k) st1)

-- the object of a `new`
abbrev pub new_of : Program → (class : List ℕ) → State → Outcome ℕ
new_of p class st = act (new_object class (object_weight p class) st.world) st

module _ (p : Program) (units : Units) where
  abbrev mutual
    -- the value of an expression; operands come from left to right, a receiver first
    pub eval : ExprTree → State → Outcome Value
    eval (number_expr n) st = Gives (Int (pos n)) st
    eval (truth_expr b) st = Gives (Truth b) st
    eval (literal_expr bytes) st = Gives (Text bytes) st
    eval self_expr st = self_of st
    eval (local_expr k) st = local_of k st
    eval (field_expr class f) st = field_of class f st
    eval (negative_expr a) st = then_do (eval a st) negative_of
    eval (arith_expr op a b) st = both (eval a st) (eval b) (arith_of op)
    eval (compare_expr op a b) st = both (eval a st) (eval b) (compare_of op)
    eval (same_expr a b) st = both (eval a st) (eval b) same_of
    eval (not_expr a) st = then_do (eval a st) not_of
    eval (and_expr a b) st = then_do (eval a st) (and_of (eval b))
    eval (or_expr a b) st = then_do (eval a st) (or_of (eval b))
    eval (join_expr a b) st = both (eval a st) (eval b) join_of
    eval (letter_expr a b) st = both (eval a st) (eval b) letter_of
    eval (extent_expr a) st = then_do (eval a st) extent_of
    eval (element_expr a b) st = both (eval a st) (eval b) element_of
    eval (length_expr a) st = then_do (eval a st) length_of
    eval (cast_expr c a) st = eval a st
    eval (call_expr c) st = then_do (aim c st) (value_called units)
    eval (new_expr class types supplies args) st = then_do (new_of p class st) (λ k st1. then_do (eval_all args st1) (made units class k))
    eval (new_array_expr t a b) st = both (eval a st) (eval b) new_array_of
    eval get_byte_expr st = get_byte_of st

    -- the values of expressions
    pub eval_all : ExprTrees → State → Outcome (List Value)
    eval_all no_expr st = Gives [] st
    eval_all (more_exprs e es) st = then_do (eval e st) (λ v st1. then_do (eval_all es st1) (λ vs st2. Gives (v ∷ vs) st2))

    -- a call up to its turn: its operands, and then the turn
    pub aim : CallTree → State → Outcome Target
    aim (routine_call unit types supplies args) st = then_do (eval_all args st) (λ vs st1. aimed (Some (Enters unit None vs)) st1)
    aim (method_call of method e args) st = then_do (eval e st) (λ v st1. then_do (eval_all args st1) (aim_method p method v))
    aim (hidden_call class method args) st = with_self st (λ k. then_do (eval_all args st) (aim_object p method k))
    aim (super_call class method args) st = with_self st (λ k. then_do (eval_all args st) (λ vs st1. aimed (entering (walk p class method) k vs) st1))
    aim (where_call clause method e args) st = then_do (eval e st) (λ v st1. then_do (eval_all args st1) (aim_where p method v))
    aim (init_call class types supplies args) st = with_self st (λ k. then_do (eval_all args st) (λ vs st1. aimed (Some (Enters (init_name class) (Some k) vs)) st1))

-- what follows a statement that ended so
abbrev pub if_done : How → State → Outcome How → Outcome How
if_done Done st next = next
if_done Exit st next = Gives Exit st
if_done (Return v) st next = Gives (Return v) st
if_done (Cut l) st next = Gives (Cut l) st

-- what follows the body of a `while` that ended so
abbrev pub again_of : (State → Outcome How) → How → State → Outcome How
again_of again Done st = again st
again_of again Exit st = Gives Done st
again_of again (Return v) st = Gives (Return v) st
again_of again (Cut l) st = Gives (Cut l) st

-- what follows the test of a `while`: where it holds one turn, then the body, then again
abbrev pub while_of : (State → Outcome How) → (State → Outcome How) → Value → State → Outcome How
while_of body again v st = with_truth v st (λ x. if x then then_do (act (spend 1 st.world) st) (λ _ st1. then_do (body st1) (again_of again)) else Gives Done st)

-- a `while`, with a bound on its turns
abbrev pub loops : ℕ → (State → Outcome Value) → (State → Outcome How) → State → Outcome How
loops zero test body st = Halts Deep st.world
loops (suc n) test body st = then_do (test st) (while_of body (loops n test body))

-- how a `for` ends whose iterator ended so
abbrev pub for_how : How → State → Outcome How
for_how Done st = Gives Done st
for_how Exit st = Gives Done st
for_how (Return v) st = Gives Done st
for_how (Cut by_break) st = Gives Done st
for_how (Cut (by_return v)) st = Gives (Return v) st
for_how (Cut (by_raise x v)) st = Raises x v st
for_how (Cut (by_leave l)) st = Gives (Cut l) st

-- the nearest home's frame
abbrev pub home : List Frame → Frame
home [] = record { receiver = None; locals = [] }
home (frame ∷ homes) = frame

-- the other homes' frames
abbrev pub other_homes : List Frame → List Frame
other_homes [] = []
other_homes (frame ∷ homes) = homes

-- the home goes on as its iterator ended in this state
abbrev pub at_home : State → State
at_home st = record { frame = home st.homes; homes = other_homes st.homes; world = st.world }

-- a `for` ends as its iterator did
abbrev pub for_ends : Outcome How → Outcome How
for_ends (Gives how st) = for_how how (at_home st)
for_ends (Raises x v st) = Raises x v (at_home st)
for_ends (Halts h w) = Halts h w

-- a `for` over the iterator that is called
abbrev pub looped : Units → Body → Target → State → Outcome How
looped units body (Enters unit receiver args) st = for_ends (units unit receiver args body (st.frame ∷ st.homes) st.world)
looped units body (Known v) st = Halts Stuck st.world

-- the iterator goes on after its loop's body, which ended in the state st1: the home's frame is kept, and the room of the
-- yield is given back
abbrev pub again_in : State → State → State
again_in st st1 = record { frame = st.frame; homes = st1.frame ∷ st1.homes; world = give_back yield_weight st1.world }

-- how a yield ends whose loop's body ended so
abbrev pub yielded : State → Outcome How → Outcome How
yielded st (Gives Done st1) = Gives Done (again_in st st1)
yielded st (Gives Exit st1) = Gives (Cut by_break) (again_in st st1)
yielded st (Gives (Return v) st1) = Gives (Cut (by_return v)) (again_in st st1)
yielded st (Gives (Cut l) st1) = Gives (Cut (by_leave l)) (again_in st st1)
yielded st (Raises x v st1) = Gives (Cut (by_raise x v)) (again_in st st1)
yielded st (Halts h w) = Halts h w

-- a yield: one turn and its room, then the loop's body in the frame of its home
abbrev pub yields : Body → Value → State → Outcome How
yields body v st = then_do (act (open_yield st.world) st) (λ _ st1. yielded st1 (body v (at_home st1)))

-- a body's exception goes to its handlers
abbrev pub catch : Outcome How → (List ℕ → Option Value → State → Outcome How) → Outcome How
catch (Gives how st) handle = Gives how st
catch (Raises x v st) handle = handle x v st
catch (Halts h w) handle = Halts h w

-- a handler's variable is bound to the exception's argument
abbrev pub bind_argument : Option Variable → Option Value → State → State
bind_argument None v st = st
bind_argument (Some x) None st = st
bind_argument (Some x) (Some v) st = set_local x.local v st

-- a local is set
abbrev pub set_local_of : ℕ → Value → State → Outcome How
set_local_of k v st = Gives Done (set_local k v st)

-- a field of the object whose method or initializer runs is set
abbrev pub set_field_of : (class : List ℕ) → (field : ℕ) → Value → State → Outcome How
set_field_of class f v st = with_self st (λ k. then_do (act (set_field k class f v st.world) st) (λ _ st1. Gives Done st1))

-- an element of an array is set
abbrev pub set_element_of : (array index value : Value) → State → Outcome How
set_element_of a i v st = with_ref a st (λ k. with_int i st (λ j. then_do (act (set_element k j v st.world) st) (λ _ st1. Gives Done st1)))

-- a call as a statement; its value, where it has one, is dropped
abbrev pub drop_called : Units → Target → State → Outcome How
drop_called units t st = then_do (called units t st) (λ _ st1. Gives Done st1)

-- what follows a test
abbrev pub if_of : (State → Outcome How) → (State → Outcome How) → Value → State → Outcome How
if_of first second v st = with_truth v st (λ x. if x then first st else second st)

abbrev pub put_byte_of : Value → State → Outcome How
put_byte_of v st = with_int v st (λ x. then_do (act (put_byte x st.world) st) (λ _ st1. Gives Done st1))

abbrev pub put_int_of : Value → State → Outcome How
put_int_of v st = with_int v st (λ x. then_do (act (put_int x st.world) st) (λ _ st1. Gives Done st1))

abbrev pub put_text_of : Value → State → Outcome How
put_text_of v st = with_text v st (λ bytes. then_do (act (put_text bytes st.world) st) (λ _ st1. Gives Done st1))

module _ (p : Program) (units : Units) (n : ℕ) where
  abbrev mutual
    -- the execution of a statement
    pub exec : StmtTree → Body → State → Outcome How
    exec (var_stmt x e) body st = then_do (eval p units e st) (set_local_of x.local)
    exec (set_local_stmt k e) body st = then_do (eval p units e st) (set_local_of k)
    exec (set_field_stmt class f e) body st = then_do (eval p units e st) (set_field_of class f)
    exec (set_element_stmt a i e) body st = both (eval p units a st) (eval p units i) (λ x y st1. then_do (eval p units e st1) (set_element_of x y))
    exec (call_stmt c) body st = then_do (aim p units c st) (drop_called units)
    exec (drop_stmt c) body st = then_do (aim p units c st) (drop_called units)
    exec (if_stmt e b r) body st = then_do (eval p units e st) (if_of (exec_body b body) (exec_else r body))
    exec (while_stmt e b) body st = loops n (eval p units e) (exec_body b body) st
    exec (for_stmt x cast c b) body st = then_do (aim p units c st) (looped units (λ v st1. exec_body b body (set_local x.local v st1)))
    exec break_stmt body st = Gives Exit st
    exec return_stmt body st = Gives (Return None) st
    exec (return_value_stmt e) body st = then_do (eval p units e st) (λ v st1. Gives (Return (Some v)) st1)
    exec (yield_stmt e) body st = then_do (eval p units e st) (yields body)
    exec (raise_stmt x) body st = Raises x None st
    exec (raise_value_stmt x e) body st = then_do (eval p units e st) (λ v st1. Raises x (Some v) st1)
    exec (begin_stmt b ws) body st = catch (exec_body b body st) (λ x v st1. handle ws x v body st1)
    exec (put_byte_stmt e) body st = then_do (eval p units e st) put_byte_of
    exec (put_int_stmt e) body st = then_do (eval p units e st) put_int_of
    exec (put_text_stmt e) body st = then_do (eval p units e st) put_text_of

    -- the execution of statements
    pub exec_body : BodyTree → Body → State → Outcome How
    exec_body no_stmt body st = Gives Done st
    exec_body (more_stmts s rest) body st = then_do (exec s body st) (λ how st1. if_done how st1 (exec_body rest body st1))

    -- what follows the statements after a `then`, where the test before it didn't hold
    pub exec_else : ElseTree → Body → State → Outcome How
    exec_else no_else body st = Gives Done st
    exec_else (else_do b) body st = exec_body b body st
    exec_else (elseif_then e b r) body st = then_do (eval p units e st) (if_of (exec_body b body) (exec_else r body))

    -- an exception goes to the handler of its name; where there is none it goes on
    pub handle : WhenTrees → List ℕ → Option Value → Body → State → Outcome How
    handle no_when x v body st = Raises x v st
    handle (more_whens y variable b rest) x v body st = if bytes_eq x y then exec_body b body (bind_argument variable v st) else handle rest x v body st

-- the room of an open call is given back as it ends
abbrev pub closed : (weight : ℕ) → Outcome How → Outcome How
closed k (Gives how st) = Gives how (with_world st (give_back k st.world))
closed k (Raises x v st) = Raises x v (with_world st (give_back k st.world))
closed k (Halts h w) = Halts h w

-- the frame of a unit that is entered: its formals are bound to the arguments
abbrev pub frame_of : ProgramUnit → Option ℕ → List Value → Frame
frame_of u receiver args = record { receiver = receiver; locals = map Some args ++ replicate (unit_locals u) None }

-- a unit is entered and run: its room and its entry, its statements, and then its room is given back
abbrev pub run_unit : Option ProgramUnit → (receiver : Option ℕ) → (args : List Value) → (homes : List Frame) → World Value → (BodyTree → State → Outcome How) → Outcome How
run_unit None receiver args homes w run = Halts Stuck w
run_unit (Some u) receiver args homes w run =
    then_do (act (enter (call_weight u) u.name w) (record { frame = frame_of u receiver args; homes = homes; world = w }))
    (λ _ st. closed (call_weight u) (run u.body st))

-- the runs of units with at most n calls open within one another
abbrev pub level : Program → ℕ → Units
level p zero unit receiver args body homes w = Halts Deep w
level p (suc n) unit receiver args body homes w =
    run_unit (unit_named p unit) receiver args homes w (λ b st. exec_body p (level p n) (suc n) b body st)
