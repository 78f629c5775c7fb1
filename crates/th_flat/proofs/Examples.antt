-- Runs worked out by hand, on the three levels.
use Rattle.std.proofs.Common.{◌≡◌, ℕ, true, List, [], ◌∷◌, Option, Some, None, refl}
use Rattle.std.specs.Prelude.{codes, bytes_eq, if◌then◌else◌}
use Rattle.std.specs.Fmt.{digits}
use Rattle.th_world.specs.Event.{Event, Put, Entered}
use Rattle.th_runs.specs.Stand.{Ended, Raised, NoTurns, NoRoom, Trapped, Stand}
use Rattle.th_runs.specs.Runs.{bounded_run}
use Rattle.th_flat.specs.declared.op.FlatOp.{FlatOp}
use Rattle.th_flat.specs.declared.op.FlatOp.TheVariants.{OpWord, OpLocal, OpSet, OpCompare, OpGo, OpUnless, OpCast, OpOwn, OpField, OpSetfield, OpCall, OpDispatch, OpSupply, OpNew, OpArray, OpAt, OpPutbyte, OpPutint, OpUnitword, OpReturn, OpLeave, OpBody, OpYield, OpStop, OpStopped, OpTurn, OpText, OpAppend, OpPuttext, OpBlock, OpHandle, OpOver, OpNext, OpResume}
use Rattle.th_flat.specs.declared.module.FlatUnit.{FlatUnit}
use Rattle.th_flat.specs.declared.module.Class.{Class}
use Rattle.th_flat.specs.Program.{FlatProgram, Declared, program_of}
use Rattle.th_flat.specs.Runs.{flat_stand, flat_program, begin, start}

-- a type `b` with a method `get`, its subtype `t`, and a class `m/c` for `t`
abbrev declared : Declared
declared = record {
  class_type = λ class. if bytes_eq class (codes "m/c") then Some (codes "t") else None;
  inherited = λ class. None;
  reaches = λ from to. if bytes_eq from to then true else bytes_eq from (codes "t");
  is_home = λ head method. bytes_eq head (codes "b");
  type_result = λ head method. None;
  class_result = λ class method. None;
  header_words = λ class. 1;
}

abbrev unit : List ℕ → ℕ → ℕ → ℕ → ℕ → List FlatOp → FlatUnit
unit name kind args locals depth ops = record { name = name; kind = kind; args = args; locals = locals; depth = depth; ops = ops }

abbrev class : Class
class = record { name = codes "m/c"; head = []; fields = 1; wheres = 0; hidden = []; methods = codes "get" ∷ [] }

abbrev program : List FlatUnit → FlatProgram
program units = program_of declared (record { name = codes "m"; interfaces = []; classes = class ∷ []; units = units } ∷ [])

abbrev run_of : List FlatUnit → ℕ → Option ℕ → ℕ → Stand
run_of units turns room count = flat_stand (program units) [] room turns count

abbrev main : ℕ → List FlatOp → FlatUnit
main locals ops = unit (codes "m/main") 0 0 locals 4 ops

-- the iterator of 7 and 0, on levels 1 and 2, and on level 3
abbrev seven_and_zero : FlatUnit
seven_and_zero = unit (codes "m/it") 1 0 0 1 (OpWord 7 ∷ OpResume ∷ OpWord 0 ∷ OpResume ∷ OpReturn 0 ∷ [])

abbrev seven_and_zero_3 : FlatUnit
seven_and_zero_3 = unit (codes "m/it") 1 0 0 1 (OpWord 7 ∷ OpYield 5 ∷ OpWord 0 ∷ OpYield 5 ∷ OpReturn 0 ∷ OpLeave ∷ [])

-- a loop whose body puts the value, and breaks at 0; then 1 is put
abbrev breaking : FlatUnit
breaking = main 3 (OpOver 8 ∷ OpCall (codes "m/it") 0 0 12 ∷ OpSet 0
    ∷ OpLocal 0 ∷ OpPutbyte 12 ∷ OpLocal 0 ∷ OpUnless 9 ∷ OpGo 8
    ∷ OpNext ∷ OpWord 1 ∷ OpPutbyte 12 ∷ OpReturn 0 ∷ [])

abbrev breaking_trace : List Event
breaking_trace = Put 1 ∷ Put 0 ∷ Put 7 ∷ Entered (codes "m/it") ∷ Entered (codes "m/main") ∷ []

breaks : run_of (breaking ∷ seven_and_zero ∷ []) 3 None 100 ≡ record { end = Ended; trace = breaking_trace }
breaks = refl

-- a call, and two yields: with two turns the second yield isn't opened
breaks_short : run_of (breaking ∷ seven_and_zero ∷ []) 2 None 100 ≡ record { end = NoTurns; trace = Put 7 ∷ Entered (codes "m/it") ∷ Entered (codes "m/main") ∷ [] }
breaks_short = refl

-- the room: 284 for `main`, 260 for the iterator, 64 for a yield
breaks_in_room : run_of (breaking ∷ seven_and_zero ∷ []) 3 (Some 608) 100 ≡ record { end = Ended; trace = breaking_trace }
breaks_in_room = refl

breaks_without_room : run_of (breaking ∷ seven_and_zero ∷ []) 3 (Some 607) 100 ≡ record { end = NoRoom; trace = Entered (codes "m/it") ∷ Entered (codes "m/main") ∷ [] }
breaks_without_room = refl

-- the same on level 3: local word 1 tells how the body was left
abbrev breaking_3 : FlatUnit
breaking_3 = main 3 (OpWord 0 ∷ OpSet 1 ∷ OpBody (codes "m/main#0") ∷ OpCall (codes "m/it") 0 0 5 ∷ OpGo 11
    ∷ OpLocal 1 ∷ OpUnless 10 ∷ OpStopped 11 ∷ OpWord 0 ∷ OpSet 1 ∷ OpGo 11
    ∷ OpWord 1 ∷ OpPutbyte 14 ∷ OpReturn 0 ∷ OpLeave ∷ [])

abbrev breaking_body : FlatUnit
breaking_body = unit (codes "m/main#0") 5 0 3 4 (OpSet 0 ∷ OpLocal 0 ∷ OpPutbyte 6 ∷ OpLocal 0 ∷ OpUnless 7
    ∷ OpReturn 0 ∷ OpLeave ∷ OpWord 1 ∷ OpSet 1 ∷ OpStop ∷ [])

breaks_3 : run_of (breaking_3 ∷ breaking_body ∷ seven_and_zero_3 ∷ []) 3 (Some 608) 100 ≡ record { end = Ended; trace = breaking_trace }
breaks_3 = refl

breaks_3_without_room : run_of (breaking_3 ∷ breaking_body ∷ seven_and_zero_3 ∷ []) 3 (Some 607) 100 ≡ record { end = NoRoom; trace = Entered (codes "m/it") ∷ Entered (codes "m/main") ∷ [] }
breaks_3_without_room = refl

-- an exception that a loop's body raises goes past the iterator to the handler around the loop
abbrev raising : FlatUnit
raising = main 3 (OpBlock 9 6 ∷ (OpOver 5 ∷ (OpCall (codes "m/it") 0 0 13 ∷ (OpWord 300 ∷ (OpPutbyte 13
    ∷ (OpNext ∷ (OpWord 1 ∷ (OpPutbyte 13 ∷ (OpGo 12
    ∷ (OpHandle (codes "bounds") 0 13 ∷ (OpWord 2 ∷ (OpPutbyte 13 ∷ (OpReturn 0 ∷ [])))))))))))))

raises : run_of (raising ∷ seven_and_zero ∷ []) 3 None 100 ≡ record { end = Ended; trace = Put 2 ∷ Entered (codes "m/it") ∷ Entered (codes "m/main") ∷ [] }
raises = refl

-- the same exception where no handler is
abbrev unhandled : FlatUnit
unhandled = main 0 (OpWord 300 ∷ OpPutbyte 3 ∷ OpReturn 0 ∷ [])

raises_out : run_of (unhandled ∷ []) 0 None 10 ≡ record { end = Raised (codes "bounds"); trace = Entered (codes "m/main") ∷ [] }
raises_out = refl

-- a new object of class c, whose initializer sets its field to 5; its method, called at the type `b`, gives it
abbrev making : FlatUnit
making = main 1 (OpNew (codes "m/c") ∷ OpWord 5 ∷ OpCall (codes "m/c.init") 2 1 7 ∷ OpCast (codes "t") (codes "b")
    ∷ OpDispatch (codes "b") (codes "get") 1 1 7 ∷ OpPutint ∷ OpReturn 0 ∷ OpLeave ∷ [])

abbrev init : FlatUnit
init = unit (codes "m/c.init") 4 2 1 2 (OpLocal 1 ∷ OpSetfield (codes "m/c") 0 ∷ OpOwn (codes "m/c") ∷ OpReturn 1 ∷ OpLeave ∷ [])

abbrev get : FlatUnit
get = unit (codes "m/c.get") 2 1 0 1 (OpField (codes "m/c") 0 ∷ OpReturn 1 ∷ OpLeave ∷ [])

abbrev made_trace : List Event
made_trace = Entered (codes "m/c.get") ∷ Entered (codes "m/c.init") ∷ Entered (codes "m/main") ∷ []

makes : run_of (making ∷ init ∷ get ∷ []) 4 None 50 ≡ record { end = Ended; trace = Put 53 ∷ made_trace }
unfolding digits
makes = refl

-- the `new`, the call, and two for the number: with three turns it isn't put
makes_short : run_of (making ∷ init ∷ get ∷ []) 3 None 50 ≡ record { end = NoTurns; trace = made_trace }
unfolding digits
makes_short = refl

-- at another type than the one at which it is seen, the object can't be used
abbrev unseen : FlatUnit
unseen = main 1 (OpNew (codes "m/c") ∷ OpWord 5 ∷ OpCall (codes "m/c.init") 2 1 6
    ∷ OpDispatch (codes "b") (codes "get") 1 1 6 ∷ OpPutint ∷ OpReturn 0 ∷ OpLeave ∷ [])

sticks : run_of (unseen ∷ init ∷ get ∷ []) 9 None 50 ≡ record { end = Trapped; trace = Entered (codes "m/c.init") ∷ Entered (codes "m/main") ∷ [] }
sticks = refl

-- a where-method by a supply word: the stub takes the turn, and is no event
abbrev supplying : FlatUnit
supplying = main 0 (OpUnitword (codes "m/#0") ∷ OpWord 3 ∷ OpWord 4 ∷ OpSupply 2 1 6 ∷ OpPutint ∷ OpReturn 0 ∷ OpLeave ∷ [])

abbrev less : FlatUnit
less = unit (codes "m/#0") 6 2 0 2 (OpTurn ∷ OpLocal 0 ∷ OpLocal 1 ∷ OpCompare 2 ∷ OpReturn 1 ∷ [])

supplies : run_of (supplying ∷ less ∷ []) 3 (Some 272) 50 ≡ record { end = Ended; trace = Put 49 ∷ Entered (codes "m/main") ∷ [] }
unfolding digits
supplies = refl

-- an array of three elements takes four turns and 20 bytes
abbrev filling : FlatUnit
filling = main 0 (OpWord 3 ∷ OpWord 9 ∷ OpArray 6 ∷ OpWord 2 ∷ OpAt 6 ∷ OpPutbyte 6 ∷ OpReturn 0 ∷ [])

fills : run_of (filling ∷ []) 4 (Some 292) 50 ≡ record { end = Ended; trace = Put 9 ∷ Entered (codes "m/main") ∷ [] }
fills = refl

fills_without_turns : run_of (filling ∷ []) 3 (Some 0) 50 ≡ record { end = NoRoom; trace = [] }
fills_without_turns = refl

fills_short : run_of (filling ∷ []) 3 (Some 292) 50 ≡ record { end = NoTurns; trace = Entered (codes "m/main") ∷ [] }
fills_short = refl

fills_without_room : run_of (filling ∷ []) 4 (Some 291) 50 ≡ record { end = NoRoom; trace = Entered (codes "m/main") ∷ [] }
fills_without_room = refl

-- "ab" & "c" takes four turns, and putting it four
abbrev telling : FlatUnit
telling = main 0 (OpText (codes "ab") ∷ OpText (codes "c") ∷ OpAppend 5 ∷ OpPuttext ∷ OpReturn 0 ∷ [])

tells : run_of (telling ∷ []) 8 None 50 ≡ record { end = Ended; trace = Put 99 ∷ Put 98 ∷ Put 97 ∷ Entered (codes "m/main") ∷ [] }
tells = refl

tells_short : run_of (telling ∷ []) 7 None 50 ≡ record { end = NoTurns; trace = Put 98 ∷ Put 97 ∷ Entered (codes "m/main") ∷ [] }
tells_short = refl

-- the same runs, operation by operation with their costs told apart
metered : List FlatUnit → ℕ → Option ℕ → ℕ → Stand
metered units turns room count = bounded_run (flat_program (program units)) room count turns (record { config = begin (program units).main (start [] None 0); heap = 0 })

metered_breaks : metered (breaking_3 ∷ breaking_body ∷ seven_and_zero_3 ∷ []) 3 (Some 608) 100 ≡ record { end = Ended; trace = breaking_trace }
unfolding metered
metered_breaks = refl

metered_without_room : metered (breaking_3 ∷ breaking_body ∷ seven_and_zero_3 ∷ []) 3 (Some 607) 100 ≡ record { end = NoRoom; trace = Entered (codes "m/it") ∷ Entered (codes "m/main") ∷ [] }
unfolding metered
metered_without_room = refl

metered_fills : metered (filling ∷ []) 4 (Some 292) 50 ≡ record { end = Ended; trace = Put 9 ∷ Entered (codes "m/main") ∷ [] }
unfolding metered
metered_fills = refl

metered_fills_without_room : metered (filling ∷ []) 4 (Some 291) 50 ≡ record { end = NoRoom; trace = Entered (codes "m/main") ∷ [] }
unfolding metered
metered_fills_without_room = refl

metered_tells_short : metered (telling ∷ []) 7 None 50 ≡ record { end = NoTurns; trace = Put 98 ∷ Put 97 ∷ Entered (codes "m/main") ∷ [] }
unfolding metered
metered_tells_short = refl
