-- The laws of the meaning.
use Rattle.std.proofs.Common.{◌≡◌, ◌≢◌, ℕ, zero, suc, ◌+◌, ◌<◌, ◌≤◌, List, [], Option, Some, None, refl, sym, ap, subst, ◌∙◌, arith}
use Rattle.th_world.specs.Event.{Event, Prefix}
use Rattle.th_runs.specs.Stand.{End, NoTurns, Stand}
use Rattle.th_meaning.specs.Program.{ProgramUnit, Program, main_of}
use Rattle.th_meaning.specs.World.{World, Halt, OutOfTurns, OutOfRoom, Unset, Stuck, Deep}
use Rattle.th_meaning.specs.Meaning.{Value, Outcome, Gives, Raises, Halts, How, no_body, level}
use Rattle.th_meaning.specs.Run.{halted_end, stand_of, start, outcome_of, source_run}
use Rattle.th_meaning.specs.Laws.{IsBoundless, NeverDeep, MoreTurnsExtend, MoreTurnsKeep}
use Rattle.th_meaning.proofs.Effects.{plus, later_refl, prefix_refl}
use Rattle.th_meaning.proofs.Fine.{trace_of, Sane, HaltMore, More}
use Rattle.th_meaning.proofs.Forms.{FineUnits, no_body_fine, level_fine}

boundless_halt : (h : Halt) (w w1 : World Value) (k : ℕ) → w.turns < k → Sane {A = How} k w (Halts h w1) → IsBoundless {A = How} (Halts h w1)
boundless_halt OutOfTurns w w1 k lt h = tt
boundless_halt OutOfRoom w w1 k lt h = tt
boundless_halt Unset w w1 k lt h = tt
boundless_halt Stuck w w1 k lt h = tt
boundless_halt Deep w w1 k lt h = h.1 lt

boundless : (o : Outcome How) (w : World Value) (k : ℕ) → w.turns < k → Sane k w o → IsBoundless o
boundless (Gives how st) w k lt h = tt
boundless (Raises x v st) w k lt h = tt
boundless (Halts x w1) w k lt h = boundless_halt x w w1 k lt h

outcome_boundless : (p : Program) (main : Option ProgramUnit) (w : World Value) → IsBoundless (outcome_of p main w)
outcome_boundless p None w = tt
outcome_boundless p (Some main) w = boundless (level p (suc w.turns) main.name None [] no_body [] w) w (suc w.turns) (omega arith)
    ((level_fine p 0 (suc w.turns) (suc w.turns) (omega arith)).sane main.name None [] no_body no_body [] no_body_fine w)

pub never_deep : NeverDeep
never_deep p input room turns = outcome_boundless p (main_of p) (start input room turns)

outcome_more : (p : Program) (main : Option ProgramUnit) (d : ℕ) (w : World Value) → More d (outcome_of p main w) (outcome_of p main (plus d w))
outcome_more p None d w = refl
outcome_more p (Some main) d w = (level_fine p d (suc w.turns) (suc (w.turns + d)) (omega arith)).more main.name None [] no_body no_body [] no_body_fine w

stand_trace : (o : Outcome How) → trace_of o ≡ (stand_of o).trace
stand_trace (Gives how st) = refl
stand_trace (Raises x v st) = refl
stand_trace (Halts h w) = refl

halt_extends : (d : ℕ) (h : Halt) (w : World Value) (o : Outcome How) → IsBoundless {A = How} (Halts h w) → HaltMore d h w o → Prefix w.trace (stand_of o).trace
halt_extends d OutOfTurns w o b m = subst (λ t. Prefix w.trace t) (stand_trace o) m
halt_extends d OutOfRoom w o b m = subst (λ x. Prefix w.trace (stand_of x).trace) (sym m) (prefix_refl w.trace)
halt_extends d Unset w o b m = subst (λ x. Prefix w.trace (stand_of x).trace) (sym m) (prefix_refl w.trace)
halt_extends d Stuck w o b m = subst (λ x. Prefix w.trace (stand_of x).trace) (sym m) (prefix_refl w.trace)
halt_extends d Deep w o b m = absurd b

stand_extends : (d : ℕ) (o o1 : Outcome How) → IsBoundless o → More d o o1 → Prefix (stand_of o).trace (stand_of o1).trace
stand_extends d (Gives how st) o1 b m = subst (λ x. Prefix st.world.trace (stand_of x).trace) (sym m) (prefix_refl st.world.trace)
stand_extends d (Raises x v st) o1 b m = subst (λ y. Prefix st.world.trace (stand_of y).trace) (sym m) (prefix_refl st.world.trace)
stand_extends d (Halts x w) o1 b m = halt_extends d x w o1 b m

pub more_turns_extend : MoreTurnsExtend
more_turns_extend p input room turns more =
    stand_extends more (outcome_of p (main_of p) (start input room turns)) (outcome_of p (main_of p) (start input room (turns + more)))
    (never_deep p input room turns) (outcome_more p (main_of p) more (start input room turns))

halt_keeps : (d : ℕ) (h : Halt) (w : World Value) (o : Outcome How) → IsBoundless {A = How} (Halts h w) → HaltMore d h w o → halted_end h ≢ NoTurns → stand_of o ≡ stand_of (Halts h w)
halt_keeps d OutOfTurns w o b m ne = absurd (ne refl)
halt_keeps d OutOfRoom w o b m ne = ap stand_of m
halt_keeps d Unset w o b m ne = ap stand_of m
halt_keeps d Stuck w o b m ne = ap stand_of m
halt_keeps d Deep w o b m ne = absurd b

stand_keeps : (d : ℕ) (o o1 : Outcome How) → IsBoundless o → More d o o1 → (stand_of o).end ≢ NoTurns → stand_of o1 ≡ stand_of o
stand_keeps d (Gives how st) o1 b m ne = ap stand_of m
stand_keeps d (Raises x v st) o1 b m ne = ap stand_of m
stand_keeps d (Halts x w) o1 b m ne = halt_keeps d x w o1 b m ne

pub more_turns_keep : MoreTurnsKeep
more_turns_keep p input room turns more =
    stand_keeps more (outcome_of p (main_of p) (start input room turns)) (outcome_of p (main_of p) (start input room (turns + more)))
    (never_deep p input room turns) (outcome_more p (main_of p) more (start input room turns))
