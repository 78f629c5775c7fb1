-- Statements that are done without waiting for a value.
use Rattle.std.specs.Prelude.{◌≡◌, ℕ}
use Rattle.th_meaning.specs.Trees.{ExprTree, StmtTree, BodyTree}
use Rattle.th_meaning.specs.Program.{Program}
use Rattle.th_meaning.specs.Meaning.{Frame, State}
use Rattle.th_steps.specs.Machine.{Loop, Rest, At, now_eval, now_body, then_sink, to_local, exec_at, steps}

-- the statement binds the local to the value of the expression
abbrev pub Binds : StmtTree → ℕ → ExprTree → Type 0
Binds s x e = (p : Program) (lp : Loop) (k : Rest) (st : State) → exec_at p s lp k st ≡ At (now_eval e) lp (then_sink (to_local x) k) st

-- wherever the machine is at the statements in the first frame, it comes to the others in the second one, and nothing else
-- changes
abbrev pub BodyGoes : Frame → BodyTree → Frame → BodyTree → Type 0
BodyGoes f b g others = (p : Program) (lp : Loop) (k : Rest) (st : State) → st.frame ≡ f
    → (n : ℕ) × (steps p n (At (now_body b) lp k st) ≡ At (now_body others) lp k (record st { frame = g }))
