-- Values that are found without waiting for one.
use Rattle.std.specs.Prelude.{◌≡◌, ℕ, ℤ, Option, Some}
use Rattle.th_meaning.specs.declared.expr.ArithOp.{ArithOp}
use Rattle.th_meaning.specs.declared.expr.CompareOp.{CompareOp}
use Rattle.th_meaning.specs.Trees.{ExprTree}
use Rattle.th_meaning.specs.Program.{Program}
use Rattle.th_meaning.specs.World.{World, Did}
use Rattle.th_meaning.specs.Meaning.{Value, Int, Truth, Frame, State, arith, compare}
use Rattle.th_steps.specs.Machine.{Loop, Rest, At, now_eval, now_value, steps}

-- wherever the machine is at the expression in this frame, it comes to its value, and nothing else changes
abbrev pub IsQuick : Frame → ExprTree → Value → Type 0
IsQuick f e v = (p : Program) (lp : Loop) (k : Rest) (st : State) → st.frame ≡ f → (n : ℕ) × (steps p n (At (now_eval e) lp k st) ≡ At (now_value v) lp k st)

-- the value is what an operator gives of two numbers that are there
pub record IsSum (op : ArithOp) (a b : Option Value) (v : Value) : Type 0 where
  pub x : ℤ
  pub y : ℤ
  pub z : ℤ
  pub first : a ≡ Some (Int x)
  pub second : b ≡ Some (Int y)
  pub is : v ≡ Int z
  pub did : (w : World Value) → arith op x y w ≡ Did z w

-- the value is what a comparison gives of two numbers that are there
pub record IsTest (op : CompareOp) (a b : Option Value) (v : Value) : Type 0 where
  pub x : ℤ
  pub y : ℤ
  pub first : a ≡ Some (Int x)
  pub second : b ≡ Some (Int y)
  pub is : v ≡ Truth (compare op x y)
