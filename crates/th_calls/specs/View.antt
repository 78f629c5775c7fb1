-- What the code holds of calls, without where it lies in memory.
use Rattle.std.specs.Prelude.{ℕ, Bool, true, is_some, map, Option, Some, None}
use Rattle.th_type.specs.Types.{TypeExprs, tys_of}
use Rattle.th_type.specs.Signatures.{Signature, sig_of}
use Rattle.th_meaning.specs.View.{supply_of, expr_of, call_of}
use Rattle.th_calls.specs.declared.callee.Target.{Target as CodeTarget}
use Rattle.th_calls.specs.declared.callee.Target.TheVariants as targets
use Rattle.th_calls.specs.declared.callee.CalleePart.{CalleePart}
use Rattle.th_calls.specs.declared.callee.CalledPart.{CalledPart}
use Rattle.th_calls.specs.declared.callee.Wish.{Wish as CodeWish}
use Rattle.th_calls.specs.declared.callee.Wish.TheVariants as wishes
use Rattle.th_calls.specs.declared.calls.MethodPart.{MethodPart}
use Rattle.th_rules.specs.Context.{RoutineInfo}
use Rattle.th_rules.specs.Callees.{Target, routine_target, method_target, hidden_target, super_target, where_target, Callee, callee, Called, Instance, Wish, as_value, as_procedure, as_iterator, as_call}

-- what a call enters
abbrev pub target_of : CodeTarget → Target
target_of (targets.Routine f ts ss) = routine_target f (tys_of ts) (map supply_of ss.items)
target_of (targets.Method n m e) = method_target n m (expr_of e)
target_of (targets.Hidden c m) = hidden_target c m
target_of (targets.Super c m) = super_target c m
target_of (targets.Where k m e) = where_target k m (expr_of e)

-- the signature of what is called
abbrev pub part_sig : Option CalleePart → Option Signature
part_sig None = None
part_sig (Some c) = Some (sig_of c.sig)

abbrev pub callee_with : Signature → Option CodeTarget → Option Callee
callee_with s None = None
callee_with s (Some t) = Some (callee s (target_of t))

-- what is called, where the where-clauses are satisfied
abbrev pub part_callee : Option CalleePart → Option Callee
part_callee None = None
part_callee (Some c) = callee_with (sig_of c.sig) c.target

-- a checked call
abbrev pub called_of : CalledPart → Called
called_of c = record { tree = call_of c.core; sig = sig_of c.sig }

abbrev pub called_opt : Option CalledPart → Option Called
called_opt None = None
called_opt (Some c) = Some (called_of c)

-- what a call is there for
abbrev pub wish_of : CodeWish → Wish
wish_of wishes.Value = as_value
wish_of wishes.Procedure = as_procedure
wish_of wishes.Iterator = as_iterator
wish_of wishes.Call = as_call

-- a method that is called
abbrev pub method_opt : Option MethodPart → Option Callee
method_opt None = None
method_opt (Some m) = Some (callee (sig_of m.sig) (target_of m.target))

-- a routine with its type arguments
abbrev pub routine_with : ℕ → RoutineInfo → TypeExprs → Instance
routine_with full r ts = record { full = full; routine = r; args = ts }

-- where something is called, what is entered is there
abbrev pub is_met : Option Signature → Option Callee → Bool
is_met None c = true
is_met (Some s) c = is_some c
