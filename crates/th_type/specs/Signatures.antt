-- Signatures and where-clauses, without where they lie in memory.
use Rattle.std.specs.Prelude.{ℕ, Bool, nat_eq, List, [], ◌∷◌, Option, Some, None, option_map, if◌then◌else◌}
use Rattle.th_type.specs.declared.sig.Sig.{Sig}
use Rattle.th_type.specs.declared.sig.Clause.{Clause}
use Rattle.th_type.specs.Types.{TypeExpr, TypeExprs, ty_of, tys_of, subst_ty, subst_tys}

-- a signature: the number of the bare name, whether it is an iterator, the types of its formals, the result or the
-- yielded type, and the exceptions that it may raise
pub record Signature : Type 0 where
  pub method : ℕ
  pub iterator : Bool
  pub formals : TypeExprs
  pub gives : Option TypeExpr
  pub signals : List ℕ

-- the code's signature
abbrev pub sig_of : Sig → Signature
sig_of s = record { method = s.method; iterator = s.iterator; formals = tys_of s.formals; gives = option_map ty_of s.gives; signals = s.signals }

-- the signature with the k-th argument in place of each parameter k
abbrev pub subst_sig : List TypeExpr → Signature → Signature
subst_sig args s = record { method = s.method; iterator = s.iterator; formals = subst_tys args s.formals; gives = option_map (subst_ty args) s.gives; signals = s.signals }

-- a where-clause: the type parameter at this place has a method with this signature
pub record Constraint : Type 0 where
  pub param : ℕ
  pub sig : Signature

-- the code's clause
abbrev pub clause_of : Clause → Constraint
clause_of c = record { param = c.param; sig = sig_of c.sig }

-- the first signature of the method, if there is one
abbrev pub find_sig : List Signature → ℕ → Option Signature
find_sig [] m = None
find_sig (s ∷ ss) m = if nat_eq s.method m then Some s else find_sig ss m
