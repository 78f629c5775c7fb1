-- The methods of a type, and conforming.
use Rattle.std.specs.Prelude.{◌≡◌, ℕ, zero, suc, Bool, true, false, ◌⊎◌, List, length, Option, Some, None, option_map}
use Rattle.th_type.specs.Types.{TypeExpr, TypeExprs, int_ty, bool_ty, text_ty, array_ty, named_ty, param_ty, list_of}
use Rattle.th_type.specs.Signatures.{Signature, subst_sig, find_sig}
use Rattle.th_type.specs.Declarations.{DeclaredType, supers_of, sigs_of}
use Rattle.th_type.specs.Subtypes.{Subtype, Reached}
use Rattle.th_type.specs.Lists.{AllIn, or_else, first_some}

-- what a function from declared types to their methods says of a type with arguments
abbrev pub applied : (ℕ → ℕ → Option Signature) → ℕ → TypeExpr → Option Signature
applied f m int_ty = None
applied f m bool_ty = None
applied f m text_ty = None
applied f m (array_ty t) = None
applied f m (named_ty n args) = option_map (subst_sig (list_of args)) (f n m)
applied f m (param_ty k) = None

-- the method of a declared type over its own parameters, looked for through k types, one above the other: the signature
-- that is written in the type, else that of the first declared supertype that has it, with arguments substituted
abbrev pub method_up : ℕ → List DeclaredType → ℕ → ℕ → Option Signature
method_up zero D n m = None
method_up (suc k) D n m = or_else (find_sig (sigs_of D n) m) (first_some (applied (method_up k D) m) (supers_of D n))

-- the method of a declared type over its own parameters; no type reaches itself, so no more types stand one above the
-- other than there are
abbrev pub method_of : List DeclaredType → ℕ → ℕ → Option Signature
method_of D n m = method_up (length D) D n m

-- the method of a type with arguments
abbrev pub method_at : List DeclaredType → TypeExpr → ℕ → Option Signature
method_at D t m = applied (method_of D) m t

-- s exactly conforms to t
pub record ExactlyConforms (s t : Signature) : Type 0 where
  pub iterator : s.iterator ≡ t.iterator
  pub formals : s.formals ≡ t.formals
  pub gives : s.gives ≡ t.gives
  pub signals : AllIn s.signals t.signals

-- the result of a procedure fits that of another: both are absent, or the first is a subtype of the second
abbrev pub ResultFits : List DeclaredType → Option TypeExpr → Option TypeExpr → Type 0
ResultFits D None None = Unit {0}
ResultFits D None (Some u) = ⊥
ResultFits D (Some t) None = ⊥
ResultFits D (Some t) (Some u) = Subtype D t u

-- what an iterator yields is equal, and the result of a procedure fits
abbrev pub GivesFits : List DeclaredType → Bool → Option TypeExpr → Option TypeExpr → Type 0
GivesFits D true s t = s ≡ t
GivesFits D false s t = ResultFits D s t

-- the result is a type parameter
abbrev pub IsParam : Option TypeExpr → Type 0
IsParam o = (k : ℕ) × (o ≡ Some (param_ty k))

-- the signature gives a type parameter
abbrev pub GivesParam : Option Signature → Type 0
GivesParam o = (s : Signature) × (o ≡ Some s) × IsParam s.gives

-- the method's result is a type parameter in the type n or in a supertype that it reaches, before arguments are substituted
abbrev pub ResultIsParam : List DeclaredType → ℕ → ℕ → Type 0
ResultIsParam D n m = GivesParam (method_of D n m) ⊎ ((a : ℕ) × (args : TypeExprs) × Reached D n (named_ty a args) × GivesParam (method_of D a m))

-- s conforms to t, which is the signature of its method in the type n, perhaps with arguments substituted
pub record Conforms (D : List DeclaredType) (n : ℕ) (s t : Signature) : Type 0 where
  pub iterator : s.iterator ≡ t.iterator
  pub formals : s.formals ≡ t.formals
  pub gives : GivesFits D s.iterator s.gives t.gives
  pub fixed : ResultIsParam D n t.method → s.gives ≡ t.gives
  pub signals : AllIn s.signals t.signals

-- the same signature, where the order of the signals does not matter
pub record SameSignature (s t : Signature) : Type 0 where
  pub iterator : s.iterator ≡ t.iterator
  pub formals : s.formals ≡ t.formals
  pub gives : s.gives ≡ t.gives
  pub forth : AllIn s.signals t.signals
  pub back : AllIn t.signals s.signals
