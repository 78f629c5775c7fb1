-- The rule on inherited methods as tests over tables of supertypes and methods.
use Rattle.std.specs.Prelude.{ℕ, Bool, true, false, not, ◌&&◌, ◌||◌, List, [], ◌∷◌, ◌++◌, map, Option, Some, None, option_map}
use Rattle.std.specs.List.{list_any, list_all}
use Rattle.std.specs.Global.{Vec}
use Rattle.th_type.specs.declared.sig.Sig.{Sig}
use Rattle.th_type.specs.declared.place.Failure.{Failure}
use Rattle.th_type.specs.Lists.{is_in}
use Rattle.th_type.specs.Types.{TypeExpr, int_ty, bool_ty, text_ty, array_ty, named_ty, param_ty, list_of, same_ty, same_tys}
use Rattle.th_type.specs.Signatures.{Signature, subst_sig}
use Rattle.th_type.specs.Declarations.{WrittenSig, Declaration, resolved}
use Rattle.th_type.specs.Failures.{place, unless}
use Rattle.th_type.specs.Conforming.{all_in, same_gives, same_bool, same_sig, is_param_ty}
use Rattle.th_type.specs.MethodTables.{Rising, methods_in, method_in}
use Rattle.th_type.specs.Tables.{table_subtype}

-- the methods of each declared type ascend
abbrev pub AllRise : List (ℕ × Vec Sig) → Type 0
AllRise es = (n : ℕ) → Rising (methods_in es n)

abbrev pub param_given : Option TypeExpr → Bool
param_given None = false
param_given (Some t) = is_param_ty t

-- whether the method gives a type parameter
abbrev pub gives_param : Option Signature → Bool
gives_param None = false
gives_param (Some s) = param_given s.gives

-- whether the method gives a type parameter in the declared type that is named
abbrev pub param_at : (ℕ → ℕ → Option Signature) → ℕ → TypeExpr → Bool
param_at f m int_ty = false
param_at f m bool_ty = false
param_at f m text_ty = false
param_at f m (array_ty t) = false
param_at f m (named_ty n args) = gives_param (f n m)
param_at f m (param_ty k) = false

-- whether the method gives a type parameter in the declared type or in a supertype that it reaches
abbrev pub is_fixed : (ℕ → List TypeExpr) → (ℕ → ℕ → Option Signature) → ℕ → ℕ → Bool
is_fixed up f n m = gives_param (f n m) || list_any (param_at f m) (up n)

abbrev pub gives_within : (ℕ → List TypeExpr) → Bool → TypeExpr → TypeExpr → Bool
gives_within up true t u = same_ty t u
gives_within up false t u = table_subtype up t u

-- whether what a signature gives fits what another gives
abbrev pub gives_fit : (ℕ → List TypeExpr) → Bool → Option TypeExpr → Option TypeExpr → Bool
gives_fit up it None None = true
gives_fit up it None (Some u) = false
gives_fit up it (Some t) None = false
gives_fit up it (Some t) (Some u) = gives_within up it t u

-- whether the first signature conforms to the second, which is that of its method in the declared type n
abbrev pub conforms_test : (ℕ → List TypeExpr) → (ℕ → ℕ → Option Signature) → ℕ → Signature → Signature → Bool
conforms_test up f n s t =
    same_bool s.iterator t.iterator && (same_tys s.formals t.formals && (all_in s.signals t.signals
    && (gives_fit up s.iterator s.gives t.gives && (not (is_fixed up f n t.method) || same_gives s.gives t.gives))))

abbrev pub fits_found : (ℕ → List TypeExpr) → (ℕ → ℕ → Option Signature) → ℕ → Signature → Option Signature → Bool
fits_found up f n s None = true
fits_found up f n s (Some t) = conforms_test up f n s t

-- whether the signature conforms to that of its method in the type, where that has the method
abbrev pub fits_type : (ℕ → List TypeExpr) → (ℕ → ℕ → Option Signature) → Signature → TypeExpr → Bool
fits_type up f s int_ty = true
fits_type up f s bool_ty = true
fits_type up f s text_ty = true
fits_type up f s (array_ty t) = true
fits_type up f s (named_ty n args) = fits_found up f n s (option_map (subst_sig (list_of args)) (f n s.method))
fits_type up f s (param_ty k) = true

-- whether it conforms to those of all types
abbrev pub fits_all : (ℕ → List TypeExpr) → (ℕ → ℕ → Option Signature) → Signature → List TypeExpr → Bool
fits_all up f s ts = list_all (fits_type up f s) ts

-- the failures of the signatures that are written in a declared type
abbrev pub written_failures : (ℕ → List TypeExpr) → (ℕ → ℕ → Option Signature) → Declaration → List WrittenSig → List Failure
written_failures up f d [] = []
written_failures up f d (w ∷ ws) = unless (fits_all up f w.sig (resolved d.supertypes)) 8 (place d.place.text w.at) ++ written_failures up f d ws

abbrev pub agrees_found : Option Signature → Signature → Bool
agrees_found None s = false
agrees_found (Some own) s = same_sig own s

-- whether a signature is that which a declared type has, or its method is written there
abbrev pub agrees_sig : List ℕ → (ℕ → Option Signature) → Signature → Bool
agrees_sig written own s = is_in s.method written || agrees_found (own s.method) s

-- whether this holds of all methods of a type
abbrev pub agrees_type : List (ℕ × Vec Sig) → List ℕ → (ℕ → Option Signature) → TypeExpr → Bool
agrees_type es written own int_ty = true
agrees_type es written own bool_ty = true
agrees_type es written own text_ty = true
agrees_type es written own (array_ty t) = true
agrees_type es written own (named_ty n args) = list_all (agrees_sig written own) (map (subst_sig (list_of args)) (methods_in es n))
agrees_type es written own (param_ty k) = true

-- whether this holds of all methods of all types
abbrev pub agrees_all : List (ℕ × Vec Sig) → List ℕ → (ℕ → Option Signature) → List TypeExpr → Bool
agrees_all es written own ts = list_all (agrees_type es written own) ts

-- the failures of a declared type
abbrev pub def_failures : (ℕ → List TypeExpr) → List (ℕ × Vec Sig) → Declaration → List Failure
def_failures up es d =
    written_failures up (method_in es) d d.methods
    ++ unless (agrees_all es (map (λ w. w.sig.method) d.methods) (method_in es d.name) (resolved d.supertypes)) 8 d.place

-- the failures of all declared types
abbrev pub all_failures : (ℕ → List TypeExpr) → List (ℕ × Vec Sig) → List Declaration → List Failure
all_failures up es [] = []
all_failures up es (d ∷ ds) = def_failures up es d ++ all_failures up es ds
