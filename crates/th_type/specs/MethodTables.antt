-- Tables of methods.
use Rattle.std.specs.Prelude.{◌≡◌, ℕ, ◌<◌, ◌≤◌, nat_eq, List, [], ◌∷◌, ◌++◌, ◌⊎◌, length, map, take, drop, slice_get, Option, Some, None}
use Rattle.std.specs.Map.{lookup}
use Rattle.std.specs.Global.{Vec}
use Rattle.th_type.specs.declared.sig.Sig.{Sig}
use Rattle.th_type.specs.declared.typedef.Written.{Written}
use Rattle.th_type.specs.Lists.{IsIn, or_else, first_some}
use Rattle.th_type.specs.Types.{TypeExpr}
use Rattle.th_type.specs.Signatures.{Signature, sig_of, find_sig}
use Rattle.th_type.specs.Declarations.{Declaration, DeclaredType, resolved}
use Rattle.th_type.specs.Methods.{applied, method_up, method_of}

-- the methods' numbers ascend
abbrev pub Rising : List Signature → Type 0
Rising [] = Unit {0}
Rising (s ∷ ss) = ((t : Signature) → IsIn t ss → s.method < t.method) × Rising ss

-- the signature at place k is that of the method
abbrev pub FoundAt : List Signature → ℕ → ℕ → Type 0
FoundAt ss m k = (s : Signature) × (slice_get ss k ≡ Some s) × (s.method ≡ m)

-- the signatures before place k are of lower numbers, and those from it on of higher ones
abbrev pub GoesAt : List Signature → ℕ → ℕ → Type 0
GoesAt ss m k = (k ≤ length ss) × ((s : Signature) → IsIn s (take k ss) → s.method < m) × ((s : Signature) → IsIn s (drop k ss) → m < s.method)

-- zs has the methods of xs, and those of ys that xs does not have
pub record Merged (xs ys zs : List Signature) : Type 0 where
  pub rising : Rising zs
  pub finds : (m : ℕ) → find_sig zs m ≡ or_else (find_sig xs m) (find_sig ys m)

-- the signatures that the code has as written
abbrev pub written_sigs : List Written → List Signature
written_sigs ws = map (λ w. sig_of w.sig) ws

abbrev pub sigs_in : Option (Vec Sig) → List Signature
sigs_in None = []
sigs_in (Some v) = map sig_of v.items

-- the methods that the table has for the declared type n
abbrev pub methods_in : List (ℕ × Vec Sig) → ℕ → List Signature
methods_in es n = sigs_in (lookup (nat_eq n) es)

-- the method that the table has for the declared type n
abbrev pub method_in : List (ℕ × Vec Sig) → ℕ → ℕ → Option Signature
method_in es n m = find_sig (methods_in es n) m

-- zs has the methods of xs, and those that the table has for the types ts, which xs and the earlier of them do not have
pub record Joined (es : List (ℕ × Vec Sig)) (xs : List Signature) (ts : List TypeExpr) (zs : List Signature) : Type 0 where
  pub rising : Rising zs
  pub finds : (m : ℕ) → find_sig zs m ≡ or_else (find_sig xs m) (first_some (applied (method_in es) m) ts)

-- n is a declared type, and ss are its methods, looked for through as many types as it takes
pub record Settled (D : List DeclaredType) (up : ℕ → List TypeExpr) (n : ℕ) (ss : List Signature) : Type 0 where
  pub rising : Rising ss
  pub finds : (k m : ℕ) → length (up n) < k → find_sig ss m ≡ method_up k D n m
  pub named : IsIn n (map (λ d. d.name) D)

-- the declared type was put into the table where it was not there
abbrev pub Put : List (ℕ × Vec Sig) → List (ℕ × Vec Sig) → Declaration → Type 0
Put es fs d = ((fs ≡ es) × (lookup (nat_eq d.name) es ≡ None → ⊥))
    ⊎ ((v : Vec Sig) × (fs ≡ es ++ (d.name, v) ∷ []) × Joined es (map (λ w. w.sig) d.methods) (resolved d.supertypes) (map sig_of v.items))

-- the table has the methods of declared types, of all that reach fewer than r supertypes, and of those of ps that reach r
pub record Filling (D : List DeclaredType) (up : ℕ → List TypeExpr) (es : List (ℕ × Vec Sig)) (r : ℕ) (ps : List Declaration) : Type 0 where
  pub settled : (n : ℕ) (v : Vec Sig) → lookup (nat_eq n) es ≡ Some v → Settled D up n (map sig_of v.items)
  pub lower : (n : ℕ) → IsIn n (map (λ d. d.name) D) → length (up n) < r → lookup (nat_eq n) es ≡ None → ⊥
  pub equal : (n : ℕ) → IsIn n (map (λ d. d.name) ps) → length (up n) ≡ r → lookup (nat_eq n) es ≡ None → ⊥

-- the table has the methods of each declared type, ascending, looked for through as many types as it takes
pub record MethodsRight (D : List DeclaredType) (up : ℕ → List TypeExpr) (es : List (ℕ × Vec Sig)) : Type 0 where
  pub rising : (n : ℕ) → Rising (methods_in es n)
  pub stable : (n m k : ℕ) → length (up n) < k → method_in es n m ≡ method_up k D n m
  pub finds : (n m : ℕ) → method_in es n m ≡ method_of D n m
