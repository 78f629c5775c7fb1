-- What the code notes of names: the first value of each, and the least name that has two values.
use Rattle.std.specs.Prelude.{◌≡◌, ℕ, suc, Bool, true, false, List, [], ◌∷◌, ◌++◌, map, filter, Option, Some, None, option_map, is_none, bytes_eq, codes, if◌then◌else◌}
use Rattle.std.specs.HashMap.{HashMap, get_by}
use denote.Ref.{Bor}
use Rattle.th_type.specs.Lists.{IsIn}
use Rattle.th_meaning.specs.Program.{ProgramUnit, ProgramInterface, ProgramModule, Program}
use Rattle.th_agree.specs.Names.{IsLeastOf, lesser, kept}
use Rattle.th_agree.specs.Agree.{own_name, defined, main_names, Differs, Twice, Missing, HasMain}
use Rattle.th_agree.specs.declared.marks.Kind.{Kind}
use Rattle.th_agree.specs.declared.marks.Kind.TheVariants as kinds
use Rattle.th_agree.specs.declared.decide.Findings.{Findings}

-- the text that the code notes
abbrev pub text_seen : Bor (List ℕ) → List ℕ
text_seen t = t.now

-- the place that the code notes
abbrev pub place_seen : ℕ → ℕ
place_seen k = k

-- a name with a value
pub record Entry (V : Type 0) : Type 0 where
  pub name : List ℕ
  pub value : V

-- the name with the value
abbrev pub entry : {V : Type 0} → List ℕ → V → Entry V
entry n v = record { name = n; value = v }

-- the value of the first of a name
abbrev pub first_value : {V : Type 0} → List (Entry V) → List ℕ → Option V
first_value [] q = None
first_value (e ∷ es) q = if bytes_eq e.name q then Some e.value else first_value es q

-- the name has two values
pub record Clashes {V : Type 0} (es : List (Entry V)) (n : List ℕ) : Type 0 where
  pub one : V
  pub other : V
  pub one_in : IsIn (entry n one) es
  pub other_in : IsIn (entry n other) es
  pub differ : ¬ (one ≡ other)

-- the map has the first value of each name, and the least name that has two values is kept
pub record Noted {V X S : Type 0} (seen : X → V) (es : List (Entry V)) (m : HashMap (Bor (List ℕ)) X S) (o : Option (List ℕ)) : Type 0 where
  pub first : (q : List ℕ) → option_map seen (get_by (λ k. bytes_eq q k.now) m) ≡ first_value es q
  pub least : IsLeastOf (Clashes es) o

-- what is kept after a name with a value, where this value of the name was noted before
abbrev pub clashing : {V : Type 0} → (V → V → Bool) → Option V → V → Option (List ℕ) → List ℕ → Option (List ℕ)
clashing eq None v o n = o
clashing eq (Some w) v o n = if eq w v then o else lesser o n

-- names with one value
abbrev pub all_with : {V : Type 0} → V → List (List ℕ) → List (Entry V)
all_with v ns = map (λ n. entry n v) ns

-- the names of modules, each with the place of its module
abbrev pub placed : (ProgramModule → List (List ℕ)) → ℕ → List ProgramModule → List (Entry ℕ)
placed names k [] = []
placed names k (m ∷ ms) = all_with k (names m) ++ placed names (suc k) ms

-- the names of a kind
abbrev pub names_by : Kind → ProgramModule → List (List ℕ)
names_by kinds.Own = own_name
names_by kinds.Defined = defined
names_by kinds.Main = main_names

-- the name `main`, for each unit of this full name
abbrev pub mains_in : List ℕ → List ProgramUnit → List (List ℕ)
mains_in q us = map (λ u. codes "main") (filter (λ u. bytes_eq u.name q) us)

-- the names of interfaces with their texts
abbrev pub with_texts : List ProgramInterface → List (Entry (List ℕ))
with_texts is = map (λ i. entry i.name i.canonical) is

-- the names that the map lacks
abbrev pub lacks : {X S : Type 0} → HashMap (Bor (List ℕ)) X S → List (List ℕ) → List (List ℕ)
lacks m ns = filter (λ n. is_none (get_by (λ k. bytes_eq n k.now) m)) ns

-- whether there is a `main`
abbrev pub MainIs : Program → Bool → Type 0
MainIs p true = HasMain p
MainIs p false = ¬ HasMain p

-- what was found of a program
pub record Found (p : Program) (f : Findings) : Type 0 where
  pub differs : IsLeastOf (Differs p) (kept f.differs)
  pub twice : IsLeastOf (Twice p) (kept f.twice)
  pub missing : IsLeastOf (Missing p) (kept f.missing)
  pub main : MainIs p f.main
