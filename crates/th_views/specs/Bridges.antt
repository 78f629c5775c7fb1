-- The result of the body that a class's walk finds, and the results that its callers expect. Each list of classes is one class with those that it inherits.
use Rattle.std.specs.Prelude.{◌≡◌, ℕ, List, [], ◌∷◌, Bool, true, false, cond, Option, Some, None, ◌⊎◌, IsTrue}
use Rattle.th_views.specs.Chain.{among}
use Rattle.th_views.specs.Terms.{Term, Whole, Param, Array, Named, Terms, sub_all, sub_result, Sig, Full, Type', Fulls, Bare, Under, written_in, result_of}

pub data Kind : Type 0 where
  Absent : Kind
  Typed : Option Term → Kind
  Hidden : Option Term → Kind

abbrev pub lift : Terms → Kind → Kind
lift a Absent = Absent
lift a (Typed r) = Typed (sub_result a r)
lift a (Hidden r) = Hidden (sub_result a r)

pub record Made : Type 0 where
  pub of : Full
  pub args : Terms
  -- the arguments at which it inherits the next class
  pub up : Terms
  pub hidden : List Sig
  pub bodies : List ℕ

abbrev pub over : Terms → Option (Option Term) → Kind → Kind
over a None k = k
over a (Some r) k = Typed (sub_result a r)

abbrev pub hidden_if : Kind → Option (Option Term) → Kind
hidden_if Absent None = Absent
hidden_if Absent (Some r) = Hidden r
hidden_if (Typed r) o = Typed r
hidden_if (Hidden r) o = Hidden r

-- the class's signature of m
abbrev pub sig : List Made → ℕ → Kind
sig [] m = Absent
sig (c ∷ rest) m = over c.args (result_of c.of m) (hidden_if (lift c.up (sig rest m)) (written_in c.hidden m))

abbrev pub found_up : Kind → Kind → Kind
found_up Absent s = Absent
found_up (Typed r) s = Typed r
found_up (Hidden r) s = s

-- from the class of the body down, the first signature that isn't a hidden method's
abbrev pub found : List Made → ℕ → Kind
found [] m = Absent
found (c ∷ rest) m = cond (among c.bodies m) (sig (c ∷ rest) m) (found_up (lift c.up (found rest m)) (sig (c ∷ rest) m))

abbrev pub result_in_kind : Kind → Option Term
result_in_kind Absent = None
result_in_kind (Typed r) = r
result_in_kind (Hidden r) = r

-- the result at which the body returns, that of its own class's signature
abbrev pub out : List Made → ℕ → Option Term
out [] m = None
out (c ∷ rest) m = cond (among c.bodies m) (result_in_kind (sig (c ∷ rest) m)) (sub_result c.up (out rest m))

-- the type x with arguments b is that of a class of the list
abbrev pub At : List Made → Full → Terms → Type 0
At [] x b = ⊥
At (c ∷ rest) x b = ((x ≡ c.of) × (b ≡ c.args)) ⊎ ((d : Terms) × (b ≡ sub_all c.up d) × At rest x d)

-- r is a class's signature that is not a hidden method's
abbrev pub SigAt : List Made → ℕ → Option Term → Type 0
SigAt [] m r = ⊥
SigAt (c ∷ rest) m r = (sig (c ∷ rest) m ≡ Typed r) ⊎ ((q : Option Term) × (r ≡ sub_result c.up q) × SigAt rest m q)

abbrev pub param_found : Option (Option Term) → Bool
param_found None = false
param_found (Some None) = false
param_found (Some (Some (Whole k))) = false
param_found (Some (Some (Param k))) = true
param_found (Some (Some (Array t))) = false
param_found (Some (Some (Named n ts))) = false

-- m's result is a type parameter in the type or in a type above it
abbrev mutual
  pub parametric : Full → ℕ → Bool
  parametric (Type' n f ws ss) m = cond (param_found (result_of (Type' n f ws ss) m)) true (parametric_in ss m)

  pub parametric_in : Fulls → ℕ → Bool
  parametric_in Bare m = false
  parametric_in (Under a s rest) m = cond (parametric s m) true (parametric_in rest m)

-- x with arguments c has t with arguments a above it, or is it
abbrev mutual
  pub Reach : Full → Terms → Full → Terms → Type 0
  Reach (Type' n f ws ss) c t a = ((t ≡ Type' n f ws ss) × (a ≡ c)) ⊎ ReachIn ss c t a

  pub ReachIn : Fulls → Terms → Full → Terms → Type 0
  ReachIn Bare c t a = ⊥
  ReachIn (Under d s rest) c t a = Reach s (sub_all c d) t a ⊎ ReachIn rest c t a

module _ (Sub : Term → Term → Type 0) where
  abbrev pub Fits : Option Term → Option Term → Type 0
  Fits None None = Unit
  Fits None (Some t) = ⊥
  Fits (Some s) None = ⊥
  Fits (Some s) (Some t) = Sub s t

  -- result s conforms to result t of m in x
  pub record Conf (x : Full) (m : ℕ) (s t : Option Term) : Type 0 where
    pub fits : Fits s t
    pub strict : parametric x m ≡ true → s ≡ t

  abbrev mutual
    pub Rule8 : ℕ → Full → Type 0
    Rule8 m (Type' n f ws ss) = Rule8In m (result_of (Type' n f ws ss) m) ss

    pub Rule8In : ℕ → Option (Option Term) → Fulls → Type 0
    Rule8In m o Bare = Unit
    Rule8In m o (Under d s rest) = Rule8 m s × ((p q : Option Term) → o ≡ Some p → result_of s m ≡ Some q → Conf s m p (sub_result d q)) × Rule8In m o rest

  pub record RulesAt (c : Made) (rest : List Made) (m : ℕ) : Type 0 where
    pub type : Rule8 m c.of
    pub defined : among c.bodies m ≡ false → (q : Option Term) → result_of c.of m ≡ Some q → found rest m ≡ Absent → ⊥
    pub inherited : among c.bodies m ≡ false → (q r : Option Term) → result_of c.of m ≡ Some q → SigAt rest m r → Conf c.of m (sub_result c.up r) (sub_result c.args q)
    pub unhidden : among c.bodies m ≡ false → (q r : Option Term) → result_of c.of m ≡ Some q → sig rest m ≡ Hidden r → sub_result c.up r ≡ sub_result c.args q
    pub own : among c.bodies m ≡ true → (r q : Option Term) (x : Full) (b : Terms) → sig (c ∷ rest) m ≡ Typed r → At rest x b → result_of x m ≡ Some q
        → Conf x m r (sub_result (sub_all c.up b) q)

  abbrev pub Rules : List Made → ℕ → Type 0
  Rules [] m = Unit
  Rules (c ∷ rest) m = RulesAt c rest m × Rules rest m

-- the distance between two results, by their names alone
abbrev pub gap : (ℕ → ℕ → ℕ) → Option Term → Option Term → ℕ
gap dist None t = 0
gap dist (Some (Whole k)) t = 0
gap dist (Some (Param k)) t = 0
gap dist (Some (Array s)) t = 0
gap dist (Some (Named n ss)) None = 0
gap dist (Some (Named n ss)) (Some (Whole k)) = 0
gap dist (Some (Named n ss)) (Some (Param k)) = 0
gap dist (Some (Named n ss)) (Some (Array t)) = 0
gap dist (Some (Named n ss)) (Some (Named m ts)) = dist n m

-- the found result, at which the body returns, conforms to what the type t with arguments a says
pub record Arrives (less : Term → Term → Bool) (chain : List Made) (m : ℕ) (t : Full) (a : Terms) (q : Option Term) : Type 0 where
  pub result : Option Term
  pub is : found chain m ≡ Typed result
  pub returned : out chain m ≡ result
  pub conforms : Conf (λ s t. IsTrue (less s t)) t m result (sub_result a q)
  pub named : (dist : ℕ → ℕ → ℕ) → ((n : ℕ) → dist n n ≡ 0) → gap dist result (sub_result a q) ≡ gap dist result q
