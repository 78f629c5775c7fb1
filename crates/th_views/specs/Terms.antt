-- Types with arguments, and a declared type with everything above it.
use Rattle.std.specs.Prelude.{◌≡◌, ℕ, zero, suc, List, [], ◌∷◌, Bool, true, false, nat_eq, cond, Option, Some, None, ◌⊎◌}
use Rattle.th_views.specs.Tree.{Tree, Node, Trees, End, Also}

mutual
  pub data Term : Type 0 where
    Whole : ℕ → Term
    Param : ℕ → Term
    Array : Term → Term
    Named : ℕ → Terms → Term

  pub data Terms : Type 0 where
    NoTerm : Terms
    With : Term → Terms → Terms

abbrev pub nth : Terms → ℕ → Term
nth NoTerm k = Whole 0
nth (With t ts) zero = t
nth (With t ts) (suc k) = nth ts k

abbrev mutual
  pub sub : Terms → Term → Term
  sub a (Whole k) = Whole k
  sub a (Param k) = nth a k
  sub a (Array t) = Array (sub a t)
  sub a (Named n ts) = Named n (sub_all a ts)

  pub sub_all : Terms → Terms → Terms
  sub_all a NoTerm = NoTerm
  sub_all a (With t ts) = With (sub a t) (sub_all a ts)

abbrev pub same_whole : ℕ → Term → Bool
same_whole k (Whole j) = nat_eq k j
same_whole k (Param j) = false
same_whole k (Array u) = false
same_whole k (Named n us) = false

abbrev pub same_param : ℕ → Term → Bool
same_param k (Whole j) = false
same_param k (Param j) = nat_eq k j
same_param k (Array u) = false
same_param k (Named n us) = false

abbrev pub same_array : (Term → Bool) → Term → Bool
same_array f (Whole j) = false
same_array f (Param j) = false
same_array f (Array u) = f u
same_array f (Named n us) = false

abbrev pub same_named : ℕ → (Terms → Bool) → Term → Bool
same_named n f (Whole j) = false
same_named n f (Param j) = false
same_named n f (Array u) = false
same_named n f (Named m us) = cond (nat_eq n m) (f us) false

abbrev pub none_left : Terms → Bool
none_left NoTerm = true
none_left (With u us) = false

abbrev pub one_left : (Term → Bool) → (Terms → Bool) → Terms → Bool
one_left f g NoTerm = false
one_left f g (With u us) = cond (f u) (g us) false

abbrev mutual
  pub same : Term → Term → Bool
  same (Whole k) u = same_whole k u
  same (Param k) u = same_param k u
  same (Array t) u = same_array (λ v. same t v) u
  same (Named n ts) u = same_named n (λ us. same_all ts us) u

  pub same_all : Terms → Terms → Bool
  same_all NoTerm us = none_left us
  same_all (With t ts) us = one_left (λ u. same t u) (λ vs. same_all ts vs) us

abbrev pub sub_result : Terms → Option Term → Option Term
sub_result a None = None
sub_result a (Some t) = Some (sub a t)

abbrev pub same_result : Option Term → Option Term → Bool
same_result None None = true
same_result None (Some u) = false
same_result (Some t) None = false
same_result (Some t) (Some u) = same t u

pub record Sig : Type 0 where
  pub method : ℕ
  pub result : Option Term

mutual
  -- name, whether marked upward, written methods, declared supertypes with their arguments
  pub data Full : Type 0 where
    Type' : ℕ → Bool → List Sig → Fulls → Full

  pub data Fulls : Type 0 where
    Bare : Fulls
    Under : Terms → Full → Fulls → Fulls

abbrev pub written_in : List Sig → ℕ → Option (Option Term)
written_in [] m = None
written_in (s ∷ ss) m = cond (nat_eq s.method m) (Some s.result) (written_in ss m)

abbrev pub or_else : Option (Option Term) → Option (Option Term) → Option (Option Term)
or_else None b = b
or_else (Some a) b = Some a

abbrev pub sub_found : Terms → Option (Option Term) → Option (Option Term)
sub_found a None = None
sub_found a (Some r) = Some (sub_result a r)

-- a method's result over the type's own parameters
abbrev mutual
  pub result_of : Full → ℕ → Option (Option Term)
  result_of (Type' n f ws ss) m = or_else (written_in ws m) (result_in ss m)

  pub result_in : Fulls → ℕ → Option (Option Term)
  result_in Bare m = None
  result_in (Under a s rest) m = or_else (sub_found a (result_of s m)) (result_in rest m)

abbrev pub fits_found : Option Term → Option (Option Term) → Bool
fits_found r None = true
fits_found r (Some q) = same_result q r

-- each declared supertype that has the method has it with this result
abbrev pub kept_in : Option Term → Fulls → ℕ → Bool
kept_in r Bare m = true
kept_in r (Under a s rest) m = cond (fits_found r (sub_found a (result_of s m))) (kept_in r rest m) false

abbrev pub is_found : Option (Option Term) → Bool
is_found None = false
is_found (Some r) = true

-- written and in no supertype, or with another result than some supertype's
abbrev pub own_by : Option (Option Term) → Fulls → ℕ → Bool
own_by None ss m = false
own_by (Some r) ss m = cond (is_found (result_in ss m)) (cond (kept_in r ss m) false true) true

abbrev pub own_list : List Sig → List Sig → Fulls → List ℕ
own_list [] ws ss = []
own_list (s ∷ rest) ws ss = cond (own_by (written_in ws s.method) ss s.method) (s.method ∷ own_list rest ws ss) (own_list rest ws ss)

-- what the layout knows of a type
abbrev mutual
  pub shape : Full → Tree
  shape (Type' n f ws ss) = Node n f (own_list ws ws ss) (shapes ss)

  pub shapes : Fulls → Trees
  shapes Bare = End
  shapes (Under a s rest) = Also (shape s) (shapes rest)

-- the home's result, carried down to the type
abbrev mutual
  pub home_result : Full → ℕ → Option (Option Term)
  home_result (Type' n f ws ss) m = cond (own_by (written_in ws m) ss m) (written_in ws m) (home_result_in ss m)

  pub home_result_in : Fulls → ℕ → Option (Option Term)
  home_result_in Bare m = None
  home_result_in (Under a s rest) m = or_else (sub_found a (home_result s m)) (home_result_in rest m)

-- the type t, with arguments b, is x with arguments a or on its chain of first supertypes
abbrev mutual
  pub OnFull : Full → Terms → Full → Terms → Type 0
  OnFull (Type' n f ws ss) a t b = ((t ≡ Type' n f ws ss) × (b ≡ a)) ⊎ OnFullIn ss a t b

  pub OnFullIn : Fulls → Terms → Full → Terms → Type 0
  OnFullIn Bare a t b = ⊥
  OnFullIn (Under c s rest) a t b = OnFull s (sub_all a c) t b
