-- The tests of types and signatures decide what they test.
use Rattle.std.proofs.Common.{◌≡◌, ◌⊎◌, inl, inr, ⊎_elim, ℕ, ◌<◌, Bool, true, false, ◌&&◌, ◌||◌, List, [], ◌∷◌, ◌++◌, Option, Some, None, All, Contains, refl, sym, ap, ◌∙◌, subst, nat_eq, bytes_eq, arith}
use Rattle.std.specs.List.{list_any, list_all}
use Rattle.std.proofs.lemmas.Bool.{and_parts, and_from, eqb-true, eq-eqb}
use Rattle.std.proofs.lemmas.Bool.Decides.{nat_tests}
use Rattle.std.proofs.lemmas.Slice.Eq.{bytes_eq-Decides}
use Rattle.std.proofs.lemmas.List.Elements.{All-nil, All-cons, All-head, All-tail, Contains-append_cases, Contains-push_cases}
use Rattle.std.proofs.lemmas.Map.Views.{Contains-from_any}
use Rattle.th_meaning.specs.Trees.{TypeTree, int_type, bool_type, text_type, array_type, named_type, param_type, TypeTrees, no_type, more_types, Signature}
use Rattle.th_meaning.specs.Weights.{same_type, same_types}
use Rattle.th_meaning.specs.Typing.{ExactlyConforms, SignalsWithin}
use Rattle.th_subst.specs.Tests.{same_list, same_gives, names_within, same_truth, exactly}

pub bytes_equal : (xs ys : List ℕ) → bytes_eq xs ys ≡ true → xs ≡ ys
bytes_equal xs ys h = (bytes_eq-Decides xs ys).0 h

pub bytes_same : (xs ys : List ℕ) → xs ≡ ys → bytes_eq xs ys ≡ true
bytes_same xs ys h = (bytes_eq-Decides xs ys).1 h

no_element : {X : Type 0} (y : X) → Contains [] y → ⊥
no_element y h = omega (arith, h.1)

one_element : {X : Type 0} (x y : X) → Contains (x ∷ []) y → x ≡ y
one_element x y h = ⊎_elim (λ a. absurd (no_element y a)) (λ e. e) (Contains-push_cases [] x y h)

pub contains_cons : {X : Type 0} (x : X) (xs : List X) (y : X) → Contains (x ∷ xs) y → (x ≡ y) ⊎ Contains xs y
contains_cons x xs y h = ⊎_elim (λ a. inl (one_element x y a)) (λ b. inr b) (Contains-append_cases (x ∷ []) xs y h)

mutual
  pub same_self : (t : TypeTree) → same_type t t ≡ true
  same_self int_type = refl
  same_self bool_type = refl
  same_self text_type = refl
  same_self (array_type t) = same_self t
  same_self (named_type n ts) = and_from (bytes_eq n n) (same_types ts ts) (bytes_same n n refl) (sames_self ts)
  same_self (param_type k) = eq-eqb k k refl

  pub sames_self : (ts : TypeTrees) → same_types ts ts ≡ true
  sames_self no_type = refl
  sames_self (more_types t ts) = and_from (same_type t t) (same_types ts ts) (same_self t) (sames_self ts)

mutual
  pub same_equal : (t u : TypeTree) → same_type t u ≡ true → t ≡ u
  same_equal int_type int_type h = refl
  same_equal bool_type bool_type h = refl
  same_equal text_type text_type h = refl
  same_equal (array_type t) (array_type u) h = ap array_type (same_equal t u h)
  same_equal (named_type n ts) (named_type m us) h =
      let p = and_parts (bytes_eq n m) (same_types ts us) h in
      rw (bytes_equal n m p.0, sames_equal ts us p.1) refl
  same_equal (param_type k) (param_type l) h = ap param_type (eqb-true k l h)
  same_equal _ _ h = cc

  pub sames_equal : (ts us : TypeTrees) → same_types ts us ≡ true → ts ≡ us
  sames_equal no_type no_type h = refl
  sames_equal (more_types t ts) (more_types u us) h =
      let p = and_parts (same_type t u) (same_types ts us) h in
      rw (same_equal t u p.0, sames_equal ts us p.1) refl
  sames_equal _ _ h = cc

list_equal : (ts us : List TypeTree) → same_list ts us ≡ true → ts ≡ us
list_equal [] [] h = refl
list_equal (t ∷ ts) (u ∷ us) h = let p = and_parts (same_type t u) (same_list ts us) h in rw (same_equal t u p.0, list_equal ts us p.1) refl
list_equal _ _ h = cc

list_self : (ts : List TypeTree) → same_list ts ts ≡ true
list_self [] = refl
list_self (t ∷ ts) = and_from (same_type t t) (same_list ts ts) (same_self t) (list_self ts)

gives_equal : (a b : Option TypeTree) → same_gives a b ≡ true → a ≡ b
gives_equal None None h = refl
gives_equal (Some t) (Some u) h = ap Some (same_equal t u h)
gives_equal _ _ h = cc

gives_self : (a : Option TypeTree) → same_gives a a ≡ true
gives_self None = refl
gives_self (Some t) = same_self t

truth_equal : (a b : Bool) → same_truth a b ≡ true → a ≡ b
truth_equal true b h = sym h
truth_equal false true h = cc
truth_equal false false h = refl

truth_self : (a : Bool) → same_truth a a ≡ true
truth_self true = refl
truth_self false = refl

-- tests that agree at each element find the same
any_agree : (p q : List ℕ → Bool) → ((y : List ℕ) → p y ≡ q y) → (ys : List (List ℕ)) → list_any p ys ≡ list_any q ys
any_agree p q h [] = refl
any_agree p q h (y ∷ ys) = rw (h y, any_agree p q h ys) refl

flip : (x y : List ℕ) → bytes_eq y x ≡ bytes_eq x y
flip x y = by (bytes_eq y x) refl (bytes_eq x y) refl where
  by : (a : Bool) → bytes_eq y x ≡ a → (b : Bool) → bytes_eq x y ≡ b → a ≡ b
  by true e true k = refl
  by false e false k = refl
  by true e false k = let i = sym k ∙ bytes_same x y (sym (bytes_equal y x e)) in cc
  by false e true k = let i = sym e ∙ bytes_same y x (sym (bytes_equal x y k)) in cc

one_to : (x : List ℕ) (ys : List (List ℕ)) → list_any (λ y. bytes_eq y x) ys ≡ true → Contains ys x
one_to x ys h = Contains-from_any bytes_equal x ys (sym (any_agree (λ y. bytes_eq y x) (bytes_eq x) (λ y. flip x y) ys) ∙ h)

one_of : (a b : Bool) → (a ≡ true) ⊎ (b ≡ true) → (a || b) ≡ true
one_of true b h = refl
one_of false b h = ⊎_elim (λ k. cc) (λ k. k) h

one_from : (x : List ℕ) (ys : List (List ℕ)) → Contains ys x → list_any (λ y. bytes_eq y x) ys ≡ true
one_from x [] h = absurd (no_element x h)
one_from x (y ∷ ys) h = one_of (bytes_eq y x) (list_any (λ z. bytes_eq z x) ys) (⊎_elim (λ k. inl (bytes_same y x k)) (λ k. inr (one_from x ys k)) (contains_cons y ys x h))

pub within_to : (xs ys : List (List ℕ)) → names_within xs ys ≡ true → SignalsWithin xs ys
within_to [] ys h = All-nil (Contains ys)
within_to (x ∷ xs) ys h =
    let q = and_parts (list_any (λ y. bytes_eq y x) ys) (names_within xs ys) h in
    All-cons (Contains ys) x xs (one_to x ys q.0) (within_to xs ys q.1)

pub within_from : (xs ys : List (List ℕ)) → SignalsWithin xs ys → names_within xs ys ≡ true
within_from [] ys h = refl
within_from (x ∷ xs) ys h =
    and_from (list_any (λ y. bytes_eq y x) ys) (names_within xs ys) (one_from x ys (All-head (Contains ys) x xs h)) (within_from xs ys (All-tail (Contains ys) x xs h))

pub exactly_to : (s t : Signature) → exactly s t ≡ true → ExactlyConforms s t
exactly_to s t h =
    let p = and_parts (same_truth s.iterator t.iterator) (same_list s.formals t.formals && (same_gives s.gives t.gives && names_within s.signals t.signals)) h in
    let q = and_parts (same_list s.formals t.formals) (same_gives s.gives t.gives && names_within s.signals t.signals) p.1 in
    let r = and_parts (same_gives s.gives t.gives) (names_within s.signals t.signals) q.1 in
    record { iterator = truth_equal s.iterator t.iterator p.0; formals = list_equal s.formals t.formals q.0; gives = gives_equal s.gives t.gives r.0; signals = within_to s.signals t.signals r.1 }

pub exactly_from : (s t : Signature) → ExactlyConforms s t → exactly s t ≡ true
exactly_from s t h =
    and_from (same_truth s.iterator t.iterator) (same_list s.formals t.formals && (same_gives s.gives t.gives && names_within s.signals t.signals)) (subst (λ b. same_truth s.iterator b ≡ true) h.iterator (truth_self s.iterator))
    (and_from (same_list s.formals t.formals) (same_gives s.gives t.gives && names_within s.signals t.signals) (subst (λ fs. same_list s.formals fs ≡ true) h.formals (list_self s.formals))
    (and_from (same_gives s.gives t.gives) (names_within s.signals t.signals) (subst (λ o. same_gives s.gives o ≡ true) h.gives (gives_self s.gives)) (within_from s.signals t.signals h.signals)))
