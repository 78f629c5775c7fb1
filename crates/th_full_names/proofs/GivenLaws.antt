-- The first name that is not given.
use Rattle.std.proofs.Common.{◌≡◌, ℕ, ◌+◌, ◌<◌, ◌≤◌, get_or, drop, inl, inr, Bool, true, false, nat_eq, nat_lt, ◌&&◌, ◌||◌, List, [], ◌∷◌, ◌++◌, Option, Some, None, refl, sym, ◌∙◌, subst, ap, if◌then◌else◌, arith, append_assoc, append-nil, eq-eqb, map, length, true≢false}
use Rattle.std.proofs.lemmas.List.{at_drop_all, drop_more}
use Rattle.std.proofs.lemmas.Bool.{ltb-true, lt-ltb, eqb-true}
use Rattle.th_type.specs.Lists.{IsIn}
use Rattle.th_type.proofs.Members.{from_append, in_left, in_right}
use Rattle.th_tree.specs.declared.decl.Interface.{Interface}
use Rattle.th_tree.specs.DeclView.{interface_of}
use Rattle.th_hier.specs.Naming.{has, with_number, with_numbers}
use Rattle.th_hier.proofs.Failing.{next_item}
use Rattle.th_module_rules.specs.Stages.{Numbered, numbered}
use Rattle.th_module_rules.specs.Texts.{AllGiven, UsedName, interface_names}
use Rattle.th_module_rules.specs.Refusals.{IsMissing, StandsBefore, all_used}
use Rattle.th_program.specs.declared.trees.Trees.{Trees}
use Rattle.th_program.specs.Programs.{IsPaired, program_of, with_texts}
use Rattle.th_full_names.specs.declared.given.Missing.{Missing}
use Rattle.th_full_names.specs.Earliest.{earliest, earlier, stands_before}
use Rattle.th_full_names.specs.Given.{AreDemanded}
use Rattle.th_rules.specs.Cores.{name_at}
use Rattle.th_type.specs.Failures.{place}

-- the earliest of lists that follow each other
pub earliest_append : (given : List ℕ) (o : Option UsedName) (us vs : List UsedName) → earliest given o (us ++ vs) ≡ earliest given (earliest given o us) vs
earliest_append given o [] vs = refl
earliest_append given o (u ∷ us) vs = earliest_append given (if has given u.name.name then o else earlier o u) us vs

-- the next tree with the number of its text
next_pair : {A B : Type 0} (view : A → B) (ns : List ℕ) (xs : List A) (k : ℕ) (x : A) → k < length ns → k < length xs → x ≡ get_or xs k x
    → with_texts (drop k ns) (map view (drop k xs)) ≡ numbered (get_or ns k 0) (view x) ∷ with_texts (drop (k + 1) ns) (map view (drop (k + 1) xs))
next_pair {A} {B} view ns xs k x below within it =
    ap (λ (ms : List ℕ). with_texts ms (map view (drop k xs))) (drop_more ns k 0 below)
    ∙ ap (λ (ys : List A). with_texts (get_or ns k 0 ∷ drop (k + 1) ns) (map view ys)) (next_item xs k x within it)

-- the earliest after the names of the next tree
pub next_tree : {A B : Type 0} (view : A → B) (f : Numbered B → List UsedName) (F : List (Numbered B) → List UsedName) (ns : List ℕ) (xs : List A) (k : ℕ) (x : A) (given : List ℕ) (kept new whole : Option UsedName)
    → ((y : Numbered B) (ys : List (Numbered B)) → F (y ∷ ys) ≡ f y ++ F ys) → k < length ns → k < length xs → x ≡ get_or xs k x
    → new ≡ earliest given kept (f (numbered (get_or ns k 0) (view x)))
    → earliest given kept (F (with_texts (drop k ns) (map view (drop k xs)))) ≡ whole → earliest given new (F (with_texts (drop (k + 1) ns) (map view (drop (k + 1) xs)))) ≡ whole
next_tree {A} {B} view f F ns xs k x given kept new whole goes below within it here left =
    let rest : List (Numbered B) = with_texts (drop (k + 1) ns) (map view (drop (k + 1) xs)) in
    ap (λ o. earliest given o (F rest)) here ∙ sym (earliest_append given kept (f (numbered (get_or ns k 0) (view x))) (F rest))
    ∙ ap (earliest given kept) (sym (goes (numbered (get_or ns k 0) (view x)) rest)) ∙ ap (λ (ys : List (Numbered B)). earliest given kept (F ys)) (sym (next_pair view ns xs k x below within it)) ∙ left

no_trees : {B : Type 0} (ns : List ℕ) (xs : List B) → xs ≡ [] → with_texts ns xs ≡ []
no_trees [] xs e = refl
no_trees (n ∷ ns) [] e = refl
no_trees (n ∷ ns) (x ∷ xs) e = absurd (cc)

-- the earliest where no tree is left
pub last_tree : {A B : Type 0} (view : A → B) (F : List (Numbered B) → List UsedName) (ns : List ℕ) (xs : List A) (k : ℕ) (given : List ℕ) (kept whole : Option UsedName)
    → F [] ≡ [] → length xs ≤ k → earliest given kept (F (with_texts (drop k ns) (map view (drop k xs)))) ≡ whole → kept ≡ whole
last_tree {A} {B} view F ns xs k given kept whole none past left =
    sym (
    ap (λ (ys : List (Numbered B)). earliest given kept (F ys)) (no_trees (drop k ns) (map view (drop k xs)) (at_drop_all (map view) xs k past))
    ∙ ap (earliest given kept) none
    ) ∙ left

-- what is kept of the names seen: none where all are given, else the first that is not
abbrev pub Kept : List ℕ → List UsedName → Option UsedName → Type 0
Kept given seen None = (v : UsedName) → IsIn v seen → has given v.name.name ≡ true
Kept given seen (Some w) = IsIn w seen × (has given w.name.name ≡ false) × ((v : UsedName) → IsIn v seen → StandsBefore v w → has given v.name.name ≡ true)

not_itself : (u : UsedName) → StandsBefore u u → ⊥
not_itself u (inl l) = omega (arith, l)
not_itself u (inr (e, l)) = omega (arith, l)

in_turn : (u v w : UsedName) → StandsBefore u v → StandsBefore v w → StandsBefore u w
in_turn u v w (inl l) (inl m) = inl (omega (arith, l, m))
in_turn u v w (inl l) (inr (e, m)) = inl (omega (arith, l, e))
in_turn u v w (inr (d, l)) (inl m) = inl (omega (arith, d, m))
in_turn u v w (inr (d, l)) (inr (e, m)) = inr (d ∙ e, omega (arith, l, m))

to_bool : (u v : UsedName) → StandsBefore u v → stands_before u v ≡ true
to_bool u v (inl l) = rw (lt-ltb u.text v.text l) refl
to_bool u v (inr (e, l)) = go (nat_lt u.text v.text) where
  go : (b : Bool) → (b || (nat_eq u.text v.text && nat_lt u.name.at v.name.at)) ≡ true
  go true = refl
  go false = rw (eq-eqb u.text v.text e, lt-ltb u.name.at v.name.at l) refl

seen_given : (given : List ℕ) (seen : List UsedName) (u : UsedName) → has given u.name.name ≡ true → ((v : UsedName) → IsIn v seen → has given v.name.name ≡ true)
    → (v : UsedName) → IsIn v (seen ++ u ∷ []) → has given v.name.name ≡ true
seen_given given seen u g h v m = elim (from_append v seen (u ∷ []) m) [
  | inl p ↦ h v p
  | inr q ↦ elim q [ inl e ↦ subst (λ (x : UsedName). has given x.name.name ≡ true) (sym e) g | inr n ↦ absurd n ]
]

-- of a name before w, where u is the one that is added: given, or u itself
before_given : (given : List ℕ) (seen : List UsedName) (u w : UsedName) → ((v : UsedName) → IsIn v seen → StandsBefore v w → has given v.name.name ≡ true)
    → (StandsBefore u w → has given u.name.name ≡ true) → (v : UsedName) → IsIn v (seen ++ u ∷ []) → StandsBefore v w → has given v.name.name ≡ true
before_given given seen u w h g v m s = elim (from_append v seen (u ∷ []) m) [
  | inl p ↦ h v p s
  | inr q ↦ elim q [
    | inl e ↦ subst (λ (x : UsedName). has given x.name.name ≡ true) (sym e) (g (subst (λ (x : UsedName). StandsBefore x w) e s))
    | inr n ↦ absurd n
  ]
]

to_before : (u v : UsedName) → stands_before u v ≡ true → StandsBefore u v
to_before u v e = go (nat_lt u.text v.text) refl e where
  later : (b c : Bool) → nat_eq u.text v.text ≡ b → nat_lt u.name.at v.name.at ≡ c → (b && c) ≡ true → StandsBefore u v
  later true true d l h = inr (eqb-true u.text v.text d, ltb-true u.name.at v.name.at l)
  later true false d l h = absurd (cc)
  later false c d l h = absurd (cc)

  go : (b : Bool) → nat_lt u.text v.text ≡ b → (b || (nat_eq u.text v.text && nat_lt u.name.at v.name.at)) ≡ true → StandsBefore u v
  go true l h = inl (ltb-true u.text v.text l)
  go false l h = later (nat_eq u.text v.text) (nat_lt u.name.at v.name.at) refl refl h

kept_given : (given : List ℕ) (seen : List UsedName) (u : UsedName) (o : Option UsedName) → has given u.name.name ≡ true → Kept given seen o → Kept given (seen ++ u ∷ []) o
kept_given given seen u None g k = seen_given given seen u g k
kept_given given seen u (Some w) g k = (in_left w seen (u ∷ []) k.0, k.1, before_given given seen u w k.2 (λ s. g))

kept_missing : (given : List ℕ) (seen : List UsedName) (u : UsedName) (o : Option UsedName) → has given u.name.name ≡ false → Kept given seen o → Kept given (seen ++ u ∷ []) (earlier o u)
kept_missing given seen u None g k = (in_right u seen (u ∷ []) (inl refl), g, before_given given seen u u (λ v m s. k v m) (λ s. absurd (not_itself u s)))
kept_missing given seen u (Some w) g k = go (stands_before u w) refl where
  go : (b : Bool) → stands_before u w ≡ b → Kept given (seen ++ u ∷ []) (if b then Some u else Some w)
  go true e = (in_right u seen (u ∷ []) (inl refl), g, before_given given seen u u (λ v m s. k.2 v m (in_turn v u w s (to_before u w e))) (λ s. absurd (not_itself u s)))
  go false e = (in_left w seen (u ∷ []) k.0, k.1, before_given given seen u w k.2 (λ s. let d : stands_before u w ≡ true = to_bool u w s in absurd (cc)))

kept_on : (given : List ℕ) (seen us : List UsedName) (o : Option UsedName) → Kept given seen o → Kept given (seen ++ us) (earliest given o us)
kept_on given seen [] o k = subst (λ y. Kept given y o) (sym (append-nil seen)) k
kept_on given seen (u ∷ us) o k = subst (λ y. Kept given y (earliest given (if has given u.name.name then o else earlier o u) us)) (append_assoc seen (u ∷ []) us) (kept_on given (seen ++ u ∷ []) us (if has given u.name.name then o else earlier o u) (go (has given u.name.name) refl)) where
  go : (b : Bool) → has given u.name.name ≡ b → Kept given (seen ++ u ∷ []) (if b then o else earlier o u)
  go true e = kept_given given seen u o e k
  go false e = kept_missing given seen u o e k

-- the earliest of names is none where all are given, else the first that is not
pub earliest_kept : (given : List ℕ) (us : List UsedName) → Kept given us (earliest given None us)
earliest_kept given us = kept_on given [] us None (λ v m. absurd m)

or_three : (a b c : Bool) → (a || b) || c ≡ a || (b || c)
or_three true b c = refl
or_three false b c = refl

has_append : (xs ys : List ℕ) (n : ℕ) → has (xs ++ ys) n ≡ has xs n || has ys n
has_append [] ys n = refl
has_append (x ∷ xs) ys n = ap (λ b. nat_eq n x || b) (has_append xs ys n) ∙ sym (or_three (nat_eq n x) (has xs n) (has ys n))

or_false : (a : Bool) → a || false ≡ a
or_false true = refl
or_false false = refl

or_known : (a b : Bool) → (b ≡ true → a ≡ true) → a ≡ a || b
or_known true b h = refl
or_known false true h = h refl
or_known false false h = refl

-- whether a number is in the list with a further one
has_with : (ns : List ℕ) (m n : ℕ) (b : Bool) → has ns m ≡ b → has (if b then ns else ns ++ m ∷ []) n ≡ has ns n || nat_eq n m
has_with ns m n true h = or_known (has ns n) (nat_eq n m) (λ e. ap (has ns) (eqb-true n m e) ∙ h)
has_with ns m n false h = has_append ns (m ∷ []) n ∙ ap (λ b. has ns n || b) (or_false (nat_eq n m))

has_with_numbers : (ms ns : List ℕ) (n : ℕ) → has (with_numbers ms ns) n ≡ has ms n || has ns n
has_with_numbers ms [] n = sym (or_false (has ms n))
has_with_numbers ms (k ∷ ns) n =
    has_with_numbers (with_number ms k) ns n ∙ ap (λ b. b || has ns n) (has_with ms k n (has ms k) refl) ∙ or_three (has ms n) (nat_eq n k) (has ns n)

in_has : (ns : List ℕ) (n : ℕ) → IsIn n ns → has ns n ≡ true
in_has [] n h = absurd h
in_has (m ∷ ns) n (inl e) = rw (eq-eqb n m e) refl
in_has (m ∷ ns) n (inr h) = go (nat_eq n m) (in_has ns n h) where
  go : (b : Bool) → has ns n ≡ true → (b || has ns n) ≡ true
  go true r = refl
  go false r = r

has_in : (ns : List ℕ) (n : ℕ) → has ns n ≡ true → IsIn n ns
has_in [] n h = absurd (cc)
has_in (m ∷ ns) n h = go (nat_eq n m) refl (has_in ns n) h where
  go : (b : Bool) → nat_eq n m ≡ b → (has ns n ≡ true → IsIn n ns) → (b || has ns n) ≡ true → IsIn n (m ∷ ns)
  go true e r d = inl (eqb-true n m e)
  go false e r d = inr (r d)

names_paired : (ns : List ℕ) (is : List Interface) → length ns ≡ length is → interface_names (with_texts ns (map interface_of is)) ≡ map (λ i. i.name.name) is
names_paired [] [] e = refl
names_paired [] (i ∷ is) e = absurd (cc)
names_paired (n ∷ ns) [] e = absurd (cc)
names_paired (n ∷ ns) (i ∷ is) e = let l : length ns ≡ length is = omega (arith, e) in ap (λ y. i.name.name ∷ y) (names_paired ns is l)

-- the numbers of the names of interfaces
abbrev pub given_by : Trees → List ℕ
given_by t = with_numbers [] (map (λ i. i.name.name) t.interfaces.items)

-- a name is that of an interface exactly where it is among the given ones
given_is : (t : Trees) (n : ℕ) → IsPaired t → has (given_by t) n ≡ has (interface_names (program_of t).interfaces) n
given_is t n p =
    has_with_numbers [] (map (λ i. i.name.name) t.interfaces.items) n
    ∙ ap (λ (y : List ℕ). has y n) (sym (names_paired t.interface_texts.items t.interfaces.items p.interfaces))

given_in : (t : Trees) (n : ℕ) → IsPaired t → has (given_by t) n ≡ true → IsIn n (interface_names (program_of t).interfaces)
given_in t n p h = has_in (interface_names (program_of t).interfaces) n (sym (given_is t n p) ∙ h)

not_given : (t : Trees) (n : ℕ) → IsPaired t → has (given_by t) n ≡ false → IsIn n (interface_names (program_of t).interfaces) → ⊥
not_given t n p h m = true≢false (sym (given_is t n p ∙ in_has (interface_names (program_of t).interfaces) n m) ∙ h)

kept_of : (t : Trees) (given : List ℕ) (o : Option UsedName) → given ≡ given_by t → o ≡ earliest given None (all_used (program_of t)) → Kept (given_by t) (all_used (program_of t)) o
kept_of t given o g e =
    subst (λ (x : Option UsedName). Kept (given_by t) (all_used (program_of t)) x)
    (ap (λ (x : List ℕ). earliest x None (all_used (program_of t))) (sym g) ∙ sym e)
    (earliest_kept (given_by t) (all_used (program_of t)))

-- where the earliest is none, all names are given
pub none_missing : (t : Trees) (given : List ℕ) → IsPaired t → given ≡ given_by t → None ≡ earliest given None (all_used (program_of t)) → AllGiven (program_of t)
none_missing t given p g e u m =
    let k : Kept (given_by t) (all_used (program_of t)) None = kept_of t given None g e in given_in t u.name.name p (k u m)

-- else it is the first that is not
first_is_missing : (t : Trees) (given : List ℕ) (w : UsedName) → IsPaired t → given ≡ given_by t → Some w ≡ earliest given None (all_used (program_of t)) → IsMissing (program_of t) w
first_is_missing t given w p g e =
    let k : Kept (given_by t) (all_used (program_of t)) (Some w) = kept_of t given (Some w) g e in
    (k.0, not_given t w.name.name p k.1, λ v m s. given_in t v.name.name p (k.2 v m s))

pub some_missing : (t : Trees) (given : List ℕ) (w : UsedName) (m : Missing) → IsPaired t → given ≡ given_by t → Some w ≡ earliest given None (all_used (program_of t))
    → m.place ≡ place w.text w.name.at → m.name ≡ name_at t.names w.name.name → AreDemanded (program_of t) (Some m)
some_missing t given w m p g e at named = (w, first_is_missing t given w p g e, at, named)
