-- The failures in interfaces stand at places in these.
use Rattle.std.proofs.Common.{◌≡◌, ℕ, suc, ◌+◌, ◌<◌, Bool, true, false, nat_eq, not, List, [], ◌∷◌, ◌++◌, map, length, Option, Some, None, refl, ap, ◌∙◌, inl, inr, arith, if◌then◌else◌}
use Rattle.th_tree.specs.declared.tree.Ident.{Ident}
use Rattle.th_tree.specs.declared.tree.RefTree.{RefTree}
use Rattle.th_tree.specs.Trees.{TypeSyn, int_type, bool_type, text_type, array_type, named_type, TypeSyns, no_type, more_types, NamedSyn, FormalSyn, SigSyn, ClauseSyn, RoutineHeadSyn, InterfaceClassSyn, TypeDeclSyn, InterfaceItemSyn, exception_item, type_item, class_item, routine_item, InterfaceSyn}
use Rattle.th_type.specs.declared.place.Place.{Place}
use Rattle.th_type.specs.declared.place.Failure.{Failure}
use Rattle.th_type.specs.Lists.{IsIn}
use Rattle.th_type.specs.Failures.{place, unless}
use Rattle.th_type.specs.Declarations.{Meant, unresolved, parameter, by_head, whole, SuperRef, Declaration}
use Rattle.th_type.specs.Rules.{member_failures, names_meant, list_failures}
use Rattle.th_type.proofs.Members.{from_append}
use Rattle.th_hier.specs.declared.item.Sort.{Sort}
use Rattle.th_hier.specs.declared.item.Sort.TheVariants.{Exception, Declared, Class, Routine, Iterator}
use Rattle.th_hier.specs.declared.item.Referent.{Referent}
use Rattle.th_hier.specs.declared.item.Referent.TheVariants as referents
use Rattle.th_hier.specs.declared.spot.Spot.{Spot}
use Rattle.th_hier.specs.Naming.{Items, Visible, has, with_number, meaning}
use Rattle.th_hier.specs.Spots.{repeats, spot_at, spots, formal_spots, sig_spots, item_name, item_spots, interface_spots}
use Rattle.th_hier.specs.Resolve.{count, sort_fails, type_name_fails, type_fails, types_fails}
use Rattle.th_hier.specs.Heads.{formal_types, gives_fails, exception_of, exception_spots, refs_fail, signal_spots, parts_fail, head_fails, clauses_fail}
use Rattle.th_hier.specs.Texts.{within, visible, named_fails, nameds_fail, sigs_fail, declaration_fails, class_sort_fails, class_name_fails, inherits_fails, class_fails, routine_fails, item_fails, items_fail, interface_fails, interfaces_fail, names_fail, numbered, item_declared, items_declared, interfaces_declared, firsts}
use Rattle.th_hier.specs.Hierarchies.{FailsEarly, FailsLate}

at_head : (a t n : ℕ) → a ≡ t → a < t + suc n
at_head a t n e = omega arith

from_zero : (a n : ℕ) → a < 0 + n → a < n
from_zero a n h = omega arith

at_tail : (a t n : ℕ) → a < t + 1 + n → a < t + suc n
at_tail a t n h = omega arith

still : (a b n : ℕ) → a ≡ b → b < n → a < n
still a b n e h = omega arith

-- all stand in this text
abbrev pub AllAt : ℕ → List Failure → Type 0
AllAt t [] = Unit {0}
AllAt t (f ∷ fs) = (f.place.text ≡ t) × AllAt t fs

abbrev pub SpotsAt : ℕ → List Spot → Type 0
SpotsAt t [] = Unit {0}
SpotsAt t (s ∷ ss) = (s.place.text ≡ t) × SpotsAt t ss

pub in_at : (t : ℕ) (fs : List Failure) (f : Failure) → AllAt t fs → IsIn f fs → f.place.text ≡ t
in_at t [] f h m = absurd m
in_at t (x ∷ fs) f h (inl e) = ap (λ (y : Failure). y.place.text) e ∙ h.0
in_at t (x ∷ fs) f h (inr m) = in_at t fs f h.1 m

pub both : (t : ℕ) (xs ys : List Failure) → AllAt t xs → AllAt t ys → AllAt t (xs ++ ys)
both t [] ys h k = k
both t (x ∷ xs) ys h k = (h.0, both t xs ys h.1 k)

pub unless_at : (t rule : ℕ) (p : Place) (b : Bool) → p.text ≡ t → AllAt t (unless b rule p)
unless_at t rule p true e = tt
unless_at t rule p false e = (e, tt)

repeats_at : (t rule : ℕ) (seen : List ℕ) (ss : List Spot) → SpotsAt t ss → AllAt t (repeats rule seen ss)
repeats_at t rule seen [] h = tt
repeats_at t rule seen (s ∷ ss) h = both t _ _ (unless_at t rule s.place _ h.0) (repeats_at t rule (with_number seen s.name) ss h.1)

spots_at : {A : Type 0} (t : ℕ) (g : A → Ident) (xs : List A) → SpotsAt t (map (λ x. spot_at t (g x)) xs)
spots_at t g [] = tt
spots_at t g (x ∷ xs) = (refl, spots_at t g xs)

sort_at : (t n : ℕ) (p : Place) (s : Sort) → p.text ≡ t → AllAt t (sort_fails s n p)
sort_at t n p Exception e = unless_at t 4 p false e
sort_at t n p (Declared k) e = unless_at t 5 p (nat_eq n k) e
sort_at t n p (Class k) e = unless_at t 4 p false e
sort_at t n p (Routine k) e = unless_at t 4 p false e
sort_at t n p (Iterator k) e = unless_at t 4 p false e

name_at : (t n : ℕ) (p : Place) (r : Referent) → p.text ≡ t → AllAt t (type_name_fails r n p)
name_at t n p referents.Nothing e = unless_at t 4 p false e
name_at t n p (referents.Param k) e = unless_at t 5 p (nat_eq n 0) e
name_at t n p (referents.Item i) e = sort_at t n p i.sort e

mutual
  type_at : (t : ℕ) (items : Items) (v : Visible) (s : TypeSyn) → AllAt t (type_fails items v t s)
  type_at t items v (int_type at) = tt
  type_at t items v (bool_type at) = tt
  type_at t items v (text_type at) = tt
  type_at t items v (array_type at s) = type_at t items v s
  type_at t items v (named_type r ts) = both t _ _ (name_at t (count ts) (place t r.first.at) (meaning items v r) refl) (types_at t items v ts)

  types_at : (t : ℕ) (items : Items) (v : Visible) (ss : TypeSyns) → AllAt t (types_fails items v t ss)
  types_at t items v no_type = tt
  types_at t items v (more_types s ss) = both t _ _ (type_at t items v s) (types_at t items v ss)

gives_at : (t : ℕ) (items : Items) (v : Visible) (g : Option TypeSyn) → AllAt t (gives_fails items v t g)
gives_at t items v None = tt
gives_at t items v (Some s) = type_at t items v s

refs_at : (t : ℕ) (items : Items) (v : Visible) (rs : List RefTree) → AllAt t (refs_fail items v t rs)
refs_at t items v [] = tt
refs_at t items v (r ∷ rs) = both t _ _ (unless_at t 4 (place t r.first.at) _ refl) (refs_at t items v rs)

both_spots : (t : ℕ) (xs ys : List Spot) → SpotsAt t xs → SpotsAt t ys → SpotsAt t (xs ++ ys)
both_spots t [] ys h k = k
both_spots t (x ∷ xs) ys h k = (h.0, both_spots t xs ys h.1 k)

exception_at : (t : ℕ) (o : Option ℕ) (p : Place) → p.text ≡ t → SpotsAt t (exception_spots o p)
exception_at t None p e = tt
exception_at t (Some n) p e = (e, tt)

signal_spots_at : (t : ℕ) (items : Items) (v : Visible) (rs : List RefTree) → SpotsAt t (signal_spots items v t rs)
signal_spots_at t items v [] = tt
signal_spots_at t items v (r ∷ rs) = both_spots t _ _ (exception_at t (exception_of (meaning items v r)) (place t r.first.at) refl) (signal_spots_at t items v rs)

parts_at : (t : ℕ) (items : Items) (v : Visible) (ts : TypeSyns) (g : Option TypeSyn) (rs : List RefTree) → AllAt t (parts_fail items v t ts g rs)
parts_at t items v ts g rs = both t _ _ (types_at t items v ts) (both t _ _ (gives_at t items v g) (both t _ _ (refs_at t items v rs) (repeats_at t 7 [] _ (signal_spots_at t items v rs))))

head_at : (t : ℕ) (items : Items) (v : Visible) (fs : List FormalSyn) (g : Option TypeSyn) (rs : List RefTree) → AllAt t (head_fails items v t fs g rs)
head_at t items v fs g rs = both t _ _ (repeats_at t 3 [] (formal_spots t fs) (spots_at t (λ (f : FormalSyn). f.name) fs)) (parts_at t items v (formal_types fs) g rs)

clauses_at : (t : ℕ) (items : Items) (v : Visible) (cs : List ClauseSyn) → AllAt t (clauses_fail items v t cs)
clauses_at t items v [] = tt
clauses_at t items v (c ∷ cs) = both t _ _ (parts_at t items v c.formals c.gives c.signals) (clauses_at t items v cs)

named_at : (t : ℕ) (items : Items) (v : Visible) (n : NamedSyn) → AllAt t (named_fails items v t n)
named_at t items v n = both t _ _ (name_at t (count n.args) (place t n.item.first.at) (meaning items v n.item) refl) (types_at t items v n.args)

nameds_at : (t : ℕ) (items : Items) (v : Visible) (ns : List NamedSyn) → AllAt t (nameds_fail items v t ns)
nameds_at t items v [] = tt
nameds_at t items v (n ∷ ns) = both t _ _ (named_at t items v n) (nameds_at t items v ns)

sigs_at : (t : ℕ) (items : Items) (v : Visible) (ss : List SigSyn) → AllAt t (sigs_fail items v t ss)
sigs_at t items v [] = tt
sigs_at t items v (s ∷ ss) = both t _ _ (head_at t items v s.formals s.gives s.signals) (sigs_at t items v ss)

declaration_at : (t : ℕ) (items : Items) (v : Visible) (d : TypeDeclSyn) → AllAt t (declaration_fails items v t d)
declaration_at t items v d =
    both t _ _ (repeats_at t 3 [] (spots t d.params) (spots_at t (λ (i : Ident). i) d.params))
    (both t _ _ (nameds_at t items (within v d.params) d.supertypes) (both t _ _ (repeats_at t 3 [] (sig_spots t d.methods) (spots_at t (λ (s : SigSyn). s.name) d.methods)) (sigs_at t items (within v d.params) d.methods)))

class_sort_at : (t n : ℕ) (p : Place) (s : Sort) → p.text ≡ t → AllAt t (class_sort_fails s n p)
class_sort_at t n p Exception e = unless_at t 4 p false e
class_sort_at t n p (Declared k) e = unless_at t 4 p false e
class_sort_at t n p (Class k) e = unless_at t 5 p (nat_eq n k) e
class_sort_at t n p (Routine k) e = unless_at t 4 p false e
class_sort_at t n p (Iterator k) e = unless_at t 4 p false e

class_name_at : (t n : ℕ) (p : Place) (r : Referent) → p.text ≡ t → AllAt t (class_name_fails r n p)
class_name_at t n p referents.Nothing e = unless_at t 4 p false e
class_name_at t n p (referents.Param k) e = unless_at t 4 p false e
class_name_at t n p (referents.Item i) e = class_sort_at t n p i.sort e

inherits_at : (t : ℕ) (items : Items) (v : Visible) (o : Option NamedSyn) → AllAt t (inherits_fails items v t o)
inherits_at t items v None = tt
inherits_at t items v (Some n) = both t _ _ (class_name_at t (count n.args) (place t n.item.first.at) (meaning items v n.item) refl) (types_at t items v n.args)

class_at : (t : ℕ) (items : Items) (v : Visible) (c : InterfaceClassSyn) → AllAt t (class_fails items v t c)
class_at t items v c =
    let w = within v c.head.params in
    both t _ _ (repeats_at t 3 [] (spots t c.head.params) (spots_at t (λ (i : Ident). i) c.head.params))
    (both t _ _ (both t _ _ (named_at t items w c.head.of) (both t _ _ (inherits_at t items w c.head.inherits) (clauses_at t items w c.head.clauses)))
    (both t _ _ (repeats_at t 3 [] (sig_spots t c.hidden) (spots_at t (λ (s : SigSyn). s.name) c.hidden)) (both t _ _ (sigs_at t items w c.hidden) (head_at t items w c.init.formals None c.init.signals))))

routine_at : (t : ℕ) (items : Items) (v : Visible) (r : RoutineHeadSyn) → AllAt t (routine_fails items v t r)
routine_at t items v r =
    let w = within v r.params in
    both t _ _ (repeats_at t 3 [] (spots t r.params) (spots_at t (λ (i : Ident). i) r.params)) (both t _ _ (head_at t items w r.formals r.gives r.signals) (clauses_at t items w r.clauses))

item_at_text : (t : ℕ) (items : Items) (v : Visible) (i : InterfaceItemSyn) → AllAt t (item_fails items v t i)
item_at_text t items v (exception_item e) = gives_at t items (within v []) e.argument
item_at_text t items v (type_item d) = declaration_at t items v d
item_at_text t items v (class_item c) = class_at t items v c
item_at_text t items v (routine_item r) = routine_at t items v r

items_at_text : (t : ℕ) (items : Items) (v : Visible) (is : List InterfaceItemSyn) → AllAt t (items_fail items v t is)
items_at_text t items v [] = tt
items_at_text t items v (i ∷ is) = both t _ _ (item_at_text t items v i) (items_at_text t items v is)

interface_at : (t : ℕ) (items : Items) (f : InterfaceSyn) → AllAt t (interface_fails items t f)
interface_at t items f = both t _ _ (repeats_at t 2 [] (item_spots t f.items) (spots_at t item_name f.items)) (items_at_text t items (visible f) f.items)

in_interfaces : (t : ℕ) (items : Items) (fs : List InterfaceSyn) (g : Failure) → IsIn g (interfaces_fail items t fs) → g.place.text < t + length fs
in_interfaces t items [] g m = absurd m
in_interfaces t items (f ∷ fs) g m = elim (from_append g (interface_fails items t f) (interfaces_fail items (t + 1) fs) m) [
  | inl a ↦ at_head g.place.text t (length fs) (in_at t (interface_fails items t f) g (interface_at t items f) a)
  | inr b ↦ at_tail g.place.text t (length fs) (in_interfaces (t + 1) items fs g b)
]

in_unless : (rule : ℕ) (p : Place) (b : Bool) (g : Failure) → IsIn g (unless b rule p) → g.place ≡ p
in_unless rule p true g m = absurd m
in_unless rule p false g (inl e) = ap (λ (y : Failure). y.place) e
in_unless rule p false g (inr m) = absurd m

in_repeats : (t : ℕ) (seen : List ℕ) (fs : List InterfaceSyn) (g : Failure) → IsIn g (repeats 1 seen (interface_spots t fs)) → g.place.text < t + length fs
in_repeats t seen [] g m = absurd m
in_repeats t seen (f ∷ fs) g m = elim (from_append g (unless (not (has seen f.name.name)) 1 (place t f.name.at)) (repeats 1 (with_number seen f.name.name) (interface_spots (t + 1) fs)) m) [
  | inl a ↦ at_head g.place.text t (length fs) (ap (λ (p : Place). p.text) (in_unless 1 (place t f.name.at) _ g a))
  | inr b ↦ at_tail g.place.text t (length fs) (in_repeats (t + 1) (with_number seen f.name.name) fs g b)
]

in_names : (items : Items) (fs : List InterfaceSyn) (g : Failure) → IsIn g (names_fail items fs) → g.place.text < length fs
in_names items fs g m = elim (from_append g (repeats 1 [] (interface_spots 0 fs)) (interfaces_fail items 0 fs) m) [
  | inl a ↦ from_zero g.place.text (length fs) (in_repeats 0 [] fs g a)
  | inr b ↦ from_zero g.place.text (length fs) (in_interfaces 0 items fs g b)
]

-- the types that interfaces declare stand in these
numbered_at : (o : Option ℕ) (n : ℕ) (p : Place) (ss : List SuperRef) (ws : _) (d : Declaration) → IsIn d (numbered o n p ss ws) → d.place ≡ p
numbered_at None n p ss ws d m = absurd m
numbered_at (Some full) n p ss ws d (inl e) = ap (λ (y : Declaration). y.place) e
numbered_at (Some full) n p ss ws d (inr m) = absurd m

one_declared : (t : ℕ) (items : Items) (v : Visible) (i : InterfaceItemSyn) (d : Declaration) → IsIn d (item_declared items v t i) → d.place.text ≡ t
one_declared t items v (exception_item x) d m = absurd m
one_declared t items v (type_item x) d m = ap (λ (p : Place). p.text) (numbered_at _ _ (place t x.name.at) _ _ d m)
one_declared t items v (class_item x) d m = absurd m
one_declared t items v (routine_item x) d m = absurd m

declared_at : (t : ℕ) (items : Items) (v : Visible) (is : List InterfaceItemSyn) (d : Declaration) → IsIn d (items_declared items v t is) → d.place.text ≡ t
declared_at t items v [] d m = absurd m
declared_at t items v (i ∷ is) d m = elim (from_append d (item_declared items v t i) (items_declared items v t is) m) [
  | inl a ↦ one_declared t items v i d a
  | inr b ↦ declared_at t items v is d b
]

in_declared : (t : ℕ) (items : Items) (fs : List InterfaceSyn) (d : Declaration) → IsIn d (interfaces_declared items t fs) → d.place.text < t + length fs
in_declared t items [] d m = absurd m
in_declared t items (f ∷ fs) d m = elim (from_append d (items_declared items (visible f) t f.items) (interfaces_declared items (t + 1) fs) m) [
  | inl a ↦ at_head d.place.text t (length fs) (declared_at t items (visible f) f.items d a)
  | inr b ↦ at_tail d.place.text t (length fs) (in_declared (t + 1) items fs d b)
]

first_if : (seen : List ℕ) (x : Declaration) (ds : List Declaration) (d : Declaration) (b : Bool) → (IsIn d (firsts seen ds) → IsIn d ds) → (IsIn d (firsts (with_number seen x.name) ds) → IsIn d ds)
    → IsIn d (if b then firsts seen ds else x ∷ firsts (with_number seen x.name) ds) → IsIn d (x ∷ ds)
first_if seen x ds d true same more m = inr (same m)
first_if seen x ds d false same more (inl e) = inl e
first_if seen x ds d false same more (inr m) = inr (more m)

first_is : (seen : List ℕ) (ds : List Declaration) (d : Declaration) → IsIn d (firsts seen ds) → IsIn d ds
first_is seen [] d m = absurd m
first_is seen (x ∷ ds) d m = first_if seen x ds d (has seen x.name) (first_is seen ds d) (first_is (with_number seen x.name) ds d) m

member_at : (t at : ℕ) (seen : List ℕ) (m : Meant) → AllAt t (member_failures t seen at m)
member_at t at seen unresolved = tt
member_at t at seen parameter = (refl, tt)
member_at t at seen (by_head n) = unless_at t 6 (place t at) _ refl
member_at t at seen (whole n args) = unless_at t 6 (place t at) _ refl

list_at : (t : ℕ) (seen : List ℕ) (ss : List SuperRef) → AllAt t (list_failures t seen ss)
list_at t seen [] = tt
list_at t seen (s ∷ ss) = both t _ _ (member_at t s.at seen s.meaning) (list_at t (names_meant s.meaning ++ seen) ss)

-- a failure that is judged first stands in one of the interfaces
pub early_in : (items : Items) (fs : List InterfaceSyn) (g : Failure) → FailsEarly items fs g → g.place.text < length fs
early_in items fs g (inl m) = in_names items fs g m
early_in items fs g (inr (d, i, w)) =
    let b : d.place.text < length fs = from_zero d.place.text (length fs) (in_declared 0 items fs d (first_is [] (interfaces_declared items 0 fs) d i)) in
    elim w [
      | inl m ↦ still g.place.text d.place.text (length fs) (in_at d.place.text (list_failures d.place.text [] d.supertypes) g (list_at d.place.text [] d.supertypes) m) b
      | inr t ↦ still g.place.text d.place.text (length fs) (ap (λ (y : Failure). y.place.text) t.1) b
    ]

-- and so does one of inherited methods
pub late_in : (items : Items) (fs : List InterfaceSyn) (g : Failure) → FailsLate items fs g → g.place.text < length fs
late_in items fs g (d, i, w) =
    let b : d.place.text < length fs = from_zero d.place.text (length fs) (in_declared 0 items fs d (first_is [] (interfaces_declared items 0 fs) d i)) in
    elim w [
      | inl m ↦ still g.place.text d.place.text (length fs) (ap (λ (y : Failure). y.place.text) m.3) b
      | inr t ↦ still g.place.text d.place.text (length fs) (ap (λ (y : Failure). y.place.text) t.1) b
    ]
