-- The interfaces that are kept, and the names that were seen.
use Rattle.std.proofs.Common.{◌≡◌, ℕ, suc, ◌+◌, ◌<◌, ◌≤◌, Bool, true, false, cond, ◌||◌, List, [], ◌∷◌, ◌++◌, map, length, get_or, take, Option, Some, None, is_some, refl, sym, ap, ◌∙◌, subst, append_assoc, append-nil, arith}
use Rattle.std.specs.Prelude.{bytes_eq, flat_map, if◌then◌else◌}
use Rattle.std.specs.HashMap.{HashMap, get_by}
use Rattle.std.proofs.lemmas.List.{map-append, take_more, take_all}
use Rattle.std.proofs.lemmas.Grind.{flat_map-append}
use Rattle.std.proofs.lemmas.Slice.Eq.{bytes_eq-Decides}
use denote.Ref.{Bor}
use Rattle.th_tree.specs.Names.{is_there}
use Rattle.th_units.specs.Units.{or_else, Named}
use Rattle.th_meaning.specs.declared.declared.CoreInterface.{CoreInterface}
use Rattle.th_meaning.specs.declared.declared.CoreModule.{CoreModule}
use Rattle.th_meaning.specs.View.{interface_of, module_of, program_of}
use Rattle.th_meaning.specs.Program.{ProgramInterface, Program}
use Rattle.th_link_counts.specs.Kept.{names_onto, firsts, interfaces_of}
use Rattle.th_link_counts.specs.Seen.{Seen}

turned_if : (a b : List ℕ) (v w : Bool) → bytes_eq a b ≡ v → bytes_eq b a ≡ w → v ≡ w
turned_if a b true true h k = refl
turned_if a b false false h k = refl
turned_if a b true false h k = let e : bytes_eq b a ≡ true = (bytes_eq-Decides b a).1 (sym ((bytes_eq-Decides a b).0 h)) in let d : true ≡ false = sym e ∙ k in cc
turned_if a b false true h k = let e : bytes_eq a b ≡ true = (bytes_eq-Decides a b).1 (sym ((bytes_eq-Decides b a).0 k)) in let d : true ≡ false = sym e ∙ h in cc

turned : (a b : List ℕ) → bytes_eq a b ≡ bytes_eq b a
turned a b = turned_if a b (bytes_eq a b) (bytes_eq b a) refl refl

some_or : {X : Type 0} (x : X) (o : Option X) (b : Bool) → is_some (or_else o (cond b (Some x) None)) ≡ (b || is_some o)
some_or x None true = refl
some_or x None false = refl
some_or x (Some y) true = refl
some_or x (Some y) false = refl

-- one name more was seen
pub seen_more : {X S : Type 0} (names : List (List ℕ)) (n : List ℕ) (x : X) (m l : HashMap (Bor (List ℕ)) X S) → Named n x m l → Seen names m → Seen (n ∷ names) l
seen_more names n x m l named seen = λ q.
    ap is_some (named.names q)
    ∙ some_or x (get_by (λ k. bytes_eq q k.now) m) (bytes_eq n q)
    ∙ ap (λ b. b || is_some (get_by (λ k. bytes_eq q k.now) m)) (turned n q)
    ∙ ap (λ b. bytes_eq q n || b) (seen q)

kept_if : (i : ProgramInterface) (ks : List ProgramInterface) (b v : Bool) → v ≡ b → v ≡ true → ks ≡ ks ++ (if b then [] else i ∷ [])
kept_if i ks true v e h = sym (append-nil ks)
kept_if i ks false v e h = let d : false ≡ true = sym e ∙ h in cc

-- an interface whose name was seen is not kept
pub known_kept : (names : List (List ℕ)) (i : ProgramInterface) (ks : List ProgramInterface) (v : Bool) → v ≡ is_there names i.name → v ≡ true → ks ≡ ks ++ firsts names (i ∷ [])
known_kept names i ks v e h = kept_if i ks (is_there names i.name) v e h

new_if : (i : ProgramInterface) (ks : List ProgramInterface) (b v : Bool) → v ≡ b → v ≡ false → ks ++ i ∷ [] ≡ ks ++ (if b then [] else i ∷ [])
new_if i ks true v e h = let d : true ≡ false = sym e ∙ h in cc
new_if i ks false v e h = refl

-- another one is
pub new_kept : (names : List (List ℕ)) (i : ProgramInterface) (ks : List ProgramInterface) (v : Bool) → v ≡ is_there names i.name → v ≡ false → ks ++ i ∷ [] ≡ ks ++ firsts names (i ∷ [])
new_kept names i ks v e h = new_if i ks (is_there names i.name) v e h

-- interfaces and further ones
pub onto_append : (names : List (List ℕ)) (is js : List ProgramInterface) → names_onto names (is ++ js) ≡ names_onto (names_onto names is) js
onto_append names [] js = refl
onto_append names (i ∷ is) js = onto_append (i.name ∷ names) is js

firsts_if : (i : ProgramInterface) (b : Bool) (all xs ys : List ProgramInterface) → all ≡ xs ++ ys → (if b then all else i ∷ all) ≡ (if b then xs else i ∷ xs) ++ ys
firsts_if i true all xs ys e = e
firsts_if i false all xs ys e = ap (λ zs. i ∷ zs) e

pub firsts_append : (names : List (List ℕ)) (is js : List ProgramInterface) → firsts names (is ++ js) ≡ firsts names is ++ firsts (names_onto names is) js
firsts_append names [] js = refl
firsts_append names (i ∷ is) js =
    firsts_if i (is_there names i.name) (firsts (i.name ∷ names) (is ++ js)) (firsts (i.name ∷ names) is) (firsts (names_onto (i.name ∷ names) is) js) (firsts_append (i.name ∷ names) is js)

one_more : (is : List CoreInterface) (k : ℕ) (i : CoreInterface) → k < length is → i ≡ get_or is k i → map interface_of (take (k + 1) is) ≡ map interface_of (take k is) ++ interface_of i ∷ []
one_more is k i below eq = ap (map interface_of) (take_more is k i below ∙ ap (λ y. take k is ++ y ∷ []) (sym eq)) ∙ map-append interface_of (take k is) (i ∷ [])

-- the names after one interface more
pub onto_more : (names : List (List ℕ)) (is : List CoreInterface) (k : ℕ) (i : CoreInterface) → k < length is → i ≡ get_or is k i
    → names_onto (names_onto names (map interface_of (take k is))) (interface_of i ∷ []) ≡ names_onto names (map interface_of (take (k + 1) is))
onto_more names is k i below eq = sym (ap (names_onto names) (one_more is k i below eq) ∙ onto_append names (map interface_of (take k is)) (interface_of i ∷ []))

-- what is kept after one interface more
pub firsts_more : (names : List (List ℕ)) (before : List ProgramInterface) (is : List CoreInterface) (k : ℕ) (i : CoreInterface) → k < length is → i ≡ get_or is k i
    → (before ++ firsts names (map interface_of (take k is))) ++ firsts (names_onto names (map interface_of (take k is))) (interface_of i ∷ []) ≡ before ++ firsts names (map interface_of (take (k + 1) is))
firsts_more names before is k i below eq =
    append_assoc before (firsts names (map interface_of (take k is))) (firsts (names_onto names (map interface_of (take k is))) (interface_of i ∷ []))
    ∙ ap (λ xs. before ++ xs) (sym (ap (firsts names) (one_more is k i below eq) ∙ firsts_append names (map interface_of (take k is)) (interface_of i ∷ [])))

-- the interfaces that modules keep
abbrev pub all_kept : List CoreModule → List ProgramInterface
all_kept ms = flat_map (λ m. m.interfaces) (program_of ms)

pub all_more : (ms : List CoreModule) (k : ℕ) (m : CoreModule) → k < length ms → m ≡ get_or ms k m → all_kept (take (k + 1) ms) ≡ all_kept (take k ms) ++ map interface_of m.interfaces.items
all_more ms k m below eq =
    ap all_kept (take_more ms k m below ∙ ap (λ y. take k ms ++ y ∷ []) (sym eq))
    ∙ simp (map-append, flat_map-append, append-nil)

-- after the interfaces of one module more
pub module_seen : {S : Type 0} (ms : List CoreModule) (k : ℕ) (m : CoreModule) (l : HashMap (Bor (List ℕ)) Bool S) → k < length ms → m ≡ get_or ms k m
    → Seen (names_onto (names_onto [] (all_kept (take k ms))) (map interface_of m.interfaces.items)) l → Seen (names_onto [] (all_kept (take (k + 1) ms))) l
module_seen ms k m l below eq h =
    subst (λ ns. Seen ns l) (sym (ap (names_onto []) (all_more ms k m below eq) ∙ onto_append [] (all_kept (take k ms)) (map interface_of m.interfaces.items))) h

pub module_kept : (ms : List CoreModule) (k : ℕ) (m : CoreModule) (old new : List ProgramInterface) → k < length ms → m ≡ get_or ms k m → old ≡ interfaces_of (program_of (take k ms))
    → new ≡ old ++ firsts (names_onto [] (all_kept (take k ms))) (map interface_of m.interfaces.items) → new ≡ interfaces_of (program_of (take (k + 1) ms))
module_kept ms k m old new below eq is e =
    e ∙ ap (λ xs. xs ++ firsts (names_onto [] (all_kept (take k ms))) (map interface_of m.interfaces.items)) is
    ∙ sym (ap (firsts []) (all_more ms k m below eq) ∙ firsts_append [] (all_kept (take k ms)) (map interface_of m.interfaces.items))
