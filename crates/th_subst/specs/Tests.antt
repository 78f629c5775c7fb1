-- Tests of types and signatures.
use Rattle.std.specs.Prelude.{ℕ, Bool, true, false, bytes_eq, ◌&&◌, List, [], ◌∷◌, Option, Some, None}
use Rattle.std.specs.List.{list_any, list_all}
use Rattle.th_meaning.specs.Trees.{TypeTree, Signature}
use Rattle.th_meaning.specs.Weights.{same_type}

-- whether two lists have equal types in order
abbrev pub same_list : List TypeTree → List TypeTree → Bool
same_list [] [] = true
same_list [] (u ∷ us) = false
same_list (t ∷ ts) [] = false
same_list (t ∷ ts) (u ∷ us) = same_type t u && same_list ts us

-- whether both are absent, or equal
abbrev pub same_gives : Option TypeTree → Option TypeTree → Bool
same_gives None None = true
same_gives None (Some u) = false
same_gives (Some t) None = false
same_gives (Some t) (Some u) = same_type t u

-- whether each name of the first list is one of the second
abbrev pub names_within : List (List ℕ) → List (List ℕ) → Bool
names_within xs ys = list_all (λ x. list_any (λ y. bytes_eq y x) ys) xs

-- whether two truth values are equal
abbrev pub same_truth : Bool → Bool → Bool
same_truth true b = b
same_truth false true = false
same_truth false false = true

-- whether the first signature exactly conforms to the second
abbrev pub exactly : Signature → Signature → Bool
exactly s t = same_truth s.iterator t.iterator && (same_list s.formals t.formals && (same_gives s.gives t.gives && names_within s.signals t.signals))

-- the types of the formals of a signature; none where there is no signature
abbrev pub formals_in : Option Signature → List TypeTree
formals_in None = []
formals_in (Some s) = s.formals
