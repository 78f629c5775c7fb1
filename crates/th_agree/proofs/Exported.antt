-- What is kept of exported names that no module defines.
use Rattle.std.proofs.Common.{◌≡◌, ℕ, ◌+◌, ◌<◌, List, [], ◌∷◌, ◌++◌, length, get_or, take, map, Option, sym, ap, ◌∙◌, bytes_eq}
use Rattle.std.specs.Prelude.{flat_map, is_none}
use Rattle.std.specs.HashMap.{HashMap, get_by}
use Rattle.std.proofs.lemmas.List.{take_more, map-append}
use Rattle.std.proofs.lemmas.List.Elements.{filter-append}
use Rattle.std.proofs.lemmas.Grind.{flat_map-append}
use denote.Ref.{Bor}
use Rattle.th_meaning.specs.declared.declared.CoreInterface.{CoreInterface}
use Rattle.th_meaning.specs.declared.declared.CoreClassDecl.{CoreClassDecl}
use Rattle.th_meaning.specs.declared.declared.CoreRoutineDecl.{CoreRoutineDecl}
use Rattle.th_meaning.specs.declared.declared.CoreModule.{CoreModule}
use Rattle.th_meaning.specs.View.{class_decl_of, routine_decl_of, interface_of, program_of}
use Rattle.th_agree.specs.Names.{least_of}
use Rattle.th_agree.specs.Agree.{exported, kept_interfaces}
use Rattle.th_agree.specs.Noted.{lacks}
use Rattle.th_agree.proofs.LeastNames.{least_append}

lacks_append : {X S : Type 0} → (m : HashMap (Bor (List ℕ)) X S) (xs ys : List (List ℕ)) → lacks m (xs ++ ys) ≡ lacks m xs ++ lacks m ys
lacks_append m xs ys = filter-append (λ n. is_none (get_by (λ k. bytes_eq n k.now) m)) xs ys

-- the least of two lists, one after the other
pub kept_two : {X S : Type 0} → (m : HashMap (Bor (List ℕ)) X S) (xs ys : List (List ℕ)) (o r s : Option (List ℕ)) → r ≡ least_of o (lacks m xs) → s ≡ least_of r (lacks m ys)
    → s ≡ least_of o (lacks m (xs ++ ys))
kept_two m xs ys o r s h k =
    k ∙ ap (λ x. least_of x (lacks m ys)) h ∙ sym (least_append o (lacks m xs) (lacks m ys)) ∙ ap (least_of o) (sym (lacks_append m xs ys))

-- one item more
pub kept_more : {A X S : Type 0} → (names : List A → List (List ℕ)) (parts : (xs ys : List A) → names (xs ++ ys) ≡ names xs ++ names ys) (m : HashMap (Bor (List ℕ)) X S)
    (xs : List A) (i : ℕ) (x : A) (o r s : Option (List ℕ)) → i < length xs → x ≡ get_or xs i x → r ≡ least_of o (lacks m (names (take i xs))) → s ≡ least_of r (lacks m (names (x ∷ [])))
    → s ≡ least_of o (lacks m (names (take (i + 1) xs)))
kept_more names parts m xs i x o r s below is h k =
    kept_two m (names (take i xs)) (names (x ∷ [])) o r s h k
    ∙ ap (λ ns. least_of o (lacks m ns))
    (sym (parts (take i xs) (x ∷ [])) ∙ ap (λ y. names (take i xs ++ y ∷ [])) is ∙ ap names (sym (take_more xs i x below)))

pub class_names_parts : (xs ys : List CoreClassDecl) → map (λ d. d.head.name) (map class_decl_of (xs ++ ys)) ≡ map (λ d. d.head.name) (map class_decl_of xs) ++ map (λ d. d.head.name) (map class_decl_of ys)
class_names_parts xs ys = simp map-append

pub routine_names_parts : (xs ys : List CoreRoutineDecl) → map (λ d. d.name) (map routine_decl_of (xs ++ ys)) ≡ map (λ d. d.name) (map routine_decl_of xs) ++ map (λ d. d.name) (map routine_decl_of ys)
routine_names_parts xs ys = simp map-append

pub interface_parts : (xs ys : List CoreInterface) → flat_map exported (map interface_of (xs ++ ys)) ≡ flat_map exported (map interface_of xs) ++ flat_map exported (map interface_of ys)
interface_parts xs ys = simp (map-append, flat_map-append)

pub program_parts : (xs ys : List CoreModule) → flat_map exported (kept_interfaces (program_of (xs ++ ys))) ≡ flat_map exported (kept_interfaces (program_of xs)) ++ flat_map exported (kept_interfaces (program_of ys))
program_parts xs ys = simp (map-append, flat_map-append)
