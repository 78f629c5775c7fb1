-- Declared types that are added to a table.
use Rattle.std.proofs.Common.{◌≡◌, refl, sym, ap, ◌∙◌, ℕ, ◌+◌, ◌<◌, map, take, length, get_or, append_assoc, append-nil, length-append, Bool, true, false, cond, List, [], ◌∷◌, ◌++◌, Option, Some, None, option_map, bytes_eq, flat_map}
use Rattle.std.specs.List.{find}
use Rattle.std.specs.HashMap.{get_by}
use denote.Ref.{Bor}
use Rattle.std.proofs.lemmas.List.{map-append, take_more}
use Rattle.std.proofs.lemmas.Grind.{flat_map-append}
use Rattle.th_meaning.specs.declared.declared.CoreTypeDecl.{CoreTypeDecl}
use Rattle.th_meaning.specs.declared.declared.CoreInterface.{CoreInterface}
use Rattle.th_meaning.specs.declared.declared.CoreModule.{CoreModule}
use Rattle.th_meaning.specs.View.{type_decl_of, interface_of, program_of}
use Rattle.th_meaning.specs.Program.{TypeDecl, types_of_program}
use Rattle.th_units.specs.Units.{or_else, Named}
use Rattle.th_classes.proofs.Rowing.{find_snoc}
use Rattle.th_weights.specs.declared.table.TypeTable.{TypeTable}
use Rattle.th_weights.specs.Types.{HoldsTypes}

map_or_else : {A B : Type 0} → (f : A → B) (a : Option A) (b : Bool) (x : A) → option_map f (or_else a (cond b (Some x) None)) ≡ or_else (option_map f a) (cond b (Some (f x)) None)
map_or_else f None true x = refl
map_or_else f None false x = refl
map_or_else f (Some y) b x = refl

-- a type is added
pub adds_type : (old new : TypeTable) (x : Bor CoreTypeDecl) (name : List ℕ) (done : List TypeDecl) → new.count ≡ old.count + 1 → name ≡ x.now.name → Named name x old.types new.types
    → HoldsTypes old done → HoldsTypes new (done ++ type_decl_of x.now ∷ [])
adds_type old new x name done counts is named holds = record {
  count = counts ∙ ap (λ n. n + 1) holds.count ∙ sym (length-append done (type_decl_of x.now ∷ []));
  types = λ q.
      ap (option_map (λ d. type_decl_of d.now)) (named.names q)
      ∙ map_or_else (λ d. type_decl_of d.now) (get_by (λ k. bytes_eq q k.now) old.types) (bytes_eq name q) x
      ∙ ap (λ o. or_else o (cond (bytes_eq name q) (Some (type_decl_of x.now)) None)) (holds.types q)
      ∙ ap (λ n. or_else (find (λ t. bytes_eq t.name q) done) (cond (bytes_eq n q) (Some (type_decl_of x.now)) None)) is
      ∙ sym (find_snoc (λ t. bytes_eq t.name q) done (type_decl_of x.now));
}

-- one type more
pub types_more : (done : List TypeDecl) (ts : List CoreTypeDecl) (i : ℕ) (x : CoreTypeDecl) → i < length ts → x ≡ get_or ts i x
    → (done ++ map type_decl_of (take i ts)) ++ type_decl_of x ∷ [] ≡ done ++ map type_decl_of (take (i + 1) ts)
types_more done ts i x below is =
    append_assoc done (map type_decl_of (take i ts)) (type_decl_of x ∷ [])
    ∙ ap (λ y. done ++ y) (sym (map-append type_decl_of (take i ts) (x ∷ [])))
    ∙ ap (λ y. done ++ map type_decl_of (take i ts ++ y ∷ [])) is
    ∙ ap (λ xs. done ++ map type_decl_of xs) (sym (take_more ts i x below))

-- the types of one interface more
pub interfaces_more : (done : List TypeDecl) (is : List CoreInterface) (i : ℕ) (x : CoreInterface) → i < length is → x ≡ get_or is i x
    → (done ++ flat_map (λ y. y.types) (map interface_of (take i is))) ++ map type_decl_of x.types.items ≡ done ++ flat_map (λ y. y.types) (map interface_of (take (i + 1) is))
interfaces_more done is i x below there = sym
    (ap (λ xs. done ++ flat_map (λ y. y.types) (map interface_of xs)) (take_more is i x below)
    ∙ ap (λ y. done ++ flat_map (λ z. z.types) (map interface_of (take i is ++ y ∷ []))) (sym there)
    ∙ simp (map-append, flat_map-append, append-nil, append_assoc))

-- the types of one module more
pub modules_more : (ms : List CoreModule) (i : ℕ) (m : CoreModule) → i < length ms → m ≡ get_or ms i m
    → types_of_program (program_of (take i ms)) ++ flat_map (λ y. y.types) (map interface_of m.interfaces.items) ≡ types_of_program (program_of (take (i + 1) ms))
modules_more ms i m below is = sym
    (ap (λ xs. types_of_program (program_of xs)) (take_more ms i m below)
    ∙ ap (λ x. types_of_program (program_of (take i ms ++ x ∷ []))) (sym is)
    ∙ simp (map-append, flat_map-append, append-nil))
