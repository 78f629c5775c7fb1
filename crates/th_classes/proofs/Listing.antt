-- Classes that are listed.
use Rattle.std.proofs.Common.{◌≡◌, refl, sym, ap, ◌∙◌, subst, ℕ, zero, suc, ◌+◌, ◌<◌, map, take, length, get_or, append_assoc, append-nil, Bool, true, false, cond, List, [], ◌∷◌, ◌++◌, Option, Some, None, bytes_eq, arith}
use Rattle.std.specs.HashMap.{get_by}
use denote.Ref.{Bor}
use Rattle.std.proofs.lemmas.List.{map-append, length-map, take_more}
use Rattle.std.proofs.lemmas.Grind.{flat_map-append}
use Rattle.th_meaning.specs.declared.declared.CoreClass.{CoreClass}
use Rattle.th_meaning.specs.declared.declared.CoreModule.{CoreModule}
use Rattle.th_meaning.specs.View.{class_of, program_of}
use Rattle.th_meaning.specs.Program.{ProgramClass, classes_of}
use Rattle.th_units.specs.Units.{or_else, number_in, Named}
use Rattle.th_units.proofs.Adding.{number_snoc}
use Rattle.th_classes.specs.declared.list.ClassList.{ClassList}
use Rattle.th_classes.specs.Lists.{Lists}

-- a class is added
pub adds_class : (old new : ClassList) (class : Bor CoreClass) (number : ℕ) (done : List ProgramClass) → new.classes.items ≡ old.classes.items ++ class ∷ [] → number ≡ length old.classes.items
    → Named (class_of class.now).head.name number old.numbers new.numbers → Lists old done → Lists new (done ++ class_of class.now ∷ [])
adds_class old new class number done more is names lists = record {
  classes = ap (map (λ c. class_of c.now)) more ∙ map-append (λ c. class_of c.now) old.classes.items (class ∷ []) ∙ ap (λ xs. xs ++ class_of class.now ∷ []) lists.classes;
  numbers = λ name.
      names.names name
      ∙ ap (λ o. or_else o (cond (bytes_eq (class_of class.now).head.name name) (Some number) None)) (lists.numbers name)
      ∙ ap (λ k. or_else (number_in (λ c. c.head.name) done name) (cond (bytes_eq (class_of class.now).head.name name) (Some k) None))
      (is ∙ sym (length-map old.classes.items (λ c. class_of c.now)) ∙ ap length lists.classes)
      ∙ sym (number_snoc (λ c. c.head.name) done (class_of class.now) name);
}

-- one class more
pub classes_more : (done : List ProgramClass) (cs : List CoreClass) (i : ℕ) (c : CoreClass) → i < length cs → c ≡ get_or cs i c
    → (done ++ map class_of (take i cs)) ++ class_of c ∷ [] ≡ done ++ map class_of (take (i + 1) cs)
classes_more done cs i c below is =
    append_assoc done (map class_of (take i cs)) (class_of c ∷ [])
    ∙ ap (λ x. done ++ x) (sym (map-append class_of (take i cs) (c ∷ [])))
    ∙ ap (λ x. done ++ map class_of (take i cs ++ x ∷ [])) is
    ∙ ap (λ xs. done ++ map class_of xs) (sym (take_more cs i c below))

-- one module's classes more
pub modules_more : (ms : List CoreModule) (i : ℕ) (m : CoreModule) → i < length ms → m ≡ get_or ms i m
    → classes_of (program_of (take i ms)) ++ map class_of m.classes.items ≡ classes_of (program_of (take (i + 1) ms))
modules_more ms i m below is = sym
    (ap (λ xs. classes_of (program_of xs)) (take_more ms i m below)
    ∙ ap (λ x. classes_of (program_of (take i ms ++ x ∷ []))) (sym is)
    ∙ simp (map-append, flat_map-append, append-nil))
