-- Trees have one checked module each.
use Rattle.std.proofs.Common.{◌≡◌, ◌∙◌, ℕ, Bool, true, false, List, [], ◌∷◌, Some, map, refl, sym, ap}
use Rattle.std.proofs.lemmas.List.Elements.{filter_agree}
use Rattle.th_tree.specs.Spans.{Tokenized}
use Rattle.th_tree.specs.Trees.{InterfaceSyn, ModuleSyn}
use Rattle.th_meaning.specs.Program.{ProgramClass, ProgramInterface, ProgramModule, ProgramUnit}
use Rattle.th_module_rules.specs.Stages.{Numbered, Program}
use Rattle.th_checked.specs.Checked.{AreChecked, AreNamed, IsChecked, checked_interface}

same_test : (b c : Bool) → (b ≡ true → c ≡ true) → (c ≡ true → b ≡ true) → b ≡ c
same_test true c f g = sym (f refl)
same_test false true f g = g refl
same_test false false f g = refl

-- a module names the same interfaces
same_named : (p : Program) (xs : List Tokenized) (m : ModuleSyn) (is js : List ProgramInterface) → AreNamed p xs m is → AreNamed p xs m js → is ≡ js
same_named p xs m is js (f, e, h) (g, d, k) =
    h ∙ ap (λ (ns : List (Numbered InterfaceSyn)). map (checked_interface p xs) ns)
    (filter_agree (λ (i : Numbered InterfaceSyn). f i.tree.name.name) (λ (i : Numbered InterfaceSyn). g i.tree.name.name)
    (λ i. same_test (f i.tree.name.name) (g i.tree.name.name) (λ a. (d i.tree.name.name).1 ((e i.tree.name.name).0 a)) (λ a. (e i.tree.name.name).1 ((d i.tree.name.name).0 a))) p.interfaces)
    ∙ sym k

abbrev make : List ℕ → List ProgramInterface → List ProgramClass → List ProgramUnit → ProgramModule
make n is cs us = record { name = n; interfaces = is; classes = cs; units = us }

one_checked : (p : Program) (xs : List Tokenized) (m : Numbered ModuleSyn) (c d : ProgramModule) → IsChecked p xs m c → IsChecked p xs m d → c ≡ d
one_checked p xs m c d h k =
    let n : c.name ≡ d.name = h.name ∙ sym k.name in
    let i : c.interfaces ≡ d.interfaces = same_named p xs m.tree c.interfaces d.interfaces h.interfaces k.interfaces in
    let l : c.classes ≡ d.classes = h.classes ∙ sym k.classes in
    let s : Some c.units ≡ Some d.units = sym h.units ∙ k.units in
    let u : c.units ≡ d.units = cc s in
    ap (λ (x : List ℕ). make x c.interfaces c.classes c.units) n ∙ ap (λ (x : List ProgramInterface). make d.name x c.classes c.units) i
    ∙ ap (λ (x : List ProgramClass). make d.name d.interfaces x c.units) l ∙ ap (λ (x : List ProgramUnit). make d.name d.interfaces d.classes x) u

pub same_checked : (p : Program) (xs : List Tokenized) (ms : List (Numbered ModuleSyn)) (cs ds : List ProgramModule) → AreChecked p xs ms cs → AreChecked p xs ms ds → cs ≡ ds
same_checked p xs [] [] [] a b = refl
same_checked p xs [] [] (d ∷ ds) a b = absurd b
same_checked p xs [] (c ∷ cs) ds a b = absurd a
same_checked p xs (m ∷ ms) [] ds a b = absurd a
same_checked p xs (m ∷ ms) (c ∷ cs) [] a b = absurd b
same_checked p xs (m ∷ ms) (c ∷ cs) (d ∷ ds) a b =
    ap (λ (x : ProgramModule). x ∷ cs) (one_checked p xs m c d a.0 b.0) ∙ ap (λ (es : List ProgramModule). d ∷ es) (same_checked p xs ms cs ds a.1 b.1)
