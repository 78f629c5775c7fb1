-- Modules that are made of what they have in common are the checked modules.
use Rattle.std.proofs.Common.{◌≡◌, ℕ, suc, Bool, true, false, List, [], ◌∷◌, ◌++◌, map, filter, length, Option, None, Some, refl, sym, ap, ◌∙◌, subst, inl, inr, if◌then◌else◌}
use Rattle.std.specs.Global.{Vec}
use Rattle.std.proofs.lemmas.List.{length-map}
use Rattle.th_tree.specs.declared.decl.Interface.{Interface}
use Rattle.th_tree.specs.declared.decl.Module.{Module}
use Rattle.th_tree.specs.DeclView.{interface_of, module_of}
use Rattle.th_tree.specs.Spans.{Tokenized}
use Rattle.th_tree.specs.Trees.{ClassSyn, InterfaceSyn, ModuleItemSyn, module_class, module_routine, ModuleSyn}
use Rattle.th_type.specs.declared.place.Place.{Place}
use Rattle.th_type.specs.Failures.{IsLeastOf}
use Rattle.th_type.specs.Lists.{IsIn}
use Rattle.th_hier.specs.Hierarchies.{TypeHierarchy}
use Rattle.th_hier.specs.Naming.{has, different}
use Rattle.th_meaning.specs.declared.declared.CoreUnit.{CoreUnit}
use Rattle.th_meaning.specs.Program.{ProgramInterface, ProgramClass, ProgramModule, ProgramUnit}
use Rattle.th_meaning.specs.View.{unit_of}
use Rattle.th_rules.specs.Context.{Item, find_item}
use Rattle.th_module_rules.specs.Own.{implemented}
use Rattle.th_module_rules.specs.Stages.{Numbered, Program, FailsFirst, hierarchy_in, interface_trees}
use Rattle.th_module_rules.specs.Units.{module_units}
use Rattle.th_scope.specs.View.{items_of}
use Rattle.th_contexts.specs.declared.known.Known.{Known}
use Rattle.th_program.specs.Programs.{program, with_texts}
use Rattle.th_bodies.specs.Bodies.{UnitsOf, judged_in}
use Rattle.th_checked.specs.Checked.{AreChecked, AreNamed, IsChecked, checked_interface, class_text, core_classes, found_class, head_text, item_classes}
use Rattle.th_checked.specs.Made.{AllMade, IsMade, NamedAre, all_chosen, own_interface, text_by}
use Rattle.th_checked.specs.Noting.{Places, with_all}
use Rattle.th_checked.specs.Reaching.{tree_names}
use Rattle.th_checked.proofs.Apart.{Apart, different_as, names_apart}
use Rattle.th_checked.proofs.Named.{names_reached, reached_names, tree_in}
use Rattle.th_checked.proofs.Noting.{places_are}
use Rattle.th_checked.proofs.Owning.{own_interface_is}
use Rattle.th_checked.proofs.Pairing.{trees_are, with_count}

-- classes with the same texts of heads
same_item : (table : List (List ℕ)) (f g : ClassSyn → List ℕ) (known : List Item) (i : ModuleItemSyn) → ((c : ClassSyn) → f c ≡ g c) → item_classes table f known i ≡ item_classes table g known i
same_item table f g known (module_class c) h = ap (λ (text : List ℕ). found_class table text c (find_item known None c.head.name.name)) (h c)
same_item table f g known (module_routine r) h = refl

same_classes : (table : List (List ℕ)) (f g : ClassSyn → List ℕ) (known : List Item) (is : List ModuleItemSyn) → ((c : ClassSyn) → f c ≡ g c) → core_classes table f known is ≡ core_classes table g known is
same_classes table f g known [] h = refl
same_classes table f g known (i ∷ is) h =
    ap (λ (cs : List ProgramClass). cs ++ core_classes table f known is) (same_item table f g known i h)
    ∙ ap (λ (cs : List ProgramClass). item_classes table g known i ++ cs) (same_classes table f g known is h)

module _ (p : Program) (xs : List Tokenized) (apart : Apart (tree_names (interface_trees p))) where
  abbrev h : TypeHierarchy
  h = hierarchy_in p

  own_is : (i : Numbered InterfaceSyn) → IsIn i p.interfaces → own_interface p.table h xs i.text i.tree ≡ checked_interface p xs i
  own_is i here = own_interface_is p.table h.types h.items (interface_trees p) i.tree _ apart (tree_in p.interfaces i here)

  chosen_by : (named : List ℕ) (i : Numbered InterfaceSyn) (is : List (Numbered InterfaceSyn)) (b : Bool) → IsIn i p.interfaces
      → all_chosen p.table h xs named is ≡ map (checked_interface p xs) (filter (λ j. has named j.tree.name.name) is)
      → (if b then own_interface p.table h xs i.text i.tree ∷ [] else []) ++ all_chosen p.table h xs named is
      ≡ map (checked_interface p xs) (if b then i ∷ filter (λ j. has named j.tree.name.name) is else filter (λ j. has named j.tree.name.name) is)
  chosen_by named i is true here rest = ap (λ (c : ProgramInterface). c ∷ all_chosen p.table h xs named is) (own_is i here) ∙ ap (λ (cs : List ProgramInterface). checked_interface p xs i ∷ cs) rest
  chosen_by named i is false here rest = rest

  -- the interfaces that are chosen by their names
  chosen_are : (named : List ℕ) (is : List (Numbered InterfaceSyn)) → ((i : Numbered InterfaceSyn) → IsIn i is → IsIn i p.interfaces)
      → all_chosen p.table h xs named is ≡ map (checked_interface p xs) (filter (λ i. has named i.tree.name.name) is)
  chosen_are named [] here = refl
  chosen_are named (i ∷ is) here = chosen_by named i is (has named i.tree.name.name) (here i (inl refl)) (chosen_are named is (λ j m. here j (inr m)))

  named_are : (m : ModuleSyn) (cs : List ProgramInterface) → NamedAre p.table h xs p.interfaces (interface_trees p) m cs → AreNamed p xs m cs
  named_are m cs made = (
    has made.0,
    λ n. (λ t. reached_names p.interfaces m apart n ((made.1 n).0 t), λ s. (made.1 n).1 (names_reached p.interfaces m apart n s)),
    made.2 ∙ chosen_are made.0 p.interfaces (λ i m. m),
  )

  abbrev Made : Numbered ModuleSyn → List Item → List ProgramUnit → ProgramModule → Type 0
  Made m known us c = IsMade p.table h xs xs p.interfaces (interface_trees p) (with_all [] p.interfaces) m.text m.tree known us c

  texts_are : (m : Numbered ModuleSyn) (c : ClassSyn) → text_by p.table h xs (with_all [] p.interfaces) m.text (implemented m.tree) c ≡ class_text p xs m c
  texts_are m c =
      ap (λ (d : Option Place). head_text p.table h.items xs m.text (implemented m.tree) d c.head) (places_are p.interfaces (implemented m.tree) c.head.name.name)

  -- one module
  checked : (m : Numbered ModuleSyn) (known : List Item) (us : List ProgramUnit) (c : ProgramModule) → Made m known us c
      → known ≡ (judged_in p m).items → module_units (judged_in p m) ≡ Some us → IsChecked p xs m c
  checked m known us c made items units = record {
    name = made.name;
    interfaces = named_are m.tree c.interfaces made.interfaces;
    classes = made.classes ∙ same_classes p.table (text_by p.table h xs (with_all [] p.interfaces) m.text (implemented m.tree)) (class_text p xs m) known m.tree.items (texts_are m)
        ∙ ap (λ (k : List Item). core_classes p.table (class_text p xs m) k m.tree.items) items;
    units = units ∙ ap Some (sym made.units);
  }

  -- all modules
  pub all_checked : (ms : List (Numbered ModuleSyn)) (uss : List (Vec CoreUnit)) (ks : List Known) (cs : List ProgramModule) → UnitsOf p ms uss ks
      → AllMade p.table h xs xs p.interfaces (interface_trees p) (with_all [] p.interfaces) ms (map (λ k. items_of k.items) ks) (map (λ u. map unit_of u.items) uss) cs → AreChecked p xs ms cs
  all_checked [] [] [] [] us made = tt
  all_checked [] [] [] (c ∷ cs) us made = absurd made
  all_checked [] [] (k ∷ ks) cs us made = absurd us
  all_checked [] (u ∷ uss) ks cs us made = absurd us
  all_checked (m ∷ ms) [] ks cs us made = absurd us
  all_checked (m ∷ ms) (u ∷ uss) [] cs us made = absurd us
  all_checked (m ∷ ms) (u ∷ uss) (k ∷ ks) [] us made = absurd made
  all_checked (m ∷ ms) (u ∷ uss) (k ∷ ks) (c ∷ cs) us made =
      (checked m (items_of k.items) (map unit_of u.items) c made.0 us.1 us.0, all_checked ms uss ks cs us.2 made.1)

-- as many units and as many known items as modules
pub units_count : (p : Program) (ms : List (Numbered ModuleSyn)) (uss : List (Vec CoreUnit)) (ks : List Known) → UnitsOf p ms uss ks → (length uss ≡ length ms) × (length ks ≡ length ms)
units_count p [] [] [] us = (refl, refl)
units_count p [] [] (k ∷ ks) us = absurd us
units_count p [] (u ∷ uss) ks us = absurd us
units_count p (m ∷ ms) [] ks us = absurd us
units_count p (m ∷ ms) (u ∷ uss) [] us = absurd us
units_count p (m ∷ ms) (u ∷ uss) (k ∷ ks) us = let r = units_count p ms uss ks us.2 in (ap suc r.0, ap suc r.1)

module _ (table : List (List ℕ)) (its mts : List ℕ) (fs : List Interface) (ms : List Module) where
  abbrev trees : Program
  trees = program table its (map interface_of fs) mts (map module_of ms)

  abbrev its_trees : List (Numbered InterfaceSyn)
  its_trees = with_texts its (map interface_of fs)

  abbrev mts_trees : List (Numbered ModuleSyn)
  mts_trees = with_texts mts (map module_of ms)

  interfaces_are : length its ≡ length fs → interface_trees trees ≡ map interface_of fs
  interfaces_are paired = trees_are its (map interface_of fs) (paired ∙ sym (length-map fs interface_of))

  -- the modules that are made of a program's trees are its checked modules
  pub checked_are : (h : TypeHierarchy) (xs hs : List Tokenized) (places : Places) (known : List Known) (units : List (Vec CoreUnit)) (cs : List ProgramModule)
      → length its ≡ length fs → h ≡ hierarchy_in trees → IsLeastOf (FailsFirst trees) None → UnitsOf trees mts_trees units known → hs ≡ xs → places ≡ with_all [] its_trees
      → AllMade table h xs hs its_trees (map interface_of fs) places mts_trees (map (λ k. items_of k.items) known) (map (λ u. map unit_of u.items) units) cs
      → AreChecked trees xs mts_trees cs
  checked_are h xs hs places known units cs paired eh first us es ep made =
      all_checked trees xs (names_apart trees first) mts_trees units known cs us
      (subst (λ (gs : List InterfaceSyn). Made (hierarchy_in trees) xs gs (with_all [] its_trees)) (sym (interfaces_are paired))
      (subst (λ (q : Places). Made (hierarchy_in trees) xs (map interface_of fs) q) ep
      (subst (λ (ys : List Tokenized). Made (hierarchy_in trees) ys (map interface_of fs) places) es
      (subst (λ (g : TypeHierarchy). Made g hs (map interface_of fs) places) eh made))))
    where
      Made : TypeHierarchy → List Tokenized → List InterfaceSyn → Places → Type 0
      Made g ys gs q = AllMade table g xs ys its_trees gs q mts_trees (map (λ k. items_of k.items) known) (map (λ u. map unit_of u.items) units) cs

  -- the names of interfaces, each once
  pub names_as : (found : List ℕ) → length its ≡ length fs → IsLeastOf (FailsFirst trees) None → found ≡ different (tree_names (map interface_of fs)) → found ≡ tree_names (map interface_of fs)
  names_as found paired first e =
      e ∙ different_as (tree_names (map interface_of fs)) (subst (λ (gs : List InterfaceSyn). Apart (tree_names gs)) (interfaces_are paired) (names_apart trees first))

  -- as many units and as many known items as modules
  pub bodies_count : (units : List (Vec CoreUnit)) (known : List Known) → length mts ≡ length ms → UnitsOf trees mts_trees units known → (length units ≡ length ms) × (length known ≡ length ms)
  bodies_count units known paired us =
      let r = units_count trees mts_trees units known us in
      let n = with_count mts (map module_of ms) (paired ∙ sym (length-map ms module_of)) ∙ length-map ms module_of in (r.0 ∙ n, r.1 ∙ n)
