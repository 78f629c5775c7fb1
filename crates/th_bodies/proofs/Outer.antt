-- One step along the interfaces of texts.
use Rattle.std.proofs.Common.{◌≡◌, ℕ, ◌<◌, ◌≤◌, ◌+◌, List, length, map, drop, get_or, Option, sym, ap, ◌∙◌}
use Rattle.std.proofs.Math.ListN.{drop_of_length-le}
use Rattle.th_tree.specs.declared.decl.Interface.{Interface}
use Rattle.th_tree.specs.DeclView.{interface_of}
use Rattle.th_tree.specs.Trees.{InterfaceSyn}
use Rattle.th_type.specs.declared.place.Failure.{Failure}
use Rattle.th_type.specs.Failures.{lowest}
use Rattle.th_type.proofs.Least.{lowest_append}
use Rattle.th_hier.specs.Hierarchies.{TypeHierarchy}
use Rattle.th_hier.specs.Texts.{visible}
use Rattle.th_rules.specs.Context.{Item}
use Rattle.th_module_rules.specs.Stages.{Numbered}
use Rattle.th_program.specs.Programs.{with_texts}
use Rattle.th_bodies.specs.Exported.{items_fail_by, interfaces_fail_by}
use Rattle.th_bodies.proofs.Paired.{next_with, none_with}

module _ (table : List (List ℕ)) (h : TypeHierarchy) (items : List Item) (texts : List ℕ) (interfaces : List Interface) where
  abbrev left : ℕ → List (Numbered InterfaceSyn)
  left k = with_texts (drop k texts) (map interface_of (drop k interfaces))

  abbrev fails : List (Numbered InterfaceSyn) → List Failure
  fails is = interfaces_fail_by table h items is

  -- after the next interface
  pub next_outer : (k n : ℕ) (x : Interface) (least new whole : Option Failure) → k < length texts → k < length interfaces → n ≡ get_or texts k n → x ≡ get_or interfaces k x
      → new ≡ lowest least (items_fail_by table h items n (visible (interface_of x)) (interface_of x).items) → lowest least (interfaces_fail_by table h items (left k)) ≡ whole → lowest new (interfaces_fail_by table h items (left (k + 1))) ≡ whole
  next_outer k n x least new whole bn bx en ex e w =
      ap (λ (o : Option Failure). lowest o (fails (left (k + 1)))) e ∙ sym (lowest_append least (items_fail_by table h items n (visible (interface_of x)) (interface_of x).items) (fails (left (k + 1))))
      ∙ ap (λ (is : List (Numbered InterfaceSyn)). lowest least (fails is)) (sym (next_with interface_of texts interfaces k n x bn bx en ex)) ∙ w

  -- where no text or no interface is left
  pub texts_done : (k : ℕ) (least whole : Option Failure) → length texts ≤ k → lowest least (interfaces_fail_by table h items (left k)) ≡ whole → least ≡ whole
  texts_done k least whole long w = sym (ap (λ (ns : List ℕ). lowest least (fails (with_texts ns (map interface_of (drop k interfaces))))) (drop_of_length-le texts long)) ∙ w

  pub interfaces_done : (k : ℕ) (least whole : Option Failure) → length interfaces ≤ k → lowest least (interfaces_fail_by table h items (left k)) ≡ whole → least ≡ whole
  interfaces_done k least whole long w =
      sym (ap (λ (xs : List Interface). lowest least (fails (with_texts (drop k texts) (map interface_of xs)))) (drop_of_length-le interfaces long) ∙ ap (λ (is : List (Numbered InterfaceSyn)). lowest least (fails is)) (none_with (drop k texts)))
      ∙ w
