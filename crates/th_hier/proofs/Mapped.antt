-- Names of trees where they stand.
use Rattle.std.proofs.Common.{◌≡◌, ℕ, List, [], ◌∷◌, map, refl, ap}
use Rattle.th_tree.specs.declared.tree.Formal.{Formal}
use Rattle.th_tree.specs.declared.decl.SigTree.{SigTree}
use Rattle.th_tree.specs.declared.decl.InterfaceItem.{InterfaceItem}
use Rattle.th_tree.specs.View.{formal_of}
use Rattle.th_tree.specs.DeclView.{sig_of, interface_item_of}
use Rattle.th_hier.specs.Spots.{spot_at, formal_spots, sig_spots, item_name, item_spots}

pub formals_mapped : (text : ℕ) (fs : List Formal) → formal_spots text (map formal_of fs) ≡ map (λ f. spot_at text f.name) fs
formals_mapped text [] = refl
formals_mapped text (f ∷ fs) = ap (λ ss. spot_at text f.name ∷ ss) (formals_mapped text fs)

pub sigs_mapped : (text : ℕ) (ss : List SigTree) → sig_spots text (map sig_of ss) ≡ map (λ s. spot_at text s.name) ss
sigs_mapped text [] = refl
sigs_mapped text (s ∷ ss) = ap (λ r. spot_at text s.name ∷ r) (sigs_mapped text ss)

pub items_mapped : (text : ℕ) (is : List InterfaceItem) → item_spots text (map interface_item_of is) ≡ map (λ i. spot_at text (item_name (interface_item_of i))) is
items_mapped text [] = refl
items_mapped text (i ∷ is) = ap (λ r. spot_at text (item_name (interface_item_of i)) ∷ r) (items_mapped text is)
