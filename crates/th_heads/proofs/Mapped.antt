-- The names of methods where they stand.
use Rattle.std.proofs.Common.{◌≡◌, ℕ, List, [], ◌∷◌, map, refl, ap}
use Rattle.th_tree.specs.declared.decl.MethodTree.{MethodTree}
use Rattle.th_tree.specs.DeclView.{method_of}
use Rattle.th_hier.specs.Spots.{spot_at, sig_spots}

pub methods_mapped : (text : ℕ) (ms : List MethodTree) → sig_spots text (map (λ m. m.sig) (map method_of ms)) ≡ map (λ m. spot_at text m.sig.name) ms
methods_mapped text [] = refl
methods_mapped text (m ∷ ms) = ap (λ r. spot_at text m.sig.name ∷ r) (methods_mapped text ms)
