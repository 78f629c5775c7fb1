-- The names of methods and the full names of classes.
use Rattle.std.proofs.Common.{◌≡◌, ℕ, List, [], ◌∷◌, map, refl, ap}
use Rattle.th_type.specs.declared.sig.Sig.{Sig}
use Rattle.th_type.specs.Signatures.{sig_of}
use Rattle.th_contexts.specs.declared.base_row.Base.{Base}
use Rattle.th_contexts.specs.BaseView.{base_of}

pub sigs_mapped : (ss : List Sig) → map (λ s. s.method) (map sig_of ss) ≡ map (λ s. s.method) ss
sigs_mapped [] = refl
sigs_mapped (s ∷ ss) = ap (λ (ns : List ℕ). s.method ∷ ns) (sigs_mapped ss)

pub fulls_mapped : (bs : List Base) → map (λ b. b.full) (map base_of bs) ≡ map (λ b. b.full) bs
fulls_mapped [] = refl
fulls_mapped (b ∷ bs) = ap (λ (ns : List ℕ). b.full ∷ ns) (fulls_mapped bs)
