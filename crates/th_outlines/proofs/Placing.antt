-- The least failure by places among interfaces is the least at their texts.
use Rattle.std.proofs.Common.{◌≡◌, ℕ, zero, suc, ◌<◌, List, [], ◌∷◌, length, slice_get, Option, Some, None, refl, sym, ap, subst, inl, inr, arith}
use Rattle.std.specs.Prelude.{unwrap_or, option_map}
use Rattle.th_type.specs.declared.place.Failure.{Failure}
use Rattle.th_type.specs.Failures.{UpTo, IsLeastOf}
use Rattle.th_type.proofs.Members.{at_in, place_in}
use Rattle.th_outlines.specs.Placing.{placed_in, Placed}
use Rattle.th_program.specs.Programs.{Ascending}

ascending_at : (ns : List ℕ) (i j a b : ℕ) → Ascending ns → i < j → slice_get ns i ≡ Some a → slice_get ns j ≡ Some b → a < b
ascending_at [] i j a b h lt ea eb = absurd (cc)
ascending_at (n ∷ ns) zero zero a b h lt ea eb = absurd (omega arith)
ascending_at (n ∷ ns) zero (suc j) a b h lt ea eb = subst (λ x. x < b) (ap (λ (o : Option ℕ). unwrap_or o n) ea) (h.0 b (at_in b ns j eb))
ascending_at (n ∷ ns) (suc i) zero a b h lt ea eb = absurd (omega arith)
ascending_at (n ∷ ns) (suc i) (suc j) a b h lt ea eb = ascending_at ns i j a b h.1 (omega arith) ea eb

-- what stands first by places among interfaces stands first at their texts
placed_up_to : (texts : List ℕ) (f g : Failure) → Ascending texts → f.place.text < length texts → g.place.text < length texts → UpTo f g → UpTo (placed_in texts f) (placed_in texts g)
placed_up_to texts f g h bf bg u =
    let a = place_in f.place.text texts bf in
    let b = place_in g.place.text texts bg in
    elim u [
      | inl lt ↦ inl (subst (λ x. x < unwrap_or (slice_get texts g.place.text) g.place.text) (sym (ap (λ (o : Option ℕ). unwrap_or o f.place.text) a.1))
          (subst (λ x. a.0 < x) (sym (ap (λ (o : Option ℕ). unwrap_or o g.place.text) b.1)) (ascending_at texts f.place.text g.place.text a.0 b.0 h lt a.1 b.1)))
      | inr r ↦ inr (ap (λ (t : ℕ). unwrap_or (slice_get texts t) t) r.0, r.1)
    ]

pub least_placed : (texts : List ℕ) (P : Failure → Type 0) (o : Option Failure) → Ascending texts → ((g : Failure) → P g → g.place.text < length texts)
    → IsLeastOf P o → IsLeastOf (Placed texts P) (option_map (placed_in texts) o)
least_placed texts P None h below l = λ f w. l w.0 w.1
least_placed texts P (Some m) h below l =
    ((m, l.0, refl), λ f w. subst (λ (x : Failure). UpTo (placed_in texts m) x) (sym w.2) (placed_up_to texts m w.0 h (below m l.0) (below w.0 w.1) (l.1 w.0 w.1)))
