-- What is kept of failures in parts is the least of all of them.
use Rattle.std.proofs.Common.{◌≡◌, ℕ, ◌<◌, ◌+◌, length, get_or, drop, map, List, [], ◌∷◌, ◌++◌, Option, Some, None, refl, sym, ap, subst, ◌⊎◌, inl, inr, arith}
use Rattle.std.specs.Prelude.{unwrap_or}
use Rattle.th_tree.specs.Trees.{ModuleSyn}
use Rattle.th_type.specs.declared.place.Failure.{Failure}
use Rattle.th_type.specs.Failures.{lower, lowest, UpTo, IsLeastOf}
use Rattle.th_type.proofs.Least.{least_alike, least_lower}
use Rattle.th_hier.specs.Naming.{Items}
use Rattle.th_module_rules.specs.Inheriting.{ClassRow, module_rows, InheritingFails}
use Rattle.th_module_rules.specs.Stages.{Numbered, numbered}
use Rattle.th_program.specs.Programs.{with_texts}
use Rattle.th_outlines.specs.Placing.{of_option}
use Rattle.th_outlines.specs.Stages.{KeepsLeast, OwnFails}
use Rattle.th_outlines.proofs.Pairing.{next_with}

up_to_trans : (f g h : Failure) → UpTo f g → UpTo g h → UpTo f h
up_to_trans f g h a b = grind arith

same_some : (f g : Failure) → Some f ≡ Some g → f ≡ g
same_some f g e = ap (λ (o : Option Failure). unwrap_or o f) e

not_some : (g : Failure) → None ≡ Some g → ⊥
not_some g e = absurd (cc)

-- what is least of a collection and then of another
pub least_after : (P R : Failure → Type 0) (o new : Option Failure) → IsLeastOf P o → KeepsLeast o R new → IsLeastOf (λ f. P f ⊎ R f) new
least_after P R None new h k =
    least_alike (λ f. (None ≡ Some f) ⊎ R f) (λ f. P f ⊎ R f) new
    (λ g q. elim q [ inl e ↦ absurd (not_some g e) | inr r ↦ inr r ])
    (λ g q. elim q [ inl p ↦ absurd (h g p) | inr r ↦ inr r ]) k
least_after P R (Some m) None h k = absurd (k m (inl refl))
least_after P R (Some m) (Some n) h k = (
  elim k.0 [ inl e ↦ inl (subst P (same_some m n e) h.0) | inr r ↦ inr r ],
  λ g q. elim q [ inl p ↦ up_to_trans n m g (k.1 m (inl refl)) (h.1 g p) | inr r ↦ k.1 g (inr r) ],
)

least_two : (P Q : Failure → Type 0) (m : Failure) (new : Option Failure) → IsLeastOf Q (Some m) → IsLeastOf (λ g. P g ⊎ (g ≡ m)) new → IsLeastOf (λ f. P f ⊎ Q f) new
least_two P Q m None k h = absurd (h m (inr refl))
least_two P Q m (Some n) k h = (
  elim h.0 [ inl p ↦ inl p | inr e ↦ inr (subst Q (sym e) k.0) ],
  λ g q. elim q [ inl p ↦ h.1 g (inl p) | inr r ↦ up_to_trans n m g (h.1 m (inr refl)) (k.1 g r) ],
)

-- the failure that is kept, with one that was found
pub least_found : (P Q : Failure → Type 0) (o q : Option Failure) → IsLeastOf P o → IsLeastOf Q q → IsLeastOf (λ f. P f ⊎ Q f) (lowest o (of_option q))
least_found P Q o None h k = least_alike P (λ f. P f ⊎ Q f) o (λ g p. inl p) (λ g q. elim q [ inl p ↦ p | inr r ↦ absurd (k g r) ]) h
least_found P Q o (Some m) h k = least_two P Q m (lower o m) k (least_lower P o m h)

least_self : (o : Option Failure) → IsLeastOf (λ f. o ≡ Some f) o
least_self None = not_some
least_self (Some m) = (refl, λ g e. subst (λ (x : Failure). UpTo m x) (same_some m g e) (inr (refl, inr (refl, omega arith))))

-- no module is left
pub none_left : (table : List (List ℕ)) (fulls : List ℕ) (items : Items) (rows : List ClassRow) (o : Option Failure) → KeepsLeast o (OwnFails table fulls items rows []) o
none_left table fulls items rows o =
    least_alike (λ f. o ≡ Some f) (λ f. (o ≡ Some f) ⊎ OwnFails table fulls items rows [] f) o
    (λ g e. inl e) (λ g q. elim q [ inl e ↦ e | inr w ↦ absurd (w.1) ]) (least_self o)

-- with the failures of a module before those of the others
pub next_least : (table : List (List ℕ)) (fulls : List ℕ) (items : Items) (rows : List ClassRow) (m : Numbered ModuleSyn) (ms : List (Numbered ModuleSyn)) (o q next new : Option Failure)
    → IsLeastOf (InheritingFails fulls (module_rows table items m.text m.tree ++ rows) (module_rows table items m.text m.tree)) q → next ≡ lowest o (of_option q)
    → KeepsLeast next (OwnFails table fulls items rows ms) new → KeepsLeast o (OwnFails table fulls items rows (m ∷ ms)) new
next_least table fulls items rows m ms o q next new here is left =
    let Q : Failure → Type 0 = InheritingFails fulls (module_rows table items m.text m.tree ++ rows) (module_rows table items m.text m.tree) in
    let R : Failure → Type 0 = OwnFails table fulls items rows ms in
    least_alike (λ f. ((o ≡ Some f) ⊎ Q f) ⊎ R f) (λ f. (o ≡ Some f) ⊎ OwnFails table fulls items rows (m ∷ ms) f) new
    (λ g w. elim w [ inl a ↦ elim a [ inl e ↦ inl e | inr x ↦ inr (m, inl refl, x) ] | inr r ↦ inr (r.0, inr r.1, r.2) ])
    (λ g w. elim w [
      | inl e ↦ inl (inl e)
      | inr r ↦ elim r.1 [
        | inl s ↦ inl (inr (subst (λ (x : Numbered ModuleSyn). InheritingFails fulls (module_rows table items x.text x.tree ++ rows) (module_rows table items x.text x.tree) g) s r.2))
        | inr i ↦ inr (r.0, i, r.2)
      ]
    ])
    (least_after (λ f. (o ≡ Some f) ⊎ Q f) R (lowest o (of_option q)) new (least_found (λ f. o ≡ Some f) Q o q (least_self o) here) (subst (λ (x : Option Failure). KeepsLeast x R new) is left))

-- the same, where the modules that are left and their texts stand in lists
pub next_own : {A : Type 0} (f : A → ModuleSyn) (table : List (List ℕ)) (fulls : List ℕ) (items : Items) (rows : List ClassRow) (ns : List ℕ) (xs : List A) (k : ℕ) (x : A) (o q next : Option Failure) (W : Option Failure → Type 0)
    → k < length ns → k < length xs → x ≡ get_or xs k x
    → IsLeastOf (InheritingFails fulls (module_rows table items (get_or ns k 0) (f x) ++ rows) (module_rows table items (get_or ns k 0) (f x))) q → next ≡ lowest o (of_option q)
    → ((new : Option Failure) → KeepsLeast o (OwnFails table fulls items rows (with_texts (drop k ns) (map f (drop k xs)))) new → W new)
    → (new : Option Failure) → KeepsLeast next (OwnFails table fulls items rows (with_texts (drop (k + 1) ns) (map f (drop (k + 1) xs)))) new → W new
next_own {A} f table fulls items rows ns xs k x o q next W bn bx ex here is whole new left =
    whole new
    (subst (λ (l : List (Numbered ModuleSyn)). KeepsLeast o (OwnFails table fulls items rows l) new) (sym (next_with f ns xs k x bn bx ex))
    (next_least table fulls items rows (numbered (get_or ns k 0) (f x)) (with_texts (drop (k + 1) ns) (map f (drop (k + 1) xs))) o q next new here is left))

-- nothing is left: what is kept is the least of all
pub last_own : (table : List (List ℕ)) (fulls : List ℕ) (items : Items) (rows : List ClassRow) (ms : List (Numbered ModuleSyn)) (o : Option Failure) (W : Option Failure → Type 0) → ms ≡ []
    → ((new : Option Failure) → KeepsLeast o (OwnFails table fulls items rows ms) new → W new) → W o
last_own table fulls items rows ms o W e whole =
    whole o (subst (λ (l : List (Numbered ModuleSyn)). KeepsLeast o (OwnFails table fulls items rows l) o) (sym e) (none_left table fulls items rows o))
