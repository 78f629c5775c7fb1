-- Parts of heads by what is meant.
use Rattle.std.proofs.Common.{◌≡◌, ◌∙◌, ℕ, suc, ◌<◌, List, ◌∷◌, map, drop, length, get_or, Option, Some, None, option_map, refl, ap, sym, add-one}
use Rattle.th_tree.specs.declared.tree.Formal.{Formal}
use Rattle.th_tree.specs.Trees.{NamedSyn}
use Rattle.th_tree.specs.View.{formal_of}
use Rattle.th_type.specs.declared.ty.Ty.{Ty}
use Rattle.th_type.specs.Types.{ty_of}
use Rattle.th_hier.specs.Naming.{Items, Visible}
use Rattle.th_hier.specs.Views.{ty_opt}
use Rattle.th_rules.specs.Context.{Binding}
use Rattle.th_module_rules.specs.Contexts.{bindings, inherited_type}
use Rattle.th_scope.proofs.Places.{drop_at}
use Rattle.th_heads.specs.Classes.{meant_after}
use Rattle.th_contexts.specs.Heads.{binding_at, class_type_opt}

pub inherited_is : (items : Items) (v : Visible) (n : Option NamedSyn) → class_type_opt (meant_after items v n) ≡ inherited_type items v n
inherited_is items v None = refl
inherited_is items v (Some n) = refl

pub opt_is : (t : Option Ty) → option_map ty_of t ≡ ty_opt t
opt_is None = refl
opt_is (Some t) = refl

-- one more formal or field before those so far
pub fields_next : (items : Items) (v : Visible) (fs : List Formal) (k : ℕ) (f : Formal) (b : Binding) (rest : List Binding) → k < length fs → f ≡ get_or fs k f → b ≡ binding_at items v k (formal_of f)
    → rest ≡ bindings items v (suc k) (drop (suc k) (map formal_of fs)) → b ∷ rest ≡ bindings items v k (drop k (map formal_of fs))
fields_next items v fs k f b rest h is first others =
    ap (λ (x : Binding). x ∷ rest) first
    ∙ ap (λ (r : List Binding). binding_at items v k (formal_of f) ∷ r) (others ∙ ap (λ (n : ℕ). bindings items v n (drop (suc k) (map formal_of fs))) (sym (add-one k)))
    ∙ sym (ap (bindings items v k) (drop_at formal_of fs k f h is))
