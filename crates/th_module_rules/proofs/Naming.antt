-- The failure that is named is the only one.
use Rattle.std.proofs.Common.{◌≡◌, List, [], ◌∷◌, Some, ◌∙◌, ap, inl, inr, arith}
use Rattle.th_type.specs.declared.place.Failure.{Failure}
use Rattle.th_type.specs.Failures.{failure, place, UpTo, IsLeastOf}
use Rattle.th_module_rules.specs.Stages.{IsNamed, NothingFails, Program, RefusedBy, RulesHold, stages}

same_text : (f g : Failure) → UpTo f g → UpTo g f → f.place.text ≡ g.place.text
same_text f g a b = grind arith

same_at : (f g : Failure) → UpTo f g → UpTo g f → f.place.at ≡ g.place.at
same_at f g a b = grind arith

same_rule : (f g : Failure) → UpTo f g → UpTo g f → f.rule ≡ g.rule
same_rule f g a b = grind arith

same_failure : (f g : Failure) → UpTo f g → UpTo g f → f ≡ g
same_failure f g a b =
    ap (λ t. failure f.rule (place t f.place.at)) (same_text f g a b) ∙ ap (λ n. failure f.rule (place g.place.text n)) (same_at f g a b)
    ∙ ap (λ r. failure r (place g.place.text g.place.at)) (same_rule f g a b)

least_is_one : (P : Failure → Type 0) (f g : Failure) → IsLeastOf P (Some f) → IsLeastOf P (Some g) → f ≡ g
least_is_one P f g h k = same_failure f g (h.1 g k.0) (k.1 f h.0)

named_is_one : (Ss : List (Failure → Type 0)) (f g : Failure) → IsNamed Ss f → IsNamed Ss g → f ≡ g
named_is_one [] f g h k = absurd h
named_is_one (S ∷ Ss) f g (inl h) (inl k) = least_is_one S f g h k
named_is_one (S ∷ Ss) f g (inl h) (inr k) = absurd (k.0 f h.0)
named_is_one (S ∷ Ss) f g (inr h) (inl k) = absurd (h.0 g k.0)
named_is_one (S ∷ Ss) f g (inr h) (inr k) = named_is_one Ss f g h.1 k.1

none_named : (Ss : List (Failure → Type 0)) (f : Failure) → NothingFails Ss → IsNamed Ss f → ⊥
none_named [] f h k = k
none_named (S ∷ Ss) f h (inl k) = h.0 f k.0
none_named (S ∷ Ss) f h (inr k) = none_named Ss f h.1 k.1

pub one_is_named : (p : Program) (f g : Failure) → RefusedBy p f → RefusedBy p g → f ≡ g
one_is_named p f g h k = named_is_one (stages p) f g h k

pub none_is_named : (p : Program) (f : Failure) → RulesHold p → RefusedBy p f → ⊥
none_is_named p f h k = none_named (stages p) f h k
