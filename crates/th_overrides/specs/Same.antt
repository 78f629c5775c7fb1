-- Whether definitions and declarations have equal parts.
use Rattle.std.specs.Prelude.{Bool, true, false, nat_eq, ◌&&◌, List, [], ◌∷◌}
use Rattle.th_type.specs.Types.{same_ty, same_tys}
use Rattle.th_type.specs.Signatures.{Signature, Constraint}
use Rattle.th_type.specs.Conforming.{same_bool, same_gives}
use Rattle.th_rules.specs.Context.{ClassInfo, RoutineInfo}

-- whether two lists have equal members in order
abbrev pub same_lists : {A : Type 0} → (A → A → Bool) → List A → List A → Bool
same_lists same [] [] = true
same_lists same [] (y ∷ ys) = false
same_lists same (x ∷ xs) [] = false
same_lists same (x ∷ xs) (y ∷ ys) = same x y && same_lists same xs ys

-- whether two signatures are equal
abbrev pub equal_sigs : Signature → Signature → Bool
equal_sigs s t = nat_eq s.method t.method && (same_bool s.iterator t.iterator && (same_tys s.formals t.formals && (same_gives s.gives t.gives && same_lists nat_eq s.signals t.signals)))

-- whether two clauses are equal
abbrev pub equal_clauses : Constraint → Constraint → Bool
equal_clauses c d = nat_eq c.param d.param && equal_sigs c.sig d.sig

-- whether two routines have equal heads
abbrev pub equal_routines : RoutineInfo → RoutineInfo → Bool
equal_routines r s = nat_eq r.params s.params && (equal_sigs r.sig s.sig && same_lists equal_clauses r.clauses s.clauses)

-- whether two classes have one head, the same hidden methods in order, and the same initializer
abbrev pub equal_classes : ClassInfo → ClassInfo → Bool
equal_classes c d =
    nat_eq c.params d.params && (same_ty c.of d.of && (same_gives c.inherits d.inherits && (same_lists equal_clauses c.clauses d.clauses
    && (equal_sigs c.init d.init && same_lists equal_sigs c.hidden d.hidden))))
