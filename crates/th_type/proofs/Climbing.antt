-- The steps of the climb to all that a declared type reaches.
use Rattle.std.proofs.Common.{◌≡◌, ◌∙◌, ℕ, ◌+◌, ◌-◌, ◌<◌, Bool, true, false, List, [], length, map, slice_get, Some, ap, sym, subst, ◌⊎◌, arith}
use Rattle.std.specs.Bool.{MatchBool}
use Rattle.th_type.specs.Types.{TypeExpr, TypeExprs, named_ty, no_ty, list_of, subst_ty}
use Rattle.th_type.specs.Declarations.{SuperRef, Declaration, declared_types, resolved, members_of, supers_of}
use Rattle.th_type.specs.Subtypes.{parents}
use Rattle.th_type.specs.Rules.{WellFormed, HasTwo, IsHigh}
use Rattle.th_type.specs.Closure.{left, Took, Clashes, Climbing, all_taken}
use Rattle.th_type.proofs.Members.{in_within}
use Rattle.th_type.proofs.Taken.{taken_none}
use Rattle.th_type.proofs.Resolved.{supers_resolved, heads_among, parents_among, distinct_names}
use Rattle.th_type.proofs.Closure.{climbing_start, climbing_step, clash_start, clash_step}

pub took_if : (P Q : Type 0) (b : Bool) → MatchBool b P Q → b ≡ true → P
took_if P Q true h e = h
took_if P Q false h e = cc

pub clash_if : (P Q : Type 0) (b : Bool) → MatchBool b P Q → b ≡ false → Q
clash_if P Q true h e = cc
clash_if P Q false h e = h

start_taken : (ds : List Declaration) (n : ℕ) (ss : List SuperRef) → ss ≡ members_of ds n → all_taken no_ty ss ≡ supers_of (declared_types ds) n
start_taken ds n ss e = taken_none ss ∙ ap resolved e ∙ sym (supers_resolved n ds)

step_taken : (ds : List Declaration) (m : ℕ) (args : TypeExprs) (ss : List SuperRef) → ss ≡ members_of ds m → all_taken args ss ≡ parents (declared_types ds) (named_ty m args)
step_taken ds m args ss e = ap (λ ts. map (subst_ty (list_of args)) ts) (ap resolved e ∙ sym (supers_resolved m ds))

pub start_clash : (ds : List Declaration) (n : ℕ) (ss : List SuperRef) (xs : List TypeExpr) → xs ≡ [] → ss ≡ members_of ds n → Clashes xs (all_taken no_ty ss) → HasTwo (declared_types ds) n ⊎ IsHigh (declared_types ds) n
start_clash ds n ss xs e f h = clash_start (declared_types ds) n (subst (λ xs. Clashes xs (supers_of (declared_types ds) n)) e (subst (λ ps. Clashes xs ps) (start_taken ds n ss f) h))

pub start_took : (ds : List Declaration) → WellFormed ds → (n : ℕ) (ss : List SuperRef) (xs ys : List TypeExpr) → xs ≡ [] → ss ≡ members_of ds n → Took xs (all_taken no_ty ss) ys → Climbing (declared_types ds) n ys 0
start_took ds w n ss xs ys e f h = climbing_start (declared_types ds) n ys (distinct_names ds w.differ) (heads_among ds w n) (subst (λ xs. Took xs (supers_of (declared_types ds) n) ys) e (subst (λ ps. Took xs ps ys) (start_taken ds n ss f) h))

pub step_clash : (ds : List Declaration) (n : ℕ) (xs : List TypeExpr) (i m : ℕ) (args : TypeExprs) (ss : List SuperRef) → Climbing (declared_types ds) n xs i → slice_get xs i ≡ Some (named_ty m args) → ss ≡ members_of ds m → Clashes xs (all_taken args ss) → HasTwo (declared_types ds) n ⊎ IsHigh (declared_types ds) n
step_clash ds n xs i m args ss c g f h = clash_step (declared_types ds) n xs i (named_ty m args) c g (subst (λ ps. Clashes xs ps) (step_taken ds m args ss f) h)

pub step_took : (ds : List Declaration) → WellFormed ds → (n : ℕ) (xs ys : List TypeExpr) (i m : ℕ) (args : TypeExprs) (ss : List SuperRef) → Climbing (declared_types ds) n xs i → slice_get xs i ≡ Some (named_ty m args) → ss ≡ members_of ds m → Took xs (all_taken args ss) ys → Climbing (declared_types ds) n ys (i + 1)
step_took ds w n xs ys i m args ss c g f h =
    climbing_step (declared_types ds) n xs ys i (named_ty m args) (distinct_names ds w.differ) (parents_among (declared_types ds) (heads_among ds w) (named_ty m args)) c g (subst (λ ps. Took xs ps ys) (step_taken ds m args ss f) h)

pub step_smaller : (ds : List Declaration) → WellFormed ds → (n : ℕ) (xs ys : List TypeExpr) (i m : ℕ) (args : TypeExprs) (ss : List SuperRef) → slice_get xs i ≡ Some (named_ty m args) → ss ≡ members_of ds m → Took xs (all_taken args ss) ys
    → left (map (λ d. d.name) (declared_types ds)) ys + length ys - (i + 1) < left (map (λ d. d.name) (declared_types ds)) xs + length xs - i
step_smaller ds w n xs ys i m args ss g f h =
    let t = subst (λ ps. Took xs ps ys) (step_taken ds m args ss f) h in
    let a = t.count (map (λ d. d.name) (declared_types ds)) (distinct_names ds w.differ) (parents_among (declared_types ds) (heads_among ds w) (named_ty m args)) in
    let b = in_within (named_ty m args) xs i g in
    omega (arith, a, b)
