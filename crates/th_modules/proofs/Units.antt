-- Units, where nothing fails in them.
use Rattle.std.proofs.Common.{◌≡◌, ℕ, ◌+◌, ◌<◌, get_or, drop, Bool, true, false, List, [], ◌∷◌, ◌++◌, length, Option, Some, None, option_map, refl, sym, ◌∙◌, ap, append_assoc, append-nil, true≢false}
use Rattle.th_tree.specs.Trees.{BodySyn, InitSyn}
use Rattle.th_type.specs.declared.place.Failure.{Failure}
use Rattle.th_type.specs.Failures.{lowest, none_of}
use Rattle.th_type.proofs.Least.{lowest_append}
use Rattle.th_hier.proofs.Failing.{next_item}
use Rattle.th_meaning.specs.Program.{ProgramUnit}
use Rattle.th_rules.specs.Context.{Binding, ClassInfo, Context}
use Rattle.th_stmt_rules.specs.Bodies.{body_core, both_parts, where_true}
use Rattle.th_stmt_rules.specs.Failing.{body_fails}
use Rattle.th_stmt_rules.specs.Raising.{body_raises}
use Rattle.th_stmt_rules.specs.Units.{unit_core, unit_fails}
use Rattle.th_stmt.specs.Refusals.{lower_opt}
use Rattle.th_module_rules.specs.Initializers.{Inherited, init_fails, super_call_raises, assigns_raise}
use Rattle.th_inits.specs.Parts.{own_fails, own_raises}
use Rattle.th_modules.specs.View.{units_after}
use Rattle.th_modules.proofs.Least.{none_second}
use Rattle.th_modules.proofs.Merging.{lowest_merged}

where_held : {A : Type 0} (b : Bool) (o : Option A) → b ≡ true → where_true b o ≡ o
where_held true o h = refl
where_held false o h = absurd (true≢false (sym h))

-- the checked tree of a body, where nothing fails in it and in what comes after it
pub body_is : (C : Context) (ls : List Binding) (b : BodySyn) (o mid new : Option Failure) (rest : List Failure) → mid ≡ lowest o (unit_fails C ls b) → new ≡ lowest mid rest → new ≡ None → body_core C ls false (length ls) b ≡ unit_core C ls b
body_is C ls b o mid new rest x y h =
    sym (where_held (none_of (body_raises C ls C.sig.signals (length ls) b)) (body_core C ls false (length ls) b)
    (none_second o mid new (body_fails C ls false (length ls) b) (body_raises C ls C.sig.signals (length ls) b) rest x y h))

-- the failures in an initializer, with those on exceptions apart
pub init_is : (C : Context) (ls : List Binding) (c : ClassInfo) (above : Option Inherited) (i : InitSyn) (o : Option Failure)
    → lower_opt (lowest o (own_fails C ls c above i)) (lowest None (own_raises C ls above i)) ≡ lowest o (init_fails C ls c above i)
init_is C ls c above i o =
    sym (lowest_merged (lowest o (own_fails C ls c above i)) (own_raises C ls above i)) ∙ sym (lowest_append o (own_fails C ls c above i) (own_raises C ls above i))
    ∙ ap (lowest o) (sym (append_assoc (own_fails C ls c above i) (super_call_raises C ls above i.super_call) (assigns_raise C ls i.assigns)))

pub init_kept : (C : Context) (ls : List Binding) (c : ClassInfo) (above : Option Inherited) (i : InitSyn) (o mid raised new : Option Failure)
    → mid ≡ lowest o (own_fails C ls c above i) → raised ≡ lowest None (own_raises C ls above i) → new ≡ lower_opt mid raised → new ≡ lowest o (init_fails C ls c above i)
init_kept C ls c above i o mid raised new a b e =
    e ∙ ap (λ (m : Option Failure). lower_opt m raised) a ∙ ap (lower_opt (lowest o (own_fails C ls c above i))) b ∙ init_is C ls c above i o

-- a unit after others, before further ones
pub units_step : (us : Option (List ProgramUnit)) (u : Option ProgramUnit) (r : Option (List ProgramUnit))
    → units_after (both_parts (λ xs x. xs ++ x ∷ []) us u) r ≡ units_after us (both_parts (λ x xs. x ∷ xs) u r)
units_step None u r = refl
units_step (Some us) None r = refl
units_step (Some us) (Some u) None = refl
units_step (Some us) (Some u) (Some r) = ap Some (append_assoc us (u ∷ []) r)

-- units after units after others
pub units_joined : (us vs r : Option (List ProgramUnit)) → units_after (units_after us vs) r ≡ units_after us (units_after vs r)
units_joined None vs r = refl
units_joined (Some us) None r = refl
units_joined (Some us) (Some vs) None = refl
units_joined (Some us) (Some vs) (Some r) = ap Some (append_assoc us vs r)

-- the units that are there with the next of those that are left
pub next_units : {A : Type 0} (g : A → Option ProgramUnit) (F : List A → Option (List ProgramUnit)) (xs : List A) (i : ℕ) (x : A) (us new whole : Option (List ProgramUnit)) (u : Option ProgramUnit)
    → ((y : A) (ys : List A) → F (y ∷ ys) ≡ both_parts (λ b bs. b ∷ bs) (g y) (F ys)) → i < length xs → x ≡ get_or xs i x
    → new ≡ both_parts (λ bs b. bs ++ b ∷ []) us u → u ≡ g x → units_after us (F (drop i xs)) ≡ whole → units_after new (F (drop (i + 1) xs)) ≡ whole
next_units {A} g F xs i x us new whole u goes below is pushed made left =
    ap (λ (o : Option (List ProgramUnit)). units_after o (F (drop (i + 1) xs))) (pushed ∙ ap (λ (w : Option ProgramUnit). both_parts (λ bs b. bs ++ b ∷ []) us w) made)
    ∙ units_step us (g x) (F (drop (i + 1) xs)) ∙ ap (units_after us) (sym (goes x (drop (i + 1) xs)))
    ∙ ap (λ (ys : List A). units_after us (F ys)) (sym (next_item xs i x below is)) ∙ left

-- units of the next item of those that are left
pub next_joined : {A : Type 0} (g : A → Option (List ProgramUnit)) (F : List A → Option (List ProgramUnit)) (xs : List A) (i : ℕ) (x : A) (us new whole vs : Option (List ProgramUnit))
    → ((y : A) (ys : List A) → F (y ∷ ys) ≡ units_after (g y) (F ys)) → i < length xs → x ≡ get_or xs i x
    → new ≡ units_after us vs → vs ≡ g x → units_after us (F (drop i xs)) ≡ whole → units_after new (F (drop (i + 1) xs)) ≡ whole
next_joined {A} g F xs i x us new whole vs goes below is pushed made left =
    ap (λ (o : Option (List ProgramUnit)). units_after o (F (drop (i + 1) xs))) (pushed ∙ ap (units_after us) made)
    ∙ units_joined us (g x) (F (drop (i + 1) xs)) ∙ ap (units_after us) (sym (goes x (drop (i + 1) xs)))
    ∙ ap (λ (ys : List A). units_after us (F ys)) (sym (next_item xs i x below is)) ∙ left

-- nothing after units
pub units_end : (us : Option (List ProgramUnit)) → units_after us (Some []) ≡ us
units_end None = refl
units_end (Some us) = ap Some (append-nil us)

-- one unit before others
pub units_one : (u : Option ProgramUnit) (r : Option (List ProgramUnit)) → units_after (option_map (λ x. x ∷ []) u) r ≡ both_parts (λ x xs. x ∷ xs) u r
units_one None r = refl
units_one (Some u) None = refl
units_one (Some u) (Some r) = refl

-- units after nothing
pub units_start : (r : Option (List ProgramUnit)) → units_after (Some []) r ≡ r
units_start None = refl
units_start (Some r) = refl
