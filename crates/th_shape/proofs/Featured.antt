-- The rows of types one by one, and what a class's methods have.
use Rattle.std.proofs.Common.{Bool, ◌≡◌, ◌↔◌, ℕ, zero, suc, ◌+◌, ◌<◌, ◌≤◌, List, [], ◌∷◌, ◌++◌, map, length, get_or, take, refl, sym, ap, ◌∙◌, subst, arith, Option, Some, None, true, nat_eq, IfOk, IsTrue}
use Rattle.std.proofs.lemmas.Option.{slice_get-get_or}
use Rattle.std.specs.Prelude.{slice_get, option_map, Result, Ok, Err}
use Rattle.std.specs.Global.{Vec}
use Rattle.std.specs.Map.{lookup}
use Rattle.th_type.specs.Lists.{or_else}
use Rattle.th_type.specs.Types.{TypeExpr, TypeExprs, list_of, named_ty}
use Rattle.th_type.specs.Declarations.{DeclaredType}
use Rattle.th_type.specs.Signatures.{Signature}
use Rattle.th_type.specs.Methods.{method_of}
use Rattle.th_views.specs.declared.TypeRow.{TypeRow}
use Rattle.th_views.specs.declared.ClassShape.{ClassShape}
use Rattle.th_views.specs.Lookups.{type_numbers}
use Rattle.th_views.specs.Shapes.{Shape, shape_of, shapes_of, base_args}
use Rattle.th_shape.specs.declared.results.Head.{Head}
use Rattle.th_shape.specs.Heads.{result_kind, apply_kind}
use Rattle.th_shape.specs.Lines.{result_of, type_result, sig_result, arrival}
use Rattle.th_shape.specs.Results.{picked}
use Rattle.th_shape.specs.declared.class_rows.ClassResults.{ClassResults}
use Rattle.th_shape.specs.Built.{TypeBuilt, TypesBuilt, UpResults, ResultsAt, HasResults, base_at, shape_at}
use Rattle.th_shape.proofs.Headed.{applied_found, sigs_made, sigs_alone, arrives_made, arrives_alone, map_none}
use Rattle.th_shape.proofs.Naming.{taken_more}
use Rattle.th_shape.proofs.Rowing.{shape_got}

-- one more row
each_more : {A : Type 0} (P : A → Type 0) (done : List A) (x : A) → ((k : ℕ) (y : A) → slice_get done k ≡ Some y → P y) → P x → (k : ℕ) (y : A) → slice_get (done ++ x ∷ []) k ≡ Some y → P y
each_more P [] x h p zero y g = let e : x ≡ y = cc in subst P e p
each_more P [] x h p (suc k) y g = absurd (cc)
each_more P (d ∷ ds) x h p zero y g = h 0 y g
each_more P (d ∷ ds) x h p (suc k) y g = each_more P ds x (λ j z e. h (suc j) z e) p k y g

numbers_append : (done : List TypeRow) (r : TypeRow) → type_numbers (done ++ r ∷ []) ≡ type_numbers done ++ r.name ∷ []
numbers_append [] r = refl
numbers_append (x ∷ xs) r = ap (λ l. x.name ∷ l) (numbers_append xs r)

pub types_push : (D : List DeclaredType) (f : ℕ → Option ℕ) (seconds : ℕ → Option Bool) (order : List ℕ) (i n : ℕ) (done all : List TypeRow) (r : TypeRow) → i < length order → n ≡ get_or order i 0
    → TypesBuilt D f seconds (take i order) done → all ≡ done ++ r ∷ [] → r.name ≡ n → TypeBuilt D f seconds r → TypesBuilt D f seconds (take (i + 1) order) all
types_push D f seconds order i n done all r h e b a m t = subst (TypesBuilt D f seconds (take (i + 1) order)) (sym a) (record {
  numbers = numbers_append done r ∙ ap (λ l. l ++ r.name ∷ []) b.numbers ∙ ap (λ x. take i order ++ x ∷ []) (m ∙ e) ∙ sym (taken_more order i h);
  each = each_more (TypeBuilt D f seconds) done r b.each t;
})

marked_by : (D : List DeclaredType) (f : ℕ → Option ℕ) (s t : ℕ → Option Bool) (r : TypeRow) → ((q : ℕ) → s q ≡ t q) → TypeBuilt D f s r → TypeBuilt D f t r
marked_by D f s t r e b = record {
  supers = b.supers;
  marked = ((λ h. sym (e r.name) ∙ b.marked.0 h), (λ h. b.marked.1 (e r.name ∙ h)));
  own = b.own;
  gives = b.gives;
}

pub types_by : {E : Type 0} (D : List DeclaredType) (f : ℕ → Option ℕ) (s t : ℕ → Option Bool) (order : List ℕ) (r : Result (Vec TypeRow) E) → ((q : ℕ) → s q ≡ t q)
    → IfOk r (λ rows. TypesBuilt D f s order rows.items) → IfOk r (λ rows. TypesBuilt D f t order rows.items)
types_by D f s t order (Ok rows) e b = record { numbers = b.numbers; each = λ k x g. marked_by D f s t x e (b.each k x g) }
types_by D f s t order (Err x) e b = b

-- the class at a place of the order
pub base_here : (cs : List ClassShape) (order : List ℕ) (up : Option ℕ) (j k : ℕ) (b d : ClassShape) → up ≡ Some j → j < length order → k ≡ get_or order j 0 → k < length cs → b ≡ get_or cs k d
    → Some (shape_of b) ≡ base_at (shapes_of cs) order up
base_here cs order up j k b d u l h w e =
    let g : slice_get (shapes_of cs) k ≡ Some (shape_of b) = shape_got cs k b d w e in
    sym (ap (base_at (shapes_of cs) order) u ∙ ap (shape_at (shapes_of cs)) (slice_get-get_or order j 0 l ∙ ap Some (sym h)) ∙ g)

-- what is added of a type's methods
pub type_added : (D : List DeclaredType) (n q : ℕ) (args : TypeExprs) (old : Option Head) (sig : Option Signature) → sig ≡ method_of D n q
    → or_else old (option_map (λ s. apply_kind (list_of args) (result_kind (result_of s))) sig) ≡ or_else old (option_map result_kind (type_result D (named_ty n args) q))
type_added D n q args old sig e = ap (λ o. or_else old (option_map (λ s. apply_kind (list_of args) (result_kind (result_of s))) o)) e ∙ ap (or_else old) (applied_found (list_of args) (method_of D n q))

-- what a class's signatures have, and what arrives
pub or_first : (first a b : Option Head) → first ≡ None → a ≡ or_else first b → a ≡ b
or_first first a b e g = g ∙ ap (λ o. or_else o b) e

pub sigs_up : (D : List DeclaredType) (s : Shape) (above : List Shape) (q : ℕ) (none first all up : Option Head) → none ≡ None → first ≡ or_else none (option_map result_kind (type_result D s.of q))
    → all ≡ or_else first (option_map (apply_kind (base_args s)) up) → up ≡ option_map result_kind (sig_result D above q) → all ≡ option_map result_kind (sig_result D (s ∷ above) q)
sigs_up D s above q none first all up e f g h = g ∙ sigs_made D s above q first up (or_first none first (option_map result_kind (type_result D s.of q)) e f) h

pub sigs_none : (D : List DeclaredType) (s : Shape) (above : List Shape) (q : ℕ) (none first : Option Head) → none ≡ None → first ≡ or_else none (option_map result_kind (type_result D s.of q)) → above ≡ []
    → first ≡ option_map result_kind (sig_result D (s ∷ above) q)
sigs_none D s above q none first e f a = subst (λ l. first ≡ option_map result_kind (sig_result D (s ∷ l) q)) (sym a) (sigs_alone D s q first (or_first none first (option_map result_kind (type_result D s.of q)) e f))

pub up_has : (D : List DeclaredType) (done : List ClassResults) (up : Option ℕ) (j : ℕ) (r d : ClassResults) (above : List Shape) → up ≡ Some j → j < length done → r ≡ get_or done j d → UpResults D done up above → HasResults D above r
up_has D done up j r d above u l e h = subst (ResultsAt D above) (slice_get-get_or done j d l ∙ ap Some (sym e)) (subst (λ o. UpResults D done o above) u h)

pub up_none : (D : List DeclaredType) (done : List ClassResults) (up : Option ℕ) (above : List Shape) → up ≡ None → UpResults D done up above → above ≡ []
up_none D done up above u h = subst (λ o. UpResults D done o above) u h

pub arrives_up : (D : List DeclaredType) (s : Shape) (above : List Shape) (q : ℕ) (none first mid all up sig : Option Head) → none ≡ None → first ≡ or_else none (picked s.methods sig q)
    → mid ≡ or_else first (option_map (apply_kind (base_args s)) up) → all ≡ or_else mid sig → sig ≡ option_map result_kind (sig_result D (s ∷ above) q) → up ≡ option_map result_kind (arrival D above q)
    → all ≡ option_map result_kind (arrival D (s ∷ above) q)
arrives_up D s above q none first mid all up sig e f m a g h =
    a ∙ ap (λ o. or_else o sig) (m ∙ ap (λ o. or_else o (option_map (apply_kind (base_args s)) up)) (or_first none first (picked s.methods sig q) e f)) ∙ arrives_made D s above q sig up g h

pub arrives_none : (D : List DeclaredType) (s : Shape) (above : List Shape) (q : ℕ) (none first all sig : Option Head) → none ≡ None → first ≡ or_else none (picked s.methods sig q) → all ≡ or_else first sig
    → sig ≡ option_map result_kind (sig_result D (s ∷ above) q) → above ≡ [] → all ≡ option_map result_kind (arrival D (s ∷ above) q)
arrives_none D s above q none first all sig e f a g b = subst (λ l. all ≡ option_map result_kind (arrival D (s ∷ l) q)) (sym b)
    (a ∙ ap (λ o. or_else o sig) (or_first none first (picked s.methods sig q) e f) ∙ arrives_alone D s q sig (subst (λ l. sig ≡ option_map result_kind (sig_result D (s ∷ l) q)) b g))

pub if_ok : {A E : Type 0} (P Q : A → Type 0) (r : Result A E) → ((x : A) → P x → Q x) → IfOk r P → IfOk r Q
if_ok P Q (Ok x) h p = h x p
if_ok P Q (Err e) h p = p
