-- Readings where there is room, and heights of lists.
use Rattle.std.proofs.Common.{◌≡◌, ◌≢◌, ℕ, zero, suc, max, ◌-◌, List, refl, sym, ◌∙◌, ap, arith}
use Rattle.th_tree.specs.declared.lexeme.Lexeme.{Lexeme}
use Rattle.th_tree.specs.Trees.{TypeSyn, TypeSyns, no_type, more_types, type_height, types_height, more_exprs}
use Rattle.th_tree.specs.Onto.{types_onto, exprs_onto}
use Rattle.th_tree.specs.Grammar.{Form, Found, Founds, no_founds, more_founds}
use Rattle.th_syntax.specs.Founds.{founds, founds_onto}
use Rattle.th_syntax.specs.Parse.{read_type, type_of, read_named, named_type_of, read_form, form_of}

pub type_room : (room n : ℕ) (ts : List Lexeme) → room ≢ 0 → read_type room n ts ≡ type_of (room - 1) (read_type (room - 1)) n ts
type_room zero n ts h = absurd (h refl)
type_room (suc r) n ts h = let e : suc r - 1 ≡ r = omega arith in rw e refl

pub named_room : (room n : ℕ) (ts : List Lexeme) → room ≢ 0 → read_named room n ts ≡ named_type_of (room - 1) (read_type (room - 1)) n ts
named_room zero n ts h = absurd (h refl)
named_room (suc r) n ts h = let e : suc r - 1 ≡ r = omega arith in rw e refl

pub form_room : (room : ℕ) (F : Form) (n : ℕ) (ts : List Lexeme) → room ≢ 0 → read_form room F n ts ≡ form_of (room - 1) (read_form (room - 1)) F n ts
form_room zero F n ts h = absurd (h refl)
form_room (suc r) F n ts h = let e : suc r - 1 ≡ r = omega arith in rw e refl

pub onto_height : (a b : TypeSyns) → types_height (types_onto a b) ≡ max (types_height a) (types_height b)
onto_height no_type b = let e : max 0 (types_height b) ≡ types_height b = omega arith in sym e
onto_height (more_types t ts) b = onto_height ts (more_types t b) ∙ turn (type_height t) (types_height ts) (types_height b) where
  turn : (x y z : ℕ) → max y (max x z) ≡ max (max x y) z
  turn x y z = omega arith

-- the height of a list that was built back to front
pub turned_height : (back done : TypeSyns) (k : ℕ) → done ≡ types_onto back no_type → k ≡ types_height back → k ≡ types_height done
turned_height back done k e d =
    let z : max (types_height back) 0 ≡ types_height back = omega arith in
    d ∙ (sym z ∙ (sym (onto_height back no_type) ∙ ap types_height (sym e)))

-- the height of a list with one more
pub grown_height : (h k l : ℕ) (t : TypeSyn) (ts all : TypeSyns) → l ≡ max h k → h ≡ types_height ts → k ≡ type_height t → all ≡ more_types t ts → l ≡ types_height all
grown_height h k l t ts all e d i j =
    let z : l ≡ max (type_height t) (types_height ts) = omega arith in
    z ∙ ap types_height (sym j)

pub founds_law : (a : Found) (b done : Founds) → founds_onto (more_founds a b) done ≡ founds_onto b (more_founds a done)
founds_law a b done = ap (λ h. founds (exprs_onto b.trees (more_exprs a.tree done.trees)) h) (turn a.height b.height done.height) where
  turn : (x y z : ℕ) → max (max x y) z ≡ max y (max x z)
  turn x y z = omega arith

pub founds_none : (b : Founds) → founds_onto no_founds b ≡ b
founds_none b = ap (λ h. founds b.trees h) (zero_max b.height) where
  zero_max : (x : ℕ) → max 0 x ≡ x
  zero_max x = omega arith
