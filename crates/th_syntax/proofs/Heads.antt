-- A new array is read as its head and then its values.
use Rattle.std.proofs.Common.{◌≡◌, ◌≢◌, ◌<◌, ℕ, zero, suc, Bool, true, nat_lt, List, refl, ◌∙◌, ap, arith, if◌then◌else◌}
use Rattle.std.proofs.lemmas.Bool.{lt-ltb}
use Rattle.th_tree.specs.declared.tokens.Reserved.TheVariants.{KeyNew, KeyArray}
use Rattle.th_tree.specs.declared.tokens.Sym.TheVariants.{OpenParen, OpenSquare, CloseSquare}
use Rattle.th_tree.specs.declared.lexeme.Mark.TheVariants.{Word, Symbol}
use Rattle.th_tree.specs.declared.lexeme.Lexeme.{Lexeme}
use Rattle.th_tree.specs.Trees.{TypeSyn}
use Rattle.th_tree.specs.Grammar.{Form, Found}
use Rattle.th_syntax.specs.Read.{Res, Got, Bad, P, bind, peek, is_mark, mark, between, either}
use Rattle.th_syntax.specs.Parse.{read_type, array_head, array_values, new_array_of, new_object_of, new_of}

pub array_ahead : (r : ℕ) (sub : Form → ℕ → P Found) (p n : ℕ) (ts : List Lexeme) → new_array_of r sub p n ts ≡ bind (array_head r n ts) (λ t us. array_values r sub p t n us)
array_ahead r sub p n ts = first (mark (Word KeyArray) ts) where
  third : (x : Res ℕ) (t : TypeSyn) → bind x (λ q us. array_values r sub p t n us) ≡ bind (bind x (λ q us. Got t us)) (λ a us. array_values r sub p a n us)
  third (Got q us) t = refl
  third (Bad us) t = refl

  second : (x : Res TypeSyn) → bind x (λ t us. bind (mark (Symbol OpenParen) us) (λ q vs. array_values r sub p t n vs)) ≡ bind (bind x (λ t us. bind (mark (Symbol OpenParen) us) (λ q vs. Got t vs))) (λ a us. array_values r sub p a n us)
  second (Got t us) = third (mark (Symbol OpenParen) us) t
  second (Bad us) = refl

  first : (x : Res ℕ) → bind x (λ q us. bind (between (Symbol OpenSquare) (Symbol CloseSquare) (read_type r) n us) (λ t vs. bind (mark (Symbol OpenParen) vs) (λ q ws. array_values r sub p t n ws)))
      ≡ bind (bind x (λ q us. bind (between (Symbol OpenSquare) (Symbol CloseSquare) (read_type r) n us) (λ t vs. bind (mark (Symbol OpenParen) vs) (λ q ws. Got t ws)))) (λ a us. array_values r sub p a n us)
  first (Got q us) = second (between (Symbol OpenSquare) (Symbol CloseSquare) (read_type r) n us)
  first (Bad us) = refl

-- after `new` and the head
pub array_goes : (r : ℕ) (sub : Form → ℕ → P Found) (p n : ℕ) (t : TypeSyn) (ts us vs : List Lexeme) → r ≢ 0 → mark (Word KeyNew) ts ≡ Got p us → is_mark (Word KeyArray) (peek us) ≡ true → array_head r n us ≡ Got t vs
    → (if nat_lt 0 r then new_of r sub n ts else Bad ts) ≡ array_values r sub p t n vs
array_goes r sub p n t ts us vs z e d i =
    here (new_of r sub n ts) (Bad ts) (nat_lt 0 r) (lt-ltb 0 r (some r z))
    ∙ (ap (λ x. bind x (λ a ws. either (Word KeyArray) (new_array_of r sub a) (new_object_of r sub a) n ws)) e
    ∙ (here (new_array_of r sub p n us) (new_object_of r sub p n us) (is_mark (Word KeyArray) (peek us)) d
    ∙ (array_ahead r sub p n us ∙ ap (λ x. bind x (λ a ws. array_values r sub p a n ws)) i))) where
      some : (k : ℕ) → k ≢ 0 → 0 < k
      some zero h = absurd (h refl)
      some (suc k) h = omega arith

      here : (x y : Res Found) (b : Bool) → b ≡ true → (if b then x else y) ≡ x
      here x y b q = rw q refl
