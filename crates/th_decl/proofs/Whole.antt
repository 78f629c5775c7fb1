-- The answers for whole texts.
use Rattle.std.proofs.Common.{◌≡◌, ◌≢◌, ℕ, Bool, true, false, nat_lt, List, length, refl, ◌∙◌, subst, ap, arith}
use Rattle.th_tree.specs.declared.lexeme.Lexeme.{Lexeme}
use Rattle.th_tree.specs.Verdict.{FirstWrong}
use Rattle.th_tree.specs.Declarations as grammar
use Rattle.th_syntax.specs.Read.{Got, Bad, P, member}
use Rattle.th_syntax.proofs.Law.{Law}
use Rattle.th_syntax.proofs.Exact.{tree_done, tree_surplus, refused, unique}
use Rattle.th_decl.specs.Answer.{OneText}
use Rattle.th_decl.proofs.DeclLaws.{law_module, law_interface}

module _ {A : Type 0} {L : A → List Lexeme → Type 0} {run : ℕ → P A} {f : List ℕ} {b : Bool} {m : List ℕ} (l : Law L run f b m) (none : member 3 m ≡ false) where
  pub text_done : (n : ℕ) (found ts us rest : List Lexeme) (a : A) → ts ≡ found → found ≡ us → run n ts ≡ Got a rest → length rest ≡ 0 → L a us
  text_done n found ts us rest a e d i z = subst (λ y. L a y) (e ∙ d) (tree_done l none n ts rest a i z)

  pub text_surplus : (n : ℕ) (found ts us rest : List Lexeme) (a : A) → ts ≡ found → found ≡ us → n ≡ length found → run n ts ≡ Got a rest → length rest ≢ 0 → FirstWrong L us rest
  text_surplus n found ts us rest a e d k i z = let w : length ts ≡ length found = ap (λ x. length x) e in subst (λ y. FirstWrong L y rest) (e ∙ d) (tree_surplus l none n ts rest a (omega arith) i z)

  pub text_refused : (n : ℕ) (found ts us rest : List Lexeme) → ts ≡ found → found ≡ us → n ≡ length found → run n ts ≡ Bad rest → FirstWrong L us rest
  text_refused n found ts us rest e d k i = let w : length ts ≡ length found = ap (λ x. length x) e in subst (λ y. FirstWrong L y rest) (e ∙ d) (refused l none n ts rest (omega arith) i)

-- lexemes are at most one module, and at most one interface
pub one_module : (limit : ℕ) → nat_lt 0 limit ≡ true → OneText (grammar.Module limit)
one_module limit s ts a b h i = unique (law_module limit s) refl a b ts h i

pub one_interface : (limit : ℕ) → nat_lt 0 limit ≡ true → OneText (grammar.Interface limit)
one_interface limit s ts a b h i = unique (law_interface limit s) refl a b ts h i
