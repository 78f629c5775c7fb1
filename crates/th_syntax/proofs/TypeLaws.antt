-- Types are read exactly.
use Rattle.std.proofs.Common.{◌≡◌, ℕ, zero, suc, true, false, nat_lt, List, [], ◌∷◌, refl, arith}
use Rattle.std.proofs.lemmas.Bool.{ltb-false}
use Rattle.th_tree.specs.declared.tokens.Reserved.TheVariants.{KeyInt, KeyBool, KeyString, KeyArray}
use Rattle.th_tree.specs.declared.tokens.Sym.TheVariants.{OpenSquare, CloseSquare, Comma, Colon, Dollar}
use Rattle.th_tree.specs.declared.lexeme.Mark.TheVariants.{Word, Symbol}
use Rattle.th_tree.specs.declared.lexeme.Lexeme.{Lexeme}
use Rattle.th_tree.specs.Trees.{TypeSyn, int_type, bool_type, text_type, array_type, named_type, no_type, more_types, NamedSyn, FormalSyn}
use Rattle.th_tree.specs.Forms.{Lang}
use Rattle.th_tree.specs.Grammar.{TypeArgs, Named, ArrayType, AType, TypeAt, NamedAt, FormalAt}
use Rattle.th_syntax.specs.Read.{P, code}
use Rattle.th_syntax.specs.Parse.{type_args, named_type_of, array_type_of, type_of, read_type, read_named, read_formal}
use Rattle.th_syntax.proofs.Law.{Law, law_weak, law_done, law_then, law_the}
use Rattle.th_syntax.proofs.Choice.{law_either, law_first_if}
use Rattle.th_syntax.proofs.Repeat.{law_listed}
use Rattle.th_syntax.proofs.Words.{law_name, law_ref, law_after, law_place, law_between, none_next, none_then, none_between, none_listed}

-- the marks with which a type begins, and those that may go on with it
abbrev pub type_first : List ℕ
type_first = code (Word KeyInt) ∷ code (Word KeyBool) ∷ code (Word KeyString) ∷ code (Word KeyArray) ∷ 0 ∷ []

abbrev pub type_more : List ℕ
type_more = code (Symbol Dollar) ∷ code (Symbol OpenSquare) ∷ []

abbrev pub LawType : Lang TypeSyn → (ℕ → P TypeSyn) → Type 0
LawType L run = Law L run type_first false type_more

module _ (r : ℕ) (SubType : Lang TypeSyn) (sub : ℕ → P TypeSyn) (law_sub : nat_lt 0 r ≡ true → LawType SubType sub) (none : nat_lt 0 r ≡ false → (t : TypeSyn) (xs : List Lexeme) → SubType t xs → ⊥) where
  law_args : Law (TypeArgs SubType) (type_args r sub) (code (Symbol OpenSquare) ∷ []) true (code (Symbol OpenSquare) ∷ [])
  law_args = law_weak (law_first_if (nat_lt 0 r)
      (λ e. law_between (Symbol OpenSquare) (Symbol CloseSquare) tt tt (law_listed (Symbol Comma) more_types no_type (law_sub e) tt refl) refl)
      (λ e. none_between (none_listed (none e))) (law_done no_type) refl) refl refl

  law_named_type : Law (Named SubType) (named_type_of r sub) (0 ∷ []) false type_more
  law_named_type = law_weak (law_then law_ref (λ a xs h. law_then law_args (λ ts ys i. law_done (record { item = a; args = ts })) refl) refl) refl refl

  law_array_type : nat_lt 0 r ≡ true → Law (ArrayType SubType) (array_type_of r sub) (code (Word KeyArray) ∷ []) false []
  law_array_type e = law_then (law_the (Word KeyArray) tt) (λ p xs h. law_then (law_between (Symbol OpenSquare) (Symbol CloseSquare) tt tt (law_sub e) refl) (λ t ys i. law_done (array_type p t)) refl) refl

  law_type_of : LawType (AType SubType) (type_of r sub)
  law_type_of = law_weak
      (law_either (law_place (Word KeyInt) tt int_type)
      (law_either (law_place (Word KeyBool) tt bool_type)
      (law_either (law_place (Word KeyString) tt text_type)
      (law_first_if (nat_lt 0 r) law_array_type (λ e. none_next (λ p. none_then (none_between (none e))))
      (law_then law_named_type (λ n xs h. law_done (named_type n.item n.args)) refl) refl) refl) refl) refl) refl refl

no_room : (r : ℕ) → nat_lt 0 r ≡ false → (t : TypeSyn) (xs : List Lexeme) → TypeAt r t xs → ⊥
no_room zero e t xs h = h
no_room (suc r) e t xs h = absurd (omega (arith, ltb-false 0 (suc r) e))

pub law_type : (r : ℕ) → nat_lt 0 r ≡ true → LawType (TypeAt r) (read_type r)
law_type zero e = absurd (cc)
law_type (suc r) e = law_type_of r (TypeAt r) (read_type r) (λ i. law_type r i) (no_room r)

pub none_type : (r : ℕ) → nat_lt 0 r ≡ false → (t : TypeSyn) (xs : List Lexeme) → TypeAt r t xs → ⊥
none_type = no_room

pub law_named : (r : ℕ) → nat_lt 0 r ≡ true → Law (NamedAt r) (read_named r) (0 ∷ []) false type_more
law_named zero e = absurd (cc)
law_named (suc r) e = law_named_type r (TypeAt r) (read_type r) (λ i. law_type r i) (no_room r)

pub none_named : (r : ℕ) → nat_lt 0 r ≡ false → (t : NamedSyn) (xs : List Lexeme) → NamedAt r t xs → ⊥
none_named zero e t xs h = h
none_named (suc r) e t xs h = absurd (omega (arith, ltb-false 0 (suc r) e))

-- a name and its type
pub law_formal : (r : ℕ) → nat_lt 0 r ≡ true → Law (FormalAt r) (read_formal r) (0 ∷ []) false type_more
law_formal r e = law_then law_name (λ i xs h. law_after (Symbol Colon) tt (law_then (law_type r e) (λ t ys j. law_done (record { name = i; of = t })) refl)) refl

pub none_formal : (r : ℕ) → nat_lt 0 r ≡ false → (a : FormalSyn) (xs : List Lexeme) → FormalAt r a xs → ⊥
none_formal r e = none_next (λ n. none_next (λ q. none_then (none_type r e)))
