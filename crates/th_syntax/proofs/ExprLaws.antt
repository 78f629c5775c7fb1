-- Expressions are read exactly.
use Rattle.std.proofs.Common.{◌≡◌, ℕ, zero, suc, max, ◌≤◌, ◌<◌, Bool, true, false, nat_lt, List, [], ◌∷◌, ◌++◌, Option, Some, None, refl, arith}
use Rattle.std.proofs.lemmas.Bool.{ltb-false, lt-ltb, leb-true, leb-false}
use Rattle.th_tree.specs.declared.tokens.Reserved.TheVariants.{KeyTrue, KeyFalse, KeySelf, KeySuper, KeyNew, KeyGetByte, KeyArray, KeyLength, KeyNot, KeyOr, KeyAnd}
use Rattle.th_tree.specs.declared.tokens.Sym.TheVariants.{OpenParen, CloseParen, OpenSquare, CloseSquare, OpenBrace, CloseBrace, Comma, Dot, Dollar, Equal, NotEqual, Same, Less, LessEqual, Greater, GreaterEqual, Plus, Minus, Ampersand, Times, Divide, Remainder}
use Rattle.th_tree.specs.declared.tree.BinaryOp.{BinaryOp}
use Rattle.th_tree.specs.declared.tree.BinaryOp.TheVariants as ops
use Rattle.th_tree.specs.declared.lexeme.Mark.{Mark}
use Rattle.th_tree.specs.declared.lexeme.Mark.TheVariants.{Word, Symbol}
use Rattle.th_tree.specs.declared.lexeme.Lexeme.{Lexeme}
use Rattle.th_tree.specs.Trees.{no_type, more_types, type_height, types_height, true_expr, false_expr, self_expr, super_expr, item_expr, call_expr, new_expr, new_array_expr, get_byte_expr, field_expr, method_expr, length_expr, element_expr, not_expr, negative_expr}
use Rattle.th_tree.specs.Forms.{Lang, Done, done, Valued, valued as is_valued, Then, in_turn, Either, left, right, Steps, no_step, a_step, Where, where_holds, After, Between}
use Rattle.th_tree.specs.Grammar.{Form, Expr, Conj, Neg, Rel, Sum, Term, Unary, Post, Atom, operator_of, Found, found, no_founds, more_founds, joined, TypeAt, NamedAt, Args, Parens, Super, New, GetByte, Braces, Item, AnAtom, Member, Suffix, APost, Operand, Chain, AUnary, ATerm, ASum, ARel, ANeg, AConj, AnExpr, form_language, FormAt}
use Rattle.th_syntax.specs.Read.{P, code, in_set, lookup, has}
use Rattle.th_syntax.specs.Parse.{args_of, parens_of, super_of, new_of, get_byte_of, braces_of, item_of, atom_of, member_of, suffix_of, goes_on, suffixes, post_of, operand_of, chain, unary_of, term_of, sum_of, comparison, rel_of, neg_of, conj_of, expr_of, form_of, read_form, atom_first}
use Rattle.th_syntax.proofs.Sets.{disjoint}
use Rattle.th_syntax.proofs.Law.{Law, law_weak, law_done, law_then, law_the, law_where, law_one_of}
use Rattle.th_syntax.proofs.Choice.{law_choice, law_either, law_first_if, law_second_if}
use Rattle.th_syntax.proofs.Repeat.{law_listed, law_steps}
use Rattle.th_syntax.proofs.Words.{law_name, law_number, law_text, law_ref, law_after, law_place, law_between, none_next, none_then, none_between, none_listed}
use Rattle.th_syntax.proofs.TypeLaws.{law_type, none_type, law_named, none_named}

-- what holds of each value that a word has
all_next : {A B : Type 0} {L : A → List Lexeme → Type 0} {K : A → B → List Lexeme → Type 0} (Q : B → Type 0) → ((a : A) (b : B) (xs : List Lexeme) → K a b xs → Q b) → (b : B) (xs : List Lexeme) → Then L K b xs → Q b
all_next Q k b xs (in_turn a b1 us vs h i) = k a b1 vs i

all_either : {A : Type 0} {L K : A → List Lexeme → Type 0} (Q : A → Type 0) → ((a : A) (xs : List Lexeme) → L a xs → Q a) → ((a : A) (xs : List Lexeme) → K a xs → Q a) → (a : A) (xs : List Lexeme) → Either L K a xs → Q a
all_either Q l k a xs (left b us h) = l b us h
all_either Q l k a xs (right b us h) = k b us h

all_done : {A : Type 0} {a : A} (Q : A → Type 0) → Q a → (b : A) (xs : List Lexeme) → Done a b xs → Q b
all_done Q q b xs done = q

all_valued : {A : Type 0} {mark : ℕ → Mark} {make : ℕ → ℕ → A} (Q : A → Type 0) → ((n p : ℕ) → Q (make n p)) → (b : A) (xs : List Lexeme) → Valued mark make b xs → Q b
all_valued Q q b xs (is_valued n p) = q n p

all_where : {A : Type 0} {C : Type 0} {L : A → List Lexeme → Type 0} (Q : A → Type 0) → ((a : A) (xs : List Lexeme) → L a xs → Q a) → (a : A) (xs : List Lexeme) → Where C L a xs → Q a
all_where Q l a xs (where_holds b us c h) = l b us h

-- an expression of some height
abbrev pub Tall : Found → Type 0
Tall a = 1 ≤ a.height

-- an expression that is higher than another
abbrev Taller : Found → Found → Type 0
Taller a b = a.height < b.height

all_steps : {Step : Found → Found → List Lexeme → Type 0} → ((a b : Found) (xs : List Lexeme) → Step a b xs → Taller a b) → (a b : Found) (xs : List Lexeme) → Tall a → Steps Step a b xs → Tall b
all_steps k a b xs t (no_step c) = t
all_steps k a b xs t (a_step a1 c d us vs h i) = let z = k a c us h in all_steps k c d vs (omega (arith, z)) i

-- the operators' marks
abbrev ops_of : Form → List ℕ
ops_of Expr = code (Word KeyOr) ∷ []
ops_of Conj = code (Word KeyAnd) ∷ []
ops_of Rel = code (Symbol Equal) ∷ code (Symbol NotEqual) ∷ code (Symbol Same) ∷ code (Symbol Less) ∷ code (Symbol LessEqual) ∷ code (Symbol Greater) ∷ code (Symbol GreaterEqual) ∷ []
ops_of Sum = code (Symbol Plus) ∷ code (Symbol Minus) ∷ code (Symbol Ampersand) ∷ []
ops_of Term = code (Symbol Times) ∷ code (Symbol Divide) ∷ code (Symbol Remainder) ∷ []
ops_of _ = []

op_test : (F : Form) (o : Option Mark) → has (lookup (operator_of F) o) ≡ in_set (ops_of F) o
op_test Expr (Some (Word KeyOr)) = refl
op_test Expr (Some (Symbol Plus)) = refl
op_test Conj (Some (Word KeyOr)) = refl
op_test Conj (Some (Symbol Plus)) = refl
op_test Rel (Some (Word KeyOr)) = refl
op_test Rel (Some (Symbol Plus)) = refl
op_test Sum (Some (Word KeyOr)) = refl
op_test Sum (Some (Symbol Plus)) = refl
op_test Term (Some (Word KeyOr)) = refl
op_test Term (Some (Symbol Plus)) = refl
op_test Expr _ = refl
op_test Conj _ = refl
op_test Rel _ = refl
op_test Sum _ = refl
op_test Term _ = refl
op_test Neg None = refl
op_test Neg (Some m) = refl
op_test Unary None = refl
op_test Unary (Some m) = refl
op_test Post None = refl
op_test Post (Some m) = refl
op_test Atom None = refl
op_test Atom (Some m) = refl

op_code : (F : Form) (m : Mark) (a : BinaryOp) → operator_of F m ≡ Some a → in_set (ops_of F) (Some m) ≡ true
op_code F m a e = rw (← op_test F (Some m), e) refl

-- the marks with which a form begins
abbrev pub unary_first : List ℕ
unary_first = code (Symbol Minus) ∷ atom_first

abbrev pub form_first : Form → List ℕ
form_first Atom = atom_first
form_first Post = atom_first
form_first Unary = unary_first
form_first Term = unary_first
form_first Sum = unary_first
form_first Rel = unary_first
form_first _ = code (Word KeyNot) ∷ unary_first

-- the marks that may go on with a form
abbrev pub atom_more : List ℕ
atom_more = code (Symbol Dollar) ∷ code (Symbol OpenBrace) ∷ code (Symbol OpenParen) ∷ []

abbrev pub post_more : List ℕ
post_more = code (Symbol Dot) ∷ code (Symbol OpenSquare) ∷ atom_more

abbrev pub form_more : Form → List ℕ
form_more Atom = atom_more
form_more Post = post_more
form_more Unary = post_more
form_more Term = ops_of Term ++ post_more
form_more Sum = ops_of Sum ++ (ops_of Term ++ post_more)
form_more Rel = ops_of Rel ++ (ops_of Sum ++ (ops_of Term ++ post_more))
form_more Neg = ops_of Rel ++ (ops_of Sum ++ (ops_of Term ++ post_more))
form_more Conj = ops_of Conj ++ (ops_of Rel ++ (ops_of Sum ++ (ops_of Term ++ post_more)))
form_more Expr = ops_of Expr ++ (ops_of Conj ++ (ops_of Rel ++ (ops_of Sum ++ (ops_of Term ++ post_more))))

abbrev pub LawForm : Form → Lang Found → (ℕ → P Found) → Type 0
LawForm F L run = Law L run (form_first F) false (form_more F)

module _ (r : ℕ) (Sub : Form → Lang Found) (sub : Form → ℕ → P Found) (law_sub : nat_lt 0 r ≡ true → (F : Form) → LawForm F (Sub F) (sub F))
    (none : nat_lt 0 r ≡ false → (F : Form) (a : Found) (xs : List Lexeme) → Sub F a xs → ⊥) where
  abbrev room : Bool
  room = nat_lt 0 r

  pub law_args : Law (Args r (TypeAt r) (NamedAt r) Sub) (args_of r sub) (code (Symbol OpenParen) ∷ []) false []
  law_args = law_weak (law_after (Symbol OpenParen) tt
      (law_second_if room (law_place (Symbol CloseParen) tt (λ p. no_founds))
      (λ e. law_then (law_listed (Symbol Comma) more_founds no_founds (law_sub e Expr) tt refl) (λ bs xs h. law_after (Symbol CloseParen) tt (law_done bs)) refl)
      (λ e. none_then (none_listed (none e Expr))) refl)) refl refl

  law_parens : room ≡ true → Law (Parens r (TypeAt r) (NamedAt r) Sub) (parens_of r sub) (code (Symbol OpenParen) ∷ []) false []
  law_parens e = law_then (law_the (Symbol OpenParen) tt) (λ p xs h. law_then (law_sub e Expr) (λ a ys i. law_after (Symbol CloseParen) tt (law_done (found a.tree (suc a.height) p))) refl) refl

  law_super : Law (Super r (TypeAt r) (NamedAt r) Sub) (super_of r sub) (code (Word KeySuper) ∷ []) false []
  law_super = law_then (law_the (Word KeySuper) tt) (λ p xs h. law_after (Symbol Dot) tt (law_then law_name (λ m ys i. law_then law_args (λ bs zs j. law_done (found (super_expr p m bs.trees) (suc bs.height) p)) refl) refl)) refl

  law_new : room ≡ true → Law (New r (TypeAt r) (NamedAt r) Sub) (new_of r sub) (code (Word KeyNew) ∷ []) false []
  law_new e = law_then (law_the (Word KeyNew) tt) (λ p xs h. law_either
      (law_after (Word KeyArray) tt (law_then (law_between (Symbol OpenSquare) (Symbol CloseSquare) tt tt (law_type r e) refl) (λ t ys i.
      law_after (Symbol OpenParen) tt (law_then (law_sub e Expr) (λ m zs j. law_after (Symbol Comma) tt (law_then (law_sub e Expr) (λ a us k. law_after (Symbol CloseParen) tt
      (law_done (found (new_array_expr p t m.tree a.tree) (suc (max (type_height t) (max m.height a.height))) p))) refl)) refl)) refl))
      (law_then (law_named r e) (λ c ys i. law_then law_args (λ bs zs j. law_done (found (new_expr p c bs.trees) (suc (max (suc (types_height c.args)) bs.height)) p)) refl) refl) refl) refl

  law_get_byte : Law (GetByte r (TypeAt r) (NamedAt r) Sub) (get_byte_of r sub) (code (Word KeyGetByte) ∷ []) false []
  law_get_byte = law_then (law_the (Word KeyGetByte) tt) (λ p xs h. law_after (Symbol OpenParen) tt (law_after (Symbol CloseParen) tt (law_done (found (get_byte_expr p) 1 p)))) refl

  law_braces : Law (Braces r (TypeAt r) (NamedAt r) Sub) (braces_of r sub) (code (Symbol OpenBrace) ∷ []) true (code (Symbol OpenBrace) ∷ [])
  law_braces = law_weak (law_first_if room (λ e. law_between (Symbol OpenBrace) (Symbol CloseBrace) tt tt (law_listed (Symbol Comma) more_types no_type (law_type r e) tt refl) refl)
      (λ e. none_between (none_listed (none_type r e))) (law_done no_type) refl) refl refl

  law_item : Law (Item r (TypeAt r) (NamedAt r) Sub) (item_of r sub) (0 ∷ []) false atom_more
  law_item = law_weak (law_then law_ref (λ a xs h. law_then law_braces (λ ts ys i.
      law_either (law_then law_args (λ bs zs j. law_done (found (call_expr a.first.at a ts bs.trees) (suc (max (types_height ts) bs.height)) a.first.at)) refl)
      (law_done (found (item_expr a.first.at a ts) (suc (types_height ts)) a.first.at)) refl) refl) refl) refl refl

  pub law_atom : LawForm Atom (AnAtom r (TypeAt r) (NamedAt r) Sub) (atom_of r sub)
  law_atom = law_weak
      (law_either law_number
      (law_either (law_place (Word KeyTrue) tt (λ p. found (true_expr p) 1 p))
      (law_either (law_place (Word KeyFalse) tt (λ p. found (false_expr p) 1 p))
      (law_either (law_place (Word KeySelf) tt (λ p. found (self_expr p) 1 p))
      (law_either law_text
      (law_first_if room law_parens (λ e. none_next (λ p. none_then (none e Expr)))
      (law_either law_super
      (law_first_if room law_new (λ e. none_next (λ p. none_either_new p e))
      (law_either law_get_byte law_item refl) refl) refl) refl) refl) refl) refl) refl) refl) refl refl
    where
      none_either_new : (p : ℕ) → room ≡ false → (a : Found) (xs : List Lexeme) → Either (After (Word KeyArray) (Then (Between (Symbol OpenSquare) (Symbol CloseSquare) (TypeAt r)) (λ t.
          After (Symbol OpenParen) (Then (Sub Expr) (λ n. After (Symbol Comma) (Then (Sub Expr) (λ e. After (Symbol CloseParen)
          (Done (found (new_array_expr p t n.tree e.tree) (suc (max (type_height t) (max n.height e.height))) p)))))))))
          (Then (NamedAt r) (λ c. Then (Args r (TypeAt r) (NamedAt r) Sub) (λ bs. Done (found (new_expr p c bs.trees) (suc (max (suc (types_height c.args)) bs.height)) p)))) a xs → ⊥
      none_either_new p e a xs (left b us h) = none_next (λ q. none_then (none_between (none_type r e))) b us h
      none_either_new p e a xs (right b us h) = none_then (none_named r e) b us h

  tall_atom : (a : Found) (xs : List Lexeme) → AnAtom r (TypeAt r) (NamedAt r) Sub a xs → Tall a
  tall_atom =
      all_either Tall (all_valued Tall (λ n p. omega arith))
      (all_either Tall (all_next Tall (λ p. all_done Tall (omega arith)))
      (all_either Tall (all_next Tall (λ p. all_done Tall (omega arith)))
      (all_either Tall (all_next Tall (λ p. all_done Tall (omega arith)))
      (all_either Tall (all_valued Tall (λ n p. omega arith))
      (all_either Tall (all_next Tall (λ p. all_next Tall (λ a. all_next Tall (λ q. all_done Tall (omega arith)))))
      (all_either Tall (all_next Tall (λ p. all_next Tall (λ q. all_next Tall (λ m. all_next Tall (λ bs. all_done Tall (omega arith))))))
      (all_either Tall (all_next Tall (λ p. all_either Tall
      (all_next Tall (λ q. all_next Tall (λ t. all_next Tall (λ s. all_next Tall (λ m. all_next Tall (λ u. all_next Tall (λ e. all_next Tall (λ v. all_done Tall (omega arith)))))))))
      (all_next Tall (λ c. all_next Tall (λ bs. all_done Tall (omega arith))))))
      (all_either Tall (all_next Tall (λ p. all_next Tall (λ q. all_next Tall (λ s. all_done Tall (omega arith)))))
      (all_next Tall (λ a. all_next Tall (λ ts. all_either Tall (all_next Tall (λ bs. all_done Tall (omega arith))) (all_done Tall (omega arith)))))))))))))

  law_member : (a : Found) → Law (Member r (TypeAt r) (NamedAt r) Sub a) (member_of r sub a) (code (Word KeyLength) ∷ 0 ∷ []) false (code (Symbol OpenParen) ∷ [])
  law_member a = law_weak (law_either (law_after (Word KeyLength) tt (law_done (found (length_expr a.start a.tree) (suc a.height) a.start)))
      (law_then law_name (λ m xs h. law_either (law_then law_args (λ bs ys i. law_done (found (method_expr a.start a.tree m bs.trees) (suc (max a.height bs.height)) a.start)) refl)
      (law_done (found (field_expr a.start a.tree m) (suc a.height) a.start)) refl) refl) refl) refl refl

  law_suffix : room ≡ true → (a : Found) → Law (Suffix r (TypeAt r) (NamedAt r) Sub a) (suffix_of r sub a) (code (Symbol Dot) ∷ code (Symbol OpenSquare) ∷ []) false (code (Symbol OpenParen) ∷ [])
  law_suffix e a = law_weak (law_either (law_after (Symbol Dot) tt (law_member a))
      (law_then (law_between (Symbol OpenSquare) (Symbol CloseSquare) tt tt (law_sub e Expr) refl) (λ b xs h. law_done (found (element_expr a.start a.tree b.tree) (suc (max a.height b.height)) a.start)) refl) refl) refl refl

  taller_suffix : (a b : Found) (xs : List Lexeme) → Suffix r (TypeAt r) (NamedAt r) Sub a b xs → Taller a b
  taller_suffix a =
      all_either (Taller a)
      (all_next (Taller a) (λ p. all_either (Taller a) (all_next (Taller a) (λ q. all_done (Taller a) (omega arith)))
      (all_next (Taller a) (λ m. all_either (Taller a) (all_next (Taller a) (λ bs. all_done (Taller a) (omega arith))) (all_done (Taller a) (omega arith))))))
      (all_next (Taller a) (λ b. all_done (Taller a) (omega arith)))

  room_of : (a : Found) → Tall a → goes_on r a ≡ true → room ≡ true
  room_of a t e = has_room r (omega (arith, leb-true a.height r e)) where
    has_room : (x : ℕ) → 0 < x → nat_lt 0 x ≡ true
    has_room x z = lt-ltb 0 x z

  law_suffixes : (a : Found) → Tall a → Law (Steps (λ b. Where (b.height ≤ r) (Suffix r (TypeAt r) (NamedAt r) Sub b)) a) (suffixes r sub a) (code (Symbol Dot) ∷ code (Symbol OpenSquare) ∷ []) true
      (code (Symbol Dot) ∷ code (Symbol OpenSquare) ∷ code (Symbol OpenParen) ∷ [])
  law_suffixes a t = law_steps (in_set (code (Symbol Dot) ∷ code (Symbol OpenSquare) ∷ [])) (goes_on r) (λ b. b.height) Tall r (λ o. refl)
      (λ b s e. law_where (b.height ≤ r) (leb-true b.height r e) (law_suffix (room_of b s e) b))
      (λ b c xs e h. shut b c xs e h)
      (λ b c xs s h. let z = all_where (Taller b) (taller_suffix b) c xs h in (omega (arith, z), z))
      (λ b e. leb-true b.height r e) refl (suc r) a t (omega (arith, t)) where
        shut : (b c : Found) (xs : List Lexeme) → goes_on r b ≡ false → Where (b.height ≤ r) (Suffix r (TypeAt r) (NamedAt r) Sub b) c xs → ⊥
        shut b c xs e (where_holds d us z h) = absurd (omega (arith, leb-false b.height r e, z))

  pub law_post : LawForm Post (APost r (TypeAt r) (NamedAt r) Sub) (post_of r sub)
  law_post = law_weak (law_then law_atom (λ a xs h. law_suffixes a (tall_atom a xs h)) refl) refl refl

  taller_where : (a b : Found) (xs : List Lexeme) → Where (a.height ≤ r) (Suffix r (TypeAt r) (NamedAt r) Sub a) b xs → Taller a b
  taller_where a = all_where (Taller a) (taller_suffix a)

  tall_post : (a : Found) (xs : List Lexeme) → APost r (TypeAt r) (NamedAt r) Sub a xs → Tall a
  tall_post a xs (in_turn b c us vs h i) = all_steps taller_where b c vs (tall_atom b us h) i

  law_unary : LawForm Unary (AUnary r (TypeAt r) (NamedAt r) Sub) (unary_of r sub)
  law_unary = law_weak (law_first_if room
      (λ e. law_then (law_the (Symbol Minus) tt) (λ p xs h. law_then (law_sub e Unary) (λ a ys i. law_done (found (negative_expr p a.tree) (suc a.height) p)) refl) refl)
      (λ e. none_next (λ p. none_then (none e Unary))) law_post refl) refl refl

  tall_unary : (a : Found) (xs : List Lexeme) → AUnary r (TypeAt r) (NamedAt r) Sub a xs → Tall a
  tall_unary = all_either Tall (all_next Tall (λ p. all_next Tall (λ a. all_done Tall (omega arith)))) tall_post

  taller_operand : (F G : Form) (a b : Found) (xs : List Lexeme) → Operand r (TypeAt r) (NamedAt r) Sub F G a b xs → Taller a b
  taller_operand F G a = all_next (Taller a) (λ o. all_next (Taller a) (λ b. all_done (Taller a) (omega arith)))

  taller_low : (F G : Form) (a b : Found) (xs : List Lexeme) → Where (a.height ≤ r) (Operand r (TypeAt r) (NamedAt r) Sub F G a) b xs → Taller a b
  taller_low F G a = all_where (Taller a) (taller_operand F G a)

  law_operand : (F G : Form) (m0 : Mark) (o0 : BinaryOp) → operator_of F m0 ≡ Some o0 → room ≡ true → (a : Found) → Law (Operand r (TypeAt r) (NamedAt r) Sub F G a) (operand_of r sub F G a) (ops_of F) false (form_more G)
  law_operand F G m0 o0 e0 e a = operand (law_then (law_one_of (operator_of F) (ops_of F) m0 o0 e0 (op_code F)) (λ o xs h. law_then (law_sub e G) (λ b ys i. law_done (joined o a b)) (apart (form_more G))) refl) where
    apart : (xs : List ℕ) → disjoint xs [] ≡ true
    apart [] = refl
    apart (x ∷ xs) = apart xs

    operand : {m : List ℕ} → Law (Operand r (TypeAt r) (NamedAt r) Sub F G a) (operand_of r sub F G a) (ops_of F) false m → Law (Operand r (TypeAt r) (NamedAt r) Sub F G a) (operand_of r sub F G a) (ops_of F) false m
    operand l = l

  law_chain : (F G : Form) (m0 : Mark) (o0 : BinaryOp) → operator_of F m0 ≡ Some o0 → disjoint (form_more G) (ops_of F) ≡ true → (a : Found) → Tall a
      → Law (Steps (λ b. Where (b.height ≤ r) (Operand r (TypeAt r) (NamedAt r) Sub F G b)) a) (chain r sub F G a) (ops_of F) true (ops_of F ++ form_more G)
  law_chain F G m0 o0 e0 apart a t = law_steps (λ o. has (lookup (operator_of F) o)) (goes_on r) (λ b. b.height) Tall r (op_test F)
      (λ b s e. law_where (b.height ≤ r) (leb-true b.height r e) (law_operand F G m0 o0 e0 (room_of b s e) b))
      (λ b c xs e h. shut b c xs e h)
      (λ b c xs s h. let z = taller_low F G b c xs h in (omega (arith, z), z))
      (λ b e. leb-true b.height r e) apart (suc r) a t (omega (arith, t)) where
        shut : (b c : Found) (xs : List Lexeme) → goes_on r b ≡ false → Where (b.height ≤ r) (Operand r (TypeAt r) (NamedAt r) Sub F G b) c xs → ⊥
        shut b c xs e (where_holds d us z h) = absurd (omega (arith, leb-false b.height r e, z))

  tall_chain : (F G : Form) (First : Lang Found) → ((a : Found) (xs : List Lexeme) → First a xs → Tall a) → (a : Found) (xs : List Lexeme) → Chain r (TypeAt r) (NamedAt r) Sub F G First a xs → Tall a
  tall_chain F G First k a xs (in_turn b c us vs h i) = all_steps (taller_low F G) b c vs (k b us h) i

  law_term : LawForm Term (ATerm r (TypeAt r) (NamedAt r) Sub) (term_of r sub)
  law_term = law_weak (law_then law_unary (λ a xs h. law_chain Term Unary (Symbol Times) ops.Times refl refl a (tall_unary a xs h)) refl) refl refl

  tall_term : (a : Found) (xs : List Lexeme) → ATerm r (TypeAt r) (NamedAt r) Sub a xs → Tall a
  tall_term = tall_chain Term Unary (AUnary r (TypeAt r) (NamedAt r) Sub) tall_unary

  law_sum : LawForm Sum (ASum r (TypeAt r) (NamedAt r) Sub) (sum_of r sub)
  law_sum = law_weak (law_then law_term (λ a xs h. law_chain Sum Term (Symbol Plus) ops.Plus refl refl a (tall_term a xs h)) refl) refl refl

  tall_sum : (a : Found) (xs : List Lexeme) → ASum r (TypeAt r) (NamedAt r) Sub a xs → Tall a
  tall_sum = tall_chain Sum Term (ATerm r (TypeAt r) (NamedAt r) Sub) tall_term

  law_comparison : (a : Found) → Tall a → Law (Either (Where (a.height ≤ r) (Operand r (TypeAt r) (NamedAt r) Sub Rel Sum a)) (Done a)) (comparison r sub a) (ops_of Rel) true (form_more Rel)
  law_comparison a t = law_weak (law_choice (λ o. has (lookup (operator_of Rel) o)) (goes_on r a) true (op_test Rel)
      (λ e. law_where (a.height ≤ r) (leb-true a.height r e) (law_operand Rel Sum (Symbol Equal) ops.Equal refl (room_of a t e) a))
      (λ e b xs h. shut b xs e h) (λ e. law_done a) (λ e. absurd (cc)) (a, [], right a [] done) refl) refl refl where
        shut : (c : Found) (xs : List Lexeme) → goes_on r a ≡ false → Where (a.height ≤ r) (Operand r (TypeAt r) (NamedAt r) Sub Rel Sum a) c xs → ⊥
        shut c xs e (where_holds d us z h) = absurd (omega (arith, leb-false a.height r e, z))

  law_rel : LawForm Rel (ARel r (TypeAt r) (NamedAt r) Sub) (rel_of r sub)
  law_rel = law_weak (law_then law_sum (λ a xs h. law_comparison a (tall_sum a xs h)) refl) refl refl

  tall_rel : (a : Found) (xs : List Lexeme) → ARel r (TypeAt r) (NamedAt r) Sub a xs → Tall a
  tall_rel a xs (in_turn b c us vs h (left d ws i)) = let z = taller_low Rel Sum b d ws i in omega (arith, z)
  tall_rel a xs (in_turn b c us vs h (right d ws done)) = tall_sum b us h

  law_neg : LawForm Neg (ANeg r (TypeAt r) (NamedAt r) Sub) (neg_of r sub)
  law_neg = law_weak (law_first_if room
      (λ e. law_then (law_the (Word KeyNot) tt) (λ p xs h. law_then (law_sub e Neg) (λ a ys i. law_done (found (not_expr p a.tree) (suc a.height) p)) refl) refl)
      (λ e. none_next (λ p. none_then (none e Neg))) law_rel refl) refl refl

  tall_neg : (a : Found) (xs : List Lexeme) → ANeg r (TypeAt r) (NamedAt r) Sub a xs → Tall a
  tall_neg = all_either Tall (all_next Tall (λ p. all_next Tall (λ a. all_done Tall (omega arith)))) tall_rel

  law_conj : LawForm Conj (AConj r (TypeAt r) (NamedAt r) Sub) (conj_of r sub)
  law_conj = law_weak (law_then law_neg (λ a xs h. law_chain Conj Neg (Word KeyAnd) ops.And refl refl a (tall_neg a xs h)) refl) refl refl

  tall_conj : (a : Found) (xs : List Lexeme) → AConj r (TypeAt r) (NamedAt r) Sub a xs → Tall a
  tall_conj = tall_chain Conj Neg (ANeg r (TypeAt r) (NamedAt r) Sub) tall_neg

  law_expr : LawForm Expr (AnExpr r (TypeAt r) (NamedAt r) Sub) (expr_of r sub)
  law_expr = law_weak (law_then law_conj (λ a xs h. law_chain Expr Conj (Word KeyOr) ops.Or refl refl a (tall_conj a xs h)) refl) refl refl

  pub law_form_of : (F : Form) → LawForm F (form_language r (TypeAt r) (NamedAt r) Sub F) (form_of r sub F)
  law_form_of Expr = law_expr
  law_form_of Conj = law_conj
  law_form_of Neg = law_neg
  law_form_of Rel = law_rel
  law_form_of Sum = law_sum
  law_form_of Term = law_term
  law_form_of Unary = law_unary
  law_form_of Post = law_post
  law_form_of Atom = law_atom

pub none_form : (r : ℕ) → nat_lt 0 r ≡ false → (F : Form) (a : Found) (xs : List Lexeme) → FormAt r F a xs → ⊥
none_form zero e F a xs h = h
none_form (suc r) e F a xs h = absurd (omega (arith, ltb-false 0 (suc r) e))

-- each form of an expression is read exactly
pub law_form : (r : ℕ) → nat_lt 0 r ≡ true → (F : Form) → LawForm F (FormAt r F) (read_form r F)
law_form zero e F = absurd (cc)
law_form (suc r) e F = law_form_of r (FormAt r) (read_form r) (λ i G. law_form r i G) (none_form r) F
