-- The laws of rows, from those of what their words do.
use Rattle.std.proofs.Common.{◌≡◌, ◌≢◌, ℕ, zero, suc, ◌+◌, ◌-◌, ◌*◌, ◌<◌, List, [], ◌∷◌, ◌++◌, length, Option, Some, None, Bool, true, false, nat_lt, nat_eq, refl, sym, ap, ◌∙◌, subst, ◌⊎◌, inl, inr, arith}
use Rattle.std.specs.Prelude.{slice_get, set, IsTrue, ℤ, pos, negsuc, if◌then◌else◌, ◌+ℤ◌, ◌-ℤ◌, ◌*ℤ◌}
use Rattle.std.proofs.lemmas.Bool.{cases_Bool, lt-ltb, ltb-true, leb-true, ne_eqb}
use Rattle.th_runs.specs.Stand.{Trapped}
use Rattle.th_elf.specs.Run as elf
use Rattle.th_meaning.specs.World.{fits_word, overflow, Stuck, Did, Fails, sum, difference, product}
use Rattle.th_flat.specs.declared.op.FlatOp.{FlatOp}
use Rattle.th_flat.specs.declared.op.FlatOp.TheVariants.{OpWord, OpLocal, OpSet, OpDrop, OpArith, OpCompare, OpGo, OpUnless, OpTurn}
use Rattle.th_flat.specs.declared.module.FlatUnit.{FlatUnit}
use Rattle.th_flat.specs.Values.{FlatValue, Int, Ref, Text, Code, FlatWorld, Status, Thrown, truth}
use Rattle.th_flat.specs.Program.{FlatProgram}
use Rattle.th_flat.specs.Deeds.{Act, Falls, Deed, free, stuck_act, off_two, on_int, push_number, doing, holds}
use Rattle.th_flat.specs.Effects.{shape_of}
use Rattle.th_flat.specs.Configs.{Loop, NoLoop, Here, Stack, Bottom, Halts, Config, Run, Over, words_of, self_of, is_body, way_of, failure_of, go_to, handler, fail_to, loaded, finish, op_deed, stuck}
use Rattle.th_flat.specs.Runs.{end_of_config, unpaid_step}
use Rattle.th_abi.specs.declared.word.PatternWord.{PatternWord}
use Rattle.th_abi.specs.declared.word.Failure.TheVariants.{Overflow}
use Rattle.th_abi.specs.Sequences.{home, register_of, fetched, kept, moved, fail}
use Rattle.th_abi.specs.Numbers.{checked_code, compare_code}
use Rattle.th_abi.specs.Table.{row}
use Rattle.th_stands.specs.Seen.{Seen, Sees}
use Rattle.th_stands.specs.Places.{HasRow}
use Rattle.th_stands.specs.Stands.{Places, StackIs, cell, AtOp}
use Rattle.th_stands.specs.Law.{Leads}
use Rattle.th_stands.specs.Laws.{Rule, Stands, RowLaw}
use Rattle.th_stands.proofs.Rows.{nothing_law, go_law, local_law, word_law, unless_at, unless_on, unless_taken, set_at, set_law}
use Rattle.th_stands.proofs.Compares.{compare_at, compare_law}
use Rattle.th_stands.proofs.Sums.{Kind, Sum, Difference, Product, op_of, number_of, sum_at, sum_fits_law, sum_over_law}

-- a row whose places are counted from the top of the stack, by the words that are left
pub one_place : (F : ℕ → List PatternWord) (n m : ℕ) → n ≡ suc m → F (n - 1) ≡ F m
one_place F n m e = let e1 : n - 1 ≡ m = omega arith in ap F e1

pub two_places : (F : ℕ → ℕ → List PatternWord) (n m : ℕ) → n ≡ suc (suc m) → F (n - 2) (n - 1) ≡ F m (suc m)
two_places F n m e =
    let e1 : n - 2 ≡ m = omega arith in
    let e2 : n - 1 ≡ suc m = omega arith in
    ap (λ i. F i (n - 1)) e1 ∙ ap (F m) e2

-- the two topmost words are numbers
pub record Ints (st : List FlatValue) : Type 0 where
  pub x : ℤ
  pub y : ℤ
  pub rest : List FlatValue
  pub is : st ≡ Int y ∷ Int x ∷ rest

-- an operation on two numbers is stuck where the two topmost words are something else
pub two_numbers : (K : ℤ → ℤ → List FlatValue → Deed Act) (st : List FlatValue) → Ints st ⊎ (off_two st (λ a b st1. on_int a (λ x. on_int b (λ y. K x y st1))) ≡ stuck_act)
two_numbers K [] = inr refl
two_numbers K (v1 ∷ []) = inr refl
two_numbers K (Int y ∷ Int x ∷ rest) = inl (record { x = x; y = y; rest = rest; is = refl })
two_numbers K (Int y ∷ Ref k view ∷ rest) = inr refl
two_numbers K (Int y ∷ Text bytes ∷ rest) = inr refl
two_numbers K (Int y ∷ Code unit ∷ rest) = inr refl
two_numbers K (Ref j vw ∷ Int x ∷ rest) = inr refl
two_numbers K (Ref j vw ∷ Ref k view ∷ rest) = inr refl
two_numbers K (Ref j vw ∷ Text bytes ∷ rest) = inr refl
two_numbers K (Ref j vw ∷ Code unit ∷ rest) = inr refl
two_numbers K (Text b ∷ Int x ∷ rest) = inr refl
two_numbers K (Text b ∷ Ref k view ∷ rest) = inr refl
two_numbers K (Text b ∷ Text bytes ∷ rest) = inr refl
two_numbers K (Text b ∷ Code unit ∷ rest) = inr refl
two_numbers K (Code n ∷ Int x ∷ rest) = inr refl
two_numbers K (Code n ∷ Ref k view ∷ rest) = inr refl
two_numbers K (Code n ∷ Text bytes ∷ rest) = inr refl
two_numbers K (Code n ∷ Code unit ∷ rest) = inr refl

module _ (program : FlatProgram) (p : Places) (used heap : ℕ) (u : FlatUnit) (at : ℕ) (loop : Loop) (h : Here) (below : Stack) (w : FlatWorld) (r : elf.Run) (s : Seen) (v : Sees p.loaded r s) (a : AtOp p used heap u at loop h Bottom below w s) (no_body : is_body u ≡ false) where
  -- what follows the operation
  abbrev pub Next : Config
  Next = unpaid_step program (Run u at loop h Bottom below w)

  -- the effect of an operation on a stack
  abbrev pub Effect : FlatOp → List FlatValue → Config
  Effect op st = finish program ((doing program op (self_of u h.locals) st h.status w).act w) (way_of op) (failure_of op) u at loop h Bottom below

  pub next_is : (op : FlatOp) (st : List FlatValue) → slice_get u.ops at ≡ Some op → h.stack ≡ st → Next ≡ Effect op st
  next_is op st e1 e2 = ap (λ o. (op_deed program o u at loop h Bottom below w).act w) e1 ∙ ap (λ l. Effect op l) e2

  -- the law's claim at a configuration that follows
  abbrev pub Claim : (words : ℕ) → Config → Type 0
  Claim words c = Leads p.loaded r words (Stands p used heap c)

  pub claim : (words : ℕ) (c : Config) → Next ≡ c → Claim words c → Claim words Next
  claim words c e l = subst (Claim words) (sym e) l

  -- a run that is stuck
  pub never : (words : ℕ) (c : Config) → Next ≡ c → end_of_config c ≡ Trapped → end_of_config Next ≢ Trapped → Claim words Next
  never words c e t ok = absurd (ok (ap end_of_config e ∙ t))

  pub row_here : (op : FlatOp) (q : Rule p u at op (length h.stack)) → HasRow p.loaded s.pc q.to q.number (row op (length h.stack))
  row_here op q = subst (λ pc. HasRow p.loaded pc q.to q.number (row op (length h.stack))) (sym a.pc_is) q.row_is

  -- a way to a label within the unit
  pub go_is : (l : ℕ) (h2 : Here) → l < length u.ops → go_to l u h2 Bottom below w ≡ Run u l NoLoop h2 Bottom below w
  go_is l h2 lt = let e : nat_lt l (length u.ops) ≡ true = lt-ltb l (length u.ops) lt in rw (e, no_body) refl

  pub fail_is : (l : ℕ) (x : Status) → l < length u.ops → fail_to (Some l) u at x h.locals Bottom below w ≡ Run u l NoLoop (record { stack = []; locals = h.locals; status = x }) Bottom below w
  fail_is l x lt =
      let e : nat_eq l (length u.ops) ≡ false = ne_eqb l (length u.ops) (λ q. omega arith) in
      let e2 : handler u at l ≡ Some l = rw e refl in
      rw e2 (go_is l (record { stack = []; locals = h.locals; status = x }) lt)

  word_step : (n : ℕ) → n < 4294967296 → Rule p u at (OpWord n) (length h.stack) → Claim (length (row (OpWord n) (length h.stack))) Next
  word_step n lt q =
      let k1 = q.enough in
      let k2 = q.limit in
      claim _ _ (next_is (OpWord n) h.stack q.op_is refl) (word_law p used heap u at loop h below w r s v a q.to q.number n lt (omega arith) (omega arith) (row_here (OpWord n) q) (q.next_is refl))

  local_step : (k : ℕ) → Rule p u at (OpLocal k) (length h.stack) → end_of_config Next ≢ Trapped → Claim (length (row (OpLocal k) (length h.stack))) Next
  local_step k q ok = by_word (slice_get h.locals k) refl
    where
      e0 : (o : Option (Option FlatValue)) → slice_get h.locals k ≡ o → Next ≡ loaded o u at h Bottom below w
      e0 o e = next_is (OpLocal k) h.stack q.op_is refl ∙ ap (λ x. loaded x u at h Bottom below w) e

      by_word : (o : Option (Option FlatValue)) → slice_get h.locals k ≡ o → Claim (length (row (OpLocal k) (length h.stack))) Next
      by_word None e = never _ _ (e0 None e) refl ok
      by_word (Some None) e = never _ _ (e0 (Some None) e) refl ok
      by_word (Some (Some x)) e =
          let k1 = q.enough in
          let k2 = q.limit in
          let k3 = q.words in
          let k4 = ltb-true k (words_of u) q.in_range in
          claim _ _ (e0 (Some (Some x)) e) (local_law p used heap u at loop h below w r s v a q.to q.number k x e (omega arith) (omega arith) (omega arith) (row_here (OpLocal k) q) (q.next_is refl))

  set_step : (k : ℕ) → Rule p u at (OpSet k) (length h.stack) → end_of_config Next ≢ Trapped → Claim (length (row (OpSet k) (length h.stack))) Next
  set_step k q ok = by_stack h.stack refl
    where
      by_stack : (st : List FlatValue) → h.stack ≡ st → Claim (length (row (OpSet k) (length h.stack))) Next
      by_stack [] e = never _ _ (next_is (OpSet k) [] q.op_is e) refl ok
      by_stack (x ∷ rest) e =
          let k1 = q.deep in
          let k2 = q.limit in
          let k3 = q.words in
          let k4 = ltb-true k (words_of u) q.in_range in
          let n : length h.stack ≡ suc (length rest) = ap length e in
          let count = a.works.count in
          let within : nat_lt k (length h.locals) ≡ true = lt-ltb k (length h.locals) (omega arith) in
          let row_is : row (OpSet k) (length h.stack) ≡ set_at k (length rest) = one_place (set_at k) (length h.stack) (length rest) n in
          let c2 : Config = Run u (at + 1) NoLoop (record { stack = rest; locals = set h.locals k (Some x); status = h.status }) Bottom below w in
          let e1 : Next ≡ c2 = next_is (OpSet k) (x ∷ rest) q.op_is e ∙ ap (λ (b : Bool). if b then c2 else stuck w) within in
          claim _ _ e1 (subst (λ l. Claim (length l) c2) (sym row_is) (set_law p used heap u at loop h below w r s v a q.to q.number k x rest e k4 (omega arith) (omega arith) (omega arith)
          (subst (HasRow p.loaded s.pc q.to q.number) row_is (row_here (OpSet k) q)) (q.next_is refl ∙ ap (λ l. p.op_at u.name at + 4 * length l) row_is)))

  drop_step : Rule p u at OpDrop (length h.stack) → end_of_config Next ≢ Trapped → Claim (length (row OpDrop (length h.stack))) Next
  drop_step q ok = by_stack h.stack refl
    where
      by_stack : (st : List FlatValue) → h.stack ≡ st → Claim (length (row OpDrop (length h.stack))) Next
      by_stack [] e = never _ _ (next_is OpDrop [] q.op_is e) refl ok
      by_stack (x ∷ rest) e =
          let stk : StackIs p a.heap_at (cell s a.sb) (x ∷ rest) = subst (StackIs p a.heap_at (cell s a.sb)) e a.works.stack_is in
          claim _ _ (next_is OpDrop (x ∷ rest) q.op_is e) (nothing_law p used heap u at loop h below w r s v a q.to q.number rest stk.1 (row_here OpDrop q) (q.next_is refl))

  turn_step : Rule p u at OpTurn (length h.stack) → Claim (length (row OpTurn (length h.stack))) Next
  turn_step q = claim _ _ (next_is OpTurn h.stack q.op_is refl) (nothing_law p used heap u at loop h below w r s v a q.to q.number h.stack a.works.stack_is (row_here OpTurn q) (q.next_is refl))

  go_step : (l : ℕ) → Rule p u at (OpGo l) (length h.stack) → Claim (length (row (OpGo l) (length h.stack))) Next
  go_step l q =
      let to = q.way_is l refl in
      claim _ _ (next_is (OpGo l) h.stack q.op_is refl ∙ go_is l (record { stack = h.stack; locals = h.locals; status = h.status }) to.inside)
      (go_law p used heap u at loop h below w r s v a q.to q.number l (row_here (OpGo l) q) to.aligned to.below to.there)

  unless_step : (l : ℕ) → Rule p u at (OpUnless l) (length h.stack) → end_of_config Next ≢ Trapped → Claim (length (row (OpUnless l) (length h.stack))) Next
  unless_step l q ok = by_stack h.stack refl
    where
      on : (x : ℤ) (rest : List FlatValue) → h.stack ≡ Int x ∷ rest → (x ≡ pos 0 → ⊥) → Effect (OpUnless l) (Int x ∷ rest) ≡ Run u (at + 1) NoLoop (record { stack = rest; locals = h.locals; status = h.status }) Bottom below w → Claim (length (row (OpUnless l) (length h.stack))) Next
      on x rest e ne e2 =
          let k1 = q.deep in
          let k2 = q.limit in
          let n : length h.stack ≡ suc (length rest) = ap length e in
          let row_is : row (OpUnless l) (length h.stack) ≡ unless_at (length rest) = one_place unless_at (length h.stack) (length rest) n in
          let c2 : Config = Run u (at + 1) NoLoop (record { stack = rest; locals = h.locals; status = h.status }) Bottom below w in
          claim _ c2 (next_is (OpUnless l) (Int x ∷ rest) q.op_is e ∙ e2) (subst (λ m. Claim (length m) c2) (sym row_is) (unless_on p used heap u at loop h below w r s v a q.to q.number x rest e ne (omega arith) (omega arith)
          (subst (HasRow p.loaded s.pc q.to q.number) row_is (row_here (OpUnless l) q)) (q.next_is refl ∙ ap (λ m. p.op_at u.name at + 4 * length m) row_is)))

      taken : (rest : List FlatValue) → h.stack ≡ Int (pos 0) ∷ rest → Claim (length (row (OpUnless l) (length h.stack))) Next
      taken rest e =
          let k1 = q.deep in
          let k2 = q.limit in
          let to = q.way_is l refl in
          let n : length h.stack ≡ suc (length rest) = ap length e in
          let row_is : row (OpUnless l) (length h.stack) ≡ unless_at (length rest) = one_place unless_at (length h.stack) (length rest) n in
          let c2 : Config = Run u l NoLoop (record { stack = rest; locals = h.locals; status = h.status }) Bottom below w in
          claim _ c2 (next_is (OpUnless l) (Int (pos 0) ∷ rest) q.op_is e ∙ go_is l (record { stack = rest; locals = h.locals; status = h.status }) to.inside) (subst (λ m. Claim (length m) c2) (sym row_is) (unless_taken p used heap u at loop h below w r s v a q.to q.number (pos 0) rest l e refl (omega arith) (omega arith)
          (subst (HasRow p.loaded s.pc q.to q.number) row_is (row_here (OpUnless l) q)) to.aligned to.below to.there))

      by_number : (x : ℤ) (rest : List FlatValue) → h.stack ≡ Int x ∷ rest → Claim (length (row (OpUnless l) (length h.stack))) Next
      by_number (pos zero) rest e = taken rest e
      by_number (pos (suc m)) rest e = on (pos (suc m)) rest e (λ z. cc) refl
      by_number (negsuc m) rest e = on (negsuc m) rest e (λ z. cc) refl

      by_stack : (st : List FlatValue) → h.stack ≡ st → Claim (length (row (OpUnless l) (length h.stack))) Next
      by_stack [] e = never _ _ (next_is (OpUnless l) [] q.op_is e) refl ok
      by_stack (Int x ∷ rest) e = by_number x rest e
      by_stack (Ref k view ∷ rest) e = never _ _ (next_is (OpUnless l) (Ref k view ∷ rest) q.op_is e) refl ok
      by_stack (Text bytes ∷ rest) e = never _ _ (next_is (OpUnless l) (Text bytes ∷ rest) q.op_is e) refl ok
      by_stack (Code unit ∷ rest) e = never _ _ (next_is (OpUnless l) (Code unit ∷ rest) q.op_is e) refl ok

  compare_step : (c : ℕ) → Rule p u at (OpCompare c) (length h.stack) → end_of_config Next ≢ Trapped → Claim (length (row (OpCompare c) (length h.stack))) Next
  compare_step c q ok = by_stack (two_numbers (λ x y st1. free (λ w1. Falls (truth (holds c x y) ∷ st1) h.status w1)) h.stack)
    where
      both : (x y : ℤ) (rest : List FlatValue) → h.stack ≡ Int y ∷ Int x ∷ rest → Claim (length (row (OpCompare c) (length h.stack))) Next
      both x y rest e =
          let k1 = q.deep in
          let k2 = q.limit in
          let k3 = leb-true c 5 q.in_range in
          let n : length h.stack ≡ suc (suc (length rest)) = ap length e in
          let row_is : row (OpCompare c) (length h.stack) ≡ compare_at c (length rest) = two_places (λ i j. fetched (home i) 5 ++ (fetched (home j) 6 ++ (compare_code c (register_of (home i) 7) (register_of (home i) 5) (register_of (home j) 6) ++ kept (home i) 7))) (length h.stack) (length rest) n in
          let c2 : Config = Run u (at + 1) NoLoop (record { stack = truth (holds c x y) ∷ rest; locals = h.locals; status = h.status }) Bottom below w in
          claim _ c2 (next_is (OpCompare c) (Int y ∷ Int x ∷ rest) q.op_is e) (subst (λ m. Claim (length m) c2) (sym row_is) (compare_law p used heap u at loop h below w r s v a q.to q.number c x y rest k3 e (omega arith) (omega arith)
          (subst (HasRow p.loaded s.pc q.to q.number) row_is (row_here (OpCompare c) q)) (q.next_is refl ∙ ap (λ m. p.op_at u.name at + 4 * length m) row_is)))

      other : off_two h.stack (λ b c0 st1. on_int b (λ x. on_int c0 (λ y. free (λ w1. Falls (truth (holds c x y) ∷ st1) h.status w1)))) ≡ stuck_act → Claim (length (row (OpCompare c) (length h.stack))) Next
      other e = never _ (Over (Halts Stuck) w) (next_is (OpCompare c) h.stack q.op_is refl ∙ ap (λ (d : Deed Act). finish program (d.act w) None None u at loop h Bottom below) e) refl ok

      by_stack : Ints h.stack ⊎ (off_two h.stack (λ b c0 st1. on_int b (λ x. on_int c0 (λ y. free (λ w1. Falls (truth (holds c x y) ∷ st1) h.status w1)))) ≡ stuck_act) → Claim (length (row (OpCompare c) (length h.stack))) Next
      by_stack (inl i) = both i.x i.y i.rest i.is
      by_stack (inr e) = other e

  -- a sum, a difference or a product
  effect_fits : (b : Kind) (x y : ℤ) (rest : List FlatValue) (l : ℕ) → fits_word (number_of b x y) ≡ true → Effect (OpArith (op_of b) l) (Int y ∷ Int x ∷ rest) ≡ Run u (at + 1) NoLoop (record { stack = Int (number_of b x y) ∷ rest; locals = h.locals; status = h.status }) Bottom below w
  effect_fits Sum x y rest l e = ap (λ (t : Bool). finish program (push_number (if t then Did (x +ℤ y) w else Fails overflow w) rest h.status) None (Some l) u at loop h Bottom below) e
  effect_fits Difference x y rest l e = ap (λ (t : Bool). finish program (push_number (if t then Did (x -ℤ y) w else Fails overflow w) rest h.status) None (Some l) u at loop h Bottom below) e
  effect_fits Product x y rest l e = ap (λ (t : Bool). finish program (push_number (if t then Did (x *ℤ y) w else Fails overflow w) rest h.status) None (Some l) u at loop h Bottom below) e

  effect_over : (b : Kind) (x y : ℤ) (rest : List FlatValue) (l : ℕ) → fits_word (number_of b x y) ≡ false → Effect (OpArith (op_of b) l) (Int y ∷ Int x ∷ rest) ≡ fail_to (Some l) u at (Thrown overflow None) h.locals Bottom below w
  effect_over Sum x y rest l e = ap (λ (t : Bool). finish program (push_number (if t then Did (x +ℤ y) w else Fails overflow w) rest h.status) None (Some l) u at loop h Bottom below) e
  effect_over Difference x y rest l e = ap (λ (t : Bool). finish program (push_number (if t then Did (x -ℤ y) w else Fails overflow w) rest h.status) None (Some l) u at loop h Bottom below) e
  effect_over Product x y rest l e = ap (λ (t : Bool). finish program (push_number (if t then Did (x *ℤ y) w else Fails overflow w) rest h.status) None (Some l) u at loop h Bottom below) e

  abbrev checked_at : (g : ℕ) → ℕ → ℕ → List PatternWord
  checked_at g i j = fetched (home i) 5 ++ (fetched (home j) 6 ++ (checked_code g (register_of (home i) 5) (register_of (home j) 6) ++ (fail Overflow ++ (moved (home i) 7 ∷ []))))

  sum_row : (b : Kind) (l : ℕ) (place : ℕ) → length h.stack ≡ suc (suc place) → row (OpArith (op_of b) l) (length h.stack) ≡ sum_at b place
  sum_row Sum l place n = two_places (checked_at 0) (length h.stack) place n
  sum_row Difference l place n = two_places (checked_at 1) (length h.stack) place n
  sum_row Product l place n = two_places (checked_at 2) (length h.stack) place n

  goes_on : (b : Kind) (l : ℕ) → IsTrue (shape_of (OpArith (op_of b) l)).next
  goes_on Sum l = refl
  goes_on Difference l = refl
  goes_on Product l = refl

  sum_step : (b : Kind) (l : ℕ) (x y : ℤ) (rest : List FlatValue) → Rule p u at (OpArith (op_of b) l) (length h.stack) → h.stack ≡ Int y ∷ Int x ∷ rest → Claim (length (row (OpArith (op_of b) l) (length h.stack))) Next
  sum_step b l x y rest q e = by_fit (cases_Bool (fits_word (number_of b x y)))
    where
      by_fit : (fits_word (number_of b x y) ≡ true) ⊎ (fits_word (number_of b x y) ≡ false) → Claim (length (row (OpArith (op_of b) l) (length h.stack))) Next
      by_fit (inl f) =
          let k1 = q.deep in
          let k2 = q.limit in
          let n : length h.stack ≡ suc (suc (length rest)) = ap length e in
          let row_is = sum_row b l (length rest) n in
          let c2 : Config = Run u (at + 1) NoLoop (record { stack = Int (number_of b x y) ∷ rest; locals = h.locals; status = h.status }) Bottom below w in
          claim _ c2 (next_is (OpArith (op_of b) l) (Int y ∷ Int x ∷ rest) q.op_is e ∙ effect_fits b x y rest l f) (subst (λ m. Claim (length m) c2) (sym row_is) (sum_fits_law p used heap u at loop h below w r s v a q.to q.number b x y rest e f (omega arith) (omega arith)
          (subst (HasRow p.loaded s.pc q.to q.number) row_is (row_here (OpArith (op_of b) l) q)) (q.next_is (goes_on b l) ∙ ap (λ m. p.op_at u.name at + 4 * length m) row_is)))
      by_fit (inr f) =
          let k1 = q.deep in
          let k2 = q.limit in
          let to = q.failure_is l refl in
          let n : length h.stack ≡ suc (suc (length rest)) = ap length e in
          let row_is = sum_row b l (length rest) n in
          let c2 : Config = Run u l NoLoop (record { stack = []; locals = h.locals; status = Thrown overflow None }) Bottom below w in
          claim _ c2 (next_is (OpArith (op_of b) l) (Int y ∷ Int x ∷ rest) q.op_is e ∙ effect_over b x y rest l f ∙ fail_is l (Thrown overflow None) to.inside) (subst (λ m. Claim (length m) c2) (sym row_is) (sum_over_law p used heap u at loop h below w r s v a q.to q.number b x y rest l e f (omega arith) (omega arith)
          (subst (HasRow p.loaded s.pc q.to q.number) row_is (row_here (OpArith (op_of b) l) q)) to.aligned to.below to.there (q.named Overflow)))

  -- what an operation on two numbers does with them
  abbrev Gives : (b : Kind) → ℤ → ℤ → List FlatValue → Deed Act
  Gives Sum x y st = free (λ w1. push_number (sum x y w1) st h.status)
  Gives Difference x y st = free (λ w1. push_number (difference x y w1) st h.status)
  Gives Product x y st = free (λ w1. push_number (product x y w1) st h.status)

  arith_step : (b : Kind) (l : ℕ) → Rule p u at (OpArith (op_of b) l) (length h.stack) → end_of_config Next ≢ Trapped → Claim (length (row (OpArith (op_of b) l) (length h.stack))) Next
  arith_step b l q ok = by_stack b q (two_numbers (Gives b) h.stack)
    where
      by_stack : (b : Kind) → Rule p u at (OpArith (op_of b) l) (length h.stack) → Ints h.stack ⊎ (off_two h.stack (λ b1 c0 st1. on_int b1 (λ x. on_int c0 (λ y. Gives b x y st1))) ≡ stuck_act) → Claim (length (row (OpArith (op_of b) l) (length h.stack))) Next
      by_stack b q (inl i) = sum_step b l i.x i.y i.rest q i.is
      by_stack Sum q (inr e) = never _ (Over (Halts Stuck) w) (next_is (OpArith 0 l) h.stack q.op_is refl ∙ ap (λ (d : Deed Act). finish program (d.act w) None (Some l) u at loop h Bottom below) e) refl ok
      by_stack Difference q (inr e) = never _ (Over (Halts Stuck) w) (next_is (OpArith 1 l) h.stack q.op_is refl ∙ ap (λ (d : Deed Act). finish program (d.act w) None (Some l) u at loop h Bottom below) e) refl ok
      by_stack Product q (inr e) = never _ (Over (Halts Stuck) w) (next_is (OpArith 2 l) h.stack q.op_is refl ∙ ap (λ (d : Deed Act). finish program (d.act w) None (Some l) u at loop h Bottom below) e) refl ok

pub word_row_law : (n : ℕ) → n < 4294967296 → RowLaw (OpWord n)
word_row_law n lt program p used heap u at loop h below w r s q nb v a ok = word_step program p used heap u at loop h below w r s v a nb n lt q

pub local_row_law : (k : ℕ) → RowLaw (OpLocal k)
local_row_law k program p used heap u at loop h below w r s q nb v a ok = local_step program p used heap u at loop h below w r s v a nb k q ok

pub set_row_law : (k : ℕ) → RowLaw (OpSet k)
set_row_law k program p used heap u at loop h below w r s q nb v a ok = set_step program p used heap u at loop h below w r s v a nb k q ok

pub drop_row_law : RowLaw OpDrop
drop_row_law program p used heap u at loop h below w r s q nb v a ok = drop_step program p used heap u at loop h below w r s v a nb q ok

pub turn_row_law : RowLaw OpTurn
turn_row_law program p used heap u at loop h below w r s q nb v a ok = turn_step program p used heap u at loop h below w r s v a nb q

pub go_row_law : (l : ℕ) → RowLaw (OpGo l)
go_row_law l program p used heap u at loop h below w r s q nb v a ok = go_step program p used heap u at loop h below w r s v a nb l q

pub unless_row_law : (l : ℕ) → RowLaw (OpUnless l)
unless_row_law l program p used heap u at loop h below w r s q nb v a ok = unless_step program p used heap u at loop h below w r s v a nb l q ok

pub compare_row_law : (c : ℕ) → RowLaw (OpCompare c)
compare_row_law c program p used heap u at loop h below w r s q nb v a ok = compare_step program p used heap u at loop h below w r s v a nb c q ok

pub add_row_law : (l : ℕ) → RowLaw (OpArith 0 l)
add_row_law l program p used heap u at loop h below w r s q nb v a ok = arith_step program p used heap u at loop h below w r s v a nb Sum l q ok

pub subtract_row_law : (l : ℕ) → RowLaw (OpArith 1 l)
subtract_row_law l program p used heap u at loop h below w r s q nb v a ok = arith_step program p used heap u at loop h below w r s v a nb Difference l q ok

pub multiply_row_law : (l : ℕ) → RowLaw (OpArith 2 l)
multiply_row_law l program p used heap u at loop h below w r s q nb v a ok = arith_step program p used heap u at loop h below w r s v a nb Product l q ok
