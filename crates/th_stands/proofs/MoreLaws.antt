-- The laws of the rows of the opposite, of quotients and remainders, and of bytes put and taken.
use Rattle.std.proofs.Common.{◌≡◌, ◌≢◌, ℕ, suc, ◌+◌, ◌*◌, ◌<◌, List, [], ◌∷◌, ◌++◌, length, Some, None, Bool, true, false, nat_lt, nat_eq, refl, sym, ap, ◌∙◌, subst, ◌⊎◌, inl, inr, ⊎_elim, arith}
use Rattle.std.specs.Prelude.{slice_get, ℤ, pos, negsuc, if◌then◌else◌, neg_ℤ, int_div, int_rem, IsTrue}
use Rattle.std.proofs.lemmas.Bool.{cases_Bool, lt-ltb, ltb-true, ltb-false, ne_eqb}
use Rattle.std.specs.Fmt.{signed_decimal}
use Rattle.th_world.specs.Event.{Put, Took, FoundEnd}
use Rattle.th_runs.specs.Stand.{Trapped}
use Rattle.th_elf.specs.Run as elf
use Rattle.th_meaning.specs.World.{fits_word, is_zero, overflow, zero_divide, bounds, end_of_input, Did, Fails, Stuck, unless_overflow, quotient, remainder, put_all, note, take_of}
use Rattle.th_flat.specs.declared.op.FlatOp.{FlatOp}
use Rattle.th_flat.specs.declared.op.FlatOp.TheVariants.{OpArith, OpPutbyte, OpPutint, OpGet}
use Rattle.th_flat.specs.declared.module.FlatUnit.{FlatUnit}
use Rattle.th_flat.specs.Values.{FlatValue, Int, Ref, Text, Code, FlatWorld, Status, Thrown}
use Rattle.th_flat.specs.Program.{FlatProgram}
use Rattle.th_flat.specs.Deeds.{Act, Falls, Deed, free, stuck_act, on_effect, off_two, on_int, push_number, doing}
use Rattle.th_flat.specs.Effects.{shape_of}
use Rattle.th_flat.specs.Configs.{Loop, NoLoop, Here, Stack, Bottom, Halts, Config, Run, Over, self_of, is_body, handler, fail_to, finish, op_deed}
use Rattle.th_flat.specs.Runs.{end_of_config, turns_of, cost}
use Rattle.th_abi.specs.declared.word.PatternWord.{PatternWord}
use Rattle.th_abi.specs.declared.word.Failure.TheVariants.{Overflow, ZeroDivide, Bounds, EndOfInput}
use Rattle.th_abi.specs.Sequences.{home, register_of, fetched, moved}
use Rattle.th_abi.specs.Numbers.{division, division_tests}
use Rattle.th_abi.specs.Table.{row}
use Rattle.th_stands.specs.Seen.{Seen, Sees}
use Rattle.th_stands.specs.Places.{HasRow}
use Rattle.th_stands.specs.Stands.{Places, AtOp}
use Rattle.th_stands.specs.Law.{LeadsLater}
use Rattle.th_stands.specs.Laws.{Rule, Stands, RowLaw, PutIntLaw}
use Rattle.th_stands.proofs.Laws as laws
use Rattle.th_stands.proofs.Laws.{one_place, two_places, Ints, two_numbers}
use Rattle.th_stands.proofs.Divisions.{op_of, number_of, division_at, division_law, division_zero_law, division_over_law}
use Rattle.th_stands.proofs.Opposite.{opposite_at, opposite_fits_law, opposite_over_law}
use Rattle.th_stands.proofs.PutInts.{put_int_at, put_int_law}
use Rattle.th_stands.proofs.Outside.{put_at, put_some, put_over, get_some, get_none}

no_byte_number : (n k : ℕ) → nat_lt n 256 ≡ false → k < 256 → pos n ≡ pos k → ⊥
no_byte_number n k f lt z = let le = ltb-false n 256 f in let e : n ≡ k = same_number z in omega arith
  where
    same_number : pos n ≡ pos k → n ≡ k
    same_number q = cc

no_byte_negative : (n k : ℕ) → negsuc n ≡ pos k → ⊥
no_byte_negative n k z = cc

module _ (program : FlatProgram) (p : Places) (used heap : ℕ) (u : FlatUnit) (at : ℕ) (loop : Loop) (h : Here) (below : Stack) (w : FlatWorld) (r : elf.Run) (s : Seen) (v : Sees p.loaded r s) (a : AtOp p used heap u at loop h Bottom below w s) (no_body : is_body u ≡ false) where
  abbrev Next : Config
  Next = laws.Next program p used heap u at loop h below w r s v a no_body

  abbrev Effect : FlatOp → List FlatValue → Config
  Effect = laws.Effect program p used heap u at loop h below w r s v a no_body

  abbrev Claim : (words : ℕ) → Config → Type 0
  Claim = laws.Claim program p used heap u at loop h below w r s v a no_body

  abbrev Cost : FlatProgram → ℕ
  Cost q = cost q (Run u at loop h Bottom below w)

  next_is : (op : FlatOp) (st : List FlatValue) → slice_get u.ops at ≡ Some op → h.stack ≡ st → Next ≡ Effect op st
  next_is = laws.next_is program p used heap u at loop h below w r s v a no_body

  claim : (words : ℕ) (c : Config) → Next ≡ c → Claim words c → Claim words Next
  claim = laws.claim program p used heap u at loop h below w r s v a no_body

  never : (words : ℕ) (c : Config) → Next ≡ c → end_of_config c ≡ Trapped → end_of_config Next ≢ Trapped → Claim words Next
  never = laws.never program p used heap u at loop h below w r s v a no_body

  row_here : (op : FlatOp) (q : Rule p u at op (length h.stack)) → HasRow p.loaded s.pc q.to q.number (row op (length h.stack))
  row_here = laws.row_here program p used heap u at loop h below w r s v a no_body

  fail_is : (l : ℕ) (x : Status) → l < length u.ops → fail_to (Some l) u at x h.locals Bottom below w ≡ Run u l NoLoop (record { stack = []; locals = h.locals; status = x }) Bottom below w
  fail_is = laws.fail_is program p used heap u at loop h below w r s v a no_body

  fail_in : (l : ℕ) (x : Status) → l < length u.ops → (w2 : FlatWorld) → fail_to (Some l) u at x h.locals Bottom below w2 ≡ Run u l NoLoop (record { stack = []; locals = h.locals; status = x }) Bottom below w2
  fail_in l x lt w2 =
      let e : nat_eq l (length u.ops) ≡ false = ne_eqb l (length u.ops) (λ q. omega arith) in
      let e2 : handler u at l ≡ Some l = rw e refl in
      let e3 : nat_lt l (length u.ops) ≡ true = lt-ltb l (length u.ops) lt in
      rw e2 (rw (e3, no_body) refl)

  -- the opposite
  opposite_step : (l : ℕ) → Rule p u at (OpArith 5 l) (length h.stack) → end_of_config Next ≢ Trapped → Claim (length (row (OpArith 5 l) (length h.stack))) Next
  opposite_step l q ok = by_stack h.stack refl
    where
      effect : (x : ℤ) (rest : List FlatValue) (b : Bool) → fits_word (neg_ℤ x) ≡ b → Effect (OpArith 5 l) (Int x ∷ rest) ≡ finish program (push_number (if b then Did (neg_ℤ x) w else Fails overflow w) rest h.status) None (Some l) u at loop h Bottom below
      effect x rest b e = ap (λ (t : Bool). finish program (push_number (if t then Did (neg_ℤ x) w else Fails overflow w) rest h.status) None (Some l) u at loop h Bottom below) e

      row_of : (rest : List FlatValue) → length h.stack ≡ suc (length rest) → row (OpArith 5 l) (length h.stack) ≡ opposite_at (length rest)
      row_of rest n = one_place opposite_at (length h.stack) (length rest) n

      by_fit : (x : ℤ) (rest : List FlatValue) → h.stack ≡ Int x ∷ rest → (fits_word (neg_ℤ x) ≡ true) ⊎ (fits_word (neg_ℤ x) ≡ false) → Claim (length (row (OpArith 5 l) (length h.stack))) Next
      by_fit x rest e (inl f) =
          let k1 = q.deep in
          let k2 = q.limit in
          let n : length h.stack ≡ suc (length rest) = ap length e in
          let row_is = row_of rest n in
          let c2 : Config = Run u (at + 1) NoLoop (record { stack = Int (neg_ℤ x) ∷ rest; locals = h.locals; status = h.status }) Bottom below w in
          claim _ c2 (next_is (OpArith 5 l) (Int x ∷ rest) q.op_is e ∙ effect x rest true f) (subst (λ m. Claim (length m) c2) (sym row_is) (opposite_fits_law p used heap u at loop h below w r s v a q.to q.number x rest e f (omega arith) (omega arith)
          (subst (HasRow p.loaded s.pc q.to q.number) row_is (row_here (OpArith 5 l) q)) (q.next_is refl ∙ ap (λ m. p.op_at u.name at + 4 * length m) row_is)))
      by_fit x rest e (inr f) =
          let k1 = q.deep in
          let k2 = q.limit in
          let to = q.failure_is l refl in
          let n : length h.stack ≡ suc (length rest) = ap length e in
          let row_is = row_of rest n in
          let c2 : Config = Run u l NoLoop (record { stack = []; locals = h.locals; status = Thrown overflow None }) Bottom below w in
          claim _ c2 (next_is (OpArith 5 l) (Int x ∷ rest) q.op_is e ∙ effect x rest false f ∙ fail_is l (Thrown overflow None) to.inside) (subst (λ m. Claim (length m) c2) (sym row_is) (opposite_over_law p used heap u at loop h below w r s v a q.to q.number x rest l e f (omega arith) (omega arith)
          (subst (HasRow p.loaded s.pc q.to q.number) row_is (row_here (OpArith 5 l) q)) to.aligned to.below to.there (q.named Overflow)))

      by_stack : (st : List FlatValue) → h.stack ≡ st → Claim (length (row (OpArith 5 l) (length h.stack))) Next
      by_stack [] e = never _ _ (next_is (OpArith 5 l) [] q.op_is e) refl ok
      by_stack (Int x ∷ rest) e = by_fit x rest e (cases_Bool (fits_word (neg_ℤ x)))
      by_stack (Ref k view ∷ rest) e = never _ _ (next_is (OpArith 5 l) (Ref k view ∷ rest) q.op_is e) refl ok
      by_stack (Text bytes ∷ rest) e = never _ _ (next_is (OpArith 5 l) (Text bytes ∷ rest) q.op_is e) refl ok
      by_stack (Code unit ∷ rest) e = never _ _ (next_is (OpArith 5 l) (Code unit ∷ rest) q.op_is e) refl ok

  -- a quotient or a remainder
  division_zero : (b : Bool) (x y : ℤ) (rest : List FlatValue) (l : ℕ) → is_zero y ≡ true → Effect (OpArith (op_of b) l) (Int y ∷ Int x ∷ rest) ≡ fail_to (Some l) u at (Thrown zero_divide None) h.locals Bottom below w
  division_zero true x y rest l e = ap (λ (t : Bool). finish program (push_number (if t then Fails zero_divide w else unless_overflow (int_div x y) (int_div x y) w) rest h.status) None (Some l) u at loop h Bottom below) e
  division_zero false x y rest l e = ap (λ (t : Bool). finish program (push_number (if t then Fails zero_divide w else unless_overflow (int_div x y) (int_rem x y) w) rest h.status) None (Some l) u at loop h Bottom below) e

  division_fits : (b t : Bool) (x y : ℤ) (rest : List FlatValue) (l : ℕ) → is_zero y ≡ false → fits_word (int_div x y) ≡ t
      → Effect (OpArith (op_of b) l) (Int y ∷ Int x ∷ rest) ≡ finish program (push_number (if t then Did (number_of b x y) w else Fails overflow w) rest h.status) None (Some l) u at loop h Bottom below
  division_fits true t x y rest l e f =
      ap (λ (z : Bool). finish program (push_number (if z then Fails zero_divide w else unless_overflow (int_div x y) (int_div x y) w) rest h.status) None (Some l) u at loop h Bottom below) e
      ∙ ap (λ (z : Bool). finish program (push_number (if z then Did (int_div x y) w else Fails overflow w) rest h.status) None (Some l) u at loop h Bottom below) f
  division_fits false t x y rest l e f =
      ap (λ (z : Bool). finish program (push_number (if z then Fails zero_divide w else unless_overflow (int_div x y) (int_rem x y) w) rest h.status) None (Some l) u at loop h Bottom below) e
      ∙ ap (λ (z : Bool). finish program (push_number (if z then Did (int_rem x y) w else Fails overflow w) rest h.status) None (Some l) u at loop h Bottom below) f

  abbrev quotient_row : (b : Bool) → ℕ → ℕ → List PatternWord
  quotient_row b i j = fetched (home i) 5 ++ (fetched (home j) 6 ++ (division_tests (register_of (home i) 5) (register_of (home j) 6) ++ (division b (register_of (home i) 5) (register_of (home j) 6) ∷ (moved (home i) 7 ∷ []))))

  row_of : (b : Bool) (l place : ℕ) → length h.stack ≡ suc (suc place) → row (OpArith (op_of b) l) (length h.stack) ≡ division_at b place
  row_of true l place n = two_places (quotient_row true) (length h.stack) place n
  row_of false l place n = two_places (quotient_row false) (length h.stack) place n

  goes_on : (b : Bool) (l : ℕ) → IsTrue (shape_of (OpArith (op_of b) l)).next
  goes_on true l = refl
  goes_on false l = refl

  division_step : (b : Bool) (l : ℕ) (x y : ℤ) (rest : List FlatValue) → Rule p u at (OpArith (op_of b) l) (length h.stack) → h.stack ≡ Int y ∷ Int x ∷ rest → Claim (length (row (OpArith (op_of b) l) (length h.stack))) Next
  division_step b l x y rest q e = by_divisor (cases_Bool (is_zero y))
    where
      n : length h.stack ≡ suc (suc (length rest))
      n = ap length e

      here : HasRow p.loaded s.pc q.to q.number (division_at b (length rest))
      here = subst (HasRow p.loaded s.pc q.to q.number) (row_of b l (length rest) n) (row_here (OpArith (op_of b) l) q)

      by_size : (is_zero y ≡ false) → (fits_word (int_div x y) ≡ true) ⊎ (fits_word (int_div x y) ≡ false) → Claim (length (row (OpArith (op_of b) l) (length h.stack))) Next
      by_size nz (inl f) =
          let k1 = q.deep in
          let k2 = q.limit in
          let n1 = n in
          let c2 : Config = Run u (at + 1) NoLoop (record { stack = Int (number_of b x y) ∷ rest; locals = h.locals; status = h.status }) Bottom below w in
          claim _ c2 (next_is (OpArith (op_of b) l) (Int y ∷ Int x ∷ rest) q.op_is e ∙ division_fits b true x y rest l nz f) (subst (λ m. Claim (length m) c2) (sym (row_of b l (length rest) n)) (division_law p used heap u at loop h below w r s v a q.to q.number b x y rest e nz f (omega arith) (omega arith) here
          (q.next_is (goes_on b l) ∙ ap (λ m. p.op_at u.name at + 4 * length m) (row_of b l (length rest) n))))
      by_size nz (inr f) =
          let k1 = q.deep in
          let k2 = q.limit in
          let n1 = n in
          let to = q.failure_is l refl in
          let c2 : Config = Run u l NoLoop (record { stack = []; locals = h.locals; status = Thrown overflow None }) Bottom below w in
          claim _ c2 (next_is (OpArith (op_of b) l) (Int y ∷ Int x ∷ rest) q.op_is e ∙ division_fits b false x y rest l nz f ∙ fail_is l (Thrown overflow None) to.inside) (subst (λ m. Claim (length m) c2) (sym (row_of b l (length rest) n)) (division_over_law p used heap u at loop h below w r s v a q.to q.number b x y rest l e f (omega arith) (omega arith) here to.aligned to.below to.there (q.named Overflow)))

      by_divisor : (is_zero y ≡ true) ⊎ (is_zero y ≡ false) → Claim (length (row (OpArith (op_of b) l) (length h.stack))) Next
      by_divisor (inr nz) = by_size nz (cases_Bool (fits_word (int_div x y)))
      by_divisor (inl z) =
          let k1 = q.deep in
          let k2 = q.limit in
          let n1 = n in
          let to = q.failure_is l refl in
          let c2 : Config = Run u l NoLoop (record { stack = []; locals = h.locals; status = Thrown zero_divide None }) Bottom below w in
          claim _ c2 (next_is (OpArith (op_of b) l) (Int y ∷ Int x ∷ rest) q.op_is e ∙ division_zero b x y rest l z ∙ fail_is l (Thrown zero_divide None) to.inside) (subst (λ m. Claim (length m) c2) (sym (row_of b l (length rest) n)) (division_zero_law p used heap u at loop h below w r s v a q.to q.number b x y rest l e z (omega arith) (omega arith) here to.aligned to.below to.there (q.named ZeroDivide)))

  -- what an operation on two numbers does with them
  abbrev Gives : (b : Bool) → ℤ → ℤ → List FlatValue → Deed Act
  Gives true x y st = free (λ w1. push_number (quotient x y w1) st h.status)
  Gives false x y st = free (λ w1. push_number (remainder x y w1) st h.status)

  divide_step : (b : Bool) (l : ℕ) → Rule p u at (OpArith (op_of b) l) (length h.stack) → end_of_config Next ≢ Trapped → Claim (length (row (OpArith (op_of b) l) (length h.stack))) Next
  divide_step b l q ok = by_stack b q (two_numbers (Gives b) h.stack)
    where
      by_stack : (b : Bool) → Rule p u at (OpArith (op_of b) l) (length h.stack) → Ints h.stack ⊎ (off_two h.stack (λ b1 c0 st1. on_int b1 (λ x. on_int c0 (λ y. Gives b x y st1))) ≡ stuck_act) → Claim (length (row (OpArith (op_of b) l) (length h.stack))) Next
      by_stack b q (inl i) = division_step b l i.x i.y i.rest q i.is
      by_stack true q (inr e) = never _ (Over (Halts Stuck) w) (next_is (OpArith 3 l) h.stack q.op_is refl ∙ ap (λ (d : Deed Act). finish program (d.act w) None (Some l) u at loop h Bottom below) e) refl ok
      by_stack false q (inr e) = never _ (Over (Halts Stuck) w) (next_is (OpArith 4 l) h.stack q.op_is refl ∙ ap (λ (d : Deed Act). finish program (d.act w) None (Some l) u at loop h Bottom below) e) refl ok

  -- a byte put
  put_effect : (n : ℕ) (b : Bool) (rest : List FlatValue) (l : ℕ) → nat_lt n 256 ≡ b → Effect (OpPutbyte l) (Int (pos n) ∷ rest) ≡ finish program (on_effect {A = Unit {0}} (if b then Did tt (note (Put n) w) else Fails bounds w) (λ _ w2. Falls rest h.status w2)) None (Some l) u at loop h Bottom below
  put_effect n b rest l e = ap (λ (t : Bool). finish program (on_effect {A = Unit {0}} (if t then Did tt (note (Put n) w) else Fails bounds w) (λ _ w2. Falls rest h.status w2)) None (Some l) u at loop h Bottom below) e

  put_step : (l : ℕ) → Rule p u at (OpPutbyte l) (length h.stack) → end_of_config Next ≢ Trapped → Claim (length (row (OpPutbyte l) (length h.stack))) Next
  put_step l q ok = by_stack h.stack refl
    where
      over : (x : ℤ) (rest : List FlatValue) → h.stack ≡ Int x ∷ rest → ((n : ℕ) → n < 256 → x ≡ pos n → ⊥) → Effect (OpPutbyte l) (Int x ∷ rest) ≡ fail_to (Some l) u at (Thrown bounds None) h.locals Bottom below w → Claim (length (row (OpPutbyte l) (length h.stack))) Next
      over x rest e large e2 =
          let k1 = q.deep in
          let k2 = q.limit in
          let to = q.failure_is l refl in
          let n : length h.stack ≡ suc (length rest) = ap length e in
          let row_is : row (OpPutbyte l) (length h.stack) ≡ put_at (length rest) = one_place put_at (length h.stack) (length rest) n in
          let c2 : Config = Run u l NoLoop (record { stack = []; locals = h.locals; status = Thrown bounds None }) Bottom below w in
          claim _ c2 (next_is (OpPutbyte l) (Int x ∷ rest) q.op_is e ∙ e2 ∙ fail_is l (Thrown bounds None) to.inside) (subst (λ m. Claim (length m) c2) (sym row_is) (put_over p used heap u at loop h below w r s v a q.to q.number x rest l e large (omega arith) (omega arith)
          (subst (HasRow p.loaded s.pc q.to q.number) row_is (row_here (OpPutbyte l) q)) to.aligned to.below to.there (q.named Bounds)))

      byte : (n : ℕ) (rest : List FlatValue) → h.stack ≡ Int (pos n) ∷ rest → nat_lt n 256 ≡ true → Claim (length (row (OpPutbyte l) (length h.stack))) Next
      byte n rest e small =
          let k1 = q.deep in
          let k2 = q.limit in
          let m : length h.stack ≡ suc (length rest) = ap length e in
          let row_is : row (OpPutbyte l) (length h.stack) ≡ put_at (length rest) = one_place put_at (length h.stack) (length rest) m in
          let c2 : Config = Run u (at + 1) NoLoop (record { stack = rest; locals = h.locals; status = h.status }) Bottom below (note (Put n) w) in
          claim _ c2 (next_is (OpPutbyte l) (Int (pos n) ∷ rest) q.op_is e ∙ put_effect n true rest l small) (subst (λ k. Claim (length k) c2) (sym row_is) (put_some p used heap u at loop h below w r s v a q.to q.number n rest (note (Put n) w) e (ltb-true n 256 small) refl refl refl (omega arith) (omega arith)
          (subst (HasRow p.loaded s.pc q.to q.number) row_is (row_here (OpPutbyte l) q)) (q.next_is refl ∙ ap (λ k. p.op_at u.name at + 4 * length k) row_is)))

      by_number : (x : ℤ) (rest : List FlatValue) → h.stack ≡ Int x ∷ rest → Claim (length (row (OpPutbyte l) (length h.stack))) Next
      by_number (pos n) rest e = ⊎_elim (λ t. byte n rest e t) (λ f. over (pos n) rest e (λ k lt z. no_byte_number n k f lt z) (put_effect n false rest l f)) (cases_Bool (nat_lt n 256))
      by_number (negsuc n) rest e = over (negsuc n) rest e (λ k lt z. no_byte_negative n k z) refl

      by_stack : (st : List FlatValue) → h.stack ≡ st → Claim (length (row (OpPutbyte l) (length h.stack))) Next
      by_stack [] e = never _ _ (next_is (OpPutbyte l) [] q.op_is e) refl ok
      by_stack (Int x ∷ rest) e = by_number x rest e
      by_stack (Ref k view ∷ rest) e = never _ _ (next_is (OpPutbyte l) (Ref k view ∷ rest) q.op_is e) refl ok
      by_stack (Text bytes ∷ rest) e = never _ _ (next_is (OpPutbyte l) (Text bytes ∷ rest) q.op_is e) refl ok
      by_stack (Code unit ∷ rest) e = never _ _ (next_is (OpPutbyte l) (Code unit ∷ rest) q.op_is e) refl ok

  -- a number put in decimal
  put_int_step : Rule p u at OpPutint (length h.stack) → end_of_config Next ≢ Trapped → LeadsLater p.loaded r (Cost program) (10 * Cost program) (Stands p used heap Next)
  put_int_step q ok = by_stack h.stack refl
    where
      claim_later : (turns : ℕ) (c : Config) → Cost program ≡ turns → Next ≡ c → LeadsLater p.loaded r turns (10 * turns) (Stands p used heap c) → LeadsLater p.loaded r (Cost program) (10 * Cost program) (Stands p used heap Next)
      claim_later turns c e1 e2 l = subst (λ t. LeadsLater p.loaded r t (10 * t) (Stands p used heap Next)) (sym e1) (subst (λ d. LeadsLater p.loaded r turns (10 * turns) (Stands p used heap d)) (sym e2) l)

      cost_is : (st : List FlatValue) → h.stack ≡ st → Cost program ≡ turns_of (doing program OpPutint (self_of u h.locals) st h.status w).charge
      cost_is st e = ap (λ o. turns_of (op_deed program o u at loop h Bottom below w).charge) q.op_is ∙ ap (λ l. turns_of (doing program OpPutint (self_of u h.locals) l h.status w).charge) e

      never_later : (c : Config) → Next ≡ c → end_of_config c ≡ Trapped → LeadsLater p.loaded r (Cost program) (10 * Cost program) (Stands p used heap Next)
      never_later c e t = absurd (ok (ap end_of_config e ∙ t))

      by_stack : (st : List FlatValue) → h.stack ≡ st → LeadsLater p.loaded r (Cost program) (10 * Cost program) (Stands p used heap Next)
      by_stack [] e = never_later _ (next_is OpPutint [] q.op_is e) refl
      by_stack (Int x ∷ rest) e =
          let k1 = q.deep in
          let k2 = q.limit in
          let m : length h.stack ≡ suc (length rest) = ap length e in
          let row_is : row OpPutint (length h.stack) ≡ put_int_at (length rest) = one_place put_int_at (length h.stack) (length rest) m in
          let c2 : Config = Run u (at + 1) NoLoop (record { stack = rest; locals = h.locals; status = h.status }) Bottom below (put_all (signed_decimal x) w) in
          claim_later (length (signed_decimal x) + 1) c2 (cost_is (Int x ∷ rest) e) (next_is OpPutint (Int x ∷ rest) q.op_is e) (put_int_law p used heap u at loop h below w r s v a q.to q.number x rest e (omega arith) (omega arith)
          (subst (HasRow p.loaded s.pc q.to q.number) row_is (row_here OpPutint q)) (q.next_is refl ∙ ap (λ k. p.op_at u.name at + 4 * length k) row_is))
      by_stack (Ref k view ∷ rest) e = never_later _ (next_is OpPutint (Ref k view ∷ rest) q.op_is e) refl
      by_stack (Text bytes ∷ rest) e = never_later _ (next_is OpPutint (Text bytes ∷ rest) q.op_is e) refl
      by_stack (Code unit ∷ rest) e = never_later _ (next_is OpPutint (Code unit ∷ rest) q.op_is e) refl

  -- a byte taken
  get_step : (l : ℕ) → Rule p u at (OpGet l) (length h.stack) → Claim (length (row (OpGet l) (length h.stack))) Next
  get_step l q = by_input w.input refl
    where
      e0 : (i : List ℕ) → w.input ≡ i → Next ≡ finish program (push_number (take_of i w) h.stack h.status) None (Some l) u at loop h Bottom below
      e0 i e = next_is (OpGet l) h.stack q.op_is refl ∙ ap (λ z. finish program (push_number (take_of z w) h.stack h.status) None (Some l) u at loop h Bottom below) e

      by_input : (i : List ℕ) → w.input ≡ i → Claim (length (row (OpGet l) (length h.stack))) Next
      by_input [] e =
          let to = q.failure_is l refl in
          let w2 : FlatWorld = note FoundEnd w in
          claim _ (Run u l NoLoop (record { stack = []; locals = h.locals; status = Thrown end_of_input None }) Bottom below w2) (e0 [] e ∙ fail_in l (Thrown end_of_input None) to.inside w2)
          (get_none p used heap u at loop h below w r s v a q.to q.number l w2 e e refl refl (row_here (OpGet l) q) to.aligned to.below to.there (q.named EndOfInput))
      by_input (b ∷ bytes) e =
          let k1 = q.enough in
          let k2 = q.limit in
          let w2 : FlatWorld = note (Took b) (record w { input = bytes }) in
          claim _ (Run u (at + 1) NoLoop (record { stack = Int (pos b) ∷ h.stack; locals = h.locals; status = h.status }) Bottom below w2) (e0 (b ∷ bytes) e)
          (get_some p used heap u at loop h below w r s v a q.to q.number b bytes w2 e refl refl refl (omega arith) (omega arith) (row_here (OpGet l) q) (q.next_is refl))

pub put_row_law : (l : ℕ) → RowLaw (OpPutbyte l)
put_row_law l program p used heap u at loop h below w r s q nb v a ok = put_step program p used heap u at loop h below w r s v a nb l q ok

pub get_row_law : (l : ℕ) → RowLaw (OpGet l)
get_row_law l program p used heap u at loop h below w r s q nb v a ok = get_step program p used heap u at loop h below w r s v a nb l q

pub opposite_row_law : (l : ℕ) → RowLaw (OpArith 5 l)
opposite_row_law l program p used heap u at loop h below w r s q nb v a ok = opposite_step program p used heap u at loop h below w r s v a nb l q ok

pub divide_row_law : (l : ℕ) → RowLaw (OpArith 3 l)
divide_row_law l program p used heap u at loop h below w r s q nb v a ok = divide_step program p used heap u at loop h below w r s v a nb true l q ok

pub remainder_row_law : (l : ℕ) → RowLaw (OpArith 4 l)
remainder_row_law l program p used heap u at loop h below w r s q nb v a ok = divide_step program p used heap u at loop h below w r s v a nb false l q ok

pub put_int_row_law : PutIntLaw
put_int_row_law program p used heap u at loop h below w r s q nb v a ok = put_int_step program p used heap u at loop h below w r s v a nb q ok
