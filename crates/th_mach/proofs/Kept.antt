-- The instructions that an area keeps, where a byte is put or a word is decoded again.
use Rattle.std.proofs.Common.{◌≡◌, ◌≢◌, ◌⊎◌, ℕ, zero, suc, ◌+◌, ◌-◌, ◌*◌, ◌/◌, ◌%◌, ◌<◌, ◌≤◌, List, [], ◌∷◌, Option, Some, None, true, false, cond, refl, sym, ap, ◌∙◌, subst, ⊎_elim, inl, inr, arith}
use Rattle.std.specs.Prelude.{slice_get, slice_set, slice_index_or, IfSome}
use Rattle.std.proofs.lemmas.Bool.{cases_Bool, cases_eq, cases_order}
use Rattle.th_rv.specs.declared.instr.Instr.{Instr}
use Rattle.th_rv.specs.declared.instr.Instr.TheVariants.{Ebreak}
use Rattle.th_rv.specs.Memory.{Area, byte_at, area_set, has, allows, with_byte, number_at}
use Rattle.th_rv.specs.Step.{State, execute, execute_word, execute_found}
use Rattle.th_mach.specs.Apart.{Apart, Holds}
use Rattle.th_mach.specs.Code.{spelled, IsFetched, Spells}
use Rattle.th_mach.proofs.Apart.{has_within, same_has, area_set-at, area_set-size, number_held}

other_place : {X : Type 0} (l : List X) (i j : ℕ) (v : X) → j ≢ i → slice_get (slice_set l i v) j ≡ slice_get l j
other_place [] i j v ne = refl
other_place (x ∷ l) zero zero v ne = absurd (ne refl)
other_place (x ∷ l) zero (suc j) v ne = refl
other_place (x ∷ l) (suc i) zero v ne = refl
other_place (x ∷ l) (suc i) (suc j) v ne = other_place l i j v (λ e. ne (ap suc e))

same_place : {X : Type 0} (l : List X) (i : ℕ) (v x : X) → slice_get (slice_set l i v) i ≡ Some x → x ≡ v
same_place [] i v x e = absurd (cc)
same_place (y ∷ l) zero v x e = cc
same_place (y ∷ l) (suc i) v x e = same_place l i v x e

-- another byte of an area stays
byte_kept : (flag : ℕ) (m : Area) (j v a : ℕ) → a ≢ m.at + j → byte_at flag (area_set m j v ∷ []) a ≡ byte_at flag (m ∷ []) a
unfolding area_set
byte_kept flag m j v a ne = rw (same_has m (area_set m j v) a (area_set-at m j v) (area_set-size m j v)) (⊎_elim yes no (cases_Bool (has m a)))
  where
    yes : has m a ≡ true → cond (has m a) (cond (allows flag m.flags) (slice_get (slice_set m.bytes j v) (a - m.at)) None) None ≡ cond (has m a) (cond (allows flag m.flags) (slice_get m.bytes (a - m.at)) None) None
    yes e =
        let w = has_within m a e in
        let ne2 : a - m.at ≢ j = omega arith in
        ap (λ o. cond (has m a) (cond (allows flag m.flags) o None) None) (other_place m.bytes j (a - m.at) v ne2)

    no : has m a ≡ false → cond (has m a) (cond (allows flag m.flags) (slice_get (slice_set m.bytes j v) (a - m.at)) None) None ≡ cond (has m a) (cond (allows flag m.flags) (slice_get m.bytes (a - m.at)) None) None
    no e = rw e refl

-- a number stays where a byte beside it is put
number_kept : (n flag : ℕ) (m : Area) (j v a : ℕ) → (m.at + j < a) ⊎ (a + n ≤ m.at + j) → number_at n flag (area_set m j v ∷ []) a ≡ number_at n flag (m ∷ []) a
number_kept zero flag m j v a beside = refl
number_kept (suc n) flag m j v a beside =
    let here : a ≢ m.at + j = ⊎_elim (λ l. omega arith) (λ r. omega arith) beside in
    let next : (m.at + j < a + 1) ⊎ (a + 1 + n ≤ m.at + j) = ⊎_elim (λ l. inl (omega arith)) (λ r. inr (omega arith)) beside in
    ap (λ o. with_byte o (number_at n flag (area_set m j v ∷ []) (a + 1))) (byte_kept flag m j v a here)
    ∙ ap (λ o. with_byte (byte_at flag (m ∷ []) a) o) (number_kept n flag m j v (a + 1) next)

-- a byte that isn't of the k-th word stands before it or after it
beside_word : (j k : ℕ) → k ≢ j / 4 → (j < 4 * k) ⊎ (4 * k + 4 ≤ j)
beside_word j k ne = ⊎_elim (λ e. absurd (ne e)) (λ o. ⊎_elim (λ l. inr (omega arith)) (λ r. inl (omega arith)) o) (cases_order k (j / 4))

-- another word of an area is still that instruction
fetched_kept : (m : Area) (j v k : ℕ) (instr : Instr) → k ≢ j / 4 → IsFetched m (m.at + 4 * k) instr → IsFetched (area_set m j v) (m.at + 4 * k) instr
fetched_kept m j v k instr ne f =
    let first = area_set-at m j v in
    let size = area_set-size m j v in
    let from = f.spans.from in
    let within = f.spans.within in
    let beside : (m.at + j < m.at + 4 * k) ⊎ (m.at + 4 * k + 4 ≤ m.at + j) = ⊎_elim (λ l. inl (omega arith)) (λ r. inr (omega arith)) (beside_word j k ne) in
    record {
      spans = record { from = omega arith; within = omega arith };
      spells = ap spelled (number_kept 4 1 m j v (m.at + 4 * k) beside) ∙ f.spells;
      valid = f.valid;
    }

-- the instructions that an area keeps where a byte is put: all but that of its word
pub spells_write : (m : Area) (code : List Instr) (j v : ℕ) → Spells m code → Spells (area_set m j v) (slice_set code (j / 4) Ebreak)
spells_write m code j v spells k instr get ne = ⊎_elim here other (cases_eq k (j / 4))
  where
    here : k ≡ j / 4 → IsFetched (area_set m j v) ((area_set m j v).at + 4 * k) instr
    here e = absurd (ne (same_place code (j / 4) Ebreak instr (ap (λ i. slice_get (slice_set code (j / 4) Ebreak) i) (sym e) ∙ get)))

    other : (k ≡ j / 4 → ⊥) → IsFetched (area_set m j v) ((area_set m j v).at + 4 * k) instr
    other n =
        let P : ℕ → Type 0 = λ a. IsFetched (area_set m j v) (a + 4 * k) instr in
        subst P (sym (area_set-at m j v)) (fetched_kept m j v k instr n (spells k instr (sym (other_place code (j / 4) k Ebreak n) ∙ get) ne))

-- and where a word is decoded again
pub spells_set : (m : Area) (code : List Instr) (k : ℕ) (instr : Instr) → Spells m code → (instr ≢ Ebreak → IsFetched m (m.at + 4 * k) instr) → Spells m (slice_set code k instr)
spells_set m code k instr spells fetched j other get ne = ⊎_elim here there (cases_eq j k)
  where
    here : j ≡ k → IsFetched m (m.at + 4 * j) other
    here e =
        let q : other ≡ instr = same_place code k instr other (ap (λ i. slice_get (slice_set code k instr) i) (sym e) ∙ get) in
        let P : ℕ → Type 0 = λ i. IsFetched m (m.at + 4 * i) other in
        let Q : Instr → Type 0 = λ i. IsFetched m (m.at + 4 * k) i in
        subst P (sym e) (subst Q (sym q) (fetched (λ r. ne (q ∙ r))))

    there : (j ≡ k → ⊥) → IsFetched m (m.at + 4 * j) other
    there n = spells j other (sym (other_place code k j instr n) ∙ get) ne

-- the instruction that an area keeps for an address
pub kept_at : (m : Area) (code : List Instr) (a : ℕ) (instr : Instr) → Spells m code → m.at ≤ a → (a - m.at) % 4 ≡ 0 → slice_get code ((a - m.at) / 4) ≡ Some instr → (instr ≡ Ebreak → ⊥) → IsFetched m a instr
kept_at m code a instr spells from whole get ne =
    let e : m.at + 4 * ((a - m.at) / 4) ≡ a = omega arith in
    let P : ℕ → Type 0 = λ n. IsFetched m n instr in
    subst P e (spells ((a - m.at) / 4) instr get ne)

-- an instruction that an area has is that of the memory
pub fetched_held : (areas : List Area) (k a : ℕ) (x : Area) (instr : Instr) → Apart areas → x ≡ slice_index_or areas k x → Holds areas k a 4 → IsFetched x a instr → spelled (number_at 4 1 areas a) ≡ Some instr
fetched_held areas k a x instr apart e h f = ap spelled (sym (number_held 4 1 areas k a x apart e h)) ∙ f.spells

-- a word that spells an instruction does what that does
pub spelled_does : (o : Option ℕ) (instr : Instr) (s : State) → spelled o ≡ Some instr → execute_word o s ≡ execute instr s
spelled_does None instr s e = absurd (cc)
spelled_does (Some word) instr s e = ap (λ f. execute_found f s) e

-- the same, where the area keeps it
pub if_fetched : (areas : List Area) (k a : ℕ) (x : Area) (found : Option Instr) → Apart areas → x ≡ slice_index_or areas k x → Holds areas k a 4 → IfSome found (λ instr. IsFetched x a instr) → IfSome found (λ instr. spelled (number_at 4 1 areas a) ≡ Some instr)
if_fetched areas k a x None apart e h f = tt
if_fetched areas k a x (Some instr) apart e h f = fetched_held areas k a x instr apart e h f
