-- What the sequences do that rows are put together from.
use Rattle.std.proofs.Common.{◌≡◌, ℕ, ◌+◌, ◌-◌, ◌*◌, ◌%◌, ◌<◌, ◌≤◌, List, ◌∷◌, ◌++◌, Option, Bool, true, false, nat_lt, nat_eq, refl, sym, ap, ◌∙◌, subst, ⊎_elim, arith, lit<}
use Rattle.std.specs.Prelude.{◌||◌}
use Rattle.std.proofs.lemmas.Bool.{cases_lt, lt-ltb, le-ltb, false≢true}
use Rattle.th_word.specs.Word.{word_add, extend_12}
use Rattle.th_rv.specs.declared.instr.Instr.{Instr}
use Rattle.th_rv.specs.declared.instr.Instr.TheVariants.{Auipc, Jalr, Lw, Sw, Addi}
use Rattle.th_rv.specs.Table.{Valid, encode}
use Rattle.th_rv.proofs.EncodeLemmas.{decode_encode}
use Rattle.th_runs.specs.Runs.{steps}
use Rattle.th_elf.specs.Run.{Run, run_step, machine}
use Rattle.th_abi.specs.declared.word.RelocKind.{RelocKind}
use Rattle.th_abi.specs.declared.word.Failure.{Failure}
use Rattle.th_abi.specs.declared.word.PatternWord.{PatternWord}
use Rattle.th_abi.specs.declared.word.Home.{Home}
use Rattle.th_abi.specs.declared.word.Home.TheVariants.{Register, Frame}
use Rattle.th_abi.specs.Words.{jump}
use Rattle.th_abi.specs.Sequences.{home, register_of, fetched, kept, moved}
use Rattle.th_stands.specs.Seen.{word_address, Seen, Loaded, Sees}
use Rattle.th_abi.specs.Labels.{distance, high_part, low_part}
use Rattle.th_stands.specs.Places.{HasWord, HasRow}
use Rattle.th_stands.specs.Stands.{cell_of, cell}
use Rattle.th_stands.proofs.Instructions.{wr, wr_same, wr_other, upd_same, upd_other, seen_reg, seen_store, seen_jump, At, do_addi, do_auipc, do_lw, do_sw, do_jalr}

-- a run after so many instructions
abbrev pub going : Loaded → ℕ → Run → Run
going g k r = steps (machine g.names) k r

pub at_plain : (g : Loaded) (a : ℕ) (i : Instr) → HasWord g a (encode i) → Valid i → At g a i
at_plain g a i h valid = record { word = encode i; fetched = h.fetched; decoded = decode_encode i valid; aligned = h.aligned; below = h.below; unnamed = h.unnamed }

-- addresses

pub extend_low : (n : ℕ) → n < 2048 → extend_12 n ≡ n
extend_low n h = let e : nat_lt n 2048 ≡ true = lt-ltb n 2048 h in rw e

pub extend_high : (n : ℕ) → 2048 ≤ n → extend_12 n ≡ n + 4294963200
extend_high n h = let e : nat_lt n 2048 ≡ false = le-ltb n 2048 h in rw e

-- a word at a distance from an address of the region
pub up_from : (a i k : ℕ) → a ≡ word_address i → i + k < 268435456 → 4 * k < 2048 → word_add a (extend_12 (4 * k)) ≡ word_address (i + k)
up_from a i k e lt h = let x : extend_12 (4 * k) ≡ 4 * k = extend_low (4 * k) h in rw x (omega arith)

pub plus_zero : (a : ℕ) → a < 4294967296 → word_add a (extend_12 0) ≡ a
plus_zero a h = omega arith

-- where a label's two words lead
pub jump_lands : (from to : ℕ) → from < 268435456 → to < 268435456 → word_add (word_add from (high_part (distance from to) * 4096)) (extend_12 (low_part (distance from to))) ≡ to
jump_lands from to h1 h2 = ⊎_elim lower upper (cases_lt (low_part (distance from to)) 2048)
  where
    lower : low_part (distance from to) < 2048 → word_add (word_add from (high_part (distance from to) * 4096)) (extend_12 (low_part (distance from to))) ≡ to
    lower l = let x : extend_12 (low_part (distance from to)) ≡ low_part (distance from to) = extend_low (low_part (distance from to)) l in rw x (omega arith)

    upper : 2048 ≤ low_part (distance from to) → word_add (word_add from (high_part (distance from to) * 4096)) (extend_12 (low_part (distance from to))) ≡ to
    upper l = let x : extend_12 (low_part (distance from to)) ≡ low_part (distance from to) + 4294963200 = extend_high (low_part (distance from to)) l in rw x (omega arith)

high_fits : (d : ℕ) → high_part d < 1048576
high_fits d = omega arith

low_fits : (d : ℕ) → low_part d < 4096
low_fits d = omega arith

auipc_word : (h : ℕ) → h < 1048576 → encode (Auipc 5 0) + 4096 * h ≡ encode (Auipc 5 h)
auipc_word h lt = omega arith

jalr_word : (l : ℕ) → l < 4096 → encode (Jalr 0 5 0) + 1048576 * l ≡ encode (Jalr 0 5 l)
jalr_word l lt = omega arith

-- a machine after the jump to a label
abbrev pub jumped_seen : Seen → ℕ → Seen
jumped_seen s to = seen_jump (seen_reg s 5 (word_add s.pc (high_part (distance s.pc to) * 4096))) 0 (s.pc + 4 + 4) to

pub jump_does : (g : Loaded) (r : Run) (s : Seen) (to : ℕ) (number : RelocKind → Option Failure → ℕ) → Sees g r s → HasRow g s.pc to number jump → to % 4 ≡ 0 → to < 268435456 → Sees g (going g 2 r) (jumped_seen s to)
jump_does g r s to number v row aligned small = by_words row.0 row.1.0
  where
    by_words : HasWord g s.pc (encode (Auipc 5 0) + 4096 * high_part (distance s.pc to)) → HasWord g (s.pc + 4) (encode (Jalr 0 5 0) + 1048576 * low_part (distance (s.pc + 4 - 4) to)) → Sees g (going g 2 r) (jumped_seen s to)
    by_words w1 w2 =
        let below = w1.below in
        let d = distance s.pc to in
        let e0 : s.pc + 4 - 4 ≡ s.pc = omega arith in
        let at1 : At g s.pc (Auipc 5 (high_part d)) = at_plain g s.pc (Auipc 5 (high_part d)) (subst (HasWord g s.pc) (auipc_word (high_part d) (high_fits d)) w1) (lit< tt, high_fits d) in
        let w3 : HasWord g (s.pc + 4) (encode (Jalr 0 5 0) + 1048576 * low_part d) = subst (λ a. HasWord g (s.pc + 4) (encode (Jalr 0 5 0) + 1048576 * low_part (distance a to))) e0 w2 in
        let at2 : At g (s.pc + 4) (Jalr 0 5 (low_part d)) = at_plain g (s.pc + 4) (Jalr 0 5 (low_part d)) (subst (HasWord g (s.pc + 4)) (jalr_word (low_part d) (low_fits d)) w3) (lit< tt, lit< tt, low_fits d) in
        let v1 = do_auipc v 5 (high_part d) at1 (lit< tt) in
        do_jalr v1 0 5 (low_part d) to at2 (lit< tt) (lit< tt) (jump_lands s.pc to (omega arith) small) aligned

-- places of the stack

-- a home lies in its registers, or in the frame at sb
abbrev pub IsHome : Loaded → (sb : ℕ) → Home → Type 0
IsHome g sb (Register r) = (18 ≤ r) × (r < 24)
IsHome g sb (Frame k) = (sb + k < g.size) × (k ≤ 400)

pub home_low : (place : ℕ) → place < 6 → home place ≡ Register (18 + place)
home_low place lt = let e : nat_lt place 6 ≡ true = lt-ltb place 6 lt in rw e

pub home_high : (place : ℕ) → 6 ≤ place → home place ≡ Frame place
home_high place le = let e : nat_lt place 6 ≡ false = le-ltb place 6 le in rw e

pub is_home : (g : Loaded) (sb place : ℕ) → sb + place < g.size → place ≤ 400 → IsHome g sb (home place)
is_home g sb place lt le = ⊎_elim low high (cases_lt place 6)
  where
    low : place < 6 → IsHome g sb (home place)
    low l = subst (IsHome g sb) (sym (home_low place l)) (omega arith, omega arith)

    high : 6 ≤ place → IsHome g sb (home place)
    high l = subst (IsHome g sb) (sym (home_high place l)) (lt, le)

-- how many words reach a home
abbrev pub words_to : Home → ℕ
words_to (Register r) = 0
words_to (Frame k) = 1

pub words_to_few : (h : Home) → words_to h ≤ 1
words_to_few (Register r) = omega arith
words_to_few (Frame k) = omega arith

pub register_fits : (g : Loaded) (sb : ℕ) (h : Home) (f : ℕ) → IsHome g sb h → f < 32 → register_of h f < 32
register_fits g sb (Register r) f is lt = let l = is.1 in omega arith
register_fits g sb (Frame k) f is lt = lt

-- a machine after a word of the stack is fetched
abbrev pub fetched_seen : Home → Seen → (sb f : ℕ) → Seen
fetched_seen (Register r) s sb f = s
fetched_seen (Frame k) s sb f = seen_reg s f (s.wf (sb + k))

pub fetch_does : (g : Loaded) (r : Run) (s : Seen) (h : Home) (sb f to : ℕ) (number : RelocKind → Option Failure → ℕ) (rest : List PatternWord) → Sees g r s → IsHome g sb h → f < 32 → s.rf 9 ≡ word_address sb → HasRow g s.pc to number (fetched h f ++ rest)
    → Sees g (going g (words_to h) r) (fetched_seen h s sb f) × HasRow g (fetched_seen h s sb f).pc to number rest
fetch_does g r s (Register k) sb f to number rest v is lt e row = (v, row)
fetch_does g r s (Frame k) sb f to number rest v is lt e row =
    let small = g.small in
    let in_region = is.0 in
    let few = is.1 in
    (do_lw v f 9 (4 * k) (sb + k) (at_plain g s.pc (Lw f 9 (4 * k)) row.0 (lt, lit< tt, omega arith)) lt (lit< tt) is.0 (up_from (s.rf 9) sb k e (omega arith) (omega arith)), row.1)

-- a machine after a result that was computed in its register is kept
abbrev pub kept_seen : Home → Seen → (sb f : ℕ) → Seen
kept_seen (Register r) s sb f = s
kept_seen (Frame k) s sb f = seen_store s (sb + k) (s.rf f)

pub keep_does : (g : Loaded) (r : Run) (s : Seen) (h : Home) (sb f to : ℕ) (number : RelocKind → Option Failure → ℕ) → Sees g r s → IsHome g sb h → f < 32 → s.rf 9 ≡ word_address sb → HasRow g s.pc to number (kept h f)
    → Sees g (going g (words_to h) r) (kept_seen h s sb f)
keep_does g r s (Register k) sb f to number v is lt e row = v
keep_does g r s (Frame k) sb f to number v is lt e row =
    let small = g.small in
    let in_region = is.0 in
    let few = is.1 in
    do_sw v 9 f (4 * k) (sb + k) (at_plain g s.pc (Sw 9 f (4 * k)) row.0 (lit< tt, lt, omega arith)) (lit< tt) lt is.0 (up_from (s.rf 9) sb k e (omega arith) (omega arith))

-- a machine after a register's word is put on the stack
abbrev pub moved_seen : Home → Seen → (sb from : ℕ) → Seen
moved_seen (Register r) s sb from = seen_reg s r (word_add (s.rf from) (extend_12 0))
moved_seen (Frame k) s sb from = seen_store s (sb + k) (s.rf from)

pub move_does : (g : Loaded) (r : Run) (s : Seen) (h : Home) (sb from to : ℕ) (number : RelocKind → Option Failure → ℕ) (rest : List PatternWord) → Sees g r s → IsHome g sb h → from < 32 → s.rf 9 ≡ word_address sb → HasRow g s.pc to number (moved h from ∷ rest)
    → Sees g (run_step r) (moved_seen h s sb from)
move_does g r s (Register k) sb from to number rest v is lt e row =
    let l = is.1 in
    let small : k < 32 = omega arith in
    do_addi v k from 0 (at_plain g s.pc (Addi k from 0) row.0 (small, lt, lit< tt)) small lt
move_does g r s (Frame k) sb from to number rest v is lt e row =
    let small = g.small in
    let in_region = is.0 in
    let few = is.1 in
    do_sw v 9 from (4 * k) (sb + k) (at_plain g s.pc (Sw 9 from (4 * k)) row.0 (lit< tt, lt, omega arith)) (lit< tt) lt is.0 (up_from (s.rf 9) sb k e (omega arith) (omega arith))

-- registers in which rows compute
abbrev pub is_free : ℕ → Bool
is_free k = nat_eq k 5 || nat_eq k 6 || nat_eq k 7 || nat_eq k 10 || nat_eq k 17 || nat_eq k 28 || nat_eq k 29

-- the registers that hold the frame, the status and the room are the same, and so is what is seen from outside
pub record Fixed (s t : Seen) : Type 0 where
  pub r0 : t.rf 0 ≡ s.rf 0
  pub r3 : t.rf 3 ≡ s.rf 3
  pub r8 : t.rf 8 ≡ s.rf 8
  pub r9 : t.rf 9 ≡ s.rf 9
  pub r24 : t.rf 24 ≡ s.rf 24
  pub r25 : t.rf 25 ≡ s.rf 25
  pub r26 : t.rf 26 ≡ s.rf 26
  pub r27 : t.rf 27 ≡ s.rf 27
  pub input_is : t.input ≡ s.input
  pub trace_is : t.trace ≡ s.trace

-- nothing but free registers and the program counter is another
pub record Quiet (s t : Seen) : Type 0 where
  pub homes : (k : ℕ) → 18 ≤ k → k < 24 → t.rf k ≡ s.rf k
  pub words : (i : ℕ) → t.wf i ≡ s.wf i
  pub fixed : Fixed s t

pub fixed_trans : (s t u : Seen) → Fixed s t → Fixed t u → Fixed s u
fixed_trans s t u a b = record {
  r0 = b.r0 ∙ a.r0;
  r3 = b.r3 ∙ a.r3;
  r8 = b.r8 ∙ a.r8;
  r9 = b.r9 ∙ a.r9;
  r24 = b.r24 ∙ a.r24;
  r25 = b.r25 ∙ a.r25;
  r26 = b.r26 ∙ a.r26;
  r27 = b.r27 ∙ a.r27;
  input_is = b.input_is ∙ a.input_is;
  trace_is = b.trace_is ∙ a.trace_is;
}

pub quiet_trans : (s t u : Seen) → Quiet s t → Quiet t u → Quiet s u
quiet_trans s t u a b = record {
  homes = λ k l1 l2. b.homes k l1 l2 ∙ a.homes k l1 l2;
  words = λ i. b.words i ∙ a.words i;
  fixed = fixed_trans s t u a.fixed b.fixed;
}

pub quiet_refl : (s : Seen) → Quiet s s
quiet_refl s = record { homes = λ k l1 l2. refl; words = λ i. refl; fixed = record { r0 = refl; r3 = refl; r8 = refl; r9 = refl; r24 = refl; r25 = refl; r26 = refl; r27 = refl; input_is = refl; trace_is = refl } }

free_ne : (f k : ℕ) → is_free f ≡ true → is_free k ≡ false → k ≡ f → ⊥
free_ne f k e1 e2 q = false≢true (sym e2 ∙ ap is_free q ∙ e1)

-- a free register isn't one of the stack's
abbrev pub IsApart : ℕ → Type 0
IsApart f = (k : ℕ) → 18 ≤ k → k < 24 → k ≡ f → ⊥

pub quiet_reg : (s : Seen) (f x : ℕ) → is_free f ≡ true → IsApart f → Quiet s (seen_reg s f x)
quiet_reg s f x e apart = record {
  homes = λ k l1 l2. wr_other s.rf f x k (apart k l1 l2);
  words = λ i. refl;
  fixed = record {
    r0 = wr_other s.rf f x 0 (free_ne f 0 e refl);
    r3 = wr_other s.rf f x 3 (free_ne f 3 e refl);
    r8 = wr_other s.rf f x 8 (free_ne f 8 e refl);
    r9 = wr_other s.rf f x 9 (free_ne f 9 e refl);
    r24 = wr_other s.rf f x 24 (free_ne f 24 e refl);
    r25 = wr_other s.rf f x 25 (free_ne f 25 e refl);
    r26 = wr_other s.rf f x 26 (free_ne f 26 e refl);
    r27 = wr_other s.rf f x 27 (free_ne f 27 e refl);
    input_is = refl;
    trace_is = refl;
  };
}

pub apart_5 : IsApart 5
apart_5 k l1 l2 e = omega arith

pub apart_6 : IsApart 6
apart_6 k l1 l2 e = omega arith

pub apart_7 : IsApart 7
apart_7 k l1 l2 e = omega arith

pub apart_10 : IsApart 10
apart_10 k l1 l2 e = omega arith

pub apart_17 : IsApart 17
apart_17 k l1 l2 e = omega arith

pub apart_28 : IsApart 28
apart_28 k l1 l2 e = omega arith

pub apart_29 : IsApart 29
apart_29 k l1 l2 e = omega arith

pub quiet_at : (s : Seen) (pc : ℕ) → Quiet s (record { pc = pc; rf = s.rf; wf = s.wf; input = s.input; trace = s.trace })
quiet_at s pc = record { homes = λ k l1 l2. refl; words = λ i. refl; fixed = record { r0 = refl; r3 = refl; r8 = refl; r9 = refl; r24 = refl; r25 = refl; r26 = refl; r27 = refl; input_is = refl; trace_is = refl } }

-- no register is written
pub quiet_none : (s : Seen) (x to : ℕ) → Quiet s (seen_jump s 0 x to)
quiet_none s x to = record { homes = λ k l1 l2. refl; words = λ i. refl; fixed = record { r0 = refl; r3 = refl; r8 = refl; r9 = refl; r24 = refl; r25 = refl; r26 = refl; r27 = refl; input_is = refl; trace_is = refl } }

pub quiet_jumped : (s : Seen) (to : ℕ) → Quiet s (jumped_seen s to)
quiet_jumped s to = quiet_trans s (seen_reg s 5 (word_add s.pc (high_part (distance s.pc to) * 4096))) (jumped_seen s to) (quiet_reg s 5 (word_add s.pc (high_part (distance s.pc to) * 4096)) refl apart_5) (quiet_none (seen_reg s 5 (word_add s.pc (high_part (distance s.pc to) * 4096))) (s.pc + 4 + 4) to)

pub quiet_fetched : (h : Home) (s : Seen) (sb f : ℕ) → is_free f ≡ true → IsApart f → Quiet s (fetched_seen h s sb f)
quiet_fetched (Register r) s sb f e a = quiet_refl s
quiet_fetched (Frame k) s sb f e a = quiet_reg s f (s.wf (sb + k)) e a

-- a fetched word stands in its register
pub fetched_value : (h : Home) (s : Seen) (sb f : ℕ) → 0 < f → (fetched_seen h s sb f).rf (register_of h f) ≡ cell_of h s sb
fetched_value (Register r) s sb f lt = refl
fetched_value (Frame k) s sb f lt = wr_same s.rf f (s.wf (sb + k)) lt

-- and stays there while other free registers are written
pub operand_stays : (g : Loaded) (h : Home) (s : Seen) (sb f k x : ℕ) → IsHome g sb h → IsApart k → (f ≡ k → ⊥) → wr s.rf k x (register_of h f) ≡ s.rf (register_of h f)
operand_stays g (Register r) s sb f k x is apart ne = wr_other s.rf k x r (apart r is.0 is.1)
operand_stays g (Frame i) s sb f k x is apart ne = wr_other s.rf k x f ne

-- quiet steps keep the words of the stack
pub quiet_cell : (g : Loaded) (s t : Seen) (h : Home) (sb : ℕ) → IsHome g sb h → Quiet s t → cell_of h t sb ≡ cell_of h s sb
quiet_cell g s t (Register r) sb is q = q.homes r is.0 is.1
quiet_cell g s t (Frame k) sb is q = q.words (sb + k)

-- the word at a place of the stack is another, and else nothing but free registers and the program counter
pub record Wrote (s t : Seen) (sb place x : ℕ) : Type 0 where
  pub cell_is : cell t sb place ≡ x
  pub others : (j : ℕ) → (j ≡ place → ⊥) → cell t sb j ≡ cell s sb j
  pub words : (i : ℕ) → (i ≡ sb + place → ⊥) → t.wf i ≡ s.wf i
  pub fixed : Fixed s t

quiet_any : (s t : Seen) (sb j : ℕ) → Quiet s t → cell t sb j ≡ cell s sb j
quiet_any s t sb j q = ⊎_elim low high (cases_lt j 6)
  where
    low : j < 6 → cell t sb j ≡ cell s sb j
    low l = subst (λ h. cell_of h t sb ≡ cell_of h s sb) (sym (home_low j l)) (q.homes (18 + j) (omega arith) (omega arith))

    high : 6 ≤ j → cell t sb j ≡ cell s sb j
    high l = subst (λ h. cell_of h t sb ≡ cell_of h s sb) (sym (home_high j l)) (q.words (sb + j))

pub quiet_cells : (s t : Seen) (sb : ℕ) → Quiet s t → (j : ℕ) → cell t sb j ≡ cell s sb j
quiet_cells s t sb q j = quiet_any s t sb j q

pub wrote_after : (s t u : Seen) (sb place x : ℕ) → Quiet s t → Wrote t u sb place x → Wrote s u sb place x
wrote_after s t u sb place x q w = record {
  cell_is = w.cell_is;
  others = λ j ne. w.others j ne ∙ quiet_any s t sb j q;
  words = λ i ne. w.words i ne ∙ q.words i;
  fixed = fixed_trans s t u q.fixed w.fixed;
}

-- a word of the stack that stands in a register is written
wrote_register : (s : Seen) (sb place x y : ℕ) → place < 6 → y ≡ x → Wrote s (seen_reg s (18 + place) y) sb place x
wrote_register s sb place x y lt e = record {
  cell_is = subst (λ h. cell_of h (seen_reg s (18 + place) y) sb ≡ x) (sym (home_low place lt)) (wr_same s.rf (18 + place) y (omega arith) ∙ e);
  others = λ j ne. ⊎_elim (λ l. subst (λ h. cell_of h (seen_reg s (18 + place) y) sb ≡ cell_of h s sb) (sym (home_low j l)) (wr_other s.rf (18 + place) y (18 + j) (omega arith))) (λ l. subst (λ h. cell_of h (seen_reg s (18 + place) y) sb ≡ cell_of h s sb) (sym (home_high j l)) refl) (cases_lt j 6);
  words = λ i ne. refl;
  fixed = record {
    r0 = wr_other s.rf (18 + place) y 0 (omega arith);
    r3 = wr_other s.rf (18 + place) y 3 (omega arith);
    r8 = wr_other s.rf (18 + place) y 8 (omega arith);
    r9 = wr_other s.rf (18 + place) y 9 (omega arith);
    r24 = wr_other s.rf (18 + place) y 24 (omega arith);
    r25 = wr_other s.rf (18 + place) y 25 (omega arith);
    r26 = wr_other s.rf (18 + place) y 26 (omega arith);
    r27 = wr_other s.rf (18 + place) y 27 (omega arith);
    input_is = refl;
    trace_is = refl;
  };
}

-- one that stands in the frame is written
wrote_frame : (s : Seen) (sb place x y : ℕ) → 6 ≤ place → y ≡ x → Wrote s (seen_store s (sb + place) y) sb place x
wrote_frame s sb place x y le e = record {
  cell_is = subst (λ h. cell_of h (seen_store s (sb + place) y) sb ≡ x) (sym (home_high place le)) (upd_same s.wf (sb + place) y ∙ e);
  others = λ j ne. ⊎_elim (λ l. subst (λ h. cell_of h (seen_store s (sb + place) y) sb ≡ cell_of h s sb) (sym (home_low j l)) refl) (λ l. subst (λ h. cell_of h (seen_store s (sb + place) y) sb ≡ cell_of h s sb) (sym (home_high j l)) (upd_other s.wf (sb + place) y (sb + j) (omega arith))) (cases_lt j 6);
  words = λ i ne. upd_other s.wf (sb + place) y i ne;
  fixed = record { r0 = refl; r3 = refl; r8 = refl; r9 = refl; r24 = refl; r25 = refl; r26 = refl; r27 = refl; input_is = refl; trace_is = refl };
}

-- a result in its register is kept at a place of the stack
pub wrote_kept : (s : Seen) (sb place f x : ℕ) → is_free f ≡ true → IsApart f → 0 < f → Wrote s (kept_seen (home place) (seen_reg s (register_of (home place) f) x) sb f) sb place x
wrote_kept s sb place f x e apart lt = ⊎_elim low high (cases_lt place 6)
  where
    low : place < 6 → Wrote s (kept_seen (home place) (seen_reg s (register_of (home place) f) x) sb f) sb place x
    low l = subst (λ h. Wrote s (kept_seen h (seen_reg s (register_of h f) x) sb f) sb place x) (sym (home_low place l)) (wrote_register s sb place x x l refl)

    high : 6 ≤ place → Wrote s (kept_seen (home place) (seen_reg s (register_of (home place) f) x) sb f) sb place x
    high l = subst (λ h. Wrote s (kept_seen h (seen_reg s (register_of h f) x) sb f) sb place x) (sym (home_high place l))
        (wrote_after s (seen_reg s f x) (seen_store (seen_reg s f x) (sb + place) (wr s.rf f x f)) sb place x (quiet_reg s f x e apart) (wrote_frame (seen_reg s f x) sb place x (wr s.rf f x f) l (wr_same s.rf f x lt)))

-- a register's word is put at a place of the stack
pub wrote_moved : (s : Seen) (sb place from x : ℕ) → s.rf from ≡ x → x < 4294967296 → Wrote s (moved_seen (home place) s sb from) sb place x
wrote_moved s sb place from x e small = ⊎_elim low high (cases_lt place 6)
  where
    low : place < 6 → Wrote s (moved_seen (home place) s sb from) sb place x
    low l = subst (λ h. Wrote s (moved_seen h s sb from) sb place x) (sym (home_low place l)) (wrote_register s sb place x (word_add (s.rf from) (extend_12 0)) l (ap (λ y. word_add y (extend_12 0)) e ∙ plus_zero x small))

    high : 6 ≤ place → Wrote s (moved_seen (home place) s sb from) sb place x
    high l = subst (λ h. Wrote s (moved_seen h s sb from) sb place x) (sym (home_high place l)) (wrote_frame s sb place x (s.rf from) l e)
