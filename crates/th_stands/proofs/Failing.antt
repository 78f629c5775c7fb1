-- A failure: its exception becomes the status, and its label is next.
use Rattle.std.proofs.Common.{◌≡◌, ℕ, ◌+◌, ◌%◌, ◌<◌, List, [], ◌++◌, Option, Some, None, refl, ◌∙◌, arith, lit<}
use Rattle.th_rv.specs.declared.instr.Instr.TheVariants.{Jal, Lw}
use Rattle.th_elf.specs.Run.{Run, run_step}
use Rattle.th_flat.specs.declared.module.FlatUnit.{FlatUnit}
use Rattle.th_flat.specs.Values.{FlatWorld, Thrown}
use Rattle.th_flat.specs.Configs.{Loop, NoLoop, Here, Stack, Bottom}
use Rattle.th_abi.specs.declared.word.RelocKind.{RelocKind}
use Rattle.th_abi.specs.declared.word.RelocKind.TheVariants as reloc
use Rattle.th_abi.specs.declared.word.Failure.{Failure}
use Rattle.th_abi.specs.declared.word.PatternWord.{PatternWord}
use Rattle.th_abi.specs.Sequences.{fail}
use Rattle.th_stands.specs.Seen.{Seen, Loaded, Sees}
use Rattle.th_stands.specs.Places.{HasRow}
use Rattle.th_stands.specs.Stands.{Places, AtOp}
use Rattle.th_stands.proofs.Instructions.{seen_reg, seen_jump, do_jal, do_lw_image}
use Rattle.th_stands.proofs.Sequences.{going, at_plain, jumped_seen, jump_does, Quiet}
use Rattle.th_stands.proofs.Keeping.{locals_keep}
use Rattle.th_stands.proofs.Restand.{restand}

-- the status is another, and else nothing but free registers and the program counter
pub record Failed (s t : Seen) (x : ℕ) : Type 0 where
  pub status_is : t.rf 24 ≡ x
  pub r3 : t.rf 3 ≡ s.rf 3
  pub r8 : t.rf 8 ≡ s.rf 8
  pub r9 : t.rf 9 ≡ s.rf 9
  pub r26 : t.rf 26 ≡ s.rf 26
  pub r27 : t.rf 27 ≡ s.rf 27
  pub words : (i : ℕ) → t.wf i ≡ s.wf i
  pub input_is : t.input ≡ s.input
  pub trace_is : t.trace ≡ s.trace

-- a machine after a failure
abbrev pub failed_seen : Seen → (x to : ℕ) → Seen
failed_seen s x to = jumped_seen (seen_reg (seen_jump s 24 (s.pc + 4) (s.pc + 4 + 4)) 24 x) to

pub failed_is : (s : Seen) (x to : ℕ) → Failed s (failed_seen s x to) x
failed_is s x to = record { status_is = refl; r3 = refl; r8 = refl; r9 = refl; r26 = refl; r27 = refl; words = λ i. refl; input_is = refl; trace_is = refl }

pub failed_after : (s t u : Seen) (x : ℕ) → Quiet s t → Failed t u x → Failed s u x
failed_after s t u x q f = record {
  status_is = f.status_is;
  r3 = f.r3 ∙ q.fixed.r3;
  r8 = f.r8 ∙ q.fixed.r8;
  r9 = f.r9 ∙ q.fixed.r9;
  r26 = f.r26 ∙ q.fixed.r26;
  r27 = f.r27 ∙ q.fixed.r27;
  words = λ i. f.words i ∙ q.words i;
  input_is = f.input_is ∙ q.fixed.input_is;
  trace_is = f.trace_is ∙ q.fixed.trace_is;
}

pub fail_does : (g : Loaded) (r : Run) (s : Seen) (f : Failure) (to : ℕ) (number : RelocKind → Option Failure → ℕ) (rest : List PatternWord) → Sees g r s → HasRow g s.pc to number (fail f ++ rest) → to % 4 ≡ 0 → to < 268435456 → Sees g (going g 4 r) (failed_seen s (number reloc.Word (Some f)) to)
fail_does g r s f to number rest v row aligned small =
    let w1 = row.0 in
    let w2 = row.1.0 in
    let below1 = w1.below in
    let below2 = w2.below in
    let even1 = w1.aligned in
    let even2 = w2.aligned in
    let x = number reloc.Word (Some f) in
    let v1 = do_jal v 24 8 (s.pc + 4 + 4) (at_plain g s.pc (Jal 24 8) row.0 (lit< tt, (lit< tt, refl))) (lit< tt) (omega arith) (omega arith) in
    let v2 = do_lw_image v1 24 24 0 (s.pc + 4) x (at_plain g (s.pc + 4 + 4) (Lw 24 24 0) row.1.1.0 (lit< tt, lit< tt, lit< tt)) (lit< tt) (lit< tt) below2 even2 w2.loaded w2.small (omega arith) in
    jump_does g (run_step (run_step r)) (seen_reg (seen_jump s 24 (s.pc + 4) (s.pc + 4 + 4)) 24 x) to number v2 (row.1.1.1.0, (row.1.1.1.1.0, tt)) aligned small

module _ (p : Places) (used heap : ℕ) (u : FlatUnit) (at : ℕ) (loop : Loop) (h : Here) (below : Stack) (w : FlatWorld) (s : Seen) (a : AtOp p used heap u at loop h Bottom below w s) where
  -- the status is an exception, and nothing is on the stack
  pub failed : (t : Seen) (name : List ℕ) (x l : ℕ) → Failed s t x → x ≡ p.exception_at name → t.pc ≡ p.op_at u.name l → AtOp p used heap u l NoLoop (record { stack = []; locals = h.locals; status = Thrown name None }) Bottom below w t
  failed t name x l f e pc =
      restand p used heap u at loop h below w s a t l (record { stack = []; locals = h.locals; status = Thrown name None })
      (record { r3 = f.r3; r8 = f.r8; r9 = f.r9; r26 = f.r26; r27 = f.r27; words = λ i l2. f.words i }) pc a.works.count
      (locals_keep p a.heap_at s.wf t.wf a.fp h.locals (λ k l2. f.words (a.fp + k)) a.works.locals_are) tt (f.status_is ∙ e)
      f.input_is f.trace_is
