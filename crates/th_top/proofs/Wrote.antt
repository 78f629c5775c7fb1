-- From a file that was written and a machine that ran to the whole.
use Rattle.std.proofs.Common.{◌≡◌, ℕ, List, [], ◌∷◌, ◌++◌, sym, ap, subst, ◌∙◌, false}
use Rattle.std.specs.Prelude.{option_map, Result, Ok, Err, is_err, OnOk}
use Rattle.th_world.specs.Outside.{with_file}
use Rattle.th_meaning.specs.Program.{Program}
use Rattle.th_mach.specs.Counted.{Counted}
use Rattle.th_mach.specs.declared.answer.Outcome.{Outcome}
use Rattle.th_mach.specs.declared.answer.Outcome.TheVariants.{Ended, Raised, RoomUsed, StepsUsed, Trap, ReadFault, WriteFault}
use Rattle.th_mach.specs.Ran.{seen, Ran}
use Rattle.th_top.specs.declared.build.Product.{Product}
use Rattle.th_top.specs.Outside.{Outside}
use Rattle.th_top.specs.Answers.{Verdict, step_limit, Tells, Executed, Wrote}
use Rattle.th_top.specs.Built.{IsProductOf}

-- what is said of a success holds of one
pub on_ok : {A E : Type 0} (r : Result A E) (P : Type 0) → is_err r ≡ false → OnOk r P → P
on_ok (Ok x) P e h = h
on_ok (Err x) P e h = cc

-- a run of the machine that was loaded from an image, after the image was written
module _ (out : List ℕ) (modules : Program) (before later : Outside) where
  wrote_by : (v : Verdict) (outcome : Outcome) → Tells outcome v → Executed out modules before later v → Wrote out modules before later v
  wrote_by v Ended tells done = subst (Wrote out modules before later) (sym tells) (subst (Executed out modules before later) tells done)
  wrote_by v ReadFault tells done = subst (Wrote out modules before later) (sym tells) (subst (Executed out modules before later) tells done)
  wrote_by v WriteFault tells done = subst (Wrote out modules before later) (sym tells) (subst (Executed out modules before later) tells done)
  wrote_by v (Raised at n) tells done = absurd tells
  wrote_by v RoomUsed tells done = absurd tells
  wrote_by v StepsUsed tells done = absurd tells
  wrote_by v (Trap cause pc) tells done = absurd tells

  pub wrote : (name : List ℕ) (p : Product) (v : Verdict) (outcome : Outcome) (last : Counted) → name ≡ out → IsProductOf modules p
      → later.files ≡ option_map (with_file name p.bytes.items) before.files → later.written ≡ option_map (λ names. names ++ name ∷ []) before.written → later.file_faults ≡ before.file_faults
      → Ran step_limit (seen p.machine before.put before.left before.read_faults before.write_faults []) outcome (seen last later.put later.left later.read_faults later.write_faults [])
      → Tells outcome v → Wrote out modules before later v
  wrote name p v outcome last named is files names faults ran tells =
      let P : Counted → Type 0 = λ c. Ran step_limit (seen c before.put before.left before.read_faults before.write_faults []) outcome (seen last later.put later.left later.read_faults later.write_faults []) in
      wrote_by v outcome tells (record {
        image = is.image;
        agrees = is.agrees;
        files = files ∙ ap (λ n. option_map (with_file n p.bytes.items) before.files) named ∙ ap (λ b. option_map (with_file out b) before.files) is.bytes;
        written_names = names ∙ ap (λ n. option_map (λ names. names ++ n ∷ []) before.written) named;
        file_faults = faults;
        last = last;
        outcome = outcome;
        ran = subst P is.loaded ran;
        tells = tells;
      })
