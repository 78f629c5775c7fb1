-- From a file that was read and a machine that ran to the whole of the command `run`.
use Rattle.std.proofs.Common.{◌≡◌, ℕ, ◌≤◌, List, [], length, None, sym, ap, subst, ◌∙◌}
use Rattle.th_elf.specs.Loadable.{first_failing, segments_of}
use Rattle.th_elf.specs.Run.{loaded}
use Rattle.th_mach.specs.Counted.{Counted, fresh}
use Rattle.th_mach.specs.declared.answer.Outcome.{Outcome}
use Rattle.th_mach.specs.declared.answer.Outcome.TheVariants.{Ended, Raised, RoomUsed, StepsUsed, Trap, ReadFault, WriteFault}
use Rattle.th_mach.specs.Ran.{seen, Ran}
use Rattle.th_files.specs.Reading.{Holds}
use Rattle.th_top.specs.Outside.{Outside}
use Rattle.th_top.specs.Answers.{Verdict, file_limit, TellsOf, RunsFile, Runs}
use Rattle.th_top.specs.Built.{Executes}

module _ (file : List ℕ) (region steps : ℕ) (before later : Outside) where
  by_outcome : (v : Verdict) (last : Counted) (outcome : Outcome) → TellsOf outcome last v → RunsFile file region steps before later v → Runs file region steps before later v
  by_outcome v last Ended tells r = subst (Runs file region steps before later) (sym tells) (subst (RunsFile file region steps before later) tells r)
  by_outcome v last (Raised at n) tells r = subst (Runs file region steps before later) (sym tells.2) (subst (RunsFile file region steps before later) tells.2 r)
  by_outcome v last RoomUsed tells r = subst (Runs file region steps before later) (sym tells) (subst (RunsFile file region steps before later) tells r)
  by_outcome v last StepsUsed tells r = subst (Runs file region steps before later) (sym tells) (subst (RunsFile file region steps before later) tells r)
  by_outcome v last (Trap cause pc) tells r = subst (Runs file region steps before later) (sym tells) (subst (RunsFile file region steps before later) tells r)
  by_outcome v last ReadFault tells r = subst (Runs file region steps before later) (sym tells) (subst (RunsFile file region steps before later) tells r)
  by_outcome v last WriteFault tells r = subst (Runs file region steps before later) (sym tells) (subst (RunsFile file region steps before later) tells r)

  -- the machine that was loaded from the file ran
  pub runs : (v : Verdict) (bytes read : List ℕ) (machine : Counted) → Holds before.files file read → bytes ≡ read → length read ≤ file_limit → first_failing bytes ≡ None
      → machine ≡ fresh (loaded (segments_of bytes) region) → later.files ≡ before.files → later.written ≡ before.written → later.file_faults ≡ before.file_faults
      → Executes machine steps before.put before.left before.read_faults before.write_faults later.put later.left later.read_faults later.write_faults v → Runs file region steps before later v
  runs v bytes read machine holds same within loadable is files names faults e =
      let P : Counted → Type 0 = λ c. Ran steps (seen c before.put before.left before.read_faults before.write_faults []) e.outcome (seen e.last later.put later.left later.read_faults later.write_faults []) in
      by_outcome v e.last e.outcome e.tells (record {
        bytes = read;
        holds = holds;
        within = within;
        loadable = ap first_failing (sym same) ∙ loadable;
        files = files;
        written_names = names;
        file_faults = faults;
        last = e.last;
        outcome = e.outcome;
        ran = subst P (is ∙ ap (λ b. fresh (loaded (segments_of b) region)) same) e.ran;
        tells = e.tells;
      })
