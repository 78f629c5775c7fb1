use Rattle.std.proofs.Common.{map, subst}
use Rattle.th_type.specs.Signatures.{sig_of}
use Rattle.th_type.specs.MethodTables.{FoundAt, GoesAt}
use Rattle.th_type.proofs.MethodLists.{merged_found, merged_insert}
use Rattle.th_type.proofs.methods.add.Goals as goal
use Rattle.th_type.proofs.methods.add.Goals.{in-Ok-insert, in-Err-insert}

pub returns-in-Ok : goal.returns-in-Ok
returns-in-Ok c = merged_found (map sig_of c.args.sigs.now.items) (sig_of c.args.sig) c.in-Ok.field-0 c.requires
    (subst (λ xs. FoundAt (map sig_of xs) c.args.sig.method c.in-Ok.field-0) c.deref.ensures.value c.in-Ok.ensures)

pub returns-after-insert : goal.returns-after-insert
returns-after-insert c = elim c.match-insert.branch [
  | in-Ok-insert w ↦ rw w.result-is (merged_insert c.args.sigs.now.items c.insert.new.self.items c.args.sig c.in-Err.at c.requires
      (subst (λ xs. GoesAt (map sig_of xs) c.args.sig.method c.in-Err.at) c.deref.ensures.value c.in-Err.ensures) w.in-Ok-insert.ensures.items)
  | in-Err-insert w ↦ rw w.result-is tt
]
