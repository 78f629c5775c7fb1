use Rattle.std.proofs.Common.{map, sym, subst}
use Rattle.th_type.specs.Types.{list_of, tys_of}
use Rattle.th_type.specs.Signatures.{sig_of, subst_sig}
use Rattle.th_type.specs.MethodTables.{Merged}
use Rattle.th_type.proofs.Filling.{joined_whole}
use Rattle.th_type.proofs.methods.add_member.Goals as goal

pub returns-in_ok-add_inherited-in-Some : goal.returns-in_ok-add_inherited-in-Some
returns-in_ok-add_inherited-in-Some c =
    joined_whole c.args.table.now.map.entries (map sig_of c.args.sigs.now.items) (map sig_of c.add_inherited.new.sigs.items) c.args.meaning.now c.in-Whole.name c.in-Whole.args c.in-Some.inherited.now c.in-Whole.is (sym c.in-Some.ensures)
    (subst (λ xs. Merged (map sig_of c.args.sigs.now.items) (map (subst_sig (list_of (tys_of c.in-Whole.args))) (map sig_of xs)) (map sig_of c.add_inherited.new.sigs.items)) c.deref.ensures.value c.in_ok-add_inherited-in-Some.ensures)
