use Rattle.std.proofs.Common.{◌≡◌, ◌<◌, length, get_or, map, subst}
use Rattle.th_type.specs.Signatures.{sig_of}
use Rattle.th_type.specs.MethodTables.{written_sigs}
use Rattle.th_type.proofs.Filling.{joined_more}
use Rattle.th_type.proofs.methods.build.Goals as goal

pub loop-member-preserved : goal.loop-member-preserved
loop-member-preserved c =
    joined_more c.args.table.now.map.entries c.args.def.now.supertypes.items c.loop-member.member-index c.member-item.result (written_sigs c.args.def.now.methods.items) (map sig_of c.loop-member.sigs.items) (map sig_of c.add_member.new.sigs.items)
    (subst (λ xs. c.loop-member.member-index < length xs) c.deref-member-items.ensures.value c.loop-member-test.true)
    (subst (λ xs. c.member-item.result ≡ get_or xs c.loop-member.member-index c.member-item.result) c.deref-member-items.ensures.value c.member-item.is)
    c.loop-member.invariant c.in_ok-add_member.ensures
