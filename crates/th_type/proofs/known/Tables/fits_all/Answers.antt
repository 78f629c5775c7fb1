use Rattle.th_type.specs.Signatures.{sig_of}
use Rattle.th_type.specs.MethodTables.{method_in}
use Rattle.th_type.specs.Tests.{fits_type}
use Rattle.th_type.specs.Tables.{tables_up, tables_methods}
use Rattle.th_type.proofs.Testing.{members_more, members_false}
use Rattle.th_type.proofs.known.Tables.fits_all.Goals as goal

pub returns-then-not-branch : goal.returns-then-not-branch
returns-then-not-branch c = members_false (fits_type (tables_up c.args.self.now) (method_in (tables_methods c.args.self.now)) (sig_of c.args.sig.now)) c.args.members.now c.loop-member.member-index c.member-item.result c.in_ok-fits_member.field-0 c.loop-member-test.true c.member-item.is c.in_ok-fits_member.ensures c.if-not-branch.true

pub loop-member-preserved : goal.loop-member-preserved
loop-member-preserved c = members_more (fits_type (tables_up c.args.self.now) (method_in (tables_methods c.args.self.now)) (sig_of c.args.sig.now)) c.args.members.now c.loop-member.member-index c.member-item.result c.in_ok-fits_member.field-0 c.loop-member-test.true c.member-item.is c.in_ok-fits_member.ensures c.if-not-branch.false c.loop-member.invariant
