use Rattle.std.proofs.Common.{map, subst, sym, ap, ◌∙◌}
use Rattle.th_type.specs.Signatures.{sig_of, find_sig}
use Rattle.th_type.specs.MethodTables.{Rising}
use Rattle.th_type.proofs.MethodLists.{found_at_is, goes_is}
use Rattle.th_type.proofs.known.Tables.method_of.Goals as goal

pub returns-in-Ok : goal.returns-in-Ok
returns-in-Ok c =
    let r = subst (λ ss. Rising ss) (sym c.methods_of-sigs.ensures) (c.requires c.args.name) in
    found_at_is c.methods_of-sigs.result.now c.args.method c.in-Ok.at c.index-sigs-at.result r c.in-Ok.ensures c.index-sigs-at.is ∙ ap (λ ss. find_sig ss c.args.method) c.methods_of-sigs.ensures

pub returns-in-Err : goal.returns-in-Err
returns-in-Err c = sym (goes_is (map sig_of c.methods_of-sigs.result.now) c.args.method c.in-Err.field-0 c.in-Err.ensures) ∙ ap (λ ss. find_sig ss c.args.method) c.methods_of-sigs.ensures
