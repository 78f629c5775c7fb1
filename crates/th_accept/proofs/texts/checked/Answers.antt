use Rattle.std.proofs.Common.{List, map, subst}
use Rattle.std.proofs.lemmas.Result.{err_from_is_err_and}
use Rattle.th_meaning.specs.declared.declared.CoreModule.{CoreModule}
use Rattle.th_meaning.specs.View.{module_of}
use Rattle.th_module_rules.specs.Limits.{KeepsLimits}
use Rattle.th_module_rules.specs.Stages.{Program}
use Rattle.th_program.specs.Programs.{program_of}
use Rattle.th_accept.specs.Counts.{all_counts}
use Rattle.th_accept.specs.Stages.{Exceeds}
use Rattle.th_accept.proofs.Accepting.{are_lawful, exceeds_refused, fails_refused, given_on, many_checked, read_on}
use Rattle.th_accept.proofs.texts.checked.Goals as goal

pub returns-in_err-modules-clause-refused : goal.returns-in_err-modules-clause-refused
returns-in_err-modules-clause-refused c =
    let p = program_of c.put_names.new.trees in
    let put = c.in_ok-put_names.ensures in
    let is = err_from_is_err_and c.from_residual-in_err-modules.result c.from_residual-in_err-modules.ensures.1 in
    λ texts h. rw (is.1, is.2)
    (fails_refused texts c.args.tokens.now p c.in_err-modules.field-0.0 (read_on texts c.args.tokens.now c.args.trees p h c.requires.paired put.grown (record { table = put.table; interfaces = put.interfaces; modules = put.modules })) put.named
    (given_on (program_of c.args.trees) p put.interfaces put.modules c.in_ok-demand_given.ensures.given) c.in_err-modules.ensures.failed)

pub returns-in_err-demand_limits-clause-refused : goal.returns-in_err-demand_limits-clause-refused
returns-in_err-demand_limits-clause-refused c =
    let xs = c.args.tokens.now in
    let p = program_of c.put_names.new.trees in
    let put = c.in_ok-put_names.ensures in
    let rs = c.in_ok-modules.modules.items in
    let e = c.in_err-demand_limits.field-0.0 in
    let much = subst (λ (ms : List CoreModule). Exceeds (all_counts xs p (map module_of ms)) e) c.deref.ensures.value
    (subst (λ (q : Program). Exceeds (all_counts xs q (map module_of c.deref.result.now)) e) c.in_ok-modules.ensures.trees c.in_err-demand_limits.ensures.exceeded) in
    let is = err_from_is_err_and c.from_residual-in_err-demand_limits.result c.from_residual-in_err-demand_limits.ensures.1 in
    λ texts h. rw (is.1, is.2)
    (exceeds_refused texts xs p (map module_of rs) e
    (are_lawful texts xs p (map module_of rs) (read_on texts xs c.args.trees p h c.requires.paired put.grown (record { table = put.table; interfaces = put.interfaces; modules = put.modules })) put.named
    (given_on (program_of c.args.trees) p put.interfaces put.modules c.in_ok-demand_given.ensures.given) c.in_ok-modules.ensures.rules c.in_ok-modules.ensures.checked) much)

pub returns-clause-accepted : goal.returns-clause-accepted
returns-clause-accepted c =
    let xs = c.args.tokens.now in
    let p = program_of c.put_names.new.trees in
    let put = c.in_ok-put_names.ensures in
    let rs = c.in_ok-modules.modules.items in
    let kept = subst (λ (ms : List CoreModule). KeepsLimits (all_counts xs p (map module_of ms))) c.deref.ensures.value
    (subst (λ (q : Program). KeepsLimits (all_counts xs q (map module_of c.deref.result.now))) c.in_ok-modules.ensures.trees c.in_ok-demand_limits.ensures.kept) in
    λ texts h. (
      xs,
      p,
      are_lawful texts xs p (map module_of rs) (read_on texts xs c.args.trees p h c.requires.paired put.grown (record { table = put.table; interfaces = put.interfaces; modules = put.modules })) put.named
          (given_on (program_of c.args.trees) p put.interfaces put.modules c.in_ok-demand_given.ensures.given) c.in_ok-modules.ensures.rules c.in_ok-modules.ensures.checked,
      kept,
    )

pub returns-clause-many : goal.returns-clause-many
returns-clause-many c =
    let p = program_of c.put_names.new.trees in
    many_checked module_of c.args.trees p c.args.tokens.now c.in_ok-modules.modules.items c.requires.paired c.in_ok-put_names.ensures.modules c.in_ok-modules.ensures.checked
