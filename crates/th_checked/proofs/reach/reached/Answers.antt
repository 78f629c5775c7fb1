use Rattle.std.proofs.Common.{◌∙◌, ℕ, ◌<◌, ◌≤◌, List, length, map, get_or, ap, arith, rules}
use Rattle.std.proofs.lemmas.List.{get_or_read}
use Rattle.th_tree.specs.DeclView.{interface_of, module_of}
use Rattle.th_hier.specs.Naming.{with_numbers}
use Rattle.th_checked.specs.Reaching.{first_names, used_by}
use Rattle.th_checked.proofs.Reaching.{all_reached, reaching_first, reaching_more}
use Rattle.th_checked.proofs.reach.reached.Goals as goal

pub loop-at-init : goal.loop-at-init
loop-at-init c =
    let first = first_names (module_of c.args.program.now) in (
      c.in_ok-find_first.ensures.list,
      reaching_first (used_by (map interface_of c.args.interfaces.now)) first c.find_first.new.found (c.in_ok-find_first.ensures.found ∙ ap (λ (ns : List ℕ). with_numbers ns first) c.new-found.ensures),
    )

pub loop-at-preserved : goal.loop-at-preserved
loop-at-preserved c =
    let next = used_by (map interface_of c.args.interfaces.now) in
    let at = c.loop-at.at in
    let within : at < length c.loop-at.list.items = search rules in
    let below : at < length c.loop-at.found = omega (arith, within, ap length c.loop-at.invariant.0) in
    let read = get_or_read c.loop-at.list.items at c.index.result.now within c.index.ensures 0 in (
      c.in_ok-find_all.ensures.list,
      reaching_more next (first_names (module_of c.args.program.now)) at c.loop-at.found c.find_all.new.found c.loop-at.invariant.1 below
          (c.in_ok-find_all.ensures.found ∙ ap (with_numbers c.loop-at.found) (c.used_by-used.ensures ∙ ap next (read ∙ ap (λ (ns : List ℕ). get_or ns at 0) c.loop-at.invariant.0))),
    )

pub returns : goal.returns
returns c =
    let past : length c.loop-at.list.items ≤ c.loop-at.at = search rules in
    let all : length c.loop-at.found ≤ c.loop-at.at = omega (arith, past, ap length c.loop-at.invariant.0) in
    all_reached (used_by (map interface_of c.args.interfaces.now)) (first_names (module_of c.args.program.now)) c.loop-at.at c.loop-at.found c.loop-at.invariant.1 all
