use Rattle.std.proofs.Common.{◌∙◌, [], List, ap, map}
use Rattle.th_tree.specs.declared.decl.Interface.{Interface}
use Rattle.th_hier.specs.Naming.{with_numbers}
use Rattle.th_full_names.specs.Earliest.{used_of}
use Rattle.th_full_names.proofs.GivenLaws.{none_missing, some_missing}
use Rattle.th_full_names.proofs.given.demand_interfaces.Goals as goal

pub returns-in-None : goal.returns-in-None
returns-in-None c =
    none_missing c.args.trees.now c.in_ok-given.given c.requires.paired
    (c.in_ok-given.ensures ∙ ap (λ (is : List Interface). with_numbers [] (map (λ i. i.name.name) is)) c.deref.ensures.value) c.in-None.ensures

pub returns : goal.returns
returns c =
    some_missing c.args.trees.now c.in_ok-given.given (used_of c.in-Some.used) c.in_ok-missing_at-in-Some.field-0 c.requires.paired
    (c.in_ok-given.ensures ∙ ap (λ (is : List Interface). with_numbers [] (map (λ i. i.name.name) is)) c.deref.ensures.value) c.in-Some.ensures
    c.in_ok-missing_at-in-Some.ensures.place c.in_ok-missing_at-in-Some.ensures.name
