use Rattle.std.proofs.Common.{◌≡◌, ℕ, List, [], map}
use Rattle.std.proofs.lemmas.Result.{IfOk-weaker}
use Rattle.th_tree.specs.DeclView.{interface_of}
use Rattle.th_hier.specs.Naming.{has}
use Rattle.th_hier.specs.Numbering.{full_numbers}
use Rattle.th_outlines.specs.Fulls.{with_interfaces}
use Rattle.th_outlines.proofs.Gathering.{found_by}
use Rattle.th_outlines.proofs.fulls.full_numbers.Goals as goal

pub returns : goal.returns
returns c = λ table is.
    IfOk-weaker c.found_fulls.result (λ (ns : List ℕ). ns ≡ with_interfaces c.args.index.now [] (map interface_of c.args.interfaces.now)) (λ (ns : List ℕ). (n : ℕ) → has ns n ≡ has (full_numbers c.args.index.now) n)
    (λ ns found n. found_by c.args.index.now ns (map interface_of c.args.interfaces.now) table n is found) c.found_fulls.ensures
