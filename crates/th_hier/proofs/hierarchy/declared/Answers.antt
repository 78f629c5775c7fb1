use Rattle.std.proofs.Common.{ap, sym, subst, map}
use Rattle.th_tree.specs.DeclView.{interface_of}
use Rattle.th_type.specs.Rules.{WellFormed}
use Rattle.th_hier.specs.Numbering.{Numbering, AllNamed}
use Rattle.th_hier.proofs.FullNames.{numbered_named}
use Rattle.th_hier.proofs.Fitting.{declared_fit}
use Rattle.th_hier.proofs.hierarchy.declared.Goals as goal

pub returns-clause-fit : goal.returns-clause-fit
returns-clause-fit c =
    subst WellFormed (sym c.in_ok-types.ensures.types)
    (declared_fit c.args.names.now (map interface_of c.args.interfaces.now) c.in_ok-index.index (ap (λ (s : Numbering). s.items) c.in_ok-index.ensures.items))

pub returns-clause-named : goal.returns-clause-named
returns-clause-named c =
    subst (λ (s : Numbering). AllNamed c.args.names.now s.table s.items) (sym c.in_ok-index.ensures.items) (numbered_named c.args.names.now (map interface_of c.args.interfaces.now))
