use Rattle.std.proofs.Common.{◌∙◌}
use Rattle.th_bodies.proofs.Paired.{both_ok}
use Rattle.th_bodies.proofs.modules.push_module.Goals as goal

pub returns-clause-pushed : goal.returns-clause-pushed
returns-clause-pushed c =
    both_ok c.push_units.result
    (λ u k. (c.units_or_none.result, c.in_ok-units.known, u, k, λ none. (λ own ps e. c.units_or_none.ensures ps (c.in_ok-units.ensures.units own none ∙ e), c.in_ok-units.ensures.items)))
    c.push_units.ensures.units c.push_units.ensures.known
