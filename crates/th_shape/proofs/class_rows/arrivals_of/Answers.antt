use Rattle.std.proofs.Common.{◌≡◌, ℕ, List, ◌∷◌, nat_eq, ap, get_or, refl, ◌∙◌}
use Rattle.std.specs.Map.{lookup}
use Rattle.std.specs.Prelude.{option_map}
use Rattle.th_type.specs.Declarations.{DeclaredType}
use Rattle.th_type.specs.Lists.{or_else}
use Rattle.th_views.specs.Shapes.{Shape, shape_of}
use Rattle.th_shape.specs.Heads.{result_kind}
use Rattle.th_shape.specs.Results.{picked}
use Rattle.th_shape.specs.Lines.{sig_result, arrival}
use Rattle.th_shape.specs.Built.{UpResults, kinds}
use Rattle.th_shape.proofs.Featured.{arrives_up, arrives_none, up_has, up_none, if_ok}
use Rattle.th_shape.proofs.class_rows.arrivals_of.Goals as goal

pub returns-in_ok-add_carried-in-Some : goal.returns-in_ok-add_carried-in-Some
returns-in_ok-add_carried-in-Some c = if_ok _ _ c.add_rest.result (λ r a D above h s q.
    let u = up_has D c.args.done.now c.args.up c.in-Some.place (get_or c.args.done.now c.in-Some.place c.index-done-place.result) c.index-done-place.result above c.in-Some.is (c.requires c.in-Some.place c.in-Some.is) refl h in
    arrives_up D (shape_of c.args.shape.now) above q (kinds c.new-arrivals.result q) (kinds c.add_picked.new.self q) (kinds c.add_carried.new.results q) (kinds r q) (kinds (get_or c.args.done.now c.in-Some.place c.index-done-place.result).arrivals q) (kinds c.args.sigs.now q) (ap (lookup (nat_eq q)) c.new-arrivals.ensures) (c.in_ok-add_picked.ensures q ∙ ap (λ m. or_else (kinds c.new-arrivals.result q) (picked m (kinds c.args.sigs.now q) q)) c.as_slice.ensures) (c.in_ok-add_carried-in-Some.ensures q) (a q) (s q) (u.arrivals q)) c.add_rest.ensures

pub returns-in-None : goal.returns-in-None
returns-in-None c = if_ok _ _ c.add_rest-in-None.result (λ r a D above h s q.
    arrives_none D (shape_of c.args.shape.now) above q (kinds c.new-arrivals.result q) (kinds c.add_picked.new.self q) (kinds r q) (kinds c.args.sigs.now q) (ap (lookup (nat_eq q)) c.new-arrivals.ensures) (c.in_ok-add_picked.ensures q ∙ ap (λ m. or_else (kinds c.new-arrivals.result q) (picked m (kinds c.args.sigs.now q) q)) c.as_slice.ensures) (a q) (s q) (up_none D c.args.done.now c.args.up above c.in-None.is h)) c.add_rest-in-None.ensures
