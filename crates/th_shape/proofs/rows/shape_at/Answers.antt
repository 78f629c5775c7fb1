use Rattle.th_shape.proofs.Rowing.{shape_got}
use Rattle.th_shape.proofs.rows.shape_at.Goals as goal

pub returns : goal.returns
returns c = shape_got c.args.classes.now _ c.index-classes-place.result c.index-classes-place.result c.requires.within c.index-classes-place.is
