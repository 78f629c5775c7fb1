use Rattle.th_views.proofs.Lawful.{all_v1, all_v5}
use Rattle.th_views.proofs.type_laws.Goals as goal

pub returns : goal.returns
returns c = record { casts = all_v1; slots = all_v5 }
