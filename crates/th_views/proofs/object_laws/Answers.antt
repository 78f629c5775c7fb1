use Rattle.th_views.proofs.Objects.{all_v1, all_v2, all_v3, all_v5, all_counted}
use Rattle.th_views.proofs.Tabled.{all_v3_whole}
use Rattle.th_views.proofs.object_laws.Goals as goal

pub returns : goal.returns
returns c = record { v1 = all_v1; v2 = all_v2; v3 = all_v3; v3_whole = all_v3_whole; v5 = all_v5; counted = all_counted }
