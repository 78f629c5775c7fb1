use Rattle.th_stands.proofs.MoreLaws.{put_row_law, get_row_law, put_int_row_law}
use Rattle.th_stands.proofs.outside_laws.Goals as goal

pub returns : goal.returns
returns c = record {
  puts = put_row_law;
  gets = get_row_law;
  numbers = put_int_row_law;
}
