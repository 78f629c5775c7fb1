use Rattle.th_stands.proofs.Laws.{go_row_law, unless_row_law, turn_row_law}
use Rattle.th_stands.proofs.way_laws.Goals as goal

pub returns : goal.returns
returns c = record {
  goes = go_row_law;
  unlesses = unless_row_law;
  turns = turn_row_law;
}
