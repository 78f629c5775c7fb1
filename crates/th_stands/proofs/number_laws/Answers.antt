use Rattle.th_stands.proofs.Laws.{word_row_law, local_row_law, set_row_law, drop_row_law, compare_row_law, add_row_law, subtract_row_law, multiply_row_law}
use Rattle.th_stands.proofs.MoreLaws.{opposite_row_law, divide_row_law, remainder_row_law}
use Rattle.th_stands.proofs.number_laws.Goals as goal

pub returns : goal.returns
returns c = record {
  words = word_row_law;
  locals = local_row_law;
  sets = set_row_law;
  drops = drop_row_law;
  compares = compare_row_law;
  sums = add_row_law;
  differences = subtract_row_law;
  products = multiply_row_law;
  quotients = divide_row_law;
  remainders = remainder_row_law;
  opposites = opposite_row_law;
}
