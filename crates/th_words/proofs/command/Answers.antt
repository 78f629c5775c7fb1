use Rattle.std.proofs.Common.{map, string_bytes}
use Rattle.th_words.specs.Decoded.{command_of}
use Rattle.th_words.proofs.Whole.{some_said, none_said, only_said}
use Rattle.th_words.proofs.command.Goals as goal

pub returns-clause-some : goal.returns-clause-some
returns-clause-some c = some_said command_of c.read_command.result (map string_bytes c.args.words.now) c.read_command.ensures

pub returns-clause-none : goal.returns-clause-none
returns-clause-none c = none_said command_of c.read_command.result (map string_bytes c.args.words.now) c.read_command.ensures

pub returns-clause-only : goal.returns-clause-only
returns-clause-only c = only_said (map string_bytes c.args.words.now)
