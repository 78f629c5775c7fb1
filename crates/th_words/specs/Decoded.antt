-- The command that an answer says.
use Rattle.std.specs.Prelude.{map, string_bytes}
use Rattle.th_words.specs.Words.{Command, Go, Run}
use Rattle.th_words.specs.declared.commands.Command.{Command as Answer}
use Rattle.th_words.specs.declared.commands.Command.TheVariants as answers

-- the command, with the bytes of its names
abbrev pub command_of : Answer → Command
command_of (answers.Go out files) = Go out.now (map string_bytes files.now)
command_of (answers.Run file region steps) = Run file.now region steps
