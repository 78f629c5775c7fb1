use Rattle.std.proofs.Common.{◌≡◌, ◌+◌, ◌*◌, ◌-◌, ◌++◌}
use Rattle.std.specs.Prelude.{filter}
use Rattle.th_elf.specs.Loadable.{is_loaded, headers_from, loaded_headers}
use Rattle.th_elf.proofs.judge.loaded_headers.Given as goal

abbrev pub invariant-loop-i : goal.invariant-loop-i
invariant-loop-i l = l.headers.items ++ filter is_loaded (headers_from l.file (l.count - l.i) (l.first + 32 * l.i)) ≡ loaded_headers l.file
