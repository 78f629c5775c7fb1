-- A command that is read off words has few files, or a lawful region.
use Rattle.std.proofs.Common.{ℕ, List, [], ◌∷◌, sym, subst}
use Rattle.th_elf.specs.Lawful.{IsRegion}
use Rattle.th_words.specs.Words as words
use Rattle.th_words.specs.Words.{Command, Go, Run, IsCommand, Says, values}
use Rattle.th_words.specs.declared.options.OptionName.TheVariants.{Region}
use Rattle.th_top.specs.Built.{IsKept}
use Rattle.th_top.proofs.Expected.{lawful_region}

said : (given : List (List ℕ)) (n : ℕ) → Says words.IsRegion 1048576 given n → IsRegion n
said [] n is = subst IsRegion (sym is) lawful_region
said (value ∷ []) n is = record { least = is.least; greatest = is.most; whole = is.aligned }
said (value ∷ again ∷ more) n is = absurd is

-- the files that words name are few, and the region that they say, or that stands where they say none, is lawful
pub is_kept : (ws : List (List ℕ)) (c : Command) → IsCommand ws c → IsKept c
is_kept ws (Go out files) is = is.names
is_kept ws (Run file region steps) is = said (values Region is.items) region is.region_said
