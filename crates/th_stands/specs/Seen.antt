-- What a proof sees of a machine: its registers and the words of its region.
use Rattle.std.specs.Prelude.{◌≡◌, ℕ, ◌+◌, ◌*◌, ◌<◌, ◌≤◌, List, length, Option, Some}
use Rattle.th_world.specs.Event.{Event}
use Rattle.th_rv.specs.Memory.{Area, number_at}
use Rattle.th_rv.specs.Step.{State, reg}
use Rattle.th_elf.specs.Run.{Running, Run, trace}

-- the address of a word of the region
abbrev pub word_address : ℕ → ℕ
word_address i = 268435456 + 4 * i

-- the program counter, registers and words of the region, the input left and the trace
pub record Seen : Type 0 where
  pub pc : ℕ
  pub rf : ℕ → ℕ
  pub wf : ℕ → ℕ
  pub input : List ℕ
  pub trace : List Event

-- what stays as it is while an image runs: the memory of the image, which lies below the region, how many words the region
-- has, and the names of units by the addresses where they begin
pub record Loaded : Type 0 where
  pub areas : List Area
  pub size : ℕ
  pub names : ℕ → Option (List ℕ)
  pub small : size ≤ 16777216

-- a state of the machine is seen so
pub record Shows (g : Loaded) (m : State) (s : Seen) : Type 0 where
  pub pc_is : m.pc ≡ s.pc
  pub has_32 : length m.regs ≡ 32
  pub reg_is : (k : ℕ) → k < 32 → reg m.regs k ≡ s.rf k
  pub loads : (i : ℕ) → i < g.size → number_at 4 4 m.areas (word_address i) ≡ Some (s.wf i)
  pub stores : (i : ℕ) → i < g.size → (x : ℕ) × (number_at 4 2 m.areas (word_address i) ≡ Some x)
  pub code_stays : (flag a : ℕ) → a + 4 ≤ 268435456 → number_at 4 flag m.areas a ≡ number_at 4 flag g.areas a
  pub small : (k : ℕ) → k < 32 → s.rf k < 4294967296
  pub small_words : (i : ℕ) → i < g.size → s.wf i < 4294967296
  pub zero_is : s.rf 0 ≡ 0

-- a run that goes on is seen so
pub record Sees (g : Loaded) (r : Run) (s : Seen) : Type 0 where
  pub shows : Shows g r.state s
  pub goes : r.status ≡ Running
  pub input_is : r.input ≡ s.input
  pub trace_is : trace g.names r.log ≡ s.trace
