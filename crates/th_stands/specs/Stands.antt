-- When a state of the machine stands for a configuration of Flat code: where values, frames and headers of activations stand.
use Rattle.std.specs.Prelude.{◌≡◌, ℕ, ◌+◌, ◌-◌, ◌*◌, ◌<◌, ◌≤◌, List, [], ◌∷◌, length, Option, Some, None, cond, nat_eq, slice_get, if◌then◌else◌}
use Rattle.th_flat.specs.declared.module.FlatUnit.{FlatUnit}
use Rattle.th_flat.specs.Values.{View, FlatValue, Int, Ref, Text, Code, FlatWorld, Status, Fine, Thrown, IsStopped, signed}
use Rattle.th_flat.specs.Runs.{room_below}
use Rattle.th_flat.specs.Configs.{Loop, NoLoop, Upto, ByUnit, Here, Stack, Bottom, Call, Paused, words_of, home_unit}
use Rattle.th_meaning.specs.World.{Object}
use Rattle.th_abi.specs.declared.word.Home.{Home}
use Rattle.th_abi.specs.declared.word.Home.TheVariants.{Register, Frame}
use Rattle.th_abi.specs.Sequences.{home}
use Rattle.th_stands.specs.Seen.{word_address, Seen, Loaded}

-- where everything of a program stands: the image; the first words of units, of operations' rows, and of what follows the linking jumps of
-- rows; the entries of exceptions; and what follows the linking jump of the start words
pub record Places : Type 0 where
  pub loaded : Loaded
  pub unit_at : (unit : List ℕ) → ℕ
  pub op_at : (unit : List ℕ) → (op : ℕ) → ℕ
  pub back_at : (unit : List ℕ) → (op : ℕ) → ℕ
  pub exception_at : (name : List ℕ) → ℕ
  pub start_back : ℕ

-- the heap: its lowest word in the region, the address of each object as it is seen, and the text at an address
pub record Heap : Type 0 where
  pub low : ℕ
  pub object_at : (object : ℕ) → View → ℕ
  pub text_at : (address : ℕ) → List ℕ

module _ (p : Places) (q : Heap) where
  -- a word of the machine means a value
  abbrev pub Means : FlatValue → ℕ → Type 0
  Means (Int n) w = signed w ≡ n
  Means (Ref object view) w = w ≡ q.object_at object view
  Means (Text bytes) w = q.text_at w ≡ bytes
  Means (Code unit) w = w ≡ p.unit_at unit

  -- the status word and the value word mean a status
  abbrev pub StatusIs : Status → (status value : ℕ) → Type 0
  StatusIs Fine s v = s ≡ 0
  StatusIs (Thrown x None) s v = s ≡ p.exception_at x
  StatusIs (Thrown x (Some a)) s v = (s ≡ p.exception_at x) × Means a v
  StatusIs IsStopped s v = s ≡ 1

  -- the words at the places of a stack mean its values
  abbrev pub StackIs : (cell : ℕ → ℕ) → List FlatValue → Type 0
  StackIs cell [] = Unit {0}
  StackIs cell (v ∷ st) = Means v (cell (length st)) × StackIs cell st

  -- a frame's local words that are set mean their values
  abbrev pub LocalsAre : (wf : ℕ → ℕ) → (fp : ℕ) → List (Option FlatValue) → Type 0
  LocalsAre wf fp locals = (k : ℕ) (v : FlatValue) → slice_get locals k ≡ Some (Some v) → Means v (wf (fp + k))

  -- the frame of a unit that waits
  pub record FrameIs (wf : ℕ → ℕ) (u : FlatUnit) (fp sb : ℕ) (stack : List FlatValue) (locals : List (Option FlatValue)) : Type 0 where
    pub stack_at : sb ≡ fp + words_of u
    pub count : length locals ≡ words_of u
    pub height : length stack ≤ u.depth
    pub locals_are : LocalsAre wf fp locals
    pub stack_is : StackIs (λ j. wf (sb + j)) stack

-- the header at a word: where its activation returns to, and the local words, the stack and the header of the activation below
pub record HeaderIs (wf : ℕ → ℕ) (hp back fp sb below : ℕ) : Type 0 where
  pub back_is : wf hp ≡ back
  pub locals_is : wf (hp + 1) ≡ word_address fp
  pub stack_is : wf (hp + 2) ≡ word_address sb
  pub header_is : wf (hp + 3) ≡ word_address below

-- how many words stay free above a unit's frame, for the frame of a supply stub and for a bridge, or for a bridge alone
abbrev pub spare_of : FlatUnit → ℕ
spare_of u = if nat_eq u.kind 6 then 8 else 34

-- above word `top`, where the frames of a unit end, its spare words are free, and up to there frames take no more than the room of the open calls
abbrev pub Spares : Heap → FlatUnit → (top room : ℕ) → Type 0
Spares q u top room = (top + spare_of u ≤ q.low) × (4 * (top + spare_of u) ≤ room)

module _ (p : Places) (q : Heap) where
  -- the header of an iterator's frame has the loop body of its call, and the local words of the loop's home
  abbrev pub LoopIs : (wf : ℕ → ℕ) → (hp fp : ℕ) → Loop → Type 0
  LoopIs wf hp fp NoLoop = Unit {0}
  LoopIs wf hp fp (Upto first last) = ⊥
  LoopIs wf hp fp (ByUnit home body) = (wf (hp + 4) ≡ p.unit_at body.name) × (wf (hp + 5) ≡ word_address fp)

  -- what a unit holds whose header is at hp and which works in the frame at fp and sb; `Under` is what is asked of the header of the unit's own frame. A unit
  -- that holds nothing has its header before its local words. A loop body returns to the iterator that waits above the loop's home
  abbrev pub Held : (wf : ℕ → ℕ) → (hp : ℕ) → FlatUnit → (fp sb : ℕ) → (held : Stack) → (Under : ℕ → Type 0) → Type 0
  Held wf hp u fp sb Bottom Under = (fp ≡ hp + 6) × Under hp
  Held wf hp u fp sb (Call u1 at st ls held loop below) Under = ⊥
  Held wf hp u fp sb (Paused it at st ls holds home loop rest) Under =
      (ifp isb ihp : ℕ) × (HeaderIs wf hp (p.back_at it.name at) ifp isb ihp × FrameIs p q wf it ifp isb st ls × (isb + it.depth ≤ hp) × (ihp + 4 ≤ hp)
      × Held wf ihp it ifp isb holds (λ h. (hhp : ℕ) × (HeaderIs wf h (p.back_at (home_unit loop u).name home) fp sb hhp × (sb + u.depth ≤ h) × (hhp + 4 ≤ h) × LoopIs wf h fp loop
      × Held wf hhp (home_unit loop u) fp sb rest Under)))

  -- what lies below an activation with a frame of its own whose header is at hp
  abbrev pub Below : (wf : ℕ → ℕ) → (below : Stack) → (hp : ℕ) → Type 0
  Below wf Bottom hp = wf hp ≡ p.start_back
  Below wf (Call u at st ls held loop below) hp =
      (fp sb hp2 : ℕ) × (HeaderIs wf hp (p.back_at u.name at) fp sb hp2 × FrameIs p q wf u fp sb st ls × (sb + u.depth ≤ hp) × (hp2 + 4 ≤ hp) × Spares q u hp (room_below (Call u at st ls held loop below)) × LoopIs wf hp fp loop
      × Held wf hp2 u fp sb held (λ h. Below wf below h))
  Below wf (Paused it at st ls holds home loop rest) hp = ⊥

  -- objects on the heap; there are none yet
  abbrev pub ObjectsAre : (wf : ℕ → ℕ) → List (Object FlatValue) → Type 0
  ObjectsAre wf [] = Unit {0}
  ObjectsAre wf (o ∷ objects) = ⊥

-- the word at a place of the stack of the unit at work
abbrev pub cell_of : Home → Seen → (sb : ℕ) → ℕ
cell_of (Register r) s sb = s.rf r
cell_of (Frame k) s sb = s.wf (sb + k)

abbrev pub cell : Seen → (sb : ℕ) → (place : ℕ) → ℕ
cell s sb place = cell_of (home place) s sb

-- the loop body of the next call stands in its registers
abbrev pub LoopNext : Places → Seen → Loop → Type 0
LoopNext p s NoLoop = Unit {0}
LoopNext p s (Upto first last) = ⊥
LoopNext p s (ByUnit home body) = (s.rf 30 ≡ p.unit_at body.name) × (s.rf 31 ≡ s.rf 8)

-- a unit is at work in the frame at fp and sb, with its header at hp; all open frames end before word `top`
pub record Works (p : Places) (q : Heap) (s : Seen) (u : FlatUnit) (fp sb hp top : ℕ) (h : Here) (held below : Stack) : Type 0 where
  pub locals_reg : s.rf 8 ≡ word_address fp
  pub stack_reg : s.rf 9 ≡ word_address sb
  pub header_reg : s.rf 3 ≡ word_address hp
  pub top_reg : s.rf 27 ≡ word_address top
  pub limit_reg : s.rf 26 ≡ word_address q.low
  pub stack_at : sb ≡ fp + words_of u
  pub within : sb + u.depth ≤ top
  pub header_in : hp + 4 ≤ top
  pub spare : top + spare_of u ≤ q.low
  pub limited : q.low ≤ p.loaded.size
  pub count : length h.locals ≡ words_of u
  pub locals_are : LocalsAre p q s.wf fp h.locals
  pub stack_is : StackIs p q (cell s sb) h.stack
  pub status_is : StatusIs p q h.status (s.rf 24) (s.rf 25)
  pub held_is : Held p q s.wf hp u fp sb held (λ i. Below p q s.wf below i)

-- the world is seen so, and the frames and the heap take no more than the room that is in use
pub record WorldIs (p : Places) (q : Heap) (s : Seen) (w : FlatWorld) (heap : ℕ) : Type 0 where
  pub input_is : s.input ≡ w.input
  pub bytes : (i b : ℕ) → slice_get w.input i ≡ Some b → b < 256
  pub trace_is : s.trace ≡ w.trace
  pub objects_are : ObjectsAre p q s.wf w.objects
  pub heap_is : 4 * (p.loaded.size - q.low) ≤ heap

-- a state that stands for a unit at an operation; `used` is the room of the open calls, and `heap` that of the heap
pub record AtOp (p : Places) (used heap : ℕ) (u : FlatUnit) (at : ℕ) (loop : Loop) (h : Here) (held below : Stack) (w : FlatWorld) (s : Seen) : Type 0 where
  pub heap_at : Heap
  pub fp : ℕ
  pub sb : ℕ
  pub hp : ℕ
  pub top : ℕ
  pub pc_is : s.pc ≡ p.op_at u.name at
  pub works : Works p heap_at s u fp sb hp top h held below
  pub loop_is : LoopNext p s loop
  pub room_is : 4 * (top + spare_of u) ≤ used
  pub world_is : WorldIs p heap_at s w heap

-- words with one changed
abbrev pub with_word : (ℕ → ℕ) → (at x : ℕ) → ℕ → ℕ
with_word wf at x i = cond (nat_eq i at) x (wf i)

-- the words after a header was written at the end of all open frames: where the activation returns to, and the local words, the stack and the header of
-- the unit at work
abbrev pub headed : Seen → (top : ℕ) → ℕ → ℕ
headed s top = with_word (with_word (with_word (with_word s.wf top (s.rf 1)) (top + 1) (s.rf 8)) (top + 2) (s.rf 9)) (top + 3) (s.rf 3)

-- a state that stands for a unit before its entry: its operands stand behind the place of its header
pub record EnterAt (p : Places) (used heap : ℕ) (u : FlatUnit) (args : List FlatValue) (below : Stack) (w : FlatWorld) (s : Seen) : Type 0 where
  pub heap_at : Heap
  pub top : ℕ
  pub pc_is : s.pc ≡ p.unit_at u.name
  pub top_reg : s.rf 27 ≡ word_address top
  pub limit_reg : s.rf 26 ≡ word_address heap_at.low
  pub fine : s.rf 24 ≡ 0
  pub count : length args ≡ u.args
  pub args_are : (i : ℕ) (v : FlatValue) → slice_get args i ≡ Some v → Means p heap_at v (s.wf (top + 6 + i))
  pub below_is : Below p heap_at (headed s top) below top
  pub within : top ≤ heap_at.low
  pub limited : heap_at.low ≤ p.loaded.size
  pub room_is : 4 * top ≤ used
  pub world_is : WorldIs p heap_at s w heap

-- the registers of an activation that goes on after a call, where the one above it had its header at hp
abbrev pub BackIn : Places → Heap → Seen → (below : Stack) → (hp : ℕ) → Type 0
BackIn p q s Bottom hp = s.pc ≡ p.start_back
BackIn p q s (Call u at st ls held loop below) hp =
    (fp sb hp2 : ℕ) × ((s.pc ≡ p.back_at u.name at) × (s.rf 8 ≡ word_address fp) × (s.rf 9 ≡ word_address sb) × (s.rf 3 ≡ word_address hp2) × FrameIs p q s.wf u fp sb st ls × (sb + u.depth ≤ hp) × (hp2 + 4 ≤ hp)
    × Spares q u hp (room_below (Call u at st ls held loop below)) × LoopIs p q s.wf hp fp loop × Held p q s.wf hp2 u fp sb held (λ h. Below p q s.wf below h))
BackIn p q s (Paused it at st ls holds home loop rest) hp = ⊥

-- the value word means the value of an activation that gave one
abbrev pub ValueIs : Places → Heap → Option FlatValue → ℕ → Type 0
ValueIs p q None x = Unit {0}
ValueIs p q (Some v) x = Means p q v x

-- a state that stands for the end of an activation
pub record ReturnedAt (p : Places) (heap : ℕ) (x : Status) (v : Option FlatValue) (below : Stack) (w : FlatWorld) (s : Seen) : Type 0 where
  pub heap_at : Heap
  pub hp : ℕ
  pub top_reg : s.rf 27 ≡ word_address hp
  pub limit_reg : s.rf 26 ≡ word_address heap_at.low
  pub within : hp ≤ heap_at.low
  pub limited : heap_at.low ≤ p.loaded.size
  pub status_is : StatusIs p heap_at x (s.rf 24) (s.rf 25)
  pub value_is : ValueIs p heap_at v (s.rf 25)
  pub back_is : BackIn p heap_at s below hp
  pub world_is : WorldIs p heap_at s w heap
