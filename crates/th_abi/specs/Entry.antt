-- The rows at which units are entered.
use Rattle.std.specs.Prelude.{ℕ, ◌+◌, ◌*◌, Bool, true, false, ◌||◌, List, [], ◌∷◌, ◌++◌, nat_eq, if◌then◌else◌}
use Rattle.th_rv.specs.declared.instr.Instr.TheVariants.{Sw, Addi, Bgeu, Ecall}
use Rattle.th_flat.specs.declared.module.FlatUnit.{FlatUnit}
use Rattle.th_flat.specs.Configs.{words_of, is_body, is_iterator}
use Rattle.th_abi.specs.declared.word.PatternWord.{PatternWord}
use Rattle.th_abi.specs.Registers as register
use Rattle.th_abi.specs.Words.{plain}
use Rattle.th_abi.specs.Sequences.{environment}
use Rattle.th_abi.specs.Control.{header_words}

-- how many bytes a frame has: its header, its local words and its stack
abbrev pub frame_bytes : FlatUnit → ℕ
frame_bytes u = 4 * (header_words + words_of u + u.depth)

-- above each frame so many bytes are free for the frame of a supply stub and for a bridge
abbrev pub spare_bytes : ℕ
spare_bytes = 136

-- the run stops unless there is room for so many bytes and the spare ones
abbrev pub room_test : ℕ → List PatternWord
room_test bytes = plain (Addi register.free register.top (bytes + spare_bytes)) ∷ plain (Bgeu register.limit register.free 12) ∷ environment 5

-- what is restored when the activation ends stands in its header
abbrev pub saved : List PatternWord
saved = plain (Sw register.top register.link 0) ∷ plain (Sw register.top register.locals 4) ∷ plain (Sw register.top register.stack 8) ∷ plain (Sw register.top register.header 12) ∷ []

-- an iterator's loop body and its home stand there too
abbrev pub loop_saved : Bool → List PatternWord
loop_saved true = plain (Sw register.top register.body 16) ∷ plain (Sw register.top register.home_locals 20) ∷ []
loop_saved false = []

-- a frame begins, whose stack stands above so many local words
abbrev pub opened : (words bytes : ℕ) → List PatternWord
opened words bytes =
    plain (Addi register.header register.top 0) ∷ plain (Addi register.locals register.top (4 * header_words))
    ∷ plain (Addi register.stack register.locals (4 * words)) ∷ plain (Addi register.top register.top bytes) ∷ []

-- a loop body is at work in the frame of its home: it has a header alone
abbrev pub body_entry : (words : ℕ) → List PatternWord
body_entry words =
    room_test 16 ++ (saved ++ (plain (Addi register.header register.top 0) ∷ plain (Addi register.top register.top 16)
    ∷ plain (Addi register.locals register.home_locals 0) ∷ plain (Addi register.stack register.locals (4 * words)) ∷ []))

-- a supply stub has a frame in the spare bytes above the frame of its caller
abbrev pub entry_row : FlatUnit → List PatternWord
entry_row u =
    if is_body u then body_entry (words_of u)
    else if nat_eq u.kind 6 then saved ++ opened (words_of u) (frame_bytes u)
    else room_test (frame_bytes u) ++ (saved ++ (loop_saved (is_iterator u) ++ opened (words_of u) (frame_bytes u)))
