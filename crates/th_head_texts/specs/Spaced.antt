-- Texts that grow by words, and what the code reads the words of a head by.
use Rattle.std.specs.Prelude.{ℕ, Bool, true, false, List, [], ◌∷◌, ◌++◌}
use Rattle.th_head_texts.specs.declared.bare.Reading.{Reading}
use Rattle.th_head_texts.specs.Heads.{Origin}

-- a word, after a space where a word stands before it
abbrev pub after_space : Bool → List ℕ → List ℕ
after_space false w = w
after_space true w = 32 ∷ w

-- words with single spaces between them, after a space where a word stands before them
abbrev pub spaced : Bool → List (List ℕ) → List ℕ
spaced begun [] = []
spaced begun (w ∷ ws) = after_space begun w ++ spaced true ws

-- what the words of a head are read by
abbrev pub read_by : List (List ℕ) → Reading → Origin
read_by names r = record { names = names; items = r.index.now; implements = r.implements; params = r.params.now }
