-- Reserved words and symbols, by their length.
use Rattle.std.specs.Prelude.{ℕ, nat_eq, List, [], ◌∷◌, length, if◌then◌else◌}
use Rattle.th_tree.specs.declared.tokens.Reserved.{Reserved}
use Rattle.th_tree.specs.declared.tokens.Sym.{Sym}
use Rattle.th_tree.specs.Tokens.{spelling, sign, all_words, all_symbols}

-- those of some things that are written in n bytes
abbrev pub of_length : {A : Type 0} → (A → List ℕ) → ℕ → List A → List A
of_length spell n [] = []
of_length spell n (x ∷ xs) = if nat_eq (length (spell x)) n then x ∷ of_length spell n xs else of_length spell n xs

-- the reserved words of n letters
abbrev pub words_of : ℕ → List Reserved
words_of n = of_length spelling n all_words

-- the symbols of n bytes
abbrev pub symbols_of : ℕ → List Sym
symbols_of n = of_length sign n all_symbols
