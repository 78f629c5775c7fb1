-- What a log puts and takes is what its trace does, with any names of units.
use Rattle.std.proofs.Common.{◌≡◌, ℕ, List, [], ◌∷◌, ◌++◌, Option, Some, None, refl, sym, ap, ◌∙◌, append_assoc}
use Rattle.std.specs.Prelude.{option_to_list}
use Rattle.th_world.specs.Event.{Event, Put, Took, FoundEnd, Entered, puts, takes}
use Rattle.th_elf.specs.Run.{Retired, trace, entry_of, no_names, Takes, TakesOne}

puts_entry : (n : Option (List ℕ)) (t : List Event) → puts (entry_of n ++ t) ≡ puts t
puts_entry None t = refl
puts_entry (Some unit) t = refl

puts_step : (d : Option Event) (n : Option (List ℕ)) (t u : List Event) → puts t ≡ puts u → puts (option_to_list d ++ entry_of n ++ t) ≡ puts (option_to_list d ++ entry_of None ++ u)
puts_step None n t u e = puts_entry n t ∙ e
puts_step (Some (Put b)) n t u e = ap (λ l. l ++ b ∷ []) (puts_entry n t ∙ e)
puts_step (Some (Took b)) n t u e = puts_entry n t ∙ e
puts_step (Some FoundEnd) n t u e = puts_entry n t ∙ e
puts_step (Some (Entered unit)) n t u e = puts_entry n t ∙ e

-- names change nothing of the bytes that a log puts
pub trace_puts : (names : ℕ → Option (List ℕ)) (log : List Retired) → puts (trace names log) ≡ puts (trace no_names log)
trace_puts names [] = refl
trace_puts names (e ∷ log) = puts_step e.did (names e.pc) (trace names log) (trace no_names log) (trace_puts names log)

takes_entry : (n : Option (List ℕ)) (t : List Event) → takes (entry_of n ++ t) ≡ takes t
takes_entry None t = refl
takes_entry (Some unit) t = refl

takes_step : (d : Option Event) (n : Option (List ℕ)) (t : List Event) (left middle rest : List ℕ) → left ≡ takes t ++ middle → TakesOne middle d rest
    → left ≡ takes (option_to_list d ++ entry_of n ++ t) ++ rest
takes_step None n t left middle rest e one = e ∙ ap (λ m. takes t ++ m) one ∙ ap (λ l. l ++ rest) (sym (takes_entry n t))
takes_step (Some (Put b)) n t left middle rest e one = e ∙ ap (λ m. takes t ++ m) one ∙ ap (λ l. l ++ rest) (sym (takes_entry n t))
takes_step (Some (Took b)) n t left middle rest e one =
    e ∙ ap (λ m. takes t ++ m) one ∙ sym (append_assoc (takes t) (b ∷ []) rest) ∙ ap (λ l. (l ++ b ∷ []) ++ rest) (sym (takes_entry n t))
takes_step (Some FoundEnd) n t left middle rest e one = e ∙ ap (λ m. takes t ++ m) (one.0 ∙ sym one.1) ∙ ap (λ l. l ++ rest) (sym (takes_entry n t))
takes_step (Some (Entered unit)) n t left middle rest e one = e ∙ ap (λ m. takes t ++ m) one ∙ ap (λ l. l ++ rest) (sym (takes_entry n t))

-- an input is the bytes that a log takes of it, and the rest
pub trace_takes : (names : ℕ → Option (List ℕ)) (log : List Retired) (left rest : List ℕ) → Takes left log rest → left ≡ takes (trace names log) ++ rest
trace_takes names [] left rest same = same
trace_takes names (e ∷ log) left rest (middle, takes_log, one) =
    takes_step e.did (names e.pc) (trace names log) left middle rest (trace_takes names log left middle takes_log) one
