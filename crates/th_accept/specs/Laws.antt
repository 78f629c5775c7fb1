-- Laws of answers: what is accepted is not refused, and has one answer.
use Rattle.std.specs.Prelude.{◌≡◌, ℕ, List}
use Rattle.th_meaning.specs.Program.{ProgramModule}
use Rattle.th_accept.specs.Answers.{Accepted, AcceptedWith, Refused, RefusedWith}
use Rattle.th_accept.specs.declared.refusal.Refusal.{Refusal}
use Rattle.th_accept.specs.declared.refusal.Refusal.TheVariants.{Memory}

-- accepted texts are refused for want of memory alone
abbrev pub NeverRefused : Type 0
NeverRefused = (texts : List (List ℕ)) (ms : List ProgramModule) (e : Refusal) → Accepted texts ms → Refused texts e → e ≡ Memory

-- the same of a module with its interfaces
abbrev pub NeverRefusedWith : Type 0
NeverRefusedWith = (texts : List (List ℕ)) (m : ProgramModule) (e : Refusal) → AcceptedWith texts m → RefusedWith texts e → e ≡ Memory

-- texts are accepted with one list of checked modules
abbrev pub HaveOneAnswer : Type 0
HaveOneAnswer = (texts : List (List ℕ)) (ms ns : List ProgramModule) → Accepted texts ms → Accepted texts ns → ms ≡ ns

-- a module with its interfaces is accepted with one checked module
abbrev pub HasOneAnswerWith : Type 0
HasOneAnswerWith = (texts : List (List ℕ)) (m n : ProgramModule) → AcceptedWith texts m → AcceptedWith texts n → m ≡ n
