-- The registers of code: which one holds what.
use Rattle.std.specs.Prelude.{ℕ}

-- the address after the linking jump that opened the activation
abbrev pub link : ℕ
link = 1

-- the header of the activation at work
abbrev pub header : ℕ
header = 3

-- a free register, and further ones
abbrev pub free : ℕ
free = 5

abbrev pub second : ℕ
second = 6

abbrev pub result : ℕ
result = 7

abbrev pub third : ℕ
third = 28

abbrev pub fourth : ℕ
fourth = 29

-- local word 0 of the frame
abbrev pub locals : ℕ
locals = 8

-- place 0 of the frame's stack
abbrev pub stack : ℕ
stack = 9

-- the operand of an environment call, and its number
abbrev pub operand_word : ℕ
operand_word = 10

abbrev pub call_number : ℕ
call_number = 17

-- the status: 0, 1 for "stopped", else the address of the exception's entry; and the value word
abbrev pub status : ℕ
status = 24

abbrev pub value : ℕ
value = 25

-- the address after the room that there is, and the address after all open frames
abbrev pub limit : ℕ
limit = 26

abbrev pub top : ℕ
top = 27

-- the loop body of the next call, and local word 0 of its home
abbrev pub body : ℕ
body = 30

abbrev pub home_locals : ℕ
home_locals = 31
