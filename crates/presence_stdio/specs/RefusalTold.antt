-- What is told of a line that was refused.
use Rattle.std.specs.Prelude.{ℕ, List, ◌++◌, codes, decimal}
use Rattle.phx_message.specs.declared.message.MessageFault.{MessageFault}
use Rattle.phx_message.specs.declared.message.MessageFault.TheVariants.{TooLong, NotJson, NotFive, BadRef, BadTopic, BadEvent, TooDeep, Fraction, OutOfMemory}

-- the number of a line, and the letter and number of its refusal
abbrev pub told_line : ℕ → List ℕ → ℕ → List ℕ
told_line n letter number = codes "line " ++ (decimal n ++ (codes ": " ++ (letter ++ decimal number)))

abbrev pub fault_number : MessageFault → ℕ
fault_number TooLong = 1
fault_number NotJson = 2
fault_number NotFive = 3
fault_number BadRef = 4
fault_number BadTopic = 5
fault_number BadEvent = 6
fault_number TooDeep = 7
fault_number Fraction = 8
fault_number OutOfMemory = 9
