-- What a word of a command stands for, in the place where it is. Assumes nothing.
use Rattle.std.specs.Prelude.{ℕ, Result}
use Rattle.words.specs.Words.{Text, or_fault, number_of as number_up_to, byte_of as byte_in_digits}
use Rattle.trench.specs.declared.fault.Fault.{Fault}
use Rattle.trench.specs.declared.fault.Fault.TheVariants.{NotNumber, NotByte}
use Rattle.trench.specs.declared.fault.Field.{Field}
use Rattle.trench.specs.declared.fault.Field.TheVariants.{Frame, C6, Data, C6Bits, Code, Value}

-- the largest number for each field
abbrev pub most_of : Field → ℕ
most_of Frame = 255
most_of C6 = 255
most_of Data = 255
most_of C6Bits = 63
most_of Code = 255
most_of Value = 255

-- a number that the field takes
abbrev pub number_of : Field → Text → Result ℕ Fault
number_of field word = or_fault (NotNumber field) (number_up_to (most_of field) word)

-- a byte in two hexadecimal digits
abbrev pub byte_of : Text → Result ℕ Fault
byte_of word = or_fault NotByte (byte_in_digits word)
