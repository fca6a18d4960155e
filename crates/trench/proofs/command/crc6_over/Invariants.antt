use Rattle.std.proofs.Common.{◌≡◌, drop}
use Rattle.frame.specs.Checks.{ones, crc6_degree}
use Rattle.words.specs.Words.{texts}
use Rattle.trench.proofs.Checking.{checked_from}
use Rattle.trench.proofs.command.crc6_over.Given as goal

-- what is left of the words leads where all of them do
abbrev pub invariant-loop-word : goal.invariant-loop-word
invariant-loop-word l = checked_from l.register (texts (drop l.word-index l.words)) ≡ checked_from (ones crc6_degree) (texts l.words)
