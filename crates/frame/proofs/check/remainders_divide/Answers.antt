use Rattle.frame.proofs.Feeding.{fed_bits_within, ones_below}
use Rattle.frame.proofs.Quotients.{divides}
use Rattle.frame.proofs.Steps.{message_are_bits}
use Rattle.frame.proofs.Unique.{unique}
use Rattle.frame.proofs.check.remainders_divide.Goals as goal

pub returns : goal.returns
returns c =
    record {
      divides = λ d l bytes hl. rw (fed_bits_within d l _ _ (ones_below d)) (divides d l _ hl (message_are_bits bytes));
      unique = unique;
    }
