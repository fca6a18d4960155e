-- What a refusal means. Each layer has an enum of the refusals that it can give, and a definition from its cases to this
-- record. Assumes nothing.
use Rattle.std.specs.Prelude.{ℕ, List, [], Ok, Err, codes, Result}
use Rattle.frame.specs.declared.refusal.HeaderRefusal.{HeaderRefusal}
use Rattle.frame.specs.declared.refusal.HeaderRefusal.TheVariants.{Crc4Wrong, SfWrong}

-- a refusal's number, and the values that it tells
pub record Refused : Type 0 where
  pub number : ℕ
  pub tells : List ℕ

-- an answer with its refusal's meaning
abbrev pub judged : {T E : Type 0} → (E → Refused) → Result T E → Result T Refused
judged meaning (Ok x) = Ok x
judged meaning (Err e) = Err (meaning e)

-- 20: the CRC-4 of a header is wrong
abbrev pub crc4_refused : Refused
crc4_refused = record { number = 20; tells = [] }

-- 21: an SF bit of a header is wrong
abbrev pub sf_refused : Refused
sf_refused = record { number = 21; tells = [] }

abbrev pub of_header : HeaderRefusal → Refused
of_header Crc4Wrong = crc4_refused
of_header SfWrong = sf_refused

-- what a person is told
abbrev pub words_for : HeaderRefusal → List ℕ
words_for Crc4Wrong = codes "CRC-4 wrong"
words_for SfWrong = codes "SF wrong"
