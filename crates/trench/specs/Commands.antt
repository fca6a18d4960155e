-- What a command answers, from its words. Assumes nothing.
use Rattle.std.specs.Prelude.{ℕ, ◌+◌, ◌*◌, cond, List, [], ◌∷◌, drop, Some, None, Ok, Err, codes, Option, Result}
use Rattle.std.specs.Str.{bytes_eq}
use Rattle.frame.specs.Checks.{crc6_of}
use Rattle.frame.specs.Header.{header_of, read_of}
use Rattle.frame.specs.Refusals.{Refused, judged, of_header}
use Rattle.frame.specs.Superframe.{headers_of}
use Rattle.frame.specs.declared.header.Fields.{Fields}
use Rattle.words.specs.Words.{each_of, Text, Words, texts, and_then, word, taking}
use Rattle.trench.specs.declared.answer.Answer.{Answer}
use Rattle.trench.specs.declared.answer.Answer.TheVariants.{Header, Carried, Headers, Crc6}
use Rattle.trench.specs.declared.fault.Fault.{Fault}
use Rattle.trench.specs.declared.fault.Fault.TheVariants.{Unknown, Takes}
use Rattle.trench.specs.declared.fault.Field.TheVariants.{Frame, C6, Data, C6Bits, Code, Value}
use Rattle.trench.specs.declared.fault.Form.TheVariants.{HeaderWrite, HeaderRead, Superframe}
use Rattle.trench.specs.Words.{number_of, byte_of}

-- what a command says: a header, what a header carries, the headers of a superframe, a CRC-6, or a refusal
pub data Said : Type 0 where
  header : ℕ → Said
  carried : Fields → Said
  headers : List ℕ → Said
  crc6 : ℕ → Said
  refused : Refused → Said

abbrev pub read_said : Result Fields Refused → Said
read_said (Ok fields) = carried fields
read_said (Err e) = refused e

abbrev pub said_by : Answer → Said
said_by (Header h) = header h
said_by (Carried r) = read_said (judged of_header r)
said_by (Headers hs) = headers hs
said_by (Crc6 n) = crc6 n

abbrev pub outcome : Result Answer Fault → Result Said Fault
outcome (Ok a) = Ok (said_by a)
outcome (Err e) = Err e

-- header write FRAME C6 DATA
abbrev pub header_written : Text → Text → Text → Result Said Fault
header_written f c d =
    and_then (number_of Frame f) (λ frame.
    and_then (number_of C6 c) (λ bit.
    and_then (number_of Data d) (λ byte. Ok (header (header_of frame bit byte)))))

-- header read FRAME BYTE BYTE
abbrev pub header_read : Text → Text → Text → Result Said Fault
header_read f a b =
    and_then (number_of Frame f) (λ frame.
    and_then (byte_of a) (λ first.
    and_then (byte_of b) (λ second. Ok (read_said (read_of frame (first * 256 + second))))))

-- superframe C6BITS CODE V0 V1 V2 V3 V4
abbrev pub superframe : Text → Text → Text → Text → Text → Text → Text → Result Said Fault
superframe bits code v0 v1 v2 v3 v4 =
    and_then (number_of C6Bits bits) (λ crc.
    and_then (number_of Code code) (λ n.
    and_then (number_of Value v0) (λ a.
    and_then (number_of Value v1) (λ b.
    and_then (number_of Value v2) (λ c.
    and_then (number_of Value v3) (λ d.
    and_then (number_of Value v4) (λ e. Ok (headers (headers_of crc (record { code = n; values = a ∷ (b ∷ (c ∷ (d ∷ (e ∷ [])))) }))))))))))

-- crc6 BYTE BYTE ...
abbrev pub bytes_of : List Text → Result (List ℕ) Fault
bytes_of = each_of byte_of

abbrev pub crc6_checked : List Text → Result Said Fault
crc6_checked ws = and_then (bytes_of ws) (λ bs. Ok (crc6 (crc6_of bs)))

-- what stands after the words that name a command
abbrev pub header_write_command : Words → Result Said Fault
header_write_command words = taking 3 (Takes HeaderWrite) words (header_written (word words 0) (word words 1) (word words 2))

abbrev pub header_read_command : Words → Result Said Fault
header_read_command words = taking 3 (Takes HeaderRead) words (header_read (word words 0) (word words 1) (word words 2))

abbrev pub superframe_command : Words → Result Said Fault
superframe_command words =
    taking 7 (Takes Superframe) words (superframe (word words 0) (word words 1) (word words 2) (word words 3) (word words 4) (word words 5) (word words 6))

-- the commands
pub data Verb : Type 0 where
  HeaderWriteVerb : Verb
  HeaderReadVerb : Verb
  SuperframeVerb : Verb
  Crc6Verb : Verb

-- the command that one or two words name
abbrev pub verb_of : Text → Text → Option Verb
verb_of first second =
    cond (bytes_eq first (codes "header"))
    (cond (bytes_eq second (codes "write")) (Some HeaderWriteVerb) (cond (bytes_eq second (codes "read")) (Some HeaderReadVerb) None))
    (cond (bytes_eq first (codes "superframe")) (Some SuperframeVerb)
    (cond (bytes_eq first (codes "crc6")) (Some Crc6Verb) None))

-- the answer to a command
abbrev pub answer_by : Option Verb → Words → Result Said Fault
answer_by None words = Err Unknown
answer_by (Some HeaderWriteVerb) words = header_write_command (drop 2 words)
answer_by (Some HeaderReadVerb) words = header_read_command (drop 2 words)
answer_by (Some SuperframeVerb) words = superframe_command (drop 1 words)
answer_by (Some Crc6Verb) words = crc6_checked (texts (drop 1 words))

abbrev pub answer_to : Words → Result Said Fault
answer_to words = answer_by (verb_of (word words 0) (word words 1)) words
