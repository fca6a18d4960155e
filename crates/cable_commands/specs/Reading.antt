-- What the words of a line want of a cable. The way is read first, then the number of the words after it, and then these from
-- left to right; the first fault is told. Assumes nothing.
use Rattle.std.specs.Prelude.{ℕ, ◌+◌, ◌-◌, ◌^◌, cond, List, [], ◌∷◌, length, take, drop, Some, None, Ok, Err, codes, Option, Result, ◌==◌, nat_le, nat_lt, slice_index}
use Rattle.std.specs.Str.{bytes_eq}
use Rattle.cable.specs.Bounds.{most_pairs, most_delay}
use Rattle.cable.specs.Model.{numbered}
use Rattle.words.specs.Words.{Text, Words, and_then, or_fault, word, number_of, byte_of, taking, texts, each_of}
use Rattle.cable_commands.specs.declared.cables.Command.{Command}
use Rattle.cable_commands.specs.declared.cables.Request.{Request}
use Rattle.cable_commands.specs.declared.cables.Request.TheVariants.{Lay as LayRequest, Ask}
use Rattle.cable_commands.specs.declared.cables.Way.{Way}
use Rattle.cable_commands.specs.declared.cables.Way.TheVariants.{Down, Up}
use Rattle.cable_commands.specs.declared.call.Call.{Call}
use Rattle.cable_commands.specs.declared.call.Call.TheVariants.{Put as PutCall, Tick as TickCall, Take as TakeCall, Peek as PeekCall, Since as SinceCall, Pairs as PairsCall, Left as LeftCall, Free as FreeCall, Delay as DelayCall}
use Rattle.cable_commands.specs.declared.fault.CableFault.{CableFault}
use Rattle.cable_commands.specs.declared.fault.CableFault.TheVariants.{NotWay, NotKind, Takes, NotNumber, NotByte, TooMany}
use Rattle.cable_commands.specs.declared.fault.Field.{Field}
use Rattle.cable_commands.specs.declared.fault.Field.TheVariants.{Pairs, Ticks, Row, Delay, Extra, Pair, Count, Index}
use Rattle.cable_commands.specs.declared.fault.Form.{Form}
use Rattle.cable_commands.specs.declared.fault.Form.TheVariants.{Lay, Put, Tick, Take, Peek, Since, Pairs as PairsForm, Left, Free, Delay as DelayForm}
use Rattle.cable_commands.specs.declared.kind.Kind.{Kind}
use Rattle.cable_commands.specs.declared.kind.Kind.TheVariants.{Reel, Tape, Joint}
use Rattle.cable_commands.specs.declared.kind.Length.{Length}

-- the largest number for each field
abbrev pub most_of : Field → ℕ
most_of Pairs = 2 ^ 64 - 1
most_of Ticks = 2 ^ 64 - 1
most_of Row = 2 ^ 64 - 1
most_of Delay = most_delay
most_of Extra = most_delay
most_of Pair = 2 ^ 64 - 1
most_of Count = 2 ^ 64 - 1
most_of Index = 2 ^ 64 - 1

abbrev pub field_of : Field → Text → Result ℕ CableFault
field_of field text = or_fault (NotNumber field) (number_of (most_of field) text)

abbrev pub byte_in : Text → Result ℕ CableFault
byte_in text = or_fault NotByte (byte_of text)

-- down or up
abbrev pub way_of : Text → Result Way CableFault
way_of text = cond (bytes_eq text (codes "down")) (Ok Down) (cond (bytes_eq text (codes "up")) (Ok Up) (Err NotWay))

-- the command that a word names
abbrev pub form_of : Text → Option Form
form_of text =
    cond (bytes_eq text (codes "lay")) (Some Lay)
    (cond (bytes_eq text (codes "put")) (Some Put)
    (cond (bytes_eq text (codes "tick")) (Some Tick)
    (cond (bytes_eq text (codes "take")) (Some Take)
    (cond (bytes_eq text (codes "peek")) (Some Peek)
    (cond (bytes_eq text (codes "since")) (Some Since)
    (cond (bytes_eq text (codes "pairs")) (Some PairsForm)
    (cond (bytes_eq text (codes "left")) (Some Left)
    (cond (bytes_eq text (codes "free")) (Some Free)
    (cond (bytes_eq text (codes "delay")) (Some DelayForm) None)))))))))

-- the place of the first word that is a given one, or the number of words where none is
abbrev pub place_of : Text → Words → ℕ
place_of wanted [] = 0
place_of wanted (w ∷ ws) = cond (bytes_eq w.now wanted) 0 (place_of wanted ws + 1)

-- the place of the first word that is a given one, if there is one
abbrev pub place_in : Text → Words → Option ℕ
place_in wanted words = cond (nat_lt (place_of wanted words) (length words)) (Some (place_of wanted words)) None

-- a delay or an extra, in ticks
abbrev pub ticks_of : Field → Text → Result ℕ CableFault
ticks_of field text = or_fault (NotNumber field) (number_of most_delay text)

-- a row of such numbers, one after another
abbrev pub all_ticks : Field → Words → Result (List ℕ) CableFault
all_ticks field words = each_of (ticks_of field) (texts words)

-- one for each pair that a cable may have; those that are not given are 0
abbrev pub filled : List ℕ → List ℕ
filled ns = numbered most_pairs (λ p. slice_index ns p)

abbrev pub row_of : Field → Words → Result (List ℕ) CableFault
row_of field words = cond (nat_le (length words) most_pairs) (and_then (all_ticks field words) (λ ns. Ok (filled ns))) (Err (TooMany field))

-- PAIRS TICKS ROW DELAY...
abbrev pub length_of : Words → Result Length CableFault
length_of words =
    cond (nat_lt (length words) 3) (Err (Takes Lay))
    (and_then (field_of Pairs (word words 0)) (λ pairs.
    and_then (field_of Ticks (word words 1)) (λ ticks.
    and_then (field_of Row (word words 2)) (λ row.
    and_then (row_of Delay (drop 3 words)) (λ delays. Ok (record { pairs = pairs; ticks = ticks; row = row; delays = delays }))))))

-- a reel, and a tape beside it: two lengths with a stroke between them
abbrev pub stroke_in : Words → ℕ
stroke_in words = place_of (codes "/") words

abbrev pub joint_of : Words → Result Kind CableFault
joint_of words =
    and_then (length_of (take (stroke_in words) words)) (λ first.
    and_then (length_of (drop (stroke_in words + 1) words)) (λ second. Ok (Joint first second)))

abbrev pub kind_of : Text → Words → Result Kind CableFault
kind_of kind words =
    cond (bytes_eq kind (codes "reel")) (and_then (length_of words) (λ length. Ok (Reel length)))
    (cond (bytes_eq kind (codes "tape")) (and_then (length_of words) (λ length. Ok (Tape length)))
    (cond (bytes_eq kind (codes "joint")) (joint_of words) (Err NotKind)))

-- a kind of cable and its lengths, and the extras of a stretch
abbrev pub stretch_in : Words → ℕ
stretch_in words = place_of (codes "stretch") words

abbrev pub lay_of : Words → Result Request CableFault
lay_of words =
    and_then (kind_of (word words 0) (drop 1 (take (stretch_in words) words))) (λ kind.
    and_then (row_of Extra (drop (stretch_in words + 1) words)) (λ extras. Ok (LayRequest kind extras)))

-- put WAY PAIR BYTE
abbrev pub put_call : Text → Text → Result Call CableFault
put_call pair value = and_then (field_of Pair pair) (λ p. and_then (byte_in value) (λ b. Ok (PutCall p b)))

-- tick WAY COUNT
abbrev pub tick_call : Text → Result Call CableFault
tick_call count = and_then (field_of Count count) (λ n. Ok (TickCall n))

-- since WAY PAIR K
abbrev pub since_call : Text → Text → Result Call CableFault
since_call pair index = and_then (field_of Pair pair) (λ p. and_then (field_of Index index) (λ k. Ok (SinceCall p k)))

-- the commands that take a way and a pair
abbrev pub on_pair : Form → ℕ → Result Call CableFault
on_pair Lay p = Err (Takes Lay)
on_pair Put p = Err (Takes Put)
on_pair Tick p = Err (Takes Tick)
on_pair Take p = Ok (TakeCall p)
on_pair Peek p = Ok (PeekCall p)
on_pair Since p = Err (Takes Since)
on_pair PairsForm p = Err (Takes PairsForm)
on_pair Left p = Err (Takes Left)
on_pair Free p = Ok (FreeCall p)
on_pair DelayForm p = Ok (DelayCall p)

abbrev pub pair_call : Form → Text → Result Call CableFault
pair_call form pair = and_then (field_of Pair pair) (λ p. on_pair form p)

-- what stands after the way of a call
abbrev pub call_of : Form → Words → Result Call CableFault
call_of Lay words = Err (Takes Lay)
call_of Put words = taking 2 (Takes Put) words (put_call (word words 0) (word words 1))
call_of Tick words = cond (length words == 0) (Ok (TickCall 1)) (taking 1 (Takes Tick) words (tick_call (word words 0)))
call_of Take words = taking 1 (Takes Take) words (pair_call Take (word words 0))
call_of Peek words = taking 1 (Takes Peek) words (pair_call Peek (word words 0))
call_of Since words = taking 2 (Takes Since) words (since_call (word words 0) (word words 1))
call_of PairsForm words = taking 0 (Takes PairsForm) words (Ok PairsCall)
call_of Left words = taking 0 (Takes Left) words (Ok LeftCall)
call_of Free words = taking 1 (Takes Free) words (pair_call Free (word words 0))
call_of DelayForm words = taking 1 (Takes DelayForm) words (pair_call DelayForm (word words 0))

-- what stands after the way
abbrev pub asking : Result Call CableFault → Result Request CableFault
asking r = and_then r (λ call. Ok (Ask call))

abbrev pub request_of : Form → Words → Result Request CableFault
request_of Lay words = lay_of words
request_of Put words = asking (call_of Put words)
request_of Tick words = asking (call_of Tick words)
request_of Take words = asking (call_of Take words)
request_of Peek words = asking (call_of Peek words)
request_of Since words = asking (call_of Since words)
request_of PairsForm words = asking (call_of PairsForm words)
request_of Left words = asking (call_of Left words)
request_of Free words = asking (call_of Free words)
request_of DelayForm words = asking (call_of DelayForm words)

-- what stands after the word that names a command
abbrev pub command_of : Form → Words → Result Command CableFault
command_of form words =
    cond (length words == 0) (Err (Takes form))
    (and_then (way_of (word words 0)) (λ way.
    and_then (request_of form (drop 1 words)) (λ request. Ok (record { way = way; request = request }))))

-- the command that the words of a line are, or none where the first names no command for a cable
abbrev pub command_by : Option Form → Words → Option (Result Command CableFault)
command_by None words = None
command_by (Some form) words = Some (command_of form words)

abbrev pub command_in : Words → Option (Result Command CableFault)
command_in words = command_by (form_of (word words 0)) (drop 1 words)
