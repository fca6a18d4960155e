-- What a cable replies to a call, and the cable that the call leaves. Assumes nothing.
use Rattle.std.specs.Prelude.{ℕ, ℤ, Some, None, Ok, Err, Option, Result}
use Rattle.frame.specs.Refusals.{Refused, judged}
use Rattle.cable.specs.Calls.{put_said, put_after, take_said, take_after, since_said, free_of, delay_of}
use Rattle.cable.specs.Model.{Model, pairs_of}
use Rattle.cable.specs.Refusals.{of_cable}
use Rattle.cable.specs.Runs.{ticked, ticked_said}
use Rattle.cable_commands.specs.declared.call.Call.{Call}
use Rattle.cable_commands.specs.declared.call.Call.TheVariants.{Put, Tick, Take, Peek, Since, Pairs, Left, Free, Delay}
use Rattle.cable_commands.specs.declared.call.Reply.{Reply}
use Rattle.cable_commands.specs.declared.call.Reply.TheVariants.{Done, Byte, Since as SinceReply, Number}

-- what is told: that it is done, that there is nothing, a byte, a since, a number, or a refusal
pub data Told : Type 0 where
  done : Told
  nothing : Told
  byte : ℕ → Told
  since : ℤ → Told
  number : ℕ → Told
  refused : Refused → Told

abbrev pub done_said : Result Unit Refused → Told
done_said (Ok x) = done
done_said (Err e) = refused e

abbrev pub byte_said : Option ℕ → Told
byte_said None = nothing
byte_said (Some b) = byte b

abbrev pub since_told : Option ℤ → Told
since_told None = nothing
since_told (Some z) = since z

abbrev pub told_by : Reply → Told
told_by (Done answer) = done_said (judged of_cable answer)
told_by (Byte answer) = byte_said answer
told_by (SinceReply answer) = since_told answer
told_by (Number n) = number n

-- the four cases of a reply
pub data Case : Type 0 where
  done_case : Case
  byte_case : Case
  since_case : Case
  number_case : Case

abbrev pub case_of : Reply → Case
case_of (Done answer) = done_case
case_of (Byte answer) = byte_case
case_of (SinceReply answer) = since_case
case_of (Number n) = number_case

-- the case that a call is answered by, whatever there is to tell
abbrev pub case_for : Call → Case
case_for (Put p b) = done_case
case_for (Tick n) = done_case
case_for (Take p) = byte_case
case_for (Peek p) = byte_case
case_for (Since p k) = since_case
case_for Pairs = number_case
case_for Left = number_case
case_for (Free p) = number_case
case_for (Delay p) = number_case

abbrev pub reply_to : Call → Model → Told
reply_to (Put p b) m = done_said (put_said m p)
reply_to (Tick n) m = done_said (ticked_said n m)
reply_to (Take p) m = byte_said (take_said m p)
reply_to (Peek p) m = byte_said (take_said m p)
reply_to (Since p k) m = since_told (since_said m p k)
reply_to Pairs m = number (pairs_of m)
reply_to Left m = number m.left
reply_to (Free p) m = number (free_of m p)
reply_to (Delay p) m = number (delay_of m p)

abbrev pub after_call : Call → Model → Model
after_call (Put p b) m = put_after m p b
after_call (Tick n) m = ticked n m
after_call (Take p) m = take_after m p
after_call (Peek p) m = m
after_call (Since p k) m = m
after_call Pairs m = m
after_call Left m = m
after_call (Free p) m = m
after_call (Delay p) m = m
