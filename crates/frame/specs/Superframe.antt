-- The headers of a superframe: an event over its six frames. Assumes nothing.
use Rattle.std.specs.Prelude.{ℕ, ◌-◌, ◌/◌, ◌%◌, ◌^◌, cond, List, map, ◌==◌, slice_index}
use Rattle.std.specs.List.{range_with_len}
use Rattle.frame.specs.declared.event.Event.{Event}
use Rattle.frame.specs.declared.event.EventCode.{EventCode}
use Rattle.frame.specs.declared.event.EventCode.TheVariants.{Null, SyncChange, ConfigSw, Sync}
use Rattle.frame.specs.Header.{last_frame, frame_of, header_of}

-- the codes of events
abbrev pub code_of : EventCode → ℕ
code_of Null = 0
code_of SyncChange = 1
code_of ConfigSw = 2
code_of Sync = 255

-- Data of frame f: the event's code in frame 1, Value[0] to Value[4] in frames 2 to 6
abbrev pub data_of : Event → ℕ → ℕ
data_of e f = cond (frame_of f == 1) e.code (slice_index e.values (frame_of f - 2))

-- the C6 bit of frame f: the six bits of a CRC-6, the highest first
abbrev pub c6_of : ℕ → ℕ → ℕ
c6_of crc f = crc / 2 ^ (last_frame - frame_of f) % 2

-- the headers of the six frames
abbrev pub headers_of : ℕ → Event → List ℕ
headers_of crc e = map (λ f. header_of f (c6_of crc f) (data_of e f)) (range_with_len 1 last_frame)
