-- What the sinks in memory hold.
use Rattle.std.specs.Prelude.{ℕ, ◌+◌, ◌-◌, ◌^◌, ◌==◌, ◌||◌, ◌++◌, List, Option, Some, None, length, min, nat_le, Bool, Result, Ok, Err, if◌then◌else◌, vec_len}
use Rattle.cv_outside.specs.Causes.{next_count}
use Rattle.cv_outside.specs.Told.{is_to_fail}
use Rattle.cv_outside.specs.declared.sink.PutError.{PutError}
use Rattle.cv_outside.specs.declared.sink.PutError.TheVariants.{Failed}
use Rattle.cv_outside.specs.declared.sink.MemSink.{MemSink}
use Rattle.cv_outside.specs.declared.sink.SureSink.{SureSink}

-- the bytes that a sink took
abbrev pub taken_of : MemSink → List ℕ
taken_of sink = sink.bytes.items

-- how many bytes a sink can take in all
abbrev pub room_of : MemSink → ℕ
room_of sink = sink.room

-- the numbers of the calls that are to fail
abbrev pub failing_of : MemSink → List ℕ
failing_of sink = sink.failing.items

-- how many calls there were
abbrev pub calls_of : MemSink → ℕ
calls_of sink = sink.calls

-- how many faults there were
abbrev pub faults_of : MemSink → ℕ
faults_of sink = sink.faults

-- how many bytes a sink can still take
abbrev pub left_of : MemSink → ℕ
left_of sink = sink.room - vec_len sink.bytes

-- whether the next call is to fail
abbrev pub fails_next : MemSink → Bool
fails_next sink = is_to_fail (failing_of sink) (next_count (calls_of sink))

-- the answer to a piece of this length
abbrev pub answer_of : MemSink → ℕ → Result ℕ PutError
answer_of sink len =
    if len == 0 then Ok 0 else
    (if (left_of sink == 0) || fails_next sink then Err Failed else Ok (min len (left_of sink)))

-- the bytes that a sink took, unless some came past its room
abbrev pub told_of : SureSink → Option (List ℕ)
told_of sink = if sink.beyond == 0 then Some sink.bytes.items else None

-- how many bytes a sink without faults keeps in all
abbrev pub sure_room_of : SureSink → ℕ
sure_room_of sink = sink.room

-- how many more bytes a sink without faults can keep
abbrev pub sure_left_of : SureSink → ℕ
sure_left_of sink = sink.room - vec_len sink.bytes

-- how many bytes came past the room
abbrev pub beyond_of : SureSink → ℕ
beyond_of sink = sink.beyond

-- how many bytes came past the room after a piece of this length, a count that stops at the greatest u64
abbrev pub beyond_after : SureSink → ℕ → ℕ
beyond_after sink len = min (beyond_of sink + (len - sure_left_of sink)) (2 ^ 64 - 1)

-- what is told after a piece: as before with the piece at its end, where the room holds that
abbrev pub told_after : List ℕ → List ℕ → ℕ → Option (List ℕ)
told_after before piece room =
    if nat_le (length before + length piece) room then Some (before ++ piece) else None
