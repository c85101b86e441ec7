-- Small traces, computed: one message with its time, and what is no trace.
use Prim.Native.Nat.{ℕ}
use mathlib.Core.Path.{◌≡◌, refl}
use mathlib.Core.List.{List, [], ◌∷◌, ◌++◌}
use Rattle.refusal.specs.Answer.{given, refused}
use Rattle.header.specs.Header.{raw_in, header_of, type_of}
use Rattle.stream.specs.declared.Form.TheVariants.{Old, New}
use Rattle.stream.specs.Stream.{Frozen, chunk_of, chunks_of, message_of}
use Rattle.stream.specs.Messages.{count_at, chunk_at, body_at, sized_body, message_at}
use Rattle.tracing.specs.Trace.{time_of, trace_of}
use Rattle.tracing.specs.TimedMessages.{form_of, is_time, timed_at, traced_at, traced}
use Rattle.tracing.specs.Arrivals.{arrival_of}

abbrev peer : List ℕ
peer = 0 ∷ 1 ∷ 2 ∷ 3 ∷ 4 ∷ 5 ∷ 6 ∷ 7 ∷ 8 ∷ 9 ∷ 10 ∷ 11 ∷ 12 ∷ 13 ∷ 14 ∷ 15 ∷ 16 ∷ 17 ∷ []

-- A confirmable GET with id 5, and the head of its message up to the chunk's own bytes.
abbrev five : Frozen
five = record { peer = peer; datagram = 64 ∷ 1 ∷ 0 ∷ 5 ∷ [] }

abbrev opening : List ℕ
opening = 1 ∷ (peer ++ (132 ∷ 64 ∷ 1 ∷ 0 ∷ 5 ∷ []))

-- 08 00 00 00 0A 01 P 84 40 01 00 05 03: at 10 seconds.
one_message : traced (8 ∷ 0 ∷ 0 ∷ 0 ∷ 10 ∷ (opening ++ (3 ∷ []))) ≡ given (record { time = 10; message = five } ∷ [])
unfolding form_of traced_at timed_at is_time message_at body_at sized_body chunk_at count_at
one_message = refl

identified : arrival_of (record { time = 10; message = five }) ≡ record { time = 10; type = 0; peer = peer; id = 5 }
unfolding arrival_of header_of type_of raw_in
identified = refl

-- The highest time, high byte first.
highest : time_of 4294967295 ≡ 8 ∷ 255 ∷ 255 ∷ 255 ∷ 255 ∷ []
highest = refl

-- No time; a time twice, between the records of a message, and last; messages of both forms.
no_time : traced (opening ++ (3 ∷ [])) ≡ refused 19
unfolding form_of traced_at timed_at is_time
no_time = refl

time_twice : traced (time_of 0 ++ (time_of 0 ++ (opening ++ (3 ∷ [])))) ≡ refused 19
unfolding form_of traced_at timed_at is_time message_at
time_twice = refl

time_between : traced (time_of 0 ++ (opening ++ (time_of 0 ++ (3 ∷ [])))) ≡ refused 19
unfolding form_of traced_at timed_at is_time message_at body_at sized_body chunk_at count_at
time_between = refl

time_last : traced (time_of 0 ++ (opening ++ (3 ∷ time_of 0))) ≡ refused 19
unfolding form_of traced_at timed_at is_time message_at body_at sized_body chunk_at count_at
time_last = refl

both_forms : traced (trace_of New (record { time = 0; message = five } ∷ []) ++ trace_of Old (record { time = 0; message = five } ∷ [])) ≡ refused 19
unfolding form_of traced_at timed_at is_time message_at body_at sized_body chunk_at count_at message_of chunks_of chunk_of
both_forms = refl
