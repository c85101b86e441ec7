-- The calls of a trace that was judged.
use Rattle.std.specs.Prelude.{ℕ, ◌≡◌, List, []}
use Rattle.refusal.specs.Answer.{Answer, given, refused}
use Rattle.stream.specs.declared.Form.{Form}
use Rattle.hearing.specs.Calls.{Calls, calls_from}
use Rattle.tracing.specs.Trace.{Timed}
use Rattle.tracing.specs.TimedMessages.{traced_from}
use Rattle.tracing.specs.Arrivals.{arrivals_of}

-- A trace of a form, with its messages.
pub record Follows (form : Form) (s : List ℕ) : Type 0 where
  pub messages : List Timed
  pub are : traced_from form s 0 ≡ given messages

-- The messages of an answer, and none of a refusal.
abbrev pub messages_in : Answer (List Timed) → List Timed
messages_in (given l) = l
messages_in (refused k) = []

-- The calls of its messages in turn, over a table.
abbrev pub calls : Form → List ℕ → ℕ → List ℕ → Calls
calls form s room table = calls_from room 0 table (arrivals_of (messages_in (traced_from form s 0)))
