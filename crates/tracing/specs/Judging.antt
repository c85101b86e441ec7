-- A whole trace judged: 19 over all of it, then the first bad datagram's own refusal.
use Rattle.std.specs.Prelude.{ℕ, ◌+◌, ◌≡◌, List, length, Result, Ok, Err}
use Rattle.ground.specs.Choice.{pick}
use Rattle.refusal.specs.Answer.{Answer, given, refused, onward}
use Rattle.refusal.specs.Number.{number_of}
use Rattle.refusal.specs.declared.Refusal.{Refusal}
use Rattle.stream.specs.declared.Form.{Form}
use Rattle.stream.specs.Answers.{Extent}
use Rattle.thawing.specs.Message.{strict_at}
use Rattle.thawing.specs.Thawing.{all_strict}
use Rattle.tracing.specs.Trace.{Timed, messages_of}
use Rattle.tracing.specs.TimedMessages.{is_time, traced}

-- A list whose datagrams are strict; the first refusal where one isn't.
unfoldable pub strictly : List Timed → Answer (List Timed)
strictly l = onward (all_strict (messages_of l)) (λ _. given l)

-- The messages of a trace of strict datagrams.
abbrev pub traced_strictly : List ℕ → Answer (List Timed)
traced_strictly s = onward (traced s) strictly

-- The message at a position that a time stands before, judged with its datagram: 19, then what strict reading refuses.
unfoldable pub strict_timed_at : Form → List ℕ → ℕ → Answer Extent
strict_timed_at form s at = pick (is_time s at) (strict_at form s (at + 5)) (refused 19)

-- How many messages there are.
abbrev pub count_of : {A : Type 0} → Answer (List A) → Answer ℕ
count_of (given l) = given (length l)
count_of (refused k) = refused k

abbrev pub judged : Result ℕ Refusal → Answer ℕ
judged (Ok n) = given n
judged (Err e) = refused (number_of e)

-- What judging a trace promises.
abbrev pub Judges : List ℕ → Result ℕ Refusal → Type 0
Judges s r = judged r ≡ count_of (traced_strictly s)
