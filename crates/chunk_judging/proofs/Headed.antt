-- A datagram by its header and its options: the header decides, or leaves the judgement to the options.
use Prim.Native.Nat.{ℕ, ◌+◌, ◌≤◌, ◌<◌}
use mathlib.Core.Path.{◌≡◌, refl, sym, ap, subst, ◌∙◌}
use mathlib.Core.Bool.{true}
use mathlib.Core.List.{List}
use native.Mathlib.Omega.{arith}
use lib.ListN.{length}
use lib.Dec.{eqb}
use borrow.Author.Tests.{lt-ltb, le-ltb}
use Rattle.ground.specs.Choice.{both}
use Rattle.ground.proofs.Choice.{on}
use Rattle.refusal.specs.Answer.{Answer, given, refused, onward}
use Rattle.header.specs.Header.{raw_in, token_of}
use Rattle.header.specs.declared.HeaderRaw.{HeaderRaw}
use Rattle.packet.specs.declared.Packet.{Packet}
use Rattle.reading.specs.Options.{Tail, options}
use Rattle.reading.specs.Headed.{headed}
use Rattle.reading.specs.Reading.{finished, reading}
use Rattle.reading.proofs.Headed.{Opened, headed_opens}
use Rattle.cursor.specs.Cursor.{accepting}
use Rattle.framing.specs.Judging.{end_judged, options_judged}

module _ (s : List ℕ) where
  -- What strict reading makes of options that were read, with no packet.
  finished_judged : (raw : HeaderRaw) (a : Answer Tail) → onward a (end_judged s) ≡ onward (onward a (finished true s raw)) (λ (p : Packet). given tt)
  unfolding finished
  finished_judged raw (given t) =
      on (λ (a : Answer (Unit {0})). a ≡ onward (finished true s raw t) (λ (p : Packet). given tt)) (both t.marked (eqb t.payload (length s)))
      (λ e. rw e refl) (λ e. rw e refl)
  finished_judged raw (refused k) = refl

  opened : (a : Answer HeaderRaw) → headed true s ≡ a → Opened true s (reading true s) a
  opened a e = subst (Opened true s (reading true s)) e (headed_opens true s)

  pub header_refused : (k : ℕ) → headed true s ≡ refused k → refused k ≡ accepting true s
  header_refused k e = ap (λ (a : Answer Packet). onward a (λ p. given tt)) (sym (opened (refused k) e).is)

  pub header_inside : (raw : HeaderRaw) → headed true s ≡ given raw → 4 + token_of raw ≤ length s
  header_inside raw e = (opened (given raw) e).roomy.0

  pub header_good : (raw : HeaderRaw) → headed true s ≡ given raw → options_judged s 128 0 (4 + token_of raw) ≡ accepting true s
  unfolding options_judged
  header_good raw e =
      finished_judged raw (options 65804 s 128 0 (4 + token_of raw)) ∙ ap (λ (a : Answer Packet). onward a (λ p. given tt)) (sym (opened (given raw) e).is)

  -- A datagram that is too long or has no header.
  pub accepted_long : 70000 < length s → refused 10 ≡ accepting true s
  unfolding reading
  accepted_long h = rw (lt-ltb 70000 (length s) h) refl

  pub accepted_short : length s < 4 → refused 1 ≡ accepting true s
  unfolding reading raw_in
  accepted_short h = rw (le-ltb 70000 (length s) (omega arith), lt-ltb (length s) 4 h) refl
