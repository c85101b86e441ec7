-- The header decides what is read, or leaves it to the options.
use Prim.Native.Nat.{ℕ, ◌+◌, ◌≤◌}
use mathlib.Core.Path.{◌≡◌, refl}
use mathlib.Core.Bool.{Bool, true, false, not}
use mathlib.Core.List.{List}
use lib.ListN.{length}
use lib.Dec.{ltb, eqb}
use borrow.Author.Tests.{ltb-false}
use Rattle.ground.specs.Choice.{both, either}
use Rattle.ground.proofs.Choice.{neither}
use Rattle.refusal.specs.Answer.{Answer, given, refused, onward}
use Rattle.header.specs.Header.{version_of, token_of, raw_in}
use Rattle.header.specs.declared.HeaderRaw.{HeaderRaw}
use Rattle.packet.specs.declared.Packet.{Packet}
use Rattle.reading.specs.Options.{options}
use Rattle.reading.specs.Reading.{longest, finished, after_header, reading}
use Rattle.reading.specs.Headed.{good_header, headed}

-- A good header has its token within a datagram that is not too long.
abbrev pub Roomy : List ℕ → Answer HeaderRaw → Type 0
Roomy s (given raw) = (4 + token_of raw ≤ length s) × (length s ≤ 70000)
Roomy s (refused k) = Unit

-- What is read, from the header on: a header that is refused decides it, and a good one leaves it to the options.
pub record Opened (strict : Bool) (s : List ℕ) (read : Answer Packet) (header : Answer HeaderRaw) : Type 0 where
  pub is : read ≡ onward header (λ raw. onward (options (longest strict) s 128 0 (4 + token_of raw)) (finished strict s raw))
  pub roomy : Roomy s header

-- To show anything by two cases of a test.
by_test : {A : Type 0} (t : Bool) → (t ≡ true → A) → (t ≡ false → A) → A
by_test true f g = f refl
by_test false f g = g refl

module _ (strict : Bool) (s : List ℕ) where
  good_opens : (raw : HeaderRaw) → length s ≤ 70000 → Opened strict s (after_header strict s raw) (good_header strict s raw)
  unfolding after_header good_header
  good_opens raw h =
      by_test (both strict (not (eqb (version_of raw) 1))) (λ e. rw e (record { is = refl; roomy = tt }))
      (λ e. rw e
      (by_test (either (ltb 8 (token_of raw)) (ltb (length s) (4 + token_of raw))) (λ f. rw f (record { is = refl; roomy = tt }))
      (λ f. rw f
      (by_test (both strict (both (eqb raw.code 0) (either (ltb 4 (length s)) (not (eqb (token_of raw) 0))))) (λ g. rw g (record { is = refl; roomy = tt }))
      (λ g. rw g (record { is = refl; roomy = (ltb-false _ _ (neither (ltb 8 (token_of raw)) (ltb (length s) (4 + token_of raw)) f).1, h) }))))))

  raw_opens : (a : Answer HeaderRaw) → length s ≤ 70000 → Opened strict s (onward a (after_header strict s)) (onward a (good_header strict s))
  raw_opens (given raw) h = good_opens raw h
  raw_opens (refused k) h = record { is = refl; roomy = tt }

  pub headed_opens : Opened strict s (reading strict s) (headed strict s)
  unfolding reading headed
  headed_opens =
      by_test (ltb 70000 (length s)) (λ e. rw e (record { is = refl; roomy = tt }))
      (λ e. rw e (raw_opens (raw_in s) (ltb-false _ _ e)))
