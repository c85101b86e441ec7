-- The strict writer at a limit of 1,280 bytes, into as many: it never lacks room.
use Prim.Native.Nat.{ℕ, ◌≤◌}
use mathlib.Core.Path.{◌≡◌, sym, ◌∙◌}
use mathlib.Core.Bool.{true, not}
use native.Mathlib.Omega.{arith}
use lib.Dec.{ltb, eqb}
use lib.ListN.{length}
use borrow.Author.Tests.{ltb-false}
use Rattle.ground.specs.Choice.{both}
use Rattle.ground.proofs.Choice.{on, on_lt}
use Rattle.refusal.specs.Answer.{Answer, given, fitted}
use Rattle.refusal.proofs.Answers.{Refusing, refusing_onward}
use Rattle.packet.specs.Limits.{full_size}
use Rattle.packet.specs.Packet.{Stores}
use Rattle.packet.specs.declared.Packet.{Packet}
use Rattle.judging.specs.Judge.{lengths_of, is_too_long, bad_packet}
use Rattle.judging.proofs.Good.{good}
use Rattle.measuring.specs.Measuring.{counted, strictly, limited, over, empty_carries}
use Rattle.measuring.specs.declared.Limit.TheVariants.{Given}
use Rattle.measuring.proofs.Sizes.{measured_fits}
use Rattle.writing.specs.Writing.{writing, bytes_written}
use Rattle.writing.proofs.Sizes.{written_length, strict_counted}
use Rattle.writing.proofs.Answers.{writing_measured}

module _ (s : Stores) (p : Packet) where
  -- What it writes has the length that it answers.
  pub full_written : (n : ℕ) → writing true (Given full_size) full_size s p ≡ given n → (n ≡ length (bytes_written true s p)) × (n ≤ full_size)
  full_written n e =
      let f = measured_fits true (Given full_size) full_size (lengths_of s) p n (sym (writing_measured true (Given full_size) full_size s p) ∙ e) in
      (f.size ∙ sym (written_length true s p (good (lengths_of s) p f.good)), f.within)

  abbrev pub Roomy : {A : Type 0} → Answer A → Type 0
  Roomy a = Refusing (λ k. k ≡ 12 → ⊥) a

  strict_roomy : Roomy (strictly true p)
  unfolding strictly
  strict_roomy =
      let R : Answer (Unit {0}) → Type 0 = Roomy in
      on R (both true (not (eqb p.header.version 1))) (λ a e. omega arith)
      (λ a. on R (both true (ltb 8 p.token.len)) (λ b e. omega arith)
      (λ b. on R (both true (empty_carries p)) (λ c e. omega arith) (λ c. tt)))

  -- It never answers 12: a packet within the limit has no more bytes.
  pub never_twelve : Roomy (writing true (Given full_size) full_size s p)
  unfolding writing limited
  never_twelve =
      let R : Answer ℕ → Type 0 = Roomy in
      on R (is_too_long (lengths_of s)) (λ a e. omega arith)
      (λ a. on R (bad_packet (lengths_of s) p) (λ b e. omega arith)
      (λ b. refusing_onward (λ k. k ≡ 12 → ⊥) (strictly true p) (λ _. limited (Given full_size) (counted true p) (fitted full_size (bytes_written true s p))) strict_roomy
      (λ _. on R (over (Given full_size) (counted true p)) (λ d e. omega arith)
      (λ d. on_lt R full_size (length (bytes_written true s p))
      (λ h. absurd (omega (arith, ltb-false full_size (counted true p) d, strict_counted s p (good (lengths_of s) p b)))) (λ h. tt)))))
