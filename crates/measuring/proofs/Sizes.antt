-- Laws of what is measured: what is left to judge of a good packet, what a length says, and how small sizes are.
use Prim.Native.Nat.{ℕ, ◌≤◌}
use mathlib.Core.Path.{◌≡◌, refl, sym}
use mathlib.Core.Bool.{Bool, true, false}
use native.Mathlib.Omega.{arith}
use Rattle.ground.specs.Choice.{pick}
use Rattle.ground.proofs.Choice.{on, on_lt}
use Rattle.refusal.specs.Answer.{Answer, given, refused}
use Rattle.refusal.proofs.Answers.{not_refused, Given, given_onward, on_given}
use Rattle.packet.specs.Packet.{records_of}
use Rattle.packet.specs.declared.Packet.{Packet}
use Rattle.judging.specs.Judge.{is_too_long, bad_packet, options_size, judging}
use Rattle.judging.specs.declared.Lengths.{Lengths}
use Rattle.measuring.specs.Measuring.{marker_size, counted, written_size, over, strictly, limited, size_fitted, sized, measured}
use Rattle.measuring.specs.declared.Limit.{Limit}

-- A marker takes at most a byte.
pub marker_small : (len : ℕ) → marker_size len ≤ 1
unfolding marker_size
marker_small len = on_lt (λ (k : ℕ). k ≤ 1) 0 len (λ h. omega arith) (λ h. omega arith)

-- The header alone is four bytes, so a buffer of the counted size always holds it.
pub four : (strict : Bool) (p : Packet) → 4 ≤ counted strict p
four strict p = omega arith

-- A packet over stores that aren't too long is bad, or is judged by strict mode, limit and room.
module _ (strict : Bool) (limit : Limit) (room : ℕ) (lengths : Lengths) (p : Packet) (h : is_too_long lengths ≡ false) where
  pub measured_bad : bad_packet lengths p ≡ true → measured strict limit room lengths p ≡ refused 11
  unfolding measured
  measured_bad e = rw (h, e)

  -- What the judgement refuses is refused.
  pub measured_judged : (k : ℕ) → refused k ≡ judging lengths p → refused k ≡ measured strict limit room lengths p
  unfolding measured judging
  measured_judged k e = rw h (go (bad_packet lengths p) e)
    where
      go : (t : Bool) → refused k ≡ pick t (refused 11) (given (options_size 0 (records_of p))) → refused k ≡ pick t (refused 11) (sized strict limit room p)
      go true d = d
      go false d = not_refused (sym d)

  pub measured_good : bad_packet lengths p ≡ false → measured strict limit room lengths p ≡ sized strict limit room p
  unfolding measured
  measured_good e = rw (h, e)

-- What a length says: the packet is good, the length is the size of the bytes, and there is room for it.
pub record Fits (strict : Bool) (room : ℕ) (lengths : Lengths) (p : Packet) (n : ℕ) : Type 0 where
  pub short : is_too_long lengths ≡ false
  pub good : bad_packet lengths p ≡ false
  pub size : n ≡ written_size strict p
  pub within : n ≤ room

module _ (strict : Bool) (limit : Limit) (room : ℕ) (lengths : Lengths) (p : Packet) where
  fits : Given (Fits strict room lengths p) (measured strict limit room lengths p)
  unfolding measured limited
  fits =
      let Q = Fits strict room lengths p in
      on (Given Q) (is_too_long lengths) (λ a. tt)
      (λ a. on (Given Q) (bad_packet lengths p) (λ b. tt)
      (λ b. given_onward (λ _. Unit {0}) Q (strictly strict p) (λ _. limited limit (counted strict p) (size_fitted room (written_size strict p))) (all (strictly strict p))
      (λ _ _. on (Given Q) (over limit (counted strict p)) (λ d. tt)
      (λ d. on_lt (Given Q) room (written_size strict p) (λ e. tt) (λ e. record { short = a; good = b; size = refl; within = e })))))
    where
      all : (a : Answer (Unit {0})) → Given (λ _. Unit {0}) a
      all (given v) = tt
      all (refused k) = tt

  pub measured_fits : (n : ℕ) → measured strict limit room lengths p ≡ given n → Fits strict room lengths p n
  measured_fits n e = on_given (Fits strict room lengths p) (measured strict limit room lengths p) n fits e
