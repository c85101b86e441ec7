-- Laws of nibbles and extensions: the three classes of a delta or a length, and their lengths.
use Prim.Native.Nat.{ℕ, ◌-◌, ◌/◌, ◌%◌, ◌<◌, ◌≤◌}
use mathlib.Core.Path.{◌≡◌}
use mathlib.Core.List.{[], ◌∷◌}
use native.Mathlib.Omega.{arith}
use borrow.Author.Tests.{lt-ltb, le-ltb}
use Rattle.rfc.specs.Message.{nibble_of, extension_of}
use Rattle.ground.specs.Part.{Bytes}
use Rattle.ground.proofs.Choice.{on_lt}

module _ (n : ℕ) where
  pub nibble_none : n < 13 → nibble_of n ≡ n
  unfolding nibble_of
  nibble_none h = rw (lt-ltb n 13 h)

  pub nibble_one : 13 ≤ n → n < 269 → nibble_of n ≡ 13
  unfolding nibble_of
  nibble_one h l = rw (le-ltb n 13 h, lt-ltb n 269 l)

  pub nibble_two : 269 ≤ n → nibble_of n ≡ 14
  unfolding nibble_of
  nibble_two h = let low : 13 ≤ n = omega arith in rw (le-ltb n 13 low, le-ltb n 269 h)

  pub extension_none : n < 13 → extension_of n ≡ []
  unfolding extension_of
  extension_none h = rw (lt-ltb n 13 h)

  pub extension_one : 13 ≤ n → n < 269 → extension_of n ≡ ((n - 13) ∷ [])
  unfolding extension_of
  extension_one h l = rw (le-ltb n 13 h, lt-ltb n 269 l)

  pub extension_two : 269 ≤ n → extension_of n ≡ (((n - 269) / 256) ∷ ((n - 269) % 256) ∷ [])
  unfolding extension_of
  extension_two h = let low : 13 ≤ n = omega arith in rw (le-ltb n 13 low, le-ltb n 269 h)

  pub nibble_small : nibble_of n ≤ 14
  unfolding nibble_of
  nibble_small = on_lt (λ (m : ℕ). m ≤ 14) n 13 (λ h. omega arith) (λ h. on_lt (λ (m : ℕ). m ≤ 14) n 269 (λ l. omega arith) (λ l. omega arith))

  -- The extension of a number up to 65804 is bytes.
  pub extension_bytes : n ≤ 65804 → Bytes (extension_of n)
  unfolding extension_of
  extension_bytes small = on_lt Bytes n 13 (λ h. tt) (λ h. on_lt Bytes n 269 (λ l. (omega arith, tt)) (λ l. (omega arith, (omega arith, tt))))
