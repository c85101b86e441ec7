-- Laws of a frame's length: its four classes.
use Prim.Native.Nat.{ℕ, ◌-◌, ◌/◌, ◌%◌, ◌<◌, ◌≤◌}
use mathlib.Core.Path.{◌≡◌, ◌∙◌}
use mathlib.Core.List.{[], ◌∷◌}
use native.Mathlib.Omega.{arith}
use borrow.Author.Tests.{lt-ltb, le-ltb}
use Rattle.rfc.specs.Message.{nibble_of, extension_of}
use Rattle.rfc.specs.Frame.{length_nibble, length_extension}
use Rattle.rfc.proofs.Message.{nibble_none, nibble_one, nibble_two, extension_none, extension_one, extension_two}

module _ (n : ℕ) where
  as_nibble : n < 65805 → length_nibble n ≡ nibble_of n
  unfolding length_nibble
  as_nibble h = rw (lt-ltb n 65805 h)

  as_extension : n < 65805 → length_extension n ≡ extension_of n
  unfolding length_extension
  as_extension h = rw (lt-ltb n 65805 h)

  pub none_nibble : n < 13 → length_nibble n ≡ n
  none_nibble h = as_nibble (omega arith) ∙ nibble_none n h

  pub none_extension : n < 13 → length_extension n ≡ []
  none_extension h = as_extension (omega arith) ∙ extension_none n h

  pub one_nibble : 13 ≤ n → n < 269 → length_nibble n ≡ 13
  one_nibble h l = as_nibble (omega arith) ∙ nibble_one n h l

  pub one_extension : 13 ≤ n → n < 269 → length_extension n ≡ ((n - 13) ∷ [])
  one_extension h l = as_extension (omega arith) ∙ extension_one n h l

  pub two_nibble : 269 ≤ n → n < 65805 → length_nibble n ≡ 14
  two_nibble h l = as_nibble l ∙ nibble_two n h

  pub two_extension : 269 ≤ n → n < 65805 → length_extension n ≡ (((n - 269) / 256) ∷ ((n - 269) % 256) ∷ [])
  two_extension h l = as_extension l ∙ extension_two n h

  pub four_nibble : 65805 ≤ n → length_nibble n ≡ 15
  unfolding length_nibble
  four_nibble h = rw (le-ltb n 65805 h)

  pub four_extension : 65805 ≤ n → length_extension n ≡ (((n - 65805) / 16777216) ∷ ((n - 65805) / 65536 % 256) ∷ ((n - 65805) / 256 % 256) ∷ ((n - 65805) % 256) ∷ [])
  unfolding length_extension
  four_extension h = rw (le-ltb n 65805 h)
