-- The record of a time: what is read where it stands, and what stands where it was read.
use Prim.Native.Nat.{ℕ, ◌+◌, ◌*◌, ◌/◌, ◌%◌, ◌<◌, ◌≤◌}
use mathlib.Core.Path.{◌≡◌, refl, sym, ap, ◌∙◌}
use mathlib.Core.List.{List, [], ◌∷◌, ◌++◌}
use native.Mathlib.Nat.{add-zero}
use native.Mathlib.Omega.{arith}
use lib.ListN.{length, get_or, drop}
use Rattle.ground.specs.Part.{part, Bytes}
use Rattle.ground.proofs.Part.{byte_at, bytes_take, bytes_drop}
use Rattle.rfc.specs.Uint.{number}
use Rattle.rfc.proofs.Uint.{number_below}
use Rattle.reading.proofs.Complete.{byte, past}
use Rattle.stream.proofs.Sound.{byte_first, part_first, part_length}
use Rattle.stream.proofs.Complete.{names}
use Rattle.tracing.specs.Trace.{time_of}
use Rattle.tracing.specs.TimedMessages.{time_at}

-- Four bytes inside a list, and their number.
pub four_are : (s : List ℕ) (at : ℕ) → at + 4 ≤ length s → part s at 4 ≡ get_or s at 0 ∷ get_or s (at + 1) 0 ∷ get_or s (at + 2) 0 ∷ get_or s (at + 3) 0 ∷ []
four_are s at h =
    let two : at + 1 + 1 ≡ at + 2 = omega arith in
    let three : at + 2 + 1 ≡ at + 3 = omega arith in
    rw (byte_first s at (omega arith), byte_first s (at + 1) (omega arith), two, byte_first s (at + 2) (omega arith), three, byte_first s (at + 3) (omega arith)) refl

pub four_number : (s : List ℕ) (at a b c d : ℕ) → at + 4 ≤ length s → a ≡ get_or s at 0 → b ≡ get_or s (at + 1) 0 → c ≡ get_or s (at + 2) 0 → d ≡ get_or s (at + 3) 0
    → (a * 256 + b) * 65536 + (c * 256 + d) ≡ number (part s at 4)
four_number s at a b c d h p q r t = rw (four_are s at h) (omega arith)

-- The bytes of a number that was read from four are those.
bytes_of_four : (a b c d : ℕ) → a < 256 → b < 256 → c < 256 → d < 256 → time_of (number (a ∷ b ∷ c ∷ d ∷ [])) ≡ 8 ∷ a ∷ b ∷ c ∷ d ∷ []
bytes_of_four a b c d ha hb hc hd =
    let n : ℕ = number (a ∷ b ∷ c ∷ d ∷ []) in
    let p : n / 16777216 ≡ a = omega arith in
    let q : n / 65536 % 256 ≡ b = omega arith in
    let r : n / 256 % 256 ≡ c = omega arith in
    let t : n % 256 ≡ d = omega arith in
    rw (p, q, r, t) refl

module _ (s : List ℕ) (at : ℕ) (bytes : Bytes s) (inside : at + 5 ≤ length s) where
  pub time_small : time_at s at < 4294967296
  time_small =
      let n : length (part s (at + 1) 4) ≡ 4 = part_length s (at + 1) 4 (omega arith) in
      rw n at (number_below (part s (at + 1) 4) (bytes_take 4 (drop (at + 1) s) (bytes_drop (at + 1) s bytes)))

  -- The record of the time that is read at a position stands there.
  pub time_stands : get_or s at 0 ≡ 8 → drop at s ≡ time_of (time_at s at) ++ drop (at + 5) s
  time_stands e =
      let f = four_are s (at + 1) (omega arith) in
      let k = bytes_of_four (get_or s (at + 1) 0) (get_or s (at + 1 + 1) 0) (get_or s (at + 1 + 2) 0) (get_or s (at + 1 + 3) 0)
      (byte_at s (at + 1) bytes) (byte_at s (at + 1 + 1) bytes) (byte_at s (at + 1 + 2) bytes) (byte_at s (at + 1 + 3) bytes) in
      let five : at + 1 + 4 ≡ at + 5 = omega arith in
      let t : time_of (time_at s at) ≡ 8 ∷ part s (at + 1) 4 = ap (λ (l : List ℕ). time_of (number l)) f ∙ (k ∙ ap (λ (l : List ℕ). 8 ∷ l) (sym f)) in
      byte_first s at (omega arith)
      ∙ (ap (λ (b : ℕ). b ∷ drop (at + 1) s) e
      ∙ (ap (λ (l : List ℕ). 8 ∷ l) (part_first s (at + 1) 4 ∙ ap (λ (n : ℕ). part s (at + 1) 4 ++ drop n s) five)
      ∙ ap (λ (l : List ℕ). l ++ drop (at + 5) s) (sym t)))

-- The record of a time that stands at a position is read there.
module _ (s : List ℕ) (at t : ℕ) (rest : List ℕ) (h : at ≤ length s) (e : drop at s ≡ time_of t ++ rest) where
  pub time_kind : get_or s at 0 ≡ 8
  time_kind = rw add-zero at (byte s at (time_of t) rest e h 0 (omega arith))

  pub time_read : t < 4294967296 → time_at s at ≡ t
  time_read small =
      let x : List ℕ = (t / 16777216) ∷ (t / 65536 % 256) ∷ (t / 256 % 256) ∷ (t % 256) ∷ [] in
      let p : part s (at + 1) 4 ≡ x = names s (at + 1) x rest (past s at (8 ∷ []) (x ++ rest) e h) in
      rw p (omega arith)
