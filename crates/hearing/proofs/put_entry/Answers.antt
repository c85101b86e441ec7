-- `put_entry`: one piece after the other.
use Prim.Native.Nat.{ℕ, ◌/◌, ◌%◌, ◌<◌}
use mathlib.Core.Path.{◌≡◌, ap}
use mathlib.Core.List.{[], ◌∷◌}
use native.Mathlib.Omega.{arith}
use Rattle.std.specs.Int.{w16, w32, to_be_bytes}
use Rattle.placing.proofs.Puts.{puts_puts}
use Rattle.hearing.specs.Bytes.{two_bytes, four_bytes}
use Rattle.hearing.proofs.put_entry.Goals as goal

-- The first byte of a number that has no more bytes is no remainder.
two_are : (n : ℕ) → n < 65536 → to_be_bytes w16 n ≡ two_bytes n
two_are n h =
    let first : n / 256 % 256 ≡ n / 256 = omega arith in
    ap (λ (b : ℕ). b ∷ (n % 256) ∷ []) first

four_are : (n : ℕ) → n < 4294967296 → to_be_bytes w32 n ≡ four_bytes n
four_are n h =
    let first : n / 16777216 % 256 ≡ n / 16777216 = omega arith in
    ap (λ (b : ℕ). b ∷ (n / 65536 % 256) ∷ (n / 256 % 256) ∷ (n % 256) ∷ []) first

pub returns : goal.returns
returns c =
    rw (← c.message.view_is)
    (puts_puts c.put_byte-after_type.ensures
    (puts_puts c.put_bytes-after_peer.ensures
    (puts_puts (rw (c.to_be_bytes-id_bytes.ensures, two_are c.message.inside.id (omega arith)) at c.put_bytes-after_id.ensures)
    (rw (c.to_be_bytes-time_bytes.ensures, four_are c.message.inside.time (omega arith)) at c.put_bytes.ensures))))
