-- Laws of uints: written then read is the number; read then written is the value without its leading zeros.
use Prim.Native.Nat.{ℕ, zero, suc, ◌+◌, ◌-◌, ◌*◌, ◌/◌, ◌%◌, ◌^◌, ◌<◌, ◌≤◌}
use mathlib.Core.Path.{◌≡◌, refl, sym, ap, ◌∙◌}
use mathlib.Core.Bool.{false}
use mathlib.Core.List.{List, [], ◌∷◌, ◌++◌, append_assoc, append-nil}
use native.Mathlib.Nat.{pow-suc, pow-succ', mul_assoc, mul-le-mul_right, lt_of_lt_of_le, div-lt_iff_lt-mul, add-zero, zero-add, add-suc, suc-add, not-suc-le-zero}
use native.Mathlib.Omega.{arith}
use lib.Dec.{eqb, lit<}
use lib.ListN.{length, length-append}
use borrow.Author.Tests.{ne_eqb}
use Rattle.ground.specs.Part.{Bytes}
use Rattle.rfc.specs.Uint.{number_from, number, uint, without_zeros}
use Rattle.ground.proofs.Choice.{on_eq}
use Rattle.ground.proofs.Part.{bytes_append}

-- A number read in two goes.
pub number_append : (n : ℕ) (s t : List ℕ) → number_from n (s ++ t) ≡ number_from (number_from n s) t
number_append n [] t = refl
number_append n (b ∷ s) t = number_append (n * 256 + b) s t

-- Zero is no bytes, at every width.
pub uint_zero : (width : ℕ) → uint width 0 ≡ []
unfolding uint
uint_zero zero = refl
uint_zero (suc width) = refl

-- Any other number ends in its low byte, after the bytes of the rest.
pub uint_more : (width n : ℕ) → 0 < n → uint (suc width) n ≡ uint width (n / 256) ++ ((n % 256) ∷ [])
unfolding uint
uint_more width n h = let z : eqb n 0 ≡ false = ne_eqb n 0 (λ e. omega arith) in rw z

-- Written then read is the number.
pub written_read : (width n : ℕ) → n < 256 ^ width → number (uint width n) ≡ n
unfolding uint
written_read zero n h = omega (arith, h)
written_read (suc width) n h =
    on_eq (λ (bs : List ℕ). number bs ≡ n) n 0 (λ e. sym e)
    (λ z.
    let rest : n / 256 < 256 ^ width = (div-lt_iff_lt-mul (lit< tt)).1 (rw pow-suc at h) in
    number_append 0 (uint width (n / 256)) ((n % 256) ∷ []) ∙ (rw (written_read width (n / 256) rest) (omega arith)))

-- A number above zero, followed by bytes, is written as its own bytes and then those.
uint_after : (width n : ℕ) (bs : List ℕ) → Bytes bs → 0 < n → uint (width + length bs) (number_from n bs) ≡ uint width n ++ bs
uint_after width n [] b h = rw (add-zero, append-nil)
uint_after width n (x ∷ bs) b h =
    let e : width + suc (length bs) ≡ suc width + length bs = add-suc width (length bs) ∙ sym (suc-add width (length bs)) in
    let above : 0 < n * 256 + x = omega arith in
    let q : (n * 256 + x) / 256 ≡ n = omega (arith, b.0) in
    let r : (n * 256 + x) % 256 ≡ x = omega (arith, b.0) in
    rw e
    (uint_after (suc width) (n * 256 + x) bs b.1 above
    ∙ (rw (uint_more width (n * 256 + x) above, q, r) (append_assoc (uint width n) (x ∷ []) bs)))

-- Read then written is the value without its leading zeros.
pub read_written : (width : ℕ) (bs : List ℕ) → Bytes bs → length bs ≤ width → uint width (number bs) ≡ without_zeros bs
read_written width [] b h = uint_zero width
read_written zero (x ∷ bs) b h = absurd (not-suc-le-zero h)
read_written (suc width) (x ∷ bs) b h =
    rw zero-add
    (on_eq (λ (vs : List ℕ). uint (suc width) (number_from x bs) ≡ vs) x 0
    (λ e. rw e (read_written (suc width) bs b.1 (omega arith)))
    (λ z.
    let above : 0 < x = omega (arith, z) in
    let w : suc width ≡ suc (width - length bs) + length bs = omega arith in
    let q : x / 256 ≡ 0 = omega (arith, b.0) in
    let r : x % 256 ≡ x = omega (arith, b.0) in
    rw w
    (uint_after (suc (width - length bs)) x bs b.1 above
    ∙ (rw (uint_more (width - length bs) x above, q, r, uint_zero) refl))))

-- The shortest bytes do not depend on the width, where the number has room in it.
pub uint_enough : (width more n : ℕ) → n < 256 ^ width → uint (width + more) n ≡ uint width n
unfolding uint
uint_enough zero more n h = let e : n ≡ 0 = omega (arith, h) in rw e (uint_zero (zero + more))
uint_enough (suc width) more n h =
    let rest : n / 256 < 256 ^ width = (div-lt_iff_lt-mul (lit< tt)).1 (rw pow-suc at h) in
    rw (suc-add, uint_enough width more (n / 256) rest) refl

-- A uint has no more bytes than its width.
pub length_uint : (width n : ℕ) → length (uint width n) ≤ width
unfolding uint
length_uint zero n = omega arith
length_uint (suc width) n =
    on_eq (λ (bs : List ℕ). length bs ≤ suc width) n 0 (λ e. omega arith)
    (λ z. simp length-append (omega (arith, length_uint width (n / 256))))

-- A uint's elements are bytes.
pub bytes_uint : (width n : ℕ) → Bytes (uint width n)
unfolding uint
bytes_uint zero n = tt
bytes_uint (suc width) n =
    on_eq (λ (bs : List ℕ). Bytes bs) n 0 (λ e. tt)
    (λ z. bytes_append (uint width (n / 256)) ((n % 256) ∷ []) (bytes_uint width (n / 256)) (omega arith, tt))

-- Each byte read after a number makes room for 256 times as many.
below_from : (n : ℕ) (bs : List ℕ) → Bytes bs → number_from n bs < (n + 1) * 256 ^ length bs
below_from n [] b = omega arith
below_from n (x ∷ bs) b =
    let h : n * 256 + x + 1 ≤ (n + 1) * 256 = omega (arith, b.0) in
    let e : (n + 1) * 256 * 256 ^ length bs ≡ (n + 1) * 256 ^ suc (length bs) =
    mul_assoc (n + 1) 256 (256 ^ length bs) ∙ ap (λ (k : ℕ). (n + 1) * k) (sym (pow-succ' 256 (length bs))) in
    lt_of_lt_of_le (below_from (n * 256 + x) bs b.1) (rw e at (mul-le-mul_right (256 ^ length bs) h))

-- A number has room in as many bytes as it was read from.
pub number_below : (bs : List ℕ) → Bytes bs → number bs < 256 ^ length bs
number_below bs b = omega (arith, below_from 0 bs b)
