-- Laws of parts: bytes of a part are bytes, and a part of a part is a part; the kit's `sets` for what stands in an output piece by
-- piece; and parts of that output.
use Prim.Native.Nat.{ℕ, zero, suc, ◌+◌, ◌-◌, ◌<◌, ◌≤◌}
use mathlib.Core.Path.{◌≡◌, refl, sym, ◌∙◌, ap}
use mathlib.Core.List.{List, [], ◌∷◌, ◌++◌, append_assoc}
use native.Mathlib.Nat.{add-zero, zero-add, add-suc, suc-add}
use native.Mathlib.Omega.{arith}
use lib.ListN.{length, take, drop, get_or, set}
use lib.Seq.{sets, sets-eq, take-take, drop-drop, drop-set-lt, drop-set-add, take-set-le, take_at, drop_at, length-take-le}
use Rattle.ground.specs.Part.{part, Bytes}

pub bytes_take : (n : ℕ) (s : List ℕ) → Bytes s → Bytes (take n s)
bytes_take zero s b = tt
bytes_take (suc n) [] b = tt
bytes_take (suc n) (x ∷ s) b = (b.0, bytes_take n s b.1)

pub bytes_drop : (n : ℕ) (s : List ℕ) → Bytes s → Bytes (drop n s)
bytes_drop zero s b = b
bytes_drop (suc n) [] b = tt
bytes_drop (suc n) (x ∷ s) b = bytes_drop n s b.1

pub bytes_append : (s t : List ℕ) → Bytes s → Bytes t → Bytes (s ++ t)
bytes_append [] t a b = b
bytes_append (x ∷ s) t a b = (a.0, bytes_append s t a.1 b)

pub byte_at : (s : List ℕ) (i : ℕ) → Bytes s → get_or s i 0 < 256
byte_at [] i b = omega arith
byte_at (x ∷ s) zero b = b.0
byte_at (x ∷ s) (suc i) b = byte_at s i b.1

-- A list whose every element is below 256 is bytes.
pub bytes_of : (s : List ℕ) → ((i : ℕ) → get_or s i 0 < 256) → Bytes s
bytes_of [] f = tt
bytes_of (x ∷ s) f = (f 0, bytes_of s (λ i. f (suc i)))

-- A part of a part.
part_in : (n i k : ℕ) (l : List ℕ) → i + k ≤ n → part (take n l) i k ≡ part l i k
part_in n zero k l h = take-take k n l (omega arith)
part_in zero (suc i) k l h = absurd (omega arith)
part_in (suc n) (suc i) k [] h = refl
part_in (suc n) (suc i) k (x ∷ l) h = part_in n i k l (omega arith)

pub part_part : (s : List ℕ) (p n i k : ℕ) → i + k ≤ n → part (part s p n) i k ≡ part s (p + i) k
part_part s p n i k h = part_in n i k (drop p s) h ∙ ap (take k) (drop-drop i p s)

-- Two pieces put one after the other are one piece.
pub sets_append : (l : List ℕ) (i : ℕ) (vs ws : List ℕ) → sets l i (vs ++ ws) ≡ sets (sets l i vs) (i + length vs) ws
sets_append l i [] ws = rw add-zero
sets_append l i (v ∷ vs) ws =
    sets_append (set l i v) (suc i) vs ws ∙ ap (λ (k : ℕ). sets (sets l i (v ∷ vs)) k ws) (suc-add i (length vs) ∙ sym (add-suc i (length vs)))

-- Bytes put at the front, said without `sets`.
pub put_front : (l vs : List ℕ) → length vs ≤ length l → sets l 0 vs ≡ vs ++ drop (length vs) l
put_front l vs h = sets-eq vs l 0 (rw zero-add h) ∙ rw zero-add

-- A part that ends before the first of some bytes that were put, and what starts after the last, are as they were.
pub part_before : (vs l : List ℕ) (i from size : ℕ) → from + size ≤ i → part (sets l i vs) from size ≡ part l from size
part_before [] l i from size h = refl
part_before (v ∷ vs) l i from size h =
    let e : i ≡ from + (i - from) = omega arith in
    part_before vs (set l i v) (suc i) from size (omega arith)
    ∙ (ap (λ (k : ℕ). part (set l k v) from size) e
    ∙ (ap (take size) (drop-set-add from l (i - from) v) ∙ take-set-le size (drop from l) (i - from) v (omega arith)))

pub part_after : (vs l : List ℕ) (i from : ℕ) → i + length vs ≤ from → drop from (sets l i vs) ≡ drop from l
part_after [] l i from h = refl
part_after (v ∷ vs) l i from h = part_after vs (set l i v) (suc i) from (omega arith) ∙ drop-set-lt from l i v (omega arith)

-- The part where they were put is those bytes.
pub part_put : (l : List ℕ) (at : ℕ) (vs : List ℕ) → at + length vs ≤ length l → part (sets l at vs) at (length vs) ≡ vs
part_put l at vs h =
    let rest = drop (at + length vs) l in
    let before : length (take at l) ≡ at = length-take-le at l (omega arith) in
    ap (λ (m : List ℕ). part m at (length vs)) (sets-eq vs l at h ∙ append_assoc (take at l) vs rest)
    ∙ (ap (take (length vs)) (drop_at (take at l) (vs ++ rest) at before) ∙ take_at vs rest (length vs) refl)
