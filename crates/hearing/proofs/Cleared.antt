-- A table that was cleared: what `clear` shows, and that the table then holds nothing.
use Prim.Native.Nat.{ℕ, zero, suc, ◌+◌, ◌*◌, ◌<◌, ◌≤◌}
use mathlib.Core.Path.{◌≡◌, refl, ap, ◌∙◌}
use mathlib.Core.List.{List, []}
use native.Mathlib.Omega.{arith}
use lib.ListN.{length, drop, get_or, replicate, length-replicate, get_or-replicate, get_or-append}
use lib.Seq.{sets, length-sets}
use borrow.Author.Tests.{lt-ltb, le-ltb}
use Rattle.ground.proofs.Part.{put_front}
use Rattle.rfc.specs.Duplicates.{count}
use Rattle.hearing.specs.Table.{entries}
use Rattle.hearing.specs.Bytes.{table_size, places_from}
use Rattle.refusal.specs.declared.Refusal.TheVariants.{NoRoom}
use Rattle.std.specs.Prelude.{Ok, Err}
use Rattle.placing.specs.Put.{Puts}
use Rattle.placing.proofs.Puts.{puts_whole}
use Rattle.hearing.specs.Hearing.{Clears}
use Rattle.hearing.specs.Told.{Holds}
use Rattle.hearing.proofs.Places.{not_used}

-- Places of bytes that are 0 are unused, and have no entry.
zero_places : (n : ℕ) (s : List ℕ) (p : ℕ) → ((i : ℕ) → i < p + n * 25 → get_or s i 0 ≡ 0) → entries (places_from n s p) ≡ []
unfolding places_from
zero_places zero s p z = refl
zero_places (suc n) s p z =
    rw (not_used s p (λ e. omega (arith, z p (omega arith))) (λ e. omega (arith, z p (omega arith))))
    (zero_places n s (p + 25) (λ i h. z i (omega arith)))

zeros_first : (s : List ℕ) (n : ℕ) → n ≤ length s → (i : ℕ) → i < n → get_or (sets s 0 (replicate n 0)) i 0 ≡ 0
zeros_first s n l i h =
    ap (λ (t : List ℕ). get_or t i 0) (put_front s (replicate n 0) (rw length-replicate l))
    ∙ (get_or-append (replicate n 0) (drop (length (replicate n 0)) s) 0 i (rw length-replicate h) ∙ get_or-replicate n i 0 0 h)

cleared_by : (s : List ℕ) (n : ℕ) → n ≡ table_size → n ≤ length s → Holds 0 (sets s 0 (replicate n 0)) []
cleared_by s n e l =
    let none = zero_places 64 (sets s 0 (replicate n 0)) 0 (λ i h. zeros_first s n l i (omega arith)) in
    record {
      size = rw length-sets (omega arith);
      counts = λ now h p. ap (count now p) none;
      known = λ x a. rw none at a;
    }

pub cleared_holds : (s : List ℕ) → table_size ≤ length s → Holds 0 (sets s 0 (replicate table_size 0)) []
cleared_holds s l = cleared_by s table_size refl l

-- What clearing shows when it returns.
pub not_cleared : (old : List ℕ) → length old < table_size → Clears old (Err NoRoom) old
not_cleared old h = let t = lt-ltb (length old) table_size h in record { answer = rw t; table = rw t }

all_put : (old : List ℕ) (n r : ℕ) (left : List ℕ) → n ≤ length old → Puts old 0 (replicate n 0) r left → left ≡ sets old 0 (replicate n 0)
all_put old n r left h p = (puts_whole p (rw length-replicate (omega arith))).out

pub is_cleared : (old : List ℕ) (r : ℕ) (left : List ℕ) → table_size ≤ length old → Puts old 0 (replicate table_size 0) r left → Clears old (Ok tt) left
is_cleared old r left h p =
    let t = le-ltb (length old) table_size h in
    record { answer = rw t; table = rw t (all_put old table_size r left h p) }
