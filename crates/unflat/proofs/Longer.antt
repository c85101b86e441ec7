-- What stands after a flat form says nothing: it may stand at the start of a longer slice.
use Prim.Native.Nat.{ℕ, zero, suc, ◌+◌, ◌*◌, ◌<◌, ◌≤◌}
use mathlib.Core.Path.{◌≡◌, refl, sym, ap, ◌∙◌}
use mathlib.Core.Bool.{false}
use mathlib.Core.List.{List, ◌++◌}
use native.Mathlib.Omega.{arith}
use lib.ListN.{length, get_or, length-append, get_or-append}
use borrow.Author.Tests.{le-ltb}
use Rattle.ground.proofs.Choice.{on}
use Rattle.refusal.specs.Answer.{Answer, given}
use Rattle.refusal.proofs.Answers.{not_refused}
use Rattle.packet.specs.declared.Packet.{Packet}
use Rattle.unflat.specs.Unflat.{bad_head, bad_record, bad_numbers, bad_frame, bad_flat, header_in, records_in, packet_in, unflat}
use Rattle.unflat.proofs.Unflat.{good}

module _ (l rest : List ℕ) (bad : bad_flat l ≡ false) where
  same : (i : ℕ) → i < length l → get_or (l ++ rest) i 0 ≡ get_or l i 0
  same i h = get_or-append l rest 0 i h

  -- The numbers of the head.
  at : (i : ℕ) → i < 11 → get_or (l ++ rest) i 0 ≡ get_or l i 0
  at i h = same i (omega (arith, (good l bad).head))

  same_head : bad_head (l ++ rest) ≡ false
  unfolding bad_head
  same_head =
      rw (at 0 (omega arith), at 1 (omega arith), at 2 (omega arith), at 3 (omega arith), at 4 (omega arith), at 7 (omega arith), at 10 (omega arith)) (good l bad).fields

  same_record : (at : ℕ) → at + 2 ≤ length l → bad_record (l ++ rest) at ≡ bad_record l at
  unfolding bad_record
  same_record at h = rw (same at (omega arith), same (at + 1) (omega arith))

  same_numbers : (m : ℕ) → 11 + 4 * m ≤ length l → bad_numbers (l ++ rest) m ≡ bad_numbers l m
  same_numbers zero h = refl
  same_numbers (suc m) h = rw (same_numbers m (omega arith), same_record (11 + 4 * m) (omega arith))

  same_records : (m : ℕ) → 11 + 4 * m ≤ length l → records_in (l ++ rest) m ≡ records_in l m
  same_records zero h = refl
  same_records (suc m) h =
      rw (same_records m (omega arith), same (11 + 4 * m) (omega arith), same (11 + 4 * m + 1) (omega arith), same (11 + 4 * m + 2) (omega arith), same (11 + 4 * m + 3) (omega arith))

  longer_good : bad_flat (l ++ rest) ≡ false
  unfolding bad_flat bad_frame
  longer_good =
      let g = good l bad in
      let long = length-append l rest in
      rw (le-ltb (length (l ++ rest)) 11 (omega (arith, g.head)), same_head, at 10 (omega arith), le-ltb (length (l ++ rest)) (11 + 4 * get_or l 10 0) (omega (arith, g.records)), same_numbers (get_or l 10 0) g.records)
      g.numbers

  longer_packet : packet_in (l ++ rest) ≡ packet_in l
  unfolding packet_in header_in
  longer_packet =
      rw (at 0 (omega arith), at 1 (omega arith), at 2 (omega arith), at 3 (omega arith), at 4 (omega arith), at 5 (omega arith), at 6 (omega arith), at 7 (omega arith), at 8 (omega arith), at 9 (omega arith), at 10 (omega arith), same_records (get_or l 10 0) (good l bad).records)

-- Numbers that are taken are taken alike at the start of more.
pub longer : (l rest : List ℕ) (p : Packet) → unflat l ≡ given p → unflat (l ++ rest) ≡ given p
unfolding unflat
longer l rest p =
    on (λ (a : Answer Packet). a ≡ given p → unflat (l ++ rest) ≡ given p) (bad_flat l) (λ t e. not_refused (sym e))
    (λ t e. rw (longer_good l rest t) (ap given (longer_packet l rest t) ∙ e))
