-- An entry that was put into a table is read again, and the other places stay.
use Prim.Native.Nat.{ℕ, zero, suc, ◌+◌, ◌*◌, ◌<◌, ◌≤◌}
use mathlib.Core.Path.{◌≡◌, refl, sym, ap, ◌∙◌}
use mathlib.Core.List.{List, ◌++◌}
use native.Mathlib.Nat.{add-zero}
use native.Mathlib.Omega.{arith}
use lib.Dec.{eqb}
use lib.ListN.{length, take, drop, get_or, set, length-append}
use lib.Seq.{sets, take_at, drop_at, drop-append-add, get_or-take, get_or-drop}
use borrow.Author.Tests.{eq-eqb, ne_eqb}
use Rattle.ground.specs.Choice.{pick}
use Rattle.ground.specs.Part.{part}
use Rattle.ground.proofs.Choice.{by_eq}
use Rattle.ground.proofs.Part.{part_part, part_before, part_after, part_put}
use Rattle.rfc.specs.Uint.{number}
use Rattle.rfc.specs.Duplicates.{Arrival}
use Rattle.hearing.specs.Table.{Place, unused, holds}
use Rattle.hearing.specs.Bytes.{place_at, places_from, two_bytes, four_bytes, entry_bytes}

-- A place is made of its bytes: the first, the peer's, the id's and the time's.
place_from : ℕ → List ℕ → List ℕ → List ℕ → Place
place_from b peer id time =
    pick (eqb b 1) (holds (record { time = number time; type = 0; peer = peer; id = number id }))
    (pick (eqb b 2) (holds (record { time = number time; type = 1; peer = peer; id = number id })) unused)

place_is : (s : List ℕ) (p : ℕ) → place_at s p ≡ place_from (get_or s p 0) (part s (p + 1) 18) (part s (p + 19) 2) (part s (p + 21) 4)
unfolding place_at place_from
place_is s p = refl

-- So it is the place of its 25 bytes.
place_part : (s : List ℕ) (p : ℕ) → place_at s p ≡ place_at (part s p 25) 0
place_part s p =
    let first : get_or (part s p 25) 0 0 ≡ get_or s p 0 =
    get_or-take 25 (drop p s) 0 0 (omega arith) ∙ (get_or-drop p s 0 0 ∙ rw (add-zero p)) in
    let peer = part_part s p 25 1 18 (omega arith) in
    let id = part_part s p 25 19 2 (omega arith) in
    let time = part_part s p 25 21 4 (omega arith) in
    place_is s p ∙ ((cc) ∙ sym (place_is (part s p 25) 0))

place_same : (s t : List ℕ) (p : ℕ) → part s p 25 ≡ part t p 25 → place_at s p ≡ place_at t p
place_same s t p e = place_part s p ∙ (ap (λ (b : List ℕ). place_at b 0) e ∙ sym (place_part t p))

-- One that an entry can hold.
pub record Entry (m : Arrival) : Type 0 where
  pub time : m.time < 4294967296
  pub type : m.type ≤ 1
  pub peer : length m.peer ≡ 18
  pub id : m.id < 65536

pub entry_size : (m : Arrival) → length m.peer ≡ 18 → length (entry_bytes m) ≡ 25
entry_size m h = simp length-append (omega arith)

module _ (m : Arrival) (ok : Entry m) where
  pub entry_length : length (entry_bytes m) ≡ 25
  entry_length = entry_size m ok.peer

  -- Its bytes are the place that holds it.
  place_of : place_from (m.type + 1) m.peer (two_bytes m.id) (four_bytes m.time) ≡ holds m
  unfolding place_from
  place_of =
      let id : number (two_bytes m.id) ≡ m.id = omega arith in
      let time : number (four_bytes m.time) ≡ m.time = omega (arith, ok.time) in
      by_eq m.type 0
      (λ z. rw (eq-eqb (m.type + 1) 1 (omega arith), id, time) (ap (λ (k : ℕ). holds (record { time = m.time; type = k; peer = m.peer; id = m.id })) (sym z)))
      (λ z.
      let one : m.type ≡ 1 = omega (arith, ok.type) in
      rw (ne_eqb (m.type + 1) 1 (λ e. z (omega arith)), eq-eqb (m.type + 1) 2 (omega arith), id, time)
      (ap (λ (k : ℕ). holds (record { time = m.time; type = k; peer = m.peer; id = m.id })) (sym one)))

  place_bytes : place_at (entry_bytes m) 0 ≡ holds m
  place_bytes =
      let tail = two_bytes m.id ++ four_bytes m.time in
      let peer : part (entry_bytes m) 1 18 ≡ m.peer = take_at m.peer tail 18 ok.peer in
      let id : part (entry_bytes m) 19 2 ≡ two_bytes m.id = ap (take 2) (drop_at m.peer tail 18 ok.peer) in
      let time : part (entry_bytes m) 21 4 ≡ four_bytes m.time =
      ap (λ (n : ℕ). take 4 (drop (n + 2) (m.peer ++ tail))) (sym ok.peer) ∙ ap (take 4) (drop-append-add m.peer tail 2) in
      place_is (entry_bytes m) 0 ∙ ((cc) ∙ place_of)

  -- The place where the entry was put holds the message.
  place_written : (s : List ℕ) (at : ℕ) → at + 25 ≤ length s → place_at (sets s at (entry_bytes m)) at ≡ holds m
  place_written s at h =
      let put : part (sets s at (entry_bytes m)) at 25 ≡ entry_bytes m =
      ap (part (sets s at (entry_bytes m)) at) (sym entry_length) ∙ part_put s at (entry_bytes m) (omega (arith, entry_length)) in
      place_part (sets s at (entry_bytes m)) at ∙ (ap (λ (b : List ℕ). place_at b 0) put ∙ place_bytes)

  -- Places behind it stay.
  places_after : (n : ℕ) (s : List ℕ) (at p : ℕ) → at + 25 ≤ p → places_from n (sets s at (entry_bytes m)) p ≡ places_from n s p
  unfolding places_from
  places_after zero s at p h = refl
  places_after (suc n) s at p h =
      let a = place_same (sets s at (entry_bytes m)) s p (ap (take 25) (part_after (entry_bytes m) s at p (omega (arith, entry_length)))) in
      let b = places_after n s at (p + 25) (omega arith) in
      cc

  -- So an entry that was put at a place stands there, among the others.
  pub places_written : (n k : ℕ) (s : List ℕ) (at p : ℕ) → k < n → at ≡ p + k * 25 → p + n * 25 ≤ length s → places_from n (sets s at (entry_bytes m)) p ≡ set (places_from n s p) k (holds m)
  unfolding places_from
  places_written zero k s at p h e l = absurd (omega arith)
  places_written (suc n) zero s at p h e l =
      let z : at ≡ p = omega arith in
      let a : place_at (sets s p (entry_bytes m)) p ≡ holds m = place_written s p (omega arith) in
      let b = places_after n s p (p + 25) (omega arith) in
      rw z (cc)
  places_written (suc n) (suc k) s at p h e l =
      let a = place_same (sets s at (entry_bytes m)) s p (part_before (entry_bytes m) s at p 25 (omega arith)) in
      let b = places_written n k s at (p + 25) (omega arith) (omega arith) (omega arith) in
      cc
