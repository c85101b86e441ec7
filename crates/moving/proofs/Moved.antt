-- A move to the front, piece by piece: what is still to be moved stands where it stood, since each piece goes to a place before it.
use Prim.Native.Nat.{ℕ, ◌+◌, ◌-◌, ◌≤◌, min}
use mathlib.Core.Path.{◌≡◌, sym, ap, ◌∙◌}
use mathlib.Core.List.{List}
use native.Mathlib.Nat.{zero-add}
use native.Mathlib.Omega.{arith}
use lib.ListN.{length, take, drop, length-take, length-drop}
use lib.Seq.{sets, length-take-le, length-sets}
use Rattle.ground.specs.Part.{part}
use Rattle.ground.proofs.Part.{part_part, part_after}
use Rattle.placing.specs.Put.{Puts, Put}
use Rattle.placing.proofs.Copy.{piece_next}
use Rattle.placing.proofs.Puts.{puts_whole, puts_front}

-- How many bytes a part has that may reach past the end, or start there.
pub part_size : (l : List ℕ) (start end stop : ℕ) → stop ≡ min end (length l) → length (part l start (end - start)) ≡ stop - start
part_size l start end stop e = length-take (end - start) (drop start l) ∙ omega (arith, length-drop start l)

-- The smaller of two is at most either.
pub at_most_lem : (a b r : ℕ) → r ≡ min a b → (r ≤ a) × (r ≤ b)
at_most_lem a b r e = (omega arith, omega arith)

-- The next piece stands where it stood.
next_stands : (l : List ℕ) (start size i n : ℕ) → i + n ≤ size → part (sets l 0 (take i (part l start size))) (start + i) n ≡ part (part l start size) i n
next_stands l start size i n h =
    let moved = take i (part l start size) in
    let few : length moved ≤ i = omega (arith, length-take i (part l start size)) in
    ap (take n) (part_after moved l 0 (start + i) (omega arith)) ∙ sym (part_part l start size i n h)

-- One piece more stands at the front, by way of an array that has room for it.
pub moved_more : (l m held held' new : List ℕ) (start size i count a r : ℕ) → i + count ≤ length (part l start size) → count ≤ length held
    → m ≡ sets l 0 (take i (part l start size)) → Puts held 0 (part m (start + i) count) a held' → Puts m i (take count held') r new
    → new ≡ sets l 0 (take (i + count) (part l start size))
moved_more l m held held' new start size i count a r k room e p q =
    let all = part l start size in
    let piece = part all i count in
    let few : length all ≤ size = omega (arith, length-take size (drop start l)) in
    let inside : length all ≤ length l = omega (arith, length-take size (drop start l), length-drop start l) in
    let stands : part m (start + i) count ≡ piece = rw e (next_stands l start size i count (omega arith)) in
    let long : length piece ≡ count = length-take-le count (drop i all) (omega (arith, length-drop i all)) in
    let w : Put held 0 piece a held' = puts_whole (rw stands at p) (omega (arith, long)) in
    let back : take count held' ≡ piece =
    ap (λ (n : ℕ). take n held') (sym (w.next ∙ (zero-add (length piece) ∙ long))) ∙ puts_front (rw stands at p) (omega (arith, long)) in
    let same : length m ≡ length l = ap length e ∙ length-sets l 0 (take i all) in
    let whole : i + count - i ≡ count = omega arith in
    piece_next l m new 0 all i (i + count) r (omega arith) k e (rw (zero-add, whole) (puts_whole (rw back at q) (omega (arith, long, same))))
