-- A copy: byte by byte by way of an array, by its two ends, in pieces, and cut to the room.
use Prim.Native.Nat.{ℕ, suc, ◌+◌, ◌-◌, ◌*◌, ◌<◌, ◌≤◌, min}
use mathlib.Core.Path.{◌≡◌, refl, sym, ap, ◌∙◌}
use mathlib.Core.List.{List, [], ◌∷◌, ◌++◌}
use native.Mathlib.Numerals.{add-one}
use native.Mathlib.Omega.{arith}
use borrow.Author.Count.{below_more}
use lib.ListN.{length, take, drop, get_or, set, length-drop, take-append-drop}
use lib.Seq.{sets, set-set, set_comm, get_or-set_same, get_or-set_other, take-suc, take-add, take_all, take-length, length-take-le}
use Rattle.ground.proofs.Choice.{by_lt}
use Rattle.ground.proofs.Part.{sets_append}
use Rattle.placing.specs.Put.{Puts, Put}
use Rattle.placing.proofs.Puts.{put_none}

-- No byte is put.
pub no_bytes : (l : List ℕ) (at : ℕ) (bytes : List ℕ) → length bytes ≡ 0 → Put l at bytes at l
no_bytes l at [] h = put_none l at
no_bytes l at (x ∷ bytes) h = absurd (omega arith)

-- One byte more stands in the array.
pub held_more : (held bytes : List ℕ) (i : ℕ) → i < length held → ((k : ℕ) → k < i → get_or held k 0 ≡ get_or bytes k 0)
    → (k : ℕ) → k < i + 1 → get_or (set held i (get_or bytes i 0)) k 0 ≡ get_or bytes k 0
held_more held bytes i h all =
    below_more (λ (k : ℕ). get_or (set held i (get_or bytes i 0)) k 0 ≡ get_or bytes k 0) i
    (λ k l. get_or-set_other held i k (get_or bytes i 0) 0 (λ e. omega (arith, e, l)) ∙ all k l) (get_or-set_same held i (get_or bytes i 0) 0 h)

-- One byte more stands in the output.
pub copied_more : (l : List ℕ) (at : ℕ) (bytes : List ℕ) (i : ℕ) → i < length bytes → set (sets l at (take i bytes)) (at + i) (get_or bytes i 0) ≡ sets l at (take (i + 1) bytes)
copied_more l at bytes i h =
    let n : length (take i bytes) ≡ i = length-take-le i bytes (omega arith) in
    ap (λ (k : ℕ). set (sets l at (take i bytes)) (at + k) (get_or bytes i 0)) (sym n)
    ∙ (sym (sets_append l at (take i bytes) (get_or bytes i 0 ∷ []))
    ∙ ap (sets l at) (sym (take-suc bytes i 0 h) ∙ ap (λ (k : ℕ). take k bytes) (sym (add-one i))))

-- One piece more stands in the output, from where the others end.
piece_more : (l : List ℕ) (at : ℕ) (bytes : List ℕ) (i n : ℕ) → i ≤ length bytes → sets (sets l at (take i bytes)) (at + i) (take n (drop i bytes)) ≡ sets l at (take (i + n) bytes)
piece_more l at bytes i n h =
    ap (λ (k : ℕ). sets (sets l at (take i bytes)) (at + k) (take n (drop i bytes))) (sym (length-take-le i bytes h))
    ∙ (sym (sets_append l at (take i bytes) (take n (drop i bytes))) ∙ ap (sets l at) (sym (take-add i n bytes)))

pub piece_next : (l m n : List ℕ) (at : ℕ) (bytes : List ℕ) (i end r : ℕ) → i ≤ end → end ≤ length bytes → m ≡ sets l at (take i bytes) → Put m (at + i) (take (end - i) (drop i bytes)) r n
    → n ≡ sets l at (take end bytes)
piece_next l m n at bytes i end r h k e p =
    let whole : i + (end - i) ≡ end = omega arith in
    p.out ∙ (ap (λ (x : List ℕ). sets x (at + i) (take (end - i) (drop i bytes))) e ∙ (piece_more l at bytes i (end - i) (omega arith) ∙ ap (λ (n : ℕ). sets l at (take n bytes)) whole))

-- A store before a run of stores may as well come first, and the same run twice is the run.
set_first : (l : List ℕ) (i v j : ℕ) (vs : List ℕ) → i < j → set (sets l j vs) i v ≡ sets (set l i v) j vs
set_first l i v j [] h = refl
set_first l i v j (w ∷ vs) h =
    set_first (set l j w) i v (suc j) vs (omega arith) ∙ ap (λ (m : List ℕ). sets m (suc j) vs) (set_comm l j i w v (λ e. omega (arith, e, h)))

sets_again : (l : List ℕ) (i : ℕ) (vs : List ℕ) → sets (sets l i vs) i vs ≡ sets l i vs
sets_again l i [] = refl
sets_again l i (v ∷ vs) =
    ap (λ (m : List ℕ). sets m (suc i) vs) (set_first (set l i v) i v (suc i) vs (omega arith) ∙ ap (λ (m : List ℕ). sets m (suc i) vs) (set-set l i v v))
    ∙ sets_again (set l i v) (suc i) vs

-- The first bytes and the last, where none is left out between them, are all.
pub ends_put : (l : List ℕ) (at : ℕ) (bytes : List ℕ) (half last : ℕ) → last ≤ half → half ≤ length bytes
    → sets (sets l at (take half bytes)) (at + last) (drop last bytes) ≡ sets l at bytes
ends_put l at bytes half last h k =
    let first = take last bytes in
    let both = take (half - last) (drop last bytes) in
    let rest = drop (half - last) (drop last bytes) in
    let m = sets l at first in
    let n : length first ≡ last = length-take-le last bytes (omega arith) in
    let whole : half ≡ last + (half - last) = omega arith in
    let front : sets l at (take half bytes) ≡ sets m (at + last) both =
    ap (λ (k : ℕ). sets l at (take k bytes)) whole ∙ sym (piece_more l at bytes last (half - last) (omega arith)) in
    let split : both ++ rest ≡ drop last bytes = take-append-drop (half - last) (drop last bytes) in
    ap (λ (x : List ℕ). sets x (at + last) (drop last bytes)) front
    ∙ (ap (sets (sets m (at + last) both) (at + last)) (sym split)
    ∙ (sets_append (sets m (at + last) both) (at + last) both rest
    ∙ (ap (λ (x : List ℕ). sets x (at + last + length both) rest) (sets_again m (at + last) both)
    ∙ (sym (sets_append m (at + last) both rest)
    ∙ (ap (sets m (at + last)) split
    ∙ (ap (λ (k : ℕ). sets m (at + k) (drop last bytes)) (sym n)
    ∙ (sym (sets_append l at first (drop last bytes)) ∙ ap (sets l at) (take-append-drop last bytes))))))))

pub ends_whole : (l m n : List ℕ) (at : ℕ) (bytes : List ℕ) (half a r : ℕ) → half ≤ length bytes → length bytes ≤ 2 * half → Put l at (take half bytes) a m
    → Put m (at + (length bytes - half)) (take (length bytes - (length bytes - half)) (drop (length bytes - half) bytes)) r n → Put l at bytes r n
ends_whole l m n at bytes half a r h k p q =
    let last = length bytes - half in
    let rest : take (length bytes - last) (drop last bytes) ≡ drop last bytes = take_all (length bytes - last) (drop last bytes) (simp length-drop (omega arith)) in
    let size : length (drop last bytes) ≡ length bytes - last = length-drop last bytes in
    record {
      next = q.next ∙ (ap (λ (x : List ℕ). at + last + length x) rest ∙ omega (arith, size));
      out = q.out ∙ (ap (sets m (at + last)) rest ∙ (ap (λ (x : List ℕ). sets x (at + last) (drop last bytes)) p.out ∙ ends_put l at bytes half last (omega arith) h));
    }

-- As many first bytes as there is room for are what fits of them.
take_min : (n : ℕ) (bytes : List ℕ) → take (min n (length bytes)) bytes ≡ take n bytes
take_min n bytes =
    by_lt n (length bytes) (λ h. let e : min n (length bytes) ≡ n = omega arith in rw e)
    (λ h. let e : min n (length bytes) ≡ length bytes = omega arith in rw e (take-length bytes ∙ sym (take_all n bytes h)))

-- Where what fits was put whole, all was put that could be.
pub put_fitting : (l : List ℕ) (at : ℕ) (bytes : List ℕ) (count r : ℕ) (out : List ℕ) → count ≡ min (length l - at) (length bytes)
    → Put l at (take count bytes) r out → Puts l at bytes r out
put_fitting l at bytes count r out e p =
    let same : take count bytes ≡ take (length l - at) bytes = ap (λ (k : ℕ). take k bytes) e ∙ take_min (length l - at) bytes in
    record {
      next = p.next ∙ ap (λ (x : List ℕ). at + length x) same;
      out = p.out ∙ ap (sets l at) same;
    }
