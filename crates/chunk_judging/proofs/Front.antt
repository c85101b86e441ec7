-- The header of a datagram by its front: the bytes after header and token are not asked for.
use Prim.Native.Nat.{ℕ, ◌+◌, ◌-◌, ◌<◌, ◌≤◌, min}
use mathlib.Core.Path.{◌≡◌, refl, ap, ◌∙◌}
use mathlib.Core.Bool.{true}
use mathlib.Core.List.{List}
use native.Mathlib.Omega.{arith}
use lib.ListN.{length, take, drop, length-take}
use lib.Seq.{get_or-take, take_all}
use borrow.Author.Tests.{lt-ltb, le-ltb}
use Rattle.ground.proofs.Choice.{by_lt}
use Rattle.refusal.specs.Answer.{Answer, given, refused, onward}
use Rattle.header.specs.Header.{raw_in, token_of}
use Rattle.header.specs.declared.HeaderRaw.{HeaderRaw}
use Rattle.reading.specs.Headed.{good_header, headed}
use Rattle.stream.specs.declared.Form.{Form}
use Rattle.stream.specs.Stream.{full, head_size}
use Rattle.chunk_judging.specs.Chunks.{offset, gathered}
use Rattle.chunk_judging.proofs.Places.{first_ends, first_holds, gathered_length, gathered_front}

-- A header before at least 8 bytes, be they more or fewer.
good_alike : (a b : List ℕ) → 12 ≤ length a → 12 ≤ length b → (raw : HeaderRaw) → good_header true a raw ≡ good_header true b raw
unfolding good_header
good_alike a b la lb raw =
    by_lt 8 (token_of raw) (λ h. rw (lt-ltb 8 (token_of raw) h) refl)
    (λ h. rw (le-ltb 8 (token_of raw) h, le-ltb (length a) (4 + token_of raw) (omega arith), le-ltb (length b) (4 + token_of raw) (omega arith), lt-ltb 4 (length a) (omega arith), lt-ltb 4 (length b) (omega arith)) refl)

onward_alike : {A B : Type 0} (a : Answer A) (f g : A → Answer B) → ((v : A) → f v ≡ g v) → onward a f ≡ onward a g
onward_alike (given v) f g h = h v
onward_alike (refused k) f g h = refl

raw_alike : (n : ℕ) (s : List ℕ) → 12 ≤ n → n ≤ length s → raw_in (take n s) ≡ raw_in s
unfolding raw_in
raw_alike n s h l =
    rw (le-ltb (length (take n s)) 4 (omega (arith, length-take n s)), le-ltb (length s) 4 (omega arith), get_or-take n s 0 0 (omega arith), get_or-take n s 1 0 (omega arith), get_or-take n s 2 0 (omega arith), get_or-take n s 3 0 (omega arith)) refl

pub headed_front : (n : ℕ) (s : List ℕ) → min 12 (length s) ≤ n → length s ≤ 70000 → headed true (take n s) ≡ headed true s
unfolding headed
headed_front n s h short =
    by_lt n (length s)
    (λ l.
    let t : length (take n s) ≡ n = length-take n s ∙ omega arith in
    rw (le-ltb 70000 (length (take n s)) (omega arith), le-ltb 70000 (length s) short, raw_alike n s (omega arith) (omega arith))
    (onward_alike (raw_in s) (good_header true (take n s)) (good_header true s) (good_alike (take n s) s (omega arith) (omega arith))))
    (λ l. ap (headed true) (take_all n s l))

-- The part of a stream that is the first chunk of a datagram.
pub chunk_headed : (form : Form) (s : List ℕ) (from len head n : ℕ) → head ≡ head_size form → n ≡ min (full form) len → 0 < len → len ≤ 70000 → from + offset form (len - 1) < length s
    → headed true (take (from + head + n - (from + head)) (drop (from + head) s)) ≡ headed true (gathered form s from len)
chunk_headed form s from len head n e few some short inside =
    let g : List ℕ = gathered form s from len in
    let l : length g ≡ len = gathered_length form s from len in
    let k : from + head + n - (from + head) ≡ n = omega arith in
    let ends : from + head_size form + n ≤ length s = omega (arith, first_ends form len some) in
    rw (k, e)
    (ap (headed true) (gathered_front form s from len n (omega arith) (omega arith) ends) ∙ headed_front n g (omega (arith, first_holds form len)) (omega arith))
