-- Laws of bytes put into an output: two pieces put one after the other are one, what was put lies within the output, and what
-- fits is put whole.
use Prim.Native.Nat.{ℕ, zero, suc, ◌+◌, ◌-◌, ◌<◌, ◌≤◌}
use mathlib.Core.Path.{◌≡◌, refl, sym, ◌∙◌, ap}
use mathlib.Core.List.{List, [], ◌∷◌, ◌++◌}
use native.Mathlib.Nat.{add-zero, zero-add, zero-sub, sub-zero, suc-sub-suc}
use native.Mathlib.Numerals.{add-one}
use native.Mathlib.Omega.{arith}
use lib.ListN.{length, take, drop, set, length-take, length-append}
use lib.Seq.{sets, length-sets, take-nil, take_all, take-append_seam}
use Rattle.ground.proofs.Part.{sets_append, put_front}
use Rattle.refusal.specs.Answer.{given, fitted, room_from, after}
use Rattle.refusal.proofs.Fitted.{put_fits, put_placed}
use Rattle.placing.specs.Put.{Puts, Put, cut}

-- The first elements of two lists that follow each other.
pub take_append : (n : ℕ) (xs ys : List ℕ) → take n (xs ++ ys) ≡ take n xs ++ take (n - length xs) ys
take_append zero xs ys = rw zero-sub
take_append (suc n) [] ys = rw sub-zero
take_append (suc n) (x ∷ xs) ys = rw suc-sub-suc (ap (λ (l : List ℕ). x ∷ l) (take_append n xs ys))

-- Nothing is put.
pub puts_none : (l : List ℕ) (at : ℕ) → Puts l at [] at l
puts_none l at =
    let none : cut (length l) at [] ≡ [] = take-nil (length l - at) in
    record { next = rw none (sym (add-zero at)); out = rw none }

-- Bytes that fit are not cut.
pub cut_whole : (room at : ℕ) (bytes : List ℕ) → length bytes ≤ room - at → cut room at bytes ≡ bytes
cut_whole room at bytes h = take_all (room - at) bytes h

-- One byte inside the output.
pub puts_byte : (l : List ℕ) (at b : ℕ) → at < length l → Puts l at (b ∷ []) (at + 1) (set l at b)
puts_byte l at b h =
    let whole : cut (length l) at (b ∷ []) ≡ b ∷ [] = cut_whole (length l) at (b ∷ []) (omega arith) in
    record { next = rw whole; out = rw whole }

-- Past the end of the output nothing is put.
pub puts_past : (l : List ℕ) (at : ℕ) (vs : List ℕ) → length l ≤ at → Puts l at vs at l
puts_past l at vs h =
    let full : length l - at ≡ 0 = omega arith in
    let none : cut (length l) at vs ≡ [] = ap (λ (n : ℕ). take n vs) full in
    record { next = rw none (sym (add-zero at)); out = rw none }

-- The length of an output stays.
pub puts_length : {l vs m : List ℕ} {at a : ℕ} → Puts l at vs a m → length m ≡ length l
puts_length {l = l} {vs = vs} {at = at} p = ap length p.out ∙ length-sets l at (cut (length l) at vs)

-- What was put ends within the output.
pub puts_within : {l vs m : List ℕ} {at a : ℕ} → Puts l at vs a m → at ≤ length l → a ≤ length m
puts_within {l = l} {vs = vs} {at = at} p h = omega (arith, p.next, puts_length p, length-take (length l - at) vs)

-- Bytes that fit, put at the front, are what the output begins with.
pub puts_front : {l vs m : List ℕ} {a : ℕ} → Puts l 0 vs a m → length vs ≤ length l → take a m ≡ vs
puts_front {l = l} {vs = vs} p h =
    let all : cut (length l) 0 vs ≡ vs = cut_whole (length l) 0 vs (omega arith) in
    let next = p.next ∙ ap (λ (t : List ℕ). 0 + length t) all ∙ zero-add (length vs) in
    let out = p.out ∙ ap (sets l 0) all ∙ put_front l vs h in
    rw (next, out) (take-append_seam vs (drop (length vs) l))

-- Two pieces put one after the other are one piece.
pub puts_puts : {l m n vs ws : List ℕ} {at a b : ℕ} → Puts l at vs a m → Puts m a ws b n → Puts l at (vs ++ ws) b n
puts_puts {l = l} {m = m} {vs = vs} {ws = ws} {at = at} {a = a} p q =
    let len : length m ≡ length l = puts_length p in
    let left : length l - at - length vs ≡ length m - a = omega (arith, p.next, length-take (length l - at) vs) in
    let parts : cut (length l) at (vs ++ ws) ≡ cut (length l) at vs ++ cut (length m) a ws = take_append (length l - at) vs ws ∙ rw left in
    record {
      next = q.next ∙ rw parts (rw length-append (omega (arith, p.next)));
      out = q.out ∙ (cc (p.out, p.next) ∙ (sym (sets_append l at (cut (length l) at vs) (cut (length m) a ws)) ∙ ap (sets l at) (sym parts)));
    }

-- Bytes that fit are put whole, and bytes that were put whole within the output fitted.
pub puts_whole : {l vs m : List ℕ} {at r : ℕ} → Puts l at vs r m → at + length vs ≤ length l → Put l at vs r m
puts_whole {l = l} {vs = vs} {at = at} p h =
    let all : cut (length l) at vs ≡ vs = cut_whole (length l) at vs (omega arith) in
    record { next = rw all at p.next; out = rw all at p.out }

pub whole_puts : {l vs m : List ℕ} {at r : ℕ} → Put l at vs r m → at + length vs ≤ length l → Puts l at vs r m
whole_puts {l = l} {vs = vs} {at = at} p h =
    let all : cut (length l) at vs ≡ vs = cut_whole (length l) at vs (omega arith) in
    record { next = rw all p.next; out = rw all p.out }

-- No byte, one and two, put whole.
module _ (l : List ℕ) (at : ℕ) where
  pub put_none : Put l at [] at l
  put_none = record { next = sym (add-zero at); out = refl }

  pub put_one : (v : ℕ) → Put l at (v ∷ []) (at + 1) (set l at v)
  put_one v = record { next = refl; out = refl }

  pub put_two : (v w : ℕ) → Put l at (v ∷ w ∷ []) (at + 2) (set (set l at v) (at + 1) w)
  put_two v w = record { next = refl; out = rw add-one }

-- What is put whole changes no length.
pub put_length : (l m vs : List ℕ) (at r : ℕ) → Put l at vs r m → length m ≡ length l
put_length l m vs at r p = ap length p.out ∙ length-sets l at vs

-- Two pieces put whole one after the other are one piece.
pub put_put : (l m n vs ws : List ℕ) (at a b : ℕ) → Put l at vs a m → Put m a ws b n → Put l at (vs ++ ws) b n
put_put l m n vs ws at a b p q =
    record {
      next = q.next ∙ simp length-append (omega (arith, p.next));
      out = q.out ∙ (cc (p.out, p.next) ∙ sym (sets_append l at vs ws));
    }

-- What a writer shows that puts bytes at the front of an output, or at a place in it, where there is room for them.
pub puts_fits : {l vs m : List ℕ} {r : ℕ} → Puts l 0 vs r m → length vs ≤ length l → (given r ≡ fitted (length l) vs) × (m ≡ after (fitted (length l) vs) 0 vs l)
puts_fits {l = l} {vs = vs} {m = m} {r = r} p h =
    let w = puts_whole p (omega arith) in
    put_fits l vs m r (w.next ∙ zero-add (length vs)) (omega (arith, w.next)) w.out

pub puts_placed : {A : Type 0} {l vs m : List ℕ} {at r : ℕ} (a : A) → Puts l at vs r m → at + length vs ≤ length l → (given a ≡ room_from (length l) at vs a) × (m ≡ after (room_from (length l) at vs a) at vs l)
puts_placed {l = l} {vs = vs} {m = m} {at = at} a p h = put_placed l vs m at a h (puts_whole p h).out

-- What a loop that puts bytes piece by piece keeps: once the rest is put, all is.
pub record Putting (old : List ℕ) (at : ℕ) (all : List ℕ) (out : List ℕ) (next : ℕ) (rest : List ℕ) : Type 0 where
  pub kept : length out ≡ length old
  pub onward : (r : ℕ) (new : List ℕ) → Puts out next rest r new → Puts old at all r new

pub putting_start : (l : List ℕ) (at : ℕ) (all : List ℕ) → Putting l at all l at all
putting_start l at all = record { kept = refl; onward = λ r new p. p }

pub putting_turn : {l : List ℕ} {at : ℕ} {all out : List ℕ} {next : ℕ} {rest vs more out' : List ℕ} {next' : ℕ} → Putting l at all out next rest → rest ≡ vs ++ more → Puts out next vs next' out' → Putting l at all out' next' more
putting_turn g e p =
    record {
      kept = puts_length p ∙ g.kept;
      onward = λ r new q. g.onward r new (rw e (puts_puts p q));
    }

pub putting_end : {l : List ℕ} {at : ℕ} {all out : List ℕ} {next : ℕ} {rest : List ℕ} → Putting l at all out next rest → rest ≡ [] → Puts l at all next out
putting_end {out = out} {next = next} g e = g.onward next out (rw e (puts_none out next))
