-- Laws of a peer that is put together, and of the tests on the way to one.
use Prim.Native.Nat.{ℕ, zero, suc, ◌+◌, ◌-◌, ◌<◌, ◌≤◌, min}
use mathlib.Core.Path.{◌≡◌, refl, sym, ap, ◌∙◌}
use mathlib.Core.Bool.{Bool, true, false, not}
use mathlib.Core.List.{List, [], ◌∷◌, ◌++◌, append_assoc, append-nil}
use native.Mathlib.Nat.{zero-add}
use native.Mathlib.Omega.{arith}
use lib.ListN.{length, get_or, take, drop, replicate, length-append, length-take, length-replicate}
use borrow.Author.Tests.{lt-ltb, le-ltb, eq-eqb, ne_eqb}
use Rattle.ground.proofs.Part.{put_front}
use Rattle.refusal.specs.Answer.{Answer, given, refused, onward, beside}
use Rattle.std.specs.Prelude.{Result, Ok, Err}
use Rattle.refusal.specs.declared.Refusal.{Refusal}
use Rattle.refusal.specs.declared.Refusal.TheVariants.{BadText}
use Rattle.placing.specs.Put.{Puts}
use Rattle.placing.proofs.Puts.{puts_puts, puts_whole}
use Rattle.uri_text.specs.Tally.{first_length}
use Rattle.peer_reading.proofs.Numbered.{rest_is}
use Rattle.peer_reading.specs.Reading.{pair_bytes, is_side, side_bytes, gap_in, whole_address, cut_address, address_in, port_in, dotted_peer, grouped_peer, peer_in, ReadsPeer}

-- An answer by another that it is, one that is a peer, and one that is none.
pub same : (a b : Answer (List ℕ)) (r : Result (List ℕ) Refusal) → a ≡ b → ReadsPeer b r → ReadsPeer a r
same a b r e h = h ∙ ap (beside (replicate 18 0)) (sym e)

pub answers : (a : Answer (List ℕ)) (x bytes : List ℕ) → a ≡ given x → bytes ≡ x → ReadsPeer a (Ok bytes)
answers a x bytes e q = ap (λ (b : List ℕ). record { answer = given tt; value = b }) q ∙ ap (beside (replicate 18 0)) (sym e)

pub refuses : (a : Answer (List ℕ)) → a ≡ refused 15 → ReadsPeer a (Err BadText)
refuses a e = ap (beside (replicate 18 0)) (sym e)

-- What a negated test says.
pub off : (b : Bool) → not b ≡ true → b ≡ false
off true e = sym e
off false e = refl

pub held : (b : Bool) → not b ≡ false → b ≡ true
held true e = refl
held false e = sym e

-- Which form a text has.
pub peer_empty : (s : List ℕ) → length s ≡ 0 → peer_in s ≡ dotted_peer s
unfolding peer_in
peer_empty [] e = refl
peer_empty (c ∷ s) e = absurd (omega arith)

pub peer_grouped : (s : List ℕ) → get_or s 0 0 ≡ 91 → peer_in s ≡ grouped_peer (drop 1 s)
unfolding peer_in
peer_grouped s e = rw (eq-eqb (get_or s 0 0) 91 e) refl

pub peer_dotted : (s : List ℕ) → (get_or s 0 0 ≡ 91 → ⊥) → peer_in s ≡ dotted_peer s
unfolding peer_in
peer_dotted s z = rw (ne_eqb (get_or s 0 0) 91 z) refl

-- The address in brackets, and its port.
module _ (s : List ℕ) (end : ℕ) (at : end ≡ 0 + first_length 93 s) where
  pub unclosed : length s ≤ end → grouped_peer s ≡ refused 15
  unfolding grouped_peer
  unclosed h = rw (le-ltb (first_length 93 s) (length s) (omega arith)) refl

  module _ (h : end < length s) where
    closed : grouped_peer s ≡ onward (port_in (drop (end + 1) s)) (λ port. onward (address_in (take end s)) (λ a. given (a ++ pair_bytes port)))
    unfolding grouped_peer
    closed = let k : end ≡ first_length 93 s = omega arith in rw (k, lt-ltb (first_length 93 s) (length s) (omega arith)) refl

    pub portless : refused 15 ≡ port_in (drop (end + 1) s) → grouped_peer s ≡ refused 15
    portless e = closed ∙ (rw (sym e) refl)

    pub ported : (port : ℕ) → given port ≡ port_in (drop (end + 1) s) → grouped_peer s ≡ onward (address_in (take end s)) (λ a. given (a ++ pair_bytes port))
    ported port e = closed ∙ (rw (sym e) refl)

-- With a port behind it.
abbrev with : ℕ → Answer (List ℕ) → Answer (List ℕ)
with port a = onward a (λ x. given (x ++ pair_bytes port))

-- An address with `::`, and one without.
module _ (t : List ℕ) (port gap : ℕ) (at : gap ≡ gap_in t) where
  pub without_gap : length t ≤ gap → with port (address_in t) ≡ with port (whole_address t)
  unfolding address_in
  without_gap h = rw (le-ltb (gap_in t) (length t) (omega arith)) refl

  pub with_gap : gap < length t → with port (address_in t) ≡ with port (cut_address (take gap t) (drop (gap + 2) t))
  unfolding address_in
  with_gap h = rw (at, lt-ltb (gap_in t) (length t) (omega arith)) refl

pub cut_rest : (gap : ℕ) (t l : List ℕ) (port : ℕ) → with port (cut_address l (drop (gap + 2) t)) ≡ with port (cut_address l (take (length t - (gap + 2)) (drop (gap + 2) t)))
cut_rest gap t l port = ap (λ (m : List ℕ). with port (cut_address l m)) (sym (rest_is t (gap + 2)))

-- What was put at the front of 18 zeros is so long, or longer than they are.
put_size : (x : List ℕ) (r : ℕ) (b : List ℕ) → Puts (replicate 18 0) 0 x r b → r ≡ min 18 (length x)
put_size x r b p = p.next ∙ (zero-add (length (take 18 x)) ∙ length-take 18 x)

pub sum_small : {x y b d : List ℕ} {i j : ℕ} → Puts (replicate 18 0) 0 x i b → Puts (replicate 18 0) 0 y j d → i + j ≤ 36
sum_small {x} {y} {b} {d} {i} {j} p q = omega (arith, put_size x i b p, put_size y j d q)

-- What fills them is all that there is.
filled : (x : List ℕ) (r : ℕ) (b : List ℕ) → Puts (replicate 18 0) 0 x r b → length x ≡ 18 → b ≡ x
filled x r b p e =
    (puts_whole p (omega arith)).out ∙ (put_front (replicate 18 0) x (omega arith) ∙ (ap (λ (n : ℕ). x ++ drop n (replicate 18 0)) e ∙ append-nil x))

module _ (t : List ℕ) (port : ℕ) where
  pub whole_none : is_side t ≡ false → with port (whole_address t) ≡ refused 15
  unfolding whole_address
  whole_none e = rw e refl

  module _ (good : is_side t ≡ true) (end : ℕ) (b : List ℕ) (p : Puts (replicate 18 0) 0 (side_bytes t) end b) where
    pub whole_other : (end ≡ 16 → ⊥) → with port (whole_address t) ≡ refused 15
    unfolding whole_address
    whole_other z = rw (good, ne_eqb (length (side_bytes t)) 16 (λ e. z (omega (arith, put_size (side_bytes t) end b p)))) refl

    pub whole_all : (r : ℕ) (new : List ℕ) → end ≡ 16 → Puts b end (pair_bytes port) r new → ReadsPeer (with port (whole_address t)) (Ok new)
    unfolding whole_address
    whole_all r new e q =
        let n : length (side_bytes t) ≡ 16 = omega (arith, put_size (side_bytes t) end b p) in
        answers (with port (whole_address t)) (side_bytes t ++ pair_bytes port) new (rw (good, eq-eqb (length (side_bytes t)) 16 n) refl)
        (filled (side_bytes t ++ pair_bytes port) r new (puts_puts p q) (omega (arith, length-append (side_bytes t) (pair_bytes port))))

take_zeros : (k n : ℕ) → k ≤ n → take {A = ℕ} k (replicate n 0) ≡ replicate k 0
take_zeros zero n h = refl
take_zeros (suc k) zero h = absurd (omega arith)
take_zeros (suc k) (suc n) h = ap (λ (l : List ℕ). 0 ∷ l) (take_zeros k n (omega arith))

module _ (l m : List ℕ) (port : ℕ) where
  pub no_left : is_side l ≡ false → with port (cut_address l m) ≡ refused 15
  unfolding cut_address
  no_left e = rw e refl

  pub no_right : is_side l ≡ true → is_side m ≡ false → with port (cut_address l m) ≡ refused 15
  unfolding cut_address
  no_right e f = rw (e, f) refl

  -- The sizes of both sides, put at the front of zeros each.
  module _ (good : is_side l ≡ true) (also : is_side m ≡ true) (behind before : ℕ) (spare b : List ℕ) (p : Puts (replicate 18 0) 0 (side_bytes m) behind spare) (q : Puts (replicate 18 0) 0 (side_bytes l) before b) where
    pub cut_long : 15 < before + behind → with port (cut_address l m) ≡ refused 15
    unfolding cut_address
    cut_long h =
        rw (good, also, lt-ltb 15 (length (side_bytes l) + length (side_bytes m)) (omega (arith, put_size (side_bytes m) behind spare p, put_size (side_bytes l) before b q))) refl

    pub cut_all : before + behind ≤ 15 → (n o r : ℕ) (b₁ b₂ new : List ℕ) → Puts b before (take (16 - (before + behind)) (replicate 16 0)) n b₁ → Puts b₁ n (side_bytes m) o b₂
        → Puts b₂ o (pair_bytes port) r new → ReadsPeer (with port (cut_address l m)) (Ok new)
    unfolding cut_address
    cut_all h n o r b₁ b₂ new u v w =
        let x : List ℕ = side_bytes l in
        let y : List ℕ = side_bytes m in
        let i : behind ≡ length y = omega (arith, put_size y behind spare p) in
        let j : before ≡ length x = omega (arith, put_size x before b q) in
        let k : ℕ = 16 - (length x + length y) in
        let z : List ℕ = replicate k 0 in
        let f : take (16 - (before + behind)) (replicate 16 0) ≡ z =
        take_zeros (16 - (before + behind)) 16 (omega arith) ∙ ap (λ (c : ℕ). replicate c 0) (let c : 16 - (before + behind) ≡ k = omega arith in c) in
        let all : Puts (replicate 18 0) 0 (((x ++ z) ++ y) ++ pair_bytes port) r new = puts_puts (puts_puts (puts_puts q (rw f at u)) v) w in
        let g : ((x ++ z) ++ y) ++ pair_bytes port ≡ (x ++ (z ++ y)) ++ pair_bytes port = ap (λ (c : List ℕ). c ++ pair_bytes port) (append_assoc x z y) in
        let e : length (((x ++ z) ++ y) ++ pair_bytes port) ≡ 18 =
        omega (arith, length-append ((x ++ z) ++ y) (pair_bytes port), length-append (x ++ z) y, length-append x z, length-replicate {A = ℕ} k 0) in
        answers (with port (cut_address l m)) ((x ++ (z ++ y)) ++ pair_bytes port) new
        (rw (good, also, le-ltb 15 (length x + length y) (omega arith)) refl)
        (filled (((x ++ z) ++ y) ++ pair_bytes port) r new all e ∙ g)
