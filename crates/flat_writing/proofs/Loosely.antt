-- Laws of bytes put loosely: what was put too much, one piece after another, and that nothing is loose at the end.
use Prim.Native.Nat.{ℕ, ◌+◌, ◌-◌, ◌≤◌}
use mathlib.Core.Path.{◌≡◌, refl, sym, ap, subst, ◌∙◌}
use mathlib.Core.List.{List, [], ◌++◌, append-nil}
use native.Mathlib.Omega.{arith}
use lib.ListN.{length, take, drop, length-append, take-append-drop}
use lib.Seq.{sets, sets-eq, length-sets, length-take-le, take_at, drop-drop}
use Rattle.ground.proofs.Part.{sets_append, part_before, part_after}
use Rattle.placing.specs.Put.{Put}
use Rattle.placing.proofs.Puts.{put_length}
use Rattle.flat_writing.specs.Loosely.{Like, Loosely}

pub like_same : (low high : ℕ) (xs : List ℕ) → Like low high xs xs
like_same low high xs = record { front = refl; back = refl }

pub like_like : (low high : ℕ) (xs ys zs : List ℕ) → Like low high xs ys → Like low high ys zs → Like low high xs zs
like_like low high xs ys zs a b = record { front = a.front ∙ b.front; back = a.back ∙ b.back }

-- Where nothing lies between the two places, nothing differs.
pub like_end : (end : ℕ) (xs ys : List ℕ) → Like end end xs ys → xs ≡ ys
like_end end xs ys l = sym (take-append-drop end xs) ∙ ((λ i. l.front i ++ l.back i) ∙ take-append-drop end ys)

-- The first bytes of an output, up to where some were put.
front_put : (l : List ℕ) (at : ℕ) (vs : List ℕ) → at + length vs ≤ length l → take (at + length vs) (sets l at vs) ≡ take at l ++ vs
front_put l at vs h =
    ap (take (at + length vs)) (sets-eq vs l at h)
    ∙ take_at (take at l ++ vs) (drop (at + length vs) l) (at + length vs) (simp length-append (omega (arith, length-take-le at l (omega arith))))

-- Two outputs that are alike up to a place: bytes put there in both, and in one of them more.
pub like_more : (xs ys : List ℕ) (at : ℕ) (vs ws : List ℕ) (end : ℕ) → Like at end xs ys → at + length (vs ++ ws) ≤ end → end ≤ length xs → length xs ≡ length ys
    → Like (at + length vs) end (sets xs at (vs ++ ws)) (sets ys at vs)
like_more xs ys at vs ws end l h k e =
    let n = length-append vs ws in
    let r = at + length vs in
    record {
      front =
          ap (take r) (sets_append xs at vs ws)
          ∙ (part_before ws (sets xs at vs) r 0 r (omega arith)
          ∙ (front_put xs at vs (omega (arith, n))
          ∙ (ap (λ (f : List ℕ). f ++ vs) l.front ∙ sym (front_put ys at vs (omega (arith, n))))));
      back = part_after (vs ++ ws) xs at end h ∙ (l.back ∙ sym (part_after vs ys at end (omega (arith, n))));
    }

-- The same bytes put in both.
pub like_put : (xs ys : List ℕ) (at : ℕ) (vs : List ℕ) (end : ℕ) → Like at end xs ys → at + length vs ≤ end → end ≤ length xs → length xs ≡ length ys
    → Like (at + length vs) end (sets xs at vs) (sets ys at vs)
like_put xs ys at vs end l h k e =
    subst (λ (x : List ℕ). Like (at + length vs) end (sets xs at x) (sets ys at vs)) (append-nil vs)
    (like_more xs ys at vs [] end l (simp append-nil (omega arith)) k e)

module _ (old : List ℕ) (at : ℕ) (end : ℕ) (k : end ≤ length old) where
  -- Bytes of which only the first count.
  pub loosely_more : (vs ws new : List ℕ) (q : ℕ) → Put old at (vs ++ ws) q new → at + length (vs ++ ws) ≤ end → Loosely old at vs end (at + length vs) new
  loosely_more vs ws new q p h =
      record {
        next = refl;
        like = rw p.out (like_more old old at vs ws end (like_same at end old) h k refl);
        kept = put_length _ _ _ _ _ p;
      }

  -- Bytes that all count.
  pub loosely_put : (vs new : List ℕ) (r : ℕ) → Put old at vs r new → r ≤ end → Loosely old at vs end r new
  loosely_put vs new r p h =
      record {
        next = p.next;
        like = rw (p.out, p.next) (like_put old old at vs end (like_same at end old) (omega (arith, p.next)) k refl);
        kept = put_length _ _ _ _ _ p;
      }

  -- One piece after the other.
  pub loosely_then : (vs ws mid new : List ℕ) (b r : ℕ) → Loosely old at vs end b mid → Loosely mid b ws end r new → r ≤ end → Loosely old at (vs ++ ws) end r new
  loosely_then vs ws mid new b r p q h =
      let same : length mid ≡ length (sets old at vs) = p.kept ∙ sym (length-sets old at vs) in
      let both : Like (b + length ws) end (sets mid b ws) (sets (sets old at vs) b ws) = like_put mid (sets old at vs) b ws end p.like (omega (arith, q.next)) (omega (arith, p.kept)) same in
      record {
        next = q.next ∙ (ap (λ (n : ℕ). n + length ws) p.next ∙ omega (arith, length-append vs ws));
        like = like_like r end new (sets mid b ws) _ q.like (rw (sets_append old at vs ws, sym p.next, q.next) both);
        kept = q.kept ∙ p.kept;
      }

-- A later end leaves more open.
pub loosely_wider : (old : List ℕ) (at : ℕ) (vs : List ℕ) (end far r : ℕ) (new : List ℕ) → end ≤ far → Loosely old at vs end r new → Loosely old at vs far r new
loosely_wider old at vs end far r new h p =
    let e : end + (far - end) ≡ far = omega arith in
    let later : (l : List ℕ) → drop far l ≡ drop (far - end) (drop end l) = λ l. sym (drop-drop (far - end) end l ∙ ap (λ (n : ℕ). drop n l) e) in
    record {
      next = p.next;
      like = record { front = p.like.front; back = later new ∙ (ap (drop (far - end)) p.like.back ∙ sym (later (sets old at vs))) };
      kept = p.kept;
    }
