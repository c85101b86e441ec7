-- The test `accepted` says what the conditions say, and the check's answer is done exactly where they hold.
use Prim.Native.Nat.{ℕ, zero, suc, ◌*◌, ◌<◌}
use mathlib.Core.Path.{◌≡◌, refl, sym}
use mathlib.Core.Bool.{Bool, true, false, not}
use mathlib.Core.List.{List, [], ◌∷◌, map}
use native.Mathlib.Omega.{arith}
use lib.Dec.{leb, ltb}
use lib.ListN.{length, get_or}
use borrow.Author.Tests.{ltb-true, lt-ltb, leb-true, le-leb, eqb-true, eq-eqb, ne_eqb}
use Rattle.ground.specs.Choice.{pick, both}
use Rattle.rfc.specs.Block.{Block, Valid, block_of}
use Rattle.ground.proofs.Choice.{by_lt, by_eq, on, both_true, true_both}
use Rattle.refusal.specs.Answer.{Answer, given, refused}
use Rattle.image.specs.Image.{fits, missing}
use Rattle.plan_checking.specs.Plan.{start, stop, over, each, below, strict, rising, inside, fetched, flagged, accepted, checking}
use Rattle.plan_checking.specs.Accepted.{Each, Rising, Flagged, Accepted, Good}

-- From a test of each block to a fact of each block, and back.
each_says : (f : Block → Bool) (P : Block → Type 0) → ((b : Block) → f b ≡ true → P b) → (bs : List Block) → each f bs ≡ true → Each P bs
each_says f P g [] t = tt
each_says f P g (b ∷ bs) t =
    let h = both_true (f b) (each f bs) t in (g b h.0, each_says f P g bs h.1)

says_each : (f : Block → Bool) (P : Block → Type 0) → ((b : Block) → P b → f b ≡ true) → (bs : List Block) → Each P bs → each f bs ≡ true
says_each f P g [] e = refl
says_each f P g (b ∷ bs) e = true_both (f b) (each f bs) (g b e.0) (says_each f P g bs e.1)

below_says : (n : ℕ) (f : ℕ → Bool) → below n f ≡ true → (u : ℕ) → u < n → f u ≡ true
below_says zero f t u h = absurd (omega arith)
below_says (suc n) f t u h =
    let b = both_true (f n) (below n f) t in
    by_lt u n (λ k. below_says n f b.1 u k) (λ k. let e : u ≡ n = omega arith in rw e b.0)

says_below : (n : ℕ) (f : ℕ → Bool) → ((u : ℕ) → u < n → f u ≡ true) → below n f ≡ true
says_below zero f g = refl
says_below (suc n) f g = true_both (f n) (below n f) (g n (omega arith)) (says_below n f (λ u h. g u (omega arith)))

-- Strict, rising, flagged, fetched.
strict_says : (b : Block) → strict b ≡ true → Valid b
strict_says b t =
    let h = both_true (leb b.num 1048575) (leb b.szx 6) t in
    record { num = leb-true b.num 1048575 h.0; szx = leb-true b.szx 6 h.1 }

says_strict : (b : Block) → Valid b → strict b ≡ true
says_strict b v = true_both (leb b.num 1048575) (leb b.szx 6) (le-leb b.num 1048575 v.num) (le-leb b.szx 6 v.szx)

rising_says : (bs : List Block) → rising bs ≡ true → Rising bs
rising_says [] t = tt
rising_says (b ∷ bs) t =
    let h = both_true (each (λ (d : Block). ltb (start b) (start d)) bs) (rising bs) t in
    (each_says (λ (d : Block). ltb (start b) (start d)) (λ (d : Block). start b < start d) (λ d e. ltb-true (start b) (start d) e) bs h.0, rising_says bs h.1)

says_rising : (bs : List Block) → Rising bs → rising bs ≡ true
says_rising [] r = refl
says_rising (b ∷ bs) r =
    true_both (each (λ (d : Block). ltb (start b) (start d)) bs) (rising bs)
    (says_each (λ (d : Block). ltb (start b) (start d)) (λ (d : Block). start b < start d) (λ d e. lt-ltb (start b) (start d) e) bs r.0) (says_rising bs r.1)

agree_says : (t more : Bool) → pick t more (not more) ≡ true → more ≡ t
agree_says true more e = e
agree_says false true e = sym e
agree_says false false e = refl

says_agree : (t more : Bool) → more ≡ t → pick t more (not more) ≡ true
says_agree true more e = e
says_agree false true e = sym e
says_agree false false e = refl

module _ (size : ℕ) (held : List ℕ) (bs : List Block) where
  fetched_says : (u : ℕ) → fetched held bs u ≡ true → over u bs ≡ pick (missing held u) 1 0
  fetched_says u t = eqb-true (over u bs) (pick (missing held u) 1 0) t

  fetched_missing : (u : ℕ) → fetched held bs u ≡ true → get_or held u 0 ≡ 0 → over u bs ≡ 1
  fetched_missing u t z = rw (eq-eqb (get_or held u 0) 0 z) at (fetched_says u t)

  fetched_held : (u : ℕ) → fetched held bs u ≡ true → (get_or held u 0 ≡ 0 → ⊥) → over u bs ≡ 0
  fetched_held u t z = rw (ne_eqb (get_or held u 0) 0 z) at (fetched_says u t)

  -- An accepted plan meets the conditions.
  pub accepted_says : accepted size held bs ≡ true → Accepted size held bs
  unfolding accepted
  accepted_says t =
      let a = both_true (each strict bs) _ t in
      let b = both_true (rising bs) _ a.1 in
      let c = both_true (each (inside held) bs) _ b.1 in
      let d = both_true (below (length held) (fetched held bs)) (each (flagged size) bs) c.1 in
      record {
        strict = each_says strict Valid strict_says bs a.0;
        rising = rising_says bs b.0;
        inside = each_says (inside held) (λ (x : Block). start x < length held) (λ x e. ltb-true (start x) (length held) e) bs c.0;
        once = λ u m. fetched_missing u (below_says (length held) (fetched held bs) d.0 u m.exists) m.zero;
        free = λ u m. fetched_held u (below_says (length held) (fetched held bs) d.0 u m.exists) m.other;
        more = each_says (flagged size) (Flagged size) (λ x e. agree_says (ltb (stop x * 16) size) x.more e) bs d.1;
      }

  -- A plan that meets them is accepted.
  pub says_accepted : Accepted size held bs → accepted size held bs ≡ true
  unfolding accepted
  says_accepted a =
      true_both (each strict bs) _ (says_each strict Valid says_strict bs a.strict)
      (true_both (rising bs) _ (says_rising bs a.rising)
      (true_both (each (inside held) bs) _ (says_each (inside held) (λ (x : Block). start x < length held) (λ x e. lt-ltb (start x) (length held) e) bs a.inside)
      (true_both (below (length held) (fetched held bs)) (each (flagged size) bs)
      (says_below (length held) (fetched held bs)
      (λ u h.
      by_eq (get_or held u 0) 0
      (λ z. rw (eq-eqb (get_or held u 0) 0 z) (eq-eqb (over u bs) 1 (a.once u (record { exists = h; zero = z }))))
      (λ z. rw (ne_eqb (get_or held u 0) 0 z) (eq-eqb (over u bs) 0 (a.free u (record { exists = h; other = z }))))))
      (says_each (flagged size) (Flagged size) (λ x e. says_agree (ltb (stop x * 16) size) x.more e) bs a.more))))

module _ (size : ℕ) (held values : List ℕ) where
  -- Done exactly where size and held list fit and the plan meets the conditions.
  pub good_done : Good size held values → checking size held values ≡ given tt
  unfolding checking
  good_done g = rw (g.image, says_accepted size held (map block_of values) g.plan) refl

  pub done_good : checking size held values ≡ given tt → Good size held values
  unfolding checking
  done_good =
      on (λ (a : Answer (Unit {0})). a ≡ given tt → Good size held values) (both (fits size held) (accepted size held (map block_of values)))
      (λ t _.
      let h = both_true (fits size held) (accepted size held (map block_of values)) t in
      record { image = h.0; plan = accepted_says size held (map block_of values) h.1 })
      (λ _ e. absurd (let z : ◌≡◌ {A = ℕ} 0 1 = cc in omega arith))

  -- Else 22.
  pub not_done : (Good size held values → ⊥) → checking size held values ≡ refused 22
  unfolding checking
  not_done n =
      on (λ (a : Answer (Unit {0})). a ≡ refused 22) (both (fits size held) (accepted size held (map block_of values)))
      (λ t.
      let h = both_true (fits size held) (accepted size held (map block_of values)) t in
      absurd (n (record { image = h.0; plan = accepted_says size held (map block_of values) h.1 }))) (λ _. refl)
