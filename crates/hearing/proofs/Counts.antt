-- Counting what is unexpired in a table: what each place adds, that no place is free exactly where all are counted, and that one that
-- takes the lowest free place is counted besides the others.
use Prim.Native.Nat.{ℕ, zero, suc, ◌+◌, ◌<◌, ◌≤◌}
use mathlib.Core.Path.{◌≡◌, refl, sym, ◌∙◌}
use mathlib.Core.Bool.{Bool, true, false}
use mathlib.Core.List.{List, [], ◌∷◌}
use mathlib.Core.Logic.{◌⊎◌, inl, inr, ⊎_elim}
use native.Mathlib.Omega.{arith}
use lib.Dec.{ltb}
use lib.ListN.{length, set}
use borrow.Author.Tests.{lt-ltb, le-ltb, ltb-true, ltb-false, not-true, not-false}
use Rattle.ground.specs.Choice.{pick, both}
use Rattle.ground.specs.Part.{Among}
use Rattle.ground.proofs.Choice.{on, by_lt}
use Rattle.rfc.specs.Duplicates.{Arrival, lifetime, unexpired, count, any}
use Rattle.hearing.specs.Table.{Place, unused, holds, entries, free, lowest}

-- What a place adds to a count.
abbrev pub weigh : ℕ → (Arrival → Bool) → Place → ℕ
weigh now p unused = 0
weigh now p (holds e) = pick (both (unexpired now e) (p e)) 1 0

count_place : (now : ℕ) (p : Arrival → Bool) (q : Place) (qs : List Place) → count now p (entries (q ∷ qs)) ≡ weigh now p q + count now p (entries qs)
unfolding count
count_place now p unused qs = omega arith
count_place now p (holds e) qs = refl

weigh_most : (now : ℕ) (p : Arrival → Bool) (q : Place) → weigh now p q ≤ 1
weigh_most now p unused = omega arith
weigh_most now p (holds e) = on (λ (n : ℕ). n ≤ 1) (both (unexpired now e) (p e)) (λ _. omega arith) (λ _. omega arith)

-- A place that is free once is free from then on, and adds nothing; one that isn't adds one.
free_weighs : (now later : ℕ) (p : Arrival → Bool) (q : Place) → now ≤ later → free now q ≡ true → weigh later p q ≡ 0
free_weighs now later p unused h f = refl
free_weighs now later p (holds e) h f =
    let k : e.time + lifetime e.type ≤ now = ltb-false now (e.time + lifetime e.type) (not-true (unexpired now e) f) in
    rw (le-ltb later (e.time + lifetime e.type) (omega arith))

taken_weighs : (now : ℕ) (q : Place) → free now q ≡ false → weigh now any q ≡ 1
taken_weighs now unused f = absurd (let k : ◌≡◌ {A = ℕ} 0 1 = cc in omega arith)
taken_weighs now (holds e) f = rw (not-false (unexpired now e) f)

-- A table counts at most as many as it has places.
count_most : (now : ℕ) (p : Arrival → Bool) (qs : List Place) → count now p (entries qs) ≤ length qs
unfolding count
count_most now p [] = omega arith
count_most now p (q ∷ qs) = omega (arith, count_place now p q qs, weigh_most now p q, count_most now p qs)

-- No place is free exactly where all are counted.
pub lowest_full : (now : ℕ) (qs : List Place) → ltb (lowest now qs) (length qs) ≡ ltb (count now any (entries qs)) (length qs)
unfolding lowest count
lowest_full now [] = refl
lowest_full now (q ∷ qs) =
    on (λ (k : ℕ). ltb k (suc (length qs)) ≡ ltb (count now any (entries (q ∷ qs))) (suc (length qs))) (free now q)
    (λ f.
    let few : count now any (entries (q ∷ qs)) < suc (length qs) = omega (arith, count_place now any q qs, free_weighs now now any q (omega arith) f, count_most now any qs) in
    lt-ltb 0 (suc (length qs)) (omega arith) ∙ sym (lt-ltb (count now any (entries (q ∷ qs))) (suc (length qs)) few))
    (λ f. rw (count_place now any q qs, taken_weighs now q f) (
    by_lt (lowest now qs) (length qs)
    (λ h.
    let g : count now any (entries qs) < length qs = ltb-true _ _ (sym (lowest_full now qs) ∙ lt-ltb (lowest now qs) (length qs) h) in
    lt-ltb (suc (lowest now qs)) (suc (length qs)) (omega arith) ∙ sym (lt-ltb (1 + count now any (entries qs)) (suc (length qs)) (omega arith)))
    (λ h.
    let g : length qs ≤ count now any (entries qs) = ltb-false _ _ (sym (lowest_full now qs) ∙ le-ltb (lowest now qs) (length qs) h) in
    le-ltb (suc (lowest now qs)) (suc (length qs)) (omega arith) ∙ sym (le-ltb (1 + count now any (entries qs)) (suc (length qs)) (omega arith)))))

-- One that takes the lowest free place is counted, from then on, besides the others.
pub count_taken : (now later : ℕ) (p : Arrival → Bool) (m : Arrival) (qs : List Place) → now ≤ later → lowest now qs < length qs → count later p (entries (set qs (lowest now qs) (holds m))) ≡ weigh later p (holds m) + count later p (entries qs)
unfolding lowest
count_taken now later p m [] h = λ l. absurd (omega arith)
count_taken now later p m (q ∷ qs) h =
    on (λ (k : ℕ). k < suc (length qs) → count later p (entries (set (q ∷ qs) k (holds m))) ≡ weigh later p (holds m) + count later p (entries (q ∷ qs))) (free now q)
    (λ f l. omega (arith, count_place later p q qs, free_weighs now later p q h f, count_place later p (holds m) qs))
    (λ f l.
    let g = count_taken now later p m qs h (omega arith) in
    omega (arith, g, count_place later p q qs, count_place later p q (set qs (lowest now qs) (holds m))))

-- The entries are then that one and such as were there.
pub among_set : (e m : Arrival) (qs : List Place) (i : ℕ) → Among e (entries (set qs i (holds m))) → (e ≡ m) ⊎ Among e (entries qs)
among_set e m [] i a = absurd a
among_set e m (unused ∷ qs) zero a = a
among_set e m (holds q ∷ qs) zero (inl h) = inl h
among_set e m (holds q ∷ qs) zero (inr a) = inr (inr a)
among_set e m (unused ∷ qs) (suc i) a = among_set e m qs i a
among_set e m (holds q ∷ qs) (suc i) (inl h) = inr (inl h)
among_set e m (holds q ∷ qs) (suc i) (inr a) = ⊎_elim (λ h. inl h) (λ b. inr (inr b)) (among_set e m qs i a)
