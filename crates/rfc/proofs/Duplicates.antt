-- Laws of duplicates, by counting: one stands exactly where the count of its kind isn't 0, counts fall as time passes, and of one
-- message at most one new one is unexpired.
use Prim.Native.Nat.{ℕ, ◌+◌, ◌<◌, ◌≤◌}
use mathlib.Core.Path.{◌≡◌, refl, sym, ap, ◌∙◌}
use mathlib.Core.Bool.{Bool, true, false}
use mathlib.Core.List.{List, [], ◌∷◌}
use mathlib.Core.Logic.{inl, inr}
use native.Mathlib.Omega.{arith}
use lib.Dec.{eqb, ltb}
use borrow.Author.Tests.{lt-ltb, le-ltb, ltb-true, ltb-false, eqb-true, eq-eqb}
use Rattle.ground.specs.Choice.{pick, both, either}
use Rattle.ground.specs.Part.{Among}
use Rattle.ground.proofs.Choice.{on, both_true}
use Rattle.rfc.specs.Duplicates.{Arrival, Verdict, lifetime, unexpired, alike, same, stands, passes, verdict, noted, fresh_after, fresh_from, fresh, count, InTime, last_time}

-- What one message adds to a count.
bit : (b : Bool) → pick b 1 0 ≤ 1
bit true = omega arith
bit false = omega arith

-- One stands exactly where the count of those that are the same isn't 0.
counts_one : (b s : Bool) (n : ℕ) → s ≡ ltb 0 n → either b s ≡ ltb 0 (pick b 1 0 + n)
counts_one true s n e = sym (lt-ltb 0 (1 + n) (omega arith))
counts_one false s n e = let z : 0 + n ≡ n = omega arith in rw z e

pub stands_count : (m : Arrival) (es : List Arrival) → stands m es ≡ ltb 0 (count m.time (same m) es)
unfolding stands count
stands_count m [] = sym (le-ltb 0 0 (omega arith))
stands_count m (e ∷ es) = counts_one (both (unexpired m.time e) (same m e)) (stands m es) (count m.time (same m) es) (stands_count m es)

new_alone : (es : List Arrival) (m : Arrival) → stands m es ≡ false → count m.time (same m) es ≡ 0
new_alone es m e =
    let z = ltb-false 0 (count m.time (same m) es) (sym (stands_count m es) ∙ e) in
    omega arith

-- Bytes are alike exactly where they are equal.
pub alike_eq : (x y : List ℕ) → alike x y ≡ true → x ≡ y
alike_eq [] [] e = refl
alike_eq [] (b ∷ y) e = absurd (let z : ◌≡◌ {A = ℕ} 0 1 = cc in omega arith)
alike_eq (a ∷ x) [] e = absurd (let z : ◌≡◌ {A = ℕ} 0 1 = cc in omega arith)
alike_eq (a ∷ x) (b ∷ y) e =
    let h = both_true (eqb a b) (alike x y) e in
    let p = eqb-true a b h.0 in
    let q = alike_eq x y h.1 in
    cc

alike_self : (x : List ℕ) → alike x x ≡ true
alike_self [] = refl
alike_self (a ∷ x) = rw (eq-eqb a a refl, alike_self x)

-- A message is the same as itself; what is the same has its type, peer and id, and is asked for by the same test.
pub same_self : (m : Arrival) → same m m ≡ true
same_self m = rw (eq-eqb m.type m.type refl, alike_self m.peer, eq-eqb m.id m.id refl)

pub record SameAs (x m : Arrival) : Type 0 where
  pub type : m.type ≡ x.type
  pub peer : m.peer ≡ x.peer
  pub id : m.id ≡ x.id

pub same_is : (x m : Arrival) → same x m ≡ true → SameAs x m
same_is x m h =
    let a = both_true (eqb m.type x.type) (both (alike m.peer x.peer) (eqb m.id x.id)) h in
    let b = both_true (alike m.peer x.peer) (eqb m.id x.id) a.1 in
    record {
      type = eqb-true m.type x.type a.0;
      peer = alike_eq m.peer x.peer b.0;
      id = eqb-true m.id x.id b.1;
    }

same_test : (x m : Arrival) → same x m ≡ true → (e : Arrival) → same x e ≡ same m e
same_test x m h e = let i = same_is x m h in rw (i.type, i.peer, i.id)

-- Tests that agree count the same.
pub count_test : (now : ℕ) (p q : Arrival → Bool) → ((e : Arrival) → p e ≡ q e) → (es : List Arrival) → count now p es ≡ count now q es
unfolding count
count_test now p q f [] = refl
count_test now p q f (e ∷ es) = rw (f e, count_test now p q f es)

-- As time passes, counts fall.
bit_falls : (a b c : Bool) → (b ≡ true → a ≡ true) → pick (both b c) 1 0 ≤ pick (both a c) 1 0
bit_falls a true c f = rw (f refl) (omega arith)
bit_falls a false c f = omega arith

count_falls : (now later : ℕ) (p : Arrival → Bool) → now ≤ later → (es : List Arrival) → count later p es ≤ count now p es
unfolding count
count_falls now later p h [] = omega arith
count_falls now later p h (e ∷ es) =
    omega (
      arith,
      count_falls now later p h es,
      bit_falls (unexpired now e) (unexpired later e) (p e)
          (λ t. lt-ltb now (e.time + lifetime e.type) (omega (arith, ltb-true later (e.time + lifetime e.type) t))),
    )

-- One of them that is unexpired and passes the test is counted, and where any is counted there is one.
pub counted : (now : ℕ) (p : Arrival → Bool) (x : Arrival) (es : List Arrival) → Among x es → unexpired now x ≡ true → p x ≡ true → 0 < count now p es
unfolding count
counted now p x [] a u t = absurd a
counted now p x (e ∷ es) (inl i) u t =
    let v : unexpired now e ≡ true = sym (ap (unexpired now) i) ∙ u in
    let w : p e ≡ true = sym (ap p i) ∙ t in
    rw (v, w) (omega arith)
counted now p x (e ∷ es) (inr a) u t = omega (arith, counted now p x es a u t)

pub record Counted (now : ℕ) (p : Arrival → Bool) (es : List Arrival) : Type 0 where
  pub one : Arrival
  pub among : Among one es
  pub live : unexpired now one ≡ true
  pub passed : p one ≡ true

pub found : (now : ℕ) (p : Arrival → Bool) (es : List Arrival) → 0 < count now p es → Counted now p es
unfolding count
found now p [] = λ h. absurd (omega arith)
found now p (e ∷ es) =
    on (λ (n : ℕ). 0 < n + count now p es → Counted now p (e ∷ es)) (both (unexpired now e) (p e))
    (λ t _. let b = both_true (unexpired now e) (p e) t in record { one = e; among = inl refl; live = b.0; passed = b.1 })
    (λ _ h. let c = found now p es (omega arith) in record { one = c.one; among = inr c.among; live = c.live; passed = c.passed })

-- Of one message at most one is unexpired, from a time on.
pub Once : ℕ → List Arrival → Type 0
Once before es = (now : ℕ) → before ≤ now → (x : Arrival) → count now (same x) es ≤ 1

pub once_nothing : Once 0 []
unfolding Once count
once_nothing now h x = omega arith

bit_none : (a b : Bool) → b ≡ false → ◌≡◌ {A = ℕ} (pick (both a b) 1 0) 0
bit_none true b e = rw e
bit_none false b e = refl

by_bool : {A : Type 0} (b : Bool) → (b ≡ true → A) → (b ≡ false → A) → A
by_bool true f g = f refl
by_bool false f g = g refl

once_new : (before : ℕ) (es : List Arrival) (m : Arrival) → before ≤ m.time → stands m es ≡ false → Once before es → Once m.time (m ∷ es)
unfolding Once count
once_new before es m t e o now h x =
    by_bool (same x m)
    (λ y.
    omega (
      arith,
      bit (both (unexpired now m) (same x m)),
      count_falls m.time now (same x) h es,
      count_test m.time (same x) (same m) (same_test x m y) es,
      new_alone es m e,
    ))
    (λ y. omega (arith, bit_none (unexpired now m) (same x m) y, o now (omega arith) x))

once_later : (before later : ℕ) (es : List Arrival) → before ≤ later → Once before es → Once later es
unfolding Once
once_later before later es l o now h x = o now (omega arith) x

once_after : (before : ℕ) (es : List Arrival) (m : Arrival) → before ≤ m.time → Once before es → Once m.time (fresh_after es m)
unfolding verdict
once_after before es m t o =
    on (λ (v : Verdict). Once m.time (noted v m es)) (passes m) (λ _. once_later before m.time es t o)
    (λ _. on (λ (v : Verdict). Once m.time (noted v m es)) (stands m es) (λ _. once_later before m.time es t o)
    (λ e. once_new before es m t e o))

-- So it is of the new ones of every row of messages whose times never fall.
pub once_from : (before : ℕ) (es ms : List Arrival) → InTime before ms → Once before es → Once (last_time before ms) (fresh_from es ms)
once_from before es [] r o = o
once_from before es (m ∷ ms) r o = once_from m.time (fresh_after es m) ms r.1 (once_after before es m r.0 o)

pub once_fresh : (ms : List Arrival) → InTime 0 ms → (now : ℕ) → last_time 0 ms ≤ now → (x : Arrival) → count now (same x) (fresh ms) ≤ 1
unfolding Once
once_fresh ms t now h x = once_from 0 [] ms t once_nothing now h x
