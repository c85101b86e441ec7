-- Where the records of a number stand: the walk that counts those of lower numbers.
use Prim.Native.Nat.{ℕ, suc, ◌+◌, ◌<◌, ◌≤◌}
use mathlib.Core.Path.{◌≡◌, refl, ap}
use mathlib.Core.Bool.{Bool, true, false}
use mathlib.Core.List.{List, ◌∷◌}
use native.Mathlib.Omega.{arith}
use lib.ListN.{length, drop, drop_of_length-le}
use lib.Dec.{ltb}
use borrow.Author.Tests.{lt-ltb, le-ltb}
use Rattle.ground.specs.Choice.{pick}
use Rattle.ground.proofs.Choice.{on_lt}
use Rattle.packet.specs.Packet.{records_of}
use Rattle.packet.specs.declared.Packet.{Packet}
use Rattle.packet.specs.declared.OptionRecord.{OptionRecord}
use Rattle.judging.specs.Judge.{misordered}
use Rattle.judging.specs.Span.{below, span_in}
use Rattle.std.specs.Prelude.{Result, Ok, Err}
use Rattle.refusal.specs.declared.Refusal.{Refusal}
use Rattle.refusal.specs.declared.Refusal.TheVariants.{BadRecord}
use Rattle.judging.specs.declared.Span.{Span}
use Rattle.judging.proofs.Order.{Ordered}

module _ (n : ℕ) (r : OptionRecord) (rs : List OptionRecord) where
  pub below_more : r.number < n → below n (r ∷ rs) ≡ suc (below n rs)
  below_more h = rw (lt-ltb r.number n h) refl

  pub below_same : n ≤ r.number → below n (r ∷ rs) ≡ below n rs
  below_same h = rw (le-ltb r.number n h) refl

-- Before the record at `i`: what is counted and what is left to count are all of a lower number than `n`.
pub record Counts (rs : List OptionRecord) (n counted i : ℕ) : Type 0 where
  pub few : counted ≤ i
  pub all : below n rs ≡ counted + below n (drop i rs)

pub counts_none : (rs : List OptionRecord) (n : ℕ) → Counts rs n 0 0
counts_none rs n = record { few = omega arith; all = omega arith }

module _ (rs : List OptionRecord) (n counted i : ℕ) (w : Counts rs n counted i) where
  pub counts_all : length rs ≤ i → counted ≡ below n rs
  counts_all h = omega (arith, w.all, ap (below n) (drop_of_length-le rs h))

  pub counts_next : (x : OptionRecord) → drop i rs ≡ x ∷ drop (i + 1) rs → Counts rs n (counted + pick (ltb x.number n) 1 0) (i + 1)
  counts_next x e =
      on_lt (λ (more : ℕ). Counts rs n (counted + more) (i + 1)) x.number n
      (λ h. record { few = omega (arith, w.few); all = omega (arith, w.all, ap (below n) e, below_more n x (drop (i + 1) rs) h) })
      (λ h. record { few = omega (arith, w.few); all = omega (arith, w.all, ap (below n) e, below_same n x (drop (i + 1) rs) h) })

-- The walk at the record `i`: the order, and the two counts.
pub record Spanning (rs : List OptionRecord) (n low high i before : ℕ) : Type 0 where
  pub ordered : Ordered rs i before
  pub lows : Counts rs n low i
  pub highs : Counts rs (n + 1) high i

-- What the walk answers of a packet.
module _ (p : Packet) (n : ℕ) where
  pub spanned_not : misordered p ≡ true → Err BadRecord ≡ span_in p n
  spanned_not e = rw e refl

  pub spanned : misordered p ≡ false → (low high : ℕ) → low ≡ below n (records_of p) → high ≡ below (n + 1) (records_of p)
      → Ok (record { low = low; high = high }) ≡ span_in p n
  spanned e low high l h = rw (e, l, h) refl

-- What the answer says of the packet.
pub record Spanned (p : Packet) (n low high : ℕ) : Type 0 where
  pub sound : misordered p ≡ false
  pub lower : low ≡ below n (records_of p)
  pub upper : high ≡ below (n + 1) (records_of p)

module _ (p : Packet) (n : ℕ) where
  pub from_misordered : (k : Refusal) → Err k ≡ span_in p n → misordered p ≡ true
  from_misordered k = go (misordered p)
    where
      go : (t : Bool) → ◌≡◌ {A = Result Span Refusal} (Err k) (pick t (Err BadRecord) (Ok (record { low = below n (records_of p); high = below (n + 1) (records_of p) }))) → t ≡ true
      go true e = refl
      go false e = cc

  pub from_between : (s : Span) → Ok s ≡ span_in p n → Spanned p n s.low s.high
  from_between s = go (misordered p) refl
    where
      go : (t : Bool) → misordered p ≡ t → ◌≡◌ {A = Result Span Refusal} (Ok s) (pick t (Err BadRecord) (Ok (record { low = below n (records_of p); high = below (n + 1) (records_of p) }))) → Spanned p n s.low s.high
      go true m e = absurd (let z : ◌≡◌ {A = ℕ} 0 1 = cc in omega arith)
      go false m e = record { sound = m; lower = cc; upper = cc }
