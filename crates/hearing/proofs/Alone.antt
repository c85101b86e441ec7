-- Each unexpired new one stands in the table, and in one place alone.
use Prim.Native.Nat.{ℕ, ◌<◌, ◌≤◌}
use mathlib.Core.Path.{◌≡◌, refl, sym}
use mathlib.Core.Bool.{Bool, true}
use mathlib.Core.List.{List}
use native.Mathlib.Omega.{arith}
use lib.Dec.{eqb}
use borrow.Author.Tests.{eqb-true, eq-eqb}
use Rattle.ground.specs.Choice.{both}
use Rattle.ground.specs.Part.{Among}
use Rattle.ground.proofs.Choice.{both_true}
use Rattle.rfc.specs.Duplicates.{Arrival, unexpired, same, count, fresh, InTime, last_time}
use Rattle.rfc.proofs.Duplicates.{same_is, same_self, counted, found, once_fresh}
use Rattle.hearing.specs.Table.{entries}
use Rattle.hearing.specs.Bytes.{places}
use Rattle.hearing.specs.Told.{Holds}

-- The same message, and of the same time.
itself : Arrival → Arrival → Bool
itself x e = both (same x e) (eqb e.time x.time)

itself_is : (x e : Arrival) → itself x e ≡ true → x ≡ e
unfolding itself
itself_is x e h =
    let a = both_true (same x e) (eqb e.time x.time) h in
    let s = same_is x e a.0 in
    let t = eqb-true e.time x.time a.1 in
    λ k. record { time = sym t k; type = sym s.type k; peer = sym s.peer k; id = sym s.id k }

itself_self : (x : Arrival) → itself x x ≡ true
unfolding itself
itself_self x = rw (same_self x, eq-eqb x.time x.time refl)

-- A new one that is unexpired is among the entries.
pub standing : (before : ℕ) (table : List ℕ) (fresh : List Arrival) → Holds before table fresh → (now : ℕ) → before ≤ now → (x : Arrival) → Among x fresh → unexpired now x ≡ true → Among x (entries (places table))
standing before table fresh k now h x a u =
    let some : 0 < count now (itself x) (entries (places table)) = rw (k.counts now h (itself x)) (counted now (itself x) x fresh a u (itself_self x)) in
    let f = found now (itself x) (entries (places table)) some in
    rw (itself_is x f.one f.passed) f.among

-- Of its type, peer and id it is the only one that is unexpired.
pub alone : (table : List ℕ) (ms : List Arrival) → InTime 0 ms → Holds (last_time 0 ms) table (fresh ms) → (now : ℕ) → last_time 0 ms ≤ now → (x : Arrival) → Among x (fresh ms) → unexpired now x ≡ true → count now (same x) (entries (places table)) ≡ 1
alone table ms t k now h x a u =
    rw (k.counts now h (same x)) (omega (arith, counted now (same x) x (fresh ms) a u (same_self x), once_fresh ms t now h x))
