-- The largest block that may start at a unit: found by doubling, since a block that may start there has a half that may.
use Prim.Native.Nat.{ℕ, zero, suc, ◌+◌, ◌*◌, ◌%◌, ◌^◌, ◌<◌, ◌≤◌}
use mathlib.Core.Path.{◌≡◌, refl, sym, ap, ◌∙◌}
use mathlib.Core.Bool.{true}
use mathlib.Core.List.{List}
use native.Mathlib.Numerals.{add-one}
use native.Mathlib.Nat.{two-pow-succ, mod-one, zero-mod}
use native.Mathlib.Omega.{arith}
use lib.Dec.{eqb, lit≤}
use lib.Pow.{pow_mono, mod-mod-pow}
use lib.ListN.{get_or, drop}
use borrow.Author.Tests.{eq-eqb, eqb-true}
use Rattle.ground.specs.Part.{part}
use Rattle.ground.proofs.Choice.{on, by_lt, both_true}
use Rattle.planning.specs.Planner.{may_start, largest_up_to, Largest}
use Rattle.image.specs.Image.{alike, NoneHeld}
use Rattle.image.proofs.Spans.{missing_so, so_missing}
use Rattle.plan_checking.specs.Steps.{Width}
use Rattle.plan_checking.proofs.Tests.{clash}

module _ (held : List ℕ) where
  -- A block of 2 ^ exponent units may start at a unit.
  pub record Open (unit exponent : ℕ) : Type 0 where
    pub divides : unit % 2 ^ exponent ≡ 0
    pub whole : NoneHeld held unit (unit + 2 ^ exponent)

  -- The definition's test says so.
  may_open : (unit e : ℕ) → may_start unit (drop unit held) e ≡ true → Open unit e
  unfolding may_start
  may_open unit e t =
      let b = both_true (eqb (unit % 2 ^ e) 0) (alike true (part held unit (2 ^ e))) t in
      record { divides = eqb-true (unit % 2 ^ e) 0 b.0; whole = missing_so held unit (2 ^ e) b.1 }

  open_may : (unit e : ℕ) → Open unit e → may_start unit (drop unit held) e ≡ true
  unfolding may_start
  open_may unit e o = rw (eq-eqb (unit % 2 ^ e) 0 o.divides) (so_missing held unit (2 ^ e) o.whole)

  -- Of an open block the first half is open, and so every smaller one.
  half : (unit e : ℕ) → Open unit (suc e) → Open unit e
  half unit e o = record {
    divides = sym (mod-mod-pow unit 1 e) ∙ ap (λ (n : ℕ). n % 2 ^ e) (ap (λ (k : ℕ). unit % 2 ^ k) (omega arith) ∙ o.divides) ∙ zero-mod (2 ^ e);
    whole = λ u l h. o.whole u l (omega (arith, two-pow-succ e));
  }

  down : (unit e k : ℕ) → e ≤ k → Open unit k → Open unit e
  down unit e zero l o = let z : e ≡ 0 = omega arith in rw z o
  down unit e (suc k) l o =
      by_lt e (suc k) (λ h. down unit e k (omega arith) (half unit k o)) (λ h. let z : e ≡ suc k = omega arith in rw z o)

  -- An open exponent whose double isn't open is the largest.
  pub largest_is : (unit k e : ℕ) → e ≤ k → Open unit e → (e < k → Open unit (suc e) → ⊥) → largest_up_to k unit (drop unit held) ≡ e
  unfolding largest_up_to
  largest_is unit zero e l o n = omega arith
  largest_is unit (suc k) e l o n =
      on (λ (m : ℕ). m ≡ e) (may_start unit (drop unit held) (suc k))
      (λ t.
      by_lt e (suc k)
      (λ h. absurd (n h (down unit (suc e) (suc k) h (may_open unit (suc k) t)))) (λ h. omega arith))
      (λ t.
      by_lt e (suc k) (λ h. largest_is unit k e (omega arith) o (λ j. n (omega arith)))
      (λ h. let z : suc k ≡ e = omega arith in absurd (clash (open_may unit (suc k) (rw z o)) t)))

  -- The largest is open, and within its bound.
  pub largest_open : (unit k : ℕ) → Open unit 0 → Open unit (largest_up_to k unit (drop unit held))
  unfolding largest_up_to
  largest_open unit zero o = o
  largest_open unit (suc k) o =
      on (Open unit) (may_start unit (drop unit held) (suc k)) (λ t. may_open unit (suc k) t) (λ t. largest_open unit k o)

  pub largest_bound : (unit k : ℕ) → largest_up_to k unit (drop unit held) ≤ k
  unfolding largest_up_to
  largest_bound unit zero = lit≤ tt
  largest_bound unit (suc k) =
      on (λ (m : ℕ). m ≤ suc k) (may_start unit (drop unit held) (suc k)) (λ _. omega arith)
      (λ _. omega (arith, largest_bound unit k))

  -- At a missing unit a block of one unit is open.
  pub one_open : (unit : ℕ) → get_or held unit 0 ≡ 0 → Open unit 0
  one_open unit z = record {
    divides = mod-one unit;
    whole = λ u l h m. let e : u ≡ unit = omega arith in m.other (rw e z);
  }

  -- What the loop knows: the exponent so far is open, and its width.
  pub record Grown (unit e width : ℕ) : Type 0 where
    pub small : e ≤ 6
    pub wide : Width e width
    pub fits : Open unit e

  pub grown_one : (unit : ℕ) → get_or held unit 0 ≡ 0 → Grown unit 0 1
  grown_one unit z = record { small = lit≤ tt; wide = record { is = refl; least = lit≤ tt; most = lit≤ tt }; fits = one_open unit z }

  module _ (unit e w : ℕ) (g : Grown unit e w) where
    pub full : 6 ≤ e → Largest held unit 6 w
    full h =
        let six : e ≡ 6 = omega (arith, g.small) in
        let is : Largest held unit e w = record { is = sym (largest_is unit 6 e g.small g.fits (λ j o. omega arith)); wide = g.wide } in
        rw six at is

    module _ (h : e < 6) where
      double : w * 2 ≡ 2 ^ suc e
      double = omega (arith, g.wide.is, two-pow-succ e)

      pub grown_fits : w ≤ 32
      grown_fits = let m : 2 ^ e ≤ 2 ^ 5 = pow_mono {i = e} {j = 5} (omega arith) in omega (arith, m, g.wide.is)

      -- The double is out of line, or a unit of its second half is held: the exponent is the largest.
      pub not_aligned : (unit % (w * 2) ≡ 0 → ⊥) → Largest held unit e w
      not_aligned n = record { is = sym (largest_is unit 6 e g.small g.fits (λ j o. n (rw double o.divides))); wide = g.wide }

      pub not_missing : (NoneHeld held (unit + w) (unit + w * 2) → ⊥) → Largest held unit e w
      not_missing n = record {
        is = sym (largest_is unit 6 e g.small g.fits (λ j o. n (λ u l k m. o.whole u (omega arith) (omega (arith, double)) m)));
        wide = g.wide;
      }

      pub grown_more : unit % (w * 2) ≡ 0 → NoneHeld held (unit + w) (unit + w * 2) → Grown unit (e + 1) (w * 2)
      grown_more d n = record {
        small = omega arith;
        wide = record { is = rw add-one double; least = omega (arith, g.wide.least); most = omega (arith, grown_fits) };
        fits = rw add-one (record {
          divides = rw double at d;
          whole = λ u l k m.
              by_lt u (unit + w) (λ j. g.fits.whole u l (omega (arith, g.wide.is)) m)
              (λ j. n u j (omega (arith, double)) m);
        });
      }
