-- A plan from a unit on: what is left of an accepted plan after the blocks that end there. A block more in front is a block
-- that may be the next.
use Prim.Native.Nat.{ℕ, suc, ◌<◌, ◌≤◌}
use mathlib.Core.Path.{◌≡◌, refl, sym, ap, ◌∙◌}
use mathlib.Core.List.{List, [], ◌∷◌}
use native.Mathlib.Omega.{arith}
use lib.Pow.{pow_pos}
use lib.ListN.{length, get_or}
use borrow.Author.Tests.{lt-ltb, le-ltb, le-leb, lt-leb}
use Rattle.rfc.specs.Block.{Block, Valid}
use Rattle.ground.proofs.Choice.{by_lt, by_eq}
use Rattle.image.specs.Image.{Missing, Held, NoneMissing}
use Rattle.plan_checking.specs.Accepted.{Each, Rising, Flagged, Accepted}
use Rattle.plan_checking.specs.Plan.{start, stop, over}
use Rattle.plan_checking.specs.Steps.{Next}

-- The conditions of a plan, of the units from `at` on.
pub record From (size : ℕ) (held : List ℕ) (at : ℕ) (bs : List Block) : Type 0 where
  pub strict : Each Valid bs
  pub rising : Rising bs
  pub after : Each (λ (b : Block). at ≤ start b) bs
  pub inside : Each (λ (b : Block). start b < length held) bs
  pub once : (unit : ℕ) → at ≤ unit → Missing held unit → over unit bs ≡ 1
  pub free : (unit : ℕ) → at ≤ unit → Held held unit → over unit bs ≡ 0
  pub more : Each (Flagged size) bs

each_map : (P Q : Block → Type 0) → ((b : Block) → P b → Q b) → (bs : List Block) → Each P bs → Each Q bs
each_map P Q f [] e = tt
each_map P Q f (b ∷ bs) e = (f b e.0, each_map P Q f bs e.1)

each_all : (P : Block → Type 0) → ((b : Block) → P b) → (bs : List Block) → Each P bs
each_all P f [] = tt
each_all P f (b ∷ bs) = (f b, each_all P f bs)

-- A block has a unit.
pub starts_first : (b : Block) → start b < stop b
starts_first b = omega (arith, pow_pos b.szx)

-- A block in front counts for the units that it covers, and for no other.
over_in : (u : ℕ) (b : Block) (bs : List Block) → start b ≤ u → u < stop b → over u (b ∷ bs) ≡ suc (over u bs)
over_in u b bs l h = rw (le-leb (start b) u l, lt-ltb u (stop b) h) (omega arith)

over_before : (u : ℕ) (b : Block) (bs : List Block) → u < start b → over u (b ∷ bs) ≡ over u bs
over_before u b bs h = rw (lt-leb (start b) u h) (omega arith)

over_past : (u : ℕ) (b : Block) (bs : List Block) → stop b ≤ u → over u (b ∷ bs) ≡ over u bs
over_past u b bs h = rw (le-leb (start b) u (omega (arith, starts_first b)), le-ltb u (stop b) h) (omega arith)

-- A unit before all blocks is in none.
over_none : (u : ℕ) (bs : List Block) → Each (λ (b : Block). u < start b) bs → over u bs ≡ 0
over_none u [] e = refl
over_none u (b ∷ bs) e = over_before u b bs e.0 ∙ over_none u bs e.1

-- Blocks that start after one, and cover no unit of it that exists, start where it stops or later.
apart : (n : ℕ) (b : Block) (bs : List Block) → Each (λ (d : Block). start b < start d) bs → Each (λ (d : Block). start d < n) bs → ((u : ℕ) → start b ≤ u → u < stop b → u < n → over u bs ≡ 0) → Each (λ (d : Block). stop b ≤ start d) bs
apart n b [] l i z = tt
apart n b (d ∷ ds) l i z = (
  by_lt (start d) (stop b)
      (λ h.
      absurd
      (omega
      (arith, z (start d) (omega (arith, l.0)) h i.0, over_in (start d) d ds (omega arith) (starts_first d)))) (λ h. h),
  apart n b ds l.1 i.1
      (λ u p q r.
      by_lt u (start d) (λ h. sym (over_before u d ds h) ∙ z u p q r)
      (λ h.
      by_lt u (stop d) (λ k. absurd (omega (arith, z u p q r, over_in u d ds h k)))
      (λ k. sym (over_past u d ds k) ∙ z u p q r))),
)

module _ (size : ℕ) (held : List ℕ) (at : ℕ) (b : Block) (bs : List Block) where
  -- A block that may be the next, in front of a plan from its end on.
  pub grow : Next size held at b → From size held (stop b) bs → From size held at (b ∷ bs)
  grow n f =
      let w : start b < stop b = starts_first b in
      let before : (u : ℕ) → u < stop b → over u bs ≡ 0 =
      λ u h. over_none u bs (each_map (λ (d : Block). stop b ≤ start d) (λ (d : Block). u < start d) (λ d k. omega arith) bs f.after)
      in
      record {
        strict = (n.strict, f.strict);
        rising = (each_map (λ (d : Block). stop b ≤ start d) (λ (d : Block). start b < start d) (λ d k. omega (arith, w)) bs f.after, f.rising);
        after = (n.after, each_map (λ (d : Block). stop b ≤ start d) (λ (d : Block). at ≤ start d) (λ d k. omega (arith, w, n.after)) bs f.after);
        inside = (n.inside, f.inside);
        once = λ u l m.
            by_lt u (start b) (λ h. absurd (n.gap u l h m))
            (λ h.
            by_lt u (stop b) (λ k. over_in u b bs h k ∙ ap suc (before u k))
            (λ k. over_past u b bs k ∙ f.once u k m));
        free = λ u l m.
            by_lt u (start b) (λ h. over_before u b bs h ∙ before u (omega (arith, w)))
            (λ h.
            by_lt u (stop b) (λ k. absurd (n.whole u h k m))
            (λ k. over_past u b bs k ∙ f.free u k m));
        more = (n.more, f.more);
      }

  one_at_most : From size held at (b ∷ bs) → (u : ℕ) → at ≤ u → u < length held → over u (b ∷ bs) ≤ 1
  one_at_most f u l h =
      by_eq (get_or held u 0) 0 (λ e. omega (arith, f.once u l (record { exists = h; zero = e })))
      (λ e. omega (arith, f.free u l (record { exists = h; other = e })))

  -- The first block of a plan may be the next.
  pub first : From size held at (b ∷ bs) → Next size held at b
  first f = record {
    strict = f.strict.0;
    after = f.after.0;
    inside = f.inside.0;
    more = f.more.0;
    gap = λ u l h m.
        let none : over u (b ∷ bs) ≡ 0 = over_none u (b ∷ bs) (h, each_map (λ (d : Block). start b < start d) (λ (d : Block). u < start d) (λ d k. omega (arith, h)) bs f.rising.0) in
        omega (arith, none, f.once u l m);
    whole = λ u l h m. omega (arith, over_in u b bs l h, f.free u (omega (arith, f.after.0)) m);
  }

  -- The others are a plan from its end on.
  pub others : From size held at (b ∷ bs) → From size held (stop b) bs
  others f =
      let w : start b < stop b = starts_first b in
      record {
        strict = f.strict.1;
        rising = f.rising.1;
        after = apart (length held) b bs f.rising.0 f.inside.1
            (λ u l h k. omega (arith, over_in u b bs l h, one_at_most f u (omega (arith, f.after.0)) k));
        inside = f.inside.1;
        once = λ u l m. sym (over_past u b bs l) ∙ f.once u (omega (arith, w, f.after.0)) m;
        free = λ u l m. sym (over_past u b bs l) ∙ f.free u (omega (arith, w, f.after.0)) m;
        more = f.more.1;
      }

module _ (size : ℕ) (held : List ℕ) where
  -- The plan with no block.
  pub none : (at : ℕ) → NoneMissing held at (length held) → From size held at []
  none at n = record {
    strict = tt;
    rising = tt;
    after = tt;
    inside = tt;
    once = λ u l m. absurd (n u l m.exists m);
    free = λ u l m. refl;
    more = tt;
  }

  pub none_missing : (at : ℕ) → From size held at [] → NoneMissing held at (length held)
  none_missing at f u l h m = let z : ◌≡◌ {A = ℕ} 0 1 = f.once u l m in omega (arith, z)

  -- A plan from unit 0 on is an accepted plan.
  pub accepted : (bs : List Block) → From size held 0 bs → Accepted size held bs
  accepted bs f = record {
    strict = f.strict;
    rising = f.rising;
    inside = f.inside;
    once = λ u m. f.once u (omega arith) m;
    free = λ u m. f.free u (omega arith) m;
    more = f.more;
  }

  pub from_start : (bs : List Block) → Accepted size held bs → From size held 0 bs
  from_start bs a = record {
    strict = a.strict;
    rising = a.rising;
    after = each_all (λ (b : Block). 0 ≤ start b) (λ b. omega arith) bs;
    inside = a.inside;
    once = λ u l m. a.once u m;
    free = λ u l m. a.free u m;
    more = a.more;
  }

-- A held unit in front changes nothing.
pub pass : (size : ℕ) (held : List ℕ) (at : ℕ) (bs : List Block) → (Missing held at → ⊥) → From size held (suc at) bs → From size held at bs
pass size held at bs n f = record {
  strict = f.strict;
  rising = f.rising;
  after = each_map (λ (b : Block). suc at ≤ start b) (λ (b : Block). at ≤ start b) (λ b h. omega arith) bs f.after;
  inside = f.inside;
  once = λ u l m. by_lt at u (λ h. f.once u h m) (λ h. let e : u ≡ at = omega arith in absurd (n (rw e at m)));
  free = λ u l m.
      by_lt at u (λ h. f.free u h m)
      (λ h. over_none u bs (each_map (λ (b : Block). suc at ≤ start b) (λ (b : Block). u < start b) (λ b k. omega arith) bs f.after));
  more = f.more;
}
