-- The list that an edit makes of records in order is a splice between the lower and the higher numbers.
use Prim.Native.Nat.{ℕ, ◌+◌, ◌<◌, ◌≤◌}
use mathlib.Core.Path.{◌≡◌, refl, sym, ap, ◌∙◌}
use mathlib.Core.Bool.{false}
use mathlib.Core.List.{List, [], ◌∷◌, append-nil}
use native.Mathlib.Omega.{arith}
use borrow.Author.Tests.{lt-leb}
use Rattle.ground.proofs.Choice.{by_lt, by_eq}
use Rattle.packet.specs.Packet.{records_of}
use Rattle.packet.specs.declared.Packet.{Packet}
use Rattle.packet.specs.declared.OptionRecord.{OptionRecord}
use Rattle.judging.specs.Judge.{falling}
use Rattle.splicing.specs.Splice.{spliced}
use Rattle.editing.specs.Edit.{up_to, inserted, removed}
use Rattle.judging.specs.Span.{below}
use Rattle.editing.proofs.Records.{rises, none_up_to, inserted_first, inserted_after, removed_one, removed_not}
use Rattle.judging.proofs.Places.{Spanned, below_more, below_same}
use Rattle.judging.proofs.Order.{in_order}

-- Numbers from `before` on that do not fall: none is lower than a number up to `before`, and none is a number below it.
pub none_below : (n before : ℕ) (rs : List OptionRecord) → n ≤ before → falling before rs ≡ false → below n rs ≡ 0
none_below n before [] h e = refl
none_below n before (r ∷ rs) h e =
    let up = rises before r rs e in
    let above : n ≤ r.number = omega (arith, up.first) in
    below_same n r rs above ∙ none_below n r.number rs above up.rest

pub none_removed : (n before : ℕ) (rs : List OptionRecord) → n < before → falling before rs ≡ false → removed n rs ≡ rs
none_removed n before [] h e = refl
none_removed n before (r ∷ rs) h e =
    let up = rises before r rs e in
    let above : n < r.number = omega (arith, up.first) in
    removed_not n r rs (λ z. omega arith) ∙ ap (λ (l : List OptionRecord). r ∷ l) (none_removed n r.number rs above up.rest)

module _ (n : ℕ) (new : List OptionRecord) where
  -- New records put where they belong, once the old ones are gone, stand between the lower and the higher numbers.
  Stands : List OptionRecord → Type 0
  Stands rs = inserted n new (removed n rs) ≡ spliced (below n rs) (below (n + 1) rs) new rs

  module _ (r : OptionRecord) (rs : List OptionRecord) (e : falling r.number rs ≡ false) where
    after_lower : r.number < n → Stands rs → Stands (r ∷ rs)
    unfolding Stands
    after_lower h ih =
        ap (inserted n new) (removed_not n r rs (λ z. omega arith))
        ∙ (inserted_after n new r (removed n rs) (omega arith)
        ∙ (ap (λ (l : List OptionRecord). r ∷ l) ih
        ∙ (rw (below_more n r rs h, below_more (n + 1) r rs (omega arith)) refl)))

    after_same : r.number ≡ n → Stands rs → Stands (r ∷ rs)
    unfolding Stands
    after_same h ih =
        let zero-low : below n rs ≡ 0 = none_below n r.number rs (omega arith) e in
        ap (inserted n new) (removed_one n r rs h)
        ∙ (ih ∙ (rw (below_same n r rs (omega arith), zero-low, below_more (n + 1) r rs (omega arith)) refl))

    before_higher : n < r.number → Stands (r ∷ rs)
    unfolding Stands
    before_higher h =
        let stay : removed n rs ≡ rs = none_removed n r.number rs h e in
        let low : below n rs ≡ 0 = none_below n r.number rs (omega arith) e in
        let high : below (n + 1) rs ≡ 0 = none_below (n + 1) r.number rs (omega arith) e in
        let first : up_to n rs ≡ false = none_up_to n r.number rs h e in
        ap (inserted n new) (removed_not n r rs (λ z. omega arith) ∙ ap (λ (l : List OptionRecord). r ∷ l) stay)
        ∙ (inserted_first n new (r ∷ rs) (rw (lt-leb r.number n h) first)
        ∙ (rw (below_same n r rs (omega arith), low, below_same (n + 1) r rs (omega arith), high) refl))

  pub stands : (before : ℕ) (rs : List OptionRecord) → falling before rs ≡ false → inserted n new (removed n rs) ≡ spliced (below n rs) (below (n + 1) rs) new rs
  unfolding Stands
  stands before [] e = sym (append-nil new)
  stands before (r ∷ rs) e =
      let up = rises before r rs e in
      by_lt r.number n (λ h. after_lower r rs up.rest h (stands r.number rs up.rest))
      (λ h.
      by_eq r.number n (λ z. after_same r rs up.rest z (stands r.number rs up.rest))
      (λ z. before_higher r rs up.rest (omega (arith, z))))

  -- New records put where they belong, beside the old ones, stand before the higher numbers.
  pub stands_beside : (before : ℕ) (rs : List OptionRecord) → falling before rs ≡ false → inserted n new rs ≡ spliced (below (n + 1) rs) (below (n + 1) rs) new rs
  stands_beside before [] e = sym (append-nil new)
  stands_beside before (r ∷ rs) e =
      let up = rises before r rs e in
      by_lt r.number (n + 1)
      (λ h.
      inserted_after n new r rs (omega arith)
      ∙ (ap (λ (l : List OptionRecord). r ∷ l) (stands_beside r.number rs up.rest) ∙ (rw (below_more (n + 1) r rs h) refl)))
      (λ h.
      let above : n < r.number = omega arith in
      let high : below (n + 1) rs ≡ 0 = none_below (n + 1) r.number rs h up.rest in
      inserted_first n new (r ∷ rs) (rw (lt-leb r.number n above) (none_up_to n r.number rs above up.rest))
      ∙ (rw (below_same (n + 1) r rs h, high) refl))

-- The span of a number: setting or adding its options makes a splice there.
module _ (p : Packet) (n low high : ℕ) (s : Spanned p n low high) where
  pub set_spliced : (new : List OptionRecord) → inserted n new (removed n (records_of p)) ≡ spliced low high new (records_of p)
  set_spliced new = rw (s.lower, s.upper) (stands n new 0 (records_of p) (in_order p s.sound).rising)

  pub added_spliced : (new : List OptionRecord) → inserted n new (records_of p) ≡ spliced high high new (records_of p)
  added_spliced new = rw s.upper (stands_beside n new 0 (records_of p) (in_order p s.sound).rising)
