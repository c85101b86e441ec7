-- Laws of single characters that the code's arms go by, most by computing a test for each.
use Prim.Native.Nat.{ℕ, suc, ◌+◌, ◌-◌, ◌<◌, ◌≤◌}
use mathlib.Core.Path.{◌≡◌, refl, sym}
use mathlib.Core.Bool.{Bool, true, false, not}
use mathlib.Core.List.{List, [], ◌∷◌}
use lib.Dec.{T, eqb, eqb→eq}
use borrow.Author.Tests.{lt-ltb, ne_eqb}
use Rattle.ground.specs.Choice.{pick, either}
use Rattle.ground.specs.Table.{listed}
use Rattle.rfc.specs.Uri.{segment, query, literal, pchar}
use Rattle.ground.proofs.Choice.{on_lt}
use Rattle.rfc.specs.Percent.{hex_value}
use Rattle.std.specs.Prelude.{Option, Some, None, Err}
use Rattle.std.specs.Option.{ok_or}
use Rattle.percent.specs.Step.{digit_read}
use Rattle.rfc.proofs.Uri.{all_below, ranged, is_true}

-- The single characters of a segment, which stand in no run of literal ones.
abbrev pub singles : List ℕ
singles = 0x21 ∷ 0x24 ∷ 0x3D ∷ 0x5F ∷ 0x7E ∷ []

pub literal_run : (low high : ℕ) → T (all_below (λ k. literal segment (low + k)) (suc high - low)) → (b : ℕ) → low ≤ b → b ≤ high → true ≡ literal segment b
literal_run low high t b l h = sym (is_true (literal segment b) (ranged (literal segment) low high t b l h))

no_single : (b : ℕ) → T (either (listed b singles) (not (literal segment b)))
    → (b ≡ 0x21 → ⊥) → (b ≡ 0x24 → ⊥) → (b ≡ 0x3D → ⊥) → (b ≡ 0x5F → ⊥) → (b ≡ 0x7E → ⊥) → false ≡ literal segment b
no_single b t p q r s u =
    let v : T (not (literal segment b)) = rw (ne_eqb b 0x21 p, ne_eqb b 0x24 q, ne_eqb b 0x3D r, ne_eqb b 0x5F s, ne_eqb b 0x7E u) at t in
    negated (literal segment b) v
  where
    negated : (t : Bool) → T (not t) → false ≡ t
    negated true x = absurd x
    negated false x = refl

pub other_run : (low high : ℕ) → T (all_below (λ k. either (listed (low + k) singles) (not (literal segment (low + k)))) (suc high - low)) → (b : ℕ) → low ≤ b → b ≤ high
    → (b ≡ 0x21 → ⊥) → (b ≡ 0x24 → ⊥) → (b ≡ 0x3D → ⊥) → (b ≡ 0x5F → ⊥) → (b ≡ 0x7E → ⊥) → false ≡ literal segment b
other_run low high t b l h = no_single b (ranged (λ b. either (listed b singles) (not (literal segment b))) low high t b l h)

pub hex_run : (low high n : ℕ) → T (all_below (λ k. eqb (low + k - n) (hex_value (low + k))) (suc high - low)) → (b : ℕ) → low ≤ b → b ≤ high → b - n ≡ hex_value b
hex_run low high n t b l h = eqb→eq (b - n) (hex_value b) (ranged (λ b. eqb (b - n) (hex_value b)) low high t b l h)

pub no_hex_run : (low high : ℕ) → T (all_below (λ k. eqb 16 (hex_value (low + k))) (suc high - low)) → (b : ℕ) → low ≤ b → b ≤ high → 16 ≡ hex_value b
no_hex_run low high t b l h = eqb→eq 16 (hex_value b) (ranged (λ b. eqb 16 (hex_value b)) low high t b l h)

-- What is read of a digit, and of what is none.
pub some_digit : {d n : ℕ} → d ≡ n → d < 16 → Some d ≡ digit_read n
some_digit {d} e h = rw (sym e, lt-ltb d 16 h) refl

pub no_digit : {n : ℕ} → 16 ≡ n → None ≡ digit_read n
no_digit e = rw (sym e) refl

pub was_digit : (n : ℕ) {d : ℕ} → Some d ≡ digit_read n → (d ≡ n) × (n < 16)
was_digit n {d} = on_lt (λ (o : Option ℕ). Some d ≡ o → (d ≡ n) × (n < 16)) n 16 (λ h e. let z : d ≡ n = cc in (z, h)) (λ h e. cc)

pub was_none : (n : ℕ) → None ≡ digit_read n → 16 ≤ n
was_none n = on_lt (λ (o : Option ℕ). None ≡ o → 16 ≤ n) n 16 (λ h e. cc) (λ h e. h)

-- What an option was that was asked for a value, or for an error in its place.
pub asked : {A E : Type 0} (o : Option A) {e d : E} → ok_or o e ≡ Err d → (o ≡ None) × (d ≡ e)
asked None h = (refl, cc)
asked (Some x) h = cc

-- But for `&`, `/` and `?` a query part's characters are a segment's.
pub query_else : (c : ℕ) → (c ≡ 0x26 → ⊥) → (c ≡ 0x2F → ⊥) → (c ≡ 0x3F → ⊥) → literal segment c ≡ literal query c
unfolding literal
query_else c p q r =
    let none : listed c (0x2F ∷ 0x3F ∷ []) ≡ false = rw (ne_eqb c 0x2F q, ne_eqb c 0x3F r) refl in
    second (eqb c 0x26) (pchar c) (listed c (0x2F ∷ 0x3F ∷ [])) (ne_eqb c 0x26 p) none
  where
    first : (t : Bool) → t ≡ either t false
    first true = refl
    first false = refl

    second : (s t u : Bool) → s ≡ false → u ≡ false → t ≡ pick s false (either t u)
    second s t u e f = rw (e, f) (first t)
