-- Laws of single characters, most by computing a test for each.
use Prim.Native.Nat.{ℕ, suc, ◌+◌, ◌-◌, ◌<◌, ◌≤◌}
use mathlib.Core.Path.{◌≡◌, refl, sym, ap, ◌∙◌}
use mathlib.Core.Bool.{Bool, true, false}
use mathlib.Core.List.{List, [], ◌∷◌}
use native.Mathlib.Omega.{arith}
use lib.Dec.{T, eqb, eqb→eq, ltb, ltb→lt, leb}
use lib.ListN.{length, replicate, length-replicate}
use borrow.Author.Tests.{leb-true, eqb-true}
use Rattle.ground.specs.Choice.{either, within}
use Rattle.ground.specs.Table.{every, listed}
use Rattle.ground.proofs.Table.{at, both_left, both_right}
use Rattle.ground.proofs.Choice.{on}
use Rattle.rfc.specs.Uri.{Kind, segment, query, literal, separator, pchar, unreserved, sub_delim}
use Rattle.rfc.specs.Percent.{hex_digit, hex_value}

-- A test that passes for each number below `count`, as computing it shows.
abbrev pub all_below : (ℕ → Bool) → ℕ → Bool
all_below f count = every (λ k x. f k) 0 (replicate count 0)

pub each : (f : ℕ → Bool) (count : ℕ) → T (all_below f count) → (b : ℕ) → b < count → T (f b)
each f count t b h =
    let k : b < length {A = ℕ} (replicate count 0) = rw length-replicate h in
    at (λ k x. f k) (replicate count 0) t b k

pub is_true : (t : Bool) → T t → t ≡ true
is_true true x = refl
is_true false x = absurd x

pub not-false : (t : Bool) → t ≡ true → t ≡ false → ⊥
not-false t p q = let b : true ≡ false = sym p ∙ q in let z : ◌≡◌ {A = ℕ} 0 1 = cc in omega arith

-- Digits there and back.
pub hex_back : (n : ℕ) → n < 16 → hex_value (hex_digit n) ≡ n
unfolding hex_digit hex_value
hex_back n h = eqb→eq (hex_value (hex_digit n)) n (each (λ n. eqb (hex_value (hex_digit n)) n) 16 tt n h)

pub hex_literal : (kind : Kind) (n : ℕ) → n < 16 → literal kind (hex_digit n) ≡ true
unfolding hex_digit literal
hex_literal segment n h = is_true (literal segment (hex_digit n)) (each (λ n. literal segment (hex_digit n)) 16 tt n h)
hex_literal query n h = is_true (literal query (hex_digit n)) (each (λ n. literal query (hex_digit n)) 16 tt n h)

-- A literal character isn't one that can't be literal.
pub literal_not : (kind : Kind) (c x : ℕ) → literal kind c ≡ true → literal kind x ≡ false → c ≡ x → ⊥
literal_not kind c x l n e = not-false (literal kind c) l (ap (literal kind) e ∙ n)

pub percent_no : (kind : Kind) → literal kind 0x25 ≡ false
unfolding literal
percent_no segment = refl
percent_no query = refl

pub separator_no : (kind : Kind) → literal kind (separator kind) ≡ false
unfolding literal
separator_no segment = refl
separator_no query = refl

pub mark_no : literal segment 0x3F ≡ false
unfolding literal
mark_no = refl

-- Literal characters are bytes.
either_small : (a b : Bool) (c : ℕ) → (a ≡ true → c < 256) → (b ≡ true → c < 256) → either a b ≡ true → c < 256
either_small true b c f g e = f refl
either_small false b c f g e = g e

within_small : (low high c : ℕ) → high < 256 → within low high c ≡ true → c < 256
within_small low high c h e =
    on (λ t. t ≡ true → c < 256) (leb low c) {x = leb c high} {y = false} (λ _. λ q. let k : c ≤ high = leb-true c high q in omega arith)
    (λ _. λ q. absurd (not-false false q refl)) e

listed_small : (c : ℕ) (xs : List ℕ) (i : ℕ) → T (every (λ k x. ltb x 256) i xs) → listed c xs ≡ true → c < 256
listed_small c [] i t e = absurd (not-false false e refl)
listed_small c (x ∷ xs) i t e =
    let small : x < 256 = ltb→lt x 256 (both_left (ltb x 256) (every (λ k x. ltb x 256) (suc i) xs) t) in
    either_small (eqb c x) (listed c xs) c (λ q. let k : c ≡ x = eqb-true c x q in omega arith)
    (λ q. listed_small c xs (suc i) (both_right (ltb x 256) (every (λ k x. ltb x 256) (suc i) xs) t) q) e

unreserved_small : (c : ℕ) → unreserved c ≡ true → c < 256
unreserved_small c =
    either_small (within 0x41 0x5A c) (either (within 0x61 0x7A c) (either (within 0x30 0x39 c) (listed c (0x2D ∷ 0x2E ∷ 0x5F ∷ 0x7E ∷ [])))) c
    (within_small 0x41 0x5A c (omega arith))
    (either_small (within 0x61 0x7A c) (either (within 0x30 0x39 c) (listed c (0x2D ∷ 0x2E ∷ 0x5F ∷ 0x7E ∷ []))) c
    (within_small 0x61 0x7A c (omega arith))
    (either_small (within 0x30 0x39 c) (listed c (0x2D ∷ 0x2E ∷ 0x5F ∷ 0x7E ∷ [])) c
    (within_small 0x30 0x39 c (omega arith)) (listed_small c (0x2D ∷ 0x2E ∷ 0x5F ∷ 0x7E ∷ []) 0 tt)))

pchar_small : (c : ℕ) → pchar c ≡ true → c < 256
pchar_small c =
    either_small (unreserved c) (either (sub_delim c) (listed c (0x3A ∷ 0x40 ∷ []))) c (unreserved_small c)
    (either_small (sub_delim c) (listed c (0x3A ∷ 0x40 ∷ [])) c
    (listed_small c (0x21 ∷ 0x24 ∷ 0x26 ∷ 0x27 ∷ 0x28 ∷ 0x29 ∷ 0x2A ∷ 0x2B ∷ 0x2C ∷ 0x3B ∷ 0x3D ∷ []) 0 tt)
    (listed_small c (0x3A ∷ 0x40 ∷ []) 0 tt))

pub literal_small : (kind : Kind) (c : ℕ) → literal kind c ≡ true → c < 256
unfolding literal
literal_small segment c l = pchar_small c l
literal_small query c l =
    on (λ t. t ≡ true → c < 256) (eqb c 0x26) {x = false} {y = either (pchar c) (listed c (0x2F ∷ 0x3F ∷ []))}
    (λ _. λ q. absurd (not-false false q refl))
    (λ _. either_small (pchar c) (listed c (0x2F ∷ 0x3F ∷ [])) c (pchar_small c) (listed_small c (0x2F ∷ 0x3F ∷ []) 0 tt)) l

-- A test that passes for each number from `low` to `high`.
pub ranged : (f : ℕ → Bool) (low high : ℕ) → T (all_below (λ k. f (low + k)) (suc high - low)) → (b : ℕ) → low ≤ b → b ≤ high → T (f b)
ranged f low high t b l h =
    let e : low + (b - low) ≡ b = omega arith in
    rw e at (each (λ k. f (low + k)) (suc high - low) t (b - low) (omega arith))
