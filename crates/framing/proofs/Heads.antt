-- The head of a frame: what it says is what it was made of, and what is read stands there.
use Prim.Native.Nat.{ℕ, ◌+◌, ◌-◌, ◌*◌, ◌/◌, ◌%◌, ◌<◌, ◌≤◌}
use mathlib.Core.Path.{◌≡◌, refl, sym, ◌∙◌}
use mathlib.Core.List.{List, [], ◌∷◌, ◌++◌}
use native.Mathlib.Omega.{arith}
use lib.ListN.{length, take, get_or}
use lib.Seq.{take-suc}
use borrow.Author.Tests.{lt-ltb, le-ltb, eq-eqb, ne_eqb}
use Rattle.ground.specs.Part.{Bytes}
use Rattle.ground.proofs.Choice.{by_lt, by_eq, on_lt, on_eq}
use Rattle.ground.proofs.Part.{byte_at}
use Rattle.rfc.specs.Frame.{frame_head}
use Rattle.rfc.proofs.Frame.{none_nibble, none_extension, one_nibble, one_extension, two_nibble, two_extension, four_nibble, four_extension}
use Rattle.refusal.specs.Answer.{given, refused}
use Rattle.refusal.proofs.Answers.{Given, on_given}
use Rattle.framing.specs.Head.{extra, length_in, head_of, head_in, Within}
use Rattle.framing.specs.declared.Head.{Head}

-- The head of a frame by the class of its length.
module _ (n t c : ℕ) where
  pub head_none : n < 13 → frame_head n t c ≡ ((n * 16 + t) ∷ c ∷ [])
  unfolding frame_head
  head_none h = rw (none_nibble n h, none_extension n h)

  pub head_one : 13 ≤ n → n < 269 → frame_head n t c ≡ ((13 * 16 + t) ∷ (n - 13) ∷ c ∷ [])
  unfolding frame_head
  head_one h l = rw (one_nibble n h l, one_extension n h l)

  pub head_two : 269 ≤ n → n < 65805 → frame_head n t c ≡ ((14 * 16 + t) ∷ ((n - 269) / 256) ∷ ((n - 269) % 256) ∷ c ∷ [])
  unfolding frame_head
  head_two h l = rw (two_nibble n h l, two_extension n h l)

  pub head_four : 65805 ≤ n → frame_head n t c ≡ ((15 * 16 + t) ∷ ((n - 65805) / 16777216) ∷ ((n - 65805) / 65536 % 256) ∷ ((n - 65805) / 256 % 256) ∷ ((n - 65805) % 256) ∷ c ∷ [])
  unfolding frame_head
  head_four h = rw (four_nibble n h, four_extension n h)

-- What a nibble below 13 calls for.
pub none_extra : (nibble : ℕ) → nibble < 13 → extra nibble ≡ 0
unfolding extra
none_extra nibble h = rw (lt-ltb nibble 13 h)

none_length : (f : List ℕ) (nibble : ℕ) → nibble < 13 → length_in f nibble ≡ nibble
unfolding length_in
none_length f nibble h = rw (lt-ltb nibble 13 h)

-- A frame with just the bytes that its nibbles call for has the head that they name.
pub head_is : (f : List ℕ) (nibble token : ℕ) → length f ≡ 2 + extra nibble + token + length_in f nibble
    → head_of f nibble token ≡ given (record { token_length = token; code = get_or f (1 + extra nibble) 0; token_at = 2 + extra nibble })
unfolding head_of
head_is f nibble token e = rw (eq-eqb (length f) (2 + extra nibble + token + length_in f nibble) e)

pub head_bad : (f : List ℕ) (nibble token : ℕ) → (length f ≡ 2 + extra nibble + token + length_in f nibble → ⊥) → head_of f nibble token ≡ refused 20
unfolding head_of
head_bad f nibble token n = rw (ne_eqb (length f) (2 + extra nibble + token + length_in f nibble) n)

-- The nibbles of a first byte.
nibbles : (f : List ℕ) (nibble token : ℕ) → get_or f 0 0 ≡ nibble * 16 + token → token < 16 → head_in f ≡ head_of f nibble token
nibbles f nibble token e h =
    let high : get_or f 0 0 / 16 ≡ nibble = omega arith in
    let low : get_or f 0 0 % 16 ≡ token = omega arith in
    rw (high, low)

-- The head that a frame's own bytes say.
abbrev pub head_for : ℕ → ℕ → ℕ → Head
head_for n t c = record { token_length = t; code = c; token_at = length (frame_head n t c) }

module _ (n t c : ℕ) (small : t < 16) (rest : List ℕ) (long : length rest ≡ t + n) where
  back_none : n < 13 → head_in (frame_head n t c ++ rest) ≡ given (head_for n t c)
  back_none h =
      let f : List ℕ = (n * 16 + t) ∷ c ∷ rest in
      let z : extra n ≡ 0 = none_extra n h in
      rw (head_none n t c h) (nibbles f n t refl small ∙ (head_is f n t (rw (z, none_length f n h) (omega arith)) ∙ rw z))

  back_one : 13 ≤ n → n < 269 → head_in (frame_head n t c ++ rest) ≡ given (head_for n t c)
  unfolding extra length_in
  back_one h l =
      let f : List ℕ = (13 * 16 + t) ∷ (n - 13) ∷ c ∷ rest in
      rw (head_one n t c h l) (nibbles f 13 t refl small ∙ head_is f 13 t (omega arith))

  back_two : 269 ≤ n → n < 65805 → head_in (frame_head n t c ++ rest) ≡ given (head_for n t c)
  unfolding extra length_in
  back_two h l =
      let f : List ℕ = (14 * 16 + t) ∷ ((n - 269) / 256) ∷ ((n - 269) % 256) ∷ c ∷ rest in
      rw (head_two n t c h l) (nibbles f 14 t refl small ∙ head_is f 14 t (omega arith))

  back_four : 65805 ≤ n → head_in (frame_head n t c ++ rest) ≡ given (head_for n t c)
  unfolding extra length_in
  back_four h =
      let f : List ℕ = (15 * 16 + t) ∷ ((n - 65805) / 16777216) ∷ ((n - 65805) / 65536 % 256) ∷ ((n - 65805) / 256 % 256) ∷ ((n - 65805) % 256) ∷ c ∷ rest in
      rw (head_four n t c h) (nibbles f 15 t refl small ∙ head_is f 15 t (omega arith))

  -- The head of a frame is read back.
  pub head_back : head_in (frame_head n t c ++ rest) ≡ given (head_for n t c)
  head_back = by_lt n 13 back_none (λ h. by_lt n 269 (back_one h) (λ l. by_lt n 65805 (back_two l) back_four))

-- A head that was read: it stands at the frame's front, made of the length that is left.
pub record Stands (f : List ℕ) (h : Head) : Type 0 where
  pub within : Within f h
  pub bytes : frame_head (length f - h.token_at - h.token_length) h.token_length h.code ≡ take h.token_at f

module _ (f : List ℕ) (b : Bytes f) where
  -- The first two, three, four and six bytes.
  two : 2 ≤ length f → take 2 f ≡ (get_or f 0 0 ∷ get_or f 1 0 ∷ [])
  two h = rw (take-suc f 1 0 (omega arith), take-suc f 0 0 (omega arith)) refl

  three : 3 ≤ length f → take 3 f ≡ (get_or f 0 0 ∷ get_or f 1 0 ∷ get_or f 2 0 ∷ [])
  three h = rw (take-suc f 2 0 (omega arith), two (omega arith)) refl

  four : 4 ≤ length f → take 4 f ≡ (get_or f 0 0 ∷ get_or f 1 0 ∷ get_or f 2 0 ∷ get_or f 3 0 ∷ [])
  four h = rw (take-suc f 3 0 (omega arith), three (omega arith)) refl

  six : 6 ≤ length f → take 6 f ≡ (get_or f 0 0 ∷ get_or f 1 0 ∷ get_or f 2 0 ∷ get_or f 3 0 ∷ get_or f 4 0 ∷ get_or f 5 0 ∷ [])
  six h = rw (take-suc f 5 0 (omega arith), take-suc f 4 0 (omega arith), four (omega arith)) refl

  nibble_small : get_or f 0 0 / 16 < 16
  nibble_small = omega (arith, byte_at f 0 b)

  -- What a head by its nibbles stands for.
  abbrev Laid : ℕ → Type 0
  Laid nibble = 2 + extra nibble ≤ length f → frame_head (length_in f nibble) (get_or f 0 0 % 16) (get_or f (1 + extra nibble) 0) ≡ take (2 + extra nibble) f

  laid_none : (nibble : ℕ) → get_or f 0 0 / 16 ≡ nibble → nibble < 13 → Laid nibble
  laid_none nibble e h fits =
      let z : extra nibble ≡ 0 = none_extra nibble h in
      let first : nibble * 16 + get_or f 0 0 % 16 ≡ get_or f 0 0 = omega arith in
      rw (z, none_length f nibble h, head_none nibble (get_or f 0 0 % 16) (get_or f 1 0) h, first) (sym (two (omega arith)))

  laid_one : get_or f 0 0 / 16 ≡ 13 → Laid 13
  unfolding extra length_in
  laid_one e fits =
      let x : ℕ = get_or f 1 0 in
      let first : 13 * 16 + get_or f 0 0 % 16 ≡ get_or f 0 0 = omega arith in
      let more : 13 + x - 13 ≡ x = omega arith in
      rw (head_one (13 + x) (get_or f 0 0 % 16) (get_or f 2 0) (omega arith) (omega (arith, byte_at f 1 b)), first, more) (sym (three (omega arith)))

  laid_two : get_or f 0 0 / 16 ≡ 14 → Laid 14
  unfolding extra length_in
  laid_two e fits =
      let x : ℕ = get_or f 1 0 in
      let y : ℕ = get_or f 2 0 in
      let n : ℕ = 269 + (x * 256 + y) in
      let first : 14 * 16 + get_or f 0 0 % 16 ≡ get_or f 0 0 = omega arith in
      let high : (n - 269) / 256 ≡ x = omega (arith, byte_at f 2 b) in
      let low : (n - 269) % 256 ≡ y = omega (arith, byte_at f 2 b) in
      rw (head_two n (get_or f 0 0 % 16) (get_or f 3 0) (omega arith) (omega (arith, byte_at f 1 b, byte_at f 2 b)), first, high, low) (sym (four (omega arith)))

  laid_four : get_or f 0 0 / 16 ≡ 15 → Laid 15
  unfolding extra length_in
  laid_four e fits =
      let x : ℕ = get_or f 1 0 in
      let y : ℕ = get_or f 2 0 in
      let z : ℕ = get_or f 3 0 in
      let w : ℕ = get_or f 4 0 in
      let n : ℕ = 65805 + (((x * 256 + y) * 256 + z) * 256 + w) in
      let ys : y < 256 = byte_at f 2 b in
      let zs : z < 256 = byte_at f 3 b in
      let ws : w < 256 = byte_at f 4 b in
      let first : 15 * 16 + get_or f 0 0 % 16 ≡ get_or f 0 0 = omega arith in
      let a : (n - 65805) / 16777216 ≡ x = omega arith in
      let c : (n - 65805) / 65536 % 256 ≡ y = omega arith in
      let d : (n - 65805) / 256 % 256 ≡ z = omega arith in
      let g : (n - 65805) % 256 ≡ w = omega arith in
      rw (head_four n (get_or f 0 0 % 16) (get_or f 5 0) (omega arith), first, a, c, d, g) (sym (six (omega arith)))

  laid : (nibble : ℕ) → get_or f 0 0 / 16 ≡ nibble → Laid nibble
  laid nibble e =
      by_lt nibble 13 (laid_none nibble e)
      (λ h. by_eq nibble 13 (λ is. rw is (laid_one (e ∙ is)))
      (λ n. by_eq nibble 14 (λ is. rw is (laid_two (e ∙ is)))
      (λ m. let is : nibble ≡ 15 = omega (arith, nibble_small, n, m) in rw is (laid_four (e ∙ is)))))

  pub stands : Given (Stands f) (head_in f)
  unfolding head_of
  stands =
      let n : ℕ = get_or f 0 0 / 16 in
      let t : ℕ = get_or f 0 0 % 16 in
      on_eq (Given (Stands f)) (length f) (2 + extra n + t + length_in f n)
      (λ e.
      let left : length f - (2 + extra n) - t ≡ length_in f n = omega arith in
      record {
        within = record { token = omega arith; nibble = omega arith };
        bytes = rw left (laid n refl (omega arith));
      })
      (λ e. tt)

pub head_within : (f : List ℕ) → Bytes f → (h : Head) → head_in f ≡ given h → Within f h
head_within f b h e = (on_given (Stands f) (head_in f) h (stands f b) e).within

-- How large these numbers are.
pub extra_small : (nibble : ℕ) → extra nibble ≤ 4
unfolding extra
extra_small nibble =
    on_lt (λ (n : ℕ). n ≤ 4) nibble 13 (λ h. omega arith)
    (λ h. on_eq (λ (n : ℕ). n ≤ 4) nibble 13 (λ e. omega arith) (λ e. on_eq (λ (n : ℕ). n ≤ 4) nibble 14 (λ d. omega arith) (λ d. omega arith)))

pub extra_two : (nibble : ℕ) → 13 ≤ nibble → (nibble ≡ 13 → ⊥) → 2 ≤ extra nibble
unfolding extra
extra_two nibble h n =
    rw (le-ltb nibble 13 h, ne_eqb nibble 13 n) (on_eq (λ (n : ℕ). 2 ≤ n) nibble 14 (λ d. omega arith) (λ d. omega arith))

pub extra_four : (nibble : ℕ) → 13 ≤ nibble → (nibble ≡ 13 → ⊥) → (nibble ≡ 14 → ⊥) → extra nibble ≡ 4
unfolding extra
extra_four nibble h n m = rw (le-ltb nibble 13 h, ne_eqb nibble 13 n, ne_eqb nibble 14 m)

abbrev Small : ℕ → Type 0
Small n = n ≤ 4295033100

pub length_small : (f : List ℕ) (nibble : ℕ) → Bytes f → length_in f nibble ≤ 4295033100
unfolding length_in
length_small f nibble b =
    on_lt Small nibble 13 (λ h. omega arith)
    (λ h. on_eq Small nibble 13 (λ e. omega (arith, byte_at f 1 b))
    (λ e. on_eq Small nibble 14 (λ d. omega (arith, byte_at f 1 b, byte_at f 2 b))
    (λ d. omega (arith, byte_at f 1 b, byte_at f 2 b, byte_at f 3 b, byte_at f 4 b))))
