-- Rows of groups as they are put are read back: judged, as their bytes, and with no `::` in them.
use Prim.Native.Nat.{ℕ, zero, suc, ◌+◌, ◌-◌, ◌*◌, ◌/◌, ◌%◌, ◌<◌, ◌≤◌}
use mathlib.Core.Path.{◌≡◌, refl, ap, ◌∙◌}
use mathlib.Core.Bool.{true}
use mathlib.Core.List.{List, [], ◌∷◌, ◌++◌, append_assoc}
use native.Mathlib.Nat.{add-zero, zero-add}
use native.Mathlib.Omega.{arith}
use lib.ListN.{length, get_or, length-append}
use borrow.Author.Tests.{lt-ltb, le-ltb, le-leb, lt-leb, ne_eqb}
use Rattle.ground.specs.Part.{Bytes}
use Rattle.ground.proofs.Choice.{on_lt, by_lt}
use Rattle.ground.proofs.Part.{byte_at}
use Rattle.rfc.specs.Percent.{hex_value}
use Rattle.hexadecimal.specs.Hex.{hex_digit}
use Rattle.peers.specs.Text.{group, group_text, piece, pieces}
use Rattle.peer_reading.specs.Reading.{pair_bytes, are_groups, group_bytes, is_side, side_bytes, gap_in}
use Rattle.peer_reading.proofs.Digits.{Without, without_append}

-- The digits of numbers below 16.
abbrev hexes : List ℕ → List ℕ
hexes [] = []
hexes (d ∷ ds) = hex_digit d ∷ hexes ds

abbrev Small : List ℕ → Type 0
Small [] = Unit {0}
Small (d ∷ ds) = (d < 16) × Small ds

-- What digits make of a value before them.
abbrev worth : ℕ → List ℕ → ℕ
worth v [] = v
worth v (d ∷ ds) = worth (v % 4096 * 16 + d) ds

-- A group as it is put: one to four digits, worth the group.
record Spelt (n : ℕ) : Type 0 where
  digits : List ℕ
  is : group_text n ≡ hexes digits
  small : Small digits
  some : 1 ≤ length digits
  few : length digits ≤ 4
  value : worth 0 digits ≡ n

-- Four digits, one at a time.
module _ (n : ℕ) (h : n < 65536) where
  one : 0 % 4096 * 16 + n / 4096 % 16 ≡ n / 4096
  one = omega arith

  two : n / 4096 % 4096 * 16 + n / 256 % 16 ≡ n / 256
  two = omega arith

  three : n / 256 % 4096 * 16 + n / 16 % 16 ≡ n / 16
  three = omega arith

  last : n / 16 % 4096 * 16 + n % 16 ≡ n
  last = omega arith

  four : worth 0 ((n / 4096 % 16) ∷ (n / 256 % 16) ∷ (n / 16 % 16) ∷ (n % 16) ∷ []) ≡ n
  four =
      ap (λ (v : ℕ). worth v ((n / 256 % 16) ∷ (n / 16 % 16) ∷ (n % 16) ∷ [])) one
      ∙ (ap (λ (v : ℕ). worth v ((n / 16 % 16) ∷ (n % 16) ∷ [])) two ∙ (ap (λ (v : ℕ). worth v ((n % 16) ∷ [])) three ∙ last))

spelt : (n : ℕ) → n < 65536 → Spelt n
spelt n h =
    by_lt 4095 n
    (λ a. record {
      digits = (n / 4096 % 16) ∷ (n / 256 % 16) ∷ (n / 16 % 16) ∷ (n % 16) ∷ [];
      is = rw (lt-ltb 4095 n a, lt-ltb 255 n (omega arith), lt-ltb 15 n (omega arith)) refl;
      small = (omega arith, (omega arith, (omega arith, (omega arith, tt))));
      some = omega arith;
      few = omega arith;
      value = four n h;
    })
    (λ a. by_lt 255 n
    (λ b. record {
      digits = (n / 256 % 16) ∷ (n / 16 % 16) ∷ (n % 16) ∷ [];
      is = rw (le-ltb 4095 n a, lt-ltb 255 n b, lt-ltb 15 n (omega arith)) refl;
      small = (omega arith, (omega arith, (omega arith, tt)));
      some = omega arith;
      few = omega arith;
      value = omega arith;
    })
    (λ b. by_lt 15 n
    (λ c. record {
      digits = (n / 16 % 16) ∷ (n % 16) ∷ [];
      is = rw (le-ltb 4095 n a, le-ltb 255 n b, lt-ltb 15 n c) refl;
      small = (omega arith, (omega arith, tt));
      some = omega arith;
      few = omega arith;
      value = omega arith;
    })
    (λ c. record {
      digits = (n % 16) ∷ [];
      is = rw (le-ltb 4095 n a, le-ltb 255 n b, le-ltb 15 n c) refl;
      small = (omega arith, tt);
      some = omega arith;
      few = omega arith;
      value = omega arith;
    })))

-- A digit: what it is worth, and that it is neither a colon nor a bracket.
digit_worth : (d : ℕ) → d < 16 → hex_value (hex_digit d) ≡ d
unfolding hex_value
digit_worth d h =
    on_lt (λ (c : ℕ). hex_value c ≡ d) d 10
    (λ l. rw (le-leb 48 (48 + d) (omega arith), le-leb (48 + d) 57 (omega arith)) (omega arith))
    (λ l. rw (le-leb 48 (97 + (d - 10)) (omega arith), lt-leb (97 + (d - 10)) 57 (omega arith), le-leb 65 (97 + (d - 10)) (omega arith), lt-leb (97 + (d - 10)) 70 (omega arith), le-leb 97 (97 + (d - 10)) (omega arith), le-leb (97 + (d - 10)) 102 (omega arith)) (omega arith))

no_digit : (mark d : ℕ) → d < 16 → (mark ≡ 58) → hex_digit d ≡ mark → ⊥
no_digit mark d h m = on_lt (λ (c : ℕ). c ≡ mark → ⊥) d 10 (λ l e. omega arith) (λ l e. omega arith)

no_bracket : (d : ℕ) → d < 16 → hex_digit d ≡ 93 → ⊥
no_bracket d h = on_lt (λ (c : ℕ). c ≡ 93 → ⊥) d 10 (λ l e. omega arith) (λ l e. omega arith)

-- Digits, judged and read, before what follows them.
digits_judged : (ds s : List ℕ) (k : ℕ) → Small ds → k + length ds ≤ 4 → are_groups k (hexes ds ++ s) ≡ are_groups (k + length ds) s
unfolding are_groups
digits_judged [] s k m h = ap (λ (n : ℕ). are_groups n s) (let e : k ≡ k + 0 = omega arith in e)
digits_judged (d ∷ ds) s k m h =
    let e : k + 1 + length ds ≡ k + suc (length ds) = omega arith in
    rw (ne_eqb (hex_digit d) 58 (no_digit 58 d m.0 refl), digit_worth d m.0, le-ltb 15 d (omega (arith, m.0)), le-ltb 3 k (omega arith))
    (digits_judged ds s (k + 1) m.1 (omega arith) ∙ ap (λ (n : ℕ). are_groups n s) e)

digits_read : (ds s : List ℕ) (v : ℕ) → Small ds → group_bytes v (hexes ds ++ s) ≡ group_bytes (worth v ds) s
unfolding group_bytes
digits_read [] s v m = refl
digits_read (d ∷ ds) s v m =
    rw (ne_eqb (hex_digit d) 58 (no_digit 58 d m.0 refl), digit_worth d m.0) (digits_read ds s (v % 4096 * 16 + d) m.1)

digits_passed : (ds s : List ℕ) → Small ds → gap_in (hexes ds ++ s) ≡ length (hexes ds) + gap_in s
unfolding gap_in
digits_passed [] s m = omega arith
digits_passed (d ∷ ds) s m = rw (ne_eqb (hex_digit d) 58 (no_digit 58 d m.0 refl), digits_passed ds s m.1) (omega arith)

digits_plain : (ds : List ℕ) → Small ds → Without 93 (hexes ds)
digits_plain [] m = tt
digits_plain (d ∷ ds) m = (no_bracket d m.0, digits_plain ds m.1)

-- A group before what follows it.
module _ (n : ℕ) (h : n < 65536) (s : List ℕ) where
  pub group_judged : (k : ℕ) × (1 ≤ k) × (are_groups 0 (group_text n ++ s) ≡ are_groups k s)
  group_judged =
      let g = spelt n h in
      (length g.digits, g.some, rw g.is (digits_judged g.digits s 0 g.small (omega (arith, g.few)) ∙ ap (λ (k : ℕ). are_groups k s) (let e : 0 + length g.digits ≡ length g.digits = omega arith in e)))

  pub group_read : group_bytes 0 (group_text n ++ s) ≡ group_bytes n s
  group_read = let g = spelt n h in rw g.is (digits_read g.digits s 0 g.small ∙ ap (λ (v : ℕ). group_bytes v s) g.value)

  pub group_passed : gap_in (group_text n ++ s) ≡ length (group_text n) + gap_in s
  group_passed = let g = spelt n h in rw g.is (digits_passed g.digits s g.small)

  first_by : (ds : List ℕ) → Small ds → 1 ≤ length ds → get_or (hexes ds ++ s) 0 0 ≡ 58 → ⊥
  first_by [] m l = absurd (omega arith)
  first_by (d ∷ ds) m l = no_digit 58 d m.0 refl

  pub group_first : get_or (group_text n ++ s) 0 0 ≡ 58 → ⊥
  group_first = let g = spelt n h in rw g.is (first_by g.digits g.small g.some)

pub group_plain : (n : ℕ) → n < 65536 → Without 93 (group_text n)
group_plain n h = let g = spelt n h in rw g.is (digits_plain g.digits g.small)

pub group_some : (n : ℕ) → n < 65536 → 1 ≤ length (group_text n)
group_some n h = let g = spelt n h in rw g.is (some_by g.digits g.some)
  where
    some_by : (ds : List ℕ) → 1 ≤ length ds → 1 ≤ length (hexes ds)
    some_by [] l = l
    some_by (d ∷ ds) l = omega arith

-- The bytes of so many groups of a peer, from one on.
abbrev pub bytes_from : List ℕ → ℕ → ℕ → List ℕ
bytes_from p zero g = []
bytes_from p (suc n) g = get_or p (2 * g) 0 ∷ get_or p (2 * g + 1) 0 ∷ bytes_from p n (suc g)

pub bytes_length : (p : List ℕ) (n g : ℕ) → length (bytes_from p n g) ≡ 2 * n
bytes_length p zero g = refl
bytes_length p (suc n) g = omega (arith, bytes_length p n (suc g))

pub bytes_split : (p : List ℕ) (n m g : ℕ) → bytes_from p (n + m) g ≡ bytes_from p n g ++ bytes_from p m (g + n)
bytes_split p zero m g = rw (zero-add m, add-zero g) refl
bytes_split p (suc n) m g =
    let e : suc n + m ≡ suc (n + m) = omega arith in
    let f : suc g + n ≡ g + suc n = omega arith in
    rw (e, bytes_split p n m (suc g), f) refl

-- Rows of a peer's groups.
module _ (p : List ℕ) (b : Bytes p) where
  pub group_small : (g : ℕ) → group p g < 65536
  group_small g = omega (arith, byte_at p (2 * g) b, byte_at p (2 * g + 1) b)

  -- A group's number is its two bytes.
  pub pair_back : (g : ℕ) → pair_bytes (group p g) ≡ get_or p (2 * g) 0 ∷ get_or p (2 * g + 1) 0 ∷ []
  pair_back g =
      let x : ℕ = get_or p (2 * g) 0 in
      let y : ℕ = get_or p (2 * g + 1) 0 in
      let hx : x < 256 = byte_at p (2 * g) b in
      let hy : y < 256 = byte_at p (2 * g + 1) b in
      let e : (x * 256 + y) / 256 % 256 ≡ x = omega arith in
      let f : (x * 256 + y) % 256 ≡ y = omega arith in
      rw (e, f) refl

  -- A group after the first of its row stands behind a colon.
  piece_later : (f g : ℕ) → f < g → piece p f g ≡ 58 ∷ group_text (group p g)
  piece_later f g h = rw (lt-ltb f g h) refl

  piece_first : (f : ℕ) → piece p f f ≡ group_text (group p f)
  piece_first f = rw (le-ltb f f (omega arith)) refl

  rest_judged : (f n g k : ℕ) → f < g → 1 ≤ k → are_groups k (pieces p f n g) ≡ true
  unfolding pieces are_groups
  rest_judged f zero g k h l = lt-ltb 0 k l
  rest_judged f (suc n) g k h l =
      let r : List ℕ = pieces p f n (suc g) in
      let j = group_judged (group p g) (group_small g) r in
      rw (piece_later f g h, ne_eqb k 0 (λ e. omega arith)) (j.2 ∙ rest_judged f n (suc g) j.0 (omega arith) j.1)

  rest_read : (f n g v : ℕ) → f < g → group_bytes v (pieces p f n g) ≡ pair_bytes v ++ bytes_from p n g
  unfolding pieces group_bytes
  rest_read f zero g v h = refl
  rest_read f (suc n) g v h =
      let r : List ℕ = pieces p f n (suc g) in
      rw (piece_later f g h)
      (ap (λ (l : List ℕ). pair_bytes v ++ l)
      (group_read (group p g) (group_small g) r ∙ (rest_read f n (suc g) (group p g) (omega arith) ∙ ap (λ (l : List ℕ). l ++ bytes_from p n (suc g)) (pair_back g))))

  rest_passed : (f n g : ℕ) (s : List ℕ) → f < g → gap_in (pieces p f n g ++ s) ≡ length (pieces p f n g) + gap_in s
  unfolding pieces gap_in
  rest_passed f zero g s h = omega arith
  rest_passed f (suc n) g s h =
      let r : List ℕ = pieces p f n (suc g) in
      let t : List ℕ = group_text (group p g) in
      let w : get_or (t ++ (r ++ s)) 0 0 ≡ 58 → ⊥ = group_first (group p g) (group_small g) (r ++ s) in
      rw (piece_later f g h, append_assoc t r s, ne_eqb (get_or (t ++ (r ++ s)) 0 0) 58 w, group_passed (group p g) (group_small g) (r ++ s), rest_passed f n (suc g) s (omega arith), length-append t r)
      (omega arith)

  rest_plain : (f n g : ℕ) → f < g → Without 93 (pieces p f n g)
  unfolding pieces
  rest_plain f zero g h = tt
  rest_plain f (suc n) g h =
      without_append 93 (piece p f g) (pieces p f n (suc g))
      (rw (piece_later f g h) (λ e. omega arith, group_plain (group p g) (group_small g)))
      (rest_plain f n (suc g) (omega arith))

  -- A row, and the empty row.
  module _ (f n : ℕ) where
    opens : pieces p f (suc n) f ≡ group_text (group p f) ++ pieces p f n (suc f)
    unfolding pieces
    opens = rw (piece_first f) refl

    row_judged : are_groups 0 (pieces p f (suc n) f) ≡ true
    row_judged =
        let j = group_judged (group p f) (group_small f) (pieces p f n (suc f)) in
        ap (are_groups 0) opens ∙ (j.2 ∙ rest_judged f n (suc f) j.0 (omega arith) j.1)

    row_read : group_bytes 0 (pieces p f (suc n) f) ≡ bytes_from p (suc n) f
    row_read =
        ap (group_bytes 0) opens ∙ (group_read (group p f) (group_small f) (pieces p f n (suc f))
        ∙ (rest_read f n (suc f) (group p f) (omega arith) ∙ ap (λ (l : List ℕ). l ++ bytes_from p n (suc f)) (pair_back f)))

    row_passed : (s : List ℕ) → gap_in (pieces p f (suc n) f ++ s) ≡ length (pieces p f (suc n) f) + gap_in s
    row_passed s =
        let t : List ℕ = group_text (group p f) in
        let q : List ℕ = pieces p f n (suc f) in
        rw (opens, append_assoc t q s, group_passed (group p f) (group_small f) (q ++ s), rest_passed f n (suc f) s (omega arith), length-append t q) (omega arith)

    row_plain : Without 93 (pieces p f (suc n) f)
    row_plain = rw opens (without_append 93 (group_text (group p f)) (pieces p f n (suc f)) (group_plain (group p f) (group_small f)) (rest_plain f n (suc f) (omega arith)))

    row_some : 1 ≤ length (pieces p f (suc n) f)
    row_some = rw (opens, length-append (group_text (group p f)) (pieces p f n (suc f))) (omega (arith, group_some (group p f) (group_small f)))

  pub side_judged : (n f : ℕ) → is_side (pieces p f n f) ≡ true
  unfolding is_side pieces
  side_judged zero f = refl
  side_judged (suc n) f = rw (ne_eqb (length (pieces p f (suc n) f)) 0 (λ e. omega (arith, row_some f n))) (row_judged f n)

  pub side_read : (n f : ℕ) → side_bytes (pieces p f n f) ≡ bytes_from p n f
  unfolding side_bytes pieces
  side_read zero f = refl
  side_read (suc n) f = rw (ne_eqb (length (pieces p f (suc n) f)) 0 (λ e. omega (arith, row_some f n))) (row_read f n)

  pub side_passed : (n f : ℕ) (s : List ℕ) → gap_in (pieces p f n f ++ s) ≡ length (pieces p f n f) + gap_in s
  unfolding pieces
  side_passed zero f s = omega arith
  side_passed (suc n) f s = row_passed f n s

  pub side_plain : (n f : ℕ) → Without 93 (pieces p f n f)
  unfolding pieces
  side_plain zero f = tt
  side_plain (suc n) f = row_plain f n
