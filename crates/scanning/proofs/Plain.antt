-- The second walk: what was judged good is read again with no judgement, option by option.
use Prim.Native.Nat.{ℕ, suc, ◌+◌, ◌-◌, ◌*◌, ◌/◌, ◌%◌, ◌<◌, ◌≤◌}
use mathlib.Core.Path.{◌≡◌, refl, sym, ap, subst, ◌∙◌}
use mathlib.Core.Bool.{Bool}
use mathlib.Core.List.{List, [], ◌∷◌, ◌++◌}
use native.Mathlib.Numerals.{add-one}
use native.Mathlib.Omega.{arith}
use lib.ListN.{length, get_or, take, drop, set}
use lib.Seq.{drop-cons, take-add}
use borrow.Author.Tests.{lt-ltb, le-ltb, eq-eqb, ne_eqb}
use Rattle.ground.proofs.Choice.{on_lt, on_le, on_eq}
use Rattle.refusal.specs.Answer.{Answer, given, refused, onward}
use Rattle.refusal.proofs.Answers.{Given, given_onward, on_given}
use Rattle.packet.specs.Packet.{none}
use Rattle.packet.specs.declared.Home.TheVariants.{Datagram}
use Rattle.packet.specs.declared.OptionRecord.{OptionRecord}
use Rattle.option_reading.specs.Option.{Value, Place, ended, option, extended, value_at, length_at, option_at, place_at, end}
use Rattle.reading.specs.Options.{Tail, on_place, before, options}
use Rattle.reading.specs.Reading.{longest}
use Rattle.flat.specs.Flat.{number_of_home}
use Rattle.flat.proofs.Flat.{Putting, turn}
use Rattle.scanning.specs.Scanning.{last_end}
use Rattle.scanning.specs.Plain.{extra, plainly, start, found, options_from, Places}

-- How many bytes of extension there are.
pub extra_one : (nibble : ℕ) → nibble ≡ 13 → extra nibble ≡ 1
unfolding extra
extra_one nibble e = rw e

pub extra_two : (nibble : ℕ) → 13 ≤ nibble → (nibble ≡ 13 → ⊥) → extra nibble ≡ 2
unfolding extra
extra_two nibble l e = rw (le-ltb nibble 13 l, ne_eqb nibble 13 e)

-- A number that was judged is the plain one, and its extension is in the datagram.
pub record Plain (s : List ℕ) (at nibble : ℕ) (v : Value) : Type 0 where
  pub is : v ≡ plainly s at nibble
  pub reach : at + extra nibble ≤ length s
  pub inside : v.next ≤ length s

pub extended_plain : (over most : ℕ) (s : List ℕ) (at nibble : ℕ) → at ≤ length s → Given (Plain s at nibble) (extended over most s at nibble)
unfolding extended extra plainly
extended_plain over most s at nibble h =
    let P = Given (Plain s at nibble) in
    on_lt P nibble 13 (λ l. record { is = rw (lt-ltb nibble 13 l); reach = rw (lt-ltb nibble 13 l) (omega arith); inside = h })
    (λ l. on_eq P nibble 13
    (λ e. on_lt P (length s - at) 1 (λ r. tt)
    (λ r. record { is = rw (le-ltb nibble 13 l, eq-eqb nibble 13 e); reach = rw (le-ltb nibble 13 l, eq-eqb nibble 13 e) (omega arith); inside = omega arith }))
    (λ e. on_eq P nibble 14
    (λ f. on_lt P (length s - at) 2 (λ r. tt)
    (λ r. on_lt P most (269 + (get_or s at 0 * 256 + get_or s (at + 1) 0)) (λ m. tt)
    (λ m. record { is = rw (le-ltb nibble 13 l, ne_eqb nibble 13 e); reach = rw (le-ltb nibble 13 l, ne_eqb nibble 13 e) (omega arith); inside = omega arith })))
    (λ f. tt)))

-- An option that was judged is made of the two plain numbers of its nibbles.
pub record PlainOption (s : List ℕ) (number at : ℕ) (r : OptionRecord) : Type 0 where
  pub delta : Value
  pub size : Value
  pub delta_plain : Plain s (at + 1) (get_or s at 0 / 16) delta
  pub size_plain : Plain s delta.next (get_or s at 0 % 16) size
  pub here : at < length s
  pub is : r ≡ record { number = number + delta.value; home = Datagram; spare = 0; start = size.next; len = size.value }
  pub small : number + delta.value ≤ 65535
  pub inside : size.next + size.value ≤ length s

abbrev PlainPlace : List ℕ → ℕ → ℕ → Place → Type 0
PlainPlace s number at (ended marked payload) = Unit
PlainPlace s number at (option r) = PlainOption s number at r

place_plain : (longest : ℕ) (s : List ℕ) (number at : ℕ) → Given (PlainPlace s number at) (place_at longest s number at)
unfolding place_at option_at length_at value_at
place_plain longest s number at =
    let P = Given (PlainPlace s number at) in
    let byte = get_or s at 0 in
    on_le P (length s) at (λ l. tt)
    (λ l. on_eq P byte 255 (λ e. tt)
    (λ e. given_onward (Plain s (at + 1) (byte / 16)) (PlainPlace s number at) (extended 3 65535 s (at + 1) (byte / 16)) _ (extended_plain 3 65535 s (at + 1) (byte / 16) (omega arith))
    (λ d p. given_onward (Plain s d.next (byte % 16)) (PlainPlace s number at) (extended 4 longest s d.next (byte % 16)) _ (extended_plain 4 longest s d.next (byte % 16) p.inside)
    (λ v q. on_lt P 65535 (number + d.value) (λ m. tt)
    (λ m. on_lt P (length s - v.next) v.value (λ k. tt)
    (λ k. record { delta = d; size = v; delta_plain = p; size_plain = q; here = l; is = refl; small = m; inside = omega (arith, q.inside) }))))))

-- What the first of some options that were found says of the place where it was.
joined_first : (q r : OptionRecord) (rs : List OptionRecord) (a : Answer Tail) → found (onward a (before q)) ≡ r ∷ rs → (q ≡ r) × (found a ≡ rs)
joined_first q r rs (given t) e = (cc, cc)
joined_first q r rs (refused k) e = let z : ◌≡◌ {A = ℕ} 0 1 = cc in absurd (omega arith)

place_first : (r : OptionRecord) (rs : List OptionRecord) (a : Answer Place) (next : OptionRecord → Answer Tail) → found (on_place a (λ q. onward (next q) (before q))) ≡ r ∷ rs
    → (a ≡ given (option r)) × (found (next r) ≡ rs)
place_first r rs (given (ended marked payload)) next e = let z : ◌≡◌ {A = ℕ} 0 1 = cc in absurd (omega arith)
place_first r rs (given (option q)) next e =
    let h = joined_first q r rs (next q) e in
    (ap (λ (x : OptionRecord). given (option x)) h.0, subst (λ (x : OptionRecord). found (next x) ≡ rs) h.0 h.1)
place_first r rs (refused k) next e = let z : ◌≡◌ {A = ℕ} 0 1 = cc in absurd (omega arith)

-- One option more ends where it ends.
pub last_end_lem : (start : ℕ) (rs : List OptionRecord) (r : OptionRecord) → last_end start (rs ++ (r ∷ [])) ≡ end r
last_end_lem start [] r = refl
last_end_lem start (q ∷ rs) r = last_end_lem (end q) rs r

-- The options that are left of all that were found, from a position on.
pub record Left (longest : ℕ) (s : List ℕ) (rs : List OptionRecord) (i number at : ℕ) : Type 0 where
  pub left : found (options longest s (128 - i) number at) ≡ drop i rs
  pub inside : at ≤ length s

-- The next of them, and those after it.
pub record Next (longest : ℕ) (s : List ℕ) (rs : List OptionRecord) (i number at : ℕ) : Type 0 where
  pub r : OptionRecord
  pub first : drop i rs ≡ r ∷ drop (i + 1) rs
  pub plain : PlainOption s number at r
  pub onward : Left longest s rs (i + 1) r.number (end r)

options_first : (longest : ℕ) (s : List ℕ) (room number at : ℕ) (r : OptionRecord) (rs : List OptionRecord) → found (options longest s (suc room) number at) ≡ r ∷ rs
    → (place_at longest s number at ≡ given (option r)) × (found (options longest s room r.number (end r)) ≡ rs)
unfolding options
options_first longest s room number at r rs e =
    place_first r rs (place_at longest s number at) (λ q. options longest s room q.number (end q)) e

pub next : (longest : ℕ) (s : List ℕ) (rs : List OptionRecord) (i number at : ℕ) → Left longest s rs i number at → i < length rs → i < 128 → Next longest s rs i number at
next longest s rs i number at l h k =
    let r = get_or rs i none in
    let e : drop i rs ≡ r ∷ drop (i + 1) rs = rw add-one (drop-cons rs i none h) in
    let room : 128 - i ≡ suc (128 - (i + 1)) = omega arith in
    let f = options_first longest s (128 - (i + 1)) number at r (drop (i + 1) rs) (rw room at l.left ∙ e) in
    let p = on_given (PlainPlace s number at) (place_at longest s number at) (option r) (place_plain longest s number at) f.0 in
    record {
      r = r;
      first = e;
      plain = p;
      onward = record { left = f.1; inside = rw p.is p.inside };
    }

-- What the second walk keeps: once the options that are left are put, all are, and each stands where its place is noted.
pub record Second (strict : Bool) (s places : List ℕ) (count : ℕ) (old out : List ℕ) (number i : ℕ) : Type 0 where
  pub within : i ≤ count
  pub few : count ≤ 128
  pub roomy : count ≤ length places
  pub short : length s ≤ 70000
  pub counted : count ≡ length (options_from strict s (start s))
  pub noted : Places (start s) (options_from strict s (start s)) places
  pub putting : Putting old (options_from strict s (start s)) out i
  pub left : Left (longest strict) s (options_from strict s (start s)) i number (last_end (start s) (take i (options_from strict s (start s))))

-- The place that is noted for the next option, and the option there.
pub record Here (strict : Bool) (s : List ℕ) (i number at : ℕ) : Type 0 where
  pub r : OptionRecord
  pub first : drop i (options_from strict s (start s)) ≡ r ∷ drop (i + 1) (options_from strict s (start s))
  pub plain : PlainOption s number at r
  pub onward : Left (longest strict) s (options_from strict s (start s)) (i + 1) r.number (last_end (start s) (take (i + 1) (options_from strict s (start s))))

module _ (strict : Bool) (s places : List ℕ) (count : ℕ) (old out : List ℕ) (number i : ℕ) (h : Second strict s places count old out number i) where
  pub here : i < count → Here strict s i number (get_or places i 0)
  here l =
      let rs = options_from strict s (start s) in
      let n = next (longest strict) s rs i number _ h.left (omega (arith, h.counted)) (omega (arith, h.few)) in
      let one : take (i + 1) rs ≡ take i rs ++ (n.r ∷ []) =
      take-add i 1 rs ∙ ap (λ (l : List OptionRecord). take i rs ++ take 1 l) n.first in
      record {
        r = n.r;
        first = n.first;
        plain = rw (h.noted i (omega (arith, h.counted)) (omega (arith, h.roomy))) n.plain;
        onward = rw (one, last_end_lem (start s) (take i rs) n.r) n.onward;
      }

  pub second_turn : (l : i < count) (a : Here strict s i number (get_or places i 0)) (value next len : ℕ) → value ≡ number + a.plain.delta.value → next ≡ a.plain.size.next → len ≡ a.plain.size.value
      → Second strict s places count old (set (set (set (set out (11 + 4 * i) value) (11 + 4 * i + 1) 0) (11 + 4 * i + 2) next) (11 + 4 * i + 3) len) value (i + 1)
  second_turn l a value next len e f g =
      let is = a.plain.is in
      let number : a.r.number ≡ value = ap (λ (r : OptionRecord). r.number) is ∙ sym e in
      record {
        within = omega arith;
        few = h.few;
        roomy = h.roomy;
        short = h.short;
        counted = h.counted;
        noted = h.noted;
        putting = rw (e, f, g) (subst (λ (r : OptionRecord). Putting old (options_from strict s (start s)) (set (set (set (set out (11 + 4 * i) r.number) (11 + 4 * i + 1) (number_of_home r.home)) (11 + 4 * i + 2) r.start) (11 + 4 * i + 3) r.len) (i + 1)) is (turn old (options_from strict s (start s)) out i h.putting a.r a.first));
        left = rw number at a.onward;
      }
