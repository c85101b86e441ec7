-- Laws of reading a uint, over the width: what is given and what is refused, and the round trips.
use Prim.Native.Nat.{ℕ, ◌+◌, ◌-◌, ◌^◌, ◌<◌, ◌≤◌, min}
use mathlib.Core.Path.{◌≡◌, refl, sym, ap, ◌∙◌}
use mathlib.Core.List.{List}
use native.Mathlib.Nat.{pow-le-pow_right, lt_of_lt_of_le, min-le_left, min-le_right, le-min, le_trans}
use native.Mathlib.Omega.{arith}
use lib.Dec.{lit<}
use lib.ListN.{length, get_or, take}
use mir.Val.{Fits}
use mir.Syntax.{w8}
use borrow.Author.Tests.{lt-ltb, le-ltb}
use Rattle.ground.specs.Part.{Bytes}
use Rattle.rfc.specs.Uint.{uint, without_zeros}
use Rattle.ground.proofs.Choice.{on_lt}
use Rattle.ground.proofs.Part.{bytes_of}
use Rattle.rfc.proofs.Uint.{read_written, length_uint, bytes_uint, uint_enough}
use Rattle.refusal.specs.Answer.{Answer, given, refused, fitted, after}
use Rattle.refusal.proofs.Answers.{not_refused, same_given}
use Rattle.refusal.proofs.Fitted.{front_after}
use Rattle.option_value.specs.Uint.{Padded, with_zeros, padded, read_uint, ReadsUint, Pads, uint_of}
use Rattle.option_value.specs.declared.Uint.{Uint}
use Rattle.refusal.specs.declared.Refusal.{Refusal}
use Rattle.std.specs.Prelude.{Result, Ok}
use Rattle.option_value.proofs.Padding.{pads, one_pads}

-- More bytes than the width are refused.
pub read_over : (width : ℕ) (bs : List ℕ) → width < length bs → read_uint width bs ≡ refused 13
unfolding read_uint
read_over width bs h = rw (lt-ltb (min width 8) (length bs) (omega (arith, min-le_left width 8)))

-- More than 8 bytes are refused, whatever the width.
pub read_long : (width : ℕ) (bs : List ℕ) → 8 < length bs → read_uint width bs ≡ refused 13
unfolding read_uint
read_long width bs h = rw (lt-ltb (min width 8) (length bs) (omega (arith, min-le_right width 8)))

-- Any others are read.
pub read_within : (width : ℕ) (bs : List ℕ) → length bs ≤ width → length bs ≤ 8 → read_uint width bs ≡ given (padded bs)
unfolding read_uint
read_within width bs h k = rw (le-ltb (min width 8) (length bs) (le-min h k))

-- What is known of a value that was read.
pub record Given (width : ℕ) (bs : List ℕ) (p : Padded ℕ) : Type 0 where
  pub short : length bs ≤ min width 8
  pub value : p ≡ padded bs

pub read_given : (width : ℕ) (p : Padded ℕ) (bs : List ℕ) → read_uint width bs ≡ given p → Given width bs p
unfolding read_uint
read_given width p bs =
    on_lt (λ (a : Answer (Padded ℕ)). a ≡ given p → Given width bs p) (min width 8) (length bs)
    (λ h e. not_refused (sym e)) (λ h e. record { short = h; value = sym (same_given e) })

-- A number and a count are read exactly where the rule holds of them.
pub read_pads : (width : ℕ) (p : Padded ℕ) (bs : List ℕ) → Bytes bs → read_uint width bs ≡ given p → Pads (min width 8) bs p
read_pads width p bs b e =
    let g : Given width bs p = read_given width p bs e in
    rw g.value (pads (min width 8) bs b g.short)

pub pads_read : (width : ℕ) (p : Padded ℕ) (bs : List ℕ) → Bytes bs → Pads (min width 8) bs p → read_uint width bs ≡ given p
pads_read width p bs b h =
    read_within width bs (le_trans h.short (min-le_left width 8)) (le_trans h.short (min-le_right width 8))
    ∙ ap given (one_pads (pads (min width 8) bs b h.short) h)

-- A number read has room in its width.
pub read_room : (width : ℕ) (p : Padded ℕ) (bs : List ℕ) → Bytes bs → read_uint width bs ≡ given p → p.value < 256 ^ width
read_room width p bs b e =
    lt_of_lt_of_le (read_pads width p bs b e).room (pow-le-pow_right (lit< tt) (min-le_left width 8))

-- What a reader of a width answers as a number has room in the width: a type of that width holds it.
pub read_narrow : (width : ℕ) (bs : List ℕ) {r : Result Uint Refusal} {u : Uint} → ((i : ℕ) → Fits w8 (get_or bs i 0)) → ReadsUint width bs (uint_of r) → r ≡ Ok u → u.number < 256 ^ width
read_narrow width bs {u = u} small e h =
    read_room width (with_zeros u.zeros u.number) bs (bytes_of bs (λ i. (small i).fits)) (sym e ∙ ap uint_of h)

-- The widest type writes what a narrower one writes.
pub uint_narrow : (width n : ℕ) → width ≤ 8 → n < 256 ^ width → uint 8 n ≡ uint width n
uint_narrow width n w h =
    let e : 8 ≡ width + (8 - width) = omega arith in
    ap (λ (k : ℕ). uint k n) e ∙ uint_enough width (8 - width) n h

-- Written then read is the number, and no leading zero.
pub written_then_read : (width n : ℕ) → width ≤ 8 → n < 256 ^ width → read_uint width (uint width n) ≡ given (with_zeros 0 n)
written_then_read width n w h =
    let short : length (uint width n) ≤ width = length_uint width n in
    read_within width (uint width n) short (omega arith)
    ∙ ap given
    (one_pads (pads width (uint width n) (bytes_uint width n) short)
    (record { short = short; room = h; bytes = refl }))

-- So it is with the part of an output that was written.
pub output_then_read : (width n : ℕ) (old : List ℕ) (count : ℕ) → width ≤ 8 → n < 256 ^ width → fitted (length old) (uint width n) ≡ given count → read_uint width (take count (after (fitted (length old) (uint width n)) 0 (uint width n) old)) ≡ given (with_zeros 0 n)
output_then_read width n old count w h e = rw (front_after old (uint width n) count e) (written_then_read width n w h)

-- Read then written is the value without its leading zeros.
pub read_then_written : (width : ℕ) (p : Padded ℕ) (bs : List ℕ) → Bytes bs → read_uint width bs ≡ given p → uint width p.value ≡ without_zeros bs
read_then_written width p bs b e =
    let g : Given width bs p = read_given width p bs e in
    rw g.value (read_written width bs b (le_trans g.short (min-le_left width 8)))
