-- A datagram that a mode accepts, with the mode as data: the tests that it passed, and what was read.
use Prim.Native.Nat.{ℕ, ◌+◌, ◌<◌, ◌≤◌}
use mathlib.Core.Path.{◌≡◌, refl}
use mathlib.Core.Bool.{Bool, true, false, not}
use mathlib.Core.List.{List}
use native.Mathlib.Omega.{arith}
use lib.ListN.{length}
use lib.Dec.{ltb, eqb}
use borrow.Author.Tests.{ltb-false, eqb-true, not-false, eq-eqb}
use Rattle.ground.specs.Choice.{both, either}
use Rattle.ground.specs.Part.{Bytes}
use Rattle.ground.proofs.Choice.{on, on_lt, neither, not_both}
use Rattle.ground.proofs.Part.{byte_at}
use Rattle.refusal.specs.Answer.{Answer, given, refused}
use Rattle.refusal.proofs.Answers.{Given, given_onward}
use Rattle.header.specs.Header.{raw_in, version_of, token_of}
use Rattle.header.specs.declared.HeaderRaw.{HeaderRaw}
use Rattle.packet.specs.declared.Packet.{Packet}
use Rattle.reading.specs.Options.{Tail, options}
use Rattle.reading.specs.Reading.{longest, packet_of, finished, after_header, reading}

-- A raw header that was read: its fields have their bits, and four bytes are there.
pub record RawSmall (s : List ℕ) (raw : HeaderRaw) : Type 0 where
  pub long : 4 ≤ length s
  pub first : raw.ver_type_tkl < 256
  pub code : raw.code < 256
  pub id : raw.message_id ≤ 65535

raw_small : (s : List ℕ) → Bytes s → Given (RawSmall s) (raw_in s)
unfolding raw_in
raw_small s b =
    on_lt (Given (RawSmall s)) (length s) 4 (λ h. tt)
    (λ h. record { long = h; first = byte_at s 0 b; code = byte_at s 1 b; id = omega (arith, byte_at s 2 b, byte_at s 3 b) })

-- The marker is the last byte.
abbrev pub bare : List ℕ → Tail → Bool
bare s t = both t.marked (eqb t.payload (length s))

-- What both modes pass, and what strict passes besides; and the packet is that of what was read.
pub record Taken (strict : Bool) (s : List ℕ) (p : Packet) : Type 0 where
  pub raw : HeaderRaw
  pub tail : Tail
  pub fits : length s ≤ 70000
  pub header : raw_in s ≡ given raw
  pub small : RawSmall s raw
  pub token_short : token_of raw ≤ 8
  pub token_inside : 4 + token_of raw ≤ length s
  pub options : options (longest strict) s 128 0 (4 + token_of raw) ≡ given tail
  pub version : strict ≡ true → version_of raw ≡ 1
  pub empty : strict ≡ true → raw.code ≡ 0 → length s ≤ 4
  pub alone : strict ≡ true → bare s tail ≡ false
  pub packet : p ≡ packet_of s raw tail

-- An answer that has a value is that value.
given_is : {A : Type 0} (a : Answer A) → Given (λ (v : A). a ≡ given v) a
given_is (given v) = refl
given_is (refused k) = tt

-- What holds of a value, and that it is the answer's.
given_self : {A : Type 0} (P : A → Type 0) (a : Answer A) → Given P a → Given (λ (v : A). P v × (a ≡ given v)) a
given_self P (given v) h = (h, refl)
given_self P (refused k) h = tt

-- What holds of every value that something holds of.
pub given_map : {A : Type 0} {P Q : A → Type 0} → ((v : A) → P v → Q v) → (a : Answer A) → Given P a → Given Q a
given_map f (given v) h = f v h
given_map f (refused k) h = tt

module _ (strict : Bool) (s : List ℕ) where
  after_taken : length s ≤ 70000 → (raw : HeaderRaw) → RawSmall s raw → raw_in s ≡ given raw → Given (Taken strict s) (after_header strict s raw)
  unfolding after_header finished
  after_taken fits raw small is =
      let other = not (eqb (version_of raw) 1) in
      let carries = either (ltb 4 (length s)) (not (eqb (token_of raw) 0)) in
      on (Given (Taken strict s)) (both strict other) (λ e. tt)
      (λ version. on (Given (Taken strict s)) (either (ltb 8 (token_of raw)) (ltb (length s) (4 + token_of raw))) (λ e. tt)
      (λ token. on (Given (Taken strict s)) (both strict (both (eqb raw.code 0) carries)) (λ e. tt)
      (λ empty. given_onward (λ (t : Tail). options (longest strict) s 128 0 (4 + token_of raw) ≡ given t) (Taken strict s) (options (longest strict) s 128 0 (4 + token_of raw)) _
      (given_is (options (longest strict) s 128 0 (4 + token_of raw)))
      (λ t read. on (Given (Taken strict s)) (both strict (bare s t)) (λ e. tt)
      (λ alone.
      let short = neither (ltb 8 (token_of raw)) (ltb (length s) (4 + token_of raw)) token in
      record {
        raw = raw;
        tail = t;
        fits = fits;
        header = is;
        small = small;
        token_short = ltb-false 8 (token_of raw) short.0;
        token_inside = ltb-false (length s) (4 + token_of raw) short.1;
        options = read;
        version = λ h. eqb-true (version_of raw) 1 (not-false (eqb (version_of raw) 1) (not_both strict other version h));
        empty = λ h z. ltb-false 4 (length s) (neither (ltb 4 (length s)) (not (eqb (token_of raw) 0)) (not_both (eqb raw.code 0) carries (not_both strict (both (eqb raw.code 0) carries) empty h) (eq-eqb raw.code 0 z))).0;
        alone = not_both strict (bare s t) alone;
        packet = refl;
      })))))

  pub taken : Bytes s → Given (Taken strict s) (reading strict s)
  unfolding reading
  taken b =
      on_lt (Given (Taken strict s)) 70000 (length s) (λ long. tt)
      (λ fits. given_onward (λ (raw : HeaderRaw). RawSmall s raw × (raw_in s ≡ given raw)) (Taken strict s) (raw_in s) (after_header strict s)
      (given_self (RawSmall s) (raw_in s) (raw_small s b)) (λ raw r. after_taken fits raw r.0 r.1))
