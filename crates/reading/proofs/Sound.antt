-- What is read is laid out there: an extension, an option, all options of a datagram.
use Prim.Native.Nat.{ℕ, zero, suc, ◌+◌, ◌-◌, ◌*◌, ◌/◌, ◌%◌, ◌<◌, ◌≤◌}
use mathlib.Core.Path.{◌≡◌, refl, sym, ap, ◌∙◌}
use mathlib.Core.Bool.{Bool, true, false}
use mathlib.Core.List.{List, [], ◌∷◌, ◌++◌, map, append_assoc}
use native.Mathlib.Numerals.{add-one}
use native.Mathlib.Omega.{arith}
use lib.ListN.{length, get_or, take, drop, length-drop, take-append-drop, drop_of_length-le}
use lib.Seq.{drop-cons, drop-drop, length-take-le, drop-length}
use borrow.Author.Tests.{le-leb}
use Rattle.rfc.specs.Message.{Opt, nibble_of, extension_of, option_layout, options_layout, Rising, Options}
use Rattle.ground.specs.Part.{Bytes}
use Rattle.ground.proofs.Choice.{on_lt, on_le, on_eq}
use Rattle.rfc.proofs.Message.{nibble_none, nibble_one, nibble_two, extension_none, extension_one, extension_two}
use Rattle.ground.proofs.Part.{byte_at, bytes_take, bytes_drop}
use Rattle.refusal.specs.Answer.{Answer, given, refused}
use Rattle.packet.specs.Packet.{chosen, stores, bytes_in}
use Rattle.packet.specs.Meaning.{option_of}
use Rattle.packet.specs.declared.Home.TheVariants.{Datagram}
use Rattle.packet.specs.declared.OptionRecord.{OptionRecord}
use Rattle.option_reading.specs.Option.{Value, Place, ended, option, extended, value_at, length_at, option_at, place_at, end}
use Rattle.reading.specs.Options.{Tail, options, on_place, before}
use Rattle.refusal.proofs.Answers.{Given, given_onward}

-- The byte at a position and what follows.
byte_first : (s : List ℕ) (at : ℕ) → at < length s → drop at s ≡ get_or s at 0 ∷ drop (at + 1) s
byte_first s at h = rw (add-one, drop-cons s at 0 h)

-- An extension: its nibble is the number's, and its bytes stand at the position.
pub record Extends (s : List ℕ) (at nibble : ℕ) (v : Value) : Type 0 where
  pub says : nibble_of v.value ≡ nibble
  pub bytes : drop at s ≡ extension_of v.value ++ drop v.next s
  pub small : v.value ≤ 65804
  pub inside : v.next ≤ length s

module _ (s : List ℕ) (b : Bytes s) (at : ℕ) (h : at ≤ length s) where
  extends_none : (nibble : ℕ) → nibble < 13 → Extends s at nibble (record { value = nibble; next = at })
  extends_none nibble l =
      record { says = nibble_none nibble l; bytes = rw (extension_none nibble l); small = omega arith; inside = h }

  extends_one : 1 ≤ length s - at → Extends s at 13 (record { value = 13 + get_or s at 0; next = at + 1 })
  extends_one r =
      let x = get_or s at 0 in
      let xs : x < 256 = byte_at s at b in
      let back : 13 + x - 13 ≡ x = omega arith in
      let e : extension_of (13 + x) ≡ (x ∷ []) = extension_one (13 + x) (omega arith) (omega arith) ∙ ap (λ (y : ℕ). y ∷ []) back in
      record {
        says = nibble_one (13 + x) (omega arith) (omega arith);
        bytes = rw e (byte_first s at (omega arith));
        small = omega arith;
        inside = omega arith;
      }

  extends_two : 2 ≤ length s - at → Extends s at 14 (record { value = 269 + (get_or s at 0 * 256 + get_or s (at + 1) 0); next = at + 2 })
  extends_two r =
      let x = get_or s at 0 in
      let y = get_or s (at + 1) 0 in
      let xs : x < 256 = byte_at s at b in
      let ys : y < 256 = byte_at s (at + 1) b in
      let v = 269 + (x * 256 + y) in
      let high : (v - 269) / 256 ≡ x = omega arith in
      let low : (v - 269) % 256 ≡ y = omega arith in
      let e : extension_of v ≡ (x ∷ y ∷ []) = extension_two v (omega arith) ∙ (rw (high, low) refl) in
      let two : at + 1 + 1 ≡ at + 2 = omega arith in
      record {
        says = nibble_two v (omega arith);
        bytes = rw e (byte_first s at (omega arith) ∙ (rw (byte_first s (at + 1) (omega arith), two) refl));
        small = omega arith;
        inside = omega arith;
      }

  pub extends : (over most nibble : ℕ) → Given (Extends s at nibble) (extended over most s at nibble)
  unfolding extended
  extends over most nibble =
      on_lt (Given (Extends s at nibble)) nibble 13 (extends_none nibble)
      (λ l.
      on_eq (Given (Extends s at nibble)) nibble 13
      (λ e. on_lt (Given (Extends s at nibble)) (length s - at) 1 (λ r. tt) (λ r. rw e (extends_one r)))
      (λ e.
      on_eq (Given (Extends s at nibble)) nibble 14
      (λ f. on_lt (Given (Extends s at nibble)) (length s - at) 2 (λ r. tt)
      (λ r. on_lt (Given (Extends s at nibble)) most (269 + (get_or s at 0 * 256 + get_or s (at + 1) 0)) (λ m. tt) (λ m. rw f (extends_two r))))
      (λ f. tt)))

-- The value of a range that is inside.
pub inside_bytes : (s : List ℕ) (start len : ℕ) → start + len ≤ length s → bytes_in s start len ≡ take len (drop start s)
unfolding bytes_in
inside_bytes s start len h = rw (le-leb (start + len) (length s) h)

pub inside_length : (s : List ℕ) (start len : ℕ) → start + len ≤ length s → length (bytes_in s start len) ≡ len
inside_length s start len h = rw (inside_bytes s start len h) (length-take-le len (drop start s) (rw length-drop (omega arith)))

pub inside_are : (s : List ℕ) (start len : ℕ) → Bytes s → start + len ≤ length s → Bytes (bytes_in s start len)
inside_are s start len b h = rw (inside_bytes s start len h) (bytes_take len (drop start s) (bytes_drop start s b))

pub inside_split : (s : List ℕ) (start len : ℕ) → start + len ≤ length s → drop start s ≡ bytes_in s start len ++ drop (start + len) s
inside_split s start len h =
    rw (inside_bytes s start len h) (sym (take-append-drop len (drop start s)) ∙ ap (λ (l : List ℕ). take len (drop start s) ++ l) (drop-drop len start s))

-- The option of a record whose value lies in the datagram.
abbrev pub option_in : List ℕ → OptionRecord → Opt
option_in s r = record { number = r.number; value = bytes_in s r.start r.len }

-- Records whose values lie in the datagram: they are the same options whatever the edit store holds.
abbrev pub InDatagram : List OptionRecord → Type 0
InDatagram [] = Unit
InDatagram (r ∷ rs) = (r.home ≡ Datagram) × InDatagram rs

pub options_in_lem : (s edits : List ℕ) (rs : List OptionRecord) → InDatagram rs → map (option_of (stores s edits)) rs ≡ map (option_in s) rs
options_in_lem s edits [] h = refl
options_in_lem s edits (r ∷ rs) h =
    λ i. record { number = r.number; value = bytes_in (chosen (h.0 i) s edits) r.start r.len } ∷ options_in_lem s edits rs h.1 i

-- An option: laid out at its position, after a number that is no higher.
pub record Laid (s : List ℕ) (number at : ℕ) (r : OptionRecord) : Type 0 where
  pub bytes : drop at s ≡ option_layout number (option_in s r) ++ drop (end r) s
  pub home : r.home ≡ Datagram
  pub rises : number ≤ r.number
  pub low : r.number ≤ 65535
  pub short : r.len ≤ 65804
  pub inside : end r ≤ length s

-- The end of the options: FF and the payload, or nothing.
abbrev pub marks : Bool → List ℕ → List ℕ
marks true rest = 255 ∷ rest
marks false rest = rest

pub record Ended (s : List ℕ) (at : ℕ) (marked : Bool) (payload : ℕ) : Type 0 where
  pub bytes : drop at s ≡ marks marked (drop payload s)
  pub inside : payload ≤ length s
  pub unmarked : marked ≡ false → payload ≡ length s

abbrev pub Stands : List ℕ → ℕ → ℕ → Place → Type 0
Stands s number at (ended marked payload) = Ended s at marked payload
Stands s number at (option r) = Laid s number at r

split_two : (a c d e : List ℕ) → (a ++ (c ++ d)) ++ e ≡ a ++ (c ++ (d ++ e))
split_two a c d e = simp append_assoc

module _ (longest : ℕ) (s : List ℕ) (b : Bytes s) where
  laid : (number at : ℕ) (h : at < length s) (delta : Value) → Extends s (at + 1) (get_or s at 0 / 16) delta → (len : Value) → Extends s delta.next (get_or s at 0 % 16) len
      → number + delta.value ≤ 65535 → len.value ≤ length s - len.next
      → Laid s number at (record { number = number + delta.value; home = Datagram; spare = 0; start = len.next; len = len.value })
  unfolding option_layout
  laid number at h delta d len l low fits =
      let ends : len.next + len.value ≤ length s = omega (arith, l.inside) in
      let n : number + delta.value - number ≡ delta.value = omega arith in
      let first : get_or s at 0 ≡ nibble_of delta.value * 16 + nibble_of len.value = rw (d.says, l.says) (omega arith) in
      record {
        bytes = rw (n, inside_length s len.next len.value ends, ← first, byte_first s at h, d.bytes, l.bytes, inside_split s len.next len.value ends)
            (ap (λ (l : List ℕ). get_or s at 0 ∷ l) (sym (split_two (extension_of delta.value) (extension_of len.value) (bytes_in s len.next len.value) (drop (len.next + len.value) s))));
        home = refl;
        rises = omega arith;
        low = low;
        short = l.small;
        inside = ends;
      }

  value_stands : (number at : ℕ) (h : at < length s) (delta : Value) → Extends s (at + 1) (get_or s at 0 / 16) delta → (len : Value) → Extends s delta.next (get_or s at 0 % 16) len
      → Given (Stands s number at) (value_at s (number + delta.value) len.next len.value)
  unfolding value_at
  value_stands number at h delta d len l =
      on_lt (Given (Stands s number at)) 65535 (number + delta.value) (λ over. tt)
      (λ low. on_lt (Given (Stands s number at)) (length s - len.next) len.value (λ past. tt) (λ fits. laid number at h delta d len l low fits))

  option_stands : (number at : ℕ) → at < length s → Given (Stands s number at) (option_at longest s number at)
  unfolding option_at length_at
  option_stands number at h =
      given_onward (Extends s (at + 1) (get_or s at 0 / 16)) (Stands s number at) (extended 3 65535 s (at + 1) (get_or s at 0 / 16)) _
      (extends s b (at + 1) (omega arith) 3 65535 (get_or s at 0 / 16))
      (λ delta d. given_onward (Extends s delta.next (get_or s at 0 % 16)) (Stands s number at) (extended 4 longest s delta.next (get_or s at 0 % 16)) _
      (extends s b delta.next d.inside 4 longest (get_or s at 0 % 16))
      (value_stands number at h delta d))

  pub stands : (number at : ℕ) → at ≤ length s → Given (Stands s number at) (place_at longest s number at)
  unfolding place_at
  stands number at inside =
      on_le (Given (Stands s number at)) (length s) at
      (λ h. record { bytes = drop_of_length-le s h ∙ sym (drop-length s); inside = omega arith; unmarked = λ _. refl })
      (λ h. on_eq (Given (Stands s number at)) (get_or s at 0) 255
      (λ e. record { bytes = byte_first s at h ∙ (rw e refl); inside = omega arith; unmarked = λ t. cc })
      (λ e. option_stands number at h))

-- The options that were read, laid out from a position, and what ends them.
pub record Follows (s : List ℕ) (room number at : ℕ) (t : Tail) : Type 0 where
  pub bytes : drop at s ≡ options_layout number (map (option_in s) t.records) ++ marks t.marked (drop t.payload s)
  pub homes : InDatagram t.records
  pub rising : Rising number (map (option_in s) t.records)
  pub options : Options (map (option_in s) t.records)
  pub count : length t.records ≤ room
  pub inside : t.payload ≤ length s
  pub unmarked : t.marked ≡ false → t.payload ≡ length s

pub given_place : (P : Place → Type 0) (Q : Tail → Type 0) (a : Answer Place) (next : OptionRecord → Answer Tail) → Given P a
    → ((marked : Bool) (payload : ℕ) → P (ended marked payload) → Q (record { records = []; marked = marked; payload = payload }))
    → ((r : OptionRecord) → P (option r) → Given Q (next r)) → Given Q (on_place a next)
given_place P Q (given (ended marked payload)) next h f g = f marked payload h
given_place P Q (given (option r)) next h f g = g r h
given_place P Q (refused k) next h f g = tt

module _ (longest : ℕ) (s : List ℕ) (b : Bytes s) where
  none_follow : (room number at : ℕ) (marked : Bool) (payload : ℕ) → Ended s at marked payload → Follows s room number at (record { records = []; marked = marked; payload = payload })
  none_follow room number at marked payload e =
      record { bytes = e.bytes; homes = tt; rising = tt; options = tt; count = omega arith; inside = e.inside; unmarked = e.unmarked }

  one_follows : (room number at : ℕ) (r : OptionRecord) → Laid s number at r → (t : Tail) → Follows s room r.number (end r) t
      → Follows s (suc room) number at (record { records = r ∷ t.records; marked = t.marked; payload = t.payload })
  one_follows room number at r l t f =
      record {
        bytes = l.bytes ∙ (rw f.bytes (sym (append_assoc (option_layout number (option_in s r)) _ _)));
        homes = (l.home, f.homes);
        rising = (l.rises, f.rising);
        options = (l.low, rw (inside_length s r.start r.len l.inside) l.short, inside_are s r.start r.len b l.inside, f.options);
        count = omega (arith, f.count);
        inside = f.inside;
        unmarked = f.unmarked;
      }

  pub follows : (room number at : ℕ) → at ≤ length s → Given (Follows s room number at) (options longest s room number at)
  unfolding options
  follows zero number at h =
      given_place (Stands s number at) (Follows s zero number at) (place_at longest s number at) _ (stands longest s b number at h) (none_follow zero number at) (λ r l. tt)
  follows (suc room) number at h =
      given_place (Stands s number at) (Follows s (suc room) number at) (place_at longest s number at) _ (stands longest s b number at h) (none_follow (suc room) number at)
      (λ r l. given_onward (Follows s room r.number (end r)) (Follows s (suc room) number at) (options longest s room r.number (end r)) (before r)
      (follows room r.number (end r) l.inside) (one_follows room number at r l))
