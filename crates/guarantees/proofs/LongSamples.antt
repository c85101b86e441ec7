-- The samples between which the modes part: a GET with one option, whose value has 65,535, 65,536 or 65,804 bytes.
use Prim.Native.Nat.{ℕ, ◌-◌, ◌/◌, ◌%◌, ◌≤◌}
use mathlib.Core.Path.{◌≡◌, refl, sym, ap, ◌∙◌}
use mathlib.Core.Bool.{true, false}
use mathlib.Core.List.{List, [], ◌∷◌, ◌++◌, append-nil}
use native.Mathlib.Omega.{arith}
use lib.Dec.{leb}
use lib.ListN.{length}
use borrow.Author.Tests.{le-leb, lt-leb}
use Rattle.ground.specs.Choice.{pick}
use Rattle.ground.specs.Part.{Bytes}
use Rattle.ground.proofs.Choice.{by_lt}
use Rattle.rfc.specs.Message.{Message, WellFormed, layout, header_layout, option_layout, nibble_of, extension_of}
use Rattle.rfc.proofs.Message.{nibble_two, extension_two}
use Rattle.refusal.specs.Answer.{Answer, given, refused}
use Rattle.refusal.proofs.Answers.{on_given}
use Rattle.packet.specs.Packet.{stores}
use Rattle.packet.specs.Meaning.{meaning}
use Rattle.packet.specs.declared.Packet.{Packet}
use Rattle.reading.specs.Reading.{reading}
use Rattle.reading.proofs.Complete.{reads_layout}
use Rattle.reading.proofs.Modes.{read_again, Seen, seen}
use Rattle.guarantees.specs.Samples.{answers}

-- A confirmable GET with the id 1 and one option, of the number 0.
abbrev holding : List ℕ → Message
holding v = record { version = 1; type = 0; code = 1; id = 1; token = []; options = record { number = 0; value = v } ∷ []; payload = [] }

-- What the two modes answer to a datagram, plain first.
abbrev Answers : List ℕ → Answer Message → Answer Message → Type 0
Answers s plain strict = (answers false s ≡ plain) × (answers true s ≡ strict)

-- Its datagram, with the two bytes of the length's extension.
abbrev datagram : ℕ → ℕ → List ℕ → List ℕ
datagram high low v = 0x40 ∷ 0x01 ∷ 0x00 ∷ 0x01 ∷ 0x0E ∷ high ∷ low ∷ v

module _ (v : List ℕ) (b : Bytes v) where
  formed : length v ≤ 65804 → WellFormed (holding v)
  formed h =
      record {
        version = refl;
        type = omega arith;
        code = omega arith;
        id = omega arith;
        token_length = omega arith;
        token = tt;
        count = omega arith;
        rising = (omega arith, tt);
        options = (omega arith, h, b, tt);
        payload = tt;
        empty = λ e. absurd (omega arith);
      }

  laid : 269 ≤ length v → layout (holding v) ≡ datagram ((length v - 269) / 256) ((length v - 269) % 256) v
  unfolding layout header_layout option_layout nibble_of extension_of
  laid h =
      rw (nibble_two (length v) h, extension_two (length v) h)
      (ap (datagram ((length v - 269) / 256) ((length v - 269) % 256)) (append-nil (v ++ []) ∙ append-nil v))

  -- Strict reads it, and plain where the value is within 65535.
  parted : (high low : ℕ) → 269 ≤ length v → length v ≤ 65804 → (length v - 269) / 256 ≡ high → (length v - 269) % 256 ≡ low
      → Answers (datagram high low v) (pick (leb (length v) 65535) (given (holding v)) (refused 4)) (given (holding v))
  parted high low long short e f =
      let s = datagram high low v in
      let same : layout (holding v) ≡ s = laid long ∙ (rw (e, f) refl) in
      let bytes : Bytes s = (omega arith, (omega arith, (omega arith, (omega arith, (omega arith, (omega arith, (omega arith, b))))))) in
      let r = reads_layout (holding v) (formed short) (omega (arith, ap length same)) in
      let is : reading true s ≡ given r.packet = ap (reading true) (sym same) ∙ r.is in
      let means : meaning (stores s []) r.packet ≡ holding v = ap (λ (t : List ℕ). meaning (stores t []) r.packet) (sym same) ∙ r.means [] in
      let k : Seen s [] r.packet = on_given (λ (p : Packet). (edits : List ℕ) → Seen s edits p) (reading true s) r.packet (seen true s bytes) is [] in
      let plain : reading false s ≡ read_again false s (holding v) r.packet = k.answers false ∙ ap (λ (m : Message). read_again false s m r.packet) means in (
        rw plain
            (by_lt 65535 (length v) (λ h. rw (lt-leb (length v) 65535 h) refl) (λ h. rw (le-leb (length v) 65535 h) (ap given means))),
        rw is (ap given means),
      )

-- Each of the three, whatever its value's bytes.
pub long_samples : (v : List ℕ) → Bytes v
    → (length v ≡ 65535 → Answers (datagram 0xFE 0xF2 v) (given (holding v)) (given (holding v)))
    × (length v ≡ 65536 → Answers (datagram 0xFE 0xF3 v) (refused 4) (given (holding v)))
    × (length v ≡ 65804 → Answers (datagram 0xFF 0xFF v) (refused 4) (given (holding v)))
long_samples v b = (
  λ n. rw n at (parted v b 0xFE 0xF2 (omega arith) (omega arith) (omega arith) (omega arith)),
  λ n. rw n at (parted v b 0xFE 0xF3 (omega arith) (omega arith) (omega arith) (omega arith)),
  λ n. rw n at (parted v b 0xFF 0xFF (omega arith) (omega arith) (omega arith) (omega arith)),
)
