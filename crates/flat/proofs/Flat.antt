-- Laws of the flat form: its length, how its records are put one after the other, and what putting it shows.
use Prim.Native.Nat.{ℕ, suc, ◌+◌, ◌*◌, ◌<◌, ◌≤◌}
use mathlib.Core.Path.{◌≡◌, refl, sym, ap, ◌∙◌}
use mathlib.Core.List.{List, [], ◌∷◌}
use native.Mathlib.Omega.{arith}
use lib.ListN.{length, drop, set, length-set}
use lib.Seq.{sets}
use Rattle.ground.proofs.Part.{sets_append}
use Rattle.refusal.specs.Answer.{given, refused, after}
use Rattle.refusal.proofs.Fitted.{put_placed, no_place}
use Rattle.packet.specs.Packet.{records_of}
use Rattle.packet.specs.declared.Packet.{Packet}
use Rattle.packet.specs.declared.OptionRecord.{OptionRecord}
use Rattle.flat.specs.Flat.{number_of_home, flat_head, flat_records, flat, putting}

pub flat_records_lem : (rs : List OptionRecord) → length (flat_records rs) ≡ 4 * length rs
flat_records_lem [] = refl
flat_records_lem (r ∷ rs) = omega (arith, flat_records_lem rs)

pub flat_length : (p : Packet) → length (flat p) ≡ 11 + 4 * length (records_of p)
unfolding flat
flat_length p = omega (arith, flat_records_lem (records_of p))

-- Four numbers put in a row.
put_four : (out : List ℕ) (at a b c d : ℕ) (rest : List ℕ)
    → sets out at (a ∷ b ∷ c ∷ d ∷ rest) ≡ sets (set (set (set (set out at a) (at + 1) b) (at + 2) c) (at + 3) d) (at + 4) rest
put_four out at a b c d rest =
    let one : suc at ≡ at + 1 = omega arith in
    let two : suc (suc at) ≡ at + 2 = omega arith in
    let three : suc (suc (suc at)) ≡ at + 3 = omega arith in
    let four : suc (suc (suc (suc at))) ≡ at + 4 = omega arith in
    λ i. sets (set (set (set (set out at a) (one i) b) (two i) c) (three i) d) (four i) rest

-- What the loop over the records keeps: once the rest is put, all is.
pub record Putting (old : List ℕ) (rs : List OptionRecord) (out : List ℕ) (i : ℕ) : Type 0 where
  pub kept : length out ≡ length old
  pub whole : sets out (11 + 4 * i) (flat_records (drop i rs)) ≡ sets old 11 (flat_records rs)

pub start : (old : List ℕ) (rs : List OptionRecord) → Putting old rs old 0
start old rs = record { kept = refl; whole = refl }

pub turn : (old : List ℕ) (rs : List OptionRecord) (out : List ℕ) (i : ℕ) → Putting old rs out i → (r : OptionRecord) → drop i rs ≡ r ∷ drop (i + 1) rs
    → Putting old rs (set (set (set (set out (11 + 4 * i) r.number) (11 + 4 * i + 1) (number_of_home r.home)) (11 + 4 * i + 2) r.start) (11 + 4 * i + 3) r.len) (i + 1)
turn old rs out i p r e =
    let next : 11 + 4 * (i + 1) ≡ 11 + 4 * i + 4 = omega arith in
    record {
      kept = simp length-set p.kept;
      whole =
          rw next
          (sym (put_four out (11 + 4 * i) r.number (number_of_home r.home) r.start r.len (flat_records (drop (i + 1) rs)))
          ∙ (ap (λ (l : List OptionRecord). sets out (11 + 4 * i) (flat_records l)) (sym e) ∙ p.whole));
    }

pub all : (old : List ℕ) (rs : List OptionRecord) (out : List ℕ) (i : ℕ) → Putting old rs out i → drop i rs ≡ [] → out ≡ sets old 11 (flat_records rs)
all old rs out i p e = ap (λ (l : List OptionRecord). sets out (11 + 4 * i) (flat_records l)) (sym e) ∙ p.whole

-- Too little room is refused, and the output is as it was.
pub no_room : (p : Packet) (old : List ℕ) → length old < 11 + 4 * length (records_of p)
    → (refused 12 ≡ putting (length old) p) × (old ≡ after (putting (length old) p) 0 (flat p) old)
no_room p old h = no_place old (flat p) 0 tt (omega (arith, flat_length p))

-- Head and records put one after the other are the flat form.
pub puts : (p : Packet) (old mid new : List ℕ) → 11 + 4 * length (records_of p) ≤ length old
    → mid ≡ sets old 0 (flat_head p.header p.token p.payload (length (records_of p))) → new ≡ sets mid 11 (flat_records (records_of p))
    → (given tt ≡ putting (length old) p) × (new ≡ after (putting (length old) p) 0 (flat p) old)
unfolding flat
puts p old mid new h a b =
    let head = flat_head p.header p.token p.payload (length (records_of p)) in
    put_placed old (flat p) new 0 tt (omega (arith, flat_length p))
    (b ∙ (ap (λ (l : List ℕ). sets l 11 (flat_records (records_of p))) a ∙ sym (sets_append old 0 head (flat_records (records_of p)))))
