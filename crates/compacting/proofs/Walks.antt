-- The walks over the records: the lengths summed, the values put one after the other, and the records relaid.
use Prim.Native.Nat.{ℕ, suc, ◌+◌, ◌-◌, ◌*◌, ◌<◌, ◌≤◌}
use mathlib.Core.Path.{◌≡◌, refl, sym, ap, ◌∙◌}
use mathlib.Core.List.{List, [], ◌∷◌, ◌++◌, append_assoc, append-nil}
use native.Mathlib.Nat.{zero-add}
use native.Mathlib.Omega.{arith}
use lib.ListN.{length, drop, set, replicate, length-append}
use lib.Seq.{set_at}
use Rattle.placing.specs.Put.{Puts}
use Rattle.placing.proofs.Puts.{Putting, putting_start, putting_turn, putting_end}
use Rattle.packet.specs.Limits.{max_options}
use Rattle.packet.specs.Packet.{Stores, none, value_of, records_of}
use Rattle.packet.proofs.Records.{none_left}
use Rattle.packet.specs.declared.Packet.{Packet}
use Rattle.packet.specs.declared.OptionRecord.{OptionRecord}
use Rattle.compacting.specs.Compacting.{values_of, values_length, in_edits, moved_to, relaid, relocated}

-- Before the record at an index: what is summed and what is left are the sum of all.
pub record Summing (rs : List OptionRecord) (sum i : ℕ) : Type 0 where
  pub all : sum + values_length (drop i rs) ≡ values_length rs
  pub small : sum ≤ i * 4294967296

pub sum_start : (rs : List OptionRecord) → Summing rs 0 0
sum_start rs = record { all = zero-add (values_length rs); small = omega arith }

module _ (rs : List OptionRecord) (sum i : ℕ) (w : Summing rs sum i) where
  pub sum_turn : (x : OptionRecord) → drop i rs ≡ x ∷ drop (i + 1) rs → (n : ℕ) → n ≡ x.len → n < 4294967296 → Summing rs (sum + n) (i + 1)
  sum_turn x d n e h =
      record { all = omega (arith, w.all, ap values_length d); small = omega (arith, w.small) }

  pub sum_end : drop i rs ≡ [] → sum ≡ values_length rs
  sum_end d = omega (arith, w.all, ap values_length d)

-- Before the record at an index: once the values that are left are put, all are.
pub record Gathering (s : Stores) (rs : List OptionRecord) (old : List ℕ) (from : ℕ) (out : List ℕ) (next i : ℕ) : Type 0 where
  pub putting : Putting old from (values_of s rs) out next (values_of s (drop i rs))

pub gather_start : (s : Stores) (rs : List OptionRecord) (old : List ℕ) (from : ℕ) → Gathering s rs old from old from 0
gather_start s rs old from = record { putting = putting_start old from (values_of s rs) }

module _ (s : Stores) (rs : List OptionRecord) (old : List ℕ) (from : ℕ) (out : List ℕ) (next i : ℕ) (w : Gathering s rs old from out next i) where
  pub gather_turn : (x : OptionRecord) → drop i rs ≡ x ∷ drop (i + 1) rs → (r : ℕ) (new : List ℕ) → Puts out next (value_of s x) r new → Gathering s rs old from new r (i + 1)
  gather_turn x d r new p = record { putting = putting_turn w.putting (ap (values_of s) d) p }

  pub gather_end : drop i rs ≡ [] → Puts old from (values_of s rs) next out
  gather_end d = putting_end w.putting (ap (values_of s) d)

-- Before the record at an index: those before it stand relaid in the array's first places, and what is left goes on from a place.
pub record Relaying (from : ℕ) (rs records : List OptionRecord) (next i : ℕ) : Type 0 where
  pub done : List OptionRecord
  pub counted : length done ≡ i
  pub array : records ≡ done ++ replicate (max_options - i) none
  pub whole : relaid from rs ≡ done ++ relaid next (drop i rs)
  pub sum : next + values_length (drop i rs) ≡ from + values_length rs

pub relay_start : (from : ℕ) (rs : List OptionRecord) → Relaying from rs (replicate max_options none) from 0
relay_start from rs = record { done = []; counted = refl; array = refl; whole = refl; sum = refl }

module _ (from : ℕ) (rs records : List OptionRecord) (next i : ℕ) (w : Relaying from rs records next i) where
  -- What is left is at least the value at hand.
  pub relay_fits : (x : OptionRecord) → drop i rs ≡ x ∷ drop (i + 1) rs → next + x.len ≤ from + values_length rs
  relay_fits x d = omega (arith, w.sum, ap values_length d)

  pub relay_turn : (x : OptionRecord) → drop i rs ≡ x ∷ drop (i + 1) rs → i < max_options → Relaying from rs (set records i (moved_to next x)) (next + x.len) (i + 1)
  relay_turn x d h =
      let left : max_options - i ≡ suc (max_options - (i + 1)) = omega arith in
      let rest = replicate (max_options - (i + 1)) none in
      record {
        done = w.done ++ (moved_to next x ∷ []);
        counted = simp length-append (omega (arith, w.counted));
        array = rw (w.array, left) (set_at w.done none rest (moved_to next x) i w.counted ∙ sym (append_assoc w.done (moved_to next x ∷ []) rest));
        whole = w.whole ∙ (ap (λ (l : List OptionRecord). w.done ++ relaid next l) d ∙ sym (append_assoc w.done (moved_to next x ∷ []) (relaid (next + x.len) (drop (i + 1) rs))));
        sum = omega (arith, w.sum, ap values_length d);
      }

  -- At the end all stand in the array.
  relay_array : drop i rs ≡ [] → records ≡ relaid from rs ++ replicate (max_options - i) none
  relay_array d =
      w.array
      ∙ ap (λ (l : List OptionRecord). l ++ replicate (max_options - i) none)
      (sym (w.whole ∙ (ap (λ (l : List OptionRecord). w.done ++ relaid next l) d ∙ append-nil w.done)))

  relay_end : drop i rs ≡ [] → next ≡ from + values_length rs
  relay_end d = omega (arith, w.sum, ap values_length d)

-- The packet that is made of them.
pub relocates : (p : Packet) (records : List OptionRecord) (next i : ℕ) → Relaying p.token.len (records_of p) records next i → i ≡ length (records_of p)
    → record { header = p.header; token = in_edits 0 p.token.len; count = p.count; options = records; payload = in_edits next p.payload.len } ≡ relocated p
relocates p records next i w e =
    let d = none_left (records_of p) i (omega arith) in
    let place = relay_end p.token.len (records_of p) records next i w d in
    let array : records ≡ relaid p.token.len (records_of p) ++ replicate (max_options - length (records_of p)) none = relay_array p.token.len (records_of p) records next i w d ∙ ap (λ (k : ℕ). relaid p.token.len (records_of p) ++ replicate (max_options - k) none) e in
    λ k. record {
      header = p.header;
      token = in_edits 0 p.token.len;
      count = p.count;
      options = array k;
      payload = in_edits (place k) p.payload.len;
    }
