-- Laws of records that are relaid: numbers, lengths and order stay, each value ends within the sum, and a second time changes
-- nothing.
use Prim.Native.Nat.{ℕ, ◌+◌, ◌-◌, ◌≤◌}
use mathlib.Core.Path.{◌≡◌, refl, ap, ◌∙◌}
use mathlib.Core.Bool.{false}
use mathlib.Core.List.{List, [], ◌∷◌, ◌++◌}
use native.Mathlib.Omega.{arith}
use lib.ListN.{length, replicate}
use lib.Dec.{ltb}
use lib.Seq.{take_at}
use borrow.Author.Tests.{le-ltb}
use Rattle.ground.specs.Choice.{either}
use Rattle.ground.proofs.Choice.{neither, none_of}
use Rattle.packet.specs.Limits.{max_options, max_value}
use Rattle.packet.specs.Packet.{none, range_of, records_of}
use Rattle.packet.specs.declared.Packet.{Packet}
use Rattle.packet.specs.declared.OptionRecord.{OptionRecord}
use Rattle.judging.specs.Judge.{outside, falling, bad_value, bad_values, option_size, options_size}
use Rattle.judging.specs.declared.Lengths.{Lengths}
use Rattle.judging.proofs.Good.{Good, value_length}
use Rattle.compacting.specs.Compacting.{values_length, live_length, in_edits, moved_to, relaid, relocated}

pub relaid_length : (at : ℕ) (rs : List OptionRecord) → length (relaid at rs) ≡ length rs
relaid_length at [] = refl
relaid_length at (r ∷ rs) = rw (relaid_length (at + r.len) rs)

pub relaid_sum : (at : ℕ) (rs : List OptionRecord) → values_length (relaid at rs) ≡ values_length rs
relaid_sum at [] = refl
relaid_sum at (r ∷ rs) = rw (relaid_sum (at + r.len) rs)

pub relaid_again : (at : ℕ) (rs : List OptionRecord) → relaid at (relaid at rs) ≡ relaid at rs
relaid_again at [] = refl
relaid_again at (r ∷ rs) = ap (λ (l : List OptionRecord). moved_to at r ∷ l) (relaid_again (at + r.len) rs)

pub relaid_falling : (before at : ℕ) (rs : List OptionRecord) → falling before (relaid at rs) ≡ falling before rs
relaid_falling before at [] = refl
relaid_falling before at (r ∷ rs) = ap (either (ltb r.number before)) (relaid_falling r.number (at + r.len) rs)

pub relaid_size : (before at : ℕ) (rs : List OptionRecord) → options_size before (relaid at rs) ≡ options_size before rs
unfolding option_size
relaid_size before at [] = refl
relaid_size before at (r ∷ rs) = ap (λ (n : ℕ). option_size before r + n) (relaid_size r.number (at + r.len) rs)

-- Good values stay good in an edit store that holds them all.
pub relaid_values : (was then : Lengths) (at : ℕ) (rs : List OptionRecord) → bad_values was rs ≡ false → at + values_length rs ≤ then.edits
    → bad_values then (relaid at rs) ≡ false
relaid_values was then at [] e h = refl
relaid_values was then at (r ∷ rs) e h =
    let both = neither (bad_value was r) (bad_values was rs) e in
    let inside : outside then (range_of (moved_to at r)) ≡ false = le-ltb then.edits (at + r.len) (omega arith) in
    let short : ltb max_value r.len ≡ false = le-ltb max_value r.len (value_length was r both.0) in
    none_of (bad_value then (moved_to at r)) (bad_values then (relaid (at + r.len) rs)) (none_of (outside then (range_of (moved_to at r))) (ltb max_value r.len) inside short) (relaid_values was then (at + r.len) rs both.1 (omega arith))

-- The packet with its ranges rewritten, whose array holds all records that it counts.
module _ (p : Packet) (used : length (records_of p) ≡ p.count) where
  abbrev records : List OptionRecord
  records = relaid p.token.len (records_of p)

  pub relocated_records : records_of (relocated p) ≡ records
  relocated_records =
      take_at records (replicate (max_options - length (records_of p)) none) p.count (relaid_length p.token.len (records_of p) ∙ used)

  pub relocated_sum : live_length (relocated p) ≡ live_length p
  relocated_sum =
      ap (λ (n : ℕ). p.token.len + (n + p.payload.len)) (ap values_length relocated_records ∙ relaid_sum p.token.len (records_of p))

  -- A second time changes nothing.
  pub relocated_again : relocated (relocated p) ≡ relocated p
  relocated_again =
      let again : relaid p.token.len (records_of (relocated p)) ≡ records = ap (relaid p.token.len) relocated_records ∙ relaid_again p.token.len (records_of p) in
      let count : length (records_of (relocated p)) ≡ length (records_of p) = ap length relocated_records ∙ relaid_length p.token.len (records_of p) in
      let sum : values_length (records_of (relocated p)) ≡ values_length (records_of p) = ap values_length relocated_records ∙ relaid_sum p.token.len (records_of p) in
      λ k. record {
        header = p.header;
        token = in_edits 0 p.token.len;
        count = p.count;
        options = again k ++ replicate (max_options - count k) none;
        payload = in_edits (p.token.len + sum k) p.payload.len;
      }

  -- A good packet stays good, beside an edit store that holds the sum of its lengths.
  pub relocated_good : (was then : Lengths) → Good was p → live_length p ≤ then.edits → Good then (relocated p)
  relocated_good was then g h =
      record {
        version = g.version;
        count = g.count;
        ordered = ap (falling 0) relocated_records ∙ (relaid_falling 0 p.token.len (records_of p) ∙ g.ordered);
        token = omega arith;
        payload = omega arith;
        token_length = g.token_length;
        values = ap (bad_values then) relocated_records ∙ relaid_values was then p.token.len (records_of p) g.values (omega arith);
      }
