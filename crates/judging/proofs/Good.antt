-- Laws of the judgement: what a good packet keeps to, what the answer says of a packet, and how large options are.
use Prim.Native.Nat.{ℕ, ◌+◌, ◌-◌, ◌*◌, ◌≤◌}
use mathlib.Core.Path.{◌≡◌, refl, sym, ap, ◌∙◌}
use mathlib.Core.Bool.{Bool, true, false}
use mathlib.Core.List.{List, [], ◌∷◌}
use native.Mathlib.Omega.{arith}
use lib.ListN.{length}
use lib.Dec.{ltb}
use borrow.Author.Tests.{le-ltb, ltb-false}
use Rattle.ground.specs.Choice.{pick}
use Rattle.ground.proofs.Choice.{on_lt, neither}
use Rattle.refusal.specs.Answer.{given, refused}
use Rattle.packet.specs.Limits.{max_options, max_value, max_token}
use Rattle.packet.specs.Packet.{range_of, records_of}
use Rattle.judging.specs.Judge.{length_in, outside, falling, misordered, bad_value, bad_values, bad_ranges, bad_packet, extension_size, option_size, options_size, judged, judging}
use Rattle.packet.specs.declared.Packet.{Packet}
use Rattle.packet.specs.declared.OptionRecord.{OptionRecord}
use Rattle.std.specs.Prelude.{Result, Ok, Err}
use Rattle.refusal.specs.Number.{number_of}
use Rattle.refusal.specs.declared.Refusal.{Refusal}
use Rattle.refusal.proofs.Distinct.{distinct}
use Rattle.judging.specs.declared.Lengths.{Lengths}

-- What a packet keeps to that has no bad record, over stores of these lengths.
pub record Good (lengths : Lengths) (p : Packet) : Type 0 where
  pub version : p.header.version ≤ 3
  pub count : p.count ≤ max_options
  pub ordered : falling 0 (records_of p) ≡ false
  pub token : p.token.start + p.token.len ≤ length_in lengths p.token.home
  pub payload : p.payload.start + p.payload.len ≤ length_in lengths p.payload.home
  pub token_length : p.token.len ≤ max_token
  pub values : bad_values lengths (records_of p) ≡ false

module _ (lengths : Lengths) (p : Packet) where
  pub good : bad_packet lengths p ≡ false → Good lengths p
  unfolding bad_packet
  good e =
      let all = neither (ltb 3 p.header.version) _ e in
      let rest = neither (misordered p) _ all.1 in
      let order = neither (ltb max_options p.count) _ rest.0 in
      let last = neither (bad_ranges lengths p.token p.payload) _ rest.1 in
      let token = neither (outside lengths p.token) _ last.0 in
      let payload = neither (outside lengths p.payload) _ token.1 in
      record {
        version = ltb-false 3 p.header.version all.0;
        count = ltb-false max_options p.count order.0;
        ordered = order.1;
        token = ltb-false (length_in lengths p.token.home) (p.token.start + p.token.len) token.0;
        payload = ltb-false (length_in lengths p.payload.home) (p.payload.start + p.payload.len) payload.0;
        token_length = ltb-false max_token p.token.len payload.1;
        values = last.1;
      }

  pub not_bad : Good lengths p → bad_packet lengths p ≡ false
  unfolding bad_packet
  not_bad g =
      rw (le-ltb 3 p.header.version g.version, le-ltb max_options p.count g.count, g.ordered, le-ltb (length_in lengths p.token.home) (p.token.start + p.token.len) g.token, le-ltb (length_in lengths p.payload.home) (p.payload.start + p.payload.len) g.payload, le-ltb max_token p.token.len g.token_length, g.values)

-- What an answer says of the packet.
module _ (lengths : Lengths) (p : Packet) where
  pub is_bad : (r : Result ℕ Refusal) → judged r ≡ judging lengths p → (k : Refusal) → r ≡ Err k → bad_packet lengths p ≡ true
  unfolding judging
  is_bad r e k b = go (bad_packet lengths p) (sym (ap judged b) ∙ e)
    where
      go : (t : Bool) → refused (number_of k) ≡ pick t (refused 11) (given (options_size 0 (records_of p))) → t ≡ true
      go true d = refl
      go false d = cc

  pub is_good : (r : Result ℕ Refusal) → judged r ≡ judging lengths p → (n : ℕ) → r ≡ Ok n
      → (bad_packet lengths p ≡ false) × (n ≡ options_size 0 (records_of p))
  unfolding judging
  is_good r e n b = go (bad_packet lengths p) (sym (ap judged b) ∙ e)
    where
      go : (t : Bool) → given n ≡ pick t (refused 11) (given (options_size 0 (records_of p))) → (t ≡ false) × (n ≡ options_size 0 (records_of p))
      go true d = (cc, cc)
      go false d = (refl, cc)

-- An answer in the words of the promise is that of one value only.
pub one_judged : (a b : Result ℕ Refusal) → judged a ≡ judged b → a ≡ b
one_judged (Ok m) (Ok n) e = cc
one_judged (Ok m) (Err k) e = cc
one_judged (Err j) (Ok n) e = cc
one_judged (Err j) (Err k) e = let n : number_of j ≡ number_of k = cc in rw (distinct j k n)

-- A good value: inside its store, and at most 65804 bytes long.
module _ (lengths : Lengths) (r : OptionRecord) (e : bad_value lengths r ≡ false) where
  pub value_inside : r.start + r.len ≤ length_in lengths r.home
  value_inside = ltb-false (length_in lengths r.home) (r.start + r.len) (neither (outside lengths (range_of r)) (ltb max_value r.len) e).0

  pub value_length : r.len ≤ max_value
  value_length = ltb-false max_value r.len (neither (outside lengths (range_of r)) (ltb max_value r.len) e).1

-- An extension has two bytes at most, and an option five more than its value.
pub extension_small : (n : ℕ) → extension_size n ≤ 2
unfolding extension_size
extension_small n = on_lt (λ (k : ℕ). k ≤ 2) n 13 (λ h. omega arith) (λ h. on_lt (λ (k : ℕ). k ≤ 2) n 269 (λ l. omega arith) (λ l. omega arith))

pub option_small : (before : ℕ) (r : OptionRecord) → r.len ≤ max_value → option_size before r ≤ (max_value + 5)
unfolding option_size
option_small before r h = omega (arith, extension_small (r.number - before), extension_small r.len)

pub options_small : (lengths : Lengths) (before : ℕ) (rs : List OptionRecord) → bad_values lengths rs ≡ false → options_size before rs ≤ length rs * (max_value + 5)
options_small lengths before [] e = omega arith
options_small lengths before (r ∷ rs) e =
    let both = neither (bad_value lengths r) (bad_values lengths rs) e in
    omega (arith, option_small before r (value_length lengths r both.0), options_small lengths r.number rs both.1)
