-- What the answers show: path and query put one after the other, and each refusal in its turn.
use Prim.Native.Nat.{ℕ, ◌+◌, ◌-◌, ◌<◌, ◌≤◌}
use mathlib.Core.Path.{◌≡◌, refl, sym, ap, ◌∙◌}
use mathlib.Core.List.{List}
use native.Mathlib.Nat.{zero-add}
use native.Mathlib.Omega.{arith}
use lib.ListN.{length, take, drop, length-replicate}
use lib.Seq.{sets, length-sets}
use borrow.Author.Tests.{lt-ltb, le-ltb}
use Rattle.ground.proofs.Part.{sets_append}
use Rattle.rfc.specs.Uri.{Kind, segment, query}
use Rattle.rfc.specs.Percent.{Read, good, bad_text, bad_option}
use Rattle.rfc.specs.Target.{Target, parts}
use Rattle.rfc.specs.Text.{joined}
use Rattle.rfc.proofs.Percent.{no_text, no_option, good_same}
use Rattle.packet.specs.Limits.{max_store, max_options}
use Rattle.packet.specs.Packet.{none, new_packet}
use Rattle.packet.specs.declared.OptionRecord.{OptionRecord}
use Rattle.packet.specs.declared.Packet.{Packet}
use Rattle.uri_text.specs.Reading.{values_of, reading}
use Rattle.uri_text.specs.Tally.{first_length, Tally, total, tallied, tally}
use Rattle.uri_text.specs.Judging.{fault_of}
use Rattle.uri_text.specs.declared.BadPart.{BadPart}
use Rattle.uri_text.specs.declared.BadPart.TheVariants.{Text, Option as AnOption}
use Rattle.refusal.specs.declared.Refusal.TheVariants.{BadText}
use Rattle.target_reading.specs.FromText.{Reply, passes, refused, refused_at, placed, reply_to, records_at, packet_with, packet_for, packet_of, store_of, bare, told, Answers}
use Rattle.target_reading.specs.Placing.{goods, values_in, Placeable, Fills, target_in, Readable, Reads}
use Rattle.target_reading.specs.declared.Filled.{Filled}
use Rattle.std.specs.Prelude.{Ok, Err}
use Rattle.refusal.specs.declared.Fault.TheVariants.{Refused, BadOption}
use Rattle.refusal.specs.declared.Refusal.{Refusal}
use Rattle.refusal.specs.Number.{number_of}
use Rattle.target_reading.proofs.Placing.{records_append, records_count, joined_length, segments_read, query_read}

-- Parts whose values are known can be put, and are then what is filled.
module _ (kind : Kind) (sep : ℕ) (x store : List ℕ) (f : Filled) (vs : List (List ℕ)) (e : values_of kind f.count (parts sep x) ≡ good vs) where
  same_values : values_in kind sep x f.count ≡ vs
  same_values = ap goods e

  placeable : f.count + length vs ≤ max_options → f.at + total vs ≤ length store → length store ≤ max_store → length f.options ≡ max_options → Placeable kind sep x store f
  placeable few room short array =
      record {
        good = e ∙ ap good (sym same_values);
        few = omega (arith, few, ap length same_values);
        room = omega (arith, room, ap total same_values);
        short = short;
        array = array;
      }

module _ (s old : List ℕ) (at : ℕ) (ready : Readable s old at) (mark : ℕ) (found : mark ≡ 0 + first_length 0x3F s) (x : List ℕ) (ex : x ≡ take (mark - 1) (drop 1 s)) where
  -- Before any record.
  abbrev pub first : Filled
  first = record { options = new_packet.options; count = 0; at = at }

  path_values : values_of segment 0 (parts 0x2F x) ≡ good (target_in (reading s)).path
  path_values =
      ap (λ (z : List ℕ). values_of segment 0 (parts 0x2F z)) ex ∙ segments_read s (target_in (reading s)) ready.good mark found

  pub path_placeable : Placeable segment 0x2F x old first
  unfolding new_packet
  path_placeable =
      placeable segment 0x2F x old first (target_in (reading s)).path path_values (omega (arith, ready.few)) (omega (arith, ready.room)) ready.short (length-replicate max_options none)

  module _ (r : Filled) (mid : List ℕ) (fills : Fills segment 11 0x2F x old first r mid) (y : List ℕ) (ey : y ≡ take (length s - (mark + 1)) (drop (mark + 1) s)) where
    same : values_in segment 0x2F x 0 ≡ (target_in (reading s)).path
    same = same_values segment 0x2F x old first (target_in (reading s)).path path_values

    r_count : r.count ≡ length (target_in (reading s)).path
    r_count = fills.count ∙ (zero-add (length (values_in segment 0x2F x 0)) ∙ ap length same)

    r_at : r.at ≡ at + total (target_in (reading s)).path
    r_at = fills.at ∙ ap (λ (vs : List (List ℕ)). at + total vs) same

    r_options : r.options ≡ sets new_packet.options 0 (records_at 11 at (target_in (reading s)).path)
    r_options = fills.options ∙ ap (λ (vs : List (List ℕ)). sets new_packet.options 0 (records_at 11 at vs)) same

    mid_is : mid ≡ sets old at (joined (target_in (reading s)).path)
    mid_is = fills.store ∙ ap (λ (vs : List (List ℕ)). sets old at (joined vs)) same

    mid_length : length mid ≡ length old
    mid_length = ap length mid_is ∙ length-sets old at (joined (target_in (reading s)).path)

    query_values : values_of query r.count (parts 0x26 y) ≡ good (target_in (reading s)).query
    query_values =
        ap (λ (n : ℕ). values_of query n (parts 0x26 y)) r_count
        ∙ (ap (λ (z : List ℕ). values_of query (length (target_in (reading s)).path) (parts 0x26 z)) ey ∙ query_read s (target_in (reading s)) ready.good mark found)

    pub query_placeable : Placeable query 0x26 y mid r
    unfolding new_packet
    query_placeable =
        placeable query 0x26 y mid r (target_in (reading s)).query query_values
        (omega (arith, ready.few, r_count))
        (omega (arith, ready.room, r_at, mid_length))
        (omega (arith, ready.short, mid_length))
        (ap length r_options ∙ (length-sets new_packet.options 0 (records_at 11 at (target_in (reading s)).path) ∙ length-replicate max_options none))

    pub both_filled : (q : Filled) (new : List ℕ) → Fills query 15 0x26 y mid r q new → Reads s at old q new
    both_filled q new more =
        let P : List (List ℕ) = (target_in (reading s)).path in
        let Q : List (List ℕ) = (target_in (reading s)).query in
        let last : values_in query 0x26 y r.count ≡ Q = same_values query 0x26 y mid r Q query_values in
        let c : r.count ≡ 0 + length (records_at 11 at P) = r_count ∙ (sym (records_count 11 at P) ∙ sym (zero-add (length (records_at 11 at P)))) in
        let n : r.at ≡ at + length (joined P) = r_at ∙ ap (λ (k : ℕ). at + k) (sym (joined_length P)) in
        record {
          options =
              more.options
              ∙ (ap (λ (vs : List (List ℕ)). sets r.options r.count (records_at 15 r.at vs)) last
              ∙ (ap (λ (k : ℕ). sets r.options r.count (records_at 15 k Q)) r_at
              ∙ (ap (λ (k : ℕ). sets r.options k (records_at 15 (at + total P) Q)) c
              ∙ (ap (λ (os : List OptionRecord). sets os (0 + length (records_at 11 at P)) (records_at 15 (at + total P) Q)) r_options
              ∙ sym (records_append new_packet.options 0 (records_at 11 at P) (records_at 15 (at + total P) Q))))));
          count = omega (arith, more.count, ap length last, r_count);
          store =
              more.store
              ∙ (ap (λ (vs : List (List ℕ)). sets mid r.at (joined vs)) last
              ∙ (ap (λ (k : ℕ). sets mid k (joined Q)) n
              ∙ (ap (λ (l : List ℕ). sets l (at + length (joined P)) (joined Q)) mid_is ∙ sym (sets_append old at (joined P) (joined Q)))));
        }

-- What a tally says of the text.
pub record Told (r : Read Target) (n size : ℕ) : Type 0 where
  pub good : r ≡ good (target_in r)
  pub count : n ≡ length (target_in r).path + length (target_in r).query
  pub bytes : size ≡ total (target_in r).path + total (target_in r).query

pub tally_good : (r : Read Target) (count bytes : ℕ) → good (record { count = count; bytes = bytes }) ≡ tally r → Told r count bytes
unfolding tally
tally_good (good t) count bytes e =
    let same = good_same (record { count = count; bytes = bytes }) (record { count = length t.path + length t.query; bytes = total t.path + total t.query }) e in
    record { good = refl; count = ap (λ (x : Tally). x.count) same; bytes = ap (λ (x : Tally). x.bytes) same }
tally_good bad_text count bytes e = absurd (no_text (record { count = count; bytes = bytes }) (sym e))
tally_good (bad_option i) count bytes e = absurd (no_option i (record { count = count; bytes = bytes }) (sym e))

pub tally_text : (r : Read Target) → bad_text ≡ tally r → r ≡ bad_text
unfolding tally
tally_text (good t) e = absurd (no_text (record { count = length t.path + length t.query; bytes = total t.path + total t.query }) e)
tally_text bad_text e = refl
tally_text (bad_option i) e = let z : ◌≡◌ {A = ℕ} 0 1 = cc in absurd (omega arith)

pub tally_option : (i : ℕ) (r : Read Target) → bad_option i ≡ tally r → r ≡ bad_option i
unfolding tally
tally_option i (good t) e = absurd (no_option i (record { count = length t.path + length t.query; bytes = total t.path + total t.query }) e)
tally_option i bad_text e = let z : ◌≡◌ {A = ℕ} 0 1 = cc in absurd (omega arith)
tally_option i (bad_option j) e = let z : i ≡ j = cc in ap bad_option (sym z)

-- A refusal, beside which stands the new packet, and the store as it was.
pub refusal_shown : (a : Reply Target) (start : ℕ) (old : List ℕ) (e : Refusal) → a ≡ refused (number_of e) → Answers a start old (Err (Refused e)) old
refusal_shown a start old e is = rw is (record { outcome = refl; packet = refl; store = refl })

pub option_shown : (a : Reply Target) (start i : ℕ) (old : List ℕ) → a ≡ refused_at 16 i → Answers a start old (Err (BadOption i)) old
option_shown a start i old is = rw is (record { outcome = refl; packet = refl; store = refl })

-- The reply to a text, test by test.
module _ (room start : ℕ) (s : List ℕ) where
  pub reply_long : max_store < room → reply_to room start s ≡ refused 10
  unfolding reply_to
  reply_long h = rw (lt-ltb max_store room h) refl

  module _ (short : room ≤ max_store) where
    pub reply_text : reading s ≡ bad_text → reply_to room start s ≡ refused 15
    unfolding reply_to
    reply_text e = rw (le-ltb max_store room short, e) refl

    pub reply_option : (i : ℕ) → reading s ≡ bad_option i → reply_to room start s ≡ refused_at 16 i
    unfolding reply_to
    reply_option i e = rw (le-ltb max_store room short, e) refl

    module _ (count bytes : ℕ) (told : Told (reading s) count bytes) where
      in_reply : reply_to room start s ≡ placed room start (good (target_in (reading s)))
      unfolding reply_to
      in_reply = rw (le-ltb max_store room short) (ap (placed room start) told.good)

      pub reply_many : max_options < count → reply_to room start s ≡ refused 6
      reply_many h =
          let k : max_options < length (target_in (reading s)).path + length (target_in (reading s)).query = omega (arith, told.count) in
          in_reply ∙ rw (lt-ltb max_options (length (target_in (reading s)).path + length (target_in (reading s)).query) k) refl

      module _ (few : count ≤ max_options) where
        not_many : length (target_in (reading s)).path + length (target_in (reading s)).query ≤ max_options
        not_many = omega (arith, told.count)

        pub reply_room : room < start + bytes → reply_to room start s ≡ refused 12
        reply_room h =
            let k : room < start + (total (target_in (reading s)).path + total (target_in (reading s)).query) = omega (arith, told.bytes) in
            in_reply
            ∙ rw (le-ltb max_options (length (target_in (reading s)).path + length (target_in (reading s)).query) not_many, lt-ltb room (start + (total (target_in (reading s)).path + total (target_in (reading s)).query)) k) refl

        pub reply_passes : start + bytes ≤ room → reply_to room start s ≡ passes (target_in (reading s))
        reply_passes h =
            let k : start + (total (target_in (reading s)).path + total (target_in (reading s)).query) ≤ room = omega (arith, told.bytes) in
            in_reply
            ∙ rw (le-ltb max_options (length (target_in (reading s)).path + length (target_in (reading s)).query) not_many, le-ltb room (start + (total (target_in (reading s)).path + total (target_in (reading s)).query)) k) refl

-- A text with a bad part: 15, or 16 with its index.
pub fault_shown : (room start : ℕ) (s old : List ℕ) (bad : BadPart) → room ≤ max_store → tallied (Err bad) ≡ tally (reading s) → Answers (reply_to room start s) start old (Err (fault_of bad)) old
fault_shown room start s old Text short e = refusal_shown _ start old BadText (reply_text room start s short (tally_text _ e))
fault_shown room start s old (AnOption i) short e = option_shown _ start i old (reply_option room start s short i (tally_option i _ e))

-- A text that passes.
pub passes_shown : (room start : ℕ) (s old : List ℕ) (f : Filled) (new : List ℕ) (p : Packet) → reply_to room start s ≡ passes (target_in (reading s)) → Reads s start old f new → p ≡ packet_with f.count f.options → Answers (reply_to room start s) start old (Ok p) new
unfolding packet_for
passes_shown room start s old f new p e reads q =
    let t : Target = target_in (reading s) in
    record {
      outcome = ap bare (sym e);
      packet = q ∙ (ap (λ (n : ℕ). packet_with n f.options) reads.count ∙ (ap (packet_with (length t.path + length t.query)) reads.options ∙ ap (packet_of start) (sym e)));
      store = reads.store ∙ ap (λ (x : Reply Target). store_of start x old) (sym e);
    }
