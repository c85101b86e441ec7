-- Numbers that are judged where they stand: what makes them bad, and what is known of those that are not.
use Prim.Native.Nat.{ℕ, ◌+◌, ◌*◌, ◌≤◌, ◌<◌}
use mathlib.Core.Path.{◌≡◌, refl, sym, ◌∙◌}
use mathlib.Core.Bool.{Bool, true, false}
use mathlib.Core.List.{List}
use lib.ListN.{length, get_or}
use lib.Dec.{ltb}
use borrow.Author.Tests.{le-ltb, ltb-false}
use Rattle.std.specs.Prelude.{Ok, Err}
use Rattle.ground.specs.Choice.{either}
use Rattle.ground.proofs.Choice.{on, neither, none_of, either_right}
use Rattle.refusal.specs.Answer.{Answer, given, refused, onward}
use Rattle.refusal.specs.declared.Refusal.TheVariants.{BadRecord}
use Rattle.refusal.proofs.Answers.{not_refused, same_given}
use Rattle.packet.specs.Packet.{records_of}
use Rattle.packet.specs.declared.Packet.{Packet}
use Rattle.judging.specs.Judge.{is_too_long, falling, misordered, bad_value, bad_values, bad_ranges, bad_packet, options_size, judged, judging}
use Rattle.judging.specs.declared.Lengths.{Lengths}
use Rattle.judging.proofs.Judging.{Judging, Follows, follows, finds, bad_records}
use Rattle.measuring.specs.Measuring.{strictly, limited, size_fitted, written_size, measured}
use Rattle.measuring.specs.declared.Limit.TheVariants.{Unlimited}
use Rattle.measuring.proofs.Sizes.{measured_bad, measured_good}
use Rattle.unflat.specs.Unflat.{bad_record, bad_numbers, bad_frame, bad_flat, header_in, range_at, record_at, packet_in, unflat}
use Rattle.unflat.proofs.Unflat.{bad_by, framed, small}
use Rattle.flat_measuring.specs.FlatMeasuring.{judging_in, measured_in, cut_short, bad_start, bad_next, Sound}
use Rattle.flat_measuring.proofs.Records.{here}

-- Numbers that are not cut short: those of a head, at most 128 records, and the numbers of all of them.
pub long_enough : (l : List ℕ) → cut_short l ≡ false → (11 ≤ length l) × (get_or l 10 0 ≤ 128) × (11 + 4 * get_or l 10 0 ≤ length l)
unfolding cut_short
long_enough l e =
    let a = neither (ltb (length l) 11) _ e in
    let b = neither (ltb 128 (get_or l 10 0)) (ltb (length l) (11 + 4 * get_or l 10 0)) a.1 in
    (ltb-false _ _ a.0, ltb-false _ _ b.0, ltb-false _ _ b.1)

module _ (lengths : Lengths) (l : List ℕ) where
  -- One bad thing is enough for 11, in the numbers or in their packet.
  pub not_flat : bad_flat l ≡ true → judged (Err BadRecord) ≡ judging_in lengths l
  unfolding judging_in unflat
  not_flat e = rw e

  bad : bad_packet lengths (packet_in l) ≡ true → judged (Err BadRecord) ≡ judging_in lengths l
  unfolding judging_in unflat judging
  bad e = on (λ (a : Answer Packet). refused 11 ≡ onward a (judging lengths)) (bad_flat l) (λ _. refl) (λ _. rw e)

  pub frame_bad : bad_frame l ≡ true → judged (Err BadRecord) ≡ judging_in lengths l
  unfolding bad_flat
  frame_bad e = not_flat (rw e)

  pub short_bad : cut_short l ≡ true → judged (Err BadRecord) ≡ judging_in lengths l
  unfolding cut_short
  short_bad e = frame_bad (go (bad_frame l) refl)
    where
      go : (t : Bool) → bad_frame l ≡ t → bad_frame l ≡ true
      go true q = q
      go false q =
          let f = framed l q in
          let short : true ≡ false = sym e ∙ rw (le-ltb (length l) 11 f.head, le-ltb 128 (get_or l 10 0) (small l f.fields).count, le-ltb (length l) (11 + 4 * get_or l 10 0) f.records) in
          cc

  pub start_bad : bad_start lengths l ≡ true → judged (Err BadRecord) ≡ judging_in lengths l
  unfolding bad_packet packet_in header_in
  start_bad e =
      bad
      (go (ltb 3 (get_or l 0 0)) (misordered (packet_in l)) (bad_ranges lengths (range_at l 4) (range_at l 7)) (bad_values lengths (records_of (packet_in l))) e)
    where
      go : (a b c d : Bool) → either a c ≡ true → either a (either b (either c d)) ≡ true
      go true b c d t = refl
      go false b c d t = either_right b (either c d) (rw t)

  -- What is judged to be good.
  pub sound : bad_frame l ≡ false → bad_start lengths l ≡ false → bad_numbers l (get_or l 10 0) ≡ false → falling 0 (records_of (packet_in l)) ≡ false → bad_values lengths (records_of (packet_in l)) ≡ false → Sound lengths l
  unfolding bad_flat bad_packet packet_in header_in
  sound f s n o v =
      let start = neither (ltb 3 (get_or l 0 0)) (bad_ranges lengths (range_at l 4) (range_at l 7)) s in
      record {
        flat = none_of (bad_frame l) (bad_numbers l (get_or l 10 0)) f n;
        packet = rw (start.0, le-ltb 128 (get_or l 10 0) (small l (framed l f).fields).count, o, start.1, v);
      }

  pub counts : (size : ℕ) → Sound lengths l → size ≡ options_size 0 (records_of (packet_in l)) → judged (Ok size) ≡ judging_in lengths l
  unfolding judging_in unflat judging
  counts size k e = rw (k.flat, k.packet, e)

  pub counted : (n : ℕ) → given n ≡ judging_in lengths l → Sound lengths l × (n ≡ options_size 0 (records_of (packet_in l)))
  unfolding judging_in unflat judging
  counted n =
      let Q : Type 0 = Sound lengths l × (n ≡ options_size 0 (records_of (packet_in l))) in
      on (λ (a : Answer Packet). given n ≡ onward a (judging lengths) → Q) (bad_flat l) (λ t e. not_refused e)
      (λ t. on (λ (a : Answer ℕ). given n ≡ a → Q) (bad_packet lengths (packet_in l)) (λ u e. not_refused e)
      (λ u e. (record { flat = t; packet = u }, same_given e)))

  -- The walk over the records.
  module _ (before size i : ℕ) (w : Judging lengths (records_of (packet_in l)) before size i) (more : i < get_or l 10 0) where
    pub next_bad : bad_next lengths l before (11 + 4 * i) ≡ true → judged (Err BadRecord) ≡ judging_in lengths l
    unfolding bad_next bad_flat
    next_bad =
        let r = record_at l (11 + 4 * i) in
        on (λ (t : Bool). t ≡ true → judged (Err BadRecord) ≡ judging_in lengths l) (bad_record l (11 + 4 * i))
        (λ t _. not_flat (either_right (bad_frame l) (bad_numbers l (get_or l 10 0)) (bad_by l (get_or l 10 0) i more t)))
        (λ _ e. bad (bad_records lengths (packet_in l) (finds lengths (records_of (packet_in l)) before size i w r (here l i more) e)))

  pub next_good : (before at : ℕ) → bad_next lengths l before at ≡ false → (bad_record l at ≡ false) × Follows lengths before (record_at l at)
  unfolding bad_next
  next_good before at e =
      let parts = neither (bad_record l at) (either (ltb (get_or l at 0) before) (bad_value lengths (record_at l at))) e in
      (parts.0, follows lengths before (record_at l at) parts.1)

  -- What is measured, by the judgement.
  module _ (strict : Bool) (room : ℕ) where
    pub measured_long : is_too_long lengths ≡ true → measured_in strict room lengths l ≡ refused 10
    unfolding measured_in
    measured_long h = rw h

    module _ (h : is_too_long lengths ≡ false) where
      short : measured_in strict room lengths l ≡ onward (unflat l) (measured strict Unlimited room lengths)
      unfolding measured_in
      short = rw h

      pub measured_refused : (k : ℕ) → refused k ≡ judging_in lengths l → measured_in strict room lengths l ≡ refused k
      unfolding judging_in unflat judging
      measured_refused k e =
          let next = measured strict Unlimited room lengths in
          short
          ∙ on (λ (a : Answer Packet). refused k ≡ onward a (judging lengths) → onward a next ≡ refused k) (bad_flat l) (λ _ d. sym d)
          (λ _. on (λ (a : Answer ℕ). refused k ≡ a → next (packet_in l) ≡ refused k) (bad_packet lengths (packet_in l))
          (λ u d. measured_bad strict Unlimited room lengths (packet_in l) h u ∙ sym d) (λ _ d. not_refused (sym d))) e

      pub measured_sound : Sound lengths l → measured_in strict room lengths l ≡ onward (strictly strict (packet_in l)) (λ _. size_fitted room (written_size strict (packet_in l)))
      unfolding unflat limited
      measured_sound k = short ∙ rw k.flat (measured_good strict Unlimited room lengths (packet_in l) h k.packet)
