-- What an edit that is done has made: the packet of a list of records, for which there was room.
use Prim.Native.Nat.{ℕ, suc, ◌-◌, ◌≤◌}
use mathlib.Core.Path.{◌≡◌, refl, sym, ap, ◌∙◌}
use mathlib.Core.Bool.{Bool, true, false}
use mathlib.Core.List.{List, [], ◌∷◌, map}
use native.Mathlib.Omega.{arith}
use lib.ListN.{length, replicate, length-append, length-replicate}
use lib.Seq.{take-append_seam}
use borrow.Author.Tests.{le-ltb}
use Rattle.ground.specs.Choice.{pick}
use Rattle.ground.proofs.Choice.{on, on_lt, on_eq}
use Rattle.refusal.specs.Answer.{Answer, given, refused}
use Rattle.refusal.proofs.Answers.{not_refused}
use Rattle.packet.specs.Limits.{max_options}
use Rattle.packet.specs.Packet.{none, records_of}
use Rattle.packet.specs.declared.Packet.{Packet}
use Rattle.packet.specs.declared.OptionRecord.{OptionRecord}
use Rattle.packet.specs.declared.Range.{Range}
use Rattle.judging.specs.Judge.{falling, misordered}
use Rattle.splicing.specs.Splice.{packet_with, with_records, roomy, record_of, ranges_in, homeless, homed}
use Rattle.editing.specs.Edit.{orderly, inserted, removed, replaced, token_set, payload_set, added, option_set, cleared, cleared_all}
use Rattle.editing.proofs.Records.{all_of, falling_removed, falling_inserted, inserted_nothing}
use Rattle.judging.proofs.Order.{in_order}
use Rattle.editing.proofs.Taken.{taken_few}

-- The packet `q` is `p` with this token, these records and this payload; the edit took `p`, and there was room.
pub record Made (p : Packet) (token : Range) (rs : List OptionRecord) (payload : Range) (q : Packet) : Type 0 where
  pub sound : misordered p ≡ false
  pub few : length rs ≤ max_options
  pub is : q ≡ packet_with p token rs payload

module _ (p q : Packet) where
  of_orderly : (a : Answer Packet) → orderly p a ≡ given q → (misordered p ≡ false) × (a ≡ given q)
  of_orderly a =
      on (λ (b : Answer Packet). b ≡ given q → (misordered p ≡ false) × (a ≡ given q)) (misordered p)
      (λ m e. not_refused (sym e)) (λ m e. (m, e))

  of_roomy : (rs : List OptionRecord) → roomy p rs ≡ given q → (length rs ≤ max_options) × (q ≡ with_records p rs)
  of_roomy rs =
      on_lt (λ (b : Answer Packet). b ≡ given q → (length rs ≤ max_options) × (q ≡ with_records p rs)) max_options (length rs)
      (λ l e. not_refused (sym e)) (λ l e. (l, cc))

  of_given : (rs : List OptionRecord) (token payload : Range) → misordered p ≡ false → length rs ≤ max_options → given (packet_with p token rs payload) ≡ given q
      → Made p token rs payload q
  of_given rs token payload m l e = record { sound = m; few = l; is = cc }

  -- An edit whose ranges came as numbers: their homes are good, and it is done with the ranges.
  pub made_homed : (l : List ℕ) (edit : List Range → Answer Packet) → homed l edit ≡ given q → (homeless l ≡ false) × (edit (ranges_in l) ≡ given q)
  made_homed l edit =
      on (λ (b : Answer Packet). b ≡ given q → (homeless l ≡ false) × (edit (ranges_in l) ≡ given q)) (homeless l)
      (λ m e. not_refused (sym e)) (λ m e. (m, e))

  pub made_roomy : (rs : List OptionRecord) → orderly p (roomy p rs) ≡ given q → Made p p.token rs p.payload q
  made_roomy rs e =
      let o = of_orderly (roomy p rs) e in
      let r = of_roomy rs o.1 in
      record { sound = o.0; few = r.0; is = r.1 }

  -- Each edit, where it is done.
  pub made_added : (n : ℕ) (range : Range) → added p n range ≡ given q → Made p p.token (inserted n (record_of n range ∷ []) (records_of p)) p.payload q
  unfolding added
  made_added n range e = made_roomy (inserted n (record_of n range ∷ []) (records_of p)) e

  pub made_set : (n : ℕ) (ranges : List Range) → option_set p n ranges ≡ given q → Made p p.token (replaced n ranges (records_of p)) p.payload q
  unfolding option_set
  made_set n ranges e = made_roomy (replaced n ranges (records_of p)) e

  length_removed : (n : ℕ) (rs : List OptionRecord) → length (removed n rs) ≤ length rs
  length_removed n [] = omega arith
  length_removed n (r ∷ rs) =
      on_eq (λ (l : List OptionRecord). length l ≤ suc (length rs)) r.number n (λ h. omega (arith, length_removed n rs)) (λ h. omega (arith, length_removed n rs))

  pub made_cleared : (n : ℕ) → cleared p n ≡ given q → Made p p.token (removed n (records_of p)) p.payload q
  unfolding cleared
  made_cleared n e =
      let o = of_orderly (given (with_records p (removed n (records_of p)))) e in
      of_given (removed n (records_of p)) p.token p.payload o.0 (omega (arith, taken_few p o.0, length_removed n (records_of p))) o.1

  pub made_empty : cleared_all p ≡ given q → Made p p.token [] p.payload q
  unfolding cleared_all
  made_empty e = let o = of_orderly (given (with_records p [])) e in of_given [] p.token p.payload o.0 (omega arith) o.1

  pub made_payload : (payload : Range) → payload_set p payload ≡ given q → Made p p.token (records_of p) payload q
  unfolding payload_set
  made_payload payload e =
      let o = of_orderly (given (packet_with p p.token (records_of p) payload)) e in
      of_given (records_of p) p.token payload o.0 (taken_few p o.0) o.1

  pub made_token : (token : Range) → token_set p token ≡ given q → (token.len ≤ 15) × Made p token (records_of p) p.payload q
  unfolding token_set
  made_token token =
      on_lt (λ (b : Answer Packet). b ≡ given q → (token.len ≤ 15) × Made p token (records_of p) p.payload q) 15 token.len
      (λ l e. not_refused (sym e))
      (λ l e.
      let o = of_orderly (given (packet_with p token (records_of p) p.payload)) e in
      (l, of_given (records_of p) token p.payload o.0 (taken_few p o.0) o.1))

-- What a packet that was made holds: those records, 128 places, and an order that edits take where the records have one.
module _ (p : Packet) (token : Range) (rs : List OptionRecord) (payload : Range) (q : Packet) (m : Made p token rs payload q) where
  pub made_records : records_of q ≡ rs
  made_records = ap records_of m.is ∙ take-append_seam rs (replicate (max_options - length rs) none)

  pub made_places : length q.options ≡ max_options
  made_places = ap (λ (x : Packet). length x.options) m.is ∙ simp (length-append, length-replicate) (omega (arith, m.few))

  pub made_order : falling 0 rs ≡ false → misordered q ≡ false
  made_order e =
      let few : q.count ≤ max_options = omega (arith, ap (λ (x : Packet). x.count) m.is, m.few) in
      rw (le-ltb max_options q.count few) (ap (falling 0) made_records ∙ e)

-- Every edit that is done leaves a packet that edits take: at most 128 records, whose numbers do not fall.
module _ (p q : Packet) where
  rising : misordered p ≡ false → falling 0 (records_of p) ≡ false
  rising m = (in_order p m).rising

  pub added_order : (n : ℕ) (range : Range) → added p n range ≡ given q → misordered q ≡ false
  added_order n range e =
      let m = made_added p q n range e in
      made_order p _ _ _ q m (falling_inserted n 0 (record_of n range ∷ []) (records_of p) (refl, tt) (omega arith) (rising m.sound))

  pub set_order : (n : ℕ) (ranges : List Range) → option_set p n ranges ≡ given q → misordered q ≡ false
  set_order n ranges e =
      let m = made_set p q n ranges e in
      made_order p _ _ _ q m
      (falling_inserted n 0 (map (record_of n) ranges) (removed n (records_of p)) (all_of n ranges) (omega arith) (falling_removed n 0 (records_of p) (rising m.sound)))

  pub cleared_order : (n : ℕ) → cleared p n ≡ given q → misordered q ≡ false
  cleared_order n e = let m = made_cleared p q n e in made_order p _ _ _ q m (falling_removed n 0 (records_of p) (rising m.sound))

  pub empty_order : cleared_all p ≡ given q → misordered q ≡ false
  empty_order e = made_order p _ _ _ q (made_empty p q e) refl

  pub token_order : (token : Range) → token_set p token ≡ given q → misordered q ≡ false
  token_order token e = let m = (made_token p q token e).1 in made_order p _ _ _ q m (rising m.sound)

  pub payload_order : (payload : Range) → payload_set p payload ≡ given q → misordered q ≡ false
  payload_order payload e = let m = made_payload p q payload e in made_order p _ _ _ q m (rising m.sound)

-- Clearing a number sets no option of it.
pub cleared_set : (p : Packet) (n : ℕ) → option_set p n [] ≡ cleared p n
unfolding option_set cleared
cleared_set p n = go (misordered p) refl
  where
    go : (t : Bool) → misordered p ≡ t → pick t (refused 11) (roomy p (replaced n [] (records_of p))) ≡ pick t (refused 11) (given (with_records p (removed n (records_of p))))
    go true m = refl
    go false m =
        let few : length (removed n (records_of p)) ≤ max_options = omega (arith, taken_few p m, length_removed p p n (records_of p)) in
        ap (roomy p) (inserted_nothing n (removed n (records_of p))) ∙ rw (le-ltb max_options (length (removed n (records_of p))) few) refl
