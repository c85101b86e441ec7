-- What the getters read after an edit: the two setters against their getters and against the packet's meaning, and clearing.
use Prim.Native.Nat.{ℕ, ◌^◌, ◌<◌}
use mathlib.Core.Path.{◌≡◌, refl, sym, ap, ◌∙◌}
use mathlib.Core.List.{List, [], ◌∷◌, ◌++◌, map}
use native.Mathlib.Omega.{arith}
use lib.ListN.{length}
use lib.Seq.{sets}
use Rattle.rfc.specs.Uint.{uint}
use Rattle.refusal.specs.Answer.{given}
use Rattle.option_value.specs.Uint.{with_zeros}
use Rattle.option_value.proofs.Uints.{written_then_read}
use Rattle.packet.specs.Packet.{Stores, stores, range_of, records_of, of_number}
use Rattle.packet.specs.declared.Packet.{Packet}
use Rattle.packet.specs.declared.OptionRecord.{OptionRecord}
use Rattle.packet.specs.Meaning.{meaning, option_of}
use Rattle.splicing.specs.Splice.{record_of}
use Rattle.editing.specs.Numbered.{removed_by}
use Rattle.editing.specs.Edit.{removed, cleared}
use Rattle.editing.specs.Message.{option_added, options_set}
use Rattle.editing.proofs.Meaning.{meaning_added, meaning_set, map_removed}
use Rattle.editing.proofs.Values.{added_values, set_values, cleared_values}
use Rattle.typed_options.specs.Getters.{no_format, format_of, format_in, number, absent, observe_in}
use Rattle.typed_options.specs.Setters.{range_at, format_set, observe_set}
use Rattle.typed_options.specs.Apart.{Apart, Untouched}
use Rattle.typed_options.proofs.Apart.{apart_bytes, own_bytes, apart_options, meaning_apart}
use Rattle.typed_options.proofs.Stored.{stored_format, stored_observe}

-- The setters, in the edit store that they leave, beside any datagram.
module _ (d old : List ℕ) (start n : ℕ) (p q : Packet) where
  abbrev was : Stores
  was = stores d old

  module _ (e : format_set old start p n ≡ given q) where
    abbrev new : Stores
    new = stores d (sets old start (uint 2 n))

    -- The packet means one option more, where the bytes touch no range in use.
    pub meaning_format : Untouched start (length (uint 2 n)) p (records_of p) → meaning new q ≡ option_added (meaning was p) 12 (uint 2 n)
    meaning_format u =
        let s = stored_format old start n p q e in
        meaning_added new p q 12 (range_at start (uint 2 n)) s.made
        ∙ (rw (own_bytes old start (uint 2 n) s.inside) (ap (λ m. option_added m 12 (uint 2 n)) (meaning_apart old start (uint 2 n) d p u)))

    -- The first content format of a packet reads as itself, if it is listed; a later one changes nothing.
    pub format_first : n < 65536 → of_number 12 (records_of p) ≡ [] → format_in new q ≡ format_of (given (with_zeros 0 n))
    unfolding format_in
    format_first small z =
        let s = stored_format old start n p q e in
        let only : of_number 12 (records_of q) ≡ (record_of 12 (range_at start (uint 2 n)) ∷ []) =
        added_values p q 12 (range_at start (uint 2 n)) s.made ∙ ap (λ (l : List OptionRecord). l ++ (record_of 12 (range_at start (uint 2 n)) ∷ [])) z in
        rw (only, own_bytes old start (uint 2 n) s.inside, written_then_read 2 n (omega arith) small) refl

    pub format_stays : (r : OptionRecord) (rs : List OptionRecord) → of_number 12 (records_of p) ≡ (r ∷ rs) → Apart start (length (uint 2 n)) (range_of r) → format_in new q ≡ format_in was p
    unfolding format_in
    format_stays r rs f a =
        let s = stored_format old start n p q e in
        let more : of_number 12 (records_of q) ≡ (r ∷ (rs ++ (record_of 12 (range_at start (uint 2 n)) ∷ []))) =
        added_values p q 12 (range_at start (uint 2 n)) s.made ∙ ap (λ (l : List OptionRecord). l ++ (record_of 12 (range_at start (uint 2 n)) ∷ [])) f in
        rw (more, f, apart_bytes old start (uint 2 n) d (range_of r) a) refl

  module _ (e : observe_set old start p n ≡ given q) where
    abbrev then : Stores
    then = stores d (sets old start (uint 4 n))

    -- The value replaces all options of number 6, where the bytes touch no other range in use.
    pub meaning_observe : Untouched start (length (uint 4 n)) p (removed 6 (records_of p)) → meaning then q ≡ options_set (meaning was p) 6 (uint 4 n ∷ [])
    meaning_observe u =
        let s = stored_observe old start n p q e in
        let token = apart_bytes old start (uint 4 n) d p.token u.token in
        let payload = apart_bytes old start (uint 4 n) d p.payload u.payload in
        let others : removed_by (λ o. o.number) 6 (map (option_of then) (records_of p)) ≡ removed_by (λ o. o.number) 6 (map (option_of was) (records_of p)) =
        sym (map_removed then 6 (records_of p)) ∙ (apart_options old start (uint 4 n) d (removed 6 (records_of p)) u.options ∙ map_removed was 6 (records_of p)) in
        meaning_set then p q 6 (range_at start (uint 4 n) ∷ []) s.made
        ∙ (rw (own_bytes old start (uint 4 n) s.inside, token, payload, others) refl)

    -- What was set is read.
    pub observe_set_lem : n < 2 ^ 32 → observe_in then q ≡ given (number (with_zeros 0 n))
    unfolding observe_in
    observe_set_lem small =
        let s = stored_observe old start n p q e in
        rw (set_values p q 6 (range_at start (uint 4 n) ∷ []) s.made, own_bytes old start (uint 4 n) s.inside, written_then_read 4 n (omega arith) small) refl

-- A cleared content format or Observe reads as none.
pub format_cleared : (s : Stores) (p q : Packet) → cleared p 12 ≡ given q → format_in s q ≡ no_format
unfolding format_in
format_cleared s p q e = rw (cleared_values p q 12 e) refl

pub observe_cleared : (s : Stores) (p q : Packet) → cleared p 6 ≡ given q → observe_in s q ≡ given absent
unfolding observe_in
observe_cleared s p q e = rw (cleared_values p q 6 e) refl
