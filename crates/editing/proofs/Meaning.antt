-- What edits do to a packet's meaning, in any two stores: an added value stands at its place and nothing else moves, and so on.
use Prim.Native.Nat.{ℕ, ◌-◌}
use mathlib.Core.Path.{◌≡◌, refl, sym, ap, ◌∙◌}
use mathlib.Core.Bool.{Bool, true, false}
use mathlib.Core.List.{List, [], ◌∷◌, ◌++◌, map, map-append, map-map}
use lib.ListN.{length, replicate}
use lib.Seq.{take-append_seam}
use lib.Dec.{leb, eqb}
use Rattle.ground.specs.Choice.{pick, either}
use Rattle.rfc.specs.Message.{Rising}
use Rattle.refusal.specs.Answer.{given}
use Rattle.packet.specs.Limits.{max_options}
use Rattle.packet.specs.Packet.{none, Stores, bytes_of, records_of}
use Rattle.packet.specs.Meaning.{option_of, meaning}
use Rattle.packet.specs.declared.Packet.{Packet}
use Rattle.packet.specs.declared.OptionRecord.{OptionRecord}
use Rattle.packet.specs.declared.Range.{Range}
use Rattle.judging.specs.Judge.{falling, misordered}
use Rattle.editing.specs.Numbered.{up_to_by, inserted_by, removed_by}
use Rattle.splicing.specs.Splice.{record_of}
use Rattle.editing.specs.Edit.{up_to, inserted, removed, token_set, payload_set, added, option_set, cleared, cleared_all}
use Rattle.editing.specs.Message.{with_options, with_token, with_payload, option_added, options_cleared, options_set}
use Rattle.editing.proofs.Records.{rises}
use Rattle.judging.proofs.Order.{in_order}
use Rattle.editing.proofs.Made.{Made, made_added, made_set, made_cleared, made_empty, made_token, made_payload}

-- A choice between lists, mapped.
map_pick : {A B : Type 0} (f : A → B) (t : Bool) (xs ys : List A) → map f (pick t xs ys) ≡ pick t (map f xs) (map f ys)
map_pick f true xs ys = refl
map_pick f false xs ys = refl

module _ (s : Stores) where
  -- The options of records that were inserted or removed are those of the records, inserted or removed.
  map_up_to : (n : ℕ) (rs : List OptionRecord) → up_to n rs ≡ up_to_by (λ o. o.number) n (map (option_of s) rs)
  map_up_to n [] = refl
  map_up_to n (r ∷ rs) = ap (either (leb r.number n)) (map_up_to n rs)

  pub map_inserted : (n : ℕ) (new rs : List OptionRecord)
      → map (option_of s) (inserted n new rs) ≡ inserted_by (λ o. o.number) n (map (option_of s) new) (map (option_of s) rs)
  map_inserted n new [] = refl
  map_inserted n new (r ∷ rs) =
      map_pick (option_of s) (up_to n (r ∷ rs)) (r ∷ inserted n new rs) (new ++ (r ∷ rs))
      ∙ (rw (map-append (option_of s) new (r ∷ rs), map_inserted n new rs, map_up_to n rs) refl)

  pub map_removed : (n : ℕ) (rs : List OptionRecord) → map (option_of s) (removed n rs) ≡ removed_by (λ o. o.number) n (map (option_of s) rs)
  map_removed n [] = refl
  map_removed n (r ∷ rs) =
      map_pick (option_of s) (eqb r.number n) (removed n rs) (r ∷ removed n rs) ∙ (rw (map_removed n rs) refl)

  -- What a packet that was made means.
  pub meaning_made : (p q : Packet) (token payload : Range) (rs : List OptionRecord) → Made p token rs payload q
      → meaning s q ≡ with_options (with_payload (with_token (meaning s p) (bytes_of s token)) (bytes_of s payload)) (map (option_of s) rs)
  meaning_made p q token payload rs m =
      ap (meaning s) m.is
      ∙ ap (λ (os : List OptionRecord). with_options (with_payload (with_token (meaning s p) (bytes_of s token)) (bytes_of s payload)) (map (option_of s) os))
      (take-append_seam rs (replicate (max_options - length rs) none))

  module _ (p q : Packet) where
    -- Token and payload: nothing else changes.
    pub meaning_token : (token : Range) → token_set p token ≡ given q → meaning s q ≡ with_token (meaning s p) (bytes_of s token)
    meaning_token token e = meaning_made p q token p.payload (records_of p) (made_token p q token e).1

    pub meaning_payload : (payload : Range) → payload_set p payload ≡ given q → meaning s q ≡ with_payload (meaning s p) (bytes_of s payload)
    meaning_payload payload e = meaning_made p q p.token payload (records_of p) (made_payload p q payload e)

    -- Options: the added value is at its place, a cleared number is gone, the set values stand for the old ones; nothing else moves.
    pub meaning_added : (n : ℕ) (range : Range) → added p n range ≡ given q → meaning s q ≡ option_added (meaning s p) n (bytes_of s range)
    meaning_added n range e =
        meaning_made p q p.token p.payload (inserted n (record_of n range ∷ []) (records_of p)) (made_added p q n range e)
        ∙ ap (with_options (meaning s p)) (map_inserted n (record_of n range ∷ []) (records_of p))

    pub meaning_cleared : (n : ℕ) → cleared p n ≡ given q → meaning s q ≡ options_cleared (meaning s p) n
    meaning_cleared n e =
        meaning_made p q p.token p.payload (removed n (records_of p)) (made_cleared p q n e)
        ∙ ap (with_options (meaning s p)) (map_removed n (records_of p))

    pub meaning_empty : cleared_all p ≡ given q → meaning s q ≡ with_options (meaning s p) []
    meaning_empty e = meaning_made p q p.token p.payload [] (made_empty p q e)

    pub meaning_set : (n : ℕ) (ranges : List Range) → option_set p n ranges ≡ given q
        → meaning s q ≡ options_set (meaning s p) n (map (λ range. bytes_of s range) ranges)
    meaning_set n ranges e =
        let values : map (option_of s) (map (record_of n) ranges) ≡ map (λ v. record { number = n; value = v }) (map (λ range. bytes_of s range) ranges) =
        map-map (option_of s) (record_of n) ranges ∙ sym (map-map (λ v. record { number = n; value = v }) (λ range. bytes_of s range) ranges) in
        meaning_made p q p.token p.payload (inserted n (map (record_of n) ranges) (removed n (records_of p))) (made_set p q n ranges e)
        ∙ ap (with_options (meaning s p)) (map_inserted n (map (record_of n) ranges) (removed n (records_of p)) ∙ (rw (values, map_removed n (records_of p)) refl))

  -- The numbers of a packet that edits take never fall in its meaning.
  rising_from : (before : ℕ) (rs : List OptionRecord) → falling before rs ≡ false → Rising before (map (option_of s) rs)
  rising_from before [] e = tt
  rising_from before (r ∷ rs) e = let up = rises before r rs e in (up.first, rising_from r.number rs up.rest)

  pub meaning_rising : (p : Packet) → misordered p ≡ false → Rising 0 (meaning s p).options
  meaning_rising p m = rising_from 0 (records_of p) (in_order p m).rising
