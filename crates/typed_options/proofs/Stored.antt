-- What a setter that is done has made: its edit of the records is done, and its bytes are inside the store.
use Prim.Native.Nat.{ℕ, ◌+◌, ◌≤◌}
use mathlib.Core.Path.{◌≡◌, sym, ◌∙◌}
use mathlib.Core.Bool.{false}
use mathlib.Core.List.{List, [], ◌∷◌}
use lib.ListN.{length}
use Rattle.ground.proofs.Choice.{on_lt}
use Rattle.rfc.specs.Uint.{uint}
use Rattle.refusal.specs.Answer.{Answer, given, room_from}
use Rattle.refusal.proofs.Answers.{not_refused, onward_given}
use Rattle.packet.specs.Limits.{max_store}
use Rattle.packet.specs.declared.Packet.{Packet}
use Rattle.judging.specs.Judge.{misordered}
use Rattle.editing.specs.Edit.{added, option_set}
use Rattle.editing.proofs.Made.{added_order, set_order}
use Rattle.typed_options.specs.Setters.{storing, range_at, format_set, observe_set}

pub record Stored (old : List ℕ) (start : ℕ) (bytes : List ℕ) (edit : Answer Packet) (q : Packet) : Type 0 where
  pub made : edit ≡ given q
  pub inside : start + length bytes ≤ length old
  pub short : length old ≤ max_store

module _ (old : List ℕ) (start : ℕ) (bytes : List ℕ) (q : Packet) where
  of_room : (r : Packet) → room_from (length old) start bytes r ≡ given q → (given r ≡ given q) × (start + length bytes ≤ length old)
  of_room r =
      on_lt (λ (b : Answer Packet). b ≡ given q → (given r ≡ given q) × (start + length bytes ≤ length old)) (length old) (start + length bytes)
      (λ l e. not_refused (sym e)) (λ l e. (e, l))

  pub of_storing : (a : Answer Packet) → storing old start bytes a ≡ given q → Stored old start bytes a q
  of_storing a =
      on_lt (λ (b : Answer Packet). b ≡ given q → Stored old start bytes a q) max_store (length old) (λ l e. not_refused (sym e))
      (λ l e.
      let o = onward_given a (λ p. room_from (length old) start bytes p) q e in
      let r = of_room o.0 o.2 in
      record { made = o.1 ∙ r.0; inside = r.1; short = l })

module _ (old : List ℕ) (start n : ℕ) (p q : Packet) where
  pub stored_format : format_set old start p n ≡ given q → Stored old start (uint 2 n) (added p 12 (range_at start (uint 2 n))) q
  unfolding format_set
  stored_format e = of_storing old start (uint 2 n) q (added p 12 (range_at start (uint 2 n))) e

  pub stored_observe : observe_set old start p n ≡ given q → Stored old start (uint 4 n) (option_set p 6 (range_at start (uint 4 n) ∷ [])) q
  unfolding observe_set
  stored_observe e = of_storing old start (uint 4 n) q (option_set p 6 (range_at start (uint 4 n) ∷ [])) e

  -- A setter that is done leaves a packet that edits take.
  pub format_order : format_set old start p n ≡ given q → misordered q ≡ false
  format_order e = added_order p q 12 (range_at start (uint 2 n)) (stored_format e).made

  pub observe_order : observe_set old start p n ≡ given q → misordered q ≡ false
  observe_order e = set_order p q 6 (range_at start (uint 4 n) ∷ []) (stored_observe e).made
