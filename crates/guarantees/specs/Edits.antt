-- What edits do to the message that a packet means, over any two stores: an edit that is done changes what it names and nothing else,
-- and leaves a packet that edits take.
use Rattle.std.specs.Prelude.{ℕ, ◌≡◌, false, List, [], ◌∷◌, map, length, Result, Ok, Err}
use Rattle.rfc.specs.Uint.{uint}
use Rattle.refusal.specs.Answer.{Answer}
use Rattle.refusal.specs.declared.Refusal.{Refusal}
use Rattle.packet.specs.Packet.{Stores, stores, bytes_of, records_of}
use Rattle.packet.specs.Meaning.{meaning}
use Rattle.packet.specs.declared.Packet.{Packet}
use Rattle.packet.specs.declared.Range.{Range}
use Rattle.judging.specs.Judge.{misordered}
use Rattle.splicing.specs.Edited.{edited, Edits}
use Rattle.splicing.specs.Splice.{ranges_in, homed}
use Rattle.editing.specs.Edit.{removed, token_set, payload_set, added, option_set, cleared, cleared_all}
use Rattle.editing.specs.Message.{with_options, with_token, with_payload, option_added, options_cleared, options_set}
use Rattle.typed_options.specs.Apart.{Untouched}
use Rattle.typed_options.specs.Setters.{Sets, format_set, observe_set}
use Rattle.guarantees.specs.Refusals.{DoneOr}
use Rattle.guarantees.specs.Apart.{TellsApart}

-- An edit that meets its promise and is done: over any two stores the new packet means this, and edits take it.
abbrev pub Does : Packet → Answer Packet → (Stores → Packet → Type 0) → Type 0
Does p a Means = (r : Result Packet Refusal) → Edits p a r → (q : Packet) → r ≡ Ok q → ((s : Stores) → Means s q) × (misordered q ≡ false)

pub record EditsMean (p : Packet) : Type 0 where
  -- The token, and the payload, are what the range names.
  pub token : (range : Range) → Does p (token_set p range) (λ s q. meaning s q ≡ with_token (meaning s p) (bytes_of s range))
  pub payload : (range : Range) → Does p (payload_set p range) (λ s q. meaning s q ≡ with_payload (meaning s p) (bytes_of s range))
  -- An added option stands after the last of the same or a lower number.
  pub added : (n : ℕ) (range : Range) → Does p (added p n range) (λ s q. meaning s q ≡ option_added (meaning s p) n (bytes_of s range))
  -- The values set are the number's only ones, in their order.
  pub set : (n : ℕ) (numbers : List ℕ)
      → Does p (homed numbers (option_set p n)) (λ s q. meaning s q ≡ options_set (meaning s p) n (map (bytes_of s) (ranges_in numbers)))
  -- A cleared number has none, and after clearing all no number has.
  pub cleared : (n : ℕ) → Does p (cleared p n) (λ s q. meaning s q ≡ options_cleared (meaning s p) n)
  pub cleared_all_lem : Does p (cleared_all p) (λ s q. meaning s q ≡ with_options (meaning s p) [])

-- The two setters, over any datagram and the edit store that they leave, where the bytes that they put touch no range that stays in use: a content format
-- is one option 12 more, and Observe is the only option 6.
pub record SettersMean (p : Packet) (start n : ℕ) (old : List ℕ) (r : Result Packet Refusal) (new : List ℕ) : Type 0 where
  pub format : Sets p (format_set old start p n) start (uint 2 n) old r new → (q : Packet) → r ≡ Ok q → Untouched start (length (uint 2 n)) p (records_of p)
      → (d : List ℕ) → meaning (stores d new) q ≡ option_added (meaning (stores d old) p) 12 (uint 2 n)
  pub observe : Sets p (observe_set old start p n) start (uint 4 n) old r new → (q : Packet) → r ≡ Ok q → Untouched start (length (uint 4 n)) p (removed 6 (records_of p))
      → (d : List ℕ) → meaning (stores d new) q ≡ options_set (meaning (stores d old) p) 6 (uint 4 n ∷ [])

-- Beside a refused edit stands the packet as it came.
abbrev pub PacketKept : Type 0
PacketKept = (a : Answer Packet) (old : Packet) (r : Result Packet Refusal) → Edits old a r → DoneOr r (edited old r) old

-- A refused setter leaves the edit store as it was, too.
abbrev pub StoreKept : Type 0
StoreKept =
    (a : Answer Packet) (old : Packet) (r : Result Packet Refusal) (start : ℕ) (bytes store new : List ℕ) → Sets old a start bytes store r new
    → (e : Refusal) → r ≡ Err e → new ≡ store

-- The definition that a promise of edits tells its answer by tells answers apart.
pub record ToldApart : Type 0 where
  pub edits : (old : Packet) → TellsApart (edited old)
