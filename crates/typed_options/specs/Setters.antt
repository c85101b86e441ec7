-- Setting the content format and Observe (docs/RULES.md, Edits): an edit of the records, and the value's shortest uint put into
-- the edit store.
use Rattle.std.specs.Prelude.{ℕ, ◌≡◌, List, [], ◌∷◌, length, ltb, Result}
use Rattle.ground.specs.Choice.{pick}
use Rattle.rfc.specs.Uint.{uint}
use Rattle.refusal.specs.Answer.{Answer, refused, onward, room_from, after}
use Rattle.refusal.specs.declared.Refusal.{Refusal}
use Rattle.packet.specs.Limits.{max_store}
use Rattle.packet.specs.declared.Packet.{Packet}
use Rattle.packet.specs.declared.Range.{Range}
use Rattle.packet.specs.declared.Home.TheVariants.{Edits as InEdits}
use Rattle.splicing.specs.Edited.{Edits}
use Rattle.editing.specs.Edit.{added, option_set}

-- An edit store over 70,000 bytes gives 10, then the edit of the records answers, then the room is judged.
abbrev pub storing : List ℕ → ℕ → List ℕ → Answer Packet → Answer Packet
storing store start bytes edit = pick (ltb max_store (length store)) (refused 10) (onward edit (λ p. room_from (length store) start bytes p))

-- The range of bytes in the edit store from a start.
abbrev pub range_at : ℕ → List ℕ → Range
range_at start bytes = record { home = InEdits; start = start; len = length bytes }

-- Setting a content format adds a record of number 12, and replaces none.
unfoldable pub format_set : List ℕ → ℕ → Packet → ℕ → Answer Packet
format_set store start p n = storing store start (uint 2 n) (added p 12 (range_at start (uint 2 n)))

-- Setting Observe clears number 6 first: one record replaces them all.
unfoldable pub observe_set : List ℕ → ℕ → Packet → ℕ → Answer Packet
observe_set store start p n = storing store start (uint 4 n) (option_set p 6 (range_at start (uint 4 n) ∷ []))

-- The promise of a setter: of its answer, and of the edit store, which holds the bytes from the start after a packet was given,
-- and after a refusal what it held.
pub record Sets (p : Packet) (a : Answer Packet) (start : ℕ) (bytes old : List ℕ) (r : Result Packet Refusal) (new : List ℕ) : Type 0 where
  pub answer : Edits p a r
  pub store : new ≡ after a start bytes old
