-- What the functions that put values are handed, and what they show.
use Rattle.std.specs.Prelude.{ℕ, ◌+◌, ◌≤◌, ◌≡◌, List, [], ◌++◌, length}
use Rattle.std.proofs.lemmas.List.Edits.{sets}
use Rattle.rfc.specs.Uri.{Kind, query}
use Rattle.rfc.specs.Percent.{Read, good, bad_text, bad_option, decode}
use Rattle.rfc.specs.Target.{Target, parts}
use Rattle.rfc.specs.Text.{joined}
use Rattle.packet.specs.Limits.{max_store, max_options}
use Rattle.packet.specs.Packet.{new_packet}
use Rattle.uri_text.specs.Reading.{values_of, reading}
use Rattle.uri_text.specs.Tally.{total, tally}
use Rattle.target_reading.specs.FromText.{records_at, records_for}
use Rattle.target_reading.specs.declared.Filled.{Filled}

-- What was read, and nothing of a refusal.
abbrev pub goods : {A : Type 0} → Read (List A) → List A
goods (good v) = v
goods bad_text = []
goods (bad_option i) = []

-- The bytes of a part.
abbrev pub bytes_of : Kind → List ℕ → List ℕ
bytes_of kind s = goods (decode kind s)

-- A part that can be put at a place of a store.
pub record Places (kind : Kind) (s store : List ℕ) (at : ℕ) : Type 0 where
  pub good : decode kind s ≡ good (bytes_of kind s)
  pub room : at + length (bytes_of kind s) ≤ length store

-- The values of a text's parts, after so many records.
abbrev pub values_in : Kind → (sep : ℕ) → List ℕ → (count : ℕ) → List (List ℕ)
values_in kind sep s count = goods (values_of kind count (parts sep s))

-- Parts that can be put after what is filled.
pub record Placeable (kind : Kind) (sep : ℕ) (s store : List ℕ) (f : Filled) : Type 0 where
  pub good : values_of kind f.count (parts sep s) ≡ good (values_in kind sep s f.count)
  pub few : f.count + length (values_in kind sep s f.count) ≤ max_options
  pub room : f.at + total (values_in kind sep s f.count) ≤ length store
  pub short : length store ≤ max_store
  pub array : length f.options ≡ max_options

-- What is filled after them.
pub record Fills (kind : Kind) (number sep : ℕ) (s old : List ℕ) (f r : Filled) (new : List ℕ) : Type 0 where
  pub options : r.options ≡ sets f.options f.count (records_at number f.at (values_in kind sep s f.count))
  pub count : r.count ≡ f.count + length (values_in kind sep s f.count)
  pub at : r.at ≡ f.at + total (values_in kind sep s f.count)
  pub store : new ≡ sets old f.at (joined (values_in kind sep s f.count))

-- A text's tally, over a store that isn't too long.
pub record Tallies (s store : List ℕ) (count bytes : ℕ) : Type 0 where
  pub tallied : good (record { count = count; bytes = bytes }) ≡ tally (reading s)
  pub short : length store ≤ max_store

-- What a text says that is read.
abbrev pub target_in : Read Target → Target
target_in (good t) = t
target_in bad_text = record { path = []; query = [] }
target_in (bad_option i) = record { path = []; query = [] }

-- A text whose values have room from a place on.
pub record Readable (s store : List ℕ) (at : ℕ) : Type 0 where
  pub good : reading s ≡ good (target_in (reading s))
  pub few : length (target_in (reading s)).path + length (target_in (reading s)).query ≤ max_options
  pub room : at + (total (target_in (reading s)).path + total (target_in (reading s)).query) ≤ length store
  pub short : length store ≤ max_store

-- What is filled of it.
pub record Reads (s : List ℕ) (at : ℕ) (old : List ℕ) (r : Filled) (new : List ℕ) : Type 0 where
  pub options : r.options ≡ sets new_packet.options 0 (records_for at (target_in (reading s)))
  pub count : r.count ≡ length (target_in (reading s)).path + length (target_in (reading s)).query
  pub store : new ≡ sets old at (joined (target_in (reading s)).path ++ joined (target_in (reading s)).query)
