-- A packet to the text of its path and query: the order of refusals, and what is written.
use Rattle.std.specs.Prelude.{ℕ, ◌≤◌, ◌≡◌, false, List, map, length, eqb, Result}
use Rattle.ground.specs.Choice.{pick}
use Rattle.rfc.specs.Message.{Opt}
use Rattle.rfc.specs.Target.{target_of, text_of}
use Rattle.refusal.specs.Answer.{Answer, given, refused, onward, written, fitted, after}
use Rattle.refusal.specs.declared.Refusal.{Refusal}
use Rattle.packet.specs.Limits.{max_options}
use Rattle.packet.specs.Packet.{Stores, records_of}
use Rattle.packet.specs.Meaning.{option_of, meaning}
use Rattle.packet.specs.declared.Packet.{Packet}
use Rattle.judging.specs.Judge.{lengths_of, is_too_long, bad_packet}

-- The options that a packet means.
abbrev pub options_in : Stores → Packet → List Opt
options_in s p = map (option_of s) (records_of p)

-- The text of the path and query that a packet means.
unfoldable pub text_in : Stores → Packet → List ℕ
text_in s p = text_of (target_of (meaning s p).options)

-- A store over 70,000 bytes gives 10, then any bad record 11.
unfoldable pub writable : Stores → Packet → Answer (List ℕ)
writable s p =
    pick (is_too_long (lengths_of s)) (refused 10) (pick (bad_packet (lengths_of s) p) (refused 11) (given (text_in s p)))

-- What writing a text promises: a refusal, then NoRoom (12); else the text at the front of the output, and its length as the answer.
pub record Writes (a : Answer (List ℕ)) (text old : List ℕ) (r : Result ℕ Refusal) (new : List ℕ) : Type 0 where
  pub answer : written r ≡ onward a (fitted (length old))
  pub output : new ≡ after (onward a (fitted (length old))) 0 text old

-- The text of a packet into an output.
abbrev pub ToText : Stores → Packet → List ℕ → Result ℕ Refusal → List ℕ → Type 0
ToText s p old r new = Writes (writable s p) (text_in s p) old r new

-- What is known of a packet that was judged good, and of its stores.
pub record Fit (s : Stores) (p : Packet) : Type 0 where
  pub count : p.count ≤ max_options
  pub short : is_too_long (lengths_of s) ≡ false

-- Its text, where there is room for it.
abbrev pub Fits : Stores → Packet → List ℕ → Result ℕ Refusal → List ℕ → Type 0
Fits s p old r new = Writes (given (text_in s p)) (text_in s p) old r new

-- How many characters a path takes whose segments take so many.
abbrev pub path_length : ℕ → ℕ
path_length segments = pick (eqb segments 0) 1 segments
