-- What strict reading refuses, with no packet made.
use Rattle.std.specs.Prelude.{ℕ, ◌+◌, List, length, ltb, eqb}
use Rattle.ground.specs.Choice.{pick, both}
use Rattle.refusal.specs.Answer.{Answer, given, refused, onward}
use Rattle.packet.specs.Limits.{max_options, max_value}
use Rattle.reading.specs.Options.{Tail, options}

-- A marker that ends the message gives 9.
abbrev pub end_judged : List ℕ → Tail → Answer (Unit {0})
end_judged s t = pick (both t.marked (eqb t.payload (length s))) (refused 9) (given tt)

-- Options from a position, while there is room for records, and the payload after them.
unfoldable pub options_judged : List ℕ → (room number at : ℕ) → Answer (Unit {0})
options_judged s room number at = onward (options max_value s room number at) (end_judged s)

-- A message of version 1 by its code, its token's length and what follows the token: a token over 8 bytes gives 2, code 0 with a
-- token or anything after it 8; then options and payload.
unfoldable pub judged : (code token : ℕ) → List ℕ → Answer (Unit {0})
judged code token rest =
    pick (ltb 8 token) (refused 2)
    (pick (both (eqb code 0) (ltb 0 (token + length rest))) (refused 8) (options_judged rest max_options 0 0))
