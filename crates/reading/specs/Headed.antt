-- The header of a datagram that is refused for nothing before its options.
use Rattle.std.specs.Prelude.{ℕ, ◌+◌, Bool, not, List, length, ltb, eqb}
use Rattle.ground.specs.Choice.{pick, both, either}
use Rattle.refusal.specs.Answer.{Answer, given, refused, onward}
use Rattle.header.specs.Header.{version_of, token_of, raw_in}
use Rattle.header.specs.declared.HeaderRaw.{HeaderRaw}
use Rattle.packet.specs.Limits.{max_store}

-- A header that was read: strict 7, 2, strict 8, or the header.
unfoldable pub good_header : Bool → List ℕ → HeaderRaw → Answer HeaderRaw
good_header strict s raw =
    pick (both strict (not (eqb (version_of raw) 1))) (refused 7)
    (pick (either (ltb 8 (token_of raw)) (ltb (length s) (4 + token_of raw))) (refused 2)
    (pick (both strict (both (eqb raw.code 0) (either (ltb 4 (length s)) (not (eqb (token_of raw) 0))))) (refused 8) (given raw)))

-- The header of a datagram: 10, 1, then as above.
unfoldable pub headed : Bool → List ℕ → Answer HeaderRaw
headed strict s = pick (ltb max_store (length s)) (refused 10) (onward (raw_in s) (good_header strict s))
