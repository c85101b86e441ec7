-- What a text is read as: the 18 bytes of a peer, 16 of address and 2 of port, or BadText (15). An IPv4 address is four numbers with
-- dots, any other is groups in brackets; a colon and the port follow (RFC 4291, sections 2.2 and 2.5.5.2).
use Rattle.std.specs.Prelude.{ℕ, ◌+◌, ◌-◌, ◌*◌, ◌/◌, ◌%◌, ◌≡◌, Bool, true, false, List, [], ◌∷◌, ◌++◌, length, get_or, take, drop, replicate, ltb, eqb, Option, Some, None, Result, Ok, Err}
use Rattle.ground.specs.Choice.{pick, both}
use Rattle.rfc.specs.Percent.{hex_value}
use Rattle.refusal.specs.Answer.{Answer, given, refused, onward, Beside, beside}
use Rattle.refusal.specs.Number.{number_of as refusal_number}
use Rattle.refusal.specs.declared.Refusal.{Refusal}
use Rattle.decimal.specs.Decimal.{decimal_at}
use Rattle.uri_text.specs.Tally.{first_length}
use Rattle.peer_reading.specs.declared.Number.{Number}

-- Several digits, the first of them 0.
abbrev pub zero_first : List ℕ → Bool
zero_first t = both (ltb 1 (length t)) (eqb (get_or t 0 0) 48)

-- A decimal number of at most `most`, with no zero before its other digits.
unfoldable pub numeral : (most : ℕ) → List ℕ → Answer ℕ
numeral most t = pick (zero_first t) (refused 15) (decimal_at most t)

-- The number before the first `mark`, and the text after it, for what comes next.
abbrev pub number_then : {A : Type 0} → (mark most : ℕ) → List ℕ → (ℕ → List ℕ → Answer A) → Answer A
number_then mark most s next =
    pick (ltb (first_length mark s) (length s))
    (onward (numeral most (take (first_length mark s) s)) (λ n. next n (drop (first_length mark s + 1) s)))
    (refused 15)

-- A number of 16 bits as two bytes, the high one first.
abbrev pub pair_bytes : ℕ → List ℕ
pair_bytes n = (n / 256 % 256) ∷ (n % 256) ∷ []

-- An IPv4-mapped address and a port: ten bytes of 0, two of 255, then the address's four (RFC 4291, section 2.5.5.2).
abbrev pub mapped_peer : (a b c d port : ℕ) → List ℕ
mapped_peer a b c d port = replicate 10 0 ++ (255 ∷ 255 ∷ a ∷ b ∷ c ∷ d ∷ pair_bytes port)

-- Four numbers with dots between, a colon and the port: the port after an address, and an address from its fourth number on, from its
-- third, from its second, from its first.
abbrev pub from_port : (a b c d : ℕ) → List ℕ → Answer (List ℕ)
from_port a b c d s = onward (numeral 65535 s) (λ port. given (mapped_peer a b c d port))

abbrev pub from_fourth : (a b c : ℕ) → List ℕ → Answer (List ℕ)
from_fourth a b c s = number_then 58 255 s (from_port a b c)

abbrev pub from_third : (a b : ℕ) → List ℕ → Answer (List ℕ)
from_third a b s = number_then 46 255 s (from_fourth a b)

abbrev pub from_second : (a : ℕ) → List ℕ → Answer (List ℕ)
from_second a s = number_then 46 255 s (from_third a)

abbrev pub dotted_peer : List ℕ → Answer (List ℕ)
dotted_peer s = number_then 46 255 s from_second

-- Groups with colons between, each of one to four hexadecimal digits, of which `digits` of the first were passed.
unfoldable pub are_groups : (digits : ℕ) → List ℕ → Bool
are_groups digits [] = ltb 0 digits
are_groups digits (c ∷ s) =
    pick (eqb c 58) (pick (eqb digits 0) false (are_groups 0 s))
    (pick (ltb 15 (hex_value c)) false (pick (ltb 3 digits) false (are_groups (digits + 1) s)))

-- Their bytes, two for each group; the digits of the first that were passed have this value.
unfoldable pub group_bytes : (value : ℕ) → List ℕ → List ℕ
group_bytes value [] = pair_bytes value
group_bytes value (c ∷ s) =
    pick (eqb c 58) (pair_bytes value ++ group_bytes 0 s) (group_bytes (value % 4096 * 16 + hex_value c) s)

-- One side of a `::`, or a whole address: groups, or none.
unfoldable pub is_side : List ℕ → Bool
is_side t = pick (eqb (length t) 0) true (are_groups 0 t)

unfoldable pub side_bytes : List ℕ → List ℕ
side_bytes t = pick (eqb (length t) 0) [] (group_bytes 0 t)

-- How many characters stand before the first `::`, or in all.
unfoldable pub gap_in : List ℕ → ℕ
gap_in [] = 0
gap_in (c ∷ s) = pick (both (eqb c 58) (eqb (get_or s 0 0) 58)) 0 (gap_in s + 1)

-- An address without `::`: eight groups.
unfoldable pub whole_address : List ℕ → Answer (List ℕ)
whole_address t = pick (is_side t) (pick (eqb (length (side_bytes t)) 16) (given (side_bytes t)) (refused 15)) (refused 15)

-- An address with groups before and after `::`, which stands for one or more groups of zeros.
unfoldable pub cut_address : List ℕ → List ℕ → Answer (List ℕ)
cut_address l r =
    pick (is_side l)
    (pick (is_side r)
    (pick (ltb 15 (length (side_bytes l) + length (side_bytes r))) (refused 15)
    (given (side_bytes l ++ (replicate (16 - (length (side_bytes l) + length (side_bytes r))) 0 ++ side_bytes r))))
    (refused 15))
    (refused 15)

-- An address in groups (RFC 4291, section 2.2).
unfoldable pub address_in : List ℕ → Answer (List ℕ)
address_in t = pick (ltb (gap_in t) (length t)) (cut_address (take (gap_in t) t) (drop (gap_in t + 2) t)) (whole_address t)

-- A colon and the port.
unfoldable pub port_in : List ℕ → Answer ℕ
port_in t = pick (eqb (get_or t 0 0) 58) (numeral 65535 (drop 1 t)) (refused 15)

-- After a bracket: the address, a bracket, a colon and the port.
unfoldable pub grouped_peer : List ℕ → Answer (List ℕ)
grouped_peer s =
    pick (ltb (first_length 93 s) (length s))
    (onward (port_in (drop (first_length 93 s + 1) s)) (λ port.
    onward (address_in (take (first_length 93 s) s)) (λ a. given (a ++ pair_bytes port))))
    (refused 15)

-- The peer that a text is.
unfoldable pub peer_in : List ℕ → Answer (List ℕ)
peer_in s = pick (eqb (get_or s 0 0) 91) (grouped_peer (drop 1 s)) (dotted_peer s)

-- The answer of reading: how it ended, and the bytes beside it, zeros beside a refusal.
abbrev pub peer_of : Result (List ℕ) Refusal → Beside (List ℕ)
peer_of (Ok bytes) = record { answer = given tt; value = bytes }
peer_of (Err e) = record { answer = refused (refusal_number e); value = replicate 18 0 }

-- What reading promises of its answer: the peer, and zeros beside a refusal.
abbrev pub ReadsPeer : Answer (List ℕ) → Result (List ℕ) Refusal → Type 0
ReadsPeer a r = peer_of r ≡ beside (replicate 18 0) a

-- A number before a mark, and where the text after it starts.
pub record Before : Type 0 where
  pub value : ℕ
  pub next : ℕ

abbrev pub number_of : Option Number → Answer Before
number_of (Some n) = given (record { value = n.value; next = n.next })
number_of None = refused 15

abbrev pub number_to : (mark most : ℕ) → List ℕ → Answer Before
number_to mark most s = number_then mark most s (λ n rest. given (record { value = n; next = first_length mark s + 1 }))
