-- Peers as text: an IPv4 address as four numbers with dots, any other as groups with colons in brackets, and the port (RFC 4291,
-- sections 2.2 and 2.5.5.2; RFC 5952, sections 4, 5 and 6). A peer is 16 bytes of address and 2 of port.
use Rattle.std.specs.Prelude.{ℕ, zero, suc, ◌+◌, ◌-◌, ◌*◌, ◌/◌, ◌%◌, Bool, true, List, [], ◌∷◌, ◌++◌, get_or, ltb, eqb}
use Rattle.ground.specs.Choice.{pick, both}
use Rattle.hexadecimal.specs.Hex.{hex_digit}
use Rattle.decimal.specs.Decimal.{decimal}

-- The number of two bytes, the high one first.
abbrev pub pair : ℕ → ℕ → ℕ
pair high low = high * 256 + low

-- A group of an address: two of its bytes.
abbrev pub group : List ℕ → ℕ → ℕ
group p g = pair (get_or p (2 * g) 0) (get_or p (2 * g + 1) 0)

-- A digit, where it is shown.
abbrev pub shown : Bool → ℕ → List ℕ
shown there d = pick there (hex_digit d ∷ []) []

-- A group's digits: lower case, and no zero before the others (RFC 5952, sections 4.1 and 4.3).
abbrev pub group_text : ℕ → List ℕ
group_text n =
    shown (ltb 4095 n) (n / 4096 % 16) ++ (shown (ltb 255 n) (n / 256 % 16) ++ (shown (ltb 15 n) (n / 16 % 16) ++ shown true (n % 16)))

-- A group of a row that begins with `first`: a colon stands before each but the first.
abbrev pub piece : List ℕ → ℕ → ℕ → List ℕ
piece p first g = pick (ltb first g) (58 ∷ []) [] ++ group_text (group p g)

-- So many groups of a row, from one on.
unfoldable pub pieces : List ℕ → ℕ → ℕ → ℕ → List ℕ
pieces p first zero g = []
pieces p first (suc n) g = piece p first g ++ pieces p first n (suc g)

-- The row of groups from one to before another.
abbrev pub row : List ℕ → ℕ → ℕ → List ℕ
row p from to = pieces p from (to - from) from

-- Where the groups of zeros end that begin with a group, of which so many are left.
unfoldable pub run_in : List ℕ → ℕ → ℕ → ℕ
run_in p zero g = g
run_in p (suc n) g = pick (eqb (group p g) 0) (run_in p n (suc g)) g

abbrev pub run_end : List ℕ → ℕ → ℕ
run_end p g = run_in p (8 - g) g

-- Where the longest run begins, the first of equals, of those longer than a size that is known already (RFC 5952, section 4.2.3).
unfoldable pub longest_in : List ℕ → ℕ → ℕ → ℕ → ℕ → ℕ
longest_in p zero g start size = start
longest_in p (suc n) g start size =
    pick (ltb size (run_end p g - g)) (longest_in p n (suc g) g (run_end p g - g)) (longest_in p n (suc g) start size)

-- Where the run begins that `::` stands for: one group alone is not shortened (RFC 5952, section 4.2.2). 8 where there is none.
abbrev pub longest : List ℕ → ℕ
longest p = longest_in p 8 0 8 1

-- The groups, with `::` for the longest run.
abbrev pub groups_text : List ℕ → List ℕ
groups_text p =
    pick (eqb (longest p) 8) (row p 0 8) (row p 0 (longest p) ++ (58 ∷ 58 ∷ row p (run_end p (longest p)) 8))

-- An IPv4-mapped address: five groups of zeros, and one of ffff (RFC 4291, section 2.5.5.2).
abbrev pub is_mapped : List ℕ → Bool
is_mapped p = both (eqb (run_end p 0) 5) (eqb (group p 5) 65535)

-- The four numbers of an IPv4 address.
abbrev pub dotted : List ℕ → List ℕ
dotted p =
    decimal (get_or p 12 0) ++ (46 ∷ (decimal (get_or p 13 0) ++ (46 ∷ (decimal (get_or p 14 0) ++ (46 ∷ decimal (get_or p 15 0))))))

-- The address, in brackets where it has groups (RFC 5952, section 6).
abbrev pub address_text : List ℕ → List ℕ
address_text p = pick (is_mapped p) (dotted p) (91 ∷ (groups_text p ++ (93 ∷ [])))

-- The peer: its address, a colon and its port.
abbrev pub peer_text : List ℕ → List ℕ
peer_text p = address_text p ++ (58 ∷ decimal (pair (get_or p 16 0) (get_or p 17 0)))
