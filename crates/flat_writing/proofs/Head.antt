-- Header and token, from the numbers: the raw header is that of the packet's header.
use Prim.Native.Nat.{ℕ, ◌+◌, ◌*◌, ◌%◌, ◌≤◌}
use mathlib.Core.Path.{◌≡◌, sym, subst}
use mathlib.Core.Bool.{false}
use mathlib.Core.List.{List}
use native.Mathlib.Omega.{arith}
use lib.ListN.{length, get_or}
use Rattle.std.specs.Prelude.{Ok}
use Rattle.refusal.specs.Answer.{fitted, after}
use Rattle.class.proofs.Class.{byte_back}
use Rattle.header.specs.Header.{number_of_type, type_of, raw_bytes, raw_of}
use Rattle.header.specs.declared.HeaderRaw.{HeaderRaw}
use Rattle.header.proofs.Raw.{number_back}
use Rattle.placing.specs.Put.{Puts}
use Rattle.laying.specs.Laying.{LaysHeader}
use Rattle.laying.proofs.Laid.{head_put}
use Rattle.unflat.specs.Unflat.{bad_head, header_in}
use Rattle.unflat.proofs.Unflat.{small}

-- The raw header of the numbers.
abbrev pub raw_header_at : List ℕ → HeaderRaw
raw_header_at l = record { ver_type_tkl = get_or l 0 0 * 64 + get_or l 1 0 * 16 + get_or l 6 0; code = get_or l 2 0; message_id = get_or l 3 0 }

module _ (l token old mid new : List ℕ) (r : ℕ) (pre : (11 ≤ length l) × (bad_head l ≡ false) × (get_or l 0 0 ≤ 3) × (length token ≡ get_or l 6 0) × (get_or l 6 0 ≤ 15) × (4 + length token ≤ length old)) where
  raw_is : raw_header_at l ≡ raw_of (header_in l) (length token)
  unfolding header_in
  raw_is =
      let first : get_or l 0 0 * 64 + get_or l 1 0 * 16 + get_or l 6 0 ≡ get_or l 0 0 % 4 * 64 + number_of_type (type_of (get_or l 1 0)) * 16 + length token % 16 = omega (arith, number_back (get_or l 1 0), (small l pre.1).type, pre.2, pre.3, pre.4) in
      λ i. record { ver_type_tkl = first i; code = sym (byte_back (get_or l 2 0)) i; message_id = get_or l 3 0 }

  pub head_laid : mid ≡ after (fitted (length old) (raw_bytes (raw_header_at l))) 0 (raw_bytes (raw_header_at l)) old → Puts mid 4 token r new → LaysHeader (header_in l) token old (Ok r) new
  unfolding header_in
  head_laid e p =
      head_put (header_in l) token old mid new r pre.2 (omega (arith, pre.3, pre.4)) pre.5
      (subst (λ (raw : HeaderRaw). mid ≡ after (fitted (length old) (raw_bytes raw)) 0 (raw_bytes raw) old) raw_is e) p
