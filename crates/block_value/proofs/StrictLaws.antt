-- Laws of strict block values: what is written is read back as itself, what is read is the only block and the only count of
-- zeros that the value has, and what is built has the size that was asked.
use Prim.Native.Nat.{ℕ, ◌≤◌}
use mathlib.Core.Path.{◌≡◌, refl, sym, subst, ◌∙◌}
use mathlib.Core.Bool.{Bool}
use mathlib.Core.List.{List}
use native.Mathlib.Omega.{arith}
use lib.ListN.{length, take}
use lib.Seq.{take-append_seam}
use borrow.Author.Tests.{le-ltb, ne_eqb}
use Rattle.ground.specs.Part.{Bytes}
use Rattle.ground.specs.Table.{listed}
use Rattle.rfc.specs.Block.{Block, Valid, block_number, block_of, block_bytes}
use Rattle.ground.proofs.Choice.{on, on_lt, on_eq}
use Rattle.rfc.proofs.Block.{block_number_lem, block_below}
use Rattle.ground.proofs.Part.{put_front}
use Rattle.refusal.specs.Answer.{Answer, given, after}
use Rattle.refusal.proofs.Answers.{not_refused, same_given, onward_given}
use Rattle.option_value.specs.Uint.{Padded, with_zeros, read_uint, Pads}
use Rattle.option_value.proofs.Uints.{read_pads, pads_read, written_then_read}
use Rattle.block_value.specs.Answers.{block_in, uint_in}
use Rattle.block_value.specs.Size.{size_up_to, exponent_of}
use Rattle.block_value.specs.Strict.{strict_sizes, strict_new, strict_writing, unreserved, strict_reading}
use Rattle.block_value.proofs.Padding.{uint_pads}
use Rattle.block_value.proofs.Sizes.{StrictSize, strict_size}

of_block : (b : Block) (z : ℕ) → Valid b → unreserved (block_in (with_zeros z (block_number b))) ≡ given (with_zeros z b)
of_block b z v = rw (block_number_lem b (omega (arith, v.szx)), ne_eqb b.szx 7 (λ e. omega (arith, v.szx)))

-- A valid block's bytes are read as that block, with no zero before them.
pub valid_read : (b : Block) → Valid b → strict_reading (block_bytes b) ≡ given (with_zeros 0 b)
unfolding block_bytes strict_reading
valid_read b v = rw (written_then_read 3 (block_number b) (omega arith) (block_below b v)) (of_block b 0 v)

-- What is written is a valid block, and all of its bytes.
pub record Sent (b : Block) (room n : ℕ) : Type 0 where
  pub valid : Valid b
  pub count : n ≡ length (block_bytes b)
  pub fits : length (block_bytes b) ≤ room

pub sent : (b : Block) (room n : ℕ) → strict_writing room b ≡ given n → Sent b room n
unfolding strict_writing
sent b room n =
    on_lt (λ (a : Answer ℕ). a ≡ given n → Sent b room n) 6 b.szx (λ _ e. not_refused (sym e))
    (λ s.
    on_lt (λ (a : Answer ℕ). a ≡ given n → Sent b room n) 1048575 b.num (λ _ e. not_refused (sym e))
    (λ m.
    on_lt (λ (a : Answer ℕ). a ≡ given n → Sent b room n) room (length (block_bytes b)) (λ _ e. not_refused (sym e))
    (λ h e. record { valid = record { num = m; szx = s }; count = sym (same_given e); fits = h })))

-- Every block that is written is read back as itself from the output.
pub written_back : (b : Block) (old : List ℕ) (n : ℕ) → strict_writing (length old) b ≡ given n →
    strict_reading (take n (after (strict_writing (length old) b) 0 (block_bytes b) old)) ≡ given (with_zeros 0 b)
written_back b old n e =
    let s : Sent b (length old) n = sent b (length old) n e in
    rw (e, s.count, put_front old (block_bytes b) s.fits, take-append_seam (block_bytes b)) (valid_read b s.valid)

-- What a strict reading gives: a valid block, and the value is its zeros and then the block's bytes.
pub record Read (bs : List ℕ) (p : Padded Block) : Type 0 where
  pub valid : Valid p.value
  pub pads : Pads 3 bs (uint_in p)

of_uint : (bs : List ℕ) (p : Padded ℕ) → Pads 3 bs p → ((block_of p.value).szx ≡ 7 → ⊥) → Read bs (block_in p)
unfolding block_of
of_uint bs p h z =
    record {
      valid = record { num = omega (arith, h.room); szx = omega (arith, z) };
      pads = uint_pads 3 bs p h;
    }

pub read : (bs : List ℕ) (p : Padded Block) → Bytes bs → strict_reading bs ≡ given p → Read bs p
unfolding strict_reading
read bs p t e =
    let o = onward_given (read_uint 3 bs) (λ q. unreserved (block_in q)) p e in
    on_eq (λ (a : Answer (Padded Block)). a ≡ given p → Read bs p) (block_of o.0.value).szx 7
    (λ _ e. not_refused (sym e))
    (λ z e. subst (Read bs) (same_given e) (of_uint bs o.0 (read_pads 3 o.0 bs t o.1) z)) o.2

-- Such a block is what is read.
pub only_read : (bs : List ℕ) (p : Padded Block) → Bytes bs → Read bs p → strict_reading bs ≡ given p
unfolding strict_reading
only_read bs p t r = rw (pads_read 3 (uint_in p) bs t r.pads) (of_block p.value p.zeros r.valid)

-- So no two valid blocks, and no two counts, are read from one value.
pub one_read : (bs : List ℕ) (p q : Padded Block) → Bytes bs → Read bs p → Read bs q → p ≡ q
one_read bs p q t r s = same_given (sym (only_read bs p t r) ∙ only_read bs q t s)

-- A block that is built is valid, and its size is the size that was asked.
pub record Made (n : ℕ) (m : Bool) (asked : ℕ) (b : Block) : Type 0 where
  pub valid : Valid b
  pub num : b.num ≡ n
  pub more : b.more ≡ m
  pub size : size_up_to 6 b.szx ≡ given asked

of_size : (n : ℕ) (m : Bool) (asked : ℕ) → n ≤ 1048575 → StrictSize asked → Made n m asked (record { num = n; more = m; szx = exponent_of asked })
unfolding size_up_to
of_size n m asked h s =
    record {
      valid = record { num = h; szx = omega (arith, s.exponent) };
      num = refl;
      more = refl;
      size = rw (le-ltb 6 (exponent_of asked) (omega (arith, s.exponent)), s.back);
    }

pub made : (n : ℕ) (m : Bool) (asked : ℕ) (b : Block) → strict_new n m asked ≡ given b → Made n m asked b
unfolding strict_new
made n m asked b =
    on (λ (a : Answer Block). a ≡ given b → Made n m asked b) (listed asked strict_sizes)
    (λ l.
    on_lt (λ (a : Answer Block). a ≡ given b → Made n m asked b) 1048575 n (λ _ e. not_refused (sym e))
    (λ h e. subst (Made n m asked) (same_given e) (of_size n m asked h (strict_size asked l))))
    (λ _ e. not_refused (sym e))
