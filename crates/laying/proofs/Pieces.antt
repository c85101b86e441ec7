-- The pieces of a message: their lengths, and an option put part by part.
use Prim.Native.Nat.{ℕ, ◌+◌, ◌-◌, ◌*◌, ◌<◌, ◌≤◌}
use mathlib.Core.Path.{◌≡◌, refl, sym}
use mathlib.Core.Bool.{Bool, true}
use mathlib.Core.List.{List, [], ◌∷◌, ◌++◌, append_assoc}
use native.Mathlib.Nat.{sub-zero}
use native.Mathlib.Omega.{arith}
use lib.ListN.{length, set, length-set, length-append}
use lib.Dec.{ltb}
use borrow.Author.Tests.{ltb-true, lt-ltb, le-ltb}
use Rattle.ground.specs.Choice.{both}
use Rattle.ground.proofs.Choice.{on_lt}
use Rattle.judging.specs.Judge.{extension_size}
use Rattle.rfc.specs.Message.{Opt, nibble_of, extension_of, option_layout, options_layout, payload_layout, header_layout, layout}
use Rattle.rfc.proofs.Message.{nibble_none, extension_none}
use Rattle.class.specs.Class.{byte_of}
use Rattle.header.specs.Header.{number_of_type}
use Rattle.header.specs.declared.Header.{Header}
use Rattle.placing.specs.Put.{Put, Puts}
use Rattle.placing.proofs.Puts.{put_one, put_length, put_put, puts_whole}
use Rattle.laying.specs.Laying.{headed, head_layout, size_of}

-- A message is its header and token, its options and its payload, one after the other.
pub layout_pieces : (h : Header) (token : List ℕ) (options : List Opt) (payload : List ℕ) → head_layout h token ++ (options_layout 0 options ++ payload_layout payload) ≡ layout (record { version = h.version; type = number_of_type h.message_type; code = byte_of h.code; id = h.message_id; token = token; options = options; payload = payload })
unfolding layout header_layout
layout_pieces h token options payload = append_assoc (header_layout (headed h token)) token (options_layout 0 options ++ payload_layout payload)

-- An extension has as many bytes as are counted.
pub extension_length : (n : ℕ) → length (extension_of n) ≡ extension_size n
unfolding extension_of extension_size
extension_length n =
    on_lt (λ (l : List ℕ). length l ≡ extension_size n) n 13 (λ h. simp (lt-ltb n 13 h))
    (λ h. on_lt (λ (l : List ℕ). length l ≡ extension_size n) n 269 (λ k. simp (le-ltb n 13 h, lt-ltb n 269 k)) (λ k. simp (le-ltb n 13 h, le-ltb n 269 k)))

-- The length of an option by its parts.
pub option_length : (before : ℕ) (o : Opt) → length (option_layout before o) ≡ size_of (o.number - before) (length o.value)
unfolding option_layout
option_length before o = simp length-append (omega arith)

-- A short option: one byte before its value.
module _ (delta : ℕ) (value : List ℕ) (d : delta < 13) (n : length value < 13) where
  option_short : option_layout 0 (record { number = delta; value = value }) ≡ (delta * 16 + length value) ∷ value
  unfolding option_layout
  option_short =
      rw (sub-zero delta, nibble_none delta d, nibble_none (length value) n, extension_none delta d, extension_none (length value) n)

  pub short_put : (l m : List ℕ) (at r : ℕ) → at + size_of delta (length value) ≤ length l → Puts (set l at (delta * 16 + length value)) (at + 1) value r m
      → Put l at (option_layout 0 (record { number = delta; value = value })) r m
  short_put l m at r h p =
      rw option_short
      (put_put _ _ _ ((delta * 16 + length value) ∷ []) _ _ _ _ (put_one l at (delta * 16 + length value)) (puts_whole p (omega (arith, length-set l at (delta * 16 + length value)))))

pub both_short : (delta len : ℕ) → both (ltb delta 13) (ltb len 13) ≡ true → (delta < 13) × (len < 13)
both_short delta len =
    on_lt (λ (t : Bool). t ≡ true → (delta < 13) × (len < 13)) delta 13 (λ h e. (h, ltb-true len 13 e)) (λ h e. absurd (let z : ◌≡◌ {A = ℕ} 0 1 = cc in omega arith))

pub short_size : (delta len : ℕ) → delta < 13 → len < 13 → size_of delta len ≡ 1 + len
short_size delta len d n = rw (extension_none delta d, extension_none len n)

-- An option is laid by its delta alone.
pub option_delta : (before number : ℕ) (value : List ℕ) → option_layout 0 (record { number = number - before; value = value }) ≡ option_layout before (record { number = number; value = value })
unfolding option_layout
option_delta before number value = rw sub-zero

-- The byte of the nibbles, the two extensions and the value, one after the other, are the option.
pub option_put : (delta : ℕ) (value l k m n : List ℕ) (at first a b r : ℕ) → first ≡ nibble_of delta * 16 + nibble_of (length value) → at + size_of delta (length value) ≤ length l
    → Put (set l at first) (at + 1) (extension_of delta) a k → Put k a (extension_of (length value)) b m → Puts m b value r n
    → Put l at (option_layout 0 (record { number = delta; value = value })) r n
unfolding option_layout
option_put delta value l k m n at first a b r e h p q w =
    let room : b + length value ≤ length m = omega (arith, p.next, q.next, put_length _ _ _ _ _ p, put_length _ _ _ _ _ q, length-set l at first) in
    rw (sub-zero delta, sym e) (put_put _ _ _ (first ∷ []) _ _ _ _ (put_one l at first) (put_put _ _ _ _ _ _ _ _ p (put_put _ _ _ _ _ _ _ _ q (puts_whole w room))))

-- The layout of no payload, and of one.
pub payload_none : (bytes : List ℕ) → length bytes ≡ 0 → payload_layout bytes ≡ []
payload_none [] e = refl
payload_none (b ∷ bs) e = absurd (omega (arith, e))

pub payload_some : (bytes : List ℕ) → (length bytes ≡ 0 → ⊥) → payload_layout bytes ≡ 255 ∷ bytes
payload_some [] e = absurd (e refl)
payload_some (b ∷ bs) e = refl
