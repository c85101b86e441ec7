-- Which messages are well-formed (RFC 7252, sections 3, 3.1 and 4.1): some that are, one of them at every bound, and for each
-- sentence of the definition messages that break that one.
use Prim.Native.Nat.{ℕ, zero, suc, ◌<◌}
use mathlib.Core.Path.{◌≡◌, refl}
use mathlib.Core.List.{List, [], ◌∷◌, ◌++◌}
use native.Mathlib.Omega.{arith}
use lib.Dec.{lit≤, lit<}
use lib.ListN.{replicate, length-replicate}
use Rattle.ground.specs.Part.{Bytes}
use Rattle.rfc.specs.Message.{Message, Opt, WellFormed, Rising, Options}
use Rattle.rfc.proofs.Sample.{option, message, get}

-- A GET with a token, two options of one number, and a payload.
repeated : WellFormed (get (0x20 ∷ []) (option 11 (0x61 ∷ []) ∷ option 11 (0x62 ∷ []) ∷ []) (0x63 ∷ []))
repeated =
    record {
      version = refl;
      type = lit≤ tt;
      code = lit≤ tt;
      id = lit≤ tt;
      token_length = lit≤ tt;
      token = (lit< tt, tt);
      count = lit≤ tt;
      rising = (lit≤ tt, (lit≤ tt, tt));
      options = (lit≤ tt, lit≤ tt, (lit< tt, tt), (lit≤ tt, lit≤ tt, (lit< tt, tt), tt));
      payload = (lit< tt, tt);
      empty = λ e. absurd (omega (arith, e));
    }

-- An empty message: code 0, and nothing after the header.
empty : WellFormed (message 1 0 0 0 [] [] [])
empty =
    record {
      version = refl;
      type = lit≤ tt;
      code = lit≤ tt;
      id = lit≤ tt;
      token_length = lit≤ tt;
      token = tt;
      count = lit≤ tt;
      rising = tt;
      options = tt;
      payload = tt;
      empty = λ e. record { token = refl; options = refl; payload = refl };
    }

many_bytes : (n b : ℕ) → b < 256 → Bytes (replicate n b)
many_bytes zero b h = tt
many_bytes (suc n) b h = (h, many_bytes n b h)

-- Many options of the number 0 and no value, before others.
many_rising : (n : ℕ) (os : List Opt) → Rising 0 os → Rising 0 (replicate n (option 0 []) ++ os)
many_rising zero os h = h
many_rising (suc n) os h = (lit≤ tt, many_rising n os h)

many_options : (n : ℕ) (os : List Opt) → Options os → Options (replicate n (option 0 []) ++ os)
many_options zero os h = h
many_options (suc n) os h = (lit≤ tt, lit≤ tt, tt, many_options n os h)

longest : ℕ → Opt
longest n = option 65535 (replicate n 255)

-- Every number as high as may be, a token of 8 bytes, 128 options, a value of 65,804 bytes.
ends : WellFormed (message 1 3 255 65535 (replicate 8 255) (replicate 127 (option 0 []) ++ (longest 65804 ∷ [])) (255 ∷ []))
unfolding longest
ends =
    record {
      version = refl;
      type = lit≤ tt;
      code = lit≤ tt;
      id = lit≤ tt;
      token_length = lit≤ tt;
      token = many_bytes 8 255 (lit< tt);
      count = lit≤ tt;
      rising = many_rising 127 (longest 65804 ∷ []) (lit≤ tt, tt);
      options = many_options 127 (longest 65804 ∷ []) (lit≤ tt, omega (arith, length-replicate {A = ℕ} 65804 255), many_bytes 65804 255 (lit< tt), tt);
      payload = (lit< tt, tt);
      empty = λ e. absurd (omega (arith, e));
    }

-- A message that isn't well-formed.
abbrev Wrong : Message → Type 0
Wrong m = WellFormed m → ⊥

version_0 : Wrong (message 0 0 1 1 [] [] [])
version_0 w = omega (arith, w.version)

version_2 : Wrong (message 2 0 1 1 [] [] [])
version_2 w = omega (arith, w.version)

type_4 : Wrong (message 1 4 1 1 [] [] [])
type_4 w = omega (arith, w.type)

code_256 : Wrong (message 1 0 256 1 [] [] [])
code_256 w = omega (arith, w.code)

id_65536 : Wrong (message 1 0 1 65536 [] [] [])
id_65536 w = omega (arith, w.id)

token_of_9 : Wrong (get (replicate 9 0) [] [])
token_of_9 w = omega (arith, w.token_length)

token_no_byte : Wrong (get (0 ∷ 256 ∷ []) [] [])
token_no_byte w = omega (arith, w.token.1.0)

options_129 : Wrong (get [] (replicate 129 (option 0 [])) [])
options_129 w = omega (arith, w.count)

-- Numbers that fall, against the option just before.
falling : Wrong (get [] (option 3 [] ∷ option 11 [] ∷ option 10 [] ∷ []) [])
falling w = omega (arith, w.rising.1.1.0)

number_65536 : Wrong (get [] (option 65535 [] ∷ option 65536 [] ∷ []) [])
number_65536 w = omega (arith, w.options.3.0)

value_of_65805 : Wrong (get [] (longest 65805 ∷ []) [])
unfolding longest
value_of_65805 w = omega (arith, length-replicate {A = ℕ} 65805 255, w.options.1)

value_no_byte : Wrong (get [] (option 11 (0 ∷ 256 ∷ []) ∷ []) [])
value_no_byte w = omega (arith, w.options.2.1.0)

payload_no_byte : Wrong (get [] [] (0 ∷ 256 ∷ []))
payload_no_byte w = omega (arith, w.payload.1.0)

-- An empty message with a token, an option or a payload.
empty_token : Wrong (message 1 0 0 1 (0x20 ∷ []) [] [])
empty_token w = let no : ◌≡◌ {A = ℕ} 0 1 = cc (w.empty refl).token in omega arith

empty_option : Wrong (message 1 0 0 1 [] (option 11 [] ∷ []) [])
empty_option w = let no : ◌≡◌ {A = ℕ} 0 1 = cc (w.empty refl).options in omega arith

empty_payload : Wrong (message 1 0 0 1 [] [] (0x61 ∷ []))
empty_payload w = let no : ◌≡◌ {A = ℕ} 0 1 = cc (w.empty refl).payload in omega arith
