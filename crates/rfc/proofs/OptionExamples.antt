-- What option numbers say (RFC 7252, section 5.4.6): the columns of its table of options, and the edges of the mask.
use Prim.Native.Nat.{ℕ}
use mathlib.Core.Path.{◌≡◌, refl}
use mathlib.Core.Bool.{Bool, true, false}
use mathlib.Core.List.{List, [], ◌∷◌, map}
use Rattle.rfc.specs.Option.{critical, unsafe, no_cache_key}

-- A number, and what it says: critical, unsafe to forward, no cache key.
record Row : Type 0 where
  number : ℕ
  c : Bool
  u : Bool
  n : Bool

abbrev row : ℕ → Bool → Bool → Bool → Row
row number c u n = record { number = number; c = c; u = u; n = n }

-- Section 5.10, table 4: If-Match, Uri-Host, ETag, If-None-Match, Uri-Port, Location-Path, Uri-Path, Content-Format, Max-Age,
-- Uri-Query, Accept, Location-Query, Proxy-Uri, Proxy-Scheme and Size1.
registered : List Row
registered =
    row 1 true false false
    ∷ row 3 true true false
    ∷ row 4 false false false
    ∷ row 5 true false false
    ∷ row 7 true true false
    ∷ row 8 false false false
    ∷ row 11 true true false
    ∷ row 12 false false false
    ∷ row 14 false true false
    ∷ row 15 true true false
    ∷ row 17 true false false
    ∷ row 20 false false false
    ∷ row 35 true true false
    ∷ row 39 true true false
    ∷ row 60 false false true
    ∷ []

-- Numbers about 0x1c, which is what the mask 0x1e has to leave; bits above the mask don't matter.
masked : List Row
masked =
    row 0 false false false
    ∷ row 2 false true false
    ∷ row 0x0C false false false
    ∷ row 0x14 false false false
    ∷ row 0x18 false false false
    ∷ row 0x1B true true false
    ∷ row 0x1C false false true
    ∷ row 0x1D true false true
    ∷ row 0x1E false true false
    ∷ row 0x1F true true false
    ∷ row 0x3C false false true
    ∷ row 0xFFFC false false true
    ∷ row 0xFFFF true true false
    ∷ []

-- What the definitions say of a row's number.
run : Row → Row
run r = row r.number (critical r.number) (unsafe r.number) (no_cache_key r.number)

table_4 : map run registered ≡ registered
unfolding registered run
table_4 = refl

mask : map run masked ≡ masked
unfolding masked run
mask = refl
