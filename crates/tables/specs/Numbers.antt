-- The numbers that have names: 21 option numbers and 60 content formats, in the order of their names.
use Rattle.std.specs.Prelude.{ℕ, List, [], ◌∷◌}

-- The option numbers, from If-Match to No-Response.
unfoldable pub option_numbers : List ℕ
option_numbers =
    1 ∷ 3 ∷ 4 ∷ 5 ∷ 6 ∷ 7 ∷ 8 ∷ 9 ∷ 11 ∷ 12 ∷ 14 ∷ 15 ∷ 17 ∷ 20 ∷ 23 ∷ 27 ∷ 35 ∷ 39 ∷ 60 ∷ 28 ∷ 258 ∷
    []

-- The content formats, from text/plain to image/svg+xml.
unfoldable pub content_formats : List ℕ
content_formats =
    0 ∷ 16 ∷ 17 ∷ 18 ∷ 19 ∷ 21 ∷ 22 ∷ 23 ∷ 40 ∷ 41 ∷ 42 ∷ 47 ∷ 50 ∷ 51 ∷ 52 ∷ 60 ∷ 61 ∷ 62 ∷ 63 ∷ 96 ∷
    97 ∷ 98 ∷ 101 ∷ 102 ∷ 110 ∷ 111 ∷ 112 ∷ 113 ∷ 114 ∷ 115 ∷ 140 ∷ 256 ∷ 271 ∷ 272 ∷ 280 ∷ 281 ∷ 284 ∷ 285 ∷ 286 ∷ 287 ∷
    290 ∷ 291 ∷ 310 ∷ 311 ∷ 320 ∷ 322 ∷ 340 ∷ 341 ∷ 432 ∷ 836 ∷ 10000 ∷ 10001 ∷ 10002 ∷ 11050 ∷ 11060 ∷ 11542 ∷ 11543 ∷ 11544 ∷ 20000 ∷ 30000 ∷
    []
