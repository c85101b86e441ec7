-- What an option number says of its option: RFC 7252, section 5.4.6, figure 10.
use Rattle.std.specs.Prelude.{ℕ, ◌/◌, ◌%◌, Bool, eqb}

-- Critical: bit 0 is set.
abbrev pub critical : ℕ → Bool
critical n = eqb (n % 2) 1

-- Unsafe to forward: bit 1 is set.
abbrev pub unsafe : ℕ → Bool
unsafe n = eqb (n / 2 % 2) 1

-- No cache key: bits 1 to 4 are 0, 1, 1, 1, which is 0x1c under the mask 0x1e.
abbrev pub no_cache_key : ℕ → Bool
no_cache_key n = eqb (n / 2 % 16) 14
