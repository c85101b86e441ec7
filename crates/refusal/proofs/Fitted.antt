-- What a writer shows when it returns, and what is then in its output.
use Prim.Native.Nat.{ℕ, ◌+◌, ◌<◌, ◌≤◌}
use mathlib.Core.Path.{◌≡◌, refl, sym, ap, ◌∙◌}
use mathlib.Core.Bool.{true, false}
use mathlib.Core.List.{List, ◌++◌}
use native.Mathlib.Omega.{arith}
use lib.Dec.{ltb}
use lib.ListN.{length, take, drop}
use lib.Seq.{sets, take_at}
use borrow.Author.Tests.{lt-ltb, le-ltb}
use Rattle.ground.proofs.Choice.{on_lt}
use Rattle.ground.proofs.Part.{put_front}
use Rattle.refusal.specs.Answer.{Answer, given, refused, fitted, room_from, after}
use Rattle.refusal.proofs.Answers.{not_refused, same_given}

-- Bytes put at the front of an output that has room for them.
pub put_fits : (old bytes new : List ℕ) (n : ℕ) → n ≡ length bytes → n ≤ length old → new ≡ sets old 0 bytes → (given n ≡ fitted (length old) bytes) × (new ≡ after (fitted (length old) bytes) 0 bytes old)
put_fits old bytes new n h room e =
    let t : ltb (length old) (length bytes) ≡ false = le-ltb (length old) (length bytes) (omega arith) in
    (rw t (ap given h), rw t e)

-- An output with no room for the bytes, left alone.
pub no_room : (old bytes : List ℕ) → length old < length bytes → (refused 12 ≡ fitted (length old) bytes) × (old ≡ after (fitted (length old) bytes) 0 bytes old)
no_room old bytes h =
    let t : ltb (length old) (length bytes) ≡ true = lt-ltb (length old) (length bytes) h in
    (rw t refl, rw t refl)

-- Bytes put at a place of an output that has room for them there.
pub put_placed : {A : Type 0} (old bytes new : List ℕ) (at : ℕ) (a : A) → at + length bytes ≤ length old → new ≡ sets old at bytes → (given a ≡ room_from (length old) at bytes a) × (new ≡ after (room_from (length old) at bytes a) at bytes old)
put_placed old bytes new at a room e =
    let t : ltb (length old) (at + length bytes) ≡ false = le-ltb (length old) (at + length bytes) room in
    (rw t refl, rw t e)

-- An output with no room for the bytes at the place, left alone.
pub no_place : {A : Type 0} (old bytes : List ℕ) (at : ℕ) (a : A) → length old < at + length bytes → (refused 12 ≡ room_from (length old) at bytes a) × (old ≡ after (room_from (length old) at bytes a) at bytes old)
no_place old bytes at a h =
    let t : ltb (length old) (at + length bytes) ≡ true = lt-ltb (length old) (at + length bytes) h in
    (rw t refl, rw t refl)

-- Bytes that fitted stand at the front, and after them what stood there.
pub fitted_output : (old bytes : List ℕ) (n : ℕ) → fitted (length old) bytes ≡ given n → after (fitted (length old) bytes) 0 bytes old ≡ bytes ++ drop (length bytes) old
fitted_output old bytes n =
    on_lt (λ (a : Answer ℕ). a ≡ given n → after a 0 bytes old ≡ bytes ++ drop (length bytes) old) (length old) (length bytes)
    (λ h e. not_refused (sym e)) (λ h e. put_front old bytes h)

-- The part of the output that was written is the bytes.
pub front_after : (old bytes : List ℕ) (n : ℕ) → fitted (length old) bytes ≡ given n → take n (after (fitted (length old) bytes) 0 bytes old) ≡ bytes
front_after old bytes n e =
    ap (take n) (fitted_output old bytes n e)
    ∙ take_at bytes (drop (length bytes) old) n (fitted_length old bytes n e)
  where
    fitted_length : (old bytes : List ℕ) (n : ℕ) → fitted (length old) bytes ≡ given n → length bytes ≡ n
    fitted_length old bytes n =
        on_lt (λ (a : Answer ℕ). a ≡ given n → length bytes ≡ n) (length old) (length bytes) (λ h e. not_refused (sym e)) (λ h e. same_given e)
