-- The judgement of what follows a header is strict reading's; and how its walk goes from option to option.
use Prim.Native.Nat.{ℕ, zero, suc, ◌+◌, ◌-◌, ◌<◌, ◌≤◌}
use mathlib.Core.Path.{◌≡◌, refl, sym, ap, ◌∙◌}
use mathlib.Core.Bool.{Bool, true, false, not}
use mathlib.Core.List.{List, [], ◌++◌}
use native.Mathlib.Nat.{add-zero}
use native.Mathlib.Omega.{arith}
use lib.ListN.{length, drop, length-drop}
use lib.Seq.{drop-append-add}
use lib.Dec.{ltb, eqb}
use borrow.Author.Tests.{lt-ltb, le-ltb, eq-eqb}
use Rattle.ground.specs.Choice.{pick, both, either}
use Rattle.ground.proofs.Choice.{by_lt}
use Rattle.refusal.specs.Answer.{Answer, given, refused, onward}
use Rattle.header.specs.Header.{raw_bytes, version_of, token_of}
use Rattle.header.specs.declared.HeaderRaw.{HeaderRaw}
use Rattle.header.proofs.Raw.{raw_back}
use Rattle.packet.specs.declared.OptionRecord.{OptionRecord}
use Rattle.option_reading.specs.Option.{ended, option, place_at, end}
use Rattle.reading.specs.Options.{Tail, options}
use Rattle.reading.specs.Reading.{packet_of, finished, after_header, reading}
use Rattle.framing.specs.Judging.{end_judged, options_judged, judged}
use Rattle.framing.specs.Framing.{strictly}
use Rattle.framing.proofs.Moved.{forget, judged_on}

-- The walk: an end or a refusal does not depend on the room, an option does.
module _ (s : List ℕ) where
  pub walk_refused : (room number at k : ℕ) → place_at 65804 s number at ≡ refused k → options_judged s room number at ≡ refused k
  unfolding options_judged options
  walk_refused zero number at k e = rw e
  walk_refused (suc room) number at k e = rw e

  pub walk_ended : (room number at : ℕ) (marked : Bool) (payload : ℕ) → place_at 65804 s number at ≡ given (ended marked payload)
      → options_judged s room number at ≡ end_judged s (record { records = []; marked = marked; payload = payload })
  unfolding options_judged options
  walk_ended zero number at marked payload e = rw e
  walk_ended (suc room) number at marked payload e = rw e

  pub walk_full : (number at : ℕ) (r : OptionRecord) → place_at 65804 s number at ≡ given (option r) → options_judged s zero number at ≡ refused 6
  unfolding options_judged options
  walk_full number at r e = rw e

  pub walk_more : (room number at : ℕ) (r : OptionRecord) → place_at 65804 s number at ≡ given (option r)
      → options_judged s (suc room) number at ≡ options_judged s room r.number (end r)
  unfolding options_judged options
  walk_more room number at r e = rw e (forget s r (options 65804 s room r.number (end r)))

-- One test, of which two values follow that are given up for a third.
one_test : {A B : Type 0} (b : Bool) (k : ℕ) (v : List ℕ) (x : A) (y : B) → onward (pick b (refused k) (given x)) (λ _. given v) ≡ onward (pick b (refused k) (given y)) (λ _. given v)
one_test true k v x y = refl
one_test false k v x y = refl

-- Strict reading of a header and what follows it, where the version is 1, the length is kept and the token is all there.
module _ (raw : HeaderRaw) (body : List ℕ) (version : version_of raw ≡ 1) (short : 4 + length body ≤ 70000) (token : token_of raw ≤ length body) where
  s : List ℕ
  s = raw_bytes raw ++ body

  rest : List ℕ
  rest = drop (token_of raw) body

  rest_is : drop (4 + token_of raw) s ≡ rest
  unfolding s rest
  rest_is = drop-append-add (raw_bytes raw) body (token_of raw)

  inside : 4 + token_of raw ≤ length s
  unfolding s
  inside = omega arith

  finished_so : (t : Tail) → onward (finished true s raw t) (λ p. given s) ≡ onward (end_judged s t) (λ _. given s)
  unfolding finished
  finished_so t = one_test (both t.marked (eqb t.payload (length s))) 9 s (packet_of s raw t) tt

  tail_so : (a : Answer Tail) → onward (onward a (finished true s raw)) (λ p. given s) ≡ onward (onward a (end_judged s)) (λ _. given s)
  tail_so (given t) = finished_so t
  tail_so (refused k) = refl

  options_so : onward (onward (options 65804 s 128 0 (4 + token_of raw)) (finished true s raw)) (λ p. given s) ≡ onward (options_judged rest 128 0 0) (λ _. given s)
  unfolding options_judged
  options_so =
      let from : ℕ = 4 + token_of raw in
      let start : options_judged s 128 0 from ≡ options_judged rest 128 0 0 =
      ap (options_judged s 128 0) (sym (add-zero from)) ∙ (judged_on s from inside 128 0 0 ∙ ap (λ (l : List ℕ). options_judged l 128 0 0) rest_is) in
      tail_so (options 65804 s 128 0 from) ∙ ap (λ (a : Answer (Unit {0})). onward a (λ _. given s)) start

  carries : either (ltb 4 (length s)) (not (eqb (token_of raw) 0)) ≡ ltb 0 (token_of raw + length rest)
  unfolding s rest
  carries =
      rw length-drop
      (by_lt 0 (length body)
      (λ h.
      let some : 0 < token_of raw + (length body - token_of raw) = omega arith in
      let long : 4 < length (raw_bytes raw ++ body) = omega arith in
      rw (lt-ltb 0 (token_of raw + (length body - token_of raw)) some, lt-ltb 4 (length (raw_bytes raw ++ body)) long) refl)
      (λ h.
      let none : token_of raw + (length body - token_of raw) ≤ 0 = omega arith in
      let four : length (raw_bytes raw ++ body) ≤ 4 = omega arith in
      let zero-token : token_of raw ≡ 0 = omega arith in
      rw (le-ltb 0 (token_of raw + (length body - token_of raw)) none, le-ltb 4 (length (raw_bytes raw ++ body)) four, eq-eqb (token_of raw) 0 zero-token) refl))

  after_so : onward (after_header true s raw) (λ p. given s) ≡ onward (judged raw.code (token_of raw) rest) (λ _. given s)
  unfolding after_header judged
  after_so =
      by_lt 8 (token_of raw)
      (λ h. rw (eq-eqb (version_of raw) 1 version, lt-ltb 8 (token_of raw) h) refl)
      (λ h. rw (eq-eqb (version_of raw) 1 version, le-ltb 8 (token_of raw) h, le-ltb (length s) (4 + token_of raw) inside, carries) (by_test (both (eqb raw.code 0) (ltb 0 (token_of raw + length rest)))))
    where
      by_test : (b : Bool)
          → onward (pick b (refused 8) (onward (options 65804 s 128 0 (4 + token_of raw)) (finished true s raw))) (λ p. given s)
          ≡ onward (pick b (refused 8) (options_judged rest 128 0 0)) (λ _. given s)
      by_test true = refl
      by_test false = options_so

  -- What strict reading refuses is what the judgement refuses.
  pub strictly_judged : strictly (raw_bytes raw ++ body) ≡ onward (judged raw.code (token_of raw) (drop (token_of raw) body)) (λ _. given (raw_bytes raw ++ body))
  unfolding strictly reading s rest
  strictly_judged =
      let fits : length (raw_bytes raw ++ body) ≤ 70000 = omega arith in
      rw (le-ltb 70000 (length (raw_bytes raw ++ body)) fits, raw_back raw body) after_so

-- Over 70,000 bytes it refuses 10, whatever the header is.
pub strictly_long : (raw : HeaderRaw) (body : List ℕ) → 70000 < 4 + length body → strictly (raw_bytes raw ++ body) ≡ refused 10
unfolding strictly reading
strictly_long raw body h =
    let long : 70000 < length (raw_bytes raw ++ body) = omega arith in
    rw (lt-ltb 70000 (length (raw_bytes raw ++ body)) long)

-- What the walk's end answers.
module _ (s : List ℕ) (marked : Bool) (payload : ℕ) where
  pub end_alone : both marked (eqb payload (length s)) ≡ true → end_judged s (record { records = []; marked = marked; payload = payload }) ≡ refused 9
  end_alone e = rw e

  pub end_well : both marked (eqb payload (length s)) ≡ false → end_judged s (record { records = []; marked = marked; payload = payload }) ≡ given tt
  end_well e = rw e

-- Before an option the whole judgement is that of what is left, with room for the records that are left.
module _ (s : List ℕ) (count number at : ℕ) (r : OptionRecord) (e : place_at 65804 s number at ≡ given (option r)) where
  pub turn : count < 128 → options_judged s (128 - count) number at ≡ options_judged s (128 - (count + 1)) r.number (end r)
  turn h =
      let left : 128 - count ≡ suc (128 - (count + 1)) = omega arith in
      ap (λ (n : ℕ). options_judged s n number at) left ∙ walk_more s (128 - (count + 1)) number at r e

  pub overflows : 128 ≤ count → options_judged s (128 - count) number at ≡ refused 6
  overflows h =
      let left : 128 - count ≡ 0 = omega arith in
      ap (λ (n : ℕ). options_judged s n number at) left ∙ walk_full s number at r e
