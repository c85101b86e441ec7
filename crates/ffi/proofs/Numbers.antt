-- Answers as one number: no length reaches the refusals, and 0 is answered exactly where all was done.
use Prim.Native.Nat.{ℕ, zero, suc, ◌+◌, ◌-◌, ◌*◌, ◌/◌, ◌%◌, ◌<◌, ◌≤◌}
use mathlib.Core.Path.{◌≡◌, refl, ap, subst}
use mathlib.Core.Bool.{Bool, false, not}
use mathlib.Core.List.{List}
use native.Mathlib.Omega.{arith}
use lib.Dec.{T, ltb, eqb}
use lib.ListN.{length, get_or, length-take}
use borrow.Author.Tests.{ltb-false}
use Rattle.ground.specs.Choice.{both, either}
use Rattle.ground.specs.Table.{listed}
use Rattle.ground.proofs.Choice.{on, on_lt, on_le, on_eq, neither}
use Rattle.refusal.specs.Number.{numbers}
use Rattle.refusal.specs.Answer.{Answer, given, refused, onward}
use Rattle.refusal.proofs.Answers.{Given, on_given, given_onward}
use Rattle.header.specs.Header.{raw_in, version_of, token_of}
use Rattle.header.specs.declared.HeaderRaw.{HeaderRaw}
use Rattle.packet.specs.Packet.{Stores, records_of}
use Rattle.packet.specs.declared.Home.{Home}
use Rattle.packet.specs.declared.Home.TheVariants.{Datagram, Edits}
use Rattle.judging.specs.Judge.{lengths_of, is_too_long, length_in, bad_packet}
use Rattle.judging.specs.declared.Lengths.{Lengths}
use Rattle.packet.specs.declared.Packet.{Packet}
use Rattle.packet.specs.declared.OptionRecord.{OptionRecord}
use Rattle.judging.proofs.Good.{good, options_small}
use Rattle.option_reading.specs.Option.{Place, ended, option, extended, value_at, length_at, option_at, place_at}
use Rattle.reading.specs.Options.{Tail, on_place, before, options}
use Rattle.reading.specs.Reading.{longest, finished, after_header, reading}
use Rattle.measuring.specs.Measuring.{sent_payload, counted, over, strictly, limited}
use Rattle.writing.specs.Writing.{bytes_written, writing}
use Rattle.measuring.specs.declared.Limit.{Limit}
use Rattle.measuring.proofs.Sizes.{marker_small}
use Rattle.writing.proofs.Sizes.{sent_inside, written_length}
use Rattle.flat.specs.Flat.{flat, putting}
use Rattle.ffi.specs.Handed.{handed, number_in}
use Rattle.flat_writing.specs.FlatWriting.{copying}
use Rattle.ffi.specs.Copied.{length_in as number_of}

-- Neither of two stores that are not too long has over 70,000 bytes.
short : (lengths : Lengths) → is_too_long lengths ≡ false → (h : Home) → length_in lengths h ≤ 70000
unfolding is_too_long
short lengths e Datagram = ltb-false 70000 lengths.datagram (neither (ltb 70000 lengths.datagram) (ltb 70000 lengths.edits) e).0
short lengths e Edits = ltb-false 70000 lengths.edits (neither (ltb 70000 lengths.datagram) (ltb 70000 lengths.edits) e).1

-- The bytes of a good packet over stores that are not too long are fewer than 2^32.
bytes_below : (strict : Bool) (s : Stores) (p : Packet) → is_too_long (lengths_of s) ≡ false → bad_packet (lengths_of s) p ≡ false → length (bytes_written strict s p) < 4294967296
bytes_below strict s p h e =
    let g = good (lengths_of s) p e in
    let payload = sent_payload strict p.header.code p.payload in
    rw (written_length strict s p g)
    (omega (arith, g.token_length, g.count, sent_inside (lengths_of s) strict p.header.code p.payload g.payload, short (lengths_of s) h payload.home, options_small (lengths_of s) 0 (records_of p) g.values, length-take p.count p.options, marker_small payload.len))

abbrev Below : ℕ → Type 0
Below n = n < 4294967296

written_below : (strict : Bool) (limit : Limit) (room : ℕ) (s : Stores) (p : Packet) → Given Below (writing strict limit room s p)
unfolding writing limited
written_below strict limit room s p =
    on (Given Below) (is_too_long (lengths_of s)) (λ a. tt)
    (λ a. on (Given Below) (bad_packet (lengths_of s) p) (λ b. tt)
    (λ b. given_onward (λ _. Unit {0}) Below (strictly strict p) _ (always (strictly strict p))
    (λ _ _. on (Given Below) (over limit (counted strict p)) (λ h. tt)
    (λ h. on_lt (Given Below) room (length (bytes_written strict s p)) (λ j. tt) (λ j. bytes_below strict s p a b)))))
  where
    always : {A : Type 0} (a : Answer A) → Given (λ _. Unit {0}) a
    always (given v) = tt
    always (refused k) = tt

-- A length that is answered is below 2^32, and a refusal is not.
pub length_below : (strict : Bool) (room : ℕ) (s : Stores) (a : Answer Packet) (n : ℕ) → copying strict room s a ≡ given n → n < 4294967296
length_below strict room s (given p) n e = on_given Below _ n (written_below strict _ room s p) e
length_below strict room s (refused k) n e = on_given Below _ n tt e

pub refusal_above : (a : Answer ℕ) (k : ℕ) → a ≡ refused k → 4294967296 ≤ number_of a
refusal_above a k e = rw e (omega arith)

-- A refusal's number is on the page of refusals.
abbrev Listed : {A : Type 0} → Answer A → Type 0
Listed (given a) = Unit {0}
Listed (refused k) = T (listed k numbers)

listed_onward : {A B : Type 0} (a : Answer A) (next : A → Answer B) → Listed a → ((v : A) → Listed (next v)) → Listed (onward a next)
listed_onward (given v) next h f = f v
listed_onward (refused k) next h f = h

listed_extended : (k most : ℕ) (s : List ℕ) (at nibble : ℕ) → T (listed k numbers) → Listed (extended k most s at nibble)
unfolding extended
listed_extended k most s at nibble t =
    on_lt Listed nibble 13 (λ _. tt)
    (λ _. on_eq Listed nibble 13 (λ _. on_lt Listed (length s - at) 1 (λ _. tt) (λ _. tt))
    (λ _. on_eq Listed nibble 14
    (λ _. on_lt Listed (length s - at) 2 (λ _. tt) (λ _. on_lt Listed most (269 + (get_or s at 0 * 256 + get_or s (at + 1) 0)) (λ _. t) (λ _. tt)))
    (λ _. t)))

listed_place : (most : ℕ) (s : List ℕ) (number at : ℕ) → Listed (place_at most s number at)
unfolding place_at option_at length_at value_at
listed_place most s number at =
    on_le Listed (length s) at (λ _. tt)
    (λ _. on_eq Listed (get_or s at 0) 255 (λ _. tt)
    (λ _. listed_onward (extended 3 65535 s (at + 1) (get_or s at 0 / 16)) _ (listed_extended 3 65535 s (at + 1) (get_or s at 0 / 16) tt)
    (λ delta. listed_onward (extended 4 most s delta.next (get_or s at 0 % 16)) _ (listed_extended 4 most s delta.next (get_or s at 0 % 16) tt)
    (λ len. on_lt Listed 65535 (number + delta.value) (λ _. tt) (λ _. on_lt Listed (length s - len.next) len.value (λ _. tt) (λ _. tt))))))

listed_on_place : (a : Answer Place) (next : OptionRecord → Answer Tail) → Listed a → ((r : OptionRecord) → Listed (next r)) → Listed (on_place a next)
listed_on_place (given (ended marked payload)) next h f = tt
listed_on_place (given (option r)) next h f = f r
listed_on_place (refused k) next h f = h

listed_options : (most : ℕ) (s : List ℕ) (room number at : ℕ) → Listed (options most s room number at)
unfolding options
listed_options most s zero number at = listed_on_place (place_at most s number at) _ (listed_place most s number at) (λ r. tt)
listed_options most s (suc room) number at =
    listed_on_place (place_at most s number at) _ (listed_place most s number at)
    (λ r. listed_onward (options most s room r.number _) (before r) (listed_options most s room r.number _) (λ t. tt))

listed_finished : (strict : Bool) (s : List ℕ) (raw : HeaderRaw) (t : Tail) → Listed (finished strict s raw t)
unfolding finished
listed_finished strict s raw t = on Listed (both strict (both t.marked (eqb t.payload (length s)))) (λ _. tt) (λ _. tt)

listed_after : (strict : Bool) (s : List ℕ) (raw : HeaderRaw) → Listed (after_header strict s raw)
unfolding after_header
listed_after strict s raw =
    on Listed (both strict (not (eqb (version_of raw) 1))) (λ _. tt)
    (λ _. on Listed (either (ltb 8 (token_of raw)) (ltb (length s) (4 + token_of raw))) (λ _. tt)
    (λ _. on Listed (both strict (both (eqb raw.code 0) (either (ltb 4 (length s)) (not (eqb (token_of raw) 0))))) (λ _. tt)
    (λ _. listed_onward (options (longest strict) s 128 0 (4 + token_of raw)) (finished strict s raw) (listed_options (longest strict) s 128 0 (4 + token_of raw)) (listed_finished strict s raw))))

-- Every refusal of reading, and of handing over what was read, is on the page.
pub listed_reading : (strict : Bool) (s : List ℕ) → Listed (reading strict s)
unfolding reading raw_in
listed_reading strict s =
    on_lt Listed 70000 (length s) (λ _. tt)
    (λ _. listed_onward (raw_in s) (after_header strict s) (on_lt Listed (length s) 4 (λ _. tt) (λ _. tt)) (listed_after strict s))

pub listed_handed : (room : ℕ) (strict : Bool) (s : List ℕ) → Listed (handed room (reading strict s))
listed_handed room strict s =
    listed_onward (reading strict s) (putting room) (listed_reading strict s) (λ p. on_lt Listed room (0 + length (flat p)) (λ _. tt) (λ _. tt))

-- No refusal's number is 0, so 0 is answered exactly where all was done.
zero_given : (a : Answer (Unit {0})) → Listed a → number_in a ≡ 0 → a ≡ given tt
zero_given (given u) h e = refl
zero_given (refused k) h e = absurd (subst (λ (n : ℕ). T (listed n numbers)) e h)

pub zero_exactly : (room : ℕ) (strict : Bool) (s : List ℕ) → (number_in (handed room (reading strict s)) ≡ 0 → handed room (reading strict s) ≡ given tt) × (handed room (reading strict s) ≡ given tt → number_in (handed room (reading strict s)) ≡ 0)
zero_exactly room strict s = (zero_given (handed room (reading strict s)) (listed_handed room strict s), λ e. ap number_in e)
