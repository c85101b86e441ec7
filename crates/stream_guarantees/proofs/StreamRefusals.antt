-- The refusals of reading a stream: the order of the tests, walked for a datagram of a length that a stream has.
use Prim.Native.Nat.{ℕ, zero, suc, ◌+◌, ◌-◌, ◌*◌, ◌/◌, ◌%◌, ◌≤◌}
use mathlib.Core.Path.{◌≡◌, refl, sym, ap, ◌∙◌}
use mathlib.Core.Bool.{Bool, true, not}
use mathlib.Core.List.{List, [], ◌∷◌}
use lib.Dec.{T, ltb, eqb}
use lib.ListN.{length, get_or}
use native.Mathlib.Omega.{arith}
use Rattle.ground.specs.Choice.{both, either}
use Rattle.ground.specs.Table.{listed}
use Rattle.ground.proofs.Choice.{on, on_lt, on_le, on_eq}
use Rattle.refusal.specs.Answer.{Answer, given, refused, onward, written, fitted}
use Rattle.refusal.specs.Number.{number_of}
use Rattle.refusal.proofs.Answers.{Refusing, on_refused, refusing_onward}
use Rattle.header.specs.Header.{version_of, token_of, raw_in}
use Rattle.header.specs.declared.HeaderRaw.{HeaderRaw}
use Rattle.packet.specs.Limits.{max_store, max_options, max_number, full_size}
use Rattle.packet.specs.declared.Packet.{Packet}
use Rattle.packet.specs.declared.OptionRecord.{OptionRecord}
use Rattle.option_reading.specs.Option.{Value, Place, ended, option, extended, value_at, length_at, option_at, place_at, end}
use Rattle.reading.specs.Options.{Tail, on_place, before, options}
use Rattle.reading.specs.Reading.{longest, finished, after_header, reading}
use Rattle.stream.specs.declared.Form.{Form}
use Rattle.stream.specs.Stream.{Frozen, AllSized, stream_of, datagrams_of}
use Rattle.stream.specs.Answers.{step_read}
use Rattle.stream.specs.Messages.{message_at, thawed}
use Rattle.stream.proofs.Exact.{exact, Only19}
use Rattle.thawing.specs.Message.{next_in, found_bytes}
use Rattle.thawing.specs.Thawing.{all_strict, strict, thawed_strictly, counts_of, strictly_in, entries, messages_in, listed as listedIn, thawing}
use Rattle.converting.specs.Converting.{other_form, converted}
use Rattle.stream_guarantees.specs.StreamRefusals.{judging_numbers, stream_numbers, JudgingRefusals, ThawingRefusals, ConvertingRefusals, ThawingKept, StepKept}
use Rattle.guarantees.proofs.Refusals.{output_kept, kept_by}

-- An answer that is refused, if it is, with one of the numbers.
abbrev Judges : {A : Type 0} → Answer A → Type 0
Judges a = Refusing (λ k. T (listed k judging_numbers)) a

abbrev Reads : {A : Type 0} → Answer A → Type 0
Reads a = Refusing (λ k. T (listed k stream_numbers)) a

-- What stands in an option: 3 and 4.
of_extended : (over most : ℕ) (s : List ℕ) (at nibble : ℕ) → T (listed over judging_numbers) → Judges (extended over most s at nibble)
unfolding extended
of_extended over most s at nibble o =
    let J : Answer Value → Type 0 = Judges in
    on_lt J nibble 13 (λ _. tt)
    (λ _. on_eq J nibble 13 (λ _. on_lt J (length s - at) 1 (λ _. tt) (λ _. tt))
    (λ _. on_eq J nibble 14
    (λ _. on_lt J (length s - at) 2 (λ _. tt) (λ _. on_lt J most (269 + (get_or s at 0 * 256 + get_or s (at + 1) 0)) (λ _. o) (λ _. tt)))
    (λ _. o)))

of_value : (s : List ℕ) (number start len : ℕ) → Judges (value_at s number start len)
unfolding value_at
of_value s number start len =
    let J : Answer Place → Type 0 = Judges in
    on_lt J max_number number (λ _. tt) (λ _. on_lt J (length s - start) len (λ _. tt) (λ _. tt))

of_place : (most : ℕ) (s : List ℕ) (number at : ℕ) → Judges (place_at most s number at)
unfolding place_at option_at length_at
of_place most s number at =
    let J : Answer Place → Type 0 = Judges in
    let N : ℕ → Type 0 = λ k. T (listed k judging_numbers) in
    let b : ℕ = get_or s at 0 in
    on_le J (length s) at (λ _. tt)
    (λ _. on_eq J b 255 (λ _. tt)
    (λ _. refusing_onward N (extended 3 max_number s (at + 1) (b / 16)) (λ d. length_at most s (number + d.value) d.next (b % 16)) (of_extended 3 max_number s (at + 1) (b / 16) tt)
    (λ d. refusing_onward N (extended 4 most s d.next (b % 16)) (λ n. value_at s (number + d.value) n.next n.value) (of_extended 4 most s d.next (b % 16) tt) (λ n. of_value s (number + d.value) n.next n.value))))

-- All options: 6 too.
on_place_lem : (a : Answer Place) (next : OptionRecord → Answer Tail) → Judges a → ((r : OptionRecord) → Judges (next r)) → Judges (on_place a next)
on_place_lem (given (ended m p)) next h f = tt
on_place_lem (given (option r)) next h f = f r
on_place_lem (refused k) next h f = h

of_options : (most : ℕ) (s : List ℕ) (room number at : ℕ) → Judges (options most s room number at)
unfolding options
of_options most s zero number at = on_place_lem (place_at most s number at) _ (of_place most s number at) (λ r. tt)
of_options most s (suc room) number at =
    on_place_lem (place_at most s number at) _ (of_place most s number at)
    (λ r. refusing_onward (λ k. T (listed k judging_numbers)) (options most s room r.number (end r)) (before r) (of_options most s room r.number (end r)) (λ t. tt))

of_header : (s : List ℕ) (raw : HeaderRaw) → Judges (after_header true s raw)
unfolding after_header finished
of_header s raw =
    let J : Answer Packet → Type 0 = Judges in
    on J (not (eqb (version_of raw) 1)) (λ _. tt)
    (λ _. on J (either (ltb 8 (token_of raw)) (ltb (length s) (4 + token_of raw))) (λ _. tt)
    (λ _. on J (both (eqb raw.code 0) (either (ltb 4 (length s)) (not (eqb (token_of raw) 0)))) (λ _. tt)
    (λ _. refusing_onward (λ k. T (listed k judging_numbers)) (options (longest true) s max_options 0 (4 + token_of raw)) (finished true s raw) (of_options (longest true) s max_options 0 (4 + token_of raw))
    (λ t. on J (both t.marked (eqb t.payload (length s))) (λ _. tt) (λ _. tt)))))

-- A datagram that is neither too short nor too long.
of_datagram : (d : List ℕ) → 4 ≤ length d → length d ≤ full_size → Judges (reading true d)
unfolding reading raw_in
of_datagram d least most =
    on_lt (Judges {A = Packet}) max_store (length d) (λ h. absurd (omega arith))
    (λ _. refusing_onward (λ k. T (listed k judging_numbers)) (raw_in d) (after_header true d) (on_lt (Judges {A = HeaderRaw}) (length d) 4 (λ h. absurd (omega arith)) (λ _. tt)) (of_header d))

of_all : (l : List Frozen) → AllSized l → Judges (all_strict l)
of_all [] z = tt
of_all (m ∷ l) z = refusing_onward (λ k. T (listed k judging_numbers)) (reading true m.datagram) (λ p. all_strict l) (of_datagram m.datagram z.0.least z.0.most) (λ p. of_all l z.1)

-- The messages of a stream.
of_messages : (form : Form) (s : List ℕ) → Judges (thawed_strictly form s)
unfolding strict
of_messages form s = by (thawed form s) refl ((exact form).refusal s)
  where
    by : (a : Answer (List Frozen)) → thawed form s ≡ a → Only19 a → Judges (onward a strict)
    by (given l) e o = refusing_onward (λ k. T (listed k judging_numbers)) (all_strict l) (λ _. given l) (of_all l ((exact form).sound s l e).1) (λ _. tt)
    by (refused k) e o = rw o tt

counted : (other : Form) (a : Answer (List Frozen)) → Judges a → Judges (counts_of other a)
counted other (given l) h = tt
counted other (refused k) h = h

pub judging_refusals : JudgingRefusals
judging_refusals form other s r p e is =
    on_refused (λ k. T (listed k judging_numbers)) (counts_of other (thawed_strictly form s)) (number_of e) (counted other (thawed_strictly form s) (of_messages form s)) (sym p ∙ ap strictly_in is)

-- A number of the first is one of the second.
later : (k : ℕ) → T (listed k judging_numbers) → T (listed k stream_numbers)
later k = on (λ (t : Bool). T (listed k judging_numbers) → T t) (eqb k 12) (λ _ _. tt) (λ _ h. h)

also : {A : Type 0} (a : Answer A) → Judges a → Reads a
also (given v) h = tt
also (refused k) h = later k h

pub thawing_refusals : ThawingRefusals
unfolding thawing listedIn
thawing_refusals form s oldList oldOut r newList newOut p e is =
    on_refused (λ k. T (listed k stream_numbers)) (thawing form (length oldList) (length oldOut) s) (number_of e)
    (refusing_onward (λ k. T (listed k stream_numbers)) (thawed_strictly form s) (listedIn (length oldList) (length oldOut)) (also (thawed_strictly form s) (of_messages form s))
    (λ l. on_lt (Reads {A = ℕ}) (length oldList) (3 * length l) (λ _. tt) (λ _. on_lt (Reads {A = ℕ}) (length oldOut) (length (datagrams_of l)) (λ _. tt) (λ _. tt))))
    (sym p.answer ∙ ap written is)

pub converting_refusals : ConvertingRefusals
converting_refusals form s old r new p e is =
    on_refused (λ k. T (listed k stream_numbers)) (onward (converted form s) (fitted (length old))) (number_of e)
    (refusing_onward (λ k. T (listed k stream_numbers)) (converted form s) (fitted (length old))
    (refusing_onward (λ k. T (listed k stream_numbers)) (thawed_strictly form s) (λ l. given (stream_of (other_form form) l)) (also (thawed_strictly form s) (of_messages form s)) (λ l. tt))
    (λ b. on_lt (Reads {A = ℕ}) (length old) (length b) (λ _. tt) (λ _. tt)))
    (sym p.answer ∙ ap written is)

pub thawing_kept : ThawingKept
thawing_kept form s oldList oldOut r list out q e is =
    let a : Answer ℕ = thawing form (length oldList) (length oldOut) s in
    let l = messages_in (thawed form s) in
    (output_kept a 0 (entries form 0 0 l) oldList r list q.answer q.list e is, output_kept a 0 (datagrams_of l) oldOut r out q.answer q.output e is)

pub step_kept : StepKept
step_kept form s at old to r new q e is =
    kept_by (next_in form s at (length old) to) to (found_bytes (message_at form s at)) old new (number_of e) (sym q.answer ∙ ap step_read is) q.output
