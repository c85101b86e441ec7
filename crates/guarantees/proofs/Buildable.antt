-- Where writing a packet is answered, the calls with its parts are: what writing asks of the packet is what each call asks of its part.
use Prim.Native.Nat.{ℕ, ◌+◌, ◌≤◌}
use mathlib.Core.Path.{◌≡◌, refl, sym, ap, subst, ◌∙◌}
use mathlib.Core.Bool.{Bool, true, false}
use mathlib.Core.List.{List, [], ◌∷◌, ◌++◌, map}
use native.Mathlib.Omega.{arith}
use lib.Dec.{ltb, eqb}
use lib.ListN.{length, take, length-take, length-map, length-append}
use lib.Seq.{sets, length-sets}
use borrow.Author.Tests.{le-ltb, ltb-false, eq-eqb, ne_eqb}
use Rattle.std.specs.Prelude.{Ok}
use Rattle.ground.specs.Choice.{both, either}
use Rattle.ground.proofs.Choice.{neither, not_both}
use Rattle.rfc.specs.Message.{Message, Opt, Rising, option_layout, options_layout, payload_layout}
use Rattle.refusal.specs.Answer.{given, onward, written, fitted}
use Rattle.refusal.proofs.Answers.{onward_given}
use Rattle.class.specs.Class.{byte_of}
use Rattle.placing.proofs.Puts.{put_length}
use Rattle.laying.specs.Laying.{head_layout}
use Rattle.laying.proofs.Laid.{head_length}
use Rattle.packet.specs.Packet.{Stores, store_of, bytes_of, records_of}
use Rattle.packet.specs.Meaning.{meaning, option_of}
use Rattle.packet.specs.declared.Packet.{Packet}
use Rattle.packet.specs.declared.Home.{Home}
use Rattle.packet.specs.declared.Home.TheVariants.{Datagram, Edits}
use Rattle.packet.specs.declared.OptionRecord.{OptionRecord}
use Rattle.judging.specs.Judge.{lengths_of, length_in, is_too_long, bad_value, bad_values}
use Rattle.judging.proofs.Good.{Good, good, value_length}
use Rattle.judging.proofs.Ranges.{range_exactly}
use Rattle.measuring.specs.Measuring.{sent_payload, strictly, limited, counted}
use Rattle.measuring.specs.declared.Limit.TheVariants.{Unlimited}
use Rattle.measuring.proofs.Sizes.{Fits, measured_fits}
use Rattle.writing.specs.Writing.{sent, bytes_written, writing}
use Rattle.writing.proofs.Options.{bytes_at_most}
use Rattle.writing.proofs.Sizes.{message_length, written_length}
use Rattle.writing.proofs.Answers.{writing_measured}
use Rattle.writing.proofs.Strict.{passed, rising}
use Rattle.building.specs.Building.{Starts, Adds, empty_in, token_carried, strict_start, start_judged, begun, starting, added, adding, sent_by, ending}
use Rattle.building.specs.declared.Builder.{Builder}
use Rattle.guarantees.specs.Building.{Parts, AddsAll, Run, BuildsAllWritten}
use Rattle.guarantees.proofs.Building.{Filled, filled, no_bytes, third, sent_bytes, builds_as_writing}

-- Each value is one that a length reaches.
abbrev Short : List Opt → Type 0
Short [] = Unit {0}
Short (o ∷ os) = (length o.value ≤ 65804) × Short os

-- A test that can't hold.
fails : (t : Bool) → (t ≡ true → ⊥) → t ≡ false
fails true f = absurd (f refl)
fails false f = refl

no_list : {A : Type 0} (x : A) (l : List A) → ◌≡◌ {A = List A} (x ∷ l) [] → ⊥
no_list x l e = let z : ◌≡◌ {A = ℕ} 0 1 = cc in omega arith

-- An option for which there is room, and which nothing refuses.
taken : (b : Builder) (o : Opt) (out : List ℕ) → (b.left ≡ 0 → ⊥) → b.before ≤ o.number → length o.value ≤ 65804 → both b.strict b.empty ≡ false
    → b.at + length (option_layout b.before o) ≤ length out → adding b o (length out) ≡ given (added b o)
unfolding adding
taken b o out l n v s r =
    rw (ne_eqb b.left 0 l, le-ltb o.number b.before n, le-ltb 65804 (length o.value) v, s, le-ltb (length out) (b.at + length (option_layout b.before o)) r)

-- Options for which there is room are all added.
adds_all : (os : List Opt) (b : Builder) (out : List ℕ) → Rising b.before os → Short os → length os ≤ b.left
    → (both b.strict b.empty ≡ true → os ≡ []) → b.at + length (options_layout b.before os) ≤ length out
    → (last : Builder) × (new : List ℕ) × AddsAll b out os last new
adds_all [] b out rises short left bare room = (b, out, (refl, refl))
adds_all (o ∷ os) b out rises short left bare room =
    let bytes = option_layout b.before o in
    let carries : both b.strict b.empty ≡ false = fails (both b.strict b.empty) (λ t. no_list o os (bare t)) in
    let parts : length (bytes ++ options_layout o.number os) ≡ length bytes + length (options_layout o.number os) = length-append bytes (options_layout o.number os) in
    let fits : b.at + length bytes ≤ length out = omega (arith, room, parts) in
    let e : adding b o (length out) ≡ given (added b o) = taken b o out (λ z. omega (arith, left, z)) rises.0 short.0 carries fits in
    let mid = sets out b.at bytes in
    let one : Adds b o out (Ok (added b o)) mid = record { answer = sym e; output = rw e } in
    let rest = adds_all os (added b o) mid rises.1 short.1 (omega arith) (λ t. absurd (no_list o os (bare t))) (omega (arith, room, parts, length-sets out b.at bytes)) in
    (rest.0, rest.1, (added b o, mid, one, rest.2))

-- The values of good records are short.
shorts : (s : Stores) (rs : List OptionRecord) → bad_values (lengths_of s) rs ≡ false → Short (map (option_of s) rs)
shorts s [] e = tt
shorts s (r ∷ rs) e =
    let both = neither (bad_value (lengths_of s) r) (bad_values (lengths_of s) rs) e in
    (omega (arith, bytes_at_most (store_of s r.home) r.start r.len, value_length (lengths_of s) r both.0), shorts s rs both.1)

-- Of three things none of which is carried, the first and the last aren't.
first_of : (a t k q : Bool) → both a (either t (either k q)) ≡ false → both a t ≡ false
first_of true t k q e = (neither t (either k q) e).0
first_of false t k q e = refl

last_of : (a t k q : Bool) → both a (either t (either k q)) ≡ false → both a q ≡ false
last_of true t k q e = (neither k q (neither t (either k q) e).1).1
last_of false t k q e = refl

never : (a : Bool) → both a false ≡ false
never true = refl
never false = refl

-- A store of a home is no longer than both may be.
store_short : (s : Stores) (h : Home) → is_too_long (lengths_of s) ≡ false → length_in (lengths_of s) h ≤ 70000
unfolding is_too_long
store_short s Datagram e = ltb-false 70000 (length s.datagram) (neither (ltb 70000 (length s.datagram)) (ltb 70000 (length s.edits)) e).0
store_short s Edits e = ltb-false 70000 (length s.edits) (neither (ltb 70000 (length s.datagram)) (ltb 70000 (length s.edits)) e).1

module _ (s : Stores) (p : Packet) where
  -- The parts that a packet means.
  abbrev parts_of : Parts
  parts_of = record { header = p.header; token = (meaning s p).token; options = (meaning s p).options; payload = (meaning s p).payload }

  module _ (g : Good (lengths_of s) p) where
    -- What strict mode asks of the packet is what it asks of the parts.
    asks : (strict : Bool) → strictly strict p ≡ given tt → strict_start strict p.header (length (bytes_of s p.token)) ≡ given tt
    unfolding strict_start
    asks false q = refl
    asks true q =
        let k = passed p q in
        let none : token_carried p.header.code p.token.len ≡ false = first_of (eqb (byte_of p.header.code) 0) (ltb 0 p.token.len) (ltb 0 p.count) (ltb 0 p.payload.len) k.empty in
        rw (range_exactly s p.token g.token, eq-eqb p.header.version 1 k.version, le-ltb 8 p.token.len k.token, none)

    no_options : (strict : Bool) → strictly strict p ≡ given tt → both strict (empty_in strict p.header.code) ≡ true → (meaning s p).options ≡ []
    no_options false q z = cc
    no_options true q z =
        let all = not_both (eqb (byte_of p.header.code) 0) _ (passed p q).empty z in
        let some = neither (ltb 0 p.count) (ltb 0 p.payload.len) (neither (ltb 0 p.token.len) _ all).1 in
        let count : p.count ≡ 0 = omega (arith, ltb-false 0 p.count some.0) in
        ap (λ (n : ℕ). map (option_of s) (take n p.options)) count

    no_payload : (strict : Bool) → strictly strict p ≡ given tt → both (empty_in strict p.header.code) (both strict (ltb 0 (length (bytes_of s p.payload)))) ≡ false
    no_payload false q = never (empty_in false p.header.code)
    no_payload true q =
        rw (range_exactly s p.payload g.payload)
        (last_of (eqb (byte_of p.header.code) 0) (ltb 0 p.token.len) (ltb 0 p.count) (ltb 0 p.payload.len) (passed p q).empty)

  -- Where writing is answered, the packet is good, strict mode has nothing to refuse, and there is room.
  module _ (strict : Bool) (old : List ℕ) (n : ℕ) (w : writing strict Unlimited (length old) s p ≡ given n) where
    fits : Fits strict (length old) (lengths_of s) p n
    fits = measured_fits strict Unlimited (length old) (lengths_of s) p n (sym (writing_measured strict Unlimited (length old) s p) ∙ w)

    sound : Good (lengths_of s) p
    sound = good (lengths_of s) p fits.good

    goes_on : writing strict Unlimited (length old) s p ≡ onward (strictly strict p) (λ _. limited Unlimited (counted strict p) (fitted (length old) (bytes_written strict s p)))
    unfolding writing
    goes_on = rw (fits.short, fits.good)

    passes : strictly strict p ≡ given tt
    passes = (onward_given (strictly strict p) (λ _. limited Unlimited (counted strict p) (fitted (length old) (bytes_written strict s p))) n (sym goes_on ∙ w)).1

    same_sent : bytes_of s (sent_payload strict p.header.code p.payload) ≡ sent_by (empty_in strict p.header.code) (bytes_of s p.payload)
    same_sent =
        sent_bytes strict p.header.code s p.payload
        (λ t z. no_bytes (bytes_of s p.payload)
        (third (empty_in strict p.header.code) strict (ltb 0 (length (bytes_of s p.payload))) (no_payload sound strict passes)
        (ap (λ (b : Bool). empty_in b p.header.code) t ∙ eq-eqb (byte_of p.header.code) 0 z) t))

    room : 4 + length (bytes_of s p.token) + length (options_layout 0 (meaning s p).options) + length (payload_layout (sent_by (empty_in strict p.header.code) (bytes_of s p.payload))) ≤ length old
    room = omega (arith, fits.size, fits.within, written_length strict s p sound, message_length (meaning s (sent strict p)), ap (λ (l : List ℕ). length (payload_layout l)) same_sent)

    judged : start_judged strict p.header (length (bytes_of s p.token)) ≡ given tt
    unfolding start_judged
    judged =
        let short : length (bytes_of s p.token) ≤ 15 = omega (arith, range_exactly s p.token sound.token, sound.token_length) in
        rw (le-ltb 3 p.header.version sound.version, le-ltb 15 (length (bytes_of s p.token)) short) (asks sound strict passes)

    abbrev first : Builder
    first = begun strict p.header (bytes_of s p.token)

    abbrev headed : List ℕ
    headed = sets old 0 (head_layout p.header (bytes_of s p.token))

    starts : Starts strict p.header (bytes_of s p.token) old (Ok first) headed
    starts =
        let l = length (head_layout p.header (bytes_of s p.token)) in
        let e : starting strict p.header (bytes_of s p.token) (length old) ≡ given first = rw (judged, le-ltb (length old) (0 + l) (omega (arith, room, head_length p.header (bytes_of s p.token)))) in
        record { answer = sym e; output = rw e }

    adds : (last : Builder) × (new : List ℕ) × AddsAll first headed (meaning s p).options last new
    adds =
        adds_all (meaning s p).options first headed (rising s 0 (records_of p) sound.ordered) (shorts s (records_of p) sound.values)
        (omega (arith, length-map (records_of p) (option_of s), length-take p.count p.options, sound.count))
        (no_options sound strict passes)
        (omega (arith, room, head_length p.header (bytes_of s p.token), length-sets old 0 (head_layout p.header (bytes_of s p.token))))

    fill : Filled first headed (meaning s p).options adds.0 adds.1
    fill = filled (meaning s p).options first headed adds.0 adds.1 adds.2

    abbrev last_bytes : List ℕ
    last_bytes = payload_layout (sent_by adds.0.empty (bytes_of s p.payload))

    abbrev final : List ℕ
    final = sets adds.1 adds.0.at last_bytes

    ends_given : ending adds.0 (bytes_of s p.payload) (length adds.1) ≡ given (adds.0.at + length last_bytes)
    unfolding ending
    ends_given =
        let short : length (bytes_of s p.payload) ≤ 70000 = omega (arith, range_exactly s p.payload sound.payload, sound.payload, store_short s p.payload.home fits.short) in
        let carries : both adds.0.empty (both adds.0.strict (ltb 0 (length (bytes_of s p.payload)))) ≡ false = rw (fill.empty, fill.strict) (no_payload sound strict passes) in
        let size : length last_bytes ≡ length (payload_layout (sent_by (empty_in strict p.header.code) (bytes_of s p.payload))) = ap (λ (b : Bool). length (payload_layout (sent_by b (bytes_of s p.payload)))) fill.empty in
        let enough : adds.0.at + length last_bytes ≤ length adds.1 =
        omega (arith, room, size, fill.put.next, put_length _ _ _ _ _ fill.put, head_length p.header (bytes_of s p.token), length-sets old 0 (head_layout p.header (bytes_of s p.token))) in
        rw (le-ltb 70000 (length (bytes_of s p.payload)) short, carries, le-ltb (length adds.1) (adds.0.at + length last_bytes) enough)

    runs : Run strict parts_of old (adds.0.at + length last_bytes) final
    runs =
        record {
          first = first;
          headed = headed;
          starts = starts;
          last = adds.0;
          filled = adds.1;
          adds = adds.2;
          ends = record { answer = sym ends_given; output = rw ends_given };
        }

-- The same run, by another name of its length and of what it leaves.
moved : (strict : Bool) (parts : Parts) (old : List ℕ) (k : ℕ) (l : List ℕ) (n : ℕ) (new : List ℕ) → Run strict parts old k l → n ≡ k → new ≡ l → Run strict parts old n new
moved strict parts old k l n new run e f =
    subst (λ (i : ℕ). Run strict parts old i new) (sym e) (subst (λ (m : List ℕ). Run strict parts old k m) (sym f) run)

pub builds_all_written : BuildsAllWritten
builds_all_written strict parts p s h e old r new promise n is =
    let w : writing strict Unlimited (length old) s p ≡ given n = sym promise.answer ∙ ap written is in
    let run = runs s p strict old n w in
    let same = (builds_as_writing strict (parts_of s p) old _ _ run p s refl refl).1 r new promise n is in
    let parts_are : parts_of s p ≡ parts =
    λ i. record { header = h i; token = ap (λ (m : Message). m.token) e i; options = ap (λ (m : Message). m.options) e i; payload = ap (λ (m : Message). m.payload) e i } in
    subst (λ (q : Parts). Run strict q old n new) parts_are (moved strict (parts_of s p) old _ _ n new run same.0 same.1)
