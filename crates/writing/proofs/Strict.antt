-- Strict writing: what it accepts is exactly the well-formed messages for which limit and room suffice.
use Prim.Native.Nat.{ℕ, zero, suc, ◌+◌, ◌≤◌}
use mathlib.Core.Path.{◌≡◌, refl, sym, ap, ◌∙◌}
use mathlib.Core.Bool.{Bool, true, false, not}
use mathlib.Core.List.{List, [], ◌∷◌, ◌++◌, map}
use native.Mathlib.Omega.{arith}
use lib.ListN.{length, take, drop, length-take, length-map}
use lib.Dec.{ltb, eqb}
use borrow.Author.Tests.{le-ltb, eq-eqb, ltb-false, eqb-true, not-false}
use Rattle.ground.specs.Choice.{both, either}
use Rattle.ground.specs.Part.{Bytes}
use Rattle.rfc.specs.Message.{Rising, Options, Bare, WellFormed, layout}
use Rattle.ground.proofs.Choice.{on, on_lt, on_le, on_eq, neither}
use Rattle.ground.proofs.Part.{bytes_take, bytes_drop, put_front}
use Rattle.refusal.specs.Answer.{Answer, given, onward, fitted, after}
use Rattle.refusal.proofs.Answers.{not_refused, onward_given}
use Rattle.class.specs.Class.{byte_of}
use Rattle.header.proofs.Raw.{type_small}
use Rattle.packet.specs.Packet.{Stores, store_of, bytes_in, records_of}
use Rattle.packet.specs.Meaning.{meaning, option_of}
use Rattle.judging.specs.Judge.{lengths_of, is_too_long, falling, bad_value, bad_values, bad_packet}
use Rattle.packet.specs.Shape.{Numbers, Shaped}
use Rattle.packet.specs.declared.Packet.{Packet}
use Rattle.packet.specs.declared.Home.{Home}
use Rattle.packet.specs.declared.Home.TheVariants.{Datagram, Edits}
use Rattle.packet.specs.declared.OptionRecord.{OptionRecord}
use Rattle.judging.proofs.Good.{Good, good, value_length}
use Rattle.measuring.specs.Measuring.{strictly, limited, counted, over, empty_carries}
use Rattle.measuring.specs.declared.Limit.{Limit}
use Rattle.measuring.proofs.Sizes.{measured_good}
use Rattle.writing.specs.Writing.{writing, bytes_written, Held}
use Rattle.writing.proofs.Options.{bytes_at_most}
use Rattle.judging.proofs.Ranges.{range_exactly}
use Rattle.writing.proofs.Sizes.{strict_counted}
use Rattle.writing.proofs.Answers.{writing_measured}

-- What strict mode asks besides: it is refused by none of 7, 2 and 8.
pub record Passed (p : Packet) : Type 0 where
  pub version : p.header.version ≡ 1
  pub token : p.token.len ≤ 8
  pub empty : empty_carries p ≡ false

-- A packet that passes goes on, and one that goes on has passed.
pub passes : (p : Packet) → Passed p → strictly true p ≡ given tt
unfolding strictly
passes p h = rw (eq-eqb p.header.version 1 h.version, le-ltb 8 p.token.len h.token, h.empty)

pub passed : (p : Packet) → strictly true p ≡ given tt → Passed p
unfolding strictly
passed p =
    let P : Answer (Unit {0}) → Type 0 = λ b. b ≡ given tt → Passed p in
    on P (not (eqb p.header.version 1)) (λ v e. not_refused (sym e))
    (λ v. on P (ltb 8 p.token.len) (λ t e. not_refused (sym e))
    (λ t. on P (empty_carries p) (λ k e. not_refused (sym e))
    (λ k e. record { version = eqb-true p.header.version 1 (not-false (eqb p.header.version 1) v); token = ltb-false 8 p.token.len t; empty = k })))

-- So each of them does.
held : (s : Stores) (h : Home) → Held s → Bytes (store_of s h)
held s Datagram b = b.datagram
held s Edits b = b.edits

-- Bytes that a range names in a store of bytes are bytes; a range of none names none.
pub bytes_named : (s : List ℕ) (start len : ℕ) → Bytes s → Bytes (bytes_in s start len)
unfolding bytes_in
bytes_named s start len b = on_le Bytes (start + len) (length s) (λ h. bytes_take len (drop start s) (bytes_drop start s b)) (λ h. tt)

no_elements : {A : Type 0} (l : List A) → length l ≡ 0 → l ≡ []
no_elements [] e = refl
no_elements (x ∷ l) e = absurd (omega (arith, e))

no_bytes : (s : List ℕ) (start len : ℕ) → len ≡ 0 → bytes_in s start len ≡ []
no_bytes s start len e = no_elements (bytes_in s start len) (omega (arith, bytes_at_most s start len))

-- Numbers that never fall, rise.
pub rising : (s : Stores) (before : ℕ) (rs : List OptionRecord) → falling before rs ≡ false → Rising before (map (option_of s) rs)
rising s before [] e = tt
rising s before (r ∷ rs) e =
    let both = neither (ltb r.number before) (falling r.number rs) e in
    (ltb-false r.number before both.0, rising s r.number rs both.1)

-- Good records mean options that keep to what an option may.
pub options : (s : Stores) (rs : List OptionRecord) → Held s → Numbers rs → bad_values (lengths_of s) rs ≡ false → Options (map (option_of s) rs)
options s [] b n e = tt
options s (r ∷ rs) b n e =
    let both = neither (bad_value (lengths_of s) r) (bad_values (lengths_of s) rs) e in
    (omega (arith, n.0), omega (arith, bytes_at_most (store_of s r.home) r.start r.len, value_length (lengths_of s) r both.0), bytes_named (store_of s r.home) r.start r.len (held s r.home b), options s rs b n.1 both.1)

numbers_take : (n : ℕ) (rs : List OptionRecord) → Numbers rs → Numbers (take n rs)
numbers_take zero rs h = tt
numbers_take (suc n) [] h = tt
numbers_take (suc n) (r ∷ rs) h = (h.0, numbers_take n rs h.1)

-- Nothing that an empty message could carry.
module _ (s : Stores) (p : Packet) where
  nothing : empty_carries p ≡ false → byte_of p.header.code ≡ 0 → Bare (meaning s p)
  nothing e z =
      let t = ltb 0 p.token.len in
      let q = ltb 0 p.payload.len in
      let k = ltb 0 p.count in
      let none : either t (either k q) ≡ false = ap (λ (b : Bool). both b (either t (either k q))) (sym (eq-eqb (byte_of p.header.code) 0 z)) ∙ e in
      let first = neither t (either k q) none in
      let rest = neither k q first.1 in
      record {
        token = no_bytes (store_of s p.token.home) p.token.start p.token.len (omega (arith, ltb-false 0 p.token.len first.0));
        options = no_elements (map (option_of s) (records_of p)) (length-map (records_of p) (option_of s) ∙ omega (arith, length-take p.count p.options, ltb-false 0 p.count rest.0));
        payload = no_bytes (store_of s p.payload.home) p.payload.start p.payload.len (omega (arith, ltb-false 0 p.payload.len rest.1));
      }

  module _ (shaped : Shaped p) (g : Good (lengths_of s) p) where
    -- What passes strict mode means a well-formed message.
    pub strict_wellformed : Held s → Passed p → WellFormed (meaning s p)
    strict_wellformed b h =
        record {
          version = h.version;
          type = omega (arith, type_small p.header.message_type);
          code = omega (arith, shaped.code);
          id = omega (arith, shaped.id);
          token_length = omega (arith, bytes_at_most (store_of s p.token.home) p.token.start p.token.len, h.token);
          token = bytes_named (store_of s p.token.home) p.token.start p.token.len (held s p.token.home b);
          count = rw (length-map (records_of p) (option_of s)) (omega (arith, length-take p.count p.options, g.count));
          rising = rising s 0 (records_of p) g.ordered;
          options = options s (records_of p) b (numbers_take p.count p.options shaped.numbers) g.values;
          payload = bytes_named (store_of s p.payload.home) p.payload.start p.payload.len (held s p.payload.home b);
          empty = nothing h.empty;
        }

    -- A bare message has no token, no records and no payload.
    carries_none : Bare (meaning s p) → either (ltb 0 p.token.len) (either (ltb 0 p.count) (ltb 0 p.payload.len)) ≡ false
    carries_none m =
        let t : p.token.len ≡ 0 = sym (range_exactly s p.token g.token) ∙ ap length m.token in
        let q : p.payload.len ≡ 0 = sym (range_exactly s p.payload g.payload) ∙ ap length m.payload in
        let k : p.count ≡ 0 = omega (arith, length-take p.count p.options, sym (length-map (records_of p) (option_of s)) ∙ ap length m.options, g.count, shaped.array) in
        rw (t, k, q)

    -- A well-formed message passes strict mode.
    pub wellformed_strict : WellFormed (meaning s p) → Passed p
    wellformed_strict w =
        record {
          version = w.version;
          token = omega (arith, range_exactly s p.token g.token, w.token_length);
          empty = on_eq (λ (b : Bool). b ≡ false) (byte_of p.header.code) 0 (λ z. carries_none (w.empty z)) (λ z. refl);
        }

-- What strict writing asks of a packet over two stores: no cause of 10 or 11, a well-formed message, and that limit and room
-- suffice for its bytes.
pub record Writable (limit : Limit) (room : ℕ) (s : Stores) (p : Packet) : Type 0 where
  pub store : is_too_long (lengths_of s) ≡ false
  pub records : bad_packet (lengths_of s) p ≡ false
  pub wellformed : WellFormed (meaning s p)
  pub within : over limit (length (layout (meaning s p))) ≡ false
  pub fits : length (layout (meaning s p)) ≤ room

-- What an answer of each stage says, when it is a length.
began : (limit : Limit) (room : ℕ) (s : Stores) (p : Packet) (n : ℕ) → writing true limit room s p ≡ given n
    → (is_too_long (lengths_of s) ≡ false) × (bad_packet (lengths_of s) p ≡ false) × (onward (strictly true p) (λ _. limited limit (counted true p) (fitted room (layout (meaning s p)))) ≡ given n)
unfolding writing
began limit room s p n =
    let P : Answer ℕ → Type 0 = λ b. b ≡ given n → (is_too_long (lengths_of s) ≡ false) × (bad_packet (lengths_of s) p ≡ false) × (onward (strictly true p) (λ _. limited limit (counted true p) (fitted room (layout (meaning s p)))) ≡ given n) in
    on P (is_too_long (lengths_of s)) (λ h e. not_refused (sym e)) (λ h. on P (bad_packet (lengths_of s) p) (λ b e. not_refused (sym e)) (λ b e. (h, b, e)))

ended : (limit : Limit) (room size : ℕ) (bytes : List ℕ) (n : ℕ) → limited limit size (fitted room bytes) ≡ given n → (over limit size ≡ false) × (length bytes ≤ room) × (n ≡ length bytes)
unfolding limited
ended limit room size bytes n =
    let P : Answer ℕ → Type 0 = λ b. b ≡ given n → (over limit size ≡ false) × (length bytes ≤ room) × (n ≡ length bytes) in
    on P (over limit size) (λ o e. not_refused (sym e))
    (λ o. on_lt P room (length bytes) (λ r e. not_refused (sym e)) (λ r e. (o, r, cc)))

module _ (limit : Limit) (room : ℕ) (s : Stores) (p : Packet) (shaped : Shaped p) where
  -- Strict writing accepts what is writable, and answers the length of its layout.
  pub strict_writes : Writable limit room s p → writing true limit room s p ≡ given (length (layout (meaning s p)))
  unfolding limited
  strict_writes w =
      let g = good (lengths_of s) p w.records in
      let n = strict_counted s p g in
      writing_measured true limit room s p
      ∙ (measured_good true limit room (lengths_of s) p w.store w.records
      ∙ rw (passes p (wellformed_strict s p shaped g w.wellformed), sym (ap (over limit) n) ∙ w.within, sym n, le-ltb room (length (layout (meaning s p))) w.fits))

  -- The output then begins with the layout of what the packet means.
  pub strict_output : Writable limit room s p → (old : List ℕ) → length (layout (meaning s p)) ≤ length old → after (writing true limit room s p) 0 (bytes_written true s p) old ≡ layout (meaning s p) ++ drop (length (layout (meaning s p))) old
  strict_output w old fits = rw (strict_writes w) (put_front old (layout (meaning s p)) fits)

  -- It accepts nothing else, and no other length is its answer.
  pub strict_written : Held s → (n : ℕ) → writing true limit room s p ≡ given n → Writable limit room s p × (n ≡ length (layout (meaning s p)))
  strict_written b n e =
      let first = began limit room s p n e in
      let g = good (lengths_of s) p first.1 in
      let second = onward_given (strictly true p) (λ _. limited limit (counted true p) (fitted room (layout (meaning s p)))) n first.2 in
      let third = ended limit room (counted true p) (layout (meaning s p)) n second.2 in
      (record { store = first.0; records = first.1; wellformed = strict_wellformed s p shaped g b (passed p second.1); within = ap (over limit) (strict_counted s p g) ∙ third.0; fits = third.1 }, third.2)
