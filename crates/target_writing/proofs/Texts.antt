-- Laws of a packet's text: the values of a number from an index on, how long their text is, and what each answer shows.
use Prim.Native.Nat.{ℕ, ◌+◌, ◌*◌, ◌<◌, ◌≤◌}
use mathlib.Core.Path.{◌≡◌, refl, sym, ap, ◌∙◌}
use mathlib.Core.Bool.{true, false}
use mathlib.Core.List.{List, [], ◌∷◌, ◌++◌, map}
use native.Mathlib.Omega.{arith}
use lib.Dec.{ltb}
use lib.ListN.{length, take, drop, get_or, length-take, length-drop, length-append}
use borrow.Author.Tests.{eq-eqb, ne_eqb, ltb-false}
use Rattle.ground.proofs.Choice.{on_le, on_eq, by_eq, neither}
use Rattle.rfc.specs.Uri.{Kind, segment, query, separator}
use Rattle.rfc.specs.Percent.{code}
use Rattle.rfc.specs.Target.{values, behind, path_text}
use Rattle.std.specs.Prelude.{Result, Ok, Err}
use Rattle.refusal.specs.declared.Refusal.{Refusal}
use Rattle.refusal.specs.declared.Refusal.TheVariants.{TooLong, NoRoom}
use Rattle.refusal.specs.Answer.{refused}
use Rattle.refusal.specs.Number.{number_of}
use Rattle.refusal.proofs.Fitted.{no_room}
use Rattle.placing.specs.Put.{Puts}
use Rattle.placing.proofs.Puts.{puts_fits}
use Rattle.packet.specs.Limits.{max_store}
use Rattle.packet.specs.Packet.{Stores, store_of, bytes_in, value_of, records_of, none}
use Rattle.packet.specs.Meaning.{option_of}
use Rattle.packet.specs.declared.Packet.{Packet}
use Rattle.packet.specs.declared.OptionRecord.{OptionRecord}
use Rattle.packet.specs.declared.Home.{Home}
use Rattle.packet.specs.declared.Home.TheVariants.{Datagram, Edits}
use Rattle.packet.proofs.Records.{left, none_left}
use Rattle.judging.specs.Judge.{lengths_of, is_too_long, bad_packet, judging}
use Rattle.percent.specs.Step.{others}
use Rattle.percent.proofs.Coding.{code_length, others_small}
use Rattle.target_writing.specs.ToText.{options_in, text_in, writable, ToText, Fit, Fits, path_length}

-- The values of a number among the records from an index on.
abbrev pub values_from : Stores → ℕ → List OptionRecord → List (List ℕ)
values_from s n rs = values n (map (option_of s) rs)

module _ (s : Stores) (n : ℕ) (os : List OptionRecord) (count i : ℕ) (h : i < length (take count os)) where
  pub value_at : (get_or os i none).number ≡ n → values_from s n (drop i (take count os)) ≡ (value_of s (get_or os i none) ∷ values_from s n (drop (i + 1) (take count os)))
  value_at e = ap (values_from s n) (left os count i h) ∙ rw (eq-eqb (get_or os i none).number n e) refl

  pub value_not : ((get_or os i none).number ≡ n → ⊥) → values_from s n (drop i (take count os)) ≡ values_from s n (drop (i + 1) (take count os))
  value_not e = ap (values_from s n) (left os count i h) ∙ rw (ne_eqb (get_or os i none).number n e) refl

-- The length of a text doesn't depend on its first mark.
pub mark_free : (kind : Kind) (a b : ℕ) (vs : List (List ℕ)) → length (behind kind a vs) ≡ length (behind kind b vs)
mark_free kind a b [] = refl
mark_free kind a b (v ∷ vs) = refl

pub behind_length : (kind : Kind) (mark : ℕ) (v : List ℕ) (vs : List (List ℕ)) → length (behind kind mark (v ∷ vs)) ≡ 1 + length v + 2 * others kind v + length (behind kind (separator kind) vs)
behind_length kind mark v vs =
    omega (arith, length-append (code kind v) (behind kind (separator kind) vs), code_length kind v)

-- A value is no longer than 70,000 bytes where the stores are no longer.
in_store : (s : List ℕ) (start len : ℕ) → length (bytes_in s start len) ≤ length s
unfolding bytes_in
in_store s start len =
    on_le (λ (l : List ℕ). length l ≤ length s) (start + len) (length s) (λ h. omega (arith, length-take len (drop start s), length-drop start s)) (λ h. omega arith)

store_short : (s : Stores) (h : Home) → is_too_long (lengths_of s) ≡ false → length (store_of s h) ≤ max_store
unfolding is_too_long
store_short s h e =
    let f = neither (ltb max_store (length s.datagram)) (ltb max_store (length s.edits)) e in
    by h (ltb-false max_store (length s.datagram) f.0) (ltb-false max_store (length s.edits) f.1)
  where
    by : (h : Home) → length s.datagram ≤ max_store → length s.edits ≤ max_store → length (store_of s h) ≤ max_store
    by Datagram d e = d
    by Edits d e = e

pub value_short : (s : Stores) (r : OptionRecord) → is_too_long (lengths_of s) ≡ false → length (value_of s r) ≤ max_store
value_short s r e =
    omega (arith, in_store (store_of s r.home) r.start r.len, store_short s r.home e)

-- Counting: what is counted and the text of what is left are the whole.
pub record Counting (s : Stores) (kind : Kind) (n : ℕ) (rs : List OptionRecord) (total i : ℕ) : Type 0 where
  pub place : i ≤ length rs
  pub small : total ≤ i * 210001
  pub all : total + length (behind kind (separator kind) (values_from s n (drop i rs))) ≡ length (behind kind (separator kind) (values_from s n rs))

pub counting_start : (s : Stores) (kind : Kind) (n : ℕ) (rs : List OptionRecord) → Counting s kind n rs 0 0
counting_start s kind n rs = record { place = omega arith; small = omega arith; all = omega arith }

module _ (s : Stores) (kind : Kind) (n : ℕ) (os : List OptionRecord) (count total i : ℕ) (w : Counting s kind n (take count os) total i) where
  pub counting_end : length (take count os) ≤ i → total ≡ length (behind kind (separator kind) (values_from s n (take count os)))
  counting_end h =
      omega (arith, w.all, ap (λ (rs : List OptionRecord). length (behind kind (separator kind) (values_from s n rs))) (none_left (take count os) i h))

  module _ (h : i < length (take count os)) where
    pub counting_value : is_too_long (lengths_of s) ≡ false → (get_or os i none).number ≡ n → Counting s kind n (take count os) (total + 1 + length (value_of s (get_or os i none)) + 2 * others kind (value_of s (get_or os i none))) (i + 1)
    counting_value short e =
        let v : List ℕ = value_of s (get_or os i none) in
        record {
          place = omega arith;
          small = omega (arith, w.small, value_short s (get_or os i none) short, others_small kind v);
          all = omega (
            arith,
            w.all,
            ap (λ (vs : List (List ℕ)). length (behind kind (separator kind) vs)) (value_at s n os count i h e),
            behind_length kind (separator kind) v (values_from s n (drop (i + 1) (take count os))),
          );
        }

    pub counting_other : ((get_or os i none).number ≡ n → ⊥) → Counting s kind n (take count os) total (i + 1)
    counting_other e =
        record {
          place = omega arith;
          small = omega (arith, w.small);
          all = omega (arith, w.all, ap (λ (vs : List (List ℕ)). length (behind kind (separator kind) vs)) (value_not s n os count i h e));
        }

-- A path's text by its segments' length.
pub path_empty : (vs : List (List ℕ)) → 0 ≡ length (behind segment (separator segment) vs) → path_text vs ≡ (0x2F ∷ [])
path_empty [] e = refl
path_empty (v ∷ vs) e = absurd (omega arith)

pub path_some : (vs : List (List ℕ)) → (length (behind segment (separator segment) vs) ≡ 0 → ⊥) → path_text vs ≡ behind segment 0x2F vs
path_some [] e = absurd (e refl)
path_some (v ∷ vs) e = refl

pub path_size : (vs : List (List ℕ)) → path_length (length (behind segment (separator segment) vs)) ≡ length (path_text vs)
path_size [] = refl
path_size (v ∷ vs) = rw (ne_eqb (length (behind segment (separator segment) (v ∷ vs))) 0 (λ e. omega arith)) refl

pub path_length_small : (n : ℕ) → path_length n ≤ n + 1
path_length_small n = on_eq (λ (k : ℕ). k ≤ n + 1) n 0 (λ e. omega arith) (λ e. omega arith)

-- The text of a number's values is short, where the stores are.
pub behind_small : (s : Stores) (kind : Kind) (n mark : ℕ) (rs : List OptionRecord) → is_too_long (lengths_of s) ≡ false → length (behind kind mark (values_from s n rs)) ≤ length rs * 210001
behind_small s kind n mark [] short = omega arith
behind_small s kind n mark (r ∷ rs) short =
    by_eq r.number n
    (λ e. rw (eq-eqb r.number n e) (omega (arith, behind_length kind mark (value_of s r) (values_from s n rs), value_short s r short, others_small kind (value_of s r), behind_small s kind n (separator kind) rs short)))
    (λ e. rw (ne_eqb r.number n e) (omega (arith, behind_small s kind n mark rs short)))

pub packet_small : (s : Stores) (kind : Kind) (n : ℕ) (p : Packet) → Fit s p → length (behind kind (separator kind) (values_from s n (records_of p))) ≤ 26880128
packet_small s kind n p f =
    omega (arith, behind_small s kind n (separator kind) (records_of p) f.short, length-take p.count p.options, f.count)

-- How long a packet's text is.
pub text_size : (s : Stores) (p : Packet) → length (text_in s p) ≡ path_length (length (behind segment (separator segment) (values 11 (options_in s p)))) + length (behind query (separator query) (values 15 (options_in s p)))
unfolding text_in
text_size s p =
    length-append (path_text (values 11 (options_in s p))) (behind query 0x3F (values 15 (options_in s p)))
    ∙ rw (sym (path_size (values 11 (options_in s p))), mark_free query 0x3F (separator query) (values 15 (options_in s p))) refl

-- What each answer shows.
module _ (s : Stores) (p : Packet) (old : List ℕ) where
  pub no_room_for : (path rest : ℕ) → path + rest ≡ length (text_in s p) → length old < path + rest → Fits s p old (Err NoRoom) old
  no_room_for path rest e h =
      let f = no_room old (text_in s p) (omega arith) in
      record { answer = f.0; output = f.1 }

  pub room_for : (r : ℕ) (new : List ℕ) → Puts old 0 (path_text (values 11 (options_in s p)) ++ behind query 0x3F (values 15 (options_in s p))) r new → length (text_in s p) ≤ length old → Fits s p old (Ok r) new
  unfolding text_in
  room_for r new put h =
      let f = puts_fits put h in
      record { answer = f.0; output = f.1 }

  pub too_long : is_too_long (lengths_of s) ≡ true → ToText s p old (Err TooLong) old
  unfolding writable
  too_long e = rw e (record { answer = refl; output = refl })

  pub bad_record : (k : Refusal) → is_too_long (lengths_of s) ≡ false → bad_packet (lengths_of s) p ≡ true → refused (number_of k) ≡ judging (lengths_of s) p → ToText s p old (Err k) old
  unfolding writable judging
  bad_record k e b j = rw (e, b) (record { answer = rw b at j; output = refl })

  pub good_record : (r : Result ℕ Refusal) (new : List ℕ) → is_too_long (lengths_of s) ≡ false → bad_packet (lengths_of s) p ≡ false → Fits s p old r new → ToText s p old r new
  unfolding writable
  good_record r new e b f = rw (e, b) f
