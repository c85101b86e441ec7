-- Listing the messages of a stream: what is known before each, and how a turn goes.
use Prim.Native.Nat.{ℕ, suc, ◌+◌, ◌*◌, ◌<◌, ◌≤◌}
use mathlib.Core.Path.{◌≡◌, refl, sym, ap, ◌∙◌}
use mathlib.Core.List.{List, [], ◌∷◌, ◌++◌}
use native.Mathlib.Numerals.{add-one}
use native.Mathlib.Omega.{arith}
use lib.ListN.{length, set, length-append}
use lib.Seq.{sets}
use Rattle.refusal.specs.Answer.{refused}
use Rattle.refusal.proofs.Answers.{on_given}
use Rattle.placing.specs.Put.{Put}
use Rattle.placing.proofs.Puts.{Putting, putting_start, putting_turn, putting_end, puts_whole, whole_puts}
use Rattle.stream.specs.declared.Form.{Form}
use Rattle.stream.specs.Stream.{Frozen, message_of, datagrams_of}
use Rattle.stream.specs.declared.Step.{Step}
use Rattle.std.specs.Prelude.{Result, Ok}
use Rattle.refusal.specs.declared.Refusal.{Refusal}
use Rattle.stream.specs.Messages.{message_at}
use Rattle.stream.specs.Answers.{step_read}
use Rattle.stream.proofs.Sound.{Message as Stands, message_sound}
use Rattle.stream.proofs.Complete.{message_some}
use Rattle.stream.proofs.Left.{Left, left_start, left_none, First, left_first}
use Rattle.thawing.specs.Thawing.{Listing, entries}
use Rattle.thawing.specs.Message.{NextMessage}
use Rattle.thawing.proofs.Message.{Took, taken, never_refused}

-- Three numbers for each message.
pub entries_length : (form : Form) (at to : ℕ) (l : List Frozen) → length (entries form at to l) ≡ 3 * length l
entries_length form at to [] = refl
entries_length form at to (m ∷ l) = omega (arith, entries_length form (at + length (message_of form m)) (to + length m.datagram) l)

put_three : (l : List ℕ) (at a b c : ℕ) → Put l at (a ∷ b ∷ c ∷ []) (at + 3) (set (set (set l at a) (at + 1) b) (at + 2) c)
put_three l at a b c = let e : at + 2 ≡ suc (suc at) = omega arith in record { next = refl; out = rw (add-one, e) }

module _ (form : Form) (s : List ℕ) where
  -- Before a message: once those that are left are listed and copied, all are.
  pub record ListWalk (l : List Frozen) (oldList oldOut list out : List ℕ) (at place to : ℕ) : Type 0 where
    pub rest : List Frozen
    pub left : Left form s at rest
    pub listed : Putting oldList 0 (entries form 0 0 l) list place (entries form at to rest)
    pub copied : Putting oldOut 0 (datagrams_of l) out to (datagrams_of rest)
    pub places : place + 3 * length rest ≤ length oldList
    pub room : to + length (datagrams_of rest) ≤ length oldOut
    pub short : to ≤ at

  pub list_start : (oldList oldOut : List ℕ) (g : Listing form s (length oldList) (length oldOut)) → ListWalk g.messages oldList oldOut oldList oldOut 0 0 0
  list_start oldList oldOut g =
      record {
        rest = g.messages;
        left = left_start form s g.messages g.are;
        listed = putting_start oldList 0 (entries form 0 0 g.messages);
        copied = putting_start oldOut 0 (datagrams_of g.messages);
        places = omega (arith, g.places_for);
        room = omega (arith, g.room_for);
        short = omega arith;
      }

  module _ (l : List Frozen) (oldList oldOut list out : List ℕ) (at place to : ℕ) (w : ListWalk l oldList oldOut list out at place to) where
    pub list_first : at < length s → First form s at w.rest
    list_first h = left_first form s at w.rest w.left h

    pub list_ends : length s ≤ at → 3 * length l ≤ length oldList → length (datagrams_of l) ≤ length oldOut
        → (list ≡ sets oldList 0 (entries form 0 0 l)) × (out ≡ sets oldOut 0 (datagrams_of l))
    list_ends h a b =
        let z : w.rest ≡ [] = left_none form s at w.rest w.left h in (
          (puts_whole (putting_end w.listed (ap (entries form at to) z)) (omega (arith, entries_length form 0 0 l))).out,
          (puts_whole (putting_end w.copied (ap datagrams_of z)) (omega arith)).out,
        )

    module _ (h : at < length s) where
      abbrev pub first : First form s at w.rest
      first = list_first h

      counts : length (datagrams_of w.rest) ≡ length first.message.datagram + length (datagrams_of first.others)
      counts = ap (λ (r : List Frozen). length (datagrams_of r)) first.is ∙ length-append first.message.datagram (datagrams_of first.others)

      many : length w.rest ≡ suc (length first.others)
      many = ap length first.is

      pub list_places : place + 3 ≤ length list
      list_places = omega (arith, w.places, many, w.listed.kept)

      pub list_room : to + length first.message.datagram ≤ length out
      list_room = omega (arith, w.room, counts, w.copied.kept)

      -- A datagram has fewer bytes than its message.
      shorter : length first.message.datagram < length (message_of form first.message)
      shorter =
          let k = on_given (Stands form s at) (message_at form s at) (record { message = first.message; next = at + length (message_of form first.message) }) (message_sound form s at) first.found in
          omega (arith, k.room)

      pub list_turn : (len next : ℕ) (newOut : List ℕ) → Took form s at w.rest first out to list_room len next newOut
          → ListWalk l oldList oldOut (set (set (set list place (at + 1)) (place + 1) to) (place + 2) len) newOut next (place + 3) (to + len)
      list_turn len next newOut t =
          let d : List ℕ = first.message.datagram in
          let e : entries form at to w.rest ≡ ((at + 1) ∷ to ∷ len ∷ []) ++ entries form next (to + len) first.others =
          ap (entries form at to) first.is
          ∙ (ap (λ (n : ℕ). (at + 1) ∷ to ∷ n ∷ entries form (at + length (message_of form first.message)) (to + n) first.others) (sym t.len_is)
          ∙ ap (λ (n : ℕ). (at + 1) ∷ to ∷ len ∷ entries form n (to + len) first.others) (sym t.next_is)) in
          record {
            rest = first.others;
            left = rw t.next_is first.left;
            listed = putting_turn w.listed e (whole_puts (put_three list place (at + 1) to len) list_places);
            copied = putting_turn w.copied (ap datagrams_of first.is) t.put;
            places = omega (arith, w.places, many);
            room = omega (arith, w.room, counts, t.len_is);
            short = omega (arith, w.short, shorter, t.len_is, t.next_is);
          }

      -- The message that the step gave, and the walk after it.
      pub record Turned (len next : ℕ) (newOut : List ℕ) : Type 0 where
        pub short : to + len ≤ length s
        pub onwards : at < next
        pub walk : ListWalk l oldList oldOut (set (set (set list place (at + 1)) (place + 1) to) (place + 2) len) newOut next (place + 3) (to + len)

      pub list_next : (r : Result Step Refusal) (len next : ℕ) (newOut : List ℕ) → r ≡ Ok (record { len = len; next = next }) → NextMessage form s at out to r newOut → Turned len next newOut
      list_next r len next newOut e n =
          let t = taken form s at w.rest first out to list_room len next newOut (rw e at n) in
          record {
            short = omega (arith, w.short, shorter, t.len_is, first.left.inside);
            onwards = omega (arith, t.next_is, message_some form first.message);
            walk = list_turn len next newOut t;
          }

      -- The step isn't refused.
      pub list_some {ℓ} : {C : Type ℓ} (r : Result Step Refusal) (newOut : List ℕ) (k : ℕ) → NextMessage form s at out to r newOut → step_read r ≡ refused k → C
      list_some r newOut k n e = never_refused form s at w.rest first out to list_room r newOut k n e
