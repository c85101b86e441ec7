-- The walk over the chunks of a message, and over the messages of a stream: what is known before each turn, and how a turn goes.
use Prim.Native.Nat.{ℕ, zero, suc, ◌+◌, ◌-◌, ◌<◌, ◌≤◌}
use mathlib.Core.Path.{◌≡◌, refl, sym, ap, ◌∙◌}
use mathlib.Core.Bool.{Bool, true, false}
use mathlib.Core.List.{List, [], ◌∷◌, ◌++◌}
use native.Mathlib.Nat.{zero-add, add-zero}
use native.Mathlib.Omega.{arith}
use lib.Dec.{ltb}
use lib.ListN.{length, get_or, length-append}
use borrow.Author.Tests.{eq-eqb, ne_eqb, lt-ltb, le-ltb}
use Rattle.ground.specs.Choice.{pick}
use Rattle.ground.specs.Part.{part}
use Rattle.refusal.specs.Answer.{Answer, given, refused}
use Rattle.refusal.specs.Answer.{onward}
use Rattle.refusal.proofs.Answers.{on_given, not_refused}
use Rattle.packet.specs.Limits.{full_size}
use Rattle.stream.specs.declared.Form.{Form}
use Rattle.stream.specs.Stream.{Frozen, full, head_size, datagrams_of}
use Rattle.stream.specs.Messages.{end_of_chunk, chunk_at, Body, body_at, Found, sized_body, message_at, messages_from}
use Rattle.stream.specs.Answers.{Extent, body_extent, extent, sized_extent, Tally, tally}
use Rattle.stream.proofs.From.{from_end, from_more, from_bad}
use Rattle.stream.proofs.Sound.{Chunk, chunk_sound, Message, message_sound, part_length, inside_of}

-- Bytes that were passed, put before those of an answer.
abbrev pub plus : ℕ → Answer Extent → Answer Extent
plus k (given e) = given (record { len = k + e.len; next = e.next })
plus k (refused n) = refused n

plus_none : (a : Answer Extent) → a ≡ plus 0 a
plus_none (given e) = ap (λ (n : ℕ). given (record { len = n; next = e.next })) (sym (zero-add e.len))
plus_none (refused n) = refl

plus_more : (k n : ℕ) (x : List ℕ) (a : Answer Body) → length x ≡ n
    → plus k (body_extent (onward a (λ b. given (record { bytes = x ++ b.bytes; next = b.next })))) ≡ plus (k + n) (body_extent a)
plus_more k n x (given b) e =
    let l : k + length (x ++ b.bytes) ≡ k + n + length b.bytes = omega (arith, length-append x b.bytes) in
    ap (λ (m : ℕ). given (record { len = m; next = b.next })) l
plus_more k n x (refused m) e = refl

module _ (form : Form) (s : List ℕ) where
  body_end : (fuel before at : ℕ) → length s ≤ at + fuel → get_or s at 0 ≡ 3 → body_at form s fuel before at ≡ given (record { bytes = []; next = at + 1 })
  unfolding body_at
  body_end zero before at h e = absurd (omega (arith, inside_of s at 2 e))
  body_end (suc fuel) before at h e = rw (eq-eqb (get_or s at 0) 3 e) refl

  body_short : (fuel before at : ℕ) → (get_or s at 0 ≡ 3 → ⊥) → before < full form → body_at form s fuel before at ≡ refused 19
  unfolding body_at
  body_short zero before at e h = refl
  body_short (suc fuel) before at e h = rw (ne_eqb (get_or s at 0) 3 e, lt-ltb before (full form) h) refl

  body_bad : (fuel before at : ℕ) → (get_or s at 0 ≡ 3 → ⊥) → full form ≤ before → chunk_at form s at ≡ refused 19 → body_at form s fuel before at ≡ refused 19
  unfolding body_at
  body_bad zero before at e h c = refl
  body_bad (suc fuel) before at e h c = rw (ne_eqb (get_or s at 0) 3 e, le-ltb before (full form) h, c) refl

  body_more : (fuel before at n : ℕ) → (get_or s at 0 ≡ 3 → ⊥) → full form ≤ before → chunk_at form s at ≡ given n
      → body_at form s (suc fuel) before at ≡ onward (body_at form s fuel n (end_of_chunk form at n)) (λ b. given (record { bytes = part s (at + head_size form) n ++ b.bytes; next = b.next }))
  unfolding body_at
  body_more fuel before at n e h c = rw (ne_eqb (get_or s at 0) 3 e, le-ltb before (full form) h, c) refl

  -- Before a chunk: the whole answer is the bytes so far put before that of what is left.
  pub record BodyWalk (from before len at : ℕ) : Type 0 where
    pub fuel : ℕ
    pub inside : at ≤ length s
    pub fuelled : length s ≤ at + fuel
    pub short : len ≤ at
    pub whole : body_extent (body_at form s (length s) (full form) from) ≡ plus len (body_extent (body_at form s fuel before at))

  pub body_start : (from : ℕ) → from ≤ length s → BodyWalk from (full form) 0 from
  body_start from h =
      record { fuel = length s; inside = h; fuelled = omega arith; short = omega arith; whole = plus_none (body_extent (body_at form s (length s) (full form) from)) }

  -- A chunk that was read stands there.
  pub chunk_of : (at n : ℕ) → chunk_at form s at ≡ given n → Chunk form s at n
  chunk_of at n e = on_given (Chunk form s at) (chunk_at form s at) n (chunk_sound form s at) e

  one_left : (fuel at : ℕ) → length s ≤ at + fuel → at < length s → fuel ≡ suc (fuel - 1)
  one_left fuel at h l = omega arith

  module _ (from before len at : ℕ) (w : BodyWalk from before len at) where
    pub body_ends : get_or s at 0 ≡ 3 → given (record { len = len; next = at + 1 }) ≡ body_extent (body_at form s (length s) (full form) from)
    body_ends e =
        sym (w.whole ∙ (ap (λ (a : Answer Body). plus len (body_extent a)) (body_end w.fuel before at w.fuelled e)
        ∙ ap (λ (n : ℕ). given (record { len = n; next = at + 1 })) (add-zero len)))

    pub body_stops : (get_or s at 0 ≡ 3 → ⊥) → before < full form → refused 19 ≡ body_extent (body_at form s (length s) (full form) from)
    body_stops e h = sym (w.whole ∙ ap (λ (a : Answer Body). plus len (body_extent a)) (body_short w.fuel before at e h))

    pub body_refused : (get_or s at 0 ≡ 3 → ⊥) → full form ≤ before → refused 19 ≡ chunk_at form s at → refused 19 ≡ body_extent (body_at form s (length s) (full form) from)
    body_refused e h c = sym (w.whole ∙ ap (λ (a : Answer Body). plus len (body_extent a)) (body_bad w.fuel before at e h (sym c)))

    pub body_turn : (n : ℕ) → (get_or s at 0 ≡ 3 → ⊥) → full form ≤ before → given n ≡ chunk_at form s at → BodyWalk from n (len + n) (end_of_chunk form at n)
    body_turn n e h c =
        let k : Chunk form s at n = chunk_of at n (sym c) in
        let f : w.fuel ≡ suc (w.fuel - 1) = one_left w.fuel at w.fuelled (omega (arith, k.inside, k.some)) in
        let x : List ℕ = part s (at + head_size form) n in
        record {
          fuel = w.fuel - 1;
          inside = k.inside;
          fuelled = omega (arith, w.fuelled, k.some);
          short = omega (arith, w.short);
          whole = w.whole ∙ (ap (λ (m : ℕ). plus len (body_extent (body_at form s m before at))) f
              ∙ (ap (λ (a : Answer Body). plus len (body_extent a)) (body_more (w.fuel - 1) before at n e h (sym c))
              ∙ plus_more len n x (body_at form s (w.fuel - 1) n (end_of_chunk form at n)) (part_length s (at + head_size form) n (omega (arith, k.inside)))));
        }

-- A message by its parts.
sized_extent_lem : (peer : List ℕ) (b : Body) → extent (sized_body peer b) ≡ sized_extent (record { len = length b.bytes; next = b.next })
unfolding sized_body sized_extent
sized_extent_lem peer b = cases (ltb (length b.bytes) 4) (ltb full_size (length b.bytes))
  where
    cases : (t u : Bool) → extent (pick t (refused 19) (pick u (refused 19) (given (record { message = record { peer = peer; datagram = b.bytes }; next = b.next }))))
        ≡ pick t (refused 19) (pick u (refused 19) (given (record { len = length b.bytes; next = b.next })))
    cases true u = refl
    cases false true = refl
    cases false false = refl

body_sized : (peer : List ℕ) (a : Answer Body) → extent (onward a (sized_body peer)) ≡ onward (body_extent a) sized_extent
body_sized peer (given b) = sized_extent_lem peer b
body_sized peer (refused k) = refl

module _ (form : Form) (s : List ℕ) (at : ℕ) where
  pub message_none : (get_or s at 0 ≡ 1 → ⊥) → refused 19 ≡ extent (message_at form s at)
  unfolding message_at
  message_none e = rw (ne_eqb (get_or s at 0) 1 e) refl

  pub message_cut : get_or s at 0 ≡ 1 → length s < at + 19 → refused 19 ≡ extent (message_at form s at)
  unfolding message_at
  message_cut e h = rw (eq-eqb (get_or s at 0) 1 e, lt-ltb (length s) (at + 19) h) refl

  pub message_body : get_or s at 0 ≡ 1 → at + 19 ≤ length s → (a : Answer Extent) → a ≡ body_extent (body_at form s (length s) (full form) (at + 19))
      → onward a sized_extent ≡ extent (message_at form s at)
  unfolding message_at
  message_body e h a q =
      rw (eq-eqb (get_or s at 0) 1 e, le-ltb (length s) (at + 19) h)
      (ap (λ (x : Answer Extent). onward x sized_extent) q ∙ sym (body_sized (part s (at + 1) 18) (body_at form s (length s) (full form) (at + 19))))

-- Messages that were passed, put before those of an answer.
abbrev pub plus_tally : ℕ → ℕ → Answer Tally → Answer Tally
plus_tally c b (given t) = given (record { count = c + t.count; bytes = b + t.bytes })
plus_tally c b (refused k) = refused k

tally_none : (a : Answer Tally) → a ≡ plus_tally 0 0 a
tally_none (given t) =
    ap (λ (n : ℕ). given (record { count = n; bytes = t.bytes })) (sym (zero-add t.count))
    ∙ ap (λ (n : ℕ). given (record { count = 0 + t.count; bytes = n })) (sym (zero-add t.bytes))
tally_none (refused k) = refl

tally_more : (c b : ℕ) (m : Frozen) (a : Answer (List Frozen))
    → plus_tally c b (tally (onward a (λ l. given (m ∷ l)))) ≡ plus_tally (c + 1) (b + length m.datagram) (tally a)
tally_more c b m (given l) =
    let p : c + suc (length l) ≡ c + 1 + length l = omega arith in
    let q : b + length (m.datagram ++ datagrams_of l) ≡ b + length m.datagram + length (datagrams_of l) = omega (arith, length-append m.datagram (datagrams_of l)) in
    ap (λ (n : ℕ). given (record { count = n; bytes = b + length (m.datagram ++ datagrams_of l) })) p
    ∙ ap (λ (n : ℕ). given (record { count = c + 1 + length l; bytes = n })) q
tally_more c b m (refused k) = refl

module _ (form : Form) (s : List ℕ) where
  -- A message that was measured was found.
  pub record Whole (at len next : ℕ) : Type 0 where
    pub found : Found
    pub is : message_at form s at ≡ given found
    pub length_is : length found.message.datagram ≡ len
    pub next_is : found.next ≡ next
    pub stands : Message form s at found

  same_extent : (a b : Extent) → ◌≡◌ {A = Answer Extent} (given a) (given b) → a ≡ b
  same_extent a b e = cc

  whole_by : (at len next : ℕ) (a : Answer Found) → message_at form s at ≡ a → given (record { len = len; next = next }) ≡ extent a → Whole at len next
  whole_by at len next (given m) q e =
      let k = same_extent (record { len = len; next = next }) (record { len = length m.message.datagram; next = m.next }) e in
      record { found = m; is = q; length_is = sym (ap (λ (x : Extent). x.len) k); next_is = sym (ap (λ (x : Extent). x.next) k); stands = on_given (Message form s at) (message_at form s at) m (message_sound form s at) q }
  whole_by at len next (refused k) q e = not_refused e

  pub whole_of : (at len next : ℕ) → given (record { len = len; next = next }) ≡ extent (message_at form s at) → Whole at len next
  whole_of at len next e = whole_by at len next (message_at form s at) refl e

  -- A message that wasn't measured wasn't found.
  bad_by : (at k : ℕ) (a : Answer Found) → message_at form s at ≡ a → refused k ≡ extent a → message_at form s at ≡ refused k
  bad_by at k (given m) q e = not_refused (sym e)
  bad_by at k (refused j) q e = cc

  pub bad_of : (at k : ℕ) → refused k ≡ extent (message_at form s at) → message_at form s at ≡ refused k
  bad_of at k e = bad_by at k (message_at form s at) refl e

  -- Before a message: the whole answer is the messages so far put before those from here.
  pub record StreamWalk (from count bytes at : ℕ) : Type 0 where
    pub few : count ≤ at
    pub short : bytes ≤ at
    pub whole : tally (messages_from form s from) ≡ plus_tally count bytes (tally (messages_from form s at))

  pub stream_start : (from : ℕ) → StreamWalk from 0 0 from
  stream_start from = record { few = omega arith; short = omega arith; whole = tally_none (tally (messages_from form s from)) }

  module _ (from count bytes at : ℕ) (w : StreamWalk from count bytes at) where
    pub stream_ends : length s ≤ at → given (record { count = count; bytes = bytes }) ≡ tally (messages_from form s from)
    stream_ends h =
        sym (w.whole ∙ (ap (λ (a : Answer (List Frozen)). plus_tally count bytes (tally a)) (from_end form s at h)
        ∙ (ap (λ (n : ℕ). given (record { count = n; bytes = bytes + 0 })) (add-zero count) ∙ ap (λ (n : ℕ). given (record { count = count; bytes = n })) (add-zero bytes))))

    pub stream_refused : (k : ℕ) → at < length s → refused k ≡ extent (message_at form s at) → refused k ≡ tally (messages_from form s from)
    stream_refused k h e =
        sym (w.whole ∙ ap (λ (a : Answer (List Frozen)). plus_tally count bytes (tally a)) (from_bad form s at k h (bad_of at k e)))

    pub stream_turn : (len next : ℕ) → at < length s → given (record { len = len; next = next }) ≡ extent (message_at form s at) → StreamWalk from (count + 1) (bytes + len) next
    stream_turn len next h e =
        let o : Whole at len next = whole_of at len next e in
        let m : Found = o.found in
        let room : at + len < next = omega (arith, o.stands.room, o.length_is, o.next_is) in
        record {
          few = omega (arith, w.few);
          short = omega (arith, w.short);
          whole = w.whole ∙ (ap (λ (a : Answer (List Frozen)). plus_tally count bytes (tally a)) (from_more form s at m h o.is)
              ∙ (tally_more count bytes m.message (messages_from form s m.next)
              ∙ (ap (λ (k : ℕ). plus_tally (count + 1) (bytes + k) (tally (messages_from form s m.next))) o.length_is
              ∙ ap (λ (k : ℕ). plus_tally (count + 1) (bytes + len) (tally (messages_from form s k))) o.next_is)));
        }
