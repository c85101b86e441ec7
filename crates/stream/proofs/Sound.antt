-- What is read is laid out there: a chunk, the chunks of a message, a message, a stream.
use Prim.Native.Nat.{ℕ, zero, suc, ◌+◌, ◌-◌, ◌<◌, ◌≤◌}
use mathlib.Core.Path.{◌≡◌, refl, sym, ap, ◌∙◌}
use mathlib.Core.Bool.{Bool, true}
use mathlib.Core.List.{List, [], ◌∷◌, ◌++◌, append_assoc, append-nil}
use native.Mathlib.Numerals.{add-one}
use native.Mathlib.Omega.{arith}
use lib.Dec.{eqb}
use lib.ListN.{length, get_or, take, drop, replicate, length-append, length-drop, take-append-drop, drop_of_length-le}
use lib.Seq.{drop-cons, drop-drop, length-take-le, take_all, take_at, drop_at}
use borrow.Author.Tests.{ne_eqb, eqb-true}
use Rattle.ground.specs.Choice.{pick}
use Rattle.ground.specs.Part.{part}
use Rattle.ground.proofs.Choice.{on, on_lt, on_eq}
use Rattle.refusal.specs.Answer.{Answer, given}
use Rattle.refusal.proofs.Answers.{Given, given_onward, on_given}
use Rattle.packet.specs.Limits.{full_size}
use Rattle.stream.specs.declared.Form.{Form}
use Rattle.stream.specs.declared.Form.TheVariants.{Old, New}
use Rattle.stream.specs.Stream.{Frozen, Sized, AllSized, full, head, head_size, padding, chunk_of, chunk_count, chunks_of, message_of, stream_of}
use Rattle.stream.specs.Messages.{count_at, end_of_chunk, zeros, chunk_at, Body, body_at, Found, sized_body, message_at, messages_at, thawed}

-- The byte at a position and what follows.
pub byte_first : (s : List ℕ) (at : ℕ) → at < length s → drop at s ≡ get_or s at 0 ∷ drop (at + 1) s
byte_first s at h = rw (add-one, drop-cons s at 0 h)

-- The part at a position and what follows.
pub part_first : (s : List ℕ) (at n : ℕ) → drop at s ≡ part s at n ++ drop (at + n) s
part_first s at n = sym (take-append-drop n (drop at s)) ∙ ap (λ (l : List ℕ). take n (drop at s) ++ l) (drop-drop n at s)

pub part_length : (s : List ℕ) (at n : ℕ) → at + n ≤ length s → length (part s at n) ≡ n
part_length s at n h = length-take-le n (drop at s) (rw length-drop (omega arith))

-- Bytes that are each zero.
pub all_zero : (l : List ℕ) → zeros l ≡ true → l ≡ replicate (length l) 0
all_zero [] = λ e. refl
all_zero (b ∷ bs) =
    on (λ (t : Bool). t ≡ true → b ∷ bs ≡ replicate (length (b ∷ bs)) 0) (eqb b 0)
    (λ z e. let k : b ≡ 0 = eqb-true b 0 z in ap (λ (x : ℕ). x ∷ bs) k ∙ ap (λ (l : List ℕ). 0 ∷ l) (all_zero bs e))
    (λ z e. absurd (let q : ◌≡◌ {A = ℕ} 0 1 = cc in omega arith))

-- The head of a chunk stands where its count is read.
head_first : (form : Form) (s : List ℕ) (at : ℕ) → 1 ≤ count_at form s at → count_at form s at ≤ full form → at + head_size form ≤ length s → drop at s ≡ head form (count_at form s at) ++ drop (at + head_size form) s
unfolding count_at
head_first Old s at =
    on_eq (λ (n : ℕ). 1 ≤ n → n ≤ 30 → at + 2 ≤ length s → drop at s ≡ 2 ∷ n ∷ drop (at + 2) s) (get_or s at 0) 2
    (λ e a b h. let two : at + 1 + 1 ≡ at + 2 = omega arith in byte_first s at (omega arith) ∙ (rw (e, byte_first s (at + 1) (omega arith), two) refl))
    (λ e a b h. absurd (omega arith))
head_first New s at =
    on_eq (λ (n : ℕ). 1 ≤ n → n ≤ 64 → at + 1 ≤ length s → drop at s ≡ pick (eqb n 64) 4 (128 + n) ∷ drop (at + 1) s) (get_or s at 0) 4
    (λ e a b h. byte_first s at (omega arith) ∙ (rw e refl))
    (λ e.
    on_lt (λ (n : ℕ). 1 ≤ n → n ≤ 64 → at + 1 ≤ length s → drop at s ≡ pick (eqb n 64) 4 (128 + n) ∷ drop (at + 1) s) (get_or s at 0) 192
    (λ l a b h.
    let k : 128 + (get_or s at 0 - 128) ≡ get_or s at 0 = omega arith in
    byte_first s at (omega arith) ∙ (rw (ne_eqb (get_or s at 0 - 128) 64 (λ q. omega arith), k) refl))
    (λ l a b h. absurd (omega arith)))

-- A chunk at a position.
pub record Chunk (form : Form) (s : List ℕ) (at n : ℕ) : Type 0 where
  pub some : 1 ≤ n
  pub small : n ≤ full form
  pub inside : end_of_chunk form at n ≤ length s
  pub bytes : drop at s ≡ chunk_of form (part s (at + head_size form) n) ++ drop (end_of_chunk form at n) s

split_three : (a b c d : List ℕ) → a ++ (b ++ (c ++ d)) ≡ (a ++ (b ++ c)) ++ d
split_three a b c d = simp append_assoc

chunk_stands : (form : Form) (s : List ℕ) (at : ℕ) (n : ℕ) → n ≡ count_at form s at → 1 ≤ n → n ≤ full form → end_of_chunk form at n ≤ length s
    → zeros (part s (at + head_size form + n) (padding form n)) ≡ true → Chunk form s at n
unfolding chunk_of
chunk_stands form s at n e some small inside z =
    let from : ℕ = at + head_size form in
    let h : drop at s ≡ head form n ++ drop from s = rw e (head_first form s at (omega arith) (omega arith) (omega arith)) in
    let c : List ℕ = part s from n in
    let k : length c ≡ n = part_length s from n (omega arith) in
    let p : part s (from + n) (padding form n) ≡ replicate (padding form n) 0 =
    all_zero (part s (from + n) (padding form n)) z ∙ ap (λ (m : ℕ). replicate m 0) (part_length s (from + n) (padding form n) inside) in
    let q : drop from s ≡ c ++ (replicate (padding form n) 0 ++ drop (from + n + padding form n) s) =
    part_first s from n ∙ ap (λ (l : List ℕ). c ++ l) (part_first s (from + n) (padding form n) ∙ ap (λ (l : List ℕ). l ++ drop (from + n + padding form n) s) p) in
    record {
      some = some;
      small = small;
      inside = inside;
      bytes = rw k (h ∙ (ap (λ (l : List ℕ). head form n ++ l) q ∙ split_three (head form n) c (replicate (padding form n) 0) (drop (from + n + padding form n) s)));
    }

pub chunk_sound : (form : Form) (s : List ℕ) (at : ℕ) → Given (Chunk form s at) (chunk_at form s at)
unfolding chunk_at
chunk_sound form s at =
    let n : ℕ = count_at form s at in
    let G : Answer ℕ → Type 0 = Given (Chunk form s at) in
    on_lt G n 1 (λ a. tt)
    (λ a. on_lt G (full form) n (λ b. tt)
    (λ b. on_lt G (length s) (end_of_chunk form at n) (λ i. tt)
    (λ i. on G (zeros (part s (at + head_size form + n) (padding form n)))
    (λ z. chunk_stands form s at n refl a b i z) (λ z. tt))))

-- A full chunk is one chunk more, and any other that isn't empty is one.
pub count_more : (form : Form) (n : ℕ) → chunk_count form (full form + n) ≡ suc (chunk_count form n)
count_more Old n = omega arith
count_more New n = omega arith

pub count_none : (form : Form) → chunk_count form 0 ≡ 0
count_none Old = refl
count_none New = refl

pub count_one : (form : Form) (n : ℕ) → 1 ≤ n → n ≤ full form → chunk_count form n ≡ 1
count_one Old n a b = omega arith
count_one New n a b = omega arith

pub full_some : (form : Form) → 1 ≤ full form
full_some Old = omega arith
full_some New = omega arith

-- The chunks of a message stand at a position; after a chunk that isn't full there are none.
pub record Stands (form : Form) (s : List ℕ) (before at : ℕ) (b : Body) : Type 0 where
  pub bytes : drop at s ≡ chunks_of form (chunk_count form (length b.bytes)) b.bytes ++ (3 ∷ drop b.next s)
  pub last : before < full form → b.bytes ≡ []
  pub room : at + length b.bytes < b.next
  pub inside : b.next ≤ length s

-- The chunks of a datagram: the first, and those of what is left.
pub chunks_more : (form : Form) (c d : List ℕ) → 1 ≤ length c → length c ≤ full form → (length c < full form → d ≡ [])
    → chunks_of form (chunk_count form (length (c ++ d))) (c ++ d) ≡ chunk_of form c ++ chunks_of form (chunk_count form (length d)) d
unfolding chunks_of
chunks_more form c d some small last =
    on_lt (λ (_ : Unit {0}). chunks_of form (chunk_count form (length (c ++ d))) (c ++ d) ≡ chunk_of form c ++ chunks_of form (chunk_count form (length d)) d) (length c) (full form) {x = tt} {y = tt}
    (λ l.
    rw (last l, append-nil c, count_one form (length c) some small, count_none form, take_all (full form) c small)
    refl)
    (λ l.
    let e : length c ≡ full form = omega arith in
    let n : chunk_count form (length (c ++ d)) ≡ suc (chunk_count form (length d)) =
    ap (chunk_count form) (length-append c d ∙ ap (λ (k : ℕ). k + length d) e) ∙ count_more form (length d) in
    rw (n, take_at c d (full form) e, drop_at c d (full form) e) refl)

body_ends : (form : Form) (s : List ℕ) (before at : ℕ) → at < length s → get_or s at 0 ≡ 3 → Stands form s before at (record { bytes = []; next = at + 1 })
unfolding chunks_of
body_ends form s before at h e =
    record { bytes = rw count_none (byte_first s at h ∙ (rw e refl)); last = λ _. refl; room = omega arith; inside = omega arith }

body_goes_on : (form : Form) (s : List ℕ) (before at n : ℕ) → full form ≤ before → Chunk form s at n → (b : Body) → Stands form s n (end_of_chunk form at n) b
    → Stands form s before at (record { bytes = part s (at + head_size form) n ++ b.bytes; next = b.next })
body_goes_on form s before at n h c b f =
    let x : List ℕ = part s (at + head_size form) n in
    let k : length x ≡ n = part_length s (at + head_size form) n (omega (arith, c.inside)) in
    record {
      bytes = c.bytes ∙ (rw (f.bytes, chunks_more form x b.bytes (omega (arith, c.some)) (omega (arith, c.small)) (λ l. f.last (omega arith)))
          (sym (append_assoc (chunk_of form x) (chunks_of form (chunk_count form (length b.bytes)) b.bytes) (3 ∷ drop b.next s))));
      last = λ l. absurd (omega arith);
      room = omega (arith, f.room, length-append x b.bytes);
      inside = f.inside;
    }

-- A byte that isn't zero is inside the stream.
pub inside_of : (s : List ℕ) (at k : ℕ) → get_or s at 0 ≡ suc k → at < length s
inside_of [] at k e = absurd (omega arith)
inside_of (b ∷ s) zero k e = omega arith
inside_of (b ∷ s) (suc at) k e = omega (arith, inside_of s at k e)

pub body_sound : (form : Form) (s : List ℕ) (fuel before at : ℕ) → Given (Stands form s before at) (body_at form s fuel before at)
unfolding body_at
body_sound form s zero before at = tt
body_sound form s (suc fuel) before at =
    let G : Answer Body → Type 0 = Given (Stands form s before at) in
    on_eq G (get_or s at 0) 3 (λ e. body_ends form s before at (inside_of s at 2 e) e)
    (λ e. on_lt G before (full form) (λ l. tt)
    (λ l. given_onward (Chunk form s at) (Stands form s before at) (chunk_at form s at) _ (chunk_sound form s at)
    (λ n c. given_onward (Stands form s n (end_of_chunk form at n)) (Stands form s before at) (body_at form s fuel n (end_of_chunk form at n)) _ (body_sound form s fuel n (end_of_chunk form at n))
    (body_goes_on form s before at n l c))))

-- A message stands at a position.
pub record Message (form : Form) (s : List ℕ) (at : ℕ) (m : Found) : Type 0 where
  pub bytes : drop at s ≡ message_of form m.message ++ drop m.next s
  pub sized : Sized m.message
  pub room : at + length m.message.datagram < m.next
  pub inside : m.next ≤ length s

regroup : (p c r : List ℕ) → p ++ (c ++ (3 ∷ r)) ≡ (p ++ (c ++ (3 ∷ []))) ++ r
regroup p c r = simp append_assoc

message_sized : (form : Form) (s : List ℕ) (at : ℕ) → at + 19 ≤ length s → get_or s at 0 ≡ 1 → (b : Body) → Stands form s (full form) (at + 19) b
    → Given (Message form s at) (sized_body (part s (at + 1) 18) b)
unfolding sized_body message_of
message_sized form s at h e b f =
    let G : Answer Found → Type 0 = Given (Message form s at) in
    let p : List ℕ = part s (at + 1) 18 in
    let chunks : List ℕ = chunks_of form (chunk_count form (length b.bytes)) b.bytes in
    let e19 : at + 1 + 18 ≡ at + 19 = omega arith in
    let q : drop (at + 1) s ≡ p ++ (chunks ++ (3 ∷ drop b.next s)) =
    part_first s (at + 1) 18 ∙ ap (λ (l : List ℕ). p ++ l) (ap (λ (k : ℕ). drop k s) e19 ∙ f.bytes) in
    on_lt G (length b.bytes) 4 (λ l. tt)
    (λ l. on_lt G full_size (length b.bytes) (λ u. tt)
    (λ u. record {
      bytes = byte_first s at (omega arith) ∙ (ap (λ (x : ℕ). x ∷ drop (at + 1) s) e
          ∙ ap (λ (l : List ℕ). 1 ∷ l) (q ∙ regroup p chunks (drop b.next s)));
      sized = record { peer = part_length s (at + 1) 18 (omega arith); least = l; most = u };
      room = omega (arith, f.room);
      inside = f.inside;
    }))

pub message_sound : (form : Form) (s : List ℕ) (at : ℕ) → Given (Message form s at) (message_at form s at)
unfolding message_at
message_sound form s at =
    let G : Answer Found → Type 0 = Given (Message form s at) in
    on_eq G (get_or s at 0) 1
    (λ e. on_lt G (length s) (at + 19) (λ l. tt)
    (λ l. given_onward (Stands form s (full form) (at + 19)) (Message form s at) (body_at form s (length s) (full form) (at + 19)) _ (body_sound form s (length s) (full form) (at + 19))
    (message_sized form s at l e)))
    (λ e. tt)

-- The messages from a position are laid out there, to the end.
pub record Follow (form : Form) (s : List ℕ) (at : ℕ) (l : List Frozen) : Type 0 where
  pub bytes : drop at s ≡ stream_of form l
  pub sized : AllSized l

none_follow : (form : Form) (s : List ℕ) (at : ℕ) → length s ≤ at → Follow form s at []
none_follow form s at h = record { bytes = drop_of_length-le s h; sized = tt }

one_follows : (form : Form) (s : List ℕ) (at : ℕ) (m : Found) → Message form s at m → (l : List Frozen) → Follow form s m.next l → Follow form s at (m.message ∷ l)
one_follows form s at m h l f = record { bytes = h.bytes ∙ ap (λ (r : List ℕ). message_of form m.message ++ r) f.bytes; sized = (h.sized, f.sized) }

pub messages_sound : (form : Form) (s : List ℕ) (fuel at : ℕ) → Given (Follow form s at) (messages_at form s fuel at)
unfolding messages_at
messages_sound form s zero at = on_lt (Given (Follow form s at)) at (length s) (λ h. tt) (none_follow form s at)
messages_sound form s (suc fuel) at =
    on_lt (Given (Follow form s at)) at (length s)
    (λ h. given_onward (Message form s at) (Follow form s at) (message_at form s at) _ (message_sound form s at)
    (λ m f. given_onward (Follow form s m.next) (Follow form s at) (messages_at form s fuel m.next) _ (messages_sound form s fuel m.next) (one_follows form s at m f)))
    (none_follow form s at)

-- A stream that is read is the stream of what is read.
pub thawed_sound : (form : Form) (s : List ℕ) (l : List Frozen) → thawed form s ≡ given l → (s ≡ stream_of form l) × AllSized l
thawed_sound form s l e =
    let f : Follow form s 0 l = on_given (Follow form s 0) (thawed form s) l (messages_sound form s (length s) 0) e in
    (f.bytes, f.sized)
