-- What thawing shows when it returns.
use Prim.Native.Nat.{ℕ, ◌*◌, ◌<◌, ◌≤◌}
use mathlib.Core.Path.{◌≡◌, refl, sym, ap, ◌∙◌}
use mathlib.Core.List.{List}
use native.Mathlib.Omega.{arith}
use lib.ListN.{length}
use lib.Seq.{sets}
use borrow.Author.Tests.{lt-ltb, le-ltb}
use Rattle.refusal.specs.Answer.{Answer, given, refused, onward, written, after}
use Rattle.refusal.specs.declared.Refusal.TheVariants.{NoRoom}
use Rattle.std.specs.Prelude.{Result, Ok, Err}
use Rattle.refusal.specs.declared.Refusal.{Refusal}
use Rattle.refusal.proofs.Answers.{not_refused, same_given, same_refused, onward_given}
use Rattle.stream.specs.declared.Form.{Form}
use Rattle.stream.specs.Stream.{Frozen, datagrams_of}
use Rattle.stream.specs.Messages.{thawed}
use Rattle.thawing.specs.Thawing.{all_strict, strict, thawed_strictly, chunks_in, Counts, counts_of, strict_from, entries, listed, thawing, messages_in, Thaws, Listing}

-- A list whose datagrams are strict is that list.
same_by : (v l : List Frozen) (a : Answer (Unit {0})) → onward a (λ _. given v) ≡ given l → v ≡ l
same_by v l (given _) e = same_given e
same_by v l (refused k) e = not_refused (sym e)

pub strict_same : (v l : List Frozen) → strict v ≡ given l → v ≡ l
unfolding strict
strict_same v l e = same_by v l (all_strict v) e

pub thawed_of : (form : Form) (s : List ℕ) (l : List Frozen) → thawed_strictly form s ≡ given l → thawed form s ≡ given l
thawed_of form s l e = let o = onward_given (thawed form s) strict l e in o.1 ∙ ap given (strict_same o.0 l o.2)

-- Messages that were counted.
pub record Counted (form other : Form) (s : List ℕ) (count bytes chunks : ℕ) : Type 0 where
  pub messages : List Frozen
  pub are : thawed_strictly form s ≡ given messages
  pub count_is : length messages ≡ count
  pub bytes_is : length (datagrams_of messages) ≡ bytes
  pub chunks_is : chunks_in other messages ≡ chunks

same_counts : (a b : Counts) → ◌≡◌ {A = Answer Counts} (given a) (given b) → a ≡ b
same_counts a b e = cc

counted_by : (form other : Form) (s : List ℕ) (count bytes chunks : ℕ) (a : Answer (List Frozen)) → thawed_strictly form s ≡ a → given (record { count = count; bytes = bytes; chunks = chunks }) ≡ counts_of other a → Counted form other s count bytes chunks
counted_by form other s count bytes chunks (given l) q e =
    let k : ◌≡◌ {A = Counts} (record { count = count; bytes = bytes; chunks = chunks }) (record { count = length l; bytes = length (datagrams_of l); chunks = chunks_in other l }) = same_counts _ _ e in
    record { messages = l; are = q; count_is = sym (ap (λ (x : Counts). x.count) k); bytes_is = sym (ap (λ (x : Counts). x.bytes) k); chunks_is = sym (ap (λ (x : Counts). x.chunks) k) }
counted_by form other s count bytes chunks (refused k) q e = not_refused e

pub counted : (form other : Form) (s : List ℕ) (count bytes chunks : ℕ) → given (record { count = count; bytes = bytes; chunks = chunks }) ≡ strict_from form other s 0 → Counted form other s count bytes chunks
counted form other s count bytes chunks e = counted_by form other s count bytes chunks (thawed_strictly form s) refl e

uncounted_by : (other : Form) (k : ℕ) (a : Answer (List Frozen)) → refused k ≡ counts_of other a → a ≡ refused k
uncounted_by other k (given l) e = not_refused (sym e)
uncounted_by other k (refused j) e = ap refused (same_refused (sym e))

pub uncounted : (form other : Form) (s : List ℕ) (k : ℕ) → refused k ≡ strict_from form other s 0 → thawed_strictly form s ≡ refused k
uncounted form other s k e = uncounted_by other k (thawed_strictly form s) e

-- Places and room for what was counted.
pub listing : (form : Form) (s : List ℕ) (count bytes chunks places room : ℕ) → Counted form form s count bytes chunks → 3 * count ≤ places → bytes ≤ room → Listing form s places room
listing form s count bytes chunks places room c p h =
    record { messages = c.messages; are = thawed_of form s c.messages c.are; places_for = omega (arith, c.count_is); room_for = omega (arith, c.bytes_is) }

module _ (form : Form) (s oldList oldOut : List ℕ) where
  thawing_on : (l : List Frozen) → thawed_strictly form s ≡ given l → thawing form (length oldList) (length oldOut) s ≡ listed (length oldList) (length oldOut) l
  unfolding thawing
  thawing_on l e = rw e refl

  told : (x : Answer ℕ) (r : Result ℕ Refusal) (newList newOut : List ℕ) → thawing form (length oldList) (length oldOut) s ≡ x → written r ≡ x
      → newList ≡ after x 0 (entries form 0 0 (messages_in (thawed form s))) oldList → newOut ≡ after x 0 (datagrams_of (messages_in (thawed form s))) oldOut
      → Thaws form s oldList oldOut r newList newOut
  told x r newList newOut t a b c = record { answer = rw t a; list = rw t b; output = rw t c }

  pub thaw_refused : (r : Result ℕ Refusal) (k : ℕ) → thawed_strictly form s ≡ refused k → written r ≡ refused k → Thaws form s oldList oldOut r oldList oldOut
  unfolding thawing
  thaw_refused r k e h = told (refused k) r oldList oldOut (rw e refl) h refl refl

  module _ (count bytes chunks : ℕ) (c : Counted form form s count bytes chunks) where
    pub thaw_no_places : length oldList < 3 * count → Thaws form s oldList oldOut (Err NoRoom) oldList oldOut
    unfolding listed
    thaw_no_places h =
        told (refused 12) (Err NoRoom) oldList oldOut
        (thawing_on c.messages c.are ∙ rw (lt-ltb (length oldList) (3 * length c.messages) (omega (arith, c.count_is))) refl) refl refl refl

    pub thaw_no_room : 3 * count ≤ length oldList → length oldOut < bytes → Thaws form s oldList oldOut (Err NoRoom) oldList oldOut
    unfolding listed
    thaw_no_room p h =
        told (refused 12) (Err NoRoom) oldList oldOut
        (thawing_on c.messages c.are ∙ rw (le-ltb (length oldList) (3 * length c.messages) (omega (arith, c.count_is)), lt-ltb (length oldOut) (length (datagrams_of c.messages)) (omega (arith, c.bytes_is))) refl) refl refl refl

    pub thaw_done : (newList newOut : List ℕ) → 3 * count ≤ length oldList → bytes ≤ length oldOut → newList ≡ sets oldList 0 (entries form 0 0 (messages_in (thawed form s))) → newOut ≡ sets oldOut 0 (datagrams_of (messages_in (thawed form s)))
        → Thaws form s oldList oldOut (Ok count) newList newOut
    unfolding listed
    thaw_done newList newOut p h a b =
        told (given count) (Ok count) newList newOut
        (thawing_on c.messages c.are ∙ rw (le-ltb (length oldList) (3 * length c.messages) (omega (arith, c.count_is)), le-ltb (length oldOut) (length (datagrams_of c.messages)) (omega (arith, c.bytes_is))) (ap given c.count_is)) refl a b
