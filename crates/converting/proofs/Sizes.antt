-- How many bytes a stream has, by its counts.
use Prim.Native.Nat.{ℕ, ◌-◌, ◌*◌, ◌/◌, ◌<◌, ◌≤◌}
use mathlib.Core.Bool.{false}
use mathlib.Core.Path.{◌≡◌, refl, sym, ◌∙◌}
use mathlib.Core.List.{List, [], ◌∷◌}
use native.Mathlib.Omega.{arith}
use lib.ListN.{length, length-append}
use lib.Dec.{leb}
use borrow.Author.Tests.{le-leb, lt-leb}
use Rattle.ground.proofs.Choice.{by_lt}
use Rattle.stream.specs.declared.Form.{Form}
use Rattle.stream.specs.declared.Form.TheVariants.{Old, New}
use Rattle.stream.specs.Stream.{Frozen, AllSized, message_of, stream_of, datagrams_of}
use Rattle.stream.proofs.Sizes.{message_size_lem}
use Rattle.thawing.specs.Thawing.{chunks_in}
use Rattle.converting.specs.Converting.{size_in}

-- Each message takes 20 bytes beside its chunks.
pub size_least : (form : Form) (count bytes chunks : ℕ) → 20 * count ≤ size_in form count bytes chunks
size_least Old count bytes chunks = omega arith
size_least New count bytes chunks = omega arith

-- Two tests that hold alike.
pub same_leb : (a b c d : ℕ) → (a ≤ b → c ≤ d) → (c ≤ d → a ≤ b) → leb a b ≡ leb c d
same_leb a b c d f g =
    by_lt b a
    (λ h. lt-leb a b h ∙ sym (by_lt d c (λ k. lt-leb c d k) (λ k. absurd (omega (arith, g k)))))
    (λ h. le-leb a b h ∙ sym (le-leb c d (f h)))

-- Whether there is room, by what is left of it after 20 bytes a message.
module _ (count bytes chunks room : ℕ) where
  pub none_left : (form : Form) → room / 20 < count → false ≡ leb (size_in form count bytes chunks) room
  none_left form h = sym (lt-leb (size_in form count bytes chunks) room (omega (arith, size_least form count bytes chunks)))

  pub old_left : count ≤ room / 20 → leb chunks ((room - 20 * count) / 32) ≡ leb (size_in Old count bytes chunks) room
  old_left h = same_leb chunks ((room - 20 * count) / 32) (size_in Old count bytes chunks) room (λ a. omega arith) (λ a. omega arith)

  pub new_none : count ≤ room / 20 → room - 20 * count < bytes → false ≡ leb (size_in New count bytes chunks) room
  new_none h k = sym (lt-leb (size_in New count bytes chunks) room (omega arith))

  pub new_left : count ≤ room / 20 → bytes ≤ room - 20 * count → leb chunks (room - 20 * count - bytes) ≡ leb (size_in New count bytes chunks) room
  new_left h k = same_leb chunks (room - 20 * count - bytes) (size_in New count bytes chunks) room (λ a. omega arith) (λ a. omega arith)

pub stream_size : (form : Form) (l : List Frozen) → AllSized l → length (stream_of form l) ≡ size_in form (length l) (length (datagrams_of l)) (chunks_in form l)
stream_size Old [] z = refl
stream_size Old (m ∷ l) z = length-append (message_of Old m) (stream_of Old l) ∙ omega (arith, message_size_lem Old m z.0.peer, stream_size Old l z.1)
stream_size New [] z = refl
stream_size New (m ∷ l) z =
    length-append (message_of New m) (stream_of New l)
    ∙ omega (arith, message_size_lem New m z.0.peer, stream_size New l z.1, length-append m.datagram (datagrams_of l))
