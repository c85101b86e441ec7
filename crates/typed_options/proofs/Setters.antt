-- How a setter's answer and store follow from the edit of the records and from the room for the bytes.
use Prim.Native.Nat.{ℕ, ◌+◌, ◌<◌, ◌≤◌}
use mathlib.Core.Path.{◌≡◌, refl, ap, ◌∙◌}
use mathlib.Core.List.{List}
use lib.ListN.{length}
use borrow.Author.Tests.{lt-ltb, le-ltb}
use Rattle.std.specs.Prelude.{Result}
use Rattle.refusal.specs.Answer.{Answer, given, refused, after, beside, answered}
use Rattle.refusal.specs.declared.Refusal.{Refusal}
use Rattle.refusal.proofs.Answers.{answered_beside}
use Rattle.packet.specs.Limits.{max_store}
use Rattle.packet.specs.declared.Packet.{Packet}
use Rattle.splicing.specs.Edited.{edited, Edits}
use Rattle.typed_options.specs.Setters.{storing, Sets}

-- An answer and a store that are those of a known answer of the setter.
pub sets_known : (p : Packet) (whole a : Answer Packet) (start : ℕ) (bytes old : List ℕ) (r : Result Packet Refusal) (new : List ℕ) → a ≡ whole → Edits p a r → new ≡ after a start bytes old → Sets p whole start bytes old r new
sets_known p whole a start bytes old r new e h n =
    record { answer = h ∙ ap (beside p) e; store = n ∙ ap (λ (x : Answer Packet). after x start bytes old) e }

module _ (old : List ℕ) (start : ℕ) (bytes : List ℕ) where
  -- A store that is too long; an edit that is refused; no room after one that is done; and room.
  pub too_long : (a : Answer Packet) → max_store < length old → refused 10 ≡ storing old start bytes a
  too_long a h = rw (lt-ltb max_store (length old) h) refl

  module _ (few : length old ≤ max_store) where
    pub edit_refused : (k : ℕ) (a : Answer Packet) → a ≡ refused k → refused k ≡ storing old start bytes a
    edit_refused k a e = rw (le-ltb max_store (length old) few, e) refl

    module _ (q : Packet) (a : Answer Packet) (e : a ≡ given q) where
      pub no_room : length old < start + length bytes → refused 12 ≡ storing old start bytes a
      no_room h = rw (le-ltb max_store (length old) few, e, lt-ltb (length old) (start + length bytes) h) refl

      pub room : start + length bytes ≤ length old → given q ≡ storing old start bytes a
      room h = rw (le-ltb max_store (length old) few, e, le-ltb (length old) (start + length bytes) h) refl

-- What a setter promises, from what was promised of the edit that it was handed and of as many bytes.
pub sets_edit : (p : Packet) (a : Answer Packet) (start : ℕ) (bytes wide old : List ℕ) (e r : Result Packet Refusal) (new : List ℕ) → Edits p a e → wide ≡ bytes
    → Sets p (storing old start wide (answered (edited p e))) start wide old r new → Sets p (storing old start bytes a) start bytes old r new
sets_edit p a start bytes wide old e r new h b s =
    let known : answered (edited p e) ≡ a = ap answered h ∙ answered_beside p a in
    rw (b, known) at s
