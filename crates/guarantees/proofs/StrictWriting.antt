-- Strict writing meets its demand, from what its promise says.
use Prim.Native.Nat.{ℕ}
use mathlib.Core.Path.{sym, ap, ◌∙◌, subst}
use mathlib.Core.Bool.{true}
use mathlib.Core.List.{List}
use lib.ListN.{length}
use Rattle.std.specs.Prelude.{Result, Ok}
use Rattle.rfc.specs.Message.{Message, WellFormed, layout}
use Rattle.refusal.specs.Answer.{written}
use Rattle.refusal.proofs.Distinct.{one_written}
use Rattle.refusal.specs.declared.Refusal.{Refusal}
use Rattle.packet.specs.Packet.{Stores}
use Rattle.packet.specs.Shape.{Shaped}
use Rattle.packet.specs.Meaning.{meaning}
use Rattle.packet.specs.declared.Packet.{Packet}
use Rattle.measuring.specs.declared.Limit.{Limit}
use Rattle.writing.specs.Writing.{ToBytes, Held}
use Rattle.writing.proofs.Strict.{Writable, strict_writes, strict_output, strict_written}
use Rattle.guarantees.specs.Wrote.{Wrote}
use Rattle.guarantees.specs.StrictWriting.{Sound, Enough, StrictWriting, WritesStrictly}

module _ (limit : Limit) (p : Packet) (shaped : Shaped p) (s : Stores) (b : Held s) (old : List ℕ) (r : Result ℕ Refusal) (new : List ℕ) (promise : ToBytes true limit p s old r new) where
  -- What is writable is written, as the layout of its meaning.
  written_so : Writable limit (length old) s p → Wrote (layout (meaning s p)) old r new
  written_so w =
      let is = strict_writes limit (length old) s p shaped w in
      record {
        answer = one_written r (Ok (length (layout (meaning s p)))) (promise.answer ∙ is);
        output = promise.output ∙ strict_output limit (length old) s p shaped w old w.fits;
      }

  writable : WellFormed (meaning s p) → Sound s p → Enough limit (length old) (layout (meaning s p)) → Writable limit (length old) s p
  writable w k e = record { store = k.short; records = k.records; wellformed = w; within = e.within; fits = e.fits }

  strictly : StrictWriting limit p s old r new
  strictly =
      record {
        writes = λ m w means k e.
            subst (λ (n : Message). Wrote (layout n) old r new) means
            (written_so (writable (rw means w) k (rw means e)));
        exactly = (
          λ l.
              let w = (strict_written limit (length old) s p shaped b l.0 (sym promise.answer ∙ ap written l.1)).0 in
              (w.wellformed, record { short = w.store; records = w.records }, record { within = w.within; fits = w.fits }),
          λ h. (length (layout (meaning s p)), (written_so (writable h.0 h.1 h.2)).answer),
        );
      }

pub strict_writing_lem : WritesStrictly
strict_writing_lem = strictly
