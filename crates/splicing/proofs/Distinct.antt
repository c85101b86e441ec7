-- An answer in the words of the promises is that of one value only, so no second answer meets a promise.
use mathlib.Core.Path.{◌≡◌, sym, ap}
use Rattle.std.specs.Prelude.{Result, Ok, Err}
use Rattle.refusal.specs.Answer.{Beside}
use Rattle.refusal.specs.Number.{number_of}
use Rattle.refusal.specs.declared.Refusal.{Refusal}
use Rattle.refusal.proofs.Answers.{not_refused, same_refused}
use Rattle.refusal.proofs.Distinct.{distinct}
use Rattle.packet.specs.declared.Packet.{Packet}
use Rattle.splicing.specs.Edited.{edited}

pub one_edited : (p : Packet) (a b : Result Packet Refusal) → edited p a ≡ edited p b → a ≡ b
one_edited p (Ok q) (Ok r) e = let k : q ≡ r = ap (λ (x : Beside Packet). x.value) e in rw k
one_edited p (Ok q) (Err y) e = not_refused (ap (λ (x : Beside Packet). x.answer) e)
one_edited p (Err x) (Ok r) e = not_refused (sym (ap (λ (x : Beside Packet). x.answer) e))
one_edited p (Err x) (Err y) e =
    let k : number_of x ≡ number_of y = same_refused (ap (λ (x : Beside Packet). x.answer) e) in
    rw (distinct x y k)
