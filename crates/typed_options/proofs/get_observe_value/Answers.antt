-- `get_observe_value` answers by whether its number is there, and by what the first value reads as.
use Prim.Native.Nat.{ℕ}
use mathlib.Core.Path.{◌≡◌, ap, ◌∙◌}
use mathlib.Core.Bool.{Bool, true}
use mathlib.Core.List.{List}
use lib.ListN.{length, get_or}
use lib.Dec.{ltb}
use Rattle.std.proofs.lemmas.Result.{err_from_is_err_and}
use Rattle.refusal.specs.Answer.{Answer, given, onward}
use Rattle.option_value.specs.Uint.{Padded, read_uint}
use Rattle.packet.specs.Packet.{Stores, none, held, value_of, records_of, of_number}
use Rattle.packet.specs.declared.Packet.{Packet}
use Rattle.typed_options.specs.Getters.{Found, number, absent, observe_in}
use Rattle.typed_options.proofs.Getters.{on_absent, on_present}
use Rattle.typed_options.proofs.get_observe_value.Goals as goal

abbrev found : Answer (Padded ℕ) → Answer Found
found a = onward a (λ n. given (number n))

-- What the first value reads as, where there is one.
answer : (s : Stores) (p : Packet) (there : Bool) (value : List ℕ) (a : Answer (Padded ℕ))
    → there ≡ ltb 0 (length (of_number 6 (records_of p))) → there ≡ true → value ≡ value_of s (get_or (of_number 6 (records_of p)) 0 none) → a ≡ read_uint 4 value
    → found a ≡ observe_in s p
unfolding observe_in
answer s p there value a e h v r =
    ap found (r ∙ ap (read_uint 4) v)
    ∙ on_present (given absent) (λ q. found (read_uint 4 (value_of s q))) there (of_number 6 (records_of p)) e h

pub returns-then-not-has_option : goal.returns-then-not-has_option
unfolding observe_in
returns-then-not-has_option c =
    let a = c.args in
    on_absent (given absent) (λ r. found (read_uint 4 (value_of (held a.stores) r))) _ (of_number 6 (records_of a.packet)) c.has_option.ensures c.if-not-has_option.true

pub returns-in_err-read : goal.returns-in_err-read
returns-in_err-read c =
    let p = err_from_is_err_and c.from_residual.result c.from_residual.ensures.1 in
    rw (p.1, p.2) (answer (held c.args.stores) c.args.packet _ _ _ c.has_option.ensures c.if-not-has_option.false c.get_first_option.ensures.result_value c.in_err-read.ensures)

pub returns : goal.returns
returns c =
    answer (held c.args.stores) c.args.packet _ _ _ c.has_option.ensures c.if-not-has_option.false c.get_first_option.ensures.result_value c.in_ok-read.ensures
