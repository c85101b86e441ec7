-- `get_content_format` answers by whether its number is there, and by what the first value reads as.
use Prim.Native.Nat.{ℕ}
use mathlib.Core.Path.{◌≡◌, refl, ap, ◌∙◌}
use mathlib.Core.Bool.{Bool, true, false}
use mathlib.Core.List.{List}
use lib.ListN.{length, get_or}
use lib.Dec.{ltb}
use Rattle.std.specs.Bool.{then_some}
use Rattle.std.specs.Prelude.{Some, None}
use Rattle.ground.specs.Choice.{pick}
use Rattle.refusal.specs.Answer.{Answer}
use Rattle.option_value.specs.Uint.{Padded, read_uint}
use Rattle.packet.specs.Packet.{Stores, none, held, value_of, records_of, of_number}
use Rattle.packet.specs.declared.Packet.{Packet}
use Rattle.typed_options.specs.Getters.{no_format, format_of, format_in}
use Rattle.typed_options.proofs.Getters.{on_absent, on_present}
use Rattle.typed_options.proofs.get_content_format.Goals as goal

-- What the first value reads as, where there is one.
answer : (s : Stores) (p : Packet) (there : Bool) (value : List ℕ) (a : Answer (Padded ℕ))
    → there ≡ ltb 0 (length (of_number 12 (records_of p))) → there ≡ true → value ≡ value_of s (get_or (of_number 12 (records_of p)) 0 none) → a ≡ read_uint 2 value
    → format_of a ≡ format_in s p
unfolding format_in
answer s p there value a e h v r =
    ap format_of (r ∙ ap (read_uint 2) v)
    ∙ on_present no_format (λ q. format_of (read_uint 2 (value_of s q))) there (of_number 12 (records_of p)) e h

-- A number that is kept by a test.
picked : (t : Bool) (n : ℕ) → then_some t n ≡ pick t (Some n) None
picked true n = refl
picked false n = refl

pub returns-then-not-has_option : goal.returns-then-not-has_option
unfolding format_in
returns-then-not-has_option c =
    let a = c.args in
    on_absent no_format (λ r. format_of (read_uint 2 (value_of (held a.stores) r))) _ (of_number 12 (records_of a.packet)) c.has_option.ensures c.if-not-has_option.true

pub returns-in-Err : goal.returns-in-Err
returns-in-Err c =
    answer (held c.args.stores) c.args.packet _ _ _ c.has_option.ensures c.if-not-has_option.false c.get_first_option-value.ensures.result_value c.in-Err.ensures

pub returns-in-Ok : goal.returns-in-Ok
returns-in-Ok c =
    rw (c.then_some-format.ensures, picked, c.is_content_format.ensures) (answer (held c.args.stores) c.args.packet _ _ _ c.has_option.ensures c.if-not-has_option.false c.get_first_option-value.ensures.result_value c.in-Ok.ensures)
