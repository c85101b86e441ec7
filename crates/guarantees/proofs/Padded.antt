-- The count of leading zeros, from the laws of reading a uint, and handed on by readers and getters.
use Prim.Native.Nat.{ℕ, min}
use mathlib.Core.Path.{◌≡◌, refl, sym, ap, ◌∙◌}
use mathlib.Core.Bool.{Bool, true, false}
use mathlib.Core.List.{List, [], ◌∷◌}
use lib.Dec.{ltb}
use lib.ListN.{length}
use Rattle.std.specs.Prelude.{Result, Ok, Err, Some, None, Option}
use Rattle.ground.specs.Choice.{pick}
use Rattle.rfc.specs.Uint.{number}
use Rattle.refusal.specs.Answer.{Answer, given, refused, onward, written}
use Rattle.refusal.specs.declared.Refusal.{Refusal}
use Rattle.option_value.specs.Uint.{leading_zeros, padded, read_uint}
use Rattle.option_value.proofs.Padding.{one_pads, pads_length}
use Rattle.option_value.proofs.Uints.{read_pads, pads_read, output_then_read}
use Rattle.option_value.proofs.Distinct.{one_uint, one_value}
use Rattle.block_value.proofs.PlainLaws.{plain_pads}
use Rattle.block_value.proofs.StrictLaws.{read}
use Rattle.packet.specs.Packet.{records_of, of_number, value_of}
use Rattle.packet.specs.declared.OptionRecord.{OptionRecord}
use Rattle.typed_options.specs.Getters.{on_first, no_format, Found, number as found, absent, format_of, format_in, observed, observe_in}
use Rattle.typed_options.proofs.Distinct.{one_observe}
use Rattle.typed_options.specs.declared.Observe.{Observe}
use Rattle.guarantees.specs.Padded.{EveryWidth, FourWidths, OneCount, LengthCounted, NoneWritten, SameNumber, BlocksCount, format_zeros, observe_zeros, GettersCount, ToldApart}

pub every_width : EveryWidth
every_width width bs a b promise p =
    (λ e. read_pads width p bs b (sym promise ∙ e), λ h. promise ∙ pads_read width p bs b h)

pub four_widths : FourWidths
four_widths =
    record {
      one = λ bs r b promise. every_width 1 bs _ b promise;
      two = λ bs r b promise. every_width 2 bs _ b promise;
      four = λ bs r b promise. every_width 4 bs _ b promise;
      eight = λ bs r b promise. every_width 8 bs _ b promise;
    }

pub one_count : OneCount
one_count width bs p q h k = one_pads h k

pub length_counted : LengthCounted
length_counted width bs p h = pads_length h

pub none_written : NoneWritten
none_written width n old r new len a w h answer out is promise =
    promise
    ∙ (rw out (output_then_read width n old len w h (sym answer ∙ ap written is)))

number_of : (t : Bool) (bs : List ℕ) → onward (pick t (refused 13) (given (padded bs))) (λ p. given p.value) ≡ pick t (refused 13) (given (number bs))
number_of true bs = refl
number_of false bs = refl

pub same_number : SameNumber
unfolding read_uint
same_number width bs a promise = rw promise (number_of (ltb (min width 8) (length bs)) bs)

pub blocks_count : BlocksCount
blocks_count bs r p b is =
    (λ promise. plain_pads bs p b (sym promise ∙ is), λ promise. (read bs p b (sym promise ∙ is)).pads)

-- What goes by the first record of a list goes by it through a function too.
first : {A B : Type 0} (f : A → B) (rs : List OptionRecord) (none : A) (some : OptionRecord → A) (g : OptionRecord → B) → ((r : OptionRecord) → f (some r) ≡ g r) → f (on_first rs none some) ≡ on_first rs (f none) g
first f [] none some g h = refl
first f (r ∷ rs) none some g h = h r

-- The count of what was read as a content format, and as Observe.
format_of_lem : (t : Bool) (bs : List ℕ) → format_zeros (format_of (pick t (refused 13) (given (padded bs)))) ≡ pick t 0 (leading_zeros bs)
format_of_lem true bs = refl
format_of_lem false bs = refl

abbrev zeros_found : Answer Found → ℕ
zeros_found (given (found n)) = n.zeros
zeros_found (given absent) = 0
zeros_found (refused k) = 0

told : (r : Result (Option Observe) Refusal) → observe_zeros r ≡ zeros_found (observed r)
told (Ok (Some o)) = refl
told (Ok None) = refl
told (Err e) = refl

observe_of : (t : Bool) (bs : List ℕ) → zeros_found (onward (pick t (refused 13) (given (padded bs))) (λ n. given (found n))) ≡ pick t 0 (leading_zeros bs)
observe_of true bs = refl
observe_of false bs = refl

pub getters_count : GettersCount
unfolding read_uint format_in observe_in
getters_count s p = (
  λ r promise.
      ap format_zeros promise
      ∙ first format_zeros (of_number 12 (records_of p)) no_format (λ r. format_of (read_uint 2 (value_of s r))) _
      (λ r. format_of_lem (ltb 2 (length (value_of s r))) (value_of s r)),
  λ r promise.
      told r
      ∙ (ap zeros_found promise
      ∙ first zeros_found (of_number 6 (records_of p)) (given absent) (λ r. onward (read_uint 4 (value_of s r)) (λ n. given (found n))) _
      (λ r. observe_of (ltb 4 (length (value_of s r))) (value_of s r))),
)

pub told_apart : ToldApart
told_apart =
    record {
      uints = one_uint;
      values = one_value;
      observe_values = one_observe;
    }
