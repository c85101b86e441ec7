-- Text, from the walk's agreement with the grammar; and codes, from the law of their text.
use mathlib.Core.Path.{◌≡◌, refl, sym, ap, ◌∙◌}
use mathlib.Core.Bool.{Bool, true, false}
use lib.Dec.{T}
use Rattle.std.specs.Prelude.{Result, Ok}
use Rattle.ground.specs.Choice.{pick}
use Rattle.refusal.specs.Answer.{given, refused}
use Rattle.refusal.proofs.Answers.{not_refused}
use Rattle.refusal.specs.declared.Refusal.{Refusal}
use Rattle.utf8.specs.Walk.{text}
use Rattle.utf8.proofs.Grammar.{texts}
use Rattle.option_value.specs.Text.{text_of}
use Rattle.option_value.proofs.Distinct.{one_text}
use Rattle.code_text.proofs.CodeText.{text_back, one_code}
use Rattle.header.specs.Header.{setting_of}
use Rattle.header.specs.declared.Header.{Header}
use Rattle.guarantees.specs.Texts.{TextsAreTaken, CodesReadBack, HeaderKept, ToldApart}
use Rattle.guarantees.proofs.Refusals.{Telling, besides, apart}

-- A test that decides whether a value is text.
valid : (t : Bool) (r : Result (Unit {0}) Refusal) → text_of r ≡ pick t (given tt) (refused 15) → r ≡ Ok tt → T t
valid true r e is = tt
valid false r e is = not_refused (sym (ap text_of is) ∙ e)

taken : (t : Bool) (r : Result (Unit {0}) Refusal) → text_of r ≡ pick t (given tt) (refused 15) → T t → r ≡ Ok tt
taken true r e h = one_text r (Ok tt) e
taken false r e h = absurd h

pub texts_are_taken : TextsAreTaken
texts_are_taken value r e = (λ is. (texts value).0 (valid (text value) r e is), λ t. taken (text value) r e ((texts value).1 t))

pub codes_read_back : CodesReadBack
codes_read_back byte h r e = one_code r (Ok byte) (e ∙ text_back byte h)

-- What is told of setting a header has the header that came beside a refusal.
telling : (old : Header) → Telling Header (setting_of old) old
telling old = record { value = λ v. refl; refusal = λ e. refl }

pub header_kept : HeaderKept
header_kept a old r q = besides Header (setting_of old) old (telling old) r

pub told_apart : ToldApart
told_apart =
    record {
      texts = one_text;
      code_texts = one_code;
      codes = λ old. apart Header (setting_of old) old (telling old);
    }
