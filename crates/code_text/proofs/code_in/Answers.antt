-- `code_in`: the parts before and after the first dot are read as numbers, whose limits let the byte fit.
use Prim.Native.Nat.{ℕ, ◌+◌, ◌-◌, ◌≤◌}
use mathlib.Core.Path.{◌≡◌, sym, ap, ◌∙◌}
use mathlib.Core.List.{List}
use native.Mathlib.Omega.{arith}
use lib.ListN.{length, take, drop}
use lib.Seq.{length-take-le}
use Rattle.std.specs.Prelude.{Option, Some, None, Result, Ok, Err}
use Rattle.std.specs.Option.{ok_or}
use Rattle.std.specs.Result.{result_ok}
use Rattle.std.proofs.lemmas.Result.{err_from_is_err_and}
use Rattle.refusal.specs.Answer.{Answer, given, refused}
use Rattle.refusal.specs.declared.Refusal.{Refusal}
use Rattle.refusal.specs.declared.Refusal.TheVariants.{BadText}
use Rattle.decimal.specs.Decimal.{decimal_of}
use Rattle.code_text.specs.CodeText.{numeral_at, dot_in}
use Rattle.code_text.proofs.CodeText.{rest, dot_within, numeral_small, class_part, detail_part, code_good, code_no_class, code_no_detail, no_dot}
use Rattle.code_text.proofs.code_in.Goals.{In_ok-class, In_ok-detail}
use Rattle.code_text.proofs.code_in.Goals as goal

-- What was answered where a number was asked for, or BadText in its place.
number_read : {o : Option ℕ} {r : Result ℕ Refusal} {n : ℕ} {a : Answer ℕ} → decimal_of o ≡ a → o ≡ result_ok r → r ≡ Ok n → given n ≡ a
number_read e p was = sym (ap decimal_of (p ∙ ap result_ok was)) ∙ e

none_read : (o : Option ℕ) {d : Refusal} {a : Answer ℕ} → decimal_of o ≡ a → ok_or o BadText ≡ Err d → (refused 15 ≡ a) × (d ≡ BadText)
none_read None e was = (e, cc)
none_read (Some n) e was = cc

-- What each call answers of its part of the text.
class_read : (text : List ℕ) {dot : ℕ} {a : Answer ℕ} → dot ≡ dot_in text → a ≡ numeral_at 7 (take dot text) → class_part text ≡ a
class_read text e h = sym (rw e at h)

detail_read : (text : List ℕ) {dot : ℕ} {a : Answer ℕ} → dot ≡ dot_in text → a ≡ numeral_at 31 (take (length text - (dot + 1)) (drop (dot + 1) text)) → detail_part text ≡ a
detail_read text e h = sym (rw (rest, e) at h)

-- The class that was read, and the detail.
class : (c : In_ok-class) → class_part c.args.text.now ≡ given c.in_ok-class.class
class c = class_read c.args.text.now c.dot_in-dot.ensures (number_read c.numeral.ensures c.ok_or.ensures.ok_part c.in_ok-class.was)

detail : (c : In_ok-detail) → detail_part c.args.text.now ≡ given c.in_ok-detail.detail
detail c = detail_read c.args.text.now c.dot_in-dot.ensures (number_read c.numeral-2.ensures c.ok_or-2.ensures.ok_part c.in_ok-detail.was)

-- Where there is a class and a detail, they are within their limits.
sizes : (c : In_ok-detail) → (c.in_ok-class.class ≤ 7) × (c.in_ok-detail.detail ≤ 31)
sizes c = (numeral_small 7 _ _ (class (goal.at.returns c).In_ok-class), numeral_small 31 _ _ (detail c))

pub slice_bounds-numeral-end : goal.slice_bounds-numeral-end
slice_bounds-numeral-end c =
    sym (length-take-le c.dot_in-dot.result c.args.text.now (omega (arith, dot_within c.args.text.now, c.dot_in-dot.ensures)))

pub returns-in_err-class : goal.returns-in_err-class
returns-in_err-class c =
    let text = c.args.text.now in
    let none = none_read _ c.numeral.ensures (sym c.ok_or.ensures.value ∙ c.in_err-class.was) in
    let p = err_from_is_err_and c.from_residual.result c.from_residual.ensures.1 in
    rw (p.1, p.2, none.1) (sym (code_no_class text (class_read text c.dot_in-dot.ensures none.0)))

pub returns-then-text-dot : goal.returns-then-text-dot
returns-then-text-dot c =
    let text = c.args.text.now in
    sym (code_no_detail text _ (class (goal.at.returns-then-text-dot c).In_ok-class) (no_dot text (omega (arith, c.if-text-dot.true, c.dot_in-dot.ensures))))

pub returns-in_err-detail : goal.returns-in_err-detail
returns-in_err-detail c =
    let text = c.args.text.now in
    let none = none_read _ c.numeral-2.ensures (sym c.ok_or-2.ensures.value ∙ c.in_err-detail.was) in
    let p = err_from_is_err_and c.from_residual-in_err-detail.result c.from_residual-in_err-detail.ensures.1 in
    rw (p.1, p.2, none.1)
    (sym (code_no_detail text _ (class (goal.at.returns-in_err-detail c).In_ok-class) (detail_read text c.dot_in-dot.ensures none.0)))

pub overflow_mul-result : goal.overflow_mul-result
overflow_mul-result c = omega (arith, sizes c)

pub overflow_add-result : goal.overflow_add-result
overflow_add-result c = omega (arith, sizes c)

pub overflow_cast-result : goal.overflow_cast-result
overflow_cast-result c = omega (arith, sizes c)

pub returns : goal.returns
returns c = sym (code_good c.args.text.now _ _ (class (goal.at.returns c).In_ok-class) (detail c))
