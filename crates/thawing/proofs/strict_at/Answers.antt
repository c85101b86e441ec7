-- `strict_at`: a datagram of one chunk is read where it stands, any other is judged in its chunks.
use Prim.Native.Nat.{ℕ, ◌+◌, ◌-◌}
use mathlib.Core.Path.{◌≡◌, refl, sym, ap, ◌∙◌}
use mathlib.Core.List.{List}
use native.Mathlib.Omega.{arith}
use lib.ListN.{take, drop}
use Rattle.std.proofs.lemmas.Result.{err_from_is_err_and}
use Rattle.ground.specs.Part.{part}
use Rattle.stream.specs.declared.Form.{Form}
use Rattle.stream.specs.Stream.{head_size}
use Rattle.stream.proofs.Walk.{whole_of, bad_of}
use Rattle.thawing.specs.Message.{strict_before}
use Rattle.thawing.proofs.Message.{whole_length, whole_inside}
use Rattle.thawing.proofs.Accepting.{strict_bad, strict_is, one_piece, one_inside}
use borrow.Author.Rules.{rules}
use Rattle.thawing.proofs.strict_at.Goals as goal

piece : (form : Form) (s : List ℕ) (at len head : ℕ) → head ≡ head_size form → take (at + 19 + head + len - (at + 19 + head)) (drop (at + 19 + head) s) ≡ part s (at + 19 + head_size form) len
piece form s at len head e = let k : at + 19 + head + len - (at + 19 + head) ≡ len = omega arith in rw (k, e) refl

pub overflow_add-at : goal.overflow_add-at
overflow_add-at c = omega (arith, whole_inside _ _ _ _ _ (whole_of _ _ _ _ _ c.in_ok-message.ensures))

pub strict_apart-requires : goal.strict_apart-requires
strict_apart-requires c =
    let o = whole_of _ _ _ _ _ c.in_ok-message.ensures in
    (whole_length _ _ _ _ _ o, omega (arith, o.length_is, o.stands.sized.most))

pub returns-then-chunk_length-message : goal.returns-then-chunk_length-message
returns-then-chunk_length-message c = strict_is _ _ _ _ _ (whole_of _ _ _ _ _ c.in_ok-message.ensures) _ c.strict_apart.ensures

pub overflow_add-start : goal.overflow_add-start
overflow_add-start c = omega (arith, one_inside _ _ _ _ _ (whole_of _ _ _ _ _ c.in_ok-message.ensures) (omega (arith, c.chunk_length.ensures, c.if-chunk_length-message.false)))

pub overflow_add-start-2 : goal.overflow_add-start-2
overflow_add-start-2 c = omega (arith, one_inside _ _ _ _ _ (whole_of _ _ _ _ _ c.in_ok-message.ensures) (omega (arith, c.chunk_length.ensures, c.if-chunk_length-message.false)), c.head_of.ensures)

pub overflow_add-end : goal.overflow_add-end
overflow_add-end c = omega (arith, one_inside _ _ _ _ _ (whole_of _ _ _ _ _ c.in_ok-message.ensures) (omega (arith, c.chunk_length.ensures, c.if-chunk_length-message.false)), c.head_of.ensures)

pub slice_bounds-strict_before-end : goal.slice_bounds-strict_before-end
slice_bounds-strict_before-end c = let h = one_inside _ _ _ _ _ (whole_of _ _ _ _ _ c.in_ok-message.ensures) (omega (arith, c.chunk_length.ensures, c.if-chunk_length-message.false)) in let k = c.head_of.ensures in search rules

pub returns-in_err-message : goal.returns-in_err-message
returns-in_err-message c =
    let p = err_from_is_err_and c.from_residual.result c.from_residual.ensures.1 in
    rw (p.1, p.2) (sym (strict_bad _ _ _ _ (bad_of _ _ _ _ c.in_err-message.ensures)))

pub returns : goal.returns
returns c =
    let o = whole_of _ _ _ _ _ c.in_ok-message.ensures in
    strict_is _ _ _ _ _ o _ (c.strict_before.ensures ∙ ap (λ (d : List ℕ). strict_before d c.in_ok-message.message.next) (piece c.args.form _ _ _ _ c.head_of.ensures ∙ one_piece _ _ _ _ _ o (omega (arith, c.chunk_length.ensures, c.if-chunk_length-message.false))))
