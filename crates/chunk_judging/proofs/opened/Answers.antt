-- `opened`: the first chunk has the header, which decides or leaves the judgement to the walk over the options.
use Prim.Native.Nat.{ℕ, ◌+◌, ◌-◌, ◌≤◌, min}
use mathlib.Core.Path.{◌≡◌, sym, ap, ◌∙◌}
use mathlib.Core.Bool.{true}
use native.Mathlib.Omega.{arith}
use lib.ListN.{take, drop}
use Rattle.std.proofs.lemmas.Result.{err_from_is_err_and}
use Rattle.refusal.specs.Answer.{Answer}
use Rattle.header.specs.declared.HeaderRaw.{HeaderRaw}
use Rattle.stream.specs.Stream.{full, head_size}
use Rattle.chunk_judging.specs.declared.datagram.Datagram.{Datagram}
use Rattle.reading.specs.Headed.{headed}
use Rattle.framing.specs.Judging.{options_judged}
use Rattle.chunk_judging.specs.Walk.{bytes_of}
use Rattle.chunk_judging.proofs.Places.{gathered_length}
use Rattle.chunk_judging.proofs.Front.{chunk_headed}
use Rattle.chunk_judging.proofs.Headed.{header_refused, header_inside, header_good}
use Rattle.chunk_judging.proofs.opened.Goals as goal

-- The header of the first chunk is that of the datagram.
front : (d : Datagram) (head n : ℕ) (a : Answer HeaderRaw) → 4 ≤ d.len → head ≡ head_size d.form → n ≡ min (full d.form) d.len
    → a ≡ headed true (take (d.from + head + n - (d.from + head)) (drop (d.from + head) d.stream.now)) → headed true (bytes_of d) ≡ a
front d head n a some e m h = sym (h ∙ chunk_headed d.form d.stream.now d.from d.len head n e m (omega arith) d.lies.0 d.lies.1)

pub walked-requires : goal.walked-requires
walked-requires c =
    let f = front c.args.d _ _ _ c.requires c.head_of.ensures c.chunk_length.ensures c.in_ok-raw.ensures in
    omega (arith, header_inside _ _ f, c.token_length.ensures, gathered_length c.args.d.form c.args.d.stream.now c.args.d.from c.args.d.len)

pub returns-in_err-raw : goal.returns-in_err-raw
returns-in_err-raw c =
    let f = front c.args.d _ _ _ c.requires c.head_of.ensures c.chunk_length.ensures c.in_err-raw.ensures in
    let p = err_from_is_err_and c.from_residual.result c.from_residual.ensures.1 in
    rw (p.1, p.2) (header_refused _ _ f)

pub returns : goal.returns
returns c =
    let f = front c.args.d _ _ _ c.requires c.head_of.ensures c.chunk_length.ensures c.in_ok-raw.ensures in
    c.walked.ensures ∙ (ap (λ (n : ℕ). options_judged (bytes_of c.args.d) 128 0 (4 + n)) c.token_length.ensures ∙ header_good _ _ f)
