-- `Builder::payload`: too long, or none of an empty message; else the payload by its own answer.
use Rattle.std.proofs.lemmas.Result.{err_from_is_err_and}
use Rattle.building.proofs.Calls.{payload_long, payload_bare, payload_by}
use Rattle.building.proofs.Builder.payload.Goals as goal

pub returns-then-payload-gt-MAX_STORE : goal.returns-then-payload-gt-MAX_STORE
returns-then-payload-gt-MAX_STORE c = payload_long _ _ _ c.if-payload-gt-MAX_STORE.true

pub returns-then-self : goal.returns-then-self
returns-then-self c = payload_bare _ _ _ c.if-payload-gt-MAX_STORE.false c.if-self.true _ c.bare_end.ensures

pub returns-in_err-size : goal.returns-in_err-size
returns-in_err-size c =
    let p = err_from_is_err_and c.from_residual.result c.from_residual.ensures.1 in
    rw (p.1, p.2) (payload_by _ _ _ c.if-payload-gt-MAX_STORE.false c.if-self.false _ _ c.put_payload.ensures _ (rw c.in_err-size.was))

pub returns : goal.returns
returns c = payload_by _ _ _ c.if-payload-gt-MAX_STORE.false c.if-self.false _ _ c.put_payload.ensures _ (rw c.in_ok-size.was)
