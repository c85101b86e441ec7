-- `put_zeros`: the first bytes of an array of zeros.
use Prim.Native.Nat.{ℕ}
use mathlib.Core.Path.{subst}
use mathlib.Core.List.{List}
use Rattle.placing.specs.Put.{Puts}
use Rattle.freezing.proofs.Chunks.{zeros_front}
use Rattle.freezing.proofs.put_zeros.Goals as goal

pub returns : goal.returns
returns c =
    subst (λ (v : List ℕ). Puts c.args.out.now c.args.at v c.put_bytes.result c.put_bytes.new.out) (zeros_front c.args.n 30 c.requires) c.put_bytes.ensures
