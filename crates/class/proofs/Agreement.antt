-- The table of classes agrees with the rule: the class that each entry names is that of its code byte.
use Prim.Native.Nat.{ℕ, zero, suc, ◌+◌, ◌<◌}
use mathlib.Core.Path.{◌≡◌, refl, sym, ap, ◌∙◌}
use mathlib.Core.Bool.{Bool, true, false}
use mathlib.Core.List.{List, [], ◌∷◌}
use native.Mathlib.Nat.{add-zero, zero-add, add-suc, suc-add, le_of_suc-le-suc, not-suc-le-zero}
use lib.Dec.{eqb}
use lib.ListN.{get_or}
use Rattle.ground.specs.Choice.{pick}
use Rattle.class.specs.Class.{byte_of, class_among, class_of, named}
use Rattle.class.specs.Table.{place, entries_from, entries, class_named}
use Rattle.class.specs.declared.MessageClass.{MessageClass}
use Rattle.class.specs.declared.MessageClass.TheVariants.{Reserved}

at_picked : (t : Bool) (c d : MessageClass) (cs : List MessageClass) (k : ℕ) → get_or (c ∷ cs) (pick t 0 (suc k)) d ≡ pick t c (get_or cs k d)
at_picked true c d cs k = refl
at_picked false c d cs k = refl

-- What stands at the place of a byte is the class of the byte.
at_place : (cs : List MessageClass) (b : ℕ) → get_or cs (place cs b) (Reserved b) ≡ class_among cs b
at_place [] b = refl
at_place (c ∷ cs) b =
    at_picked (eqb b (byte_of c)) c (Reserved b) cs (place cs b) ∙ ap (pick (eqb b (byte_of c)) c) (at_place cs b)

from : (b n k : ℕ) → k < n → get_or (entries_from b n) k 0 ≡ place named (b + k)
from b zero k h = absurd (not-suc-le-zero h)
from b (suc n) zero h = ap (place named) (sym (add-zero b))
from b (suc n) (suc k) h = from (suc b) n k (le_of_suc-le-suc h) ∙ ap (place named) (suc-add b k ∙ sym (add-suc b k))

-- At each code byte the entry names the class of the byte.
pub agrees : (b : ℕ) → b < 256 → class_named (get_or entries b 0) b ≡ class_of b
unfolding class_named class_of entries
agrees b h = ap (λ (e : ℕ). get_or named e (Reserved b)) (from 0 256 b h ∙ ap (place named) (zero-add b)) ∙ at_place named b
