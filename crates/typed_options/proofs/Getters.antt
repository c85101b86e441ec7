-- How a getter goes on: by whether an option of its number is there, and by the first of them.
use Prim.Native.Nat.{suc}
use mathlib.Core.Path.{◌≡◌, refl, sym, ◌∙◌}
use mathlib.Core.Bool.{Bool, true, false}
use mathlib.Core.List.{List, [], ◌∷◌}
use native.Mathlib.Omega.{arith}
use lib.ListN.{length, get_or}
use lib.Dec.{ltb}
use borrow.Author.Tests.{ltb-true, ltb-false}
use Rattle.packet.specs.Packet.{none}
use Rattle.packet.specs.declared.OptionRecord.{OptionRecord}
use Rattle.typed_options.specs.Getters.{on_first}

module _ {A : Type 0} (absent : A) (found : OptionRecord → A) (there : Bool) where
  pub on_absent : (rs : List OptionRecord) → there ≡ ltb 0 (length rs) → there ≡ false → absent ≡ on_first rs absent found
  on_absent [] e h = refl
  on_absent (r ∷ rs) e h = absurd (omega (arith, ltb-false 0 (suc (length rs)) (sym e ∙ h)))

  pub on_present : (rs : List OptionRecord) → there ≡ ltb 0 (length rs) → there ≡ true → found (get_or rs 0 none) ≡ on_first rs absent found
  on_present [] e h = absurd (omega (arith, ltb-true 0 0 (sym e ∙ h)))
  on_present (r ∷ rs) e h = refl
