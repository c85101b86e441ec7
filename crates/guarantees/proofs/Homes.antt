-- What is frozen stays, and a setter leaves what it doesn't touch.
use Prim.Native.Nat.{ℕ}
use mathlib.Core.Path.{◌≡◌, refl, ap, ◌∙◌}
use Rattle.packet.specs.Packet.{chosen}
use Rattle.packet.specs.declared.Home.{Home}
use Rattle.packet.specs.declared.Home.TheVariants.{Datagram, Edits}
use Rattle.typed_options.proofs.Stays.{range_stays}
use Rattle.guarantees.specs.Homes.{PartOfItsHome, FrozenStays, SetterLeaves}

piece : (h : Home) (d e : ℕ × ℕ) → (chosen h d e).0 ≡ chosen h d.0 e.0
piece Datagram d e = refl
piece Edits d e = refl

pub part_of_its_home : PartOfItsHome
part_of_its_home bytes place datagram edits s r h = ap (λ (p : ℕ × ℕ). p.0) h.place_is ∙ piece r.home datagram edits

pub frozen_stays : FrozenStays
frozen_stays datagram old new r e = rw e refl

pub setter_leaves : SetterLeaves
setter_leaves datagram old new p a start bytes e promise r h = range_stays p a start bytes old e new promise datagram r h
