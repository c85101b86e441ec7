-- Headers, computed by the definitions, so that a slip in them shows.
use mathlib.Core.Path.{◌≡◌, refl}
use mathlib.Core.List.{[], ◌∷◌}
use Rattle.refusal.specs.Answer.{given, refused}
use Rattle.class.specs.Class.{class_of}
use Rattle.class.specs.declared.MessageClass.TheVariants.{Response}
use Rattle.class.specs.declared.ResponseType.TheVariants.{Content}
use Rattle.header.specs.Header.{raw_in, header_of, type_of}
use Rattle.header.specs.declared.MessageType.TheVariants.{Acknowledgement}

-- RFC 7252, appendix A, figure 16: the answer's header, an acknowledgement with 2.05 and message id 7d34.
acknowledged : (raw_in (0x60 ∷ 0x45 ∷ 0x7D ∷ 0x34 ∷ []) ≡ given (record { ver_type_tkl = 0x60; code = 0x45; message_id = 0x7D34 })) × (header_of (record { ver_type_tkl = 0x60; code = 0x45; message_id = 0x7D34 }) ≡ record { version = 1; message_type = Acknowledgement; code = Response Content; message_id = 0x7D34 })
unfolding raw_in header_of type_of class_of
acknowledged = (refl, refl)

-- Four bytes are needed.
short : (raw_in [] ≡ refused 1) × (raw_in (0x40 ∷ 0x01 ∷ 0x00 ∷ []) ≡ refused 1)
unfolding raw_in
short = (refl, refl)
