-- The class of a code byte and the byte of a class: the codes that have a name, and every other byte as reserved.
use Rattle.std.specs.Prelude.{ℕ, List, [], ◌∷◌, eqb}
use Rattle.ground.specs.Choice.{pick}
use Rattle.class.specs.declared.RequestType.{RequestType}
use Rattle.class.specs.declared.RequestType.TheVariants.{Get, Post, Put, Delete, Fetch, Patch, IPatch, UnKnown as UnKnownRequest}
use Rattle.class.specs.declared.ResponseType.{ResponseType}
use Rattle.class.specs.declared.ResponseType.TheVariants.{Created, Deleted, Valid, Changed, Content, Continue, BadRequest, Unauthorized, BadOption, Forbidden, NotFound, MethodNotAllowed, NotAcceptable, Conflict, PreconditionFailed, RequestEntityTooLarge, UnsupportedContentFormat, RequestEntityIncomplete, UnprocessableEntity, TooManyRequests, InternalServerError, NotImplemented, BadGateway, ServiceUnavailable, GatewayTimeout, ProxyingNotSupported, HopLimitReached, UnKnown as UnKnownResponse}
use Rattle.class.specs.declared.MessageClass.{MessageClass}
use Rattle.class.specs.declared.MessageClass.TheVariants.{Empty, Request, Response, Reserved}

-- The byte of a request: a method code (RFC 7252, section 12.1.1; RFC 8132, section 6), and FF for one that is not known.
abbrev pub byte_of_request : RequestType → ℕ
byte_of_request Get = 0x01
byte_of_request Post = 0x02
byte_of_request Put = 0x03
byte_of_request Delete = 0x04
byte_of_request Fetch = 0x05
byte_of_request Patch = 0x06
byte_of_request IPatch = 0x07
byte_of_request UnKnownRequest = 0xFF

-- The byte of a response: a response code (RFC 7252, section 12.1.2, and the registry kept there), and FF for one that is not known.
abbrev pub byte_of_response : ResponseType → ℕ
byte_of_response Created = 0x41
byte_of_response Deleted = 0x42
byte_of_response Valid = 0x43
byte_of_response Changed = 0x44
byte_of_response Content = 0x45
byte_of_response Continue = 0x5F
byte_of_response BadRequest = 0x80
byte_of_response Unauthorized = 0x81
byte_of_response BadOption = 0x82
byte_of_response Forbidden = 0x83
byte_of_response NotFound = 0x84
byte_of_response MethodNotAllowed = 0x85
byte_of_response NotAcceptable = 0x86
byte_of_response Conflict = 0x89
byte_of_response PreconditionFailed = 0x8C
byte_of_response RequestEntityTooLarge = 0x8D
byte_of_response UnsupportedContentFormat = 0x8F
byte_of_response RequestEntityIncomplete = 0x88
byte_of_response UnprocessableEntity = 0x96
byte_of_response TooManyRequests = 0x9D
byte_of_response InternalServerError = 0xA0
byte_of_response NotImplemented = 0xA1
byte_of_response BadGateway = 0xA2
byte_of_response ServiceUnavailable = 0xA3
byte_of_response GatewayTimeout = 0xA4
byte_of_response ProxyingNotSupported = 0xA5
byte_of_response HopLimitReached = 0xA8
byte_of_response UnKnownResponse = 0xFF

-- The byte of a class: 0 for the empty message, that of the request or response inside, or the reserved byte itself.
abbrev pub byte_of : MessageClass → ℕ
byte_of Empty = 0x00
byte_of (Request r) = byte_of_request r
byte_of (Response r) = byte_of_response r
byte_of (Reserved b) = b

-- The classes that a byte can stand for, but for the reserved ones.
abbrev pub named : List MessageClass
named =
    Empty ∷ Request Get ∷ Request Post ∷ Request Put ∷ Request Delete ∷ Request Fetch ∷ Request Patch ∷
    Request IPatch ∷ Response Created ∷ Response Deleted ∷ Response Valid ∷ Response Changed ∷ Response Content ∷
    Response Continue ∷ Response BadRequest ∷ Response Unauthorized ∷ Response BadOption ∷ Response Forbidden ∷
    Response NotFound ∷ Response MethodNotAllowed ∷ Response NotAcceptable ∷ Response Conflict ∷
    Response PreconditionFailed ∷ Response RequestEntityTooLarge ∷ Response UnsupportedContentFormat ∷
    Response RequestEntityIncomplete ∷ Response UnprocessableEntity ∷ Response TooManyRequests ∷
    Response InternalServerError ∷ Response NotImplemented ∷ Response BadGateway ∷ Response ServiceUnavailable ∷
    Response GatewayTimeout ∷ Response ProxyingNotSupported ∷ Response HopLimitReached ∷ []

-- The first of these classes whose byte is `b`; where there is none, `b` is reserved.
abbrev pub class_among : List MessageClass → ℕ → MessageClass
class_among [] b = Reserved b
class_among (c ∷ cs) b = pick (eqb b (byte_of c)) c (class_among cs b)

-- The class of a code byte.
unfoldable pub class_of : ℕ → MessageClass
class_of b = class_among named b
