-- Laws between code bytes and classes: a byte comes back from its class, and a class from its byte where the byte names it.
use Prim.Native.Nat.{ℕ, ◌<◌}
use mathlib.Core.Path.{◌≡◌, refl, sym, ap}
use mathlib.Core.List.{List, [], ◌∷◌, map}
use lib.Dec.{lit<}
use lib.ListN.{length}
use borrow.Author.Tests.{ne_eqb}
use Rattle.ground.proofs.Choice.{on_eq}
use Rattle.class.specs.Class.{byte_of, byte_of_request, byte_of_response, class_among, class_of, named}
use Rattle.class.specs.declared.RequestType.{RequestType}
use Rattle.class.specs.declared.RequestType.TheVariants.{Get, Post, Put, Delete, Fetch, Patch, IPatch, UnKnown as UnKnownRequest}
use Rattle.class.specs.declared.ResponseType.{ResponseType}
use Rattle.class.specs.declared.ResponseType.TheVariants.{Created, Deleted, Valid, Changed, Content, Continue, BadRequest, Unauthorized, BadOption, Forbidden, NotFound, MethodNotAllowed, NotAcceptable, Conflict, PreconditionFailed, RequestEntityTooLarge, UnsupportedContentFormat, RequestEntityIncomplete, UnprocessableEntity, TooManyRequests, InternalServerError, NotImplemented, BadGateway, ServiceUnavailable, GatewayTimeout, ProxyingNotSupported, HopLimitReached, UnKnown as UnKnownResponse}
use Rattle.class.specs.declared.MessageClass.{MessageClass}
use Rattle.class.specs.declared.MessageClass.TheVariants.{Empty, Request, Response, Reserved}

among_byte : (cs : List MessageClass) (b : ℕ) → byte_of (class_among cs b) ≡ b
among_byte [] b = refl
among_byte (c ∷ cs) b = on_eq (λ (k : MessageClass). byte_of k ≡ b) b (byte_of c) (λ e. sym e) (λ _. among_byte cs b)

-- The class of a byte has that byte.
pub byte_back : (b : ℕ) → byte_of (class_of b) ≡ b
unfolding class_of
byte_back b = among_byte named b

-- A class that a byte has given comes back from its byte.
pub class_back : (b : ℕ) → class_of (byte_of (class_of b)) ≡ class_of b
class_back b = ap class_of (byte_back b)

-- The byte is that of none of these classes, besides what `P` says: one fact more for each, in their order.
abbrev pub Apart : Type 0 → ℕ → List MessageClass → Type 0
Apart P b [] = P
Apart P b (c ∷ cs) = Apart (P × (b ≡ byte_of c → ⊥)) b cs

apart_first : (P : Type 0) (b : ℕ) (cs : List MessageClass) → Apart P b cs → P
apart_first P b [] a = a
apart_first P b (c ∷ cs) a = (apart_first (P × (b ≡ byte_of c → ⊥)) b cs a).0

among_apart : (P : Type 0) (b : ℕ) (cs : List MessageClass) → Apart P b cs → class_among cs b ≡ Reserved b
among_apart P b [] a = refl
among_apart P b (c ∷ cs) a =
    rw (ne_eqb b (byte_of c) (apart_first (P × (b ≡ byte_of c → ⊥)) b cs a).1) (among_apart (P × (b ≡ byte_of c → ⊥)) b cs a)

-- A byte that no named class has is reserved.
pub reserved : (b : ℕ) → Apart (Unit {0}) b named → class_of b ≡ Reserved b
unfolding class_of
reserved b a = among_apart (Unit {0}) b named a

-- No two bytes have one class.
pub one_byte : (a b : ℕ) → class_of a ≡ class_of b → a ≡ b
one_byte a b e = cc (byte_back a, byte_back b)

request_byte : (r : RequestType) → byte_of_request r < 256
request_byte Get = lit< tt
request_byte Post = lit< tt
request_byte Put = lit< tt
request_byte Delete = lit< tt
request_byte Fetch = lit< tt
request_byte Patch = lit< tt
request_byte IPatch = lit< tt
request_byte UnKnownRequest = lit< tt

response_byte : (r : ResponseType) → byte_of_response r < 256
response_byte Created = lit< tt
response_byte Deleted = lit< tt
response_byte Valid = lit< tt
response_byte Changed = lit< tt
response_byte Content = lit< tt
response_byte Continue = lit< tt
response_byte BadRequest = lit< tt
response_byte Unauthorized = lit< tt
response_byte BadOption = lit< tt
response_byte Forbidden = lit< tt
response_byte NotFound = lit< tt
response_byte MethodNotAllowed = lit< tt
response_byte NotAcceptable = lit< tt
response_byte Conflict = lit< tt
response_byte PreconditionFailed = lit< tt
response_byte RequestEntityTooLarge = lit< tt
response_byte UnsupportedContentFormat = lit< tt
response_byte RequestEntityIncomplete = lit< tt
response_byte UnprocessableEntity = lit< tt
response_byte TooManyRequests = lit< tt
response_byte InternalServerError = lit< tt
response_byte NotImplemented = lit< tt
response_byte BadGateway = lit< tt
response_byte ServiceUnavailable = lit< tt
response_byte GatewayTimeout = lit< tt
response_byte ProxyingNotSupported = lit< tt
response_byte HopLimitReached = lit< tt
response_byte UnKnownResponse = lit< tt

-- A reserved byte is a byte.
abbrev pub Held : MessageClass → Type 0
Held Empty = Unit {0}
Held (Request r) = Unit {0}
Held (Response r) = Unit {0}
Held (Reserved b) = b < 256

-- The byte of a class is a byte.
pub byte_small : (c : MessageClass) → Held c → byte_of c < 256
byte_small Empty h = lit< tt
byte_small (Request r) h = request_byte r
byte_small (Response r) h = response_byte r
byte_small (Reserved b) h = h

-- A class with the byte of a byte holds a byte, and so does the class of any byte.
pub held : (c : MessageClass) → byte_of c < 256 → Held c
held Empty h = tt
held (Request r) h = tt
held (Response r) h = tt
held (Reserved b) h = h

pub class_held : (b : ℕ) → b < 256 → Held (class_of b)
class_held b h = held (class_of b) (rw byte_back h)

-- Each of the 35 named classes comes back from its byte, so no two of them have one byte.
pub named_back : (map (λ c. class_of (byte_of c)) named ≡ named) × (length named ≡ 35)
unfolding class_of
named_back = (refl, refl)

-- Examples: the bytes at the edges of the list; and classes that no byte gives, which come back as another.
continue : class_of 0x5F ≡ Response Continue
unfolding class_of
continue = refl

no_name : (class_of 0x08 ≡ Reserved 0x08) × (class_of 0x40 ≡ Reserved 0x40) × (class_of 0x87 ≡ Reserved 0x87) × (class_of 0xFF ≡ Reserved 0xFF)
unfolding class_of
no_name = (refl, refl, refl, refl)

other_back : (class_of (byte_of (Reserved 1)) ≡ Request Get) × (class_of (byte_of (Reserved 0)) ≡ Empty) × (class_of (byte_of (Request UnKnownRequest)) ≡ Reserved 0xFF) × (class_of (byte_of (Response UnKnownResponse)) ≡ Reserved 0xFF)
unfolding class_of
other_back = (refl, refl, refl, refl)
