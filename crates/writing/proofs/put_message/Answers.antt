-- `put_message`: header and token, options and payload one after the other are the layout of the message; of the options one is
-- put a turn, until none is left.
use Prim.Native.Nat.{ℕ, ◌+◌}
use mathlib.Core.Path.{◌≡◌, ap, subst, ◌∙◌}
use mathlib.Core.Bool.{Bool}
use mathlib.Core.List.{List, ◌∷◌}
use native.Mathlib.Omega.{arith}
use lib.ListN.{drop, get_or, length-take}
use Rattle.rfc.specs.Message.{Message}
use Rattle.placing.specs.Put.{Put}
use Rattle.packet.specs.Packet.{none, stores, held, bytes_of, records_of}
use Rattle.packet.specs.Meaning.{option_of, meaning}
use Rattle.packet.specs.declared.Packet.{Packet}
use Rattle.judging.proofs.Good.{good}
use Rattle.packet.proofs.Records.{left, none_left}
use Rattle.refusal.specs.Answer.{written}
use Rattle.laying.specs.Laying.{LaysHeader, LaysOption, LaysPayload}
use Rattle.laying.proofs.Laid.{is_laid}
use Rattle.writing.specs.Writing.{sent}
use Rattle.writing.proofs.Options.{leftover, Putting, option_given, turn, all}
use Rattle.writing.proofs.Parts.{head_given, begin, last_given, whole}
use Rattle.writing.proofs.put_message.Goals as goal
use Rattle.writing.proofs.put_message.Goals.{After-part-payload_bytes, After-put_header, After-put_payload, After-put_header-2, After-put_option, After-unwrap-next-in-loop-i, After-put_payload-2}

-- The message that is put.
abbrev message : Bool → List ℕ → List ℕ → Packet → Message
message strict datagram edits p = meaning (stores datagram edits) (sent strict p)

-- The payload that was found is the message's.
payload_is : (c : After-part-payload_bytes) → c.part-payload_bytes.result.now ≡ (message c.args.strict c.args.stores.datagram.now c.args.stores.edits.now c.args.packet).payload
payload_is c = c.part-payload_bytes.ensures.result_value ∙ ap (bytes_of (held c.args.stores)) c.sent_payload-payload.ensures

-- A packet with no option: header and token are laid, none is put, and the payload comes next.
bare_head : (c : After-put_header) → LaysHeader c.args.packet.header (message c.args.strict c.args.stores.datagram.now c.args.stores.edits.now c.args.packet).token c.args.out.now c.put_header.result c.put_header.new.out
bare_head c = rw c.part-token_bytes.ensures.result_value at c.put_header.ensures

module _ (c : After-put_payload) where
  bare_at : LaysHeader c.args.packet.header (message c.args.strict c.args.stores.datagram.now c.args.stores.edits.now c.args.packet).token c.args.out.now c.put_header.result c.put_header.new.out
  bare_at = bare_head (goal.at.After-put_payload c).After-put_header

  bare_options : Put c.put_header.new.out c.unwrap-first.result (leftover (held c.args.stores) (records_of c.args.packet) 0 0) c.unwrap-first.result c.put_header.new.out
  bare_options =
      let p = c.args.packet in
      all _ _ _ _ _ _ _ _ (begin c.args.strict _ p _ c.requires.0 c.requires.1 _ _ _ bare_at (ap written c.unwrap-first.ensures)) (none_left (records_of p) 0 (omega (arith, length-take p.count p.options)))

  bare_payload : LaysPayload (message c.args.strict c.args.stores.datagram.now c.args.stores.edits.now c.args.packet).payload c.unwrap-first.result c.put_header.new.out c.put_payload.result c.put_payload.new.out
  bare_payload = subst (λ (x : List ℕ). LaysPayload x c.unwrap-first.result c.put_header.new.out c.put_payload.result c.put_payload.new.out) (payload_is (goal.at.After-put_payload c).After-part-payload_bytes) c.put_payload.ensures

-- The same of a packet with options.
head : (c : After-put_header-2) → LaysHeader c.args.packet.header (message c.args.strict c.args.stores.datagram.now c.args.stores.edits.now c.args.packet).token c.args.out.now c.put_header-2.result c.put_header-2.new.out
head c = rw c.part-token_bytes.ensures.result_value at c.put_header-2.ensures

-- The records that are left begin with the record at the index, which is laid.
module _ (c : After-put_option) where
  next : drop c.loop-i.i (records_of c.args.packet) ≡ get_or c.args.packet.options c.loop-i.i none ∷ drop (c.loop-i.i + 1) (records_of c.args.packet)
  next =
      let p = c.args.packet in
      left p.options p.count c.loop-i.i (omega (arith, length-take p.count p.options))

  option : LaysOption c.loop-i.before (option_of (held c.args.stores) (get_or c.args.packet.options c.loop-i.i none)) c.loop-i.next c.loop-i.out c.put_option.result c.put_option.new.out
  option = rw c.value-value.ensures.result_value at c.put_option.ensures

-- One option more was put.
turn_at : (c : After-unwrap-next-in-loop-i) → Putting (held c.args.stores) (records_of c.args.packet) c.put_header-2.new.out c.unwrap-next.result c.put_option.new.out (get_or c.args.packet.options c.loop-i.i none).number (c.loop-i.next + c.unwrap-next-in-loop-i.result) (c.loop-i.i + 1)
turn_at c =
    let o = (goal.at.After-unwrap-next-in-loop-i c).After-put_option in
    turn _ _ _ _ _ _ _ _ c.loop-i.invariant.1 _ (next o) _ _ _ (option o) (ap written c.unwrap-next-in-loop-i.ensures)

-- All of them were put, and the payload comes next.
module _ (c : After-put_payload-2) where
  head_at : LaysHeader c.args.packet.header (message c.args.strict c.args.stores.datagram.now c.args.stores.edits.now c.args.packet).token c.args.out.now c.put_header-2.result c.put_header-2.new.out
  head_at = head (goal.at.After-put_payload-2 c).After-put_header-2

  options_at : Put c.put_header-2.new.out c.unwrap-next.result (leftover (held c.args.stores) (records_of c.args.packet) 0 0) c.loop-i.next c.loop-i.out
  options_at =
      let p = c.args.packet in
      all _ _ _ _ _ _ _ _ c.loop-i.invariant.1 (none_left (records_of p) c.loop-i.i (omega (arith, length-take p.count p.options)))

  payload_at : LaysPayload (message c.args.strict c.args.stores.datagram.now c.args.stores.edits.now c.args.packet).payload c.loop-i.next c.loop-i.out c.put_payload-2.result c.put_payload-2.new.out
  payload_at = subst (λ (x : List ℕ). LaysPayload x c.loop-i.next c.loop-i.out c.put_payload-2.result c.put_payload-2.new.out) (payload_is (goal.at.After-put_payload-2 c).After-part-payload_bytes) c.put_payload-2.ensures

pub unwrap-first-requires : goal.unwrap-first-requires
unwrap-first-requires c =
    is_laid _ _ ((bare_head (goal.at.unwrap-first-requires c).After-put_header).answer ∙ head_given c.args.strict _ c.args.packet c.args.out.now c.requires.0 c.requires.1)

pub unwrap-requires : goal.unwrap-requires
unwrap-requires c =
    let p = (goal.at.unwrap-requires c).After-put_payload in
    is_laid _ _ ((bare_payload p).answer ∙ last_given c.args.strict _ _ _ c.requires.0 c.requires.1 _ _ _ (bare_at p) (ap written c.unwrap-first.ensures) _ _ (bare_options p))

pub returns-then-count-eq0 : goal.returns-then-count-eq0
returns-then-count-eq0 c =
    let p = (goal.at.returns-then-count-eq0 c).After-put_payload in
    whole c.args.strict _ _ _ c.requires.0 c.requires.1 _ _ _ (bare_at p) (ap written c.unwrap-first.ensures) _ _ (bare_options p) _ _ _ (bare_payload p) (ap written c.unwrap.ensures)

pub unwrap-next-requires : goal.unwrap-next-requires
unwrap-next-requires c =
    is_laid _ _ ((head (goal.at.unwrap-next-requires c).After-put_header-2).answer ∙ head_given c.args.strict _ c.args.packet c.args.out.now c.requires.0 c.requires.1)

pub loop-i-init : goal.loop-i-init
loop-i-init c =
    (((good _ _ c.requires.0).count, omega arith), begin c.args.strict _ _ _ c.requires.0 c.requires.1 _ _ _ (head (goal.at.loop-i-init c).After-put_header-2) (ap written c.unwrap-next.ensures))

pub unwrap-next-requires-in-loop-i : goal.unwrap-next-requires-in-loop-i
unwrap-next-requires-in-loop-i c =
    let o = (goal.at.unwrap-next-requires-in-loop-i c).After-put_option in
    is_laid _ _ ((option o).answer ∙ option_given _ _ _ _ _ _ _ _ c.loop-i.invariant.1 _ (next o))

pub overflow_add-next : goal.overflow_add-next
overflow_add-next c = omega (arith, (turn_at c).fits)

pub loop-i-preserved : goal.loop-i-preserved
loop-i-preserved c = (c.loop-i.invariant.0, turn_at c)

pub unwrap-requires-2 : goal.unwrap-requires-2
unwrap-requires-2 c =
    let p = (goal.at.unwrap-requires-2 c).After-put_payload-2 in
    is_laid _ _ ((payload_at p).answer ∙ last_given c.args.strict _ _ _ c.requires.0 c.requires.1 _ _ _ (head_at p) (ap written c.unwrap-next.ensures) _ _ (options_at p))

pub returns : goal.returns
returns c =
    let p = (goal.at.returns c).After-put_payload-2 in
    whole c.args.strict _ _ _ c.requires.0 c.requires.1 _ _ _ (head_at p) (ap written c.unwrap-next.ensures) _ _ (options_at p) _ _ _ (payload_at p) (ap written c.unwrap-2.ensures)
