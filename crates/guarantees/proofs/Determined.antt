-- No second answer meets a promise: the law, and each definition of the codec that tells answers apart.
use mathlib.Core.Path.{sym, ◌∙◌, ◌≡◌, refl}
use Rattle.std.specs.Prelude.{Ok, Err, Some, None}
use Rattle.refusal.specs.Number.{number_of}
use Rattle.refusal.proofs.Distinct.{distinct, one_written, one_outcome}
use Rattle.decimal.specs.Decimal.{decimal_of}
use Rattle.header.proofs.Raw.{one_raw}
use Rattle.packet.specs.Packet.{new_packet}
use Rattle.packet.specs.declared.Packet.{Packet}
use Rattle.judging.proofs.Good.{one_judged}
use Rattle.option_reading.specs.Answers.{found_of}
use Rattle.option_reading.specs.declared.Found.TheVariants.{End, Option}
use Rattle.reading.specs.Reading.{decoded}
use Rattle.unflat.specs.Unflat.{taken}
use Rattle.guarantees.specs.Apart.{TellsApart}
use Rattle.guarantees.specs.Determined.{OneAnswer, Told}
use Rattle.guarantees.proofs.Refusals.{apart}

pub one_answer : OneAnswer
one_answer A B f t d x y e q = t x y (e ∙ sym q)

one_decimal : TellsApart decimal_of
one_decimal (Some m) (Some n) e = cc
one_decimal (Some m) None e = cc
one_decimal None (Some n) e = cc
one_decimal None None e = refl

one_place : TellsApart found_of
one_place (Ok (End a m)) (Ok (End b n)) e = cc
one_place (Ok (End a m)) (Ok (Option s)) e = cc
one_place (Ok (End a m)) (Err y) e = cc
one_place (Ok (Option r)) (Ok (End b n)) e = cc
one_place (Ok (Option r)) (Ok (Option s)) e = cc
one_place (Ok (Option r)) (Err y) e = cc
one_place (Err x) (Ok (End b n)) e = cc
one_place (Err x) (Ok (Option s)) e = cc
one_place (Err x) (Err y) e = let k : number_of x ≡ number_of y = cc in rw (distinct x y k)

one_taken : TellsApart taken
one_taken = apart Packet taken new_packet (record { value = λ v. refl; refusal = λ e. refl })

pub one_decoded : TellsApart decoded
one_decoded = apart Packet decoded new_packet (record { value = λ v. refl; refusal = λ e. refl })

pub told : Told
told =
    record {
      writers = one_written;
      outcomes = one_outcome;
      decimals = one_decimal;
      raw_headers = one_raw;
      judgements = one_judged;
      places = one_place;
      packets_read = one_decoded;
      flat_packets = one_taken;
    }
