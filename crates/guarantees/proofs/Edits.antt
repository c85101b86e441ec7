-- What edits do, from their promises and the laws of their definitions.
use Prim.Native.Nat.{ℕ}
use mathlib.Core.Path.{◌≡◌, refl, ap, subst, sym, ◌∙◌}
use mathlib.Core.List.{List, [], ◌∷◌}
use Rattle.std.specs.Prelude.{Result, Ok}
use Rattle.rfc.specs.Uint.{uint}
use Rattle.refusal.specs.Answer.{Answer, given, refused, Beside, after}
use Rattle.refusal.proofs.Answers.{not_refused}
use Rattle.refusal.specs.declared.Refusal.{Refusal}
use Rattle.packet.specs.Packet.{stores}
use Rattle.packet.specs.Meaning.{meaning}
use Rattle.packet.specs.declared.Packet.{Packet}
use Rattle.splicing.specs.Edited.{edited, Edits}
use Rattle.splicing.specs.Splice.{ranges_in, homed}
use Rattle.editing.specs.Edit.{token_set, payload_set, added, option_set, cleared, cleared_all}
use Rattle.editing.specs.Message.{option_added, options_set}
use Rattle.editing.proofs.Made.{made_homed, added_order, set_order, cleared_order, empty_order, token_order, payload_order}
use Rattle.editing.proofs.Meaning.{meaning_token, meaning_payload, meaning_added, meaning_cleared, meaning_empty, meaning_set}
use Rattle.typed_options.specs.Setters.{format_set, observe_set}
use Rattle.typed_options.proofs.Values.{meaning_format, meaning_observe}
use Rattle.guarantees.specs.Edits.{EditsMean, SettersMean, PacketKept, StoreKept, ToldApart}
use Rattle.guarantees.proofs.Refusals.{Telling, besides, apart}

-- An edit that is done has given its packet.
done : (p : Packet) (a : Answer Packet) (r : Result Packet Refusal) (q : Packet) → Edits p a r → r ≡ Ok q → a ≡ given q
done p (given v) r q promise is = ap given (ap (λ (b : Beside Packet). b.value) (sym promise ∙ ap (edited p) is))
done p (refused k) r q promise is = not_refused (ap (λ (b : Beside Packet). b.answer) (sym (ap (edited p) is) ∙ promise))

pub edits_mean : (p : Packet) → EditsMean p
edits_mean p =
    record {
      token = λ range r e q is.
          let g = done p (token_set p range) r q e is in (λ s. meaning_token s p q range g, token_order p q range g);
      payload = λ range r e q is.
          let g = done p (payload_set p range) r q e is in (λ s. meaning_payload s p q range g, payload_order p q range g);
      added = λ n range r e q is.
          let g = done p (added p n range) r q e is in (λ s. meaning_added s p q n range g, added_order p q n range g);
      set = λ n numbers r e q is.
          let g = (made_homed p q numbers (option_set p n) (done p (homed numbers (option_set p n)) r q e is)).1 in
          (λ s. meaning_set s p q n (ranges_in numbers) g, set_order p q n (ranges_in numbers) g);
      cleared = λ n r e q is.
          let g = done p (cleared p n) r q e is in (λ s. meaning_cleared s p q n g, cleared_order p q n g);
      cleared_all_lem = λ r e q is.
          let g = done p (cleared_all p) r q e is in (λ s. meaning_empty s p q g, empty_order p q g);
    }

pub setters_mean : (p : Packet) (start n : ℕ) (old : List ℕ) (r : Result Packet Refusal) (new : List ℕ) → SettersMean p start n old r new
setters_mean p start n old r new =
    record {
      format = λ e q is u d.
          let g = done p (format_set old start p n) r q e.answer is in
          let store = e.store ∙ ap (λ (a : Answer Packet). after a start (uint 2 n) old) g in
          subst (λ (l : List ℕ). meaning (stores d l) q ≡ option_added (meaning (stores d old) p) 12 (uint 2 n)) (sym store) (meaning_format d old start n p q g u);
      observe = λ e q is u d.
          let g = done p (observe_set old start p n) r q e.answer is in
          let store = e.store ∙ ap (λ (a : Answer Packet). after a start (uint 4 n) old) g in
          subst (λ (l : List ℕ). meaning (stores d l) q ≡ options_set (meaning (stores d old) p) 6 (uint 4 n ∷ [])) (sym store) (meaning_observe d old start n p q g u);
    }

-- What is told of an edit has the packet that came beside a refusal.
telling : (old : Packet) → Telling Packet (edited old) old
telling old = record { value = λ v. refl; refusal = λ e. refl }

pub packet_kept : PacketKept
packet_kept a old r q = besides Packet (edited old) old (telling old) r

pub store_kept : StoreKept
store_kept (given p) old r start bytes store new q e is = not_refused (ap (λ (b : Beside Packet). b.answer) (sym q.answer ∙ ap (edited old) is))
store_kept (refused k) old r start bytes store new q e is = q.store

pub told_apart : ToldApart
told_apart = record { edits = λ old. apart Packet (edited old) old (telling old) }
