-- A call's answer by the history alone, as one definition; and why it is a refusal.
use Prim.Native.Nat.{ℕ, ◌<◌, ◌≤◌}
use mathlib.Core.Path.{◌≡◌, refl, sym}
use mathlib.Core.List.{List}
use mathlib.Core.Logic.{inl, inr}
use native.Mathlib.Omega.{arith}
use lib.Dec.{eqb, ltb}
use borrow.Author.Tests.{lt-ltb, le-ltb, eq-eqb, ne_eqb}
use Rattle.ground.specs.Choice.{pick}
use Rattle.ground.proofs.Choice.{on_lt, on_eq, by_eq}
use Rattle.rfc.specs.Duplicates.{Arrival, Verdict, new, duplicate, passed, verdict, count, any}
use Rattle.refusal.specs.Answer.{Answer, given, refused}
use Rattle.refusal.proofs.Answers.{not_refused, same_given, same_refused}
use Rattle.hearing.specs.Told.{Why}

-- A verdict where so many earlier new ones are unexpired: a new one is refused, 12, where they are 64.
abbrev pub placed : ℕ → Verdict → Answer Verdict
placed n new = pick (ltb n 64) (given new) (refused 12)
placed n duplicate = given duplicate
placed n passed = given passed

-- A call's answer by the time before and the new ones so far; and where the listing has places for so many more.
unfoldable pub telling : ℕ → List Arrival → Arrival → Answer Verdict
telling before fresh m =
    pick (ltb m.time before) (refused 21) (placed (count m.time any fresh) (verdict fresh m))

unfoldable pub telling_in : ℕ → ℕ → List Arrival → Arrival → Answer Verdict
telling_in room before fresh m =
    pick (ltb m.time before) (refused 21) (pick (eqb room 0) (refused 12) (telling before fresh m))

-- What an answer that isn't a refusal says.
verdict_is : (w v : Verdict) (n : ℕ) → placed n w ≡ given v → w ≡ v
verdict_is new v n = on_lt (λ (a : Answer Verdict). a ≡ given v → new ≡ v) n 64 (λ _ e. same_given e) (λ _ e. not_refused (sym e))
verdict_is duplicate v n = λ e. same_given e
verdict_is passed v n = λ e. same_given e

pub record Accepted (before : ℕ) (fresh : List Arrival) (m : Arrival) (v : Verdict) : Type 0 where
  pub time : before ≤ m.time
  pub is : verdict fresh m ≡ v
  pub room : placed (count m.time any fresh) v ≡ given v

pub accepted : (before : ℕ) (fresh : List Arrival) (m : Arrival) (v : Verdict) → telling before fresh m ≡ given v → Accepted before fresh m v
unfolding telling
accepted before fresh m v =
    on_lt (λ (a : Answer Verdict). a ≡ given v → Accepted before fresh m v) m.time before (λ _ e. not_refused (sym e))
    (λ h e.
    let i = verdict_is (verdict fresh m) v (count m.time any fresh) e in
    record { time = h; is = i; room = rw i at e })

pub room_left : (n : ℕ) → placed n new ≡ given new → n < 64
room_left n = on_lt (λ (a : Answer Verdict). a ≡ given new → n < 64) n 64 (λ h _. h) (λ _ e. not_refused (sym e))

-- A verdict is refused where it is new and there are 64, and then with 12.
full_at : (v : Verdict) (n k : ℕ) → placed n v ≡ refused k → (k ≡ 12) × (v ≡ new) × (64 ≤ n)
full_at new n k =
    on_lt (λ (a : Answer Verdict). a ≡ refused k → (k ≡ 12) × (new ≡ new) × (64 ≤ n)) n 64 (λ _ e. not_refused e)
    (λ h e. (same_refused (sym e), refl, h))
full_at duplicate n k = λ e. not_refused e
full_at passed n k = λ e. not_refused e

module _ (room before : ℕ) (fresh : List Arrival) (m : Arrival) where
  -- With places left the listing has no say.
  pub told_roomy : 0 < room → telling_in room before fresh m ≡ telling before fresh m
  unfolding telling_in telling
  told_roomy h =
      on_lt (λ (a : Answer Verdict). pick (ltb m.time before) (refused 21) (pick (eqb room 0) (refused 12) a) ≡ a) m.time before
      (λ t. rw (lt-ltb m.time before t)) (λ t. rw (le-ltb m.time before t, ne_eqb room 0 (λ e. omega arith)))

  -- Why it is refused, and that it is refused for each reason.
  pub told_why : (k : ℕ) → telling_in room before fresh m ≡ refused k → Why room before fresh m k
  unfolding telling_in telling
  told_why k =
      on_lt P m.time before (λ h e. inl (same_refused (sym e), h))
      (λ h. on_eq P room 0 (λ z e. inr (same_refused (sym e), h, inl z))
      (λ _. on_lt P m.time before (λ t e. absurd (omega arith))
      (λ _ e. let r = full_at (verdict fresh m) (count m.time any fresh) k e in inr (r.0, h, inr (record { is_new = r.1; full = r.2 })))))
    where
      P : Answer Verdict → Type 0
      P a = a ≡ refused k → Why room before fresh m k

  pub why_told : (k : ℕ) → Why room before fresh m k → telling_in room before fresh m ≡ refused k
  unfolding telling_in telling
  why_told k (inl (e, h)) = rw (lt-ltb m.time before h, e)
  why_told k (inr (e, h, inl z)) = rw (le-ltb m.time before h, eq-eqb room 0 z, e)
  why_told k (inr (e, h, inr p)) =
      by_eq room 0 (λ z. rw (le-ltb m.time before h, eq-eqb room 0 z, e))
      (λ z. rw (le-ltb m.time before h, ne_eqb room 0 z, p.is_new, le-ltb (count m.time any fresh) 64 p.full, e))
