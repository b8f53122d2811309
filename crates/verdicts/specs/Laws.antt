-- What holds of every verdict.
use Rattle.std.specs.Prelude.{◌≡◌, ℕ, ◌+◌, ◌≤◌, true, List, length}
use Rattle.std.specs.List.{AllByRecursion}
use Rattle.timing.specs.Time.{Params}
use Rattle.model.specs.Receiver.{Message}
use Rattle.stage.specs.declared.event.Event.{Event}
use Rattle.verdicts.specs.declared.fate.Fate.{Fate}
use Rattle.verdicts.specs.declared.fate.Verdict.{Verdict}
use Rattle.verdicts.specs.Fates.{fate_of, row_of, AreFates}
use Rattle.verdicts.specs.Verdicts.{verdict_of}

-- a receiver that it reached in time believes it
abbrev pub Believed : Fate → Type 0
Believed f = f.in_time ≡ true → f.delivered ≡ true

-- what a verdict says: believed by all whom it reached in time
abbrev pub ByAll : Verdict → Type 0
ByAll v = v.reached ≡ v.believed

-- by the events, it is believed by all receivers that it reached in time
abbrev pub BelievedByAll : Params → (said : List Message) → List Event → (receivers message : ℕ) → Type 0
BelievedByAll p said es rs k = (n : ℕ) → 1 ≤ n → n ≤ rs → Believed (fate_of p said es k n)

-- a verdict says so exactly if it is so, of any fates, and of those of a message by the events of a play; and each whom it reached is counted once
pub record VerdictsHold : Type 0 where
  pub said_so : (fs : List Fate) → ByAll (verdict_of fs) → AllByRecursion Believed fs
  pub is_so : (fs : List Fate) → AllByRecursion Believed fs → ByAll (verdict_of fs)
  pub said_of : (p : Params) (said : List Message) (es : List Event) (rs k : ℕ) (fs : List Fate) → AreFates p said es rs fs → 1 ≤ k → k ≤ length said → ByAll (verdict_of (row_of rs k fs)) → BelievedByAll p said es rs k
  pub is_of : (p : Params) (said : List Message) (es : List Event) (rs k : ℕ) (fs : List Fate) → AreFates p said es rs fs → 1 ≤ k → k ≤ length said → BelievedByAll p said es rs k → ByAll (verdict_of (row_of rs k fs))
  pub parts : (fs : List Fate) → (verdict_of fs).reached ≡ (verdict_of fs).believed + (verdict_of fs).no_key + (verdict_of fs).no_room
