-- The cases of a tick, and of saying something.
use Rattle.std.proofs.Common.{◌≡◌, ℕ, ◌<◌, ◌≤◌, min, true, false, cond, leb, List, length, ◌∙◌, arith}
use Rattle.std.proofs.lemmas.Bool.{lt-ltb, le-ltb, le-leb, cond-true}
use Rattle.std.proofs.lemmas.Bool.Decides.{nat_tests}
use Rattle.timing.specs.declared.refusal.Refusal.TheVariants.{Malformed, OutOfRange}
use Rattle.model.specs.Receiver.{message_bytes}
use Rattle.keychain.specs.Chain.{tagged}
use Rattle.wire.specs.Bytes.{over}
use Rattle.wire.specs.Formats.{packet}
use Rattle.turns.specs.Turns.{disclosed}
use Rattle.sender.specs.State.{State, interval, newest, key_of, advanced, due, alone, told_alone, shown_key, ticked, tick_answer, back, nothing, said, say_answer, refused, sent, may_not, key_shown, after_said, message_of}

pub at_back : (s : State) (t : ℕ) → t < s.clock → (ticked s t ≡ s) × (tick_answer s t ≡ back)
unfolding ticked tick_answer
at_back s t h = (rw (lt-ltb t s.clock h), rw (lt-ltb t s.clock h))

pub at_none : (s : State) (t : ℕ) → s.clock ≤ t → due (advanced s t) ≡ false → (ticked s t ≡ advanced s t) × (tick_answer s t ≡ nothing)
unfolding ticked tick_answer
at_none s t h d = (rw (le-ltb t s.clock h, d), rw (le-ltb t s.clock h, d))

pub at_due : (s : State) (t : ℕ) → s.clock ≤ t → due (advanced s t) ≡ true → (ticked s t ≡ told_alone (advanced s t)) × (tick_answer s t ≡ shown_key s (alone (advanced s t)))
unfolding ticked tick_answer
at_due s t h d = (rw (le-ltb t s.clock h, d), rw (le-ltb t s.clock h, d))

pub too_long : (s : State) (text : List ℕ) → 200 < length text → (said s text ≡ s) × (say_answer s text ≡ refused Malformed)
unfolding said say_answer
too_long s text h = (rw (lt-ltb 200 (length text) h), rw (lt-ltb 200 (length text) h))

pub out_of_range : (s : State) (text : List ℕ) → length text ≤ 200 → may_not s ≡ true → (said s text ≡ s) × (say_answer s text ≡ refused OutOfRange)
unfolding said say_answer
out_of_range s text h m = (rw (le-ltb 200 (length text) h, m), rw (le-ltb 200 (length text) h, m))

pub at_sent : (s : State) (text : List ℕ) → length text ≤ 200 → may_not s ≡ false → (said s text ≡ after_said s) × (say_answer s text ≡ sent (message_of s text))
unfolding said say_answer
at_sent s text h m = (rw (le-ltb 200 (length text) h, m), rw (le-ltb 200 (length text) h, m))

pub lies_in_range : (s : State) (i : ℕ) → i ≡ min (interval s) 65535 → may_not s ≡ false → s.numbers.last ≤ 16384 → i ≡ interval s
lies_in_range s i e m h = grind (arith, nat_tests)

pub message_is : (s : State) (text tag key : List ℕ) (i j : ℕ) → i ≡ interval s → j ≡ disclosed s.turn (newest s) → tag ≡ tagged (key_of s (interval s)) (message_bytes (record { interval = i; index = s.index; text = text })) → key ≡ key_shown s j →
    packet (record { interval = i; index = s.index; text = text }) tag (record { interval = j; key = key }) ≡ message_of s text
message_is s text tag key i j e f g h = rw (g, h, f, e)

-- the memory after wire wrote a text that is short enough
pub memory_is : (n : ℕ) (out w old : List ℕ) → out ≡ cond (leb n 200) (over w old) old → n ≤ 200 → out ≡ over w old
memory_is n out w old e h = e ∙ cond-true (leb n 200) _ _ (le-leb n 200 h)
