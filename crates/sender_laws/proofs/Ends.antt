-- What a sender sends is heard.
use Rattle.std.proofs.Common.{◌≡◌, ℕ, zero, suc, ◌+◌, ◌-◌, ◌*◌, ◌^◌, ◌<◌, ◌≤◌, Bool, true, false, cond, not, ◌&&◌, eqb, ltb, leb, List, length, Some, Ok, sym, refl, ap, ◌∙◌, mul_comm, add-mul, mul-le-mul, arith}
use Rattle.std.proofs.lemmas.List.{length-take-le}
use Rattle.std.proofs.lemmas.Bool.{cond_both, and_from, lt-ltb, le-leb}
use Rattle.std.proofs.lemmas.Bool.Decides.{nat_tests as ways}
use Rattle.std.specs.Str.{bytes_eq}
use Rattle.sha256.specs.Hmac.{hmac}
use Rattle.sha256.proofs.Keys.{hmac_length}
use Rattle.timing.specs.declared.parameters.Parameters.{Parameters}
use Rattle.timing.specs.Time.{Params, parameters_of, in_range, interval_at, opening, release, may_be_out, too_early}
use Rattle.timing.specs.declared.refusal.Refusal.TheVariants.{OutOfRange, TooLate, KeyHad, TooEarly, NoRoom, KeyNotAfter, KeyTooFar, KeyMisfit}
use Rattle.model.specs.Receiver as model
use Rattle.model.specs.Receiver.{walked}
use Rattle.model.specs.Run.{Within}
use Rattle.model.proofs.Intervals.{limits, in_time, not_early, not_opened}
use Rattle.keychain.specs.Chain.{key_down, tagged, zeros}
use Rattle.wire.specs.Fits.{KeyFits, PacketFits, SetupFits}
use Rattle.wire.specs.Formats.{Key, key_encoded, message_encoded, message_event, key_event}
use Rattle.wire.specs.Setup.{settings_encoded, settings_answer}
use Rattle.wire.proofs.Setup.{settings_back}
use Rattle.wire.proofs.Reading.{message_event_lem, key_event_lem}
use Rattle.turns.specs.Turns.{disclosed}
use Rattle.sender.specs.State.{State, interval, newest, key_of, advanced, alone, saying_of, key_shown, may_not, message_of, setup_for}
use Rattle.sender_laws.specs.Run.{tick, say}
use Rattle.sender_laws.specs.Ends.{bytes_of_tick, bytes_of_spoken, Welcome, Heard, BothEnds}
use Rattle.sender_laws.proofs.Cases.{tick_cases, say_cases, shown_cases, alone_most, disclosed_most}

few_intervals : (p : Params) → in_range p ≡ true → p.last ≤ 16384
few_intervals p e = grind (arith, ways)

-- keys have 32 bytes
key_long : (n : ℕ) (d : List ℕ) → length d ≡ 32 → length (key_down n d) ≡ 32
unfolding walked
key_long zero d l = l
key_long (suc n) d l = hmac_length _ _

shown_long : (s : State) (j : ℕ) → length s.drawn ≡ 32 → length (key_shown s j) ≡ 32
shown_long s j l = cond_both (eqb j 0) zeros (key_of s j) (λ k. length k ≡ 32) (λ e. refl) (λ e. key_long (s.numbers.last - j) s.drawn l)

tag_long : (key text : List ℕ) → length (tagged key text) ≡ 16
tag_long key text = let k = model.mac_key_bytes hmac key in length-take-le 16 (hmac k text) (omega (arith, hmac_length k text))

fits : (s : State) (text : List ℕ) → in_range s.numbers ≡ true → length s.drawn ≡ 32 → length text ≤ 200 → may_not s ≡ false → PacketFits (message_of s text)
fits s text e l h m =
    let few = few_intervals s.numbers e in
    let i : interval s ≤ s.numbers.last = grind (arith, ways) in
    let f : s.index ≤ 63 = grind (arith, ways) in
    let most = disclosed_most s.turn (newest s) in
    record {
      says = record { interval = omega arith; index = omega arith; text = h };
      tag = tag_long (key_of s (interval s)) (model.message_bytes (saying_of s text));
      behind = record { interval = omega arith; key = shown_long s (disclosed s.turn (newest s)) l };
    }

-- a clock within the bound, before the interval ends
late_not : (p : Params) (now clock i : ℕ) → in_range p ≡ true → Within p now clock → interval_at p now ≡ i → may_be_out p clock i ≡ false
late_not p now clock i e w at =
    let k = limits p e in
    let a : now < opening p (i + 1) = not_opened p (i + 1) now k.some_ticks (omega arith) in
    let f : release p i - 1 ≡ (i + 1 - 1) + p.delay = omega arith in
    let g : opening p (release p i) ≡ opening p (i + 1) + p.ticks * p.delay = ap (λ n. n * p.ticks) f ∙ (add-mul (i + 1 - 1) p.delay p.ticks ∙ ap (λ n. opening p (i + 1) + n) (mul_comm p.delay p.ticks)) in
    in_time p now clock i k.some_ticks w.not_fast (omega (arith, a, g, k.small_error))

early_not : (p : Params) (now clock i : ℕ) → in_range p ≡ true → 0 < i → Within p now clock → interval_at p now ≡ i → too_early p clock i ≡ false
early_not p now clock i e z w at = not_early p now clock i (limits p e).some_ticks z w.not_slow (omega arith)

welcome_message : (a b c d e f : Bool) → a ≡ true → c ≡ false → e ≡ false →
    Welcome (model.outcome_number (cond (not a) (model.refused OutOfRange) (cond b model.already (cond c (model.refused TooLate) (cond d (model.refused KeyHad) (cond e (model.refused TooEarly) (cond (not f) (model.refused NoRoom) model.buffered)))))))
welcome_message a b c d e f p q r =
    rw (p, q, r)
    (cond_both b model.already (cond d (model.refused KeyHad) (cond (not f) (model.refused NoRoom) model.buffered)) (λ o. Welcome (model.outcome_number o))
    (λ x. ((λ z. omega arith), (λ z. omega arith), (λ z. omega arith), λ z. omega arith))
    (λ x. cond_both d (model.refused KeyHad) (cond (not f) (model.refused NoRoom) model.buffered) (λ o. Welcome (model.outcome_number o))
    (λ y. ((λ z. omega arith), (λ z. omega arith), (λ z. omega arith), λ z. omega arith))
    (λ y. cond_both (not f) (model.refused NoRoom) model.buffered (λ o. Welcome (model.outcome_number o))
    (λ v. ((λ z. omega arith), (λ z. omega arith), (λ z. omega arith), λ z. omega arith))
    (λ v. ((λ z. omega arith), (λ z. omega arith), (λ z. omega arith), λ z. omega arith)))))

welcome_key : (a b c d : Bool) → a ≡ true →
    Welcome (model.outcome_number (cond (not a) (model.refused OutOfRange) (cond b (model.refused KeyNotAfter) (cond c (model.refused KeyTooFar) (cond d (model.refused KeyMisfit) model.taken)))))
welcome_key a b c d p =
    rw p
    (cond_both b (model.refused KeyNotAfter) (cond c (model.refused KeyTooFar) (cond d (model.refused KeyMisfit) model.taken)) (λ o. Welcome (model.outcome_number o))
    (λ x. ((λ z. omega arith), (λ z. omega arith), (λ z. omega arith), λ z. omega arith))
    (λ x. cond_both c (model.refused KeyTooFar) (cond d (model.refused KeyMisfit) model.taken) (λ o. Welcome (model.outcome_number o))
    (λ y. ((λ z. omega arith), (λ z. omega arith), (λ z. omega arith), λ z. omega arith))
    (λ y. cond_both d (model.refused KeyMisfit) model.taken (λ o. Welcome (model.outcome_number o))
    (λ v. ((λ z. omega arith), (λ z. omega arith), (λ z. omega arith), λ z. omega arith))
    (λ v. ((λ z. omega arith), (λ z. omega arith), (λ z. omega arith), λ z. omega arith)))))

-- a key by itself
hears_key : (p : Params) (r : model.State) (k : Key) → KeyFits k → 0 < k.interval → k.interval ≤ p.last → Heard p r (key_encoded k)
hears_key p r k f some l = record {
  event = key_event k;
  read_as = key_event_lem k f;
  welcome = welcome_key (model.in_chain p k.interval) (leb k.interval r.newest) (ltb (r.newest + 1024) k.interval) (not (bytes_eq (key_down (k.interval - r.newest) k.key) r.key)) (and_from _ _ (lt-ltb 0 k.interval some) (le-leb k.interval p.last l));
}

hears_message : (s : State) (text : List ℕ) (r : model.State) (now : ℕ) → in_range s.numbers ≡ true → length s.drawn ≡ 32 → length text ≤ 200 → may_not s ≡ false →
    interval_at s.numbers now ≡ interval s → Within s.numbers now r.clock → Heard s.numbers r (message_encoded (message_of s text))
hears_message s text r now e l h m at w =
    let i : interval s ≤ s.numbers.last = grind (arith, ways) in
    let f : s.index ≤ 63 = grind (arith, ways) in
    record {
      event = message_event (message_of s text);
      read_as = message_event_lem (message_of s text) (fits s text e l h m);
      welcome = welcome_message (model.in_chain s.numbers (interval s) && leb s.index 63) (model.is_in (message_of s text).message r.buffer) _ (leb (interval s) r.newest) _ (model.has_room r.buffer (interval s))
          (and_from _ _ (and_from _ _ (lt-ltb 0 (interval s) (omega arith)) (le-leb (interval s) s.numbers.last i)) (le-leb s.index 63 f))
          (late_not s.numbers now r.clock (interval s) e w at)
          (early_not s.numbers now r.clock (interval s) e (omega arith) w at);
    }

pub both_ends : BothEnds
both_ends s (tick t) r b now e l is h at w =
    tick_cases s t (λ u a. bytes_of_tick a ≡ Some b → Heard s.numbers r b)
    (λ g n. absurd (let z : ◌≡◌ {A = ℕ} 0 1 = cc in omega arith))
    (λ g d n. absurd (let z : ◌≡◌ {A = ℕ} 0 1 = cc in omega arith))
    (λ g d. shown_cases s (alone (advanced s t)) (λ a. bytes_of_tick a ≡ Some b → Heard s.numbers r b)
    (λ z n. absurd (let y : ◌≡◌ {A = ℕ} 0 1 = cc in omega arith))
    (λ z n.
    let k : Key = record { interval = alone (advanced s t); key = key_of s (alone (advanced s t)) } in
    let q : key_encoded k ≡ b = cc in
    let most = alone_most (advanced s t) in
    let few = few_intervals s.numbers e in
    rw (← q) (hears_key s.numbers r k (record { interval = omega arith; key = key_long (s.numbers.last - alone (advanced s t)) s.drawn l }) (omega (arith, z)) (omega arith))))
    is
both_ends s (say text) r b now e l is h at w =
    say_cases s text (λ u a. bytes_of_spoken a ≡ Some b → interval u ≡ interval_at s.numbers now → Heard s.numbers r b)
    (λ n y. absurd (let z : ◌≡◌ {A = ℕ} 0 1 = cc in omega arith))
    (λ n y. absurd (let z : ◌≡◌ {A = ℕ} 0 1 = cc in omega arith))
    (λ g m n y. let q : message_encoded (message_of s text) ≡ b = cc in rw (← q) (hears_message s text r now e l g m (sym y) w))
    is (sym at)

-- the limits of parameters
pub limits_in_range : (p : Parameters) → in_range (parameters_of p) ≡ true
limits_in_range p =
    and_from _ _ (and_from _ _ (le-leb 1 p.ticks p.some_ticks) (le-leb p.ticks 3600 p.few_ticks))
    (and_from _ _ (and_from _ _ (le-leb 1 p.delay p.some_delay) (le-leb p.delay 8 p.small_delay))
    (and_from _ _ (and_from _ _ (le-leb 1 p.last p.some_intervals) (le-leb p.last 16384 p.few_intervals)) (lt-ltb (2 * p.error) (p.ticks * p.delay) p.small_error)))

pub setup_fits : (p : Parameters) (d : List ℕ) (start : ℕ) → length d ≡ 32 → start < 2 ^ 64 → SetupFits (setup_for (parameters_of p) d start)
setup_fits p d start l a =
    let m : p.ticks * p.delay ≤ 3600 * 8 = mul-le-mul p.few_ticks p.small_delay in
    record {
      start = a;
      ticks = omega (arith, p.few_ticks);
      delay = omega (arith, p.small_delay);
      error = omega (arith, p.small_error, m);
      last = omega (arith, p.few_intervals);
      commitment = key_long (p.last - 0) d l;
    }

-- the settings that a sender gives out are read as they were
pub settings_told : (p : Parameters) (d b : List ℕ) (start : ℕ) → length d ≡ 32 → start < 2 ^ 64 → b ≡ settings_encoded (setup_for (parameters_of p) d start) → settings_answer b ≡ Ok (setup_for (parameters_of p) d start)
settings_told p d b start l a e = ap settings_answer e ∙ settings_back (setup_for (parameters_of p) d start) (setup_fits p d start l a) (limits_in_range p)
