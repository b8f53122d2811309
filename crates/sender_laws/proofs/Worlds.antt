-- Every call of a sender is by the model's steps.
use Rattle.std.proofs.Common.{◌≡◌, ℕ, ◌<◌, ◌≤◌, false, cond, eqb, List, [], ◌∷◌, length, sym, refl, ap, ◌∙◌, inl, inr, ⊎_elim, arith}
use mathlib.Core.List.Memᴰ
use mathlib.Core.List.{Memᴰ}
use Rattle.std.proofs.lemmas.Bool.{cond_both, cases_eq, eqb-false}
use Rattle.std.proofs.lemmas.Bool.Decides.{nat_tests as ways}
use Rattle.timing.specs.Time.{Params, interval_at, release}
use Rattle.model.specs.Term.{Term}
use Rattle.model.specs.Receiver.{Said}
use Rattle.model.specs.Run.{Utterance, MaySay, here, onward, passes, says, discloses, passed, uttered, told_key}
use Rattle.model.proofs.Intervals.{limits, interval_mono}
use Rattle.keychain.proofs.Chains.{chain_terms}
use Rattle.turns.specs.Turns.{disclosed}
use Rattle.sender.specs.State.{State, interval, newest, advanced, alone, told_alone, shown_key, saying_of, may_not, after_said}
use Rattle.sender_laws.specs.Run.{Event, tick, say, step, Before}
use Rattle.sender_laws.specs.Worlds.{Worlds, OnAir, key_out, tag_said, Stands, after_tick, after_spoken, Moves, MovesWorlds, Lawful, StandsFirst, Undisturbed, TickGenuine, SpokenGenuine, Genuine}
use Rattle.sender_laws.proofs.Cases.{tick_cases, say_cases, shown_cases, alone_most, disclosed_most, later, index_same}

air_later : (p : Params) (t v : ℕ) (us : List Utterance) → 0 < p.ticks → t ≤ v → {x : Term} → OnAir p t us x → OnAir p v us x
air_later p t v us pos h (key_out i l o) = key_out i l (⊎_elim (λ z. inl z) (λ r. inr (omega (arith, r, interval_mono p t v pos h))) o)
air_later p t v us pos h (tag_said u m) = tag_said u m

air_said : (p : Params) (t : ℕ) (us : List Utterance) (u : Utterance) → {x : Term} → OnAir p t us x → OnAir p t (u ∷ us) x
air_said p t us u (key_out i l o) = key_out i l o
air_said p t us u (tag_said y m) = tag_said y (Memᴰ.tail m)

before_advanced : (s : State) (t : ℕ) (x : Said) → 0 < s.numbers.ticks → s.clock ≤ t → Before x (saying_of s []) → Before x (saying_of (advanced s t) [])
before_advanced s t x pos h b =
    let m = later s t pos h in
    ⊎_elim
    (λ l. inl (omega (arith, l, m)))
    (λ q. ⊎_elim
    (λ (e : interval (advanced s t) ≡ interval s). inr (omega (arith, q.0, e), omega (arith, q.1, index_same s t e)))
    (λ (n : interval (advanced s t) ≡ interval s → ⊥). inl (omega (arith, q.0, m)))
    (cases_eq (interval (advanced s t)) (interval s)))
    b

-- what the settings of a state say of those of its world
record Same (p : Params) (s : State) : Type 0 where
  pub some_ticks : 0 < s.numbers.ticks
  pub ticks_too : 0 < p.ticks
  pub last_is : s.numbers.last ≡ p.last
  pub delay_is : s.numbers.delay ≡ p.delay
  pub at_is : (t : ℕ) → interval_at s.numbers t ≡ interval_at p t

same : {p : Params} {s : State} {w : Worlds p} → Stands p s w → Same p s
same {p} {s} st =
    let e = st.numbers_are in
    let k = (limits p st.lies_in_range).some_ticks in
    record {
      some_ticks = omega (arith, k, ap (λ q. q.ticks) e);
      ticks_too = k;
      last_is = ap (λ q. q.last) e;
      delay_is = ap (λ q. q.delay) e;
      at_is = λ t. ap (λ q. interval_at q t) e;
    }

-- the time goes on
passed_stands : (p : Params) (s : State) (w : Worlds p) (t : ℕ) → Stands p s w → s.clock ≤ t → Stands p (advanced s t) (passed t w)
passed_stands p s w t st h =
    let k = same st in
    record {
      lies_in_range = st.lies_in_range;
      numbers_are = st.numbers_are;
      long = st.long;
      time = refl;
      may_say = st.may_say;
      before = λ u m. before_advanced s t u.says k.some_ticks h (st.before u m);
      on_air = λ x m. air_later p w.now t w.said k.ticks_too (omega (arith, st.time)) (st.on_air x m);
    }

-- another interval for a key by itself, and another turn
alone_stands : (p : Params) (s : State) (w : Worlds p) → Stands p s w → Stands p (told_alone s) w
alone_stands p s w st = record {
  lies_in_range = st.lies_in_range;
  numbers_are = st.numbers_are;
  long = st.long;
  time = st.time;
  may_say = st.may_say;
  before = st.before;
  on_air = st.on_air;
}

-- a key on the air
told_stands : (p : Params) (s : State) (w : Worlds p) (j : ℕ) → Stands p s w → j ≤ p.last → release p j ≤ interval_at p w.now → Stands p s (told_key p j w)
told_stands p s w j st l r = record {
  lies_in_range = st.lies_in_range;
  numbers_are = st.numbers_are;
  long = st.long;
  time = st.time;
  may_say = st.may_say;
  before = st.before;
  on_air = λ x m. elim (Memᴰ.cases_cons m) [ inl e ↦ rw e (key_out j l (inr r)) | inr o ↦ st.on_air x o ];
}

at_tick : (p : Params) (s : State) (w : Worlds p) (t : ℕ) → Stands p s w → s.clock ≤ t → Moves p s.drawn (told_alone (advanced s t)) w (after_tick p (shown_key s (alone (advanced s t))) t w)
at_tick p s w t st h =
    let k = same st in
    let most = alone_most (advanced s t) in
    let q : w.now ≤ t = omega (arith, st.time) in
    let u = alone_stands p (advanced s t) (passed t w) (passed_stands p s w t st h) in
    shown_cases s (alone (advanced s t)) (λ a. Moves p s.drawn (told_alone (advanced s t)) w (after_tick p a t w))
    (λ z. record { later = onward here (passes w t q); stands = u })
    (λ n.
    let l : alone (advanced s t) ≤ p.last = omega (arith, most, k.last_is) in
    let r : release p (alone (advanced s t)) ≤ interval_at p t = omega (arith, most, n, k.delay_is, k.at_is t) in
    record { later = onward (onward here (passes w t q)) (discloses (passed t w) (alone (advanced s t)) l r); stands = told_stands p (told_alone (advanced s t)) (passed t w) (alone (advanced s t)) u l r })

may : (p : Params) (s : State) (w : Worlds p) (text : List ℕ) → Stands p s w → length text ≤ 200 → may_not s ≡ false → MaySay p (record { says = saying_of s text; at = w.now })
may p s w text st h m =
    let k = same st in
    let i : interval s ≤ s.numbers.last = grind (arith, ways) in
    let f : s.index ≤ 63 = grind (arith, ways) in
    record { its_interval = k.at_is s.clock ∙ ap (interval_at p) (sym st.time); lies_in_chain = omega (arith, i, k.last_is); low_index = f; short = h }

uttered_stands : (p : Params) (s : State) (w : Worlds p) (text : List ℕ) → Stands p s w → length text ≤ 200 → may_not s ≡ false → Stands p (after_said s) (uttered p (saying_of s text) w)
uttered_stands p s w text st h m = record {
  lies_in_range = st.lies_in_range;
  numbers_are = st.numbers_are;
  long = st.long;
  time = st.time;
  may_say = λ u o. elim (Memᴰ.cases_cons o) [ inl e ↦ rw e (may p s w text st h m) | inr n ↦ st.may_say u n ];
  before = λ u o. elim (Memᴰ.cases_cons o) [
    | inl e ↦ rw e (inr (refl, omega arith))
    | inr n ↦ ⊎_elim (λ l. inl l) (λ q. inr (q.0, omega (arith, q.1))) (st.before u n)
  ];
  on_air = λ x o. elim (Memᴰ.cases_cons o) [
    | inl e ↦ rw e (tag_said (record { says = saying_of s text; at = w.now }) (Memᴰ.head refl))
    | inr n ↦ air_said p w.now w.said (record { says = saying_of s text; at = w.now }) (st.on_air x n)
  ];
}

at_say : (p : Params) (s : State) (w : Worlds p) (text : List ℕ) (j : ℕ) → Stands p s w → length text ≤ 200 → may_not s ≡ false → j ≤ newest s →
    Moves p s.drawn (after_said s) w (cond (eqb j 0) (uttered p (saying_of s text) w) (told_key p j (uttered p (saying_of s text) w)))
at_say p s w text j st h m most =
    let k = same st in
    let v = uttered p (saying_of s text) w in
    let a = onward here (says w (saying_of s text) (may p s w text st h m)) in
    let u = uttered_stands p s w text st h m in
    cond_both (eqb j 0) v (told_key p j v) (Moves p s.drawn (after_said s) w)
    (λ e. record { later = a; stands = u })
    (λ e.
    let n = eqb-false j 0 e in
    let l : j ≤ p.last = omega (arith, most, k.last_is) in
    let r : release p j ≤ interval_at p w.now = omega (arith, most, n, k.delay_is, k.at_is s.clock, ap (interval_at p) st.time) in
    record { later = onward a (discloses v j l r); stands = told_stands p (after_said s) v j u l r })

pub lawful : Lawful
lawful p s w (tick t) st =
    tick_cases s t (λ u a. Moves p s.drawn u w (after_tick p a t w))
    (λ h. record { later = here; stands = st })
    (λ h d. record { later = onward here (passes w t (omega (arith, st.time))); stands = passed_stands p s w t st h })
    (λ h d. at_tick p s w t st h)
lawful p s w (say text) st =
    say_cases s text (λ u a. Moves p s.drawn u w (after_spoken p a w))
    (record { later = here; stands = st })
    (record { later = here; stands = st })
    (λ h m. at_say p s w text (disclosed s.turn (newest s)) st h m (disclosed_most s.turn (newest s)))

pub stands_first : StandsFirst
stands_first p d e l = record {
  lies_in_range = e;
  numbers_are = refl;
  long = l;
  time = refl;
  may_say = λ u m. absurd (Memᴰ.not-nil m);
  before = λ u m. absurd (Memᴰ.not-nil m);
  on_air = λ x m. rw (Memᴰ.eq_of_singleton m) (key_out 0 (omega arith) (inl refl));
}

pub undisturbed : Undisturbed
undisturbed p s w n e st = record {
  lies_in_range = st.lies_in_range;
  numbers_are = st.numbers_are;
  long = st.long;
  time = st.time;
  may_say = st.may_say;
  before = st.before;
  on_air = st.on_air;
}

pub genuine : Genuine
genuine = record {
  keys = λ s t.
      tick_cases s t (λ u a. TickGenuine s.numbers s.drawn a) (λ h. tt) (λ h d. tt)
      (λ h d. shown_cases s (alone (advanced s t)) (TickGenuine s.numbers s.drawn) (λ z. tt) (λ n. sym ((chain_terms s.numbers s.drawn).key_is (alone (advanced s t)))));
  messages = λ s text.
      say_cases s text (λ u a. SpokenGenuine s.numbers s.drawn a) tt tt
      (λ h m. let c = chain_terms s.numbers s.drawn in (
        ap (λ g. record { says = saying_of s text; tag = g }) (sym (c.tag_is (saying_of s text))),
        ap (cond (eqb (disclosed s.turn (newest s)) 0) _) (sym (c.key_is (disclosed s.turn (newest s)))),
      ));
}

-- by what a call does to the state
pub moves_at : (s u : State) (e : Event) → u ≡ step s e → MovesWorlds s e u
moves_at s u e is = record { moves = λ p w st. rw is (lawful p s w e st) }
