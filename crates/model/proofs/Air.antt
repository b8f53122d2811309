-- The air: what the sender has sent by a tick, and what of it shows who said what.
use Rattle.std.proofs.Common.{◌≡◌, ℕ, ◌/◌, ◌%◌, ◌<◌, ◌≤◌, Bool, true, ◌||◌, eqb, leb, List, [], ◌∷◌, refl, ap, ◌∙◌, inl, inr, arith}
use mathlib.Core.List.Memᴰ
use mathlib.Core.List.{Memᴰ}
use Rattle.std.proofs.lemmas.Bool.{leb-true, le-leb, eqb-true, eq-eqb, or_cases, or_left, or_right}
use Rattle.timing.specs.Time.{Params, interval_at, opening, release}
use Rattle.model.specs.Term.{Term, Gets, Outs, Fair, key_out, tag_sent, open_text, FairAir}
use Rattle.model.specs.Receiver.{Said, message_bytes}
use Rattle.model.specs.Run.{key_term, tag_of, Utterance, MaySay}
use Rattle.model.specs.Promise.{WasSaid}
use Rattle.model.proofs.Terms.{key_late, in_time}
use Rattle.model.proofs.Intervals.{interval_mono, begun}

-- key 0 is out; any other from its release on
pub is_out : Params → (now i : ℕ) → Bool
is_out p t i = eqb i 0 || leb (release p i) (interval_at p t)

pub tags : Params → List Utterance → List Term
tags p [] = []
tags p (u ∷ us) = tag_of p u.says ∷ tags p us

out_released : (p : Params) (t i : ℕ) → 0 < i → is_out p t i ≡ true → release p i ≤ interval_at p t
unfolding is_out
out_released p t i h q = elim (or_cases (eqb i 0) (leb (release p i) (interval_at p t)) q) [ inl e ↦ absurd (omega (arith, eqb-true i 0 e)) | inr e ↦ leb-true _ _ e ]

released_out : (p : Params) (t i : ℕ) → release p i ≤ interval_at p t → is_out p t i ≡ true
unfolding is_out
released_out p t i h = or_right (eqb i 0) _ (le-leb (release p i) (interval_at p t) h)

pub out_earlier : (p : Params) (t i j : ℕ) → j ≤ i → is_out p t i ≡ true → is_out p t j ≡ true
unfolding is_out
out_earlier p t i j h q =
    elim (or_cases (eqb i 0) (leb (release p i) (interval_at p t)) q) [
      | inl e ↦ or_left (eqb j 0) _ (eq-eqb j 0 (omega (arith, eqb-true i 0 e)))
      | inr e ↦ or_right (eqb j 0) _ (le-leb (release p j) (interval_at p t) (omega (arith, leb-true (release p i) (interval_at p t) e)))
    ]

-- what may be out at a tick, once this was said
abbrev pub outs : Params → (now : ℕ) → List Utterance → Outs
outs p t us = record { last = λ c. p.last; is_out = λ c i. is_out p t i; sent = tags p us; earlier = λ c i j h q. out_earlier p t i j h q }

fair_more : (p : Params) (t v : ℕ) (us vs : List Utterance) → ((i : ℕ) → is_out p t i ≡ true → is_out p v i ≡ true) → ((x : Term) → Memᴰ x (tags p us) → Memᴰ x (tags p vs)) →
    {x : Term} → Fair (outs p t us) x → Fair (outs p v vs) x
fair_more p t v us vs f g (key_out c i h q) = key_out c i h (f i q)
fair_more p t v us vs f g (tag_sent x s) = tag_sent x (g _ s)
fair_more p t v us vs f g (open_text s) = open_text s

-- what was fair is so later
pub fair_later : (p : Params) (t v : ℕ) (us : List Utterance) (air : List Term) → 0 < p.ticks → t ≤ v → FairAir (outs p t us) air → FairAir (outs p v us) air
unfolding is_out
fair_later p t v us air s h f x m =
    fair_more p t v us us
    (λ i q. elim (or_cases (eqb i 0) (leb (release p i) (interval_at p t)) q) [
      | inl e ↦ or_left (eqb i 0) _ e
      | inr e ↦ or_right (eqb i 0) _ (le-leb (release p i) (interval_at p v) (omega (arith, leb-true (release p i) (interval_at p t) e, interval_mono p t v s h)))
    ])
    (λ y n. n) (f x m)

-- a tag that is sent with what it is of
pub fair_said : (p : Params) (t : ℕ) (us : List Utterance) (u : Utterance) (air : List Term) → FairAir (outs p t us) air → FairAir (outs p t (u ∷ us)) (tag_of p u.says ∷ air)
unfolding tags
fair_said p t us u air f x m =
    elim (Memᴰ.cases_cons m) [
      | inl e ↦ rw e (tag_sent _ (Memᴰ.head refl))
      | inr n ↦ fair_more p t t us (u ∷ us) (λ i q. q) (λ y o. Memᴰ.tail o) (f x n)
    ]

-- a key that is disclosed from its release on
pub fair_told : (p : Params) (t i : ℕ) (us : List Utterance) (air : List Term) → i ≤ p.last → release p i ≤ interval_at p t → FairAir (outs p t us) air → FairAir (outs p t us) (key_term p i ∷ air)
fair_told p t i us air l h f x m = elim (Memᴰ.cases_cons m) [ inl e ↦ rw e (key_out 0 i l (released_out p t i h)) | inr n ↦ f x n ]

-- key 0
pub fair_start : (p : Params) → FairAir (outs p 0 []) (key_term p 0 ∷ [])
unfolding is_out
fair_start p x m = rw (Memᴰ.eq_of_singleton m) (key_out 0 0 (omega arith) (or_left (eqb 0 0) (leb (release p 0) (interval_at p 0)) refl))

-- a key that can be worked out has been released
pub key_released : (p : Params) (t i : ℕ) (us : List Utterance) (air : List Term) → FairAir (outs p t us) air → 0 < i → i ≤ p.last → Gets air (key_term p i) → release p i ≤ interval_at p t
key_released p t i us air f h l g = out_released p t i h (key_late (outs p t us) air f 0 i l g)

-- messages that have the same bytes are the same
said_same : (s t : Said) → message_bytes s ≡ message_bytes t → s ≡ t
said_same s t e =
    let a : s.interval / 256 ≡ t.interval / 256 = cc in
    let b : s.interval % 256 ≡ t.interval % 256 = cc in
    let p : s.interval ≡ t.interval = omega arith in
    let q : s.index ≡ t.index = cc in
    let o : s.text ≡ t.text = cc in
    λ i. record { interval = p i; index = q i; text = o i }

tag_said : (p : Params) (us : List Utterance) → ((u : Utterance) → Memᴰ u us → MaySay p u) → (s : Said) → Memᴰ (tag_of p s) (tags p us) → WasSaid p us s
unfolding tags
tag_said p [] ok s m = absurd (Memᴰ.not-nil m)
tag_said p (u ∷ us) ok s m =
    elim (Memᴰ.cases_cons m) [
      | inl e ↦
          let q : message_bytes s ≡ message_bytes u.says = cc in
          let z = said_same s u.says q in
          record { at_tick = u.at; is_said = Memᴰ.head (λ i. record { says = z i; at = u.at }); its_interval = ap (λ (v : Said). v.interval) z ∙ (ok u (Memᴰ.head refl)).its_interval }
      | inr n ↦
          let r = tag_said p us (λ v o. ok v (Memᴰ.tail o)) s n in
          record { at_tick = r.at_tick; is_said = Memᴰ.tail r.is_said; its_interval = r.its_interval }
    ]

-- a tag that can be worked out while its key can't have been released was sent
pub tag_was_said : (p : Params) (t latest : ℕ) (us : List Utterance) (air : List Term) → 0 < p.ticks → FairAir (outs p t us) air → ((u : Utterance) → Memᴰ u us → MaySay p u) → t ≤ latest →
    (s : Said) → 0 < s.interval → s.interval ≤ p.last → latest < opening p (release p s.interval) → Gets air (tag_of p s) → WasSaid p us s
tag_was_said p t latest us air k f ok h s z l q g =
    tag_said p us ok s
    (in_time (outs p t us) air f 0 t latest (λ i. opening p (release p i)) (λ i y o. begun p (release p i) t k (omega arith) (out_released p t i y o)) h s.interval _ z l q g)
