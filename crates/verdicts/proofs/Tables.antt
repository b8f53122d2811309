-- The list of fates, event after event.
use Rattle.std.proofs.Common.{◌≡◌, ℕ, ◌+◌, ◌-◌, ◌*◌, ◌<◌, ◌≤◌, true, false, List, length, get_or, set, take, replicate, Some, None, fold, sym, ap, ◌∙◌, inl, inr, arith}
use lib.ListN.{length-map}
use Rattle.std.proofs.lemmas.Nat.{mul-add-lt, same_from_place}
use Rattle.std.proofs.lemmas.List.{get_or-set_same, get_or-set_other, get_or-replicate, get_or_default, take_all}
use Rattle.std.proofs.lemmas.List.Sums.{fold_more}
use Rattle.std.proofs.lemmas.Bool.{cond-true, cond-false, cases_Bool, both_ways, eqb-true, eq-eqb, and_parts, and_from}
use Rattle.timing.specs.Time.{Params}
use Rattle.model.specs.Receiver.{Message}
use Rattle.buffer.specs.Buffers.{as_message, messages_in}
use Rattle.buffer.specs.declared.message.Buffered.{Buffered}
use Rattle.stage.proofs.Places.{says_at}
use Rattle.stage.specs.Saids.{said_at}
use Rattle.stage.specs.declared.event.Event.{Event}
use Rattle.verdicts.specs.Fates.{no_fate, pair_of, is_pair, changed_by, fate_after, place_of, IsThere, Moved, AreFates}
use Rattle.verdicts.specs.declared.fate.Fate.{Fate}
use Rattle.verdicts.specs.declared.fate.Pair.{Pair}

pub place_below : (ms rs : ℕ) (x : Pair) → IsThere ms rs x → place_of rs x.message x.receiver < ms * rs
place_below ms rs x t = omega (arith, mul-add-lt (x.message - 1) rs (x.receiver - 1) ms (omega arith) (omega arith))

abbrev pair : (k n : ℕ) → Pair
pair k n = record { message = k; receiver = n }

pub is_there_lem : (ms rs k n : ℕ) → 1 ≤ k → k ≤ ms → 1 ≤ n → n ≤ rs → IsThere ms rs (pair k n)
is_there_lem ms rs k n a b c d = record { some_message = a; few_messages = b; some_receiver = c; few_receivers = d }

-- two pairs have two places
pub same_pair : (ms rs : ℕ) (x y : Pair) → IsThere ms rs x → IsThere ms rs y → place_of rs x.message x.receiver ≡ place_of rs y.message y.receiver → (x.message ≡ y.message) × (x.receiver ≡ y.receiver)
same_pair ms rs x y t u e = let s = same_from_place (x.message - 1) (x.receiver - 1) (y.message - 1) (y.receiver - 1) rs (omega arith) (omega arith) e in (omega arith, omega arith)

-- an event that tells of another pair, of this one, or of none
after_none : (p : Params) (said : List Message) (k n : ℕ) (f : Fate) (e : Event) → is_pair k n (pair_of e.deed) ≡ false → f ≡ fate_after p said k n f e
unfolding fate_after
after_none p said k n f e h = sym (cond-false _ _ _ h)

after_its : (p : Params) (said : List Message) (k n : ℕ) (f : Fate) (e : Event) → is_pair k n (pair_of e.deed) ≡ true → changed_by p (said_at said (k - 1)).interval e.time e.deed f ≡ fate_after p said k n f e
unfolding fate_after
after_its p said k n f e h = sym (cond-true _ _ _ h)

pub noted_none : (p : Params) (said : List Message) (k n : ℕ) (f : Fate) (e : Event) → None ≡ pair_of e.deed → f ≡ fate_after p said k n f e
noted_none p said k n f e h = after_none p said k n f e (ap (is_pair k n) (sym h))

-- whether a pair is this one
its : (k n : ℕ) (x : Pair) → is_pair k n (Some x) ≡ true → (x.message ≡ k) × (x.receiver ≡ n)
its k n x h = let q = and_parts _ _ h in (eqb-true _ _ q.0, eqb-true _ _ q.1)

pub noted_nowhere : (p : Params) (said : List Message) (ms rs k n : ℕ) (f : Fate) (e : Event) (x : Pair) → Some x ≡ pair_of e.deed → (IsThere ms rs x → ⊥) → IsThere ms rs (pair k n) → f ≡ fate_after p said k n f e
noted_nowhere p said ms rs k n f e x h w t =
    let no : is_pair k n (Some x) ≡ false = elim (cases_Bool (is_pair k n (Some x))) [
      | inl y ↦ let q = its k n x y in absurd (w (record { some_message = omega arith; few_messages = omega arith; some_receiver = omega arith; few_receivers = omega arith }))
      | inr y ↦ y
    ] in
    after_none p said k n f e (ap (is_pair k n) (sym h) ∙ no)

pub noted_there : (p : Params) (said : List Buffered) (ms rs k n at : ℕ) (fs : List Fate) (e : Event) (x : Pair) (b : Buffered) (f g : Fate) → Some x ≡ pair_of e.deed → IsThere ms rs x → at ≡ place_of rs x.message x.receiver → IsThere ms rs (pair k n) →
    length said ≡ ms → length fs ≡ ms * rs → f ≡ get_or fs at f → g ≡ changed_by p (get_or said (x.message - 1) b).numbers.interval e.time e.deed f →
    get_or (set fs at g) (place_of rs k n) no_fate ≡ fate_after p (messages_in said) k n (get_or fs (place_of rs k n) no_fate) e
noted_there p said ms rs k n at fs e x b f g h u w t m l y c =
    let below : at < length fs = omega (arith, place_below ms rs x u) in
    let old : f ≡ get_or fs at no_fate = y ∙ get_or_default fs at f no_fate below in
    elim (cases_Bool (is_pair k n (Some x))) [
      | inl v ↦
          let q = its k n x v in
          let here : at ≡ place_of rs k n = w ∙ ap (λ z. place_of rs z x.receiver) q.0 ∙ ap (λ z. place_of rs k z) q.1 in
          let interval : (get_or said (x.message - 1) b).numbers.interval ≡ (said_at (messages_in said) (k - 1)).interval =
          sym (ap (λ z. z.interval) (says_at said x.message b u.some_message (omega (arith, u)))) ∙ ap (λ z. (said_at (messages_in said) (z - 1)).interval) q.0 in
          ap (λ z. get_or (set fs at g) z no_fate) (sym here) ∙ get_or-set_same fs at g no_fate below ∙ c
          ∙ ap (λ z. changed_by p z e.time e.deed f) interval ∙ ap (λ z. changed_by p (said_at (messages_in said) (k - 1)).interval e.time e.deed z) (old ∙ ap (λ z. get_or fs z no_fate) here)
          ∙ after_its p (messages_in said) k n (get_or fs (place_of rs k n) no_fate) e (ap (is_pair k n) (sym h) ∙ v)
      | inr v ↦
          get_or-set_other fs at (place_of rs k n) g no_fate
          (λ z. let q = same_pair ms rs (pair k n) x t u (z ∙ w) in both_ways _ v (and_from _ _ (eq-eqb _ _ (sym q.0)) (eq-eqb _ _ (sym q.1))))
          ∙ after_none p (messages_in said) k n (get_or fs (place_of rs k n) no_fate) e (ap (is_pair k n) (sym h) ∙ v)
    ]

-- nothing has become of it yet
pub fresh : (f : Fate) → (f.in_time ≡ false) × ((f.outside ≡ false) × ((f.buffered ≡ false) × ((f.no_room ≡ false) × (f.delivered ≡ false)))) → f ≡ no_fate
fresh f h = let e : ◌≡◌ {A = Fate} (record { in_time = f.in_time; outside = f.outside; buffered = f.buffered; no_room = f.no_room; delivered = f.delivered }) no_fate = cc in e

-- from a list in which nothing has become of any
pub are_fates : (p : Params) (said : List Buffered) (es : List Event) (rs i : ℕ) (first fs : List Fate) → first ≡ replicate (length said * rs) no_fate → length fs ≡ length said * rs → length es ≤ i →
    Moved (λ k n f. fold (fate_after p (messages_in said) k n) f (take i es)) (length said) rs first fs → AreFates p (messages_in said) es rs fs
unfolding messages_in
are_fates p said es rs i first fs r l whole each =
    record {
      many = l ∙ ap (λ z. z * rs) (sym (length-map said as_message));
      each = λ k n a b c d.
          let few : k ≤ length said = omega (arith, length-map said (as_message)) in
          let below = place_below (length said) rs (pair k n) (is_there_lem _ _ k n a few c d) in
          each k n a few c d ∙ ap (fold (fate_after p (messages_in said) k n) _) (take_all i es whole) ∙ ap (λ z. fold (fate_after p (messages_in said) k n) (get_or z (place_of rs k n) no_fate) es) r
          ∙ ap (λ f. fold (fate_after p (messages_in said) k n) f es) (get_or-replicate (length said * rs) (place_of rs k n) no_fate no_fate below);
    }

-- one event more
pub noted_more : (step : Fate → Event → Fate) (first old new : Fate) (es : List Event) (i : ℕ) (d : Event) → i < length es → old ≡ fold step first (take i es) → new ≡ step old (get_or es i d) → new ≡ fold step first (take (i + 1) es)
noted_more step first old new es i d h a b = b ∙ ap (λ f. step f (get_or es i d)) a ∙ sym (fold_more step first es i d h)
