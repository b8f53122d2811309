-- Our receiver keeps the promise.
use Rattle.std.proofs.Common.{◌≡◌, ℕ, ◌+◌, ◌-◌, ◌*◌, ◌<◌, ◌≤◌, true, false, ◌&&◌, ltb, leb, ◌⊎◌, List, [], ◌∷◌, ◌++◌, sym, refl, ap, ◌∙◌, subst, inl, inr, arith}
use mathlib.Core.List.{Memᴰ}
use Rattle.std.proofs.lemmas.Slice.Eq.{bytes_eq-Decides}
use Rattle.std.proofs.lemmas.Bool.{and_from, cases_Bool, cond_both, cond-false, leb-true, lt-leb, lt-ltb, le-leb, le-ltb, both_ways}
use Rattle.timing.specs.Time.{Params, opening, release}
use Rattle.model.specs.Term.{Bytes, Term, Gets, val}
use Rattle.model.specs.Receiver.{Said, Message, Event, ticked, heard, disclosed, buffered, already, taken, State, ours, in_chain, is_in, has_room, judge, is_buffered, hears, walked, judge_key, is_taken, later_than, learns, walk_steps, key_steps, ticks, after, steps}
use Rattle.model.specs.Run.{key_term, key_bytes, message_of, MaySay, World, BringsKey, Within, Brings}
use Rattle.model.specs.Promise.{WasSaid, Discloses, Carries, Meets}
use Rattle.model.proofs.Terms.{chain_down, val_down}
use Rattle.model.proofs.Intervals.{limits, interval_mono, in_time, not_early, not_begun}
use Rattle.model.proofs.Buffers.{is_in_lem, later_from, later_has}
use Rattle.model.proofs.Air.{key_released}
use Rattle.model.proofs.Always.{Outside, always, is_taken_lem, hears_newest}

well_formed : (p : Params) (t : Said) {at : ℕ} → MaySay p (record { says = t; at = at }) → 0 < t.interval → (in_chain p t.interval && leb t.index 63) ≡ true
well_formed p t u z = and_from _ _ (and_from _ _ (lt-ltb 0 t.interval z) (le-leb t.interval p.last u.lies_in_chain)) (le-leb t.index 63 u.low_index)

judge_again : (p : Params) (b : Bytes) (s : State) (t : Said) {at : ℕ} → MaySay p (record { says = t; at = at }) → 0 < t.interval → is_in (message_of p b t) s.buffer ≡ true → judge p s (message_of p b t) ≡ already
judge_again p b s t u z e = rw (well_formed p t u z, e)

-- a message that was said and comes in time is buffered, if there is room
judge_timely : (p : Params) (b : Bytes) (w : World (ours p b.mac)) → 0 < p.ticks → Outside p w.now w.air w.said → (s : State) → Within p w.now s.clock → (t : Said) → WasSaid p w.said t →
    w.now + 2 * p.error < opening p (release p t.interval) → s.newest < t.interval → has_room s.buffer t.interval ≡ true → is_in (message_of p b t) s.buffer ≡ false → judge p s (message_of p b t) ≡ buffered
judge_timely p b w k o s c t m h n r e =
    let u = o.may_say _ m.is_said in
    let i = t.interval in
    let z : 0 < i = omega arith in
    let l = interval_mono p m.at_tick w.now k (o.past _ m.is_said) in
    let f = well_formed p t (o.may_say _ m.is_said) z in
    rw (f, e, in_time p w.now s.clock i k c.not_fast h, lt-leb i s.newest n, not_early p w.now s.clock i k z c.not_slow (omega arith), r)

-- what a message leaves in the buffer a key of an earlier interval leaves there too
learns_keeps : (p : Params) (b : Bytes) (s : State) (j : ℕ) (k : List ℕ) (x : Message) → Memᴰ x s.buffer → (is_taken (judge_key p b.mac j k s) ≡ true → j < x.says.interval) →
    Memᴰ x (learns p b.mac j k s).buffer
learns_keeps p b s j k x m f =
    cond_both (is_taken (judge_key p b.mac j k s)) (record { clock = s.clock; newest = j; key = k; buffer = later_than j s.buffer }) s (λ u. Memᴰ x u.buffer)
    (λ e. later_has j s.buffer x m (f e)) (λ e. m)

-- the same for what is learned of it: what is in the buffer afterwards was there
learns_from : (p : Params) (b : Bytes) (s : State) (j : ℕ) (k : List ℕ) (x : Message) → Memᴰ x (learns p b.mac j k s).buffer → Memᴰ x s.buffer
learns_from p b s j k x =
    cond_both (is_taken (judge_key p b.mac j k s)) (record { clock = s.clock; newest = j; key = k; buffer = later_than j s.buffer }) s (λ u. Memᴰ x u.buffer → Memᴰ x s.buffer)
    (λ e m. (later_from j s.buffer x m).0) (λ e m. m)

hears_from : (p : Params) (s : State) (y x : Message) → Memᴰ x (hears p y s).buffer → Memᴰ x s.buffer ⊎ (y ≡ x)
hears_from p s y x =
    cond_both (is_buffered (judge p s y)) (record { clock = s.clock; newest = s.newest; key = s.key; buffer = s.buffer ++ (y ∷ []) }) s (λ u. Memᴰ x u.buffer → Memᴰ x s.buffer ⊎ (y ≡ x))
    (λ e m. elim (mathlib.Core.List.Memᴰ.append_cases s.buffer m) [ inl n ↦ inl n | inr n ↦ inr (sym (mathlib.Core.List.Memᴰ.eq_of_singleton n)) ]) (λ e m. inl m)

ticks_same : (t : ℕ) (s : State) → ((ticks t s).newest ≡ s.newest) × ((ticks t s).buffer ≡ s.buffer)
ticks_same t s =
    cond_both (ltb t s.clock) s (record { clock = t; newest = s.newest; key = s.key; buffer = s.buffer }) (λ u. (u.newest ≡ s.newest) × (u.buffer ≡ s.buffer))
    (λ e. (refl, refl)) (λ e. (refl, refl))

hears_key : (p : Params) (x : Message) (s : State) → (hears p x s).key ≡ s.key
hears_key p x s =
    cond_both (is_buffered (judge p s x)) (record { clock = s.clock; newest = s.newest; key = s.key; buffer = s.buffer ++ (x ∷ []) }) s (λ u. u.key ≡ s.key) (λ e. refl) (λ e. refl)

-- a genuine key is taken
pub own_fits : (p : Params) (b : Bytes) (s : State) → s.key ≡ key_bytes p b s.newest → (j : ℕ) → s.newest < j → j ≤ p.last → j ≤ s.newest + 1024 → judge_key p b.mac j (key_bytes p b j) s ≡ taken
own_fits p b s a j h l n =
    let q : walked b.mac (j - s.newest) (key_bytes p b j) ≡ s.key =
    sym (val_down b (j - s.newest) (key_term p j)) ∙ ap (val b) (chain_down 0 p.last j s.newest (omega arith) l) ∙ sym a in
    rw (lt-ltb 0 j (omega arith), le-leb j p.last l, lt-leb j s.newest h, le-ltb (s.newest + 1024) j n, (bytes_eq-Decides (walked b.mac (j - s.newest) (key_bytes p b j)) s.key).1 q)

own_taken : (p : Params) (b : Bytes) (s : State) → s.key ≡ key_bytes p b s.newest → (j : ℕ) (k : List ℕ) → k ≡ key_bytes p b j → s.newest < j → j ≤ p.last → j ≤ s.newest + 1024 → (learns p b.mac j k s).newest ≡ j
own_taken p b s a j k q h l n = rw (q, own_fits p b s a j h l n)

-- the newest after a key is the same, or that key's interval, and then the key is genuine
learns_moves : (p : Params) (b : Bytes) (air : List Term) (s : State) (j : ℕ) (k : List ℕ) → s.key ≡ key_bytes p b s.newest → BringsKey p b air s.newest j k →
    ((learns p b.mac j k s).newest ≡ s.newest) ⊎ ((j ≡ (learns p b.mac j k s).newest) × (k ≡ key_bytes p b (learns p b.mac j k s).newest))
learns_moves p b air s j k a t =
    cond_both (is_taken (judge_key p b.mac j k s)) (record { clock = s.clock; newest = j; key = k; buffer = later_than j s.buffer }) s
    (λ u. (u.newest ≡ s.newest) ⊎ ((j ≡ u.newest) × (k ≡ key_bytes p b u.newest)))
    (λ e. inr (refl, t.bytes ∙ ap (val b) (is_taken_lem p b air s j k a t e).genuine)) (λ e. inl refl)

pub steps_few : (p : Params) (j : ℕ) (s : State) → key_steps p j s ≤ 1024
steps_few p j s =
    cond_both (in_chain p j) (walk_steps j s.newest) 0 (λ n. n ≤ 1024)
    (λ e. cond_both (leb j (s.newest + 1024)) (j - s.newest) 0 (λ n. n ≤ 1024) (λ q. omega (arith, leb-true j (s.newest + 1024) q)) (λ q. omega arith))
    (λ e. omega arith)

-- the key that a receiver has after a message
heard_key : (p : Params) (b : Bytes) (x : Message) (s : State) → s.key ≡ key_bytes p b s.newest → (hears p x s).key ≡ key_bytes p b (hears p x s).newest
heard_key p b x s a = hears_key p x s ∙ a ∙ ap (key_bytes p b) (sym (hears_newest p x s))

brings_heard : (p : Params) (b : Bytes) (air : List Term) (x : Message) (s : State) (j : ℕ) (k : List ℕ) → BringsKey p b air s.newest j k → BringsKey p b air (hears p x s).newest j k
brings_heard p b air x s j k t = let P : ℕ → Type 0 = λ m. BringsKey p b air m j k in subst P (sym (hears_newest p x s)) t

-- a key that is taken before the release of interval i is of an earlier interval
taken_early : (p : Params) (b : Bytes) (w : World (ours p b.mac)) → 0 < p.ticks → Outside p w.now w.air w.said → (s : State) (j i : ℕ) (k : List ℕ) → s.key ≡ key_bytes p b s.newest →
    BringsKey p b w.air s.newest j k → w.now < opening p (release p i) → is_taken (judge_key p b.mac j k s) ≡ true → j < i
taken_early p b w z o s j i k a t h e =
    let d = is_taken_lem p b w.air s j k a t e in
    let g : Gets w.air (key_term p j) = rw d.genuine at t.can in
    let l : 0 < j = omega (arith, d.after) in
    omega (arith, key_released p w.now j w.said w.air o.fair l d.low g, not_begun p (release p i) w.now z (omega arith) h)

hears_buffered : (p : Params) (x : Message) (s : State) → judge p s x ≡ buffered → Memᴰ x (hears p x s).buffer
hears_buffered p x s e = rw e (mathlib.Core.List.Memᴰ.append_right s.buffer (mathlib.Core.List.Memᴰ.head refl))

hears_already : (p : Params) (x : Message) (s : State) → judge p s x ≡ already → Memᴰ x s.buffer → Memᴰ x (hears p x s).buffer
hears_already p x s e m = rw e m

keeps_timely : (p : Params) (b : Bytes) (w : World (ours p b.mac)) → 0 < p.ticks → Outside p w.now w.air w.said → (s : State) → s.key ≡ key_bytes p b s.newest → Within p w.now s.clock →
    (t : Said) (j : ℕ) (k : List ℕ) → WasSaid p w.said t → BringsKey p b w.air s.newest j k → w.now + 2 * p.error < opening p (release p t.interval) → s.newest < t.interval → has_room s.buffer t.interval ≡ true →
    Memᴰ (message_of p b t) (learns p b.mac j k (hears p (message_of p b t) s)).buffer × ((judge p s (message_of p b t) ≡ buffered) ⊎ (judge p s (message_of p b t) ≡ already))
keeps_timely p b w z o s a c t j k m g h n r =
    let x = message_of p b t in
    let stays : Memᴰ x (hears p x s).buffer → Memᴰ x (learns p b.mac j k (hears p x s)).buffer =
    λ q. learns_keeps p b (hears p x s) j k x q (taken_early p b w z o (hears p x s) j t.interval k (heard_key p b x s a) (brings_heard p b w.air x s j k g) (omega arith)) in
    elim (cases_Bool (is_in x s.buffer)) [
      | inl e ↦ let f = judge_again p b s t (o.may_say _ m.is_said) (omega (arith, m.its_interval)) e in (stays (hears_already p x s f (is_in_lem x s.buffer e)), inr f)
      | inr e ↦ let f = judge_timely p b w z o s c t m h n r e in (stays (hears_buffered p x s f), inl f)
    ]

takes_key : (p : Params) (b : Bytes) (s : State) → s.key ≡ key_bytes p b s.newest → (e : Event) (j : ℕ) → Discloses e j (key_bytes p b j) → s.newest < j → j ≤ p.last → j ≤ s.newest + 1024 → (after p b.mac e s).newest ≡ j
takes_key p b s a (ticked t) j d h l n = absurd d
takes_key p b s a (heard x i k) j d h l n =
    let q = hears_newest p x s in
    rw d.0 (own_taken p b (hears p x s) (heard_key p b x s a) j k d.1 (omega arith) l (omega arith))
takes_key p b s a (disclosed i k) j d h l n = rw d.0 (own_taken p b s a j k d.1 h l n)

moves_key : (p : Params) (b : Bytes) (w : World (ours p b.mac)) (n : ℕ) (s : State) → (w.sites n).held ≡ s → s.key ≡ key_bytes p b s.newest → (e : Event) → Brings p b w n e →
    ((after p b.mac e s).newest ≡ s.newest) ⊎ Discloses e (after p b.mac e s).newest (key_bytes p b (after p b.mac e s).newest)
moves_key p b w n s z a (ticked t) g = inl (ticks_same t s).0
moves_key p b w n s z a (heard x j k) g =
    let t : BringsKey p b w.air s.newest j k = let P : State → Type 0 = λ u. BringsKey p b w.air u.newest j k in subst P z g.2 in
    elim (learns_moves p b w.air (hears p x s) j k (heard_key p b x s a) (brings_heard p b w.air x s j k t)) [ inl e ↦ inl (e ∙ hears_newest p x s) | inr e ↦ inr e ]
moves_key p b w n s z a (disclosed j k) g =
    let t : BringsKey p b w.air s.newest j k = let P : State → Type 0 = λ u. BringsKey p b w.air u.newest j k in subst P z g in
    learns_moves p b w.air s j k a t

buffer_brought : (p : Params) (b : Bytes) (s : State) (e : Event) (x : Message) → Memᴰ x (after p b.mac e s).buffer → Memᴰ x s.buffer ⊎ Carries e x
buffer_brought p b s (ticked t) x m = inl (rw (ticks_same t s).1 at m)
buffer_brought p b s (heard y j k) x m = hears_from p s y x (learns_from p b (hears p y s) j k x m)
buffer_brought p b s (disclosed j k) x m = inl (learns_from p b s j k x m)

few_steps : (p : Params) (s : State) (e : Event) → steps p e s ≤ 1024
few_steps p s (ticked t) = omega arith
few_steps p s (heard x j k) = steps_few p j s
few_steps p s (disclosed j k) = steps_few p j s

not_taken : (p : Params) (b : Bytes) (air : List Term) (s : State) (j : ℕ) (k : List ℕ) → s.key ≡ key_bytes p b s.newest → BringsKey p b air s.newest j k → (k ≡ key_bytes p b j → ⊥) → is_taken (judge_key p b.mac j k s) ≡ false
not_taken p b air s j k a t f =
    elim (cases_Bool (is_taken (judge_key p b.mac j k s))) [ inl e ↦ absurd (f (t.bytes ∙ ap (val b) (is_taken_lem p b air s j k a t e).genuine)) | inr e ↦ e ]

pub promise : Meets ours
promise p b r w l n =
    let z = (limits p r).some_ticks in
    let a = always p b z l in
    let i = a.ins n in
    let s = (w.sites n).held in
    record {
      was_said = i.got_said;
      once = i.once;
      rising = i.rising;
      buffers = λ t j k m g h q v. keeps_timely p b w z a.out s i.key_is (let P : ℕ → Type 0 = λ c. Within p w.now c in subst P (sym i.clock_is) g.0) t j k m g.2 h q v;
      delivers = λ x m g h. elim (i.waits x m g) [ inl o ↦ o | inr o ↦ absurd (omega (arith, i.buffer_new x o)) ];
      takes = takes_key p b s i.key_is;
      moves = moves_key p b w n s refl i.key_is;
      leaves = λ j k g f.
          let e = not_taken p b w.air s j k i.key_is g f in
          (cond-false _ _ _ e, cond-false _ _ _ e, λ q. both_ways (is_taken (judge_key p b.mac j k s)) e (ap is_taken q));
      buffers_brought = buffer_brought p b s;
      buffers_once = i.buffer_once;
      buffers_new = i.buffer_new;
      few_steps = few_steps p s;
    }
