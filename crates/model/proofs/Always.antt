-- What holds of every world that there can be.
use Rattle.std.proofs.Common.{◌≡◌, ℕ, ◌+◌, ◌-◌, ◌<◌, ◌≤◌, Bool, true, false, cond, not, ◌&&◌, eqb, ltb, leb, ◌⊎◌, List, [], ◌∷◌, ◌++◌, sym, refl, ap, ◌∙◌, subst, inl, inr, append-nil, arith}
use mathlib.Core.List.Memᴰ
use mathlib.Core.List.{Memᴰ}
use Rattle.std.specs.Str.{bytes_eq}
use Rattle.std.proofs.lemmas.Slice.Eq.{bytes_eq-Decides}
use Rattle.std.proofs.lemmas.Bool.{and_parts, cond_both, cases_lt, false≢true, leb-false, leb-true, ltb-true, ltb-false, both_ways}
use Rattle.timing.specs.Time.{Params, interval_at, release, may_be_out, too_early}
use Rattle.timing.specs.declared.refusal.Refusal.TheVariants.{OutOfRange, TooLate, KeyHad, TooEarly, NoRoom, KeyNotAfter, KeyTooFar, KeyMisfit}
use Rattle.model.specs.Term.{Term, Bytes, val, down, FairAir}
use Rattle.model.specs.Receiver.{Said, Message, Event, ticked, heard, disclosed, buffered, already, taken, refused, State, ours, in_chain, is_in, has_room, judge, is_buffered, hears, walked, judge_key, is_taken, right_up_to, later_than, learns, delivers, ticks}
use Rattle.model.specs.Run.{key_term, key_bytes, tag_of, Genuine, Utterance, MaySay, Site, World, start, site_after, BringsKey, BringsTag, Brings, Step, passes, says, discloses, brings, Later, here, onward}
use Rattle.model.specs.Promise.{Once, Rising, WasSaid}
use Rattle.model.proofs.Terms.{chain_down, down_inj, val_down}
use Rattle.model.proofs.Intervals.{not_opened}
use Rattle.model.proofs.Buffers.{once_append, once_add, rising_append, is_in_lem, in_is, later_from, later_has, once_later}
use Rattle.model.proofs.Delivery.{delivery_from, delivery_has, delivery_once, delivery_rising}
use Rattle.model.proofs.Air.{outs, fair_later, fair_said, fair_told, fair_start, tag_was_said}

-- the air, and what was said
pub record Outside (p : Params) (now : ℕ) (air : List Term) (us : List Utterance) : Type 0 where
  pub fair : FairAir (outs p now us) air
  pub may_say : (u : Utterance) → Memᴰ u us → MaySay p u
  pub past : (u : Utterance) → Memᴰ u us → u.at ≤ now

-- a receiver, with what was said, what it delivered and what it ever buffered
pub record Inside (p : Params) (b : Bytes) (us : List Utterance) (clock : ℕ) (s : State) (got : List Said) (kept : List Message) : Type 0 where
  pub clock_is : s.clock ≡ clock
  pub key_is : s.key ≡ key_bytes p b s.newest
  pub lies_in_chain : s.newest ≤ p.last
  pub buffer_said : (x : Message) → Memᴰ x s.buffer → Genuine p b x → WasSaid p us x.says
  pub buffer_new : (x : Message) → Memᴰ x s.buffer → s.newest < x.says.interval
  pub buffer_once : Once s.buffer
  pub got_said : (t : Said) → Memᴰ t got → WasSaid p us t
  pub got_old : (t : Said) → Memᴰ t got → t.interval ≤ s.newest
  pub once : Once got
  pub rising : Rising got
  pub waits : (x : Message) → Memᴰ x kept → Genuine p b x → Memᴰ x.says got ⊎ Memᴰ x s.buffer

abbrev pub Sound : (p : Params) (b : Bytes) → List Utterance → Site (ours p b.mac) → Type 0
Sound p b us a = Inside p b us a.clock a.held a.got a.kept

pub record Always (p : Params) (b : Bytes) (w : World (ours p b.mac)) : Type 0 where
  pub out : Outside p w.now w.air w.said
  pub ins : (n : ℕ) → Sound p b w.said (w.sites n)

at_start : (p : Params) (b : Bytes) → Always p b (start p b (ours p b.mac))
at_start p b = record {
  out = record { fair = fair_start p; may_say = λ u m. absurd (Memᴰ.not-nil m); past = λ u m. absurd (Memᴰ.not-nil m) };
  ins = λ n. record {
    clock_is = refl;
    key_is = refl;
    lies_in_chain = omega arith;
    buffer_said = λ x m e. absurd (Memᴰ.not-nil m);
    buffer_new = λ x m. absurd (Memᴰ.not-nil m);
    buffer_once = tt;
    got_said = λ t m. absurd (Memᴰ.not-nil m);
    got_old = λ t m. absurd (Memᴰ.not-nil m);
    once = tt;
    rising = tt;
    waits = λ x m e. absurd (Memᴰ.not-nil m);
  };
}

said_more : {p : Params} {us : List Utterance} (u : Utterance) {s : Said} → WasSaid p us s → WasSaid p (u ∷ us) s
said_more u r = record { at_tick = r.at_tick; is_said = Memᴰ.tail r.is_said; its_interval = r.its_interval }

inside_said : {p : Params} {b : Bytes} {us : List Utterance} {c : ℕ} {s : State} {got : List Said} {kept : List Message} (u : Utterance) → Inside p b us c s got kept → Inside p b (u ∷ us) c s got kept
inside_said u n = record {
  clock_is = n.clock_is;
  key_is = n.key_is;
  lies_in_chain = n.lies_in_chain;
  buffer_said = λ x m e. said_more u (n.buffer_said x m e);
  buffer_new = n.buffer_new;
  buffer_once = n.buffer_once;
  got_said = λ t m. said_more u (n.got_said t m);
  got_old = n.got_old;
  once = n.once;
  rising = n.rising;
  waits = n.waits;
}

-- a clock that is told a tick
inside_ticked : (p : Params) (b : Bytes) (us : List Utterance) (c : ℕ) (s : State) (got : List Said) (kept : List Message) (t : ℕ) → Inside p b us c s got kept →
    (v : Bool) → Inside p b us (cond v c t) (cond v s (record { clock = t; newest = s.newest; key = s.key; buffer = s.buffer })) got kept
inside_ticked p b us c s got kept t n true = n
inside_ticked p b us c s got kept t n false = record {
  clock_is = refl;
  key_is = n.key_is;
  lies_in_chain = n.lies_in_chain;
  buffer_said = n.buffer_said;
  buffer_new = n.buffer_new;
  buffer_once = n.buffer_once;
  got_said = n.got_said;
  got_old = n.got_old;
  once = n.once;
  rising = n.rising;
  waits = n.waits;
}

-- what a message that is buffered passed
pub record Passed (p : Params) (s : State) (x : Message) : Type 0 where
  pub well : (in_chain p x.says.interval && leb x.says.index 63) ≡ true
  pub new : is_in x s.buffer ≡ false
  pub in_time : may_be_out p s.clock x.says.interval ≡ false
  pub not_had : leb x.says.interval s.newest ≡ false

passed_by : (a b c d e f : Bool) →
    is_buffered (cond (not a) (refused OutOfRange) (cond b already (cond c (refused TooLate) (cond d (refused KeyHad) (cond e (refused TooEarly) (cond (not f) (refused NoRoom) buffered)))))) ≡ true →
    (a ≡ true) × (b ≡ false) × (c ≡ false) × (d ≡ false)
passed_by false b c d e f h = absurd (false≢true h)
passed_by true true c d e f h = absurd (false≢true h)
passed_by true false true d e f h = absurd (false≢true h)
passed_by true false false true e f h = absurd (false≢true h)
passed_by true false false false e f h = (refl, refl, refl, refl)

passed : (p : Params) (s : State) (x : Message) → is_buffered (judge p s x) ≡ true → Passed p s x
passed p s x h =
    let q = passed_by (in_chain p x.says.interval && leb x.says.index 63) (is_in x s.buffer) (may_be_out p s.clock x.says.interval) (leb x.says.interval s.newest) (too_early p s.clock x.says.interval) (has_room s.buffer x.says.interval) h in
    record { well = q.0; new = q.1; in_time = q.2; not_had = q.3 }

pub chain_low : (p : Params) (i : ℕ) → in_chain p i ≡ true → (0 < i) × (i ≤ p.last)
chain_low p i e = let q = and_parts (ltb 0 i) _ e in (ltb-true 0 i q.0, leb-true i p.last q.1)

-- a genuine message that passed the safety test was said
safe_said : (p : Params) (b : Bytes) (now : ℕ) (air : List Term) (us : List Utterance) (c : ℕ) (s : State) (x : Message) → 0 < p.ticks → Outside p now air us → s.clock ≡ c → now ≤ c + p.error →
    Passed p s x → BringsTag p b air x → Genuine p b x → WasSaid p us x.says
safe_said p b now air us c s x k o e h a t g =
    let i = x.says.interval in
    let l = chain_low p i (and_parts (in_chain p i) _ a.well).0 in
    let z : t.term ≡ tag_of p x.says = t.apart (sym t.bytes ∙ g) in
    let q = leb-false (release p i) (interval_at p (s.clock + p.error)) a.in_time in
    tag_was_said p now (s.clock + p.error) us air k o.fair o.may_say (omega arith) x.says l.0 l.1 (not_opened p (release p i) (s.clock + p.error) k q) (rw z at t.can)

inside_heard : (p : Params) (b : Bytes) (now : ℕ) (air : List Term) (us : List Utterance) (c : ℕ) (s : State) (got : List Said) (kept : List Message) (x : Message) → 0 < p.ticks → Outside p now air us → now ≤ c + p.error →
    BringsTag p b air x → Inside p b us c s got kept →
    (v : Bool) → is_buffered (judge p s x) ≡ v → Inside p b us c (cond v (record { clock = s.clock; newest = s.newest; key = s.key; buffer = s.buffer ++ (x ∷ []) }) s) got kept
inside_heard p b now air us c s got kept x k o h t n false e = n
inside_heard p b now air us c s got kept x k o h t n true e =
    let a = passed p s x e in
    let one : (y : Message) → Memᴰ y (s.buffer ++ (x ∷ [])) → Memᴰ y s.buffer ⊎ (y ≡ x) =
    λ y m. elim (Memᴰ.append_cases s.buffer m) [ inl q ↦ inl q | inr q ↦ inr (Memᴰ.eq_of_singleton q) ] in
    record {
      clock_is = n.clock_is;
      key_is = n.key_is;
      lies_in_chain = n.lies_in_chain;
      buffer_said = λ y m g. elim (one y m) [ inl q ↦ n.buffer_said y q g | inr z ↦ rw z (safe_said p b now air us c s x k o n.clock_is h a t (rw z at g)) ];
      buffer_new = λ y m. elim (one y m) [ inl q ↦ n.buffer_new y q | inr z ↦ rw z (leb-false _ _ a.not_had) ];
      buffer_once = once_add s.buffer x n.buffer_once (λ m. both_ways (is_in x s.buffer) a.new (in_is x s.buffer m));
      got_said = n.got_said;
      got_old = n.got_old;
      once = n.once;
      rising = n.rising;
      waits = λ y m g. elim (n.waits y m g) [ inl q ↦ inl q | inr q ↦ inr (Memᴰ.append_left (x ∷ []) q) ];
    }

-- what a key that is taken passed
pub record Taken (p : Params) (s : State) (j : ℕ) (t : Term) : Type 0 where
  pub after : s.newest < j
  pub low : j ≤ p.last
  pub near : j ≤ s.newest + 1024
  pub genuine : t ≡ key_term p j

taken_by : (a b c d : Bool) → is_taken (cond (not a) (refused OutOfRange) (cond b (refused KeyNotAfter) (cond c (refused KeyTooFar) (cond (not d) (refused KeyMisfit) taken)))) ≡ true →
    (a ≡ true) × (b ≡ false) × (c ≡ false) × (d ≡ true)
taken_by false b c d h = absurd (false≢true h)
taken_by true true c d h = absurd (false≢true h)
taken_by true false true d h = absurd (false≢true h)
taken_by true false false false h = absurd (false≢true h)
taken_by true false false true h = (refl, refl, refl, refl)

-- a key that is taken is the chain's
pub is_taken_lem : (p : Params) (b : Bytes) (air : List Term) (s : State) (j : ℕ) (k : List ℕ) → s.key ≡ key_bytes p b s.newest → (t : BringsKey p b air s.newest j k) → is_taken (judge_key p b.mac j k s) ≡ true → Taken p s j t.term
is_taken_lem p b air s j k e t h =
    let q = taken_by (in_chain p j) (leb j s.newest) (ltb (s.newest + 1024) j) (bytes_eq (walked b.mac (j - s.newest) k) s.key) h in
    let g = leb-false j s.newest q.1 in
    let l = (chain_low p j q.0).1 in
    let f : walked b.mac (j - s.newest) k ≡ s.key = (bytes_eq-Decides (walked b.mac (j - s.newest) k) s.key).0 q.3 in
    let u = t.term in
    let same : val b (down (j - s.newest) u) ≡ key_bytes p b s.newest = val_down b (j - s.newest) u ∙ ap (walked b.mac (j - s.newest)) (sym t.bytes) ∙ f ∙ e in
    let z : down (j - s.newest) u ≡ down (j - s.newest) (key_term p j) = t.apart g same ∙ sym (chain_down 0 p.last j s.newest (omega arith) l) in
    record { after = g; low = l; near = ltb-false (s.newest + 1024) j q.2; genuine = down_inj (j - s.newest) u (key_term p j) z }

inside_learned : (p : Params) (b : Bytes) (air : List Term) (us : List Utterance) (c : ℕ) (s : State) (got : List Said) (kept : List Message) (j : ℕ) (k : List ℕ) → BringsKey p b air s.newest j k → Inside p b us c s got kept →
    (v : Bool) → is_taken (judge_key p b.mac j k s) ≡ v →
    Inside p b us c (cond v (record { clock = s.clock; newest = j; key = k; buffer = later_than j s.buffer }) s) (got ++ cond v (right_up_to b.mac k (j - s.newest) j s.buffer) []) kept
inside_learned p b air us c s got kept j k t a false h = rw append-nil a
inside_learned p b air us c s got kept j k t a true h =
    let d = is_taken_lem p b air s j k a.key_is t h in
    let q : k ≡ key_bytes p b j = t.bytes ∙ ap (val b) d.genuine in
    let n = j - s.newest in
    let f : n ≤ j = omega arith in
    let new = right_up_to b.mac k n j s.buffer in
    let from : (y : Said) → Memᴰ y new → s.newest < y.interval = λ y m. omega (arith, (delivery_from p b k n j s.buffer y q f d.low m).2, d.after) in
    let old : (x : Message) → Memᴰ x (later_than j s.buffer) → Memᴰ x s.buffer = λ x m. (later_from j s.buffer x m).0 in
    record {
      clock_is = a.clock_is;
      key_is = q;
      lies_in_chain = d.low;
      buffer_said = λ x m h. a.buffer_said x (old x m) h;
      buffer_new = λ x m. (later_from j s.buffer x m).1;
      buffer_once = once_later j s.buffer a.buffer_once;
      got_said = λ y m. elim (Memᴰ.append_cases got m) [
        | inl o ↦ a.got_said y o
        | inr o ↦ let u = (delivery_from p b k n j s.buffer y q f d.low o).0 in rw u.of (a.buffer_said u.held u.is_held u.is_genuine)
      ];
      got_old = λ y m. elim (Memᴰ.append_cases got m) [ inl o ↦ omega (arith, a.got_old y o, d.after) | inr o ↦ (delivery_from p b k n j s.buffer y q f d.low o).1 ];
      once = once_append got new a.once (delivery_once p b k n j s.buffer q f d.low a.buffer_once) (λ y m o. omega (arith, a.got_old y m, from y o));
      rising = rising_append got new a.rising (delivery_rising p b k n j s.buffer q f d.low) (λ y u m o. omega (arith, a.got_old y m, from u o));
      waits = λ x m h. elim (a.waits x m h) [
        | inl o ↦ inl (Memᴰ.append_left new o)
        | inr o ↦ elim (cases_lt j x.says.interval) [
          | inl z ↦ inr (later_has j s.buffer x o z)
          | inr z ↦ inl (Memᴰ.append_right got (delivery_has p b k n j s.buffer x q f d.low o h z (omega (arith, a.buffer_new x o, d.after))))
        ]
      ];
    }

-- what is buffered is counted among what ever was
inside_kept : (p : Params) (b : Bytes) (us : List Utterance) (c : ℕ) (s : State) (got : List Said) (kept : List Message) (x : Message) → Inside p b us c s got kept → Inside p b us c s got (cond (is_in x s.buffer) (x ∷ kept) kept)
inside_kept p b us c s got kept x n =
    cond_both (is_in x s.buffer) (x ∷ kept) kept (Inside p b us c s got)
    (λ e. record {
      clock_is = n.clock_is;
      key_is = n.key_is;
      lies_in_chain = n.lies_in_chain;
      buffer_said = n.buffer_said;
      buffer_new = n.buffer_new;
      buffer_once = n.buffer_once;
      got_said = n.got_said;
      got_old = n.got_old;
      once = n.once;
      rising = n.rising;
      waits = λ y m g. elim (Memᴰ.cases_cons m) [ inl z ↦ inr (rw z (is_in_lem x s.buffer e)) | inr o ↦ n.waits y o g ];
    })
    (λ e. n)

pub hears_newest : (p : Params) (x : Message) (s : State) → (hears p x s).newest ≡ s.newest
hears_newest p x s =
    cond_both (is_buffered (judge p s x)) (record { clock = s.clock; newest = s.newest; key = s.key; buffer = s.buffer ++ (x ∷ []) }) s (λ u. u.newest ≡ s.newest) (λ e. refl) (λ e. refl)

-- one receiver at an event
sound_after : (p : Params) (b : Bytes) → 0 < p.ticks → (w : World (ours p b.mac)) → Outside p w.now w.air w.said → (n : ℕ) (e : Event) → Brings p b w n e → Sound p b w.said (w.sites n) →
    Sound p b w.said (site_after (ours p b.mac) e (w.sites n))
sound_after p b k w o n (ticked t) g a =
    let s = w.sites n in
    let P : ℕ → Type 0 = λ c. Inside p b w.said (cond (ltb t c) s.clock t) (ticks t s.held) s.got s.kept in
    rw append-nil (subst P a.clock_is (inside_ticked p b w.said s.clock s.held s.got s.kept t a (ltb t s.held.clock)))
sound_after p b k w o n (heard x j h) g a =
    let s = w.sites n in
    let s' = hears p x s.held in
    let t : BringsKey p b w.air s'.newest j h = let P : ℕ → Type 0 = λ m. BringsKey p b w.air m j h in subst P (sym (hears_newest p x s.held)) g.2 in
    let a' = inside_heard p b w.now w.air w.said s.clock s.held s.got s.kept x k o g.0.not_slow g.1 a (is_buffered (judge p s.held x)) refl in
    inside_kept p b w.said s.clock (learns p b.mac j h s') (s.got ++ delivers p b.mac j h s') s.kept x
    (inside_learned p b w.air w.said s.clock s' s.got s.kept j h t a' (is_taken (judge_key p b.mac j h s')) refl)
sound_after p b k w o n (disclosed j h) g a =
    let s = w.sites n in
    inside_learned p b w.air w.said s.clock s.held s.got s.kept j h g a (is_taken (judge_key p b.mac j h s.held)) refl

-- every step keeps it
after_step : (p : Params) (b : Bytes) → 0 < p.ticks → {w v : World (ours p b.mac)} → Always p b w → Step p b (ours p b.mac) w v → Always p b v
after_step p b k a (passes w t h) = record {
  out = record { fair = fair_later p w.now t w.said w.air k h a.out.fair; may_say = a.out.may_say; past = λ u m. omega (arith, a.out.past u m) };
  ins = a.ins;
}
after_step p b k a (says w s h) =
    let u : Utterance = record { says = s; at = w.now } in
    record {
      out = record {
        fair = fair_said p w.now w.said u w.air a.out.fair;
        may_say = λ v m. elim (Memᴰ.cases_cons m) [ inl e ↦ rw e h | inr n ↦ a.out.may_say v n ];
        past = λ v m. elim (Memᴰ.cases_cons m) [ inl e ↦ rw e (omega arith) | inr n ↦ a.out.past v n ];
      };
      ins = λ n. inside_said u (a.ins n);
    }
after_step p b k a (discloses w i l h) = record {
  out = record { fair = fair_told p w.now i w.said w.air l h a.out.fair; may_say = a.out.may_say; past = a.out.past };
  ins = a.ins;
}
after_step p b k a (brings w n e g) = record {
  out = a.out;
  ins = λ m. cond_both (eqb m n) (site_after (ours p b.mac) e (w.sites n)) (w.sites m) (Sound p b w.said) (λ q. sound_after p b k w a.out n e g (a.ins n)) (λ q. a.ins m);
}

lasts : (p : Params) (b : Bytes) → 0 < p.ticks → {u w : World (ours p b.mac)} → Always p b u → Later p b (ours p b.mac) u w → Always p b w
lasts p b k a here = a
lasts p b k a (onward l s) = after_step p b k (lasts p b k a l) s

pub always : (p : Params) (b : Bytes) → 0 < p.ticks → {w : World (ours p b.mac)} → Later p b (ours p b.mac) (start p b (ours p b.mac)) w → Always p b w
always p b k l = lasts p b k (at_start p b) l
